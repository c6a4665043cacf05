-- by hand: three tests, no program.
use mathlib.Core.Path.{sym, ◌∙◌}
use Rattle.grammar.specs.Read.{refusal}
use Rattle.tokens.specs.Checks.{settings_alone}
use Rattle.answers.specs.Entry.{call_of}
use Rattle.sml_parse.proofs.Answers.{bad_settings_lem, bad_records_lem, bad_env_lem, was_good, was_tested}
use Rattle.sml_parse.proofs.read_short.Goals as goal

pub returns-then-not-settings_fit : goal.returns-then-not-settings_fit
unfolding refusal
returns-then-not-settings_fit c =
    let a = c.args in
    let k = call_of a.lent.text.now a.lent.toks.now a.lent.env.now a.depth a.mode a.scratch.now a.nodes.now a.finds.now a.last.now in
    c.refuse_all.ensures ∙ sym (bad_settings_lem k (sym (settings_alone k) ∙ sym c.settings_fit.ensures ∙ c.if-not-settings_fit.true))

pub returns-then-not-records_fit : goal.returns-then-not-records_fit
unfolding refusal
returns-then-not-records_fit c =
    let a = c.args in
    let k = call_of a.lent.text.now a.lent.toks.now a.lent.env.now a.depth a.mode a.scratch.now a.nodes.now a.finds.now a.last.now in
    let s = sym (settings_alone k) ∙ sym c.settings_fit.ensures ∙ c.if-not-settings_fit.false in
    c.refuse_all-then-not-records_fit.ensures ∙ sym (bad_records_lem k s (sym c.records_fit.ensures ∙ c.if-not-records_fit.true))

pub returns-in_default : goal.returns-in_default
unfolding refusal
returns-in_default c =
    let a = c.args in
    let k = call_of a.lent.text.now a.lent.toks.now a.lent.env.now a.depth a.mode a.scratch.now a.nodes.now a.finds.now a.last.now in
    let s = sym (settings_alone k) ∙ sym c.settings_fit.ensures ∙ c.if-not-settings_fit.false in
    let r = sym c.records_fit.ensures ∙ c.if-not-records_fit.false in
    c.refuse_all-in_default.ensures ∙ sym (bad_env_lem k s r c.in_default.ensures)

pub read_with-requires : goal.read_with-requires
read_with-requires c =
    let a = c.args in
    let k = call_of a.lent.text.now a.lent.toks.now a.lent.env.now a.depth a.mode a.scratch.now a.nodes.now a.finds.now a.last.now in
    let s = sym (settings_alone k) ∙ sym c.settings_fit.ensures ∙ c.if-not-settings_fit.false in
    let r = sym c.records_fit.ensures ∙ c.if-not-records_fit.false in
    (was_tested k s r _ c.in-Some.ensures, c.requires)

pub returns : goal.returns
returns c =
    let a = c.args in
    let k = call_of a.lent.text.now a.lent.toks.now a.lent.env.now a.depth a.mode a.scratch.now a.nodes.now a.finds.now a.last.now in
    let s = sym (settings_alone k) ∙ sym c.settings_fit.ensures ∙ c.if-not-settings_fit.false in
    let r = sym c.records_fit.ensures ∙ c.if-not-records_fit.false in
    c.read_with.ensures ∙ sym (was_good k s r _ c.in-Some.ensures)
