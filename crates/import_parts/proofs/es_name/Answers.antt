-- by tools/prove
use Rattle.grammar.specs.Dec as decl
use Rattle.parser.specs.Runs.{test_true, test_false}
use Rattle.parser.specs.Plans.{plan, choose, chosen, always, s_look, s_true, s_false, s_bump, s_report, s_end}
use native.Mathlib.Omega.{arith}
use Rattle.import_parts.proofs.es_name.Goals as goal

pub peek-requires : goal.peek-requires
peek-requires c =
    let pre0 = c.requires in
    pre0.reads

pub report_error-requires : goal.report_error-requires
report_error-requires c =
    let pre0 = c.requires in
    (pre0.holds, (let few = pre0.reads.few in let inside = pre0.reads.inside in omega arith), omega arith)

pub returns-in_default : goal.returns-in_default
unfolding decl.es_import_name plan choose chosen
returns-in_default c =
    let pre0 = c.requires in
    let peek = c.in_default.ensures in
    let report_error = c.report_error.ensures in
    always pre0 (λ n b. s_look peek (s_report report_error s_end))

pub name_or_string-requires : goal.name_or_string-requires
name_or_string-requires c =
    tt

pub bump-requires : goal.bump-requires
bump-requires c =
    let pre0 = c.requires in
    (pre0.reads, pre0.logs)

pub returns-then-name_or_string : goal.returns-then-name_or_string
unfolding decl.es_import_name plan choose chosen
returns-then-name_or_string c =
    let pre0 = c.requires in
    let peek = c.in-Some.ensures in
    let name_or_string = c.name_or_string.ensures in
    let if1 = c.if-name_or_string.true in
    let bump = c.bump.ensures in
    always pre0 (λ n b. s_look peek (s_true _ _ (test_true name_or_string if1) (s_bump bump s_end)))

pub report_error-requires-2 : goal.report_error-requires-2
report_error-requires-2 c =
    let pre0 = c.requires in
    (pre0.holds, (let few = pre0.reads.few in let inside = pre0.reads.inside in omega arith), omega arith)

pub returns : goal.returns
unfolding decl.es_import_name plan choose chosen
returns c =
    let pre0 = c.requires in
    let peek = c.in-Some.ensures in
    let name_or_string = c.name_or_string.ensures in
    let if1 = c.if-name_or_string.false in
    let report_error2 = c.report_error-2.ensures in
    always pre0 (λ n b. s_look peek (s_false _ _ (test_false name_or_string if1) (s_report report_error2 s_end)))
