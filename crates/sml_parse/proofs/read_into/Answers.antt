-- by hand: the call of root between the start and the end, no program.
use mathlib.Core.Path.{◌≡◌, ap, sym, ◌∙◌}
use Rattle.grammar.specs.Read.{refusal}
use Rattle.parser.specs.Refusals.{refusal_number, not_zero}
use Rattle.sml_parse.proofs.Whole.{few, was_grown, was_refused, was_handed}
use Rattle.sml_parse.proofs.read_into.Goals as goal

pub returns-in-Some : goal.returns-in-Some
returns-in-Some c =
    let a = c.args in
    let r = c.root-end in
    let n = c.start_state-s.ensures.1 in
    let e = c.in-Some.ensures (few a.lent.text.now a.lent.toks.now a.lent.env.now a.depth a.mode a.scratch.now a.nodes.now a.finds.now a.last.now _ _ n r.ensures) in
    c.refuse_all.ensures
    ∙ ap (refusal _) e
    ∙ was_refused a.lent.text.now a.lent.toks.now a.lent.env.now a.depth a.mode a.scratch.now a.nodes.now a.finds.now a.last.now _ _ n r.ensures r.auto.scratch r.auto.finds (λ z. not_zero c.in-Some.why (e ∙ z))

pub hand_out-requires : goal.hand_out-requires
hand_out-requires c =
    let a = c.args in
    let r = c.root-end in
    let n = c.start_state-s.ensures.1 in
    let e = c.in-None.ensures (few a.lent.text.now a.lent.toks.now a.lent.env.now a.depth a.mode a.scratch.now a.nodes.now a.finds.now a.last.now _ _ n r.ensures) in
    (r.ensures.ok, was_grown a.lent.text.now a.lent.toks.now a.lent.env.now a.depth a.mode a.scratch.now a.nodes.now a.finds.now a.last.now _ _ n r.ensures (sym e))

pub returns-in-None : goal.returns-in-None
returns-in-None c =
    let a = c.args in
    let r = c.root-end in
    let n = c.start_state-s.ensures.1 in
    let e = c.in-None.ensures (few a.lent.text.now a.lent.toks.now a.lent.env.now a.depth a.mode a.scratch.now a.nodes.now a.finds.now a.last.now _ _ n r.ensures) in
    c.hand_out.ensures
    ∙ was_handed a.lent.text.now a.lent.toks.now a.lent.env.now a.depth a.mode a.scratch.now a.nodes.now a.finds.now a.last.now _ _ n r.ensures r.auto.scratch r.auto.finds (sym e)
