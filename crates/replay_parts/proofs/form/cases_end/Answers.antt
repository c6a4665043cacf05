-- by hand: one step of the definition for each case.
use Rattle.std.proofs.Common.{◌≡◌, ◌-◌, ◌+◌, arith, sym, ap, ◌∙◌}
use Rattle.replay_parts.specs.Form.{ends_at}
use Rattle.replay_parts.specs.Laws.{ends_stop, ends_behind, ends_empty}
use Rattle.replay_parts.proofs.form.cases_end.Goals as goal

pub returns-in_default : goal.returns-in_default
returns-in_default c = sym (ends_stop c.loop.rest.now 0 c.in_default.ensures (c.args.count - c.loop.counter) (omega arith)) ∙ c.loop.invariant

pub loop-preserved : goal.loop-preserved
loop-preserved c =
    let left = c.args.count - c.loop.counter in
    let fewer : c.args.count - (c.loop.counter + 1) ≡ left - 1 = omega arith in
    ap (λ k. ends_at k c.in-Some.behind.now 0) fewer ∙ sym (ends_behind c.loop.rest.now _ c.in-Some.behind.now c.in-Some.ensures left (omega arith)) ∙ c.loop.invariant

pub returns : goal.returns
returns c = c.is_empty.ensures ∙ sym (ends_empty c.loop.rest.now (c.args.count - c.loop.counter) (omega arith)) ∙ c.loop.invariant
