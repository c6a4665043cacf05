-- by tools/prove
use Rattle.grammar.specs.Exp as expr
use Rattle.parser.specs.Runs.{runs_always}
use Rattle.parser.specs.Plans.{plan, choose, chosen, always, s_by, s_end, s_refuse}
use mathlib.Core.Path.{sym}
use Rattle.exp_prec.proofs.should_break_exp.Goals as goal

pub judge-what-requires : goal.judge-what-requires
judge-what-requires c =
    tt

pub refuse_for-requires : goal.refuse_for-requires
refuse_for-requires c =
    tt

pub should_break-requires : goal.should_break-requires
should_break-requires c =
    let pre0 = c.requires in
    pre0

pub returns-in-Unreachable : goal.returns-in-Unreachable
unfolding expr.decide plan choose chosen
returns-in-Unreachable c =
    let pre0 = c.requires in
    let judge = c.in-Unreachable.ensures in
    let refuse_for = c.refuse_for.ensures in
    rw (sym judge) (always pre0 (λ n b. s_refuse refuse_for s_end))

pub returns-in-GoesOn : goal.returns-in-GoesOn
unfolding expr.decide plan choose chosen
returns-in-GoesOn c =
    let pre0 = c.requires in
    let judge = c.in-GoesOn.ensures in
    rw (sym judge) (always pre0 (λ n b. s_end))

pub returns-in-Ends : goal.returns-in-Ends
unfolding expr.decide plan choose chosen
returns-in-Ends c =
    let pre0 = c.requires in
    let judge = c.in-Ends.ensures in
    rw (sym judge) (always pre0 (λ n b. s_end))

pub returns-in-Infixes : goal.returns-in-Infixes
unfolding expr.decide plan choose chosen
returns-in-Infixes c =
    let pre0 = c.requires in
    let judge = c.in-Infixes.ensures in
    let should_break = c.should_break.ensures in
    rw (sym judge) (always pre0 (λ n b. s_by _ (runs_always (should_break _)) s_end))
