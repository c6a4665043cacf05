-- by tools/prove
use Rattle.grammar.specs.Exp as expr
use Rattle.parser.specs.Runs.{runs_in, ok_bumps}
use Rattle.parser.specs.Plans.{plan, choose, chosen, by_steps, s_bump, s_by, s_end}
use Rattle.exp_parts.proofs.record_start.Goals as goal

pub bump-s1-requires : goal.bump-s1-requires
bump-s1-requires c =
    let pre0 = c.requires in
    (pre0.reads, pre0.logs)

pub record_update-requires : goal.record_update-requires
record_update-requires c =
    let pre0 = c.requires in
    let bump = c.bump-s1.ensures in
    let bump_ok = ok_bumps bump pre0 in
    bump_ok

pub returns : goal.returns
unfolding expr.record_start plan choose chosen
returns c =
    let pre0 = c.requires in
    let bump = c.bump-s1.ensures in
    let record_update = c.record_update.ensures in
    by_steps pre0 (λ b. s_bump bump (s_by _ (runs_in record_update) s_end))
