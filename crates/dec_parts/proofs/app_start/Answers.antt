-- by tools/prove
use Rattle.grammar.specs.Dec as decl
use Rattle.parser.specs.Runs.{ok_bumps}
use Rattle.parser.specs.Plans.{plan, choose, chosen, by_steps, s_bump, s_eats, s_end}
use native.Mathlib.Omega.{arith}
use Rattle.dec_parts.proofs.app_start.Goals as goal

pub bump-s1-requires : goal.bump-s1-requires
bump-s1-requires c =
    let pre0 = c.requires in
    (pre0.reads, pre0.logs)

pub want-requires : goal.want-requires
want-requires c =
    let pre0 = c.requires in
    let bump = c.bump-s1.ensures in
    let bump_ok = ok_bumps bump pre0 in
    (bump_ok.reads, bump_ok.logs, bump_ok.holds, omega arith)

pub returns : goal.returns
unfolding decl.app_start plan choose chosen
returns c =
    let pre0 = c.requires in
    let bump = c.bump-s1.ensures in
    let want = c.want.ensures in
    by_steps pre0 (λ b. s_bump bump (s_eats _ _ _ want s_end))
