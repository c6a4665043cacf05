-- by tools/prove
use Rattle.grammar.specs.Dec as decl
use Rattle.parser.specs.Runs.{ok_bumps}
use Rattle.parser.specs.Plans.{plan, choose, chosen, in_steps, s_bump, s_by, s_eats, s_end}
use native.Mathlib.Omega.{arith}
use Rattle.dat_parts.proofs.abs_head.Goals as goal

pub bump-s1-requires : goal.bump-s1-requires
bump-s1-requires c =
    let pre0 = c.requires in
    (pre0.reads, pre0.logs)

pub dat_binds-s2-requires : goal.dat_binds-s2-requires
dat_binds-s2-requires c =
    let pre0 = c.requires in
    let bump = c.bump-s1.ensures in
    let bump_ok = ok_bumps bump pre0 in
    bump_ok

pub want-requires : goal.want-requires
want-requires c =
    let dat_binds = c.dat_binds-s2.ensures in
    let dat_binds_ok = dat_binds.ok in
    (dat_binds_ok.reads, dat_binds_ok.logs, dat_binds_ok.holds, omega arith)

pub returns : goal.returns
unfolding decl.abstype_head plan choose chosen
returns c =
    let pre0 = c.requires in
    let bump = c.bump-s1.ensures in
    let dat_binds = c.dat_binds-s2.ensures in
    let want = c.want.ensures in
    in_steps pre0 (s_bump bump (s_by _ dat_binds (s_eats _ _ _ want s_end)))
