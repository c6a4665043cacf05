-- by tools/prove
use Rattle.grammar.specs.Dec as decl
use Rattle.parser.specs.Runs.{runs_in, kind_at, kind_off, ok_bumps, ok_eats, ok_state}
use Rattle.parser.specs.Plans.{plan, choose, chosen, in_steps, s_kind, s_true, s_false, s_bump, s_close, s_by, s_eats, settled, s_end}
use native.Mathlib.Omega.{arith}
use Rattle.dat_parts.proofs.datatype.Goals as goal

pub bump-s1-requires : goal.bump-s1-requires
bump-s1-requires c =
    let pre0 = c.requires.0 in
    (pre0.reads, pre0.logs)

pub at_n-requires : goal.at_n-requires
at_n-requires c =
    let pre0 = c.requires.0 in
    let bump = c.bump-s1.ensures in
    let bump_ok = ok_bumps bump pre0 in
    bump_ok.reads

pub want-s2-requires : goal.want-s2-requires
want-s2-requires c =
    let pre0 = c.requires.0 in
    let bump = c.bump-s1.ensures in
    let bump_ok = ok_bumps bump pre0 in
    (bump_ok.reads, bump_ok.logs, bump_ok.holds, omega arith)

pub want-s3-requires : goal.want-s3-requires
want-s3-requires c =
    let pre0 = c.requires.0 in
    let bump = c.bump-s1.ensures in
    let bump_ok = ok_bumps bump pre0 in
    let want = c.want-s2.ensures in
    let want_ok = ok_eats want bump_ok in
    (want_ok.reads, want_ok.logs, want_ok.holds, omega arith)

pub want-s4-requires : goal.want-s4-requires
want-s4-requires c =
    let pre0 = c.requires.0 in
    let bump = c.bump-s1.ensures in
    let bump_ok = ok_bumps bump pre0 in
    let want = c.want-s2.ensures in
    let want_ok = ok_eats want bump_ok in
    let want2 = c.want-s3.ensures in
    let want2_ok = ok_eats want2 want_ok in
    (want2_ok.reads, want2_ok.logs, want2_ok.holds, omega arith)

pub path_must-got-requires : goal.path_must-got-requires
path_must-got-requires c =
    let pre0 = c.requires.0 in
    let bump = c.bump-s1.ensures in
    let bump_ok = ok_bumps bump pre0 in
    let want = c.want-s2.ensures in
    let want_ok = ok_eats want bump_ok in
    let want2 = c.want-s3.ensures in
    let want2_ok = ok_eats want2 want_ok in
    let want3 = c.want-s4.ensures in
    let want3_ok = ok_eats want3 want2_ok in
    want3_ok

pub either-s5-requires : goal.either-s5-requires
either-s5-requires c =
    tt

pub close_node-requires : goal.close_node-requires
close_node-requires c =
    let pre1 = c.requires.1 in
    let path_must = c.path_must-got.ensures in
    let path_must_ok = path_must.ok in
    let either = c.either-s5.ensures in
    let either_ok = ok_state either path_must_ok in
    (either_ok.logs, pre1)

pub returns-then-at_n : goal.returns-then-at_n
unfolding decl.datatype plan choose chosen
returns-then-at_n c =
    let pre0 = c.requires.0 in
    let bump = c.bump-s1.ensures in
    let at_n = c.at_n.ensures in
    let if1 = c.if-at_n.true in
    let want = c.want-s2.ensures in
    let want2 = c.want-s3.ensures in
    let want3 = c.want-s4.ensures in
    let path_must = c.path_must-got.ensures in
    let either = c.either-s5.ensures in
    let close_node = c.close_node.ensures in
    in_steps pre0 (s_bump bump (s_kind (s_true _ _ (kind_at _ _ _ _ at_n if1) (s_eats _ _ _ want (s_eats _ _ _ want2 (s_eats _ _ _ want3 (s_by _ (settled either (runs_in path_must)) (s_close close_node s_end))))))))

pub dat_binds-s2-requires : goal.dat_binds-s2-requires
dat_binds-s2-requires c =
    let pre0 = c.requires.0 in
    let bump = c.bump-s1.ensures in
    let bump_ok = ok_bumps bump pre0 in
    bump_ok

pub close_node-requires-2 : goal.close_node-requires-2
close_node-requires-2 c =
    let pre1 = c.requires.1 in
    let dat_binds = c.dat_binds-s2.ensures in
    let dat_binds_ok = dat_binds.ok in
    (dat_binds_ok.logs, pre1)

pub returns : goal.returns
unfolding decl.datatype plan choose chosen
returns c =
    let pre0 = c.requires.0 in
    let bump = c.bump-s1.ensures in
    let at_n = c.at_n.ensures in
    let if1 = c.if-at_n.false in
    let dat_binds = c.dat_binds-s2.ensures in
    let close_node2 = c.close_node-2.ensures in
    in_steps pre0 (s_bump bump (s_kind (s_false _ _ (kind_off _ _ _ _ at_n if1) (s_by _ dat_binds (s_close close_node2 s_end)))))
