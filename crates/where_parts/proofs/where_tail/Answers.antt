-- by tools/prove
use Rattle.grammar.specs.Dec as decl
use Rattle.parser.specs.Runs.{runs_in, kind_at, kind_off, ok_bumps, ok_eats, ok_state}
use Rattle.parser.specs.Plans.{plan, choose, chosen, in_steps, s_kind, s_true, s_false, s_bump, s_close, s_by, s_eats, settled, s_end}
use native.Mathlib.Omega.{arith}
use Rattle.where_parts.proofs.where_tail.Goals as goal

pub at-requires : goal.at-requires
at-requires c =
    let pre0 = c.requires.0 in
    pre0.reads

pub bump-s1-requires : goal.bump-s1-requires
bump-s1-requires c =
    let pre0 = c.requires.0 in
    (pre0.reads, pre0.logs)

pub ty_var_seq-vars-requires : goal.ty_var_seq-vars-requires
ty_var_seq-vars-requires c =
    let pre0 = c.requires.0 in
    let bump = c.bump-s1.ensures in
    let bump_ok = ok_bumps bump pre0 in
    bump_ok

pub either-s2-requires : goal.either-s2-requires
either-s2-requires c =
    tt

pub path_must-name-requires : goal.path_must-name-requires
path_must-name-requires c =
    let ty_var_seq = c.ty_var_seq-vars.ensures in
    let ty_var_seq_ok = ty_var_seq.ok in
    let either = c.either-s2.ensures in
    let either_ok = ok_state either ty_var_seq_ok in
    either_ok

pub either-s3-requires : goal.either-s3-requires
either-s3-requires c =
    tt

pub want-s4-requires : goal.want-s4-requires
want-s4-requires c =
    let path_must = c.path_must-name.ensures in
    let path_must_ok = path_must.ok in
    let either2 = c.either-s3.ensures in
    let either2_ok = ok_state either2 path_must_ok in
    (either2_ok.reads, either2_ok.logs, either2_ok.holds, omega arith)

pub ty_must-s5-requires : goal.ty_must-s5-requires
ty_must-s5-requires c =
    let path_must = c.path_must-name.ensures in
    let path_must_ok = path_must.ok in
    let either2 = c.either-s3.ensures in
    let either2_ok = ok_state either2 path_must_ok in
    let want = c.want-s4.ensures in
    let want_ok = ok_eats want either2_ok in
    want_ok

pub close_node-requires : goal.close_node-requires
close_node-requires c =
    let pre1 = c.requires.1 in
    let ty_must = c.ty_must-s5.ensures in
    let ty_must_ok = ty_must.ok in
    (ty_must_ok.logs, pre1)

pub returns-then-at : goal.returns-then-at
unfolding decl.where_tail plan choose chosen
returns-then-at c =
    let pre0 = c.requires.0 in
    let at = c.at.ensures in
    let if1 = c.if-at.true in
    let bump = c.bump-s1.ensures in
    let ty_var_seq = c.ty_var_seq-vars.ensures in
    let either = c.either-s2.ensures in
    let path_must = c.path_must-name.ensures in
    let either2 = c.either-s3.ensures in
    let want = c.want-s4.ensures in
    let ty_must = c.ty_must-s5.ensures in
    let close_node = c.close_node.ensures in
    in_steps pre0 (s_kind (s_true _ _ (kind_at _ _ _ _ at if1) (s_bump bump (s_by _ (settled either (runs_in ty_var_seq)) (s_by _ (settled either2 (runs_in path_must)) (s_eats _ _ _ want (s_by _ (runs_in ty_must) (s_close close_node s_end))))))))

pub path_must-name-requires-2 : goal.path_must-name-requires-2
path_must-name-requires-2 c =
    let pre0 = c.requires.0 in
    pre0

pub either-s1-requires : goal.either-s1-requires
either-s1-requires c =
    tt

pub want-s2-requires : goal.want-s2-requires
want-s2-requires c =
    let path_must2 = c.path_must-name-2.ensures in
    let path_must2_ok = path_must2.ok in
    let either3 = c.either-s1.ensures in
    let either3_ok = ok_state either3 path_must2_ok in
    (either3_ok.reads, either3_ok.logs, either3_ok.holds, omega arith)

pub path_must-same-requires : goal.path_must-same-requires
path_must-same-requires c =
    let path_must2 = c.path_must-name-2.ensures in
    let path_must2_ok = path_must2.ok in
    let either3 = c.either-s1.ensures in
    let either3_ok = ok_state either3 path_must2_ok in
    let want2 = c.want-s2.ensures in
    let want2_ok = ok_eats want2 either3_ok in
    want2_ok

pub either-s3-requires-2 : goal.either-s3-requires-2
either-s3-requires-2 c =
    tt

pub close_node-requires-2 : goal.close_node-requires-2
close_node-requires-2 c =
    let pre1 = c.requires.1 in
    let path_must3 = c.path_must-same.ensures in
    let path_must3_ok = path_must3.ok in
    let either4 = c.either-s3-2.ensures in
    let either4_ok = ok_state either4 path_must3_ok in
    (either4_ok.logs, pre1)

pub returns : goal.returns
unfolding decl.where_tail plan choose chosen
returns c =
    let pre0 = c.requires.0 in
    let at = c.at.ensures in
    let if1 = c.if-at.false in
    let path_must2 = c.path_must-name-2.ensures in
    let either3 = c.either-s1.ensures in
    let want2 = c.want-s2.ensures in
    let path_must3 = c.path_must-same.ensures in
    let either4 = c.either-s3-2.ensures in
    let close_node2 = c.close_node-2.ensures in
    in_steps pre0 (s_kind (s_false _ _ (kind_off _ _ _ _ at if1) (s_by _ (settled either3 (runs_in path_must2)) (s_eats _ _ _ want2 (s_by _ (settled either4 (runs_in path_must3)) (s_close close_node2 s_end))))))
