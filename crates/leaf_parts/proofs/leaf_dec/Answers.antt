-- by tools/prove
use Rattle.grammar.specs.Util as util
use Rattle.grammar.specs.Dec as decl
use Rattle.parser.specs.Runs.{kind_is, kind_not, test_true, test_false, ok_bumps}
use Rattle.parser.specs.Plans.{plan, choose, chosen, in_steps, s_true, s_false, s_bump, s_close, s_by, s_run, s_end}
use Rattle.leaf_parts.proofs.leaf_dec.Goals as goal

pub bump-s1-requires : goal.bump-s1-requires
bump-s1-requires c =
    let pre0 = c.requires.0 in
    (pre0.reads, pre0.logs)

pub close_node-requires : goal.close_node-requires
close_node-requires c =
    let pre0 = c.requires.0 in
    let pre1 = c.requires.1 in
    let bump = c.bump-s1.ensures in
    let bump_ok = ok_bumps bump pre0 in
    (bump_ok.logs, pre1)

pub returns-then-k-eq-DOT_DOT_DOT : goal.returns-then-k-eq-DOT_DOT_DOT
unfolding decl.leaf_dec util.many_sep plan choose chosen
returns-then-k-eq-DOT_DOT_DOT c =
    let pre0 = c.requires.0 in
    let if1 = c.if-k-eq-DOT_DOT_DOT.true in
    let bump = c.bump-s1.ensures in
    let close_node = c.close_node.ensures in
    in_steps pre0 (s_true _ _ (kind_is if1) (s_bump bump (s_close close_node s_end)))

pub type_kw-requires : goal.type_kw-requires
type_kw-requires c =
    tt

pub bump-s1-requires-then-type_kw : goal.bump-s1-requires-then-type_kw
bump-s1-requires-then-type_kw c =
    let pre0 = c.requires.0 in
    (pre0.reads, pre0.logs)

pub ty_binds-s2-requires : goal.ty_binds-s2-requires
ty_binds-s2-requires c =
    let pre0 = c.requires.0 in
    let bump2 = c.bump-s1-then-type_kw.ensures in
    let bump2_ok = ok_bumps bump2 pre0 in
    bump2_ok

pub close_node-requires-then-type_kw : goal.close_node-requires-then-type_kw
close_node-requires-then-type_kw c =
    let pre1 = c.requires.1 in
    let ty_binds = c.ty_binds-s2.ensures in
    let ty_binds_ok = ty_binds.ok in
    (ty_binds_ok.logs, pre1)

pub returns-then-type_kw : goal.returns-then-type_kw
unfolding decl.leaf_dec util.many_sep plan choose chosen
returns-then-type_kw c =
    let pre0 = c.requires.0 in
    let if1 = c.if-k-eq-DOT_DOT_DOT.false in
    let type_kw = c.type_kw.ensures in
    let if2 = c.if-type_kw.true in
    let bump2 = c.bump-s1-then-type_kw.ensures in
    let ty_binds = c.ty_binds-s2.ensures in
    let close_node2 = c.close_node-then-type_kw.ensures in
    in_steps pre0 (s_false _ _ (kind_not if1) (s_true _ _ (test_true type_kw if2) (s_bump bump2 (s_run ty_binds (s_close close_node2 s_end)))))

pub datatype-requires : goal.datatype-requires
datatype-requires c =
    let pre0 = c.requires.0 in
    let pre1 = c.requires.1 in
    (pre0, pre1)

pub returns-then-k-eq-DATATYPE_KW : goal.returns-then-k-eq-DATATYPE_KW
unfolding decl.leaf_dec util.many_sep plan choose chosen
returns-then-k-eq-DATATYPE_KW c =
    let pre0 = c.requires.0 in
    let if1 = c.if-k-eq-DOT_DOT_DOT.false in
    let type_kw = c.type_kw.ensures in
    let if2 = c.if-type_kw.false in
    let if3 = c.if-k-eq-DATATYPE_KW.true in
    let datatype = c.datatype.ensures in
    in_steps pre0 (s_false _ _ (kind_not if1) (s_false _ _ (test_false type_kw if2) (s_true _ _ (kind_is if3) (s_by _ datatype s_end))))

pub bump-s1-requires-then-k-eq-OPEN_KW : goal.bump-s1-requires-then-k-eq-OPEN_KW
bump-s1-requires-then-k-eq-OPEN_KW c =
    let pre0 = c.requires.0 in
    (pre0.reads, pre0.logs)

pub opens-s2-requires : goal.opens-s2-requires
opens-s2-requires c =
    let pre0 = c.requires.0 in
    let bump3 = c.bump-s1-then-k-eq-OPEN_KW.ensures in
    let bump3_ok = ok_bumps bump3 pre0 in
    bump3_ok

pub close_node-requires-then-k-eq-OPEN_KW : goal.close_node-requires-then-k-eq-OPEN_KW
close_node-requires-then-k-eq-OPEN_KW c =
    let pre1 = c.requires.1 in
    let opens = c.opens-s2.ensures in
    let opens_ok = opens.ok in
    (opens_ok.logs, pre1)

pub returns-then-k-eq-OPEN_KW : goal.returns-then-k-eq-OPEN_KW
unfolding decl.leaf_dec util.many_sep plan choose chosen
returns-then-k-eq-OPEN_KW c =
    let pre0 = c.requires.0 in
    let if1 = c.if-k-eq-DOT_DOT_DOT.false in
    let type_kw = c.type_kw.ensures in
    let if2 = c.if-type_kw.false in
    let if3 = c.if-k-eq-DATATYPE_KW.false in
    let if4 = c.if-k-eq-OPEN_KW.true in
    let bump3 = c.bump-s1-then-k-eq-OPEN_KW.ensures in
    let opens = c.opens-s2.ensures in
    let close_node3 = c.close_node-then-k-eq-OPEN_KW.ensures in
    in_steps pre0 (s_false _ _ (kind_not if1) (s_false _ _ (test_false type_kw if2) (s_false _ _ (kind_not if3) (s_true _ _ (kind_is if4) (s_bump bump3 (s_run opens (s_close close_node3 s_end)))))))

pub fix_dec-requires : goal.fix_dec-requires
fix_dec-requires c =
    let pre0 = c.requires.0 in
    let pre1 = c.requires.1 in
    (pre0, pre1)

pub returns : goal.returns
unfolding decl.leaf_dec util.many_sep plan choose chosen
returns c =
    let pre0 = c.requires.0 in
    let if1 = c.if-k-eq-DOT_DOT_DOT.false in
    let type_kw = c.type_kw.ensures in
    let if2 = c.if-type_kw.false in
    let if3 = c.if-k-eq-DATATYPE_KW.false in
    let if4 = c.if-k-eq-OPEN_KW.false in
    let fix_dec = c.fix_dec.ensures in
    in_steps pre0 (s_false _ _ (kind_not if1) (s_false _ _ (test_false type_kw if2) (s_false _ _ (kind_not if3) (s_false _ _ (kind_not if4) (s_by _ fix_dec s_end)))))
