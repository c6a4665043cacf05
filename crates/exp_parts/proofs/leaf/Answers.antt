-- by tools/prove
use Rattle.grammar.specs.Exp as expr
use Rattle.parser.specs.Runs.{runs_in, kind_is, kind_not, test_true, test_false, ok_bumps, ok_state}
use Rattle.parser.specs.Plans.{plan, choose, chosen, in_steps, s_true, s_false, s_bump, s_close, s_by, settled, s_end}
use Rattle.exp_parts.proofs.leaf.Goals as goal

pub bump-s1-requires : goal.bump-s1-requires
bump-s1-requires c =
    let pre0 = c.requires.0 in
    (pre0.reads, pre0.logs)

pub close_node-requires : goal.close_node-requires
close_node-requires c =
    let pre0 = c.requires.0 in
    let pre1 = c.requires.1 in
    let bump = c.bump-s1.ensures in
    let bump_ok = ok_bumps bump pre0 in
    (bump_ok.logs, pre1)

pub returns-then-k-eq-DOT_DOT_DOT : goal.returns-then-k-eq-DOT_DOT_DOT
unfolding expr.at_exp_leaf plan choose chosen
returns-then-k-eq-DOT_DOT_DOT c =
    let pre0 = c.requires.0 in
    let if1 = c.if-k-eq-DOT_DOT_DOT.true in
    let bump = c.bump-s1.ensures in
    let close_node = c.close_node.ensures in
    in_steps pre0 (s_true _ _ (kind_is if1) (s_bump bump (s_close close_node s_end)))

pub bump-s1-requires-then-k-eq-UNDERSCORE : goal.bump-s1-requires-then-k-eq-UNDERSCORE
bump-s1-requires-then-k-eq-UNDERSCORE c =
    let pre0 = c.requires.0 in
    (pre0.reads, pre0.logs)

pub close_node-requires-then-k-eq-UNDERSCORE : goal.close_node-requires-then-k-eq-UNDERSCORE
close_node-requires-then-k-eq-UNDERSCORE c =
    let pre0 = c.requires.0 in
    let pre1 = c.requires.1 in
    let bump2 = c.bump-s1-then-k-eq-UNDERSCORE.ensures in
    let bump2_ok = ok_bumps bump2 pre0 in
    (bump2_ok.logs, pre1)

pub returns-then-k-eq-UNDERSCORE : goal.returns-then-k-eq-UNDERSCORE
unfolding expr.at_exp_leaf plan choose chosen
returns-then-k-eq-UNDERSCORE c =
    let pre0 = c.requires.0 in
    let if1 = c.if-k-eq-DOT_DOT_DOT.false in
    let if2 = c.if-k-eq-UNDERSCORE.true in
    let bump2 = c.bump-s1-then-k-eq-UNDERSCORE.ensures in
    let close_node2 = c.close_node-then-k-eq-UNDERSCORE.ensures in
    in_steps pre0 (s_false _ _ (kind_not if1) (s_true _ _ (kind_is if2) (s_bump bump2 (s_close close_node2 s_end))))

pub s_con-requires : goal.s_con-requires
s_con-requires c =
    tt

pub bump-s1-requires-then-s_con : goal.bump-s1-requires-then-s_con
bump-s1-requires-then-s_con c =
    let pre0 = c.requires.0 in
    (pre0.reads, pre0.logs)

pub close_node-requires-then-s_con : goal.close_node-requires-then-s_con
close_node-requires-then-s_con c =
    let pre0 = c.requires.0 in
    let pre1 = c.requires.1 in
    let bump3 = c.bump-s1-then-s_con.ensures in
    let bump3_ok = ok_bumps bump3 pre0 in
    (bump3_ok.logs, pre1)

pub returns-then-s_con : goal.returns-then-s_con
unfolding expr.at_exp_leaf plan choose chosen
returns-then-s_con c =
    let pre0 = c.requires.0 in
    let if1 = c.if-k-eq-DOT_DOT_DOT.false in
    let if2 = c.if-k-eq-UNDERSCORE.false in
    let s_con = c.s_con.ensures in
    let if3 = c.if-s_con.true in
    let bump3 = c.bump-s1-then-s_con.ensures in
    let close_node3 = c.close_node-then-s_con.ensures in
    in_steps pre0 (s_false _ _ (kind_not if1) (s_false _ _ (kind_not if2) (s_true _ _ (test_true s_con if3) (s_bump bump3 (s_close close_node3 s_end)))))

pub op_exp-requires : goal.op_exp-requires
op_exp-requires c =
    let pre0 = c.requires.0 in
    let pre1 = c.requires.1 in
    (pre0, pre1)

pub returns-then-k-eq-OP_KW : goal.returns-then-k-eq-OP_KW
unfolding expr.at_exp_leaf plan choose chosen
returns-then-k-eq-OP_KW c =
    let pre0 = c.requires.0 in
    let if1 = c.if-k-eq-DOT_DOT_DOT.false in
    let if2 = c.if-k-eq-UNDERSCORE.false in
    let s_con = c.s_con.ensures in
    let if3 = c.if-s_con.false in
    let if4 = c.if-k-eq-OP_KW.true in
    let op_exp = c.op_exp.ensures in
    in_steps pre0 (s_false _ _ (kind_not if1) (s_false _ _ (kind_not if2) (s_false _ _ (test_false s_con if3) (s_true _ _ (kind_is if4) (s_by _ op_exp s_end)))))

pub name_star_eq-requires : goal.name_star_eq-requires
name_star_eq-requires c =
    tt

pub path_no_infix-got-requires : goal.path_no_infix-got-requires
path_no_infix-got-requires c =
    let pre0 = c.requires.0 in
    pre0

pub either-s1-requires : goal.either-s1-requires
either-s1-requires c =
    tt

pub close_node-requires-then-name_star_eq : goal.close_node-requires-then-name_star_eq
close_node-requires-then-name_star_eq c =
    let pre1 = c.requires.1 in
    let path_no_infix = c.path_no_infix-got.ensures in
    let path_no_infix_ok = path_no_infix.ok in
    let either = c.either-s1.ensures in
    let either_ok = ok_state either path_no_infix_ok in
    (either_ok.logs, pre1)

pub returns-then-name_star_eq : goal.returns-then-name_star_eq
unfolding expr.at_exp_leaf plan choose chosen
returns-then-name_star_eq c =
    let pre0 = c.requires.0 in
    let if1 = c.if-k-eq-DOT_DOT_DOT.false in
    let if2 = c.if-k-eq-UNDERSCORE.false in
    let s_con = c.s_con.ensures in
    let if3 = c.if-s_con.false in
    let if4 = c.if-k-eq-OP_KW.false in
    let name_star_eq = c.name_star_eq.ensures in
    let if5 = c.if-name_star_eq.true in
    let path_no_infix = c.path_no_infix-got.ensures in
    let either = c.either-s1.ensures in
    let close_node4 = c.close_node-then-name_star_eq.ensures in
    in_steps pre0 (s_false _ _ (kind_not if1) (s_false _ _ (kind_not if2) (s_false _ _ (test_false s_con if3) (s_false _ _ (kind_not if4) (s_true _ _ (test_true name_star_eq if5) (s_by _ (settled either (runs_in path_no_infix)) (s_close close_node4 s_end)))))))

pub returns : goal.returns
unfolding expr.at_exp_leaf plan choose chosen
returns c =
    let pre0 = c.requires.0 in
    let if1 = c.if-k-eq-DOT_DOT_DOT.false in
    let if2 = c.if-k-eq-UNDERSCORE.false in
    let s_con = c.s_con.ensures in
    let if3 = c.if-s_con.false in
    let if4 = c.if-k-eq-OP_KW.false in
    let name_star_eq = c.name_star_eq.ensures in
    let if5 = c.if-name_star_eq.false in
    in_steps pre0 (s_false _ _ (kind_not if1) (s_false _ _ (kind_not if2) (s_false _ _ (test_false s_con if3) (s_false _ _ (kind_not if4) (s_false _ _ (test_false name_star_eq if5) s_end)))))
