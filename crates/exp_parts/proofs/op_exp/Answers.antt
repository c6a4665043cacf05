-- by tools/prove
use Rattle.grammar.specs.Exp as expr
use Rattle.parser.specs.Runs.{runs_in, kind_is, kind_not, ok_bumps, ok_state}
use Rattle.parser.specs.Plans.{plan, choose, chosen, in_steps, s_look, s_true, s_false, s_bump, s_close, s_by, settled, s_end}
use Rattle.exp_parts.proofs.op_exp.Goals as goal

pub peek_n-requires : goal.peek_n-requires
peek_n-requires c =
    let pre0 = c.requires.0 in
    pre0.reads

pub path_infix-got-requires : goal.path_infix-got-requires
path_infix-got-requires c =
    let pre0 = c.requires.0 in
    pre0

pub either-s1-requires : goal.either-s1-requires
either-s1-requires c =
    tt

pub close_node-requires : goal.close_node-requires
close_node-requires c =
    let pre1 = c.requires.1 in
    let path_infix = c.path_infix-got.ensures in
    let path_infix_ok = path_infix.ok in
    let either = c.either-s1.ensures in
    let either_ok = ok_state either path_infix_ok in
    (either_ok.logs, pre1)

pub returns-in_default : goal.returns-in_default
unfolding expr.op_exp plan choose chosen
returns-in_default c =
    let pre0 = c.requires.0 in
    let peek_n = c.in_default.ensures in
    let path_infix = c.path_infix-got.ensures in
    let either = c.either-s1.ensures in
    let close_node = c.close_node.ensures in
    in_steps pre0 (s_look peek_n (s_by _ (settled either (runs_in path_infix)) (s_close close_node s_end)))

pub bump-s1-requires : goal.bump-s1-requires
bump-s1-requires c =
    let pre0 = c.requires.0 in
    (pre0.reads, pre0.logs)

pub bump-s2-requires : goal.bump-s2-requires
bump-s2-requires c =
    let pre0 = c.requires.0 in
    let bump = c.bump-s1.ensures in
    let bump_ok = ok_bumps bump pre0 in
    (bump_ok.reads, bump_ok.logs)

pub close_node-requires-then-k-eq-ANDALSO_KW : goal.close_node-requires-then-k-eq-ANDALSO_KW
close_node-requires-then-k-eq-ANDALSO_KW c =
    let pre0 = c.requires.0 in
    let pre1 = c.requires.1 in
    let bump = c.bump-s1.ensures in
    let bump_ok = ok_bumps bump pre0 in
    let bump2 = c.bump-s2.ensures in
    let bump2_ok = ok_bumps bump2 bump_ok in
    (bump2_ok.logs, pre1)

pub returns-then-k-eq-ANDALSO_KW : goal.returns-then-k-eq-ANDALSO_KW
unfolding expr.op_exp plan choose chosen
returns-then-k-eq-ANDALSO_KW c =
    let pre0 = c.requires.0 in
    let peek_n = c.in-Some.ensures in
    let if1 = c.if-k-eq-ANDALSO_KW.true in
    let bump = c.bump-s1.ensures in
    let bump2 = c.bump-s2.ensures in
    let close_node2 = c.close_node-then-k-eq-ANDALSO_KW.ensures in
    in_steps pre0 (s_look peek_n (s_true _ _ (kind_is if1) (s_bump bump (s_bump bump2 (s_close close_node2 s_end)))))

pub bump-s1-requires-then-k-eq-ORELSE_KW : goal.bump-s1-requires-then-k-eq-ORELSE_KW
bump-s1-requires-then-k-eq-ORELSE_KW c =
    let pre0 = c.requires.0 in
    (pre0.reads, pre0.logs)

pub bump-s2-requires-then-k-eq-ORELSE_KW : goal.bump-s2-requires-then-k-eq-ORELSE_KW
bump-s2-requires-then-k-eq-ORELSE_KW c =
    let pre0 = c.requires.0 in
    let bump3 = c.bump-s1-then-k-eq-ORELSE_KW.ensures in
    let bump3_ok = ok_bumps bump3 pre0 in
    (bump3_ok.reads, bump3_ok.logs)

pub close_node-requires-then-k-eq-ORELSE_KW : goal.close_node-requires-then-k-eq-ORELSE_KW
close_node-requires-then-k-eq-ORELSE_KW c =
    let pre0 = c.requires.0 in
    let pre1 = c.requires.1 in
    let bump3 = c.bump-s1-then-k-eq-ORELSE_KW.ensures in
    let bump3_ok = ok_bumps bump3 pre0 in
    let bump4 = c.bump-s2-then-k-eq-ORELSE_KW.ensures in
    let bump4_ok = ok_bumps bump4 bump3_ok in
    (bump4_ok.logs, pre1)

pub returns-then-k-eq-ORELSE_KW : goal.returns-then-k-eq-ORELSE_KW
unfolding expr.op_exp plan choose chosen
returns-then-k-eq-ORELSE_KW c =
    let pre0 = c.requires.0 in
    let peek_n = c.in-Some.ensures in
    let if1 = c.if-k-eq-ANDALSO_KW.false in
    let if2 = c.if-k-eq-ORELSE_KW.true in
    let bump3 = c.bump-s1-then-k-eq-ORELSE_KW.ensures in
    let bump4 = c.bump-s2-then-k-eq-ORELSE_KW.ensures in
    let close_node3 = c.close_node-then-k-eq-ORELSE_KW.ensures in
    in_steps pre0 (s_look peek_n (s_false _ _ (kind_not if1) (s_true _ _ (kind_is if2) (s_bump bump3 (s_bump bump4 (s_close close_node3 s_end))))))

pub path_infix-got-requires-2 : goal.path_infix-got-requires-2
path_infix-got-requires-2 c =
    let pre0 = c.requires.0 in
    pre0

pub either-s1-requires-2 : goal.either-s1-requires-2
either-s1-requires-2 c =
    tt

pub close_node-requires-2 : goal.close_node-requires-2
close_node-requires-2 c =
    let pre1 = c.requires.1 in
    let path_infix2 = c.path_infix-got-2.ensures in
    let path_infix2_ok = path_infix2.ok in
    let either2 = c.either-s1-2.ensures in
    let either2_ok = ok_state either2 path_infix2_ok in
    (either2_ok.logs, pre1)

pub returns : goal.returns
unfolding expr.op_exp plan choose chosen
returns c =
    let pre0 = c.requires.0 in
    let peek_n = c.in-Some.ensures in
    let if1 = c.if-k-eq-ANDALSO_KW.false in
    let if2 = c.if-k-eq-ORELSE_KW.false in
    let path_infix2 = c.path_infix-got-2.ensures in
    let either2 = c.either-s1-2.ensures in
    let close_node4 = c.close_node-2.ensures in
    in_steps pre0 (s_look peek_n (s_false _ _ (kind_not if1) (s_false _ _ (kind_not if2) (s_by _ (settled either2 (runs_in path_infix2)) (s_close close_node4 s_end)))))
