-- by tools/prove
use Rattle.grammar.specs.Dec as decl
use Rattle.parser.specs.Runs.{runs_in, runs_always, kind_is, kind_not, ok_bumps, ok_eats}
use Rattle.parser.specs.Plans.{plan, choose, chosen, in_steps, s_look, s_true, s_false, s_bump, s_close, s_by, s_eats, s_end}
use native.Mathlib.Omega.{arith}
use Rattle.fun_parts.proofs.other_head.Goals as goal

pub peek-requires : goal.peek-requires
peek-requires c =
    let pre0 = c.requires.0 in
    pre0.reads

pub prefix_name-s1-requires : goal.prefix_name-s1-requires
prefix_name-s1-requires c =
    let pre0 = c.requires.0 in
    pre0

pub close_node-requires : goal.close_node-requires
close_node-requires c =
    let pre1 = c.requires.1 in
    let prefix_name = c.prefix_name-s1.ensures in
    let prefix_name_ok = prefix_name.ok in
    (prefix_name_ok.logs, pre1)

pub returns-in_default : goal.returns-in_default
unfolding decl.other_head plan choose chosen
returns-in_default c =
    let pre0 = c.requires.0 in
    let peek = c.in_default.ensures in
    let prefix_name = c.prefix_name-s1.ensures in
    let close_node = c.close_node.ensures in
    in_steps pre0 (s_look peek (s_by _ (runs_always prefix_name) (s_close close_node s_end)))

pub bump-s1-requires : goal.bump-s1-requires
bump-s1-requires c =
    let pre0 = c.requires.0 in
    (pre0.reads, pre0.logs)

pub infix_head-s2-requires : goal.infix_head-s2-requires
infix_head-s2-requires c =
    let pre0 = c.requires.0 in
    let bump = c.bump-s1.ensures in
    let bump_ok = ok_bumps bump pre0 in
    bump_ok

pub want-s3-requires : goal.want-s3-requires
want-s3-requires c =
    let infix_head = c.infix_head-s2.ensures in
    let infix_head_ok = infix_head.ok in
    (infix_head_ok.reads, infix_head_ok.logs, infix_head_ok.holds, omega arith)

pub close_node-requires-then-k-eq-LROUND : goal.close_node-requires-then-k-eq-LROUND
close_node-requires-then-k-eq-LROUND c =
    let pre1 = c.requires.1 in
    let infix_head = c.infix_head-s2.ensures in
    let infix_head_ok = infix_head.ok in
    let want = c.want-s3.ensures in
    let want_ok = ok_eats want infix_head_ok in
    (want_ok.logs, pre1)

pub returns-then-k-eq-LROUND : goal.returns-then-k-eq-LROUND
unfolding decl.other_head plan choose chosen
returns-then-k-eq-LROUND c =
    let pre0 = c.requires.0 in
    let peek = c.in-Some.ensures in
    let if1 = c.if-k-eq-LROUND.true in
    let bump = c.bump-s1.ensures in
    let infix_head = c.infix_head-s2.ensures in
    let want = c.want-s3.ensures in
    let close_node2 = c.close_node-then-k-eq-LROUND.ensures in
    in_steps pre0 (s_look peek (s_true _ _ (kind_is if1) (s_bump bump (s_by _ (runs_in infix_head) (s_eats _ _ _ want (s_close close_node2 s_end))))))

pub prefix_op-s1-requires : goal.prefix_op-s1-requires
prefix_op-s1-requires c =
    let pre0 = c.requires.0 in
    pre0

pub close_node-requires-then-k-eq-OP_KW : goal.close_node-requires-then-k-eq-OP_KW
close_node-requires-then-k-eq-OP_KW c =
    let pre1 = c.requires.1 in
    let prefix_op = c.prefix_op-s1.ensures in
    let prefix_op_ok = prefix_op.ok in
    (prefix_op_ok.logs, pre1)

pub returns-then-k-eq-OP_KW : goal.returns-then-k-eq-OP_KW
unfolding decl.other_head plan choose chosen
returns-then-k-eq-OP_KW c =
    let pre0 = c.requires.0 in
    let peek = c.in-Some.ensures in
    let if1 = c.if-k-eq-LROUND.false in
    let if2 = c.if-k-eq-OP_KW.true in
    let prefix_op = c.prefix_op-s1.ensures in
    let close_node3 = c.close_node-then-k-eq-OP_KW.ensures in
    in_steps pre0 (s_look peek (s_false _ _ (kind_not if1) (s_true _ _ (kind_is if2) (s_by _ (runs_always prefix_op) (s_close close_node3 s_end)))))

pub prefix_name-s1-requires-2 : goal.prefix_name-s1-requires-2
prefix_name-s1-requires-2 c =
    let pre0 = c.requires.0 in
    pre0

pub close_node-requires-2 : goal.close_node-requires-2
close_node-requires-2 c =
    let pre1 = c.requires.1 in
    let prefix_name2 = c.prefix_name-s1-2.ensures in
    let prefix_name2_ok = prefix_name2.ok in
    (prefix_name2_ok.logs, pre1)

pub returns : goal.returns
unfolding decl.other_head plan choose chosen
returns c =
    let pre0 = c.requires.0 in
    let peek = c.in-Some.ensures in
    let if1 = c.if-k-eq-LROUND.false in
    let if2 = c.if-k-eq-OP_KW.false in
    let prefix_name2 = c.prefix_name-s1-2.ensures in
    let close_node4 = c.close_node-2.ensures in
    in_steps pre0 (s_look peek (s_false _ _ (kind_not if1) (s_false _ _ (kind_not if2) (s_by _ (runs_always prefix_name2) (s_close close_node4 s_end)))))
