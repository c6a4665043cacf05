-- by tools/prove
use Rattle.grammar.specs.Ty as types
use Rattle.parser.specs.Runs.{ok_bumps, ok_adds, ok_marks, ok_refused, small_len}
use Rattle.parser.specs.Plans.{plan, choose, chosen, in_steps, s_bump, s_close, s_mark, s_deep, s_end}
use Rattle.ty_parts.proofs.var_one.Goals as goal

pub refuse_for-s1-requires : goal.refuse_for-s1-requires
refuse_for-s1-requires c =
    tt

pub close_node-requires : goal.close_node-requires
close_node-requires c =
    let pre0 = c.requires.0 in
    let pre1 = c.requires.1 in
    let refuse_for = c.refuse_for-s1.ensures in
    let refuse_for_ok = ok_refused _ refuse_for pre0 in
    (refuse_for_ok.logs, pre1)

pub returns-then-left-eq0 : goal.returns-then-left-eq0
unfolding types.ty_var_one plan choose chosen
returns-then-left-eq0 c =
    let pre0 = c.requires.0 in
    let if1 = c.if-left-eq0.true in
    let refuse_for = c.refuse_for-s1.ensures in
    let close_node = c.close_node.ensures in
    in_steps pre0 (s_deep if1 refuse_for (s_close close_node s_end))

pub mark-s1-requires : goal.mark-s1-requires
mark-s1-requires c =
    tt

pub bump-s2-requires : goal.bump-s2-requires
bump-s2-requires c =
    let pre0 = c.requires.0 in
    let mark = c.mark-s1.ensures in
    let mark_ok = ok_marks mark pre0 in
    (mark_ok.reads, mark_ok.logs)

pub close_node-s3-requires : goal.close_node-s3-requires
close_node-s3-requires c =
    let pre0 = c.requires.0 in
    let mark = c.mark-s1.ensures in
    let mark_ok = ok_marks mark pre0 in
    let bump = c.bump-s2.ensures in
    let bump_ok = ok_bumps bump mark_ok in
    (bump_ok.logs, small_len mark_ok)

pub close_node-requires-2 : goal.close_node-requires-2
close_node-requires-2 c =
    let pre0 = c.requires.0 in
    let pre1 = c.requires.1 in
    let mark = c.mark-s1.ensures in
    let mark_ok = ok_marks mark pre0 in
    let bump = c.bump-s2.ensures in
    let bump_ok = ok_bumps bump mark_ok in
    let close_node2 = c.close_node-s3.ensures in
    let close_node2_ok = ok_adds close_node2 bump_ok in
    (close_node2_ok.logs, pre1)

pub returns : goal.returns
unfolding types.ty_var_one plan choose chosen
returns c =
    let pre0 = c.requires.0 in
    let if1 = c.if-left-eq0.false in
    let mark = c.mark-s1.ensures in
    let bump = c.bump-s2.ensures in
    let close_node2 = c.close_node-s3.ensures in
    let close_node3 = c.close_node-2.ensures in
    in_steps pre0 (s_mark if1 mark (s_bump bump (s_close close_node2 (s_close close_node3 s_end))))
