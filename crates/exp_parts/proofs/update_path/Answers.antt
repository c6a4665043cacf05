-- by tools/prove
use Rattle.grammar.specs.Exp as expr
use Rattle.parser.specs.Runs.{runs_in, ok_marks, ok_state, small_len}
use Rattle.parser.specs.Plans.{plan, choose, chosen, by_steps, s_close, s_mark, s_shut, hushed, s_by, settled, s_end}
use mathlib.Core.Path.{refl}
use Rattle.exp_parts.proofs.update_path.Goals as goal

pub refuse_for-requires : goal.refuse_for-requires
refuse_for-requires c =
    tt

pub returns-then-left-eq0 : goal.returns-then-left-eq0
unfolding expr.update_path plan choose chosen hushed
returns-then-left-eq0 c =
    let pre0 = c.requires in
    let if1 = c.if-left-eq0.true in
    let refuse_for = c.refuse_for.ensures in
    by_steps pre0 (λ b. s_shut if1 refuse_for (λ k l. refl))

pub mark-s1-requires : goal.mark-s1-requires
mark-s1-requires c =
    tt

pub path_no_infix-got-requires : goal.path_no_infix-got-requires
path_no_infix-got-requires c =
    let pre0 = c.requires in
    let mark = c.mark-s1.ensures in
    let mark_ok = ok_marks mark pre0 in
    mark_ok

pub either-s2-requires : goal.either-s2-requires
either-s2-requires c =
    tt

pub close_node-requires : goal.close_node-requires
close_node-requires c =
    let pre0 = c.requires in
    let mark = c.mark-s1.ensures in
    let mark_ok = ok_marks mark pre0 in
    let path_no_infix = c.path_no_infix-got.ensures in
    let path_no_infix_ok = path_no_infix.ok in
    let either = c.either-s2.ensures in
    let either_ok = ok_state either path_no_infix_ok in
    (either_ok.logs, small_len mark_ok)

pub returns : goal.returns
unfolding expr.update_path plan choose chosen
returns c =
    let pre0 = c.requires in
    let if1 = c.if-left-eq0.false in
    let mark = c.mark-s1.ensures in
    let path_no_infix = c.path_no_infix-got.ensures in
    let either = c.either-s2.ensures in
    let close_node = c.close_node.ensures in
    by_steps pre0 (λ b. s_mark if1 mark (s_by _ (settled either (runs_in path_no_infix)) (s_close close_node s_end)))
