-- by tools/prove
use Rattle.grammar.specs.Util as util
use Rattle.parser.specs.Runs.{kind_at, kind_off, ok_bumps, ok_marks, ok_eats, ok_state, small_len}
use Rattle.parser.specs.Plans.{plan, choose, chosen, by_steps, s_kind, s_true, s_false, s_bump, s_close, s_mark, s_shut, hushed, s_eats, eats_settled, s_end}
use native.Mathlib.Omega.{arith}
use mathlib.Core.Path.{refl}
use Rattle.ty_parts.proofs.var_item.Goals as goal

pub refuse_for-requires : goal.refuse_for-requires
refuse_for-requires c =
    tt

pub returns-then-left-eq0 : goal.returns-then-left-eq0
unfolding util.end_item plan choose chosen hushed
returns-then-left-eq0 c =
    let pre0 = c.requires in
    let if1 = c.if-left-eq0.true in
    let refuse_for = c.refuse_for.ensures in
    by_steps pre0 (λ b. s_shut if1 refuse_for (λ k l. refl))

pub mark-s1-requires : goal.mark-s1-requires
mark-s1-requires c =
    tt

pub eat-got-requires : goal.eat-got-requires
eat-got-requires c =
    let pre0 = c.requires in
    let mark = c.mark-s1.ensures in
    let mark_ok = ok_marks mark pre0 in
    (mark_ok.reads, mark_ok.logs, mark_ok.holds, omega arith)

pub either-s2-requires : goal.either-s2-requires
either-s2-requires c =
    tt

pub at-requires : goal.at-requires
at-requires c =
    let pre0 = c.requires in
    let mark = c.mark-s1.ensures in
    let mark_ok = ok_marks mark pre0 in
    let eat = c.eat-got.ensures in
    let eat_ok = ok_eats eat mark_ok in
    let either = c.either-s2.ensures in
    let either_ok = ok_state either eat_ok in
    either_ok.reads

pub bump-s3-requires : goal.bump-s3-requires
bump-s3-requires c =
    let pre0 = c.requires in
    let mark = c.mark-s1.ensures in
    let mark_ok = ok_marks mark pre0 in
    let eat = c.eat-got.ensures in
    let eat_ok = ok_eats eat mark_ok in
    let either = c.either-s2.ensures in
    let either_ok = ok_state either eat_ok in
    (either_ok.reads, either_ok.logs)

pub close_node-requires : goal.close_node-requires
close_node-requires c =
    let pre0 = c.requires in
    let mark = c.mark-s1.ensures in
    let mark_ok = ok_marks mark pre0 in
    let eat = c.eat-got.ensures in
    let eat_ok = ok_eats eat mark_ok in
    let either = c.either-s2.ensures in
    let either_ok = ok_state either eat_ok in
    let bump = c.bump-s3.ensures in
    let bump_ok = ok_bumps bump either_ok in
    (bump_ok.logs, small_len mark_ok)

pub close_node-requires-else-at : goal.close_node-requires-else-at
close_node-requires-else-at c =
    let pre0 = c.requires in
    let mark = c.mark-s1.ensures in
    let mark_ok = ok_marks mark pre0 in
    let eat = c.eat-got.ensures in
    let eat_ok = ok_eats eat mark_ok in
    let either = c.either-s2.ensures in
    let either_ok = ok_state either eat_ok in
    (either_ok.logs, small_len mark_ok)

pub returns-then-at : goal.returns-then-at
unfolding util.end_item plan choose chosen
returns-then-at c =
    let pre0 = c.requires in
    let if1 = c.if-left-eq0.false in
    let mark = c.mark-s1.ensures in
    let eat = c.eat-got.ensures in
    let either = c.either-s2.ensures in
    let at = c.at.ensures in
    let if2 = c.if-at.true in
    let bump = c.bump-s3.ensures in
    let close_node = c.close_node.ensures in
    by_steps pre0 (λ b. s_mark if1 mark (s_eats _ _ _ (eats_settled either eat) (s_kind (s_true _ _ (kind_at _ _ _ _ at if2) (s_bump bump (s_close close_node s_end))))))

pub returns-else-at : goal.returns-else-at
unfolding util.end_item plan choose chosen
returns-else-at c =
    let pre0 = c.requires in
    let if1 = c.if-left-eq0.false in
    let mark = c.mark-s1.ensures in
    let eat = c.eat-got.ensures in
    let either = c.either-s2.ensures in
    let at = c.at.ensures in
    let if2 = c.if-at.false in
    let close_node2 = c.close_node-else-at.ensures in
    by_steps pre0 (λ b. s_mark if1 mark (s_eats _ _ _ (eats_settled either eat) (s_kind (s_false _ _ (kind_off _ _ _ _ at if2) (s_close close_node2 s_end)))))
