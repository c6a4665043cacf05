-- by tools/prove
use Rattle.grammar.specs.Util as util
use Rattle.parser.specs.Runs.{ok_marks, ok_eats, ok_state, small_len}
use Rattle.parser.specs.Plans.{plan, choose, chosen, by_steps, s_mark, s_shut, hushed, s_by, s_eats, eats_settled, s_end}
use mathlib.Core.Path.{refl}
use Rattle.util.proofs.path_part.Goals as goal

pub refuse_for-requires : goal.refuse_for-requires
refuse_for-requires c =
    tt

pub returns-then-left-eq0 : goal.returns-then-left-eq0
unfolding util.path_part plan choose chosen hushed
returns-then-left-eq0 c =
    let pre0 = c.requires in
    let if1 = c.if-left-eq0.true in
    let refuse_for = c.refuse_for.ensures in
    by_steps pre0 (λ b. s_shut if1 refuse_for (λ k l. refl))

pub mark-s1-requires : goal.mark-s1-requires
mark-s1-requires c =
    tt

pub eat_name_star-got-requires : goal.eat_name_star-got-requires
eat_name_star-got-requires c =
    let pre0 = c.requires in
    let mark = c.mark-s1.ensures in
    let mark_ok = ok_marks mark pre0 in
    (mark_ok.reads, mark_ok.logs, mark_ok.holds)

pub either-s2-requires : goal.either-s2-requires
either-s2-requires c =
    tt

pub part_end-requires : goal.part_end-requires
part_end-requires c =
    let pre0 = c.requires in
    let mark = c.mark-s1.ensures in
    let mark_ok = ok_marks mark pre0 in
    let eat_name_star = c.eat_name_star-got.ensures in
    let eat_name_star_ok = ok_eats eat_name_star mark_ok in
    let either = c.either-s2.ensures in
    let either_ok = ok_state either eat_name_star_ok in
    (either_ok, small_len mark_ok)

pub returns : goal.returns
unfolding util.path_part plan choose chosen
returns c =
    let pre0 = c.requires in
    let if1 = c.if-left-eq0.false in
    let mark = c.mark-s1.ensures in
    let eat_name_star = c.eat_name_star-got.ensures in
    let either = c.either-s2.ensures in
    let part_end = c.part_end.ensures in
    by_steps pre0 (λ b. s_mark if1 mark (s_eats _ _ _ (eats_settled either eat_name_star) (s_by _ part_end s_end)))
