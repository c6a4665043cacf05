-- by tools/prove
use Rattle.grammar.specs.Util as util
use Rattle.parser.specs.Runs.{ok_bumps, ok_marks, small_len}
use Rattle.parser.specs.Plans.{plan, choose, chosen, by_steps, s_bump, s_mark, s_shut, hushed, s_by, s_end}
use mathlib.Core.Path.{refl}
use Rattle.util.proofs.path_start.Goals as goal

pub refuse_for-requires : goal.refuse_for-requires
refuse_for-requires c =
    tt

pub returns-then-left-eq0 : goal.returns-then-left-eq0
unfolding util.path_start plan choose chosen hushed
returns-then-left-eq0 c =
    let pre0 = c.requires in
    let if1 = c.if-left-eq0.true in
    let refuse_for = c.refuse_for.ensures in
    by_steps pre0 (λ b. s_shut if1 refuse_for (λ k l. refl))

pub mark-s1-requires : goal.mark-s1-requires
mark-s1-requires c =
    tt

pub bump-s2-requires : goal.bump-s2-requires
bump-s2-requires c =
    let pre0 = c.requires in
    let mark = c.mark-s1.ensures in
    let mark_ok = ok_marks mark pre0 in
    (mark_ok.reads, mark_ok.logs)

pub part_end-requires : goal.part_end-requires
part_end-requires c =
    let pre0 = c.requires in
    let mark = c.mark-s1.ensures in
    let mark_ok = ok_marks mark pre0 in
    let bump = c.bump-s2.ensures in
    let bump_ok = ok_bumps bump mark_ok in
    (bump_ok, small_len mark_ok)

pub returns : goal.returns
unfolding util.path_start plan choose chosen
returns c =
    let pre0 = c.requires in
    let if1 = c.if-left-eq0.false in
    let mark = c.mark-s1.ensures in
    let bump = c.bump-s2.ensures in
    let part_end = c.part_end.ensures in
    by_steps pre0 (λ b. s_mark if1 mark (s_bump bump (s_by _ part_end s_end)))
