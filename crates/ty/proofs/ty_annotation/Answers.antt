-- by tools/prove
use Rattle.grammar.specs.Ty as types
use Rattle.parser.specs.Runs.{runs_in, test_true, test_false, ok_bumps, ok_marks, small_len}
use Rattle.parser.specs.Plans.{plan, choose, chosen, by_steps, s_look, s_true, s_false, s_bump, s_close, s_mark, s_shut, hushed, s_by, s_end}
use mathlib.Core.Path.{refl}
use Rattle.ty.proofs.ty_annotation.Goals as goal

pub peek-requires : goal.peek-requires
peek-requires c =
    let pre0 = c.requires in
    pre0.reads

pub returns-in_default : goal.returns-in_default
unfolding types.ty_annotation plan choose chosen
returns-in_default c =
    let pre0 = c.requires in
    let peek = c.in_default.ensures in
    by_steps pre0 (λ b. s_look peek s_end)

pub ascription-requires : goal.ascription-requires
ascription-requires c =
    tt

pub refuse_for-requires : goal.refuse_for-requires
refuse_for-requires c =
    tt

pub returns-then-left-eq0 : goal.returns-then-left-eq0
unfolding types.ty_annotation plan choose chosen hushed
returns-then-left-eq0 c =
    let pre0 = c.requires in
    let peek = c.in-Some.ensures in
    let ascription = c.ascription.ensures in
    let if1 = c.if-ascription.true in
    let if2 = c.if-left-eq0.true in
    let refuse_for = c.refuse_for.ensures in
    by_steps pre0 (λ b. s_look peek (s_true _ _ (test_true ascription if1) (s_shut if2 refuse_for (λ k l. refl))))

pub mark-s1-requires : goal.mark-s1-requires
mark-s1-requires c =
    tt

pub bump-s2-requires : goal.bump-s2-requires
bump-s2-requires c =
    let pre0 = c.requires in
    let mark = c.mark-s1.ensures in
    let mark_ok = ok_marks mark pre0 in
    (mark_ok.reads, mark_ok.logs)

pub ty_must-s3-requires : goal.ty_must-s3-requires
ty_must-s3-requires c =
    let pre0 = c.requires in
    let mark = c.mark-s1.ensures in
    let mark_ok = ok_marks mark pre0 in
    let bump = c.bump-s2.ensures in
    let bump_ok = ok_bumps bump mark_ok in
    bump_ok

pub close_node-requires : goal.close_node-requires
close_node-requires c =
    let pre0 = c.requires in
    let mark = c.mark-s1.ensures in
    let mark_ok = ok_marks mark pre0 in
    let ty_must = c.ty_must-s3.ensures in
    let ty_must_ok = ty_must.ok in
    (ty_must_ok.logs, small_len mark_ok)

pub returns-then-ascription : goal.returns-then-ascription
unfolding types.ty_annotation plan choose chosen
returns-then-ascription c =
    let pre0 = c.requires in
    let peek = c.in-Some.ensures in
    let ascription = c.ascription.ensures in
    let if1 = c.if-ascription.true in
    let if2 = c.if-left-eq0.false in
    let mark = c.mark-s1.ensures in
    let bump = c.bump-s2.ensures in
    let ty_must = c.ty_must-s3.ensures in
    let close_node = c.close_node.ensures in
    by_steps pre0 (λ b. s_look peek (s_true _ _ (test_true ascription if1) (s_mark if2 mark (s_bump bump (s_by _ (runs_in ty_must) (s_close close_node s_end))))))

pub returns : goal.returns
unfolding types.ty_annotation plan choose chosen
returns c =
    let pre0 = c.requires in
    let peek = c.in-Some.ensures in
    let ascription = c.ascription.ensures in
    let if1 = c.if-ascription.false in
    by_steps pre0 (λ b. s_look peek (s_false _ _ (test_false ascription if1) s_end))
