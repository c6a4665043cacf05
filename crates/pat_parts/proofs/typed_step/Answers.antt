-- by tools/prove
use Rattle.grammar.specs.Pat as pat
use Rattle.parser.specs.Runs.{runs_in, test_true, test_false, ok_bumps, ok_marks}
use Rattle.parser.specs.Plans.{plan, choose, chosen, in_steps, s_true, s_false, s_bump, s_close, s_mark, s_shut, hushed, s_by, s_end}
use mathlib.Core.Path.{refl}
use Rattle.pat_parts.proofs.typed_step.Goals as goal

pub is_infix-requires : goal.is_infix-requires
is_infix-requires c =
    tt

pub returns-then-is_infix : goal.returns-then-is_infix
unfolding pat.typed_step plan choose chosen
returns-then-is_infix c =
    let pre0 = c.requires.0 in
    let is_infix = c.is_infix.ensures in
    let if1 = c.if-is_infix.true in
    in_steps pre0 (s_true _ _ (test_true is_infix if1) s_end)

pub refuse_for-requires : goal.refuse_for-requires
refuse_for-requires c =
    tt

pub returns-then-left-eq0 : goal.returns-then-left-eq0
unfolding pat.typed_step plan choose chosen hushed
returns-then-left-eq0 c =
    let pre0 = c.requires.0 in
    let is_infix = c.is_infix.ensures in
    let if1 = c.if-is_infix.false in
    let if2 = c.if-left-eq0.true in
    let refuse_for = c.refuse_for.ensures in
    in_steps pre0 (s_false _ _ (test_false is_infix if1) (s_shut if2 refuse_for (λ k l. refl)))

pub mark-requires : goal.mark-requires
mark-requires c =
    tt

pub bump-s1-requires : goal.bump-s1-requires
bump-s1-requires c =
    let pre0 = c.requires.0 in
    let mark = c.mark.ensures in
    let mark_ok = ok_marks mark pre0 in
    (mark_ok.reads, mark_ok.logs)

pub ty_must-s2-requires : goal.ty_must-s2-requires
ty_must-s2-requires c =
    let pre0 = c.requires.0 in
    let mark = c.mark.ensures in
    let mark_ok = ok_marks mark pre0 in
    let bump = c.bump-s1.ensures in
    let bump_ok = ok_bumps bump mark_ok in
    bump_ok

pub close_node-requires : goal.close_node-requires
close_node-requires c =
    let pre1 = c.requires.1 in
    let ty_must = c.ty_must-s2.ensures in
    let ty_must_ok = ty_must.ok in
    (ty_must_ok.logs, pre1)

pub returns : goal.returns
unfolding pat.typed_step plan choose chosen
returns c =
    let pre0 = c.requires.0 in
    let is_infix = c.is_infix.ensures in
    let if1 = c.if-is_infix.false in
    let if2 = c.if-left-eq0.false in
    let mark = c.mark.ensures in
    let bump = c.bump-s1.ensures in
    let ty_must = c.ty_must-s2.ensures in
    let close_node = c.close_node.ensures in
    in_steps pre0 (s_false _ _ (test_false is_infix if1) (s_mark if2 mark (s_bump bump (s_by _ (runs_in ty_must) (s_close close_node s_end)))))
