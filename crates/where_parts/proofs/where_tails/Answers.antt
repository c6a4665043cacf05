-- by tools/prove
use Rattle.grammar.specs.Dec as decl
use Rattle.laws.specs.Progress.{sig_step_advances}
use Rattle.parser.specs.Runs.{test_true, test_false, ok_bumps, ok_marks, loop_starts, loop_goes, loop_falls, loop_ends}
use Rattle.parser.specs.Plans.{plan, choose, chosen, in_steps, s_look, s_true, s_false, s_bump, s_mark, s_shut, hushed, s_by, s_end}
use mathlib.Core.Path.{refl}
use Rattle.where_parts.proofs.where_tails.Goals as goal

pub loop-k-init : goal.loop-k-init
loop-k-init c =
    let pre0 = c.requires.0 in
    let pre1 = c.requires.1 in
    loop_starts pre0

pub peek-requires : goal.peek-requires
peek-requires c =
    let inv = c.loop-k.invariant.ok in
    inv.reads

pub returns-in_default : goal.returns-in_default
unfolding decl.sig_step plan choose chosen
returns-in_default c =
    let inv = c.loop-k.invariant in
    let peek = c.in_default.ensures in
    loop_ends (sig_step_advances _ _) inv (in_steps inv.ok {n = c.args.left} {b = c.args.b} (s_look peek s_end))

pub where_and-requires : goal.where_and-requires
where_and-requires c =
    tt

pub refuse_for-s1-requires : goal.refuse_for-s1-requires
refuse_for-s1-requires c =
    tt

pub loop-k-smaller-then-left-eq0 : goal.loop-k-smaller-then-left-eq0
unfolding decl.sig_step plan choose chosen hushed
loop-k-smaller-then-left-eq0 c =
    let inv = c.loop-k.invariant in
    let peek = c.in-Some.ensures in
    let where_and = c.where_and.ensures in
    let if1 = c.if-where_and.true in
    let if2 = c.if-left-eq0.true in
    let refuse_for = c.refuse_for-s1.ensures in
    loop_falls (sig_step_advances _ _) (in_steps inv.ok {n = c.args.left} {b = c.args.b} (s_look peek (s_true _ _ (test_true where_and if1) (s_shut if2 refuse_for (λ k l. refl)))))

pub loop-k-preserved-then-left-eq0 : goal.loop-k-preserved-then-left-eq0
unfolding decl.sig_step plan choose chosen hushed
loop-k-preserved-then-left-eq0 c =
    let inv = c.loop-k.invariant in
    let peek = c.in-Some.ensures in
    let where_and = c.where_and.ensures in
    let if1 = c.if-where_and.true in
    let if2 = c.if-left-eq0.true in
    let refuse_for = c.refuse_for-s1.ensures in
    loop_goes (sig_step_advances _ _) inv (in_steps inv.ok {n = c.args.left} {b = c.args.b} (s_look peek (s_true _ _ (test_true where_and if1) (s_shut if2 refuse_for (λ k l. refl)))))

pub mark-s2-requires : goal.mark-s2-requires
mark-s2-requires c =
    tt

pub bump-s3-requires : goal.bump-s3-requires
bump-s3-requires c =
    let inv = c.loop-k.invariant.ok in
    let mark = c.mark-s2.ensures in
    let mark_ok = ok_marks mark inv in
    (mark_ok.reads, mark_ok.logs)

pub where_tail-s1-requires : goal.where_tail-s1-requires
where_tail-s1-requires c =
    let pre1 = c.requires.1 in
    let inv = c.loop-k.invariant.ok in
    let mark = c.mark-s2.ensures in
    let mark_ok = ok_marks mark inv in
    let bump = c.bump-s3.ensures in
    let bump_ok = ok_bumps bump mark_ok in
    (bump_ok, pre1)

pub loop-k-smaller : goal.loop-k-smaller
unfolding decl.sig_step plan choose chosen
loop-k-smaller c =
    let inv = c.loop-k.invariant in
    let peek = c.in-Some.ensures in
    let where_and = c.where_and.ensures in
    let if1 = c.if-where_and.true in
    let if2 = c.if-left-eq0.false in
    let mark = c.mark-s2.ensures in
    let bump = c.bump-s3.ensures in
    let where_tail = c.where_tail-s1.ensures in
    loop_falls (sig_step_advances _ _) (in_steps inv.ok {n = c.args.left} {b = c.args.b} (s_look peek (s_true _ _ (test_true where_and if1) (s_mark if2 mark (s_bump bump (s_by _ where_tail s_end))))))

pub loop-k-preserved : goal.loop-k-preserved
unfolding decl.sig_step plan choose chosen
loop-k-preserved c =
    let inv = c.loop-k.invariant in
    let peek = c.in-Some.ensures in
    let where_and = c.where_and.ensures in
    let if1 = c.if-where_and.true in
    let if2 = c.if-left-eq0.false in
    let mark = c.mark-s2.ensures in
    let bump = c.bump-s3.ensures in
    let where_tail = c.where_tail-s1.ensures in
    loop_goes (sig_step_advances _ _) inv (in_steps inv.ok {n = c.args.left} {b = c.args.b} (s_look peek (s_true _ _ (test_true where_and if1) (s_mark if2 mark (s_bump bump (s_by _ where_tail s_end))))))

pub returns-in-loop-k : goal.returns-in-loop-k
unfolding decl.sig_step plan choose chosen
returns-in-loop-k c =
    let inv = c.loop-k.invariant in
    let peek = c.in-Some.ensures in
    let where_and = c.where_and.ensures in
    let if1 = c.if-where_and.false in
    loop_ends (sig_step_advances _ _) inv (in_steps inv.ok {n = c.args.left} {b = c.args.b} (s_look peek (s_false _ _ (test_false where_and if1) s_end)))
