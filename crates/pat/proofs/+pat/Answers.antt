-- by tools/prove
use Rattle.grammar.specs.Util as util
use Rattle.grammar.specs.Pat as pat
use Rattle.grammar.specs.Root as root
use Rattle.laws.specs.Progress.{end_turn_advances, pat_step_advances}
use Rattle.parser.specs.View.{mem, out_state}
use Rattle.parser.specs.Runs.{runs_in, runs_always, kind_at, kind_off, kind_is, kind_not, test_true, test_false, ok_bumps, ok_tells, ok_marks, ok_eats, ok_state, small_len, small_index, loop_starts, loop_goes, loop_falls, loop_ends}
use Rattle.parser.specs.Plans.{plan, choose, chosen, in_steps, by_steps, s_rule, s_look, s_index, s_kind, s_fixed, s_true, s_false, s_bump, s_close, s_report, s_mark, s_shut, hushed, s_by, s_eats, s_run, settled, eats_settled, s_end}
use native.Mathlib.Omega.{arith}
use mathlib.Core.Path.{refl}
use mathlib.Core.Bool.{true}
use Rattle.pat.proofs.+pat.Goals as goal

pub arg_item-refuse_for-requires : goal.arg_item-refuse_for-requires
arg_item-refuse_for-requires t c =
    tt

pub arg_item-returns-then-left-eq0 : goal.arg_item-returns-then-left-eq0
unfolding util.end_item plan choose chosen hushed
arg_item-returns-then-left-eq0 t c =
    let X0 = c.args.lent.text.now in
    let T0 = c.args.lent.toks.now in
    let N0 = c.args.lent.env.now in
    let J0 = c.args.table.now in
    let L0 = c.args.scratch.now in
    let H0 = c.args.finds.now in
    let S0 = c.args.s in
    let S2 = c.refuse_for.result in
    by_steps {m = (mem X0 T0 N0 J0 L0 H0 S0)} {m' = (mem X0 T0 N0 J0 L0 H0 S2)} (c.requires) (λ b. s_shut (c.if-left-eq0.true) (c.refuse_for.ensures) (λ k l. refl))

pub arg_item-mark-s1-requires : goal.arg_item-mark-s1-requires
arg_item-mark-s1-requires t c =
    tt

pub arg_item-pat_must-s2-requires : goal.arg_item-pat_must-s2-requires
arg_item-pat_must-s2-requires t c =
    let pre0 = c.requires in
    let mark = c.mark-s1.ensures in
    let mark_ok = ok_marks mark pre0 in
    (omega arith, mark_ok)

pub arg_item-at-requires : goal.arg_item-at-requires
arg_item-at-requires t c =
    let pat_must = c.pat_must-s2.ensures in
    let pat_must_ok = pat_must.ok in
    pat_must_ok.reads

pub arg_item-bump-s3-requires : goal.arg_item-bump-s3-requires
arg_item-bump-s3-requires t c =
    let pat_must = c.pat_must-s2.ensures in
    let pat_must_ok = pat_must.ok in
    (pat_must_ok.reads, pat_must_ok.logs)

pub arg_item-close_node-requires : goal.arg_item-close_node-requires
arg_item-close_node-requires t c =
    let pre0 = c.requires in
    let mark = c.mark-s1.ensures in
    let mark_ok = ok_marks mark pre0 in
    let pat_must = c.pat_must-s2.ensures in
    let pat_must_ok = pat_must.ok in
    let bump = c.bump-s3.ensures in
    let bump_ok = ok_bumps bump pat_must_ok in
    (bump_ok.logs, small_len mark_ok)

pub arg_item-returns-then-at : goal.arg_item-returns-then-at
unfolding util.end_item plan choose chosen
arg_item-returns-then-at t c =
    let X0 = c.args.lent.text.now in
    let T0 = c.args.lent.toks.now in
    let N0 = c.args.lent.env.now in
    let J0 = c.args.table.now in
    let L0 = c.args.scratch.now in
    let H0 = c.args.finds.now in
    let S0 = c.args.s in
    let S2 = c.mark-s1.result in
    let L3 = c.pat_must-s2.new.scratch in
    let H3 = c.pat_must-s2.new.finds in
    let S3 = c.pat_must-s2.result in
    let L6 = c.bump-s3.new.scratch in
    let S6 = c.bump-s3.result in
    let L7 = c.close_node.new.scratch in
    let S7 = c.close_node.result in
    by_steps {m = (mem X0 T0 N0 J0 L0 H0 S0)} {m' = (mem X0 T0 N0 J0 L7 H3 S7)} (c.requires) (λ b. s_mark {e = (mem X0 T0 N0 J0 L7 H3 S7)} {x = X0} {t = T0} {n = N0} {j = J0} {l = L0} {h = H0} {s = S0} {s' = S2} (c.if-left-eq0.false) (c.mark-s1.ensures) (s_by {a = (mem X0 T0 N0 J0 L0 H0 S2)} {c = (mem X0 T0 N0 J0 L3 H3 S3)} {e = (mem X0 T0 N0 J0 L7 H3 S7)} _ (runs_in {a = (mem X0 T0 N0 J0 L0 H0 S2)} {c = (mem X0 T0 N0 J0 L3 H3 S3)} (c.pat_must-s2.ensures)) (s_kind {a = (mem X0 T0 N0 J0 L3 H3 S3)} {e = (mem X0 T0 N0 J0 L7 H3 S7)} (s_true {a = (mem X0 T0 N0 J0 L3 H3 S3)} {e = (mem X0 T0 N0 J0 L7 H3 S7)} _ _ (kind_at _ _ (mem X0 T0 N0 J0 L3 H3 S3) _ (c.at.ensures) (c.if-at.true)) (s_bump {e = (mem X0 T0 N0 J0 L7 H3 S7)} {x = X0} {t = T0} {n = N0} {j = J0} {l = L3} {h = H3} {s = S3} {s' = S6} {l' = L6} (c.bump-s3.ensures) (s_close {e = (mem X0 T0 N0 J0 L7 H3 S7)} {x = X0} {t = T0} {n = N0} {j = J0} {l = L6} {h = H3} {s = S6} {s' = S7} {l' = L7} (c.close_node.ensures) s_end))))))

pub arg_item-close_node-requires-2 : goal.arg_item-close_node-requires-2
arg_item-close_node-requires-2 t c =
    let pre0 = c.requires in
    let mark = c.mark-s1.ensures in
    let mark_ok = ok_marks mark pre0 in
    let pat_must = c.pat_must-s2.ensures in
    let pat_must_ok = pat_must.ok in
    (pat_must_ok.logs, small_len mark_ok)

pub arg_item-returns : goal.arg_item-returns
unfolding util.end_item plan choose chosen
arg_item-returns t c =
    let X0 = c.args.lent.text.now in
    let T0 = c.args.lent.toks.now in
    let N0 = c.args.lent.env.now in
    let J0 = c.args.table.now in
    let L0 = c.args.scratch.now in
    let H0 = c.args.finds.now in
    let S0 = c.args.s in
    let S2 = c.mark-s1.result in
    let L3 = c.pat_must-s2.new.scratch in
    let H3 = c.pat_must-s2.new.finds in
    let S3 = c.pat_must-s2.result in
    let L6 = c.close_node-2.new.scratch in
    let S6 = c.close_node-2.result in
    by_steps {m = (mem X0 T0 N0 J0 L0 H0 S0)} {m' = (mem X0 T0 N0 J0 L6 H3 S6)} (c.requires) (λ b. s_mark {e = (mem X0 T0 N0 J0 L6 H3 S6)} {x = X0} {t = T0} {n = N0} {j = J0} {l = L0} {h = H0} {s = S0} {s' = S2} (c.if-left-eq0.false) (c.mark-s1.ensures) (s_by {a = (mem X0 T0 N0 J0 L0 H0 S2)} {c = (mem X0 T0 N0 J0 L3 H3 S3)} {e = (mem X0 T0 N0 J0 L6 H3 S6)} _ (runs_in {a = (mem X0 T0 N0 J0 L0 H0 S2)} {c = (mem X0 T0 N0 J0 L3 H3 S3)} (c.pat_must-s2.ensures)) (s_kind {a = (mem X0 T0 N0 J0 L3 H3 S3)} {e = (mem X0 T0 N0 J0 L6 H3 S6)} (s_false {a = (mem X0 T0 N0 J0 L3 H3 S3)} {e = (mem X0 T0 N0 J0 L6 H3 S6)} _ _ (kind_off _ _ (mem X0 T0 N0 J0 L3 H3 S3) _ (c.at.ensures) (c.if-at.false)) (s_close {e = (mem X0 T0 N0 J0 L6 H3 S6)} {x = X0} {t = T0} {n = N0} {j = J0} {l = L3} {h = H3} {s = S3} {s' = S6} {l' = L6} (c.close_node-2.ensures) s_end)))))

pub arg_turn-at-requires : goal.arg_turn-at-requires
arg_turn-at-requires t c =
    let pre0 = c.requires.0 in
    pre0.reads

pub arg_turn-bump-requires : goal.arg_turn-bump-requires
arg_turn-bump-requires t c =
    let pre0 = c.requires.0 in
    (pre0.reads, pre0.logs)

pub arg_turn-returns-then-at : goal.arg_turn-returns-then-at
unfolding util.end_turn plan choose chosen
arg_turn-returns-then-at t c =
    let X0 = c.args.lent.text.now in
    let T0 = c.args.lent.toks.now in
    let N0 = c.args.lent.env.now in
    let J0 = c.args.table.now in
    let L0 = c.args.scratch.now in
    let H0 = c.args.finds.now in
    let S0 = c.args.s in
    let L3 = c.bump.new.scratch in
    let S3 = c.bump.result in
    by_steps {m = (mem X0 T0 N0 J0 L0 H0 S0)} {m' = (mem X0 T0 N0 J0 L3 H0 S3)} (c.requires.0) (λ b. s_kind {a = (mem X0 T0 N0 J0 L0 H0 S0)} {e = (mem X0 T0 N0 J0 L3 H0 S3)} (s_true {a = (mem X0 T0 N0 J0 L0 H0 S0)} {e = (mem X0 T0 N0 J0 L3 H0 S3)} _ _ (kind_at _ _ (mem X0 T0 N0 J0 L0 H0 S0) _ (c.at.ensures) (c.if-at.true)) (s_bump {e = (mem X0 T0 N0 J0 L3 H0 S3)} {x = X0} {t = T0} {n = N0} {j = J0} {l = L0} {h = H0} {s = S0} {s' = S3} {l' = L3} (c.bump.ensures) s_end)))

pub arg_turn-arg_item-item-requires : goal.arg_turn-arg_item-item-requires
arg_turn-arg_item-item-requires t c =
    let pre0 = c.requires.0 in
    (omega arith, pre0)

pub arg_turn-eat-got-requires : goal.arg_turn-eat-got-requires
arg_turn-eat-got-requires t c =
    let arg_item = c.in-Err.ensures in
    let arg_item_ok = arg_item.ok in
    (arg_item_ok.reads, arg_item_ok.logs, arg_item_ok.holds, omega arith)

pub arg_turn-either-s2-requires : goal.arg_turn-either-s2-requires
arg_turn-either-s2-requires t c =
    tt

pub arg_turn-returns-in-Ok : goal.arg_turn-returns-in-Ok
unfolding util.end_turn plan choose chosen
arg_turn-returns-in-Ok t c =
    let X0 = c.args.lent.text.now in
    let T0 = c.args.lent.toks.now in
    let N0 = c.args.lent.env.now in
    let J0 = c.args.table.now in
    let L0 = c.args.scratch.now in
    let H0 = c.args.finds.now in
    let S0 = c.args.s in
    let L3 = c.arg_item-item.new.scratch in
    let H3 = c.arg_item-item.new.finds in
    let S3 = c.in-Ok.s1 in
    by_steps {m = (mem X0 T0 N0 J0 L0 H0 S0)} {m' = (mem X0 T0 N0 J0 L3 H3 S3)} (c.requires.0) (λ b. s_kind {a = (mem X0 T0 N0 J0 L0 H0 S0)} {e = (mem X0 T0 N0 J0 L3 H3 S3)} (s_false {a = (mem X0 T0 N0 J0 L0 H0 S0)} {e = (mem X0 T0 N0 J0 L3 H3 S3)} _ _ (kind_off _ _ (mem X0 T0 N0 J0 L0 H0 S0) _ (c.at.ensures) (c.if-at.false)) (s_by {a = (mem X0 T0 N0 J0 L0 H0 S0)} {c = (mem X0 T0 N0 J0 L3 H3 S3)} {e = (mem X0 T0 N0 J0 L3 H3 S3)} _ (runs_in {a = (mem X0 T0 N0 J0 L0 H0 S0)} {c = (mem X0 T0 N0 J0 L3 H3 S3)} (c.in-Ok.ensures)) s_end)))

pub arg_turn-returns-in-Err : goal.arg_turn-returns-in-Err
unfolding util.end_turn plan choose chosen
arg_turn-returns-in-Err t c =
    let X0 = c.args.lent.text.now in
    let T0 = c.args.lent.toks.now in
    let N0 = c.args.lent.env.now in
    let J0 = c.args.table.now in
    let L0 = c.args.scratch.now in
    let H0 = c.args.finds.now in
    let S0 = c.args.s in
    let L3 = c.arg_item-item.new.scratch in
    let H3 = c.arg_item-item.new.finds in
    let S3 = c.in-Err.s1 in
    let L4 = c.eat-got.new.scratch in
    let H4 = c.eat-got.new.finds in
    let S5 = c.either-s2.result in
    by_steps {m = (mem X0 T0 N0 J0 L0 H0 S0)} {m' = (mem X0 T0 N0 J0 L4 H4 S5)} (c.requires.0) (λ b. s_kind {a = (mem X0 T0 N0 J0 L0 H0 S0)} {e = (mem X0 T0 N0 J0 L4 H4 S5)} (s_false {a = (mem X0 T0 N0 J0 L0 H0 S0)} {e = (mem X0 T0 N0 J0 L4 H4 S5)} _ _ (kind_off _ _ (mem X0 T0 N0 J0 L0 H0 S0) _ (c.at.ensures) (c.if-at.false)) (s_by {a = (mem X0 T0 N0 J0 L0 H0 S0)} {c = (mem X0 T0 N0 J0 L3 H3 S3)} {e = (mem X0 T0 N0 J0 L4 H4 S5)} _ (runs_in {a = (mem X0 T0 N0 J0 L0 H0 S0)} {c = (mem X0 T0 N0 J0 L3 H3 S3)} (c.in-Err.ensures)) (s_eats _ _ {x = X0} {t = T0} {n = N0} {j = J0} {l = L3} {h = H3} {l' = L4} {s = S3} {s' = S5} {e = (mem X0 T0 N0 J0 L4 H4 S5)} _ {h' = H4} (eats_settled (c.either-s2.ensures) (c.eat-got.ensures)) s_end))))

pub args-loop-s2-init : goal.args-loop-s2-init
args-loop-s2-init t c =
    let pre0 = c.requires.0 in
    let pre1 = c.requires.1 in
    loop_starts pre0

pub args-arg_turn-turn-requires : goal.args-arg_turn-turn-requires
args-arg_turn-turn-requires t c =
    let inv = c.loop-s2.invariant.ok in
    (omega arith, (inv, omega arith))

pub args-loop-s2-smaller : goal.args-loop-s2-smaller
args-loop-s2-smaller t c =
    let arg_turn = c.in-Ok.ensures in
    loop_falls (end_turn_advances true _ _ _ _ _ _) (runs_in {b = 0} arg_turn)

pub args-loop-s2-preserved : goal.args-loop-s2-preserved
args-loop-s2-preserved t c =
    let inv = c.loop-s2.invariant in
    let arg_turn = c.in-Ok.ensures in
    loop_goes (end_turn_advances true _ _ _ _ _ _) inv (runs_in arg_turn)

pub args-returns-in-Err : goal.args-returns-in-Err
args-returns-in-Err t c =
    let inv = c.loop-s2.invariant in
    let arg_turn = c.in-Err.ensures in
    loop_ends (end_turn_advances true _ _ _ _ _ _) inv (runs_in arg_turn)

pub as_pat_tl-at-requires : goal.as_pat_tl-at-requires
as_pat_tl-at-requires t c =
    let pre0 = c.requires in
    pre0.reads

pub as_pat_tl-refuse_for-requires : goal.as_pat_tl-refuse_for-requires
as_pat_tl-refuse_for-requires t c =
    tt

pub as_pat_tl-returns-then-left-eq0 : goal.as_pat_tl-returns-then-left-eq0
unfolding pat.as_pat_tl plan choose chosen hushed
as_pat_tl-returns-then-left-eq0 t c =
    let X0 = c.args.lent.text.now in
    let T0 = c.args.lent.toks.now in
    let N0 = c.args.lent.env.now in
    let J0 = c.args.table.now in
    let L0 = c.args.scratch.now in
    let H0 = c.args.finds.now in
    let S0 = c.args.s in
    let S4 = c.refuse_for.result in
    by_steps {m = (mem X0 T0 N0 J0 L0 H0 S0)} {m' = (mem X0 T0 N0 J0 L0 H0 S4)} (c.requires) (λ b. s_kind {a = (mem X0 T0 N0 J0 L0 H0 S0)} {e = (mem X0 T0 N0 J0 L0 H0 S4)} (s_true {a = (mem X0 T0 N0 J0 L0 H0 S0)} {e = (mem X0 T0 N0 J0 L0 H0 S4)} _ _ (kind_at _ _ (mem X0 T0 N0 J0 L0 H0 S0) _ (c.at.ensures) (c.if-at.true)) (s_shut (c.if-left-eq0.true) (c.refuse_for.ensures) (λ k l. refl))))

pub as_pat_tl-mark-s1-requires : goal.as_pat_tl-mark-s1-requires
as_pat_tl-mark-s1-requires t c =
    tt

pub as_pat_tl-bump-s2-requires : goal.as_pat_tl-bump-s2-requires
as_pat_tl-bump-s2-requires t c =
    let pre0 = c.requires in
    let mark = c.mark-s1.ensures in
    let mark_ok = ok_marks mark pre0 in
    (mark_ok.reads, mark_ok.logs)

pub as_pat_tl-pat_must-s3-requires : goal.as_pat_tl-pat_must-s3-requires
as_pat_tl-pat_must-s3-requires t c =
    let pre0 = c.requires in
    let mark = c.mark-s1.ensures in
    let mark_ok = ok_marks mark pre0 in
    let bump = c.bump-s2.ensures in
    let bump_ok = ok_bumps bump mark_ok in
    (omega arith, bump_ok)

pub as_pat_tl-close_node-requires : goal.as_pat_tl-close_node-requires
as_pat_tl-close_node-requires t c =
    let pre0 = c.requires in
    let mark = c.mark-s1.ensures in
    let mark_ok = ok_marks mark pre0 in
    let pat_must = c.pat_must-s3.ensures in
    let pat_must_ok = pat_must.ok in
    (pat_must_ok.logs, small_len mark_ok)

pub as_pat_tl-returns-then-at : goal.as_pat_tl-returns-then-at
unfolding pat.as_pat_tl plan choose chosen
as_pat_tl-returns-then-at t c =
    let X0 = c.args.lent.text.now in
    let T0 = c.args.lent.toks.now in
    let N0 = c.args.lent.env.now in
    let J0 = c.args.table.now in
    let L0 = c.args.scratch.now in
    let H0 = c.args.finds.now in
    let S0 = c.args.s in
    let S4 = c.mark-s1.result in
    let L5 = c.bump-s2.new.scratch in
    let S5 = c.bump-s2.result in
    let L6 = c.pat_must-s3.new.scratch in
    let H6 = c.pat_must-s3.new.finds in
    let S6 = c.pat_must-s3.result in
    let L7 = c.close_node.new.scratch in
    let S7 = c.close_node.result in
    by_steps {m = (mem X0 T0 N0 J0 L0 H0 S0)} {m' = (mem X0 T0 N0 J0 L7 H6 S7)} (c.requires) (λ b. s_kind {a = (mem X0 T0 N0 J0 L0 H0 S0)} {e = (mem X0 T0 N0 J0 L7 H6 S7)} (s_true {a = (mem X0 T0 N0 J0 L0 H0 S0)} {e = (mem X0 T0 N0 J0 L7 H6 S7)} _ _ (kind_at _ _ (mem X0 T0 N0 J0 L0 H0 S0) _ (c.at.ensures) (c.if-at.true)) (s_mark {e = (mem X0 T0 N0 J0 L7 H6 S7)} {x = X0} {t = T0} {n = N0} {j = J0} {l = L0} {h = H0} {s = S0} {s' = S4} (c.if-left-eq0.false) (c.mark-s1.ensures) (s_bump {e = (mem X0 T0 N0 J0 L7 H6 S7)} {x = X0} {t = T0} {n = N0} {j = J0} {l = L0} {h = H0} {s = S4} {s' = S5} {l' = L5} (c.bump-s2.ensures) (s_by {a = (mem X0 T0 N0 J0 L5 H0 S5)} {c = (mem X0 T0 N0 J0 L6 H6 S6)} {e = (mem X0 T0 N0 J0 L7 H6 S7)} _ (runs_in {a = (mem X0 T0 N0 J0 L5 H0 S5)} {c = (mem X0 T0 N0 J0 L6 H6 S6)} (c.pat_must-s3.ensures)) (s_close {e = (mem X0 T0 N0 J0 L7 H6 S7)} {x = X0} {t = T0} {n = N0} {j = J0} {l = L6} {h = H6} {s = S6} {s' = S7} {l' = L7} (c.close_node.ensures) s_end))))))

pub as_pat_tl-returns : goal.as_pat_tl-returns
unfolding pat.as_pat_tl plan choose chosen
as_pat_tl-returns t c =
    let X0 = c.args.lent.text.now in
    let T0 = c.args.lent.toks.now in
    let N0 = c.args.lent.env.now in
    let J0 = c.args.table.now in
    let L0 = c.args.scratch.now in
    let H0 = c.args.finds.now in
    let S0 = c.args.s in
    by_steps {m = (mem X0 T0 N0 J0 L0 H0 S0)} {m' = (mem X0 T0 N0 J0 L0 H0 S0)} (c.requires) (λ b. s_kind {a = (mem X0 T0 N0 J0 L0 H0 S0)} {e = (mem X0 T0 N0 J0 L0 H0 S0)} (s_false {a = (mem X0 T0 N0 J0 L0 H0 S0)} {e = (mem X0 T0 N0 J0 L0 H0 S0)} _ _ (kind_off _ _ (mem X0 T0 N0 J0 L0 H0 S0) _ (c.at.ensures) (c.if-at.false)) s_end))

pub as_step-is_infix-requires : goal.as_step-is_infix-requires
as_step-is_infix-requires t c =
    tt

pub as_step-returns-then-is_infix : goal.as_step-returns-then-is_infix
unfolding pat.as_step plan choose chosen
as_step-returns-then-is_infix t c =
    let X0 = c.args.lent.text.now in
    let T0 = c.args.lent.toks.now in
    let N0 = c.args.lent.env.now in
    let J0 = c.args.table.now in
    let L0 = c.args.scratch.now in
    let H0 = c.args.finds.now in
    let S0 = c.args.s in
    in_steps {m = (mem X0 T0 N0 J0 L0 H0 S0)} {m' = (mem X0 T0 N0 J0 L0 H0 S0)} (c.requires.0) (s_true {a = (mem X0 T0 N0 J0 L0 H0 S0)} {e = (mem X0 T0 N0 J0 L0 H0 S0)} _ _ (test_true (c.is_infix.ensures) (c.if-is_infix.true)) s_end)

pub as_step-refuse_for-requires : goal.as_step-refuse_for-requires
as_step-refuse_for-requires t c =
    tt

pub as_step-returns-then-left-eq0 : goal.as_step-returns-then-left-eq0
unfolding pat.as_step plan choose chosen hushed
as_step-returns-then-left-eq0 t c =
    let X0 = c.args.lent.text.now in
    let T0 = c.args.lent.toks.now in
    let N0 = c.args.lent.env.now in
    let J0 = c.args.table.now in
    let L0 = c.args.scratch.now in
    let H0 = c.args.finds.now in
    let S0 = c.args.s in
    let S4 = c.refuse_for.result in
    in_steps {m = (mem X0 T0 N0 J0 L0 H0 S0)} {m' = (mem X0 T0 N0 J0 L0 H0 S4)} (c.requires.0) (s_false {a = (mem X0 T0 N0 J0 L0 H0 S0)} {e = (mem X0 T0 N0 J0 L0 H0 S4)} _ _ (test_false (c.is_infix.ensures) (c.if-is_infix.false)) (s_shut (c.if-left-eq0.true) (c.refuse_for.ensures) (λ k l. refl)))

pub as_step-mark-s1-requires : goal.as_step-mark-s1-requires
as_step-mark-s1-requires t c =
    tt

pub as_step-as_pat_tl-got-requires : goal.as_step-as_pat_tl-got-requires
as_step-as_pat_tl-got-requires t c =
    let pre0 = c.requires.0 in
    let mark = c.mark-s1.ensures in
    let mark_ok = ok_marks mark pre0 in
    (omega arith, mark_ok)

pub as_step-close_node-requires : goal.as_step-close_node-requires
as_step-close_node-requires t c =
    let pre1 = c.requires.1 in
    let as_pat_tl = c.in-Ok.ensures in
    let as_pat_tl_ok = as_pat_tl.ok in
    (as_pat_tl_ok.logs, pre1)

pub as_step-report_error-s3-requires : goal.as_step-report_error-s3-requires
as_step-report_error-s3-requires t c =
    let as_pat_tl = c.in-Err.ensures in
    let as_pat_tl_ok = as_pat_tl.ok in
    (as_pat_tl_ok.holds, (let few = as_pat_tl_ok.reads.few in let inside = as_pat_tl_ok.reads.inside in omega arith), omega arith)

pub as_step-close_node-requires-in-Err : goal.as_step-close_node-requires-in-Err
as_step-close_node-requires-in-Err t c =
    let pre1 = c.requires.1 in
    let as_pat_tl = c.in-Err.ensures in
    let as_pat_tl_ok = as_pat_tl.ok in
    let report_error = c.report_error-s3.ensures in
    let report_error_ok = ok_tells report_error as_pat_tl_ok in
    (report_error_ok.logs, pre1)

pub as_step-returns-in-Ok : goal.as_step-returns-in-Ok
unfolding pat.as_step plan choose chosen
as_step-returns-in-Ok t c =
    let X0 = c.args.lent.text.now in
    let T0 = c.args.lent.toks.now in
    let N0 = c.args.lent.env.now in
    let J0 = c.args.table.now in
    let L0 = c.args.scratch.now in
    let H0 = c.args.finds.now in
    let S0 = c.args.s in
    let S4 = c.mark-s1.result in
    let L5 = c.as_pat_tl-got.new.scratch in
    let H5 = c.as_pat_tl-got.new.finds in
    let S5 = c.in-Ok.s2 in
    let L6 = c.close_node.new.scratch in
    let S6 = c.close_node.result in
    in_steps {m = (mem X0 T0 N0 J0 L0 H0 S0)} {m' = (mem X0 T0 N0 J0 L6 H5 S6)} (c.requires.0) (s_false {a = (mem X0 T0 N0 J0 L0 H0 S0)} {e = (mem X0 T0 N0 J0 L6 H5 S6)} _ _ (test_false (c.is_infix.ensures) (c.if-is_infix.false)) (s_mark {e = (mem X0 T0 N0 J0 L6 H5 S6)} {x = X0} {t = T0} {n = N0} {j = J0} {l = L0} {h = H0} {s = S0} {s' = S4} (c.if-left-eq0.false) (c.mark-s1.ensures) (s_by {a = (mem X0 T0 N0 J0 L0 H0 S4)} {c = (mem X0 T0 N0 J0 L5 H5 S5)} {e = (mem X0 T0 N0 J0 L6 H5 S6)} _ (runs_in {a = (mem X0 T0 N0 J0 L0 H0 S4)} {c = (mem X0 T0 N0 J0 L5 H5 S5)} (c.in-Ok.ensures)) (s_close {e = (mem X0 T0 N0 J0 L6 H5 S6)} {x = X0} {t = T0} {n = N0} {j = J0} {l = L5} {h = H5} {s = S5} {s' = S6} {l' = L6} (c.close_node.ensures) s_end))))

pub as_step-returns-in-Err : goal.as_step-returns-in-Err
unfolding pat.as_step plan choose chosen
as_step-returns-in-Err t c =
    let X0 = c.args.lent.text.now in
    let T0 = c.args.lent.toks.now in
    let N0 = c.args.lent.env.now in
    let J0 = c.args.table.now in
    let L0 = c.args.scratch.now in
    let H0 = c.args.finds.now in
    let S0 = c.args.s in
    let S4 = c.mark-s1.result in
    let L5 = c.as_pat_tl-got.new.scratch in
    let H5 = c.as_pat_tl-got.new.finds in
    let S5 = c.in-Err.s2 in
    let H6 = c.report_error-s3.new.finds in
    let S6 = c.report_error-s3.result in
    let L7 = c.close_node-in-Err.new.scratch in
    let S7 = c.close_node-in-Err.result in
    in_steps {m = (mem X0 T0 N0 J0 L0 H0 S0)} {m' = (mem X0 T0 N0 J0 L7 H6 S7)} (c.requires.0) (s_false {a = (mem X0 T0 N0 J0 L0 H0 S0)} {e = (mem X0 T0 N0 J0 L7 H6 S7)} _ _ (test_false (c.is_infix.ensures) (c.if-is_infix.false)) (s_mark {e = (mem X0 T0 N0 J0 L7 H6 S7)} {x = X0} {t = T0} {n = N0} {j = J0} {l = L0} {h = H0} {s = S0} {s' = S4} (c.if-left-eq0.false) (c.mark-s1.ensures) (s_by {a = (mem X0 T0 N0 J0 L0 H0 S4)} {c = (mem X0 T0 N0 J0 L5 H5 S5)} {e = (mem X0 T0 N0 J0 L7 H6 S7)} _ (runs_in {a = (mem X0 T0 N0 J0 L0 H0 S4)} {c = (mem X0 T0 N0 J0 L5 H5 S5)} (c.in-Err.ensures)) (s_report {e = (mem X0 T0 N0 J0 L7 H6 S7)} {x = X0} {t = T0} {n = N0} {j = J0} {l = L5} {h = H5} {s = S5} {s' = S6} {h' = H6} (c.report_error-s3.ensures) (s_close {e = (mem X0 T0 N0 J0 L7 H6 S7)} {x = X0} {t = T0} {n = N0} {j = J0} {l = L5} {h = H6} {s = S6} {s' = S7} {l' = L7} (c.close_node-in-Err.ensures) s_end)))))

pub at_head-s_con-requires : goal.at_head-s_con-requires
at_head-s_con-requires t c =
    tt

pub at_head-bump-s1-requires : goal.at_head-bump-s1-requires
at_head-bump-s1-requires t c =
    let pre0 = c.requires.0 in
    (pre0.reads, pre0.logs)

pub at_head-close_node-requires : goal.at_head-close_node-requires
at_head-close_node-requires t c =
    let pre0 = c.requires.0 in
    let pre1 = c.requires.1 in
    let bump = c.bump-s1.ensures in
    let bump_ok = ok_bumps bump pre0 in
    (bump_ok.logs, pre1)

pub at_head-returns-then-s_con : goal.at_head-returns-then-s_con
unfolding pat.at_pat_head plan choose chosen
at_head-returns-then-s_con t c =
    let X0 = c.args.lent.text.now in
    let T0 = c.args.lent.toks.now in
    let N0 = c.args.lent.env.now in
    let J0 = c.args.table.now in
    let L0 = c.args.scratch.now in
    let H0 = c.args.finds.now in
    let S0 = c.args.s in
    let L3 = c.bump-s1.new.scratch in
    let S3 = c.bump-s1.result in
    let L4 = c.close_node.new.scratch in
    let S4 = c.close_node.result in
    in_steps {m = (mem X0 T0 N0 J0 L0 H0 S0)} {m' = (mem X0 T0 N0 J0 L4 H0 S4)} (c.requires.0) (s_true {a = (mem X0 T0 N0 J0 L0 H0 S0)} {e = (mem X0 T0 N0 J0 L4 H0 S4)} _ _ (test_true (c.s_con.ensures) (c.if-s_con.true)) (s_bump {e = (mem X0 T0 N0 J0 L4 H0 S4)} {x = X0} {t = T0} {n = N0} {j = J0} {l = L0} {h = H0} {s = S0} {s' = S3} {l' = L3} (c.bump-s1.ensures) (s_close {e = (mem X0 T0 N0 J0 L4 H0 S4)} {x = X0} {t = T0} {n = N0} {j = J0} {l = L3} {h = H0} {s = S3} {s' = S4} {l' = L4} (c.close_node.ensures) s_end)))

pub at_head-bump-s1-requires-then-k-eq-UNDERSCORE : goal.at_head-bump-s1-requires-then-k-eq-UNDERSCORE
at_head-bump-s1-requires-then-k-eq-UNDERSCORE t c =
    let pre0 = c.requires.0 in
    (pre0.reads, pre0.logs)

pub at_head-close_node-requires-then-k-eq-UNDERSCORE : goal.at_head-close_node-requires-then-k-eq-UNDERSCORE
at_head-close_node-requires-then-k-eq-UNDERSCORE t c =
    let pre0 = c.requires.0 in
    let pre1 = c.requires.1 in
    let bump2 = c.bump-s1-then-k-eq-UNDERSCORE.ensures in
    let bump2_ok = ok_bumps bump2 pre0 in
    (bump2_ok.logs, pre1)

pub at_head-returns-then-k-eq-UNDERSCORE : goal.at_head-returns-then-k-eq-UNDERSCORE
unfolding pat.at_pat_head plan choose chosen
at_head-returns-then-k-eq-UNDERSCORE t c =
    let X0 = c.args.lent.text.now in
    let T0 = c.args.lent.toks.now in
    let N0 = c.args.lent.env.now in
    let J0 = c.args.table.now in
    let L0 = c.args.scratch.now in
    let H0 = c.args.finds.now in
    let S0 = c.args.s in
    let L4 = c.bump-s1-then-k-eq-UNDERSCORE.new.scratch in
    let S4 = c.bump-s1-then-k-eq-UNDERSCORE.result in
    let L5 = c.close_node-then-k-eq-UNDERSCORE.new.scratch in
    let S5 = c.close_node-then-k-eq-UNDERSCORE.result in
    in_steps {m = (mem X0 T0 N0 J0 L0 H0 S0)} {m' = (mem X0 T0 N0 J0 L5 H0 S5)} (c.requires.0) (s_false {a = (mem X0 T0 N0 J0 L0 H0 S0)} {e = (mem X0 T0 N0 J0 L5 H0 S5)} _ _ (test_false (c.s_con.ensures) (c.if-s_con.false)) (s_true {a = (mem X0 T0 N0 J0 L0 H0 S0)} {e = (mem X0 T0 N0 J0 L5 H0 S5)} _ _ (kind_is (c.if-k-eq-UNDERSCORE.true)) (s_bump {e = (mem X0 T0 N0 J0 L5 H0 S5)} {x = X0} {t = T0} {n = N0} {j = J0} {l = L0} {h = H0} {s = S0} {s' = S4} {l' = L4} (c.bump-s1-then-k-eq-UNDERSCORE.ensures) (s_close {e = (mem X0 T0 N0 J0 L5 H0 S5)} {x = X0} {t = T0} {n = N0} {j = J0} {l = L4} {h = H0} {s = S4} {s' = S5} {l' = L5} (c.close_node-then-k-eq-UNDERSCORE.ensures) s_end))))

pub at_head-path_infix-got-requires : goal.at_head-path_infix-got-requires
at_head-path_infix-got-requires t c =
    let pre0 = c.requires.0 in
    pre0

pub at_head-either-s1-requires : goal.at_head-either-s1-requires
at_head-either-s1-requires t c =
    tt

pub at_head-close_node-requires-then-k-eq-OP_KW : goal.at_head-close_node-requires-then-k-eq-OP_KW
at_head-close_node-requires-then-k-eq-OP_KW t c =
    let pre1 = c.requires.1 in
    let path_infix = c.path_infix-got.ensures in
    let path_infix_ok = path_infix.ok in
    let either = c.either-s1.ensures in
    let either_ok = ok_state either path_infix_ok in
    (either_ok.logs, pre1)

pub at_head-returns-then-k-eq-OP_KW : goal.at_head-returns-then-k-eq-OP_KW
unfolding pat.at_pat_head plan choose chosen
at_head-returns-then-k-eq-OP_KW t c =
    let X0 = c.args.lent.text.now in
    let T0 = c.args.lent.toks.now in
    let N0 = c.args.lent.env.now in
    let J0 = c.args.table.now in
    let L0 = c.args.scratch.now in
    let H0 = c.args.finds.now in
    let S0 = c.args.s in
    let L5 = c.path_infix-got.new.scratch in
    let H5 = c.path_infix-got.new.finds in
    let S5 = out_state c.path_infix-got.result in
    let S6 = c.either-s1.result in
    let L7 = c.close_node-then-k-eq-OP_KW.new.scratch in
    let S7 = c.close_node-then-k-eq-OP_KW.result in
    in_steps {m = (mem X0 T0 N0 J0 L0 H0 S0)} {m' = (mem X0 T0 N0 J0 L7 H5 S7)} (c.requires.0) (s_false {a = (mem X0 T0 N0 J0 L0 H0 S0)} {e = (mem X0 T0 N0 J0 L7 H5 S7)} _ _ (test_false (c.s_con.ensures) (c.if-s_con.false)) (s_false {a = (mem X0 T0 N0 J0 L0 H0 S0)} {e = (mem X0 T0 N0 J0 L7 H5 S7)} _ _ (kind_not (c.if-k-eq-UNDERSCORE.false)) (s_true {a = (mem X0 T0 N0 J0 L0 H0 S0)} {e = (mem X0 T0 N0 J0 L7 H5 S7)} _ _ (kind_is (c.if-k-eq-OP_KW.true)) (s_by {a = (mem X0 T0 N0 J0 L0 H0 S0)} {c = (mem X0 T0 N0 J0 L5 H5 S6)} {e = (mem X0 T0 N0 J0 L7 H5 S7)} _ (settled (c.either-s1.ensures) (runs_in {a = (mem X0 T0 N0 J0 L0 H0 S0)} {c = (mem X0 T0 N0 J0 L5 H5 S5)} (c.path_infix-got.ensures))) (s_close {e = (mem X0 T0 N0 J0 L7 H5 S7)} {x = X0} {t = T0} {n = N0} {j = J0} {l = L5} {h = H5} {s = S6} {s' = S7} {l' = L7} (c.close_node-then-k-eq-OP_KW.ensures) s_end)))))

pub at_head-name_star-requires : goal.at_head-name_star-requires
at_head-name_star-requires t c =
    tt

pub at_head-con_path-got-requires : goal.at_head-con_path-got-requires
at_head-con_path-got-requires t c =
    let pre0 = c.requires.0 in
    pre0

pub at_head-either-s1-requires-then-name_star : goal.at_head-either-s1-requires-then-name_star
at_head-either-s1-requires-then-name_star t c =
    tt

pub at_head-close_node-requires-then-name_star : goal.at_head-close_node-requires-then-name_star
at_head-close_node-requires-then-name_star t c =
    let pre1 = c.requires.1 in
    let con_path = c.con_path-got.ensures in
    let con_path_ok = con_path.ok in
    let either2 = c.either-s1-then-name_star.ensures in
    let either2_ok = ok_state either2 con_path_ok in
    (either2_ok.logs, pre1)

pub at_head-returns-then-name_star : goal.at_head-returns-then-name_star
unfolding pat.at_pat_head plan choose chosen
at_head-returns-then-name_star t c =
    let X0 = c.args.lent.text.now in
    let T0 = c.args.lent.toks.now in
    let N0 = c.args.lent.env.now in
    let J0 = c.args.table.now in
    let L0 = c.args.scratch.now in
    let H0 = c.args.finds.now in
    let S0 = c.args.s in
    let L7 = c.con_path-got.new.scratch in
    let H7 = c.con_path-got.new.finds in
    let S7 = out_state c.con_path-got.result in
    let S8 = c.either-s1-then-name_star.result in
    let L9 = c.close_node-then-name_star.new.scratch in
    let S9 = c.close_node-then-name_star.result in
    in_steps {m = (mem X0 T0 N0 J0 L0 H0 S0)} {m' = (mem X0 T0 N0 J0 L9 H7 S9)} (c.requires.0) (s_false {a = (mem X0 T0 N0 J0 L0 H0 S0)} {e = (mem X0 T0 N0 J0 L9 H7 S9)} _ _ (test_false (c.s_con.ensures) (c.if-s_con.false)) (s_false {a = (mem X0 T0 N0 J0 L0 H0 S0)} {e = (mem X0 T0 N0 J0 L9 H7 S9)} _ _ (kind_not (c.if-k-eq-UNDERSCORE.false)) (s_false {a = (mem X0 T0 N0 J0 L0 H0 S0)} {e = (mem X0 T0 N0 J0 L9 H7 S9)} _ _ (kind_not (c.if-k-eq-OP_KW.false)) (s_true {a = (mem X0 T0 N0 J0 L0 H0 S0)} {e = (mem X0 T0 N0 J0 L9 H7 S9)} _ _ (test_true (c.name_star.ensures) (c.if-name_star.true)) (s_by {a = (mem X0 T0 N0 J0 L0 H0 S0)} {c = (mem X0 T0 N0 J0 L7 H7 S8)} {e = (mem X0 T0 N0 J0 L9 H7 S9)} _ (settled (c.either-s1-then-name_star.ensures) (runs_in {a = (mem X0 T0 N0 J0 L0 H0 S0)} {c = (mem X0 T0 N0 J0 L7 H7 S7)} (c.con_path-got.ensures))) (s_close {e = (mem X0 T0 N0 J0 L9 H7 S9)} {x = X0} {t = T0} {n = N0} {j = J0} {l = L7} {h = H7} {s = S8} {s' = S9} {l' = L9} (c.close_node-then-name_star.ensures) s_end))))))

pub at_head-rest-requires : goal.at_head-rest-requires
at_head-rest-requires t c =
    let pre0 = c.requires.0 in
    let pre1 = c.requires.1 in
    (omega arith, (pre0, pre1))

pub at_head-returns : goal.at_head-returns
unfolding pat.at_pat_head plan choose chosen
at_head-returns t c =
    let X0 = c.args.lent.text.now in
    let T0 = c.args.lent.toks.now in
    let N0 = c.args.lent.env.now in
    let J0 = c.args.table.now in
    let L0 = c.args.scratch.now in
    let H0 = c.args.finds.now in
    let S0 = c.args.s in
    let L7 = c.rest.new.scratch in
    let H7 = c.rest.new.finds in
    let S7 = out_state c.rest.result in
    in_steps {m = (mem X0 T0 N0 J0 L0 H0 S0)} {m' = (mem X0 T0 N0 J0 L7 H7 S7)} (c.requires.0) (s_false {a = (mem X0 T0 N0 J0 L0 H0 S0)} {e = (mem X0 T0 N0 J0 L7 H7 S7)} _ _ (test_false (c.s_con.ensures) (c.if-s_con.false)) (s_false {a = (mem X0 T0 N0 J0 L0 H0 S0)} {e = (mem X0 T0 N0 J0 L7 H7 S7)} _ _ (kind_not (c.if-k-eq-UNDERSCORE.false)) (s_false {a = (mem X0 T0 N0 J0 L0 H0 S0)} {e = (mem X0 T0 N0 J0 L7 H7 S7)} _ _ (kind_not (c.if-k-eq-OP_KW.false)) (s_false {a = (mem X0 T0 N0 J0 L0 H0 S0)} {e = (mem X0 T0 N0 J0 L7 H7 S7)} _ _ (test_false (c.name_star.ensures) (c.if-name_star.false)) (s_by {a = (mem X0 T0 N0 J0 L0 H0 S0)} {c = (mem X0 T0 N0 J0 L7 H7 S7)} {e = (mem X0 T0 N0 J0 L7 H7 S7)} _ (c.rest.ensures) s_end)))))

pub at_must-at_pat-got-requires : goal.at_must-at_pat-got-requires
at_must-at_pat-got-requires t c =
    let pre0 = c.requires in
    (omega arith, pre0)

pub at_must-report_error-requires : goal.at_must-report_error-requires
at_must-report_error-requires t c =
    let at_pat = c.in-Err.ensures in
    let at_pat_ok = (at_pat true).ok in
    (at_pat_ok.holds, (let few = at_pat_ok.reads.few in let inside = at_pat_ok.reads.inside in omega arith), omega arith)

pub at_must-returns-in-Ok : goal.at_must-returns-in-Ok
unfolding pat.at_pat_must plan choose chosen
at_must-returns-in-Ok t c =
    let X0 = c.args.lent.text.now in
    let T0 = c.args.lent.toks.now in
    let N0 = c.args.lent.env.now in
    let J0 = c.args.table.now in
    let L0 = c.args.scratch.now in
    let H0 = c.args.finds.now in
    let S0 = c.args.s in
    let L1 = c.at_pat-got.new.scratch in
    let H1 = c.at_pat-got.new.finds in
    let S1 = c.in-Ok.s1 in
    by_steps {m = (mem X0 T0 N0 J0 L0 H0 S0)} {m' = (mem X0 T0 N0 J0 L1 H1 S1)} (c.requires) (λ b. s_by {a = (mem X0 T0 N0 J0 L0 H0 S0)} {c = (mem X0 T0 N0 J0 L1 H1 S1)} {e = (mem X0 T0 N0 J0 L1 H1 S1)} _ (runs_in {a = (mem X0 T0 N0 J0 L0 H0 S0)} {c = (mem X0 T0 N0 J0 L1 H1 S1)} ((c.in-Ok.ensures) _)) s_end)

pub at_must-returns-in-Err : goal.at_must-returns-in-Err
unfolding pat.at_pat_must plan choose chosen
at_must-returns-in-Err t c =
    let X0 = c.args.lent.text.now in
    let T0 = c.args.lent.toks.now in
    let N0 = c.args.lent.env.now in
    let J0 = c.args.table.now in
    let L0 = c.args.scratch.now in
    let H0 = c.args.finds.now in
    let S0 = c.args.s in
    let L1 = c.at_pat-got.new.scratch in
    let H1 = c.at_pat-got.new.finds in
    let S1 = c.in-Err.s1 in
    let H2 = c.report_error.new.finds in
    let S2 = c.report_error.result in
    by_steps {m = (mem X0 T0 N0 J0 L0 H0 S0)} {m' = (mem X0 T0 N0 J0 L1 H2 S2)} (c.requires) (λ b. s_by {a = (mem X0 T0 N0 J0 L0 H0 S0)} {c = (mem X0 T0 N0 J0 L1 H1 S1)} {e = (mem X0 T0 N0 J0 L1 H2 S2)} _ (runs_in {a = (mem X0 T0 N0 J0 L0 H0 S0)} {c = (mem X0 T0 N0 J0 L1 H1 S1)} ((c.in-Err.ensures) _)) (s_report {e = (mem X0 T0 N0 J0 L1 H2 S2)} {x = X0} {t = T0} {n = N0} {j = J0} {l = L1} {h = H1} {s = S1} {s' = S2} {h' = H2} (c.report_error.ensures) s_end))

pub at_pat-peek-requires : goal.at_pat-peek-requires
at_pat-peek-requires t c =
    let pre0 = c.requires in
    pre0.reads

pub at_pat-returns-in_default : goal.at_pat-returns-in_default
unfolding pat.at_pat plan choose chosen
at_pat-returns-in_default t c =
    let pre0 = c.requires in
    let peek = c.in_default.ensures in
    λ g. by_steps pre0 (λ b. s_look peek s_end)

pub at_pat-refuse_for-requires : goal.at_pat-refuse_for-requires
at_pat-refuse_for-requires t c =
    tt

pub at_pat-returns-then-left-eq0 : goal.at_pat-returns-then-left-eq0
unfolding pat.at_pat plan choose chosen hushed
at_pat-returns-then-left-eq0 t c =
    let pre0 = c.requires in
    let peek = c.in-Some.ensures in
    let if1 = c.if-left-eq0.true in
    let refuse_for = c.refuse_for.ensures in
    λ g. by_steps pre0 (λ b. s_look peek (s_shut if1 refuse_for (λ k l. refl)))

pub at_pat-mark-s1-requires : goal.at_pat-mark-s1-requires
at_pat-mark-s1-requires t c =
    tt

pub at_pat-at_head-requires : goal.at_pat-at_head-requires
at_pat-at_head-requires t c =
    let pre0 = c.requires in
    let mark = c.mark-s1.ensures in
    let mark_ok = ok_marks mark pre0 in
    (omega arith, (mark_ok, small_len mark_ok))

pub at_pat-returns : goal.at_pat-returns
unfolding pat.at_pat plan choose chosen
at_pat-returns t c =
    let pre0 = c.requires in
    let peek = c.in-Some.ensures in
    let if1 = c.if-left-eq0.false in
    let mark = c.mark-s1.ensures in
    let at_head = c.at_head.ensures in
    λ g. by_steps pre0 (λ b. s_look peek (s_mark if1 mark (s_by _ at_head s_end)))

pub at_round-at-requires : goal.at_round-at-requires
at_round-at-requires t c =
    let pre0 = c.requires.0 in
    pre0.reads

pub at_round-bump-s1-requires : goal.at_round-bump-s1-requires
at_round-bump-s1-requires t c =
    let pre0 = c.requires.0 in
    (pre0.reads, pre0.logs)

pub at_round-close_node-requires : goal.at_round-close_node-requires
at_round-close_node-requires t c =
    let pre0 = c.requires.0 in
    let pre1 = c.requires.1 in
    let bump = c.bump-s1.ensures in
    let bump_ok = ok_bumps bump pre0 in
    (bump_ok.logs, pre1)

pub at_round-returns-then-at : goal.at_round-returns-then-at
unfolding pat.at_pat_l_round util.end_sep plan choose chosen
at_round-returns-then-at t c =
    let X0 = c.args.lent.text.now in
    let T0 = c.args.lent.toks.now in
    let N0 = c.args.lent.env.now in
    let J0 = c.args.table.now in
    let L0 = c.args.scratch.now in
    let H0 = c.args.finds.now in
    let S0 = c.args.s in
    let L3 = c.bump-s1.new.scratch in
    let S3 = c.bump-s1.result in
    let L4 = c.close_node.new.scratch in
    let S4 = c.close_node.result in
    in_steps {m = (mem X0 T0 N0 J0 L0 H0 S0)} {m' = (mem X0 T0 N0 J0 L4 H0 S4)} (c.requires.0) (s_kind {a = (mem X0 T0 N0 J0 L0 H0 S0)} {e = (mem X0 T0 N0 J0 L4 H0 S4)} (s_true {a = (mem X0 T0 N0 J0 L0 H0 S0)} {e = (mem X0 T0 N0 J0 L4 H0 S4)} _ _ (kind_at _ _ (mem X0 T0 N0 J0 L0 H0 S0) _ (c.at.ensures) (c.if-at.true)) (s_bump {e = (mem X0 T0 N0 J0 L4 H0 S4)} {x = X0} {t = T0} {n = N0} {j = J0} {l = L0} {h = H0} {s = S0} {s' = S3} {l' = L3} (c.bump-s1.ensures) (s_close {e = (mem X0 T0 N0 J0 L4 H0 S4)} {x = X0} {t = T0} {n = N0} {j = J0} {l = L3} {h = H0} {s = S3} {s' = S4} {l' = L4} (c.close_node.ensures) s_end))))

pub at_round-pat_arg-first-requires : goal.at_round-pat_arg-first-requires
at_round-pat_arg-first-requires t c =
    let pre0 = c.requires.0 in
    (omega arith, pre0)

pub at_round-args-s2-requires : goal.at_round-args-s2-requires
at_round-args-s2-requires t c =
    let pat_arg = c.in-Err.ensures in
    let pat_arg_ok = pat_arg.ok in
    (omega arith, (pat_arg_ok, omega arith))

pub at_round-close_node-requires-in-Err : goal.at_round-close_node-requires-in-Err
at_round-close_node-requires-in-Err t c =
    let pre1 = c.requires.1 in
    let args2 = c.args-s2.ensures in
    let args2_ok = args2.ok in
    (args2_ok.logs, pre1)

pub at_round-bump-s2-requires : goal.at_round-bump-s2-requires
at_round-bump-s2-requires t c =
    let pat_arg = c.in-Ok.ensures in
    let pat_arg_ok = pat_arg.ok in
    (pat_arg_ok.reads, pat_arg_ok.logs)

pub at_round-close_node-requires-in-Ok : goal.at_round-close_node-requires-in-Ok
at_round-close_node-requires-in-Ok t c =
    let pre1 = c.requires.1 in
    let pat_arg = c.in-Ok.ensures in
    let pat_arg_ok = pat_arg.ok in
    let bump2 = c.bump-s2.ensures in
    let bump2_ok = ok_bumps bump2 pat_arg_ok in
    (bump2_ok.logs, pre1)

pub at_round-returns-in-Err : goal.at_round-returns-in-Err
unfolding pat.at_pat_l_round util.end_sep plan choose chosen
at_round-returns-in-Err t c =
    let X0 = c.args.lent.text.now in
    let T0 = c.args.lent.toks.now in
    let N0 = c.args.lent.env.now in
    let J0 = c.args.table.now in
    let L0 = c.args.scratch.now in
    let H0 = c.args.finds.now in
    let S0 = c.args.s in
    let L3 = c.pat_arg-first.new.scratch in
    let H3 = c.pat_arg-first.new.finds in
    let S3 = c.in-Err.s1 in
    let L4 = c.args-s2.new.scratch in
    let H4 = c.args-s2.new.finds in
    let S4 = c.args-s2.result in
    let L5 = c.close_node-in-Err.new.scratch in
    let S5 = c.close_node-in-Err.result in
    in_steps {m = (mem X0 T0 N0 J0 L0 H0 S0)} {m' = (mem X0 T0 N0 J0 L5 H4 S5)} (c.requires.0) (s_kind {a = (mem X0 T0 N0 J0 L0 H0 S0)} {e = (mem X0 T0 N0 J0 L5 H4 S5)} (s_false {a = (mem X0 T0 N0 J0 L0 H0 S0)} {e = (mem X0 T0 N0 J0 L5 H4 S5)} _ _ (kind_off _ _ (mem X0 T0 N0 J0 L0 H0 S0) _ (c.at.ensures) (c.if-at.false)) (s_by {a = (mem X0 T0 N0 J0 L0 H0 S0)} {c = (mem X0 T0 N0 J0 L3 H3 S3)} {e = (mem X0 T0 N0 J0 L5 H4 S5)} _ (runs_in {a = (mem X0 T0 N0 J0 L0 H0 S0)} {c = (mem X0 T0 N0 J0 L3 H3 S3)} (c.in-Err.ensures)) (s_run {a = (mem X0 T0 N0 J0 L3 H3 S3)} {c = (mem X0 T0 N0 J0 L4 H4 S4)} {e = (mem X0 T0 N0 J0 L5 H4 S5)} (c.args-s2.ensures) (s_close {e = (mem X0 T0 N0 J0 L5 H4 S5)} {x = X0} {t = T0} {n = N0} {j = J0} {l = L4} {h = H4} {s = S4} {s' = S5} {l' = L5} (c.close_node-in-Err.ensures) s_end)))))

pub at_round-returns-in-Ok : goal.at_round-returns-in-Ok
unfolding pat.at_pat_l_round util.end_sep plan choose chosen
at_round-returns-in-Ok t c =
    let X0 = c.args.lent.text.now in
    let T0 = c.args.lent.toks.now in
    let N0 = c.args.lent.env.now in
    let J0 = c.args.table.now in
    let L0 = c.args.scratch.now in
    let H0 = c.args.finds.now in
    let S0 = c.args.s in
    let L3 = c.pat_arg-first.new.scratch in
    let H3 = c.pat_arg-first.new.finds in
    let S3 = c.in-Ok.s1 in
    let L4 = c.bump-s2.new.scratch in
    let S4 = c.bump-s2.result in
    let L5 = c.close_node-in-Ok.new.scratch in
    let S5 = c.close_node-in-Ok.result in
    in_steps {m = (mem X0 T0 N0 J0 L0 H0 S0)} {m' = (mem X0 T0 N0 J0 L5 H3 S5)} (c.requires.0) (s_kind {a = (mem X0 T0 N0 J0 L0 H0 S0)} {e = (mem X0 T0 N0 J0 L5 H3 S5)} (s_false {a = (mem X0 T0 N0 J0 L0 H0 S0)} {e = (mem X0 T0 N0 J0 L5 H3 S5)} _ _ (kind_off _ _ (mem X0 T0 N0 J0 L0 H0 S0) _ (c.at.ensures) (c.if-at.false)) (s_by {a = (mem X0 T0 N0 J0 L0 H0 S0)} {c = (mem X0 T0 N0 J0 L3 H3 S3)} {e = (mem X0 T0 N0 J0 L5 H3 S5)} _ (runs_in {a = (mem X0 T0 N0 J0 L0 H0 S0)} {c = (mem X0 T0 N0 J0 L3 H3 S3)} (c.in-Ok.ensures)) (s_bump {e = (mem X0 T0 N0 J0 L5 H3 S5)} {x = X0} {t = T0} {n = N0} {j = J0} {l = L3} {h = H3} {s = S3} {s' = S4} {l' = L4} (c.bump-s2.ensures) (s_close {e = (mem X0 T0 N0 J0 L5 H3 S5)} {x = X0} {t = T0} {n = N0} {j = J0} {l = L4} {h = H3} {s = S4} {s' = S5} {l' = L5} (c.close_node-in-Ok.ensures) s_end)))))

pub atom-at_pat-got-requires : goal.atom-at_pat-got-requires
atom-at_pat-got-requires t c =
    let pre0 = c.requires.0 in
    (omega arith, pre0)

pub atom-tail-s2-requires : goal.atom-tail-s2-requires
atom-tail-s2-requires t c =
    let pre1 = c.requires.1 in
    let at_pat = c.in-Ok.ensures in
    let at_pat_ok = (at_pat true).ok in
    (omega arith, (at_pat_ok, pre1))

pub atom-returns-in-Err : goal.atom-returns-in-Err
unfolding pat.atom_pat plan choose chosen
atom-returns-in-Err t c =
    let X0 = c.args.lent.text.now in
    let T0 = c.args.lent.toks.now in
    let N0 = c.args.lent.env.now in
    let J0 = c.args.table.now in
    let L0 = c.args.scratch.now in
    let H0 = c.args.finds.now in
    let S0 = c.args.s in
    let L1 = c.at_pat-got.new.scratch in
    let H1 = c.at_pat-got.new.finds in
    let S1 = c.in-Err.s1 in
    in_steps {m = (mem X0 T0 N0 J0 L0 H0 S0)} {m' = (mem X0 T0 N0 J0 L1 H1 S1)} (c.requires.0) (s_by {a = (mem X0 T0 N0 J0 L0 H0 S0)} {c = (mem X0 T0 N0 J0 L1 H1 S1)} {e = (mem X0 T0 N0 J0 L1 H1 S1)} _ (runs_in {a = (mem X0 T0 N0 J0 L0 H0 S0)} {c = (mem X0 T0 N0 J0 L1 H1 S1)} ((c.in-Err.ensures) _)) s_end)

pub atom-returns-in-Ok : goal.atom-returns-in-Ok
unfolding pat.atom_pat plan choose chosen
atom-returns-in-Ok t c =
    let X0 = c.args.lent.text.now in
    let T0 = c.args.lent.toks.now in
    let N0 = c.args.lent.env.now in
    let J0 = c.args.table.now in
    let L0 = c.args.scratch.now in
    let H0 = c.args.finds.now in
    let S0 = c.args.s in
    let L1 = c.at_pat-got.new.scratch in
    let H1 = c.at_pat-got.new.finds in
    let S1 = c.in-Ok.s1 in
    let L2 = c.tail-s2.new.scratch in
    let H2 = c.tail-s2.new.finds in
    let S2 = c.tail-s2.result in
    in_steps {m = (mem X0 T0 N0 J0 L0 H0 S0)} {m' = (mem X0 T0 N0 J0 L2 H2 S2)} (c.requires.0) (s_by {a = (mem X0 T0 N0 J0 L0 H0 S0)} {c = (mem X0 T0 N0 J0 L1 H1 S1)} {e = (mem X0 T0 N0 J0 L2 H2 S2)} _ (runs_in {a = (mem X0 T0 N0 J0 L0 H0 S0)} {c = (mem X0 T0 N0 J0 L1 H1 S1)} ((c.in-Ok.ensures) _)) (s_run {a = (mem X0 T0 N0 J0 L1 H1 S1)} {c = (mem X0 T0 N0 J0 L2 H2 S2)} {e = (mem X0 T0 N0 J0 L2 H2 S2)} (c.tail-s2.ensures) s_end))

pub con-con_head-head-requires : goal.con-con_head-head-requires
con-con_head-head-requires t c =
    let pre0 = c.requires.0 in
    let pre1 = c.requires.1 in
    (omega arith, (pre0, pre1))

pub con-tail-s2-requires : goal.con-tail-s2-requires
con-tail-s2-requires t c =
    let pre1 = c.requires.1 in
    let con_head = c.in-GoOn.ensures in
    let con_head_ok = con_head.ok in
    (omega arith, (con_head_ok, pre1))

pub con-op_tail-s2-requires : goal.con-op_tail-s2-requires
con-op_tail-s2-requires t c =
    let pre1 = c.requires.1 in
    let con_head = c.in-AtOp.ensures in
    let con_head_ok = con_head.ok in
    (omega arith, (con_head_ok, pre1))

pub con-tail-s3-requires : goal.con-tail-s3-requires
con-tail-s3-requires t c =
    let pre1 = c.requires.1 in
    let op_tail = c.op_tail-s2.ensures in
    let op_tail_ok = op_tail.ok in
    (omega arith, (op_tail_ok, pre1))

pub con-returns-in-Missing : goal.con-returns-in-Missing
unfolding pat.con_pat pat.pat_tail plan choose chosen
con-returns-in-Missing t c =
    let pre0 = c.requires.0 in
    let con_head = c.in-Missing.ensures in
    in_steps pre0 (s_by _ con_head s_end)

pub con-returns-in-GoOn : goal.con-returns-in-GoOn
unfolding pat.con_pat pat.pat_tail plan choose chosen
con-returns-in-GoOn t c =
    let pre0 = c.requires.0 in
    let con_head = c.in-GoOn.ensures in
    let tail = c.tail-s2.ensures in
    in_steps pre0 (s_by _ con_head (s_run tail s_end))

pub con-returns-in-AtOp : goal.con-returns-in-AtOp
unfolding pat.con_pat pat.pat_tail plan choose chosen
con-returns-in-AtOp t c =
    let pre0 = c.requires.0 in
    let con_head = c.in-AtOp.ensures in
    let op_tail = c.op_tail-s2.ensures in
    let tail2 = c.tail-s3.ensures in
    in_steps pre0 (s_by _ con_head (s_by _ op_tail (s_run tail2 s_end)))

pub con-returns-in-Stop : goal.con-returns-in-Stop
unfolding pat.con_pat pat.pat_tail plan choose chosen
con-returns-in-Stop t c =
    let pre0 = c.requires.0 in
    let con_head = c.in-Stop.ensures in
    in_steps pre0 (s_by _ con_head s_end)

pub con_head-refuse_for-requires : goal.con_head-refuse_for-requires
con_head-refuse_for-requires t c =
    tt

pub con_head-returns-then-left-eq0 : goal.con_head-returns-then-left-eq0
unfolding pat.con_head plan choose chosen hushed
con_head-returns-then-left-eq0 t c =
    let X0 = c.args.lent.text.now in
    let T0 = c.args.lent.toks.now in
    let N0 = c.args.lent.env.now in
    let J0 = c.args.table.now in
    let L0 = c.args.scratch.now in
    let H0 = c.args.finds.now in
    let S0 = c.args.s in
    let S2 = c.refuse_for.result in
    in_steps {m = (mem X0 T0 N0 J0 L0 H0 S0)} {m' = (mem X0 T0 N0 J0 L0 H0 S2)} (c.requires.0) (s_shut (c.if-left-eq0.true) (c.refuse_for.ensures) (λ k l. refl))

pub con_head-mark-s1-requires : goal.con_head-mark-s1-requires
con_head-mark-s1-requires t c =
    tt

pub con_head-con_name-got-requires : goal.con_head-con_name-got-requires
con_head-con_name-got-requires t c =
    let pre0 = c.requires.0 in
    let mark = c.mark-s1.ensures in
    let mark_ok = ok_marks mark pre0 in
    mark_ok

pub con_head-either-s2-requires : goal.con_head-either-s2-requires
con_head-either-s2-requires t c =
    tt

pub con_head-con_turn-requires : goal.con_head-con_turn-requires
con_head-con_turn-requires t c =
    let pre1 = c.requires.1 in
    let con_name = c.con_name-got.ensures in
    let con_name_ok = con_name.ok in
    let either = c.either-s2.ensures in
    let either_ok = ok_state either con_name_ok in
    (omega arith, (either_ok, pre1))

pub con_head-returns : goal.con_head-returns
unfolding pat.con_head plan choose chosen
con_head-returns t c =
    let pre0 = c.requires.0 in
    let if1 = c.if-left-eq0.false in
    let mark = c.mark-s1.ensures in
    let con_name = c.con_name-got.ensures in
    let either = c.either-s2.ensures in
    let con_turn = c.con_turn.ensures in
    in_steps pre0 (s_mark if1 mark (s_by _ (settled either (runs_in con_name)) (s_by _ con_turn s_end)))

pub con_turn-peek-requires : goal.con_turn-peek-requires
con_turn-peek-requires t c =
    let pre0 = c.requires.0 in
    pre0.reads

pub con_turn-close_node-requires : goal.con_turn-close_node-requires
con_turn-close_node-requires t c =
    let pre0 = c.requires.0 in
    let pre1 = c.requires.1 in
    (pre0.logs, pre1)

pub con_turn-returns-in_default : goal.con_turn-returns-in_default
unfolding pat.con_turn plan choose chosen
con_turn-returns-in_default t c =
    let X0 = c.args.lent.text.now in
    let T0 = c.args.lent.toks.now in
    let N0 = c.args.lent.env.now in
    let J0 = c.args.table.now in
    let L0 = c.args.scratch.now in
    let H0 = c.args.finds.now in
    let S0 = c.args.s in
    let L2 = c.close_node.new.scratch in
    let S2 = c.close_node.result in
    in_steps {m = (mem X0 T0 N0 J0 L0 H0 S0)} {m' = (mem X0 T0 N0 J0 L2 H0 S2)} (c.requires.0) (s_look {a = (mem X0 T0 N0 J0 L0 H0 S0)} {e = (mem X0 T0 N0 J0 L2 H0 S2)} (c.in_default.ensures) (s_close {e = (mem X0 T0 N0 J0 L2 H0 S2)} {x = X0} {t = T0} {n = N0} {j = J0} {l = L0} {h = H0} {s = S0} {s' = S2} {l' = L2} (c.close_node.ensures) s_end))

pub con_turn-name_star-requires : goal.con_turn-name_star-requires
con_turn-name_star-requires t c =
    tt

pub con_turn-fixity_at-fix-requires : goal.con_turn-fixity_at-fix-requires
con_turn-fixity_at-fix-requires t c =
    let pre0 = c.requires.0 in
    (pre0.reads, pre0.names, pre0.stands)

pub con_turn-at_must-s1-requires : goal.con_turn-at_must-s1-requires
con_turn-at_must-s1-requires t c =
    let pre0 = c.requires.0 in
    (omega arith, pre0)

pub con_turn-close_node-requires-in-None : goal.con_turn-close_node-requires-in-None
con_turn-close_node-requires-in-None t c =
    let pre1 = c.requires.1 in
    let at_must = c.at_must-s1.ensures in
    let at_must_ok = at_must.ok in
    (at_must_ok.logs, pre1)

pub con_turn-returns-in-None : goal.con_turn-returns-in-None
unfolding pat.con_turn plan choose chosen
con_turn-returns-in-None t c =
    let X0 = c.args.lent.text.now in
    let T0 = c.args.lent.toks.now in
    let N0 = c.args.lent.env.now in
    let J0 = c.args.table.now in
    let L0 = c.args.scratch.now in
    let H0 = c.args.finds.now in
    let S0 = c.args.s in
    let L5 = c.at_must-s1.new.scratch in
    let H5 = c.at_must-s1.new.finds in
    let S5 = c.at_must-s1.result in
    let L6 = c.close_node-in-None.new.scratch in
    let S6 = c.close_node-in-None.result in
    in_steps {m = (mem X0 T0 N0 J0 L0 H0 S0)} {m' = (mem X0 T0 N0 J0 L6 H5 S6)} (c.requires.0) (s_look {a = (mem X0 T0 N0 J0 L0 H0 S0)} {e = (mem X0 T0 N0 J0 L6 H5 S6)} (c.in-Some.ensures) (s_true {a = (mem X0 T0 N0 J0 L0 H0 S0)} {e = (mem X0 T0 N0 J0 L6 H5 S6)} _ _ (test_true (c.name_star.ensures) (c.if-name_star.true)) (s_fixed {a = (mem X0 T0 N0 J0 L0 H0 S0)} {e = (mem X0 T0 N0 J0 L6 H5 S6)} (c.in-None.ensures) (s_by {a = (mem X0 T0 N0 J0 L0 H0 S0)} {c = (mem X0 T0 N0 J0 L5 H5 S5)} {e = (mem X0 T0 N0 J0 L6 H5 S6)} _ (runs_in {a = (mem X0 T0 N0 J0 L0 H0 S0)} {c = (mem X0 T0 N0 J0 L5 H5 S5)} (c.at_must-s1.ensures)) (s_close {e = (mem X0 T0 N0 J0 L6 H5 S6)} {x = X0} {t = T0} {n = N0} {j = J0} {l = L5} {h = H5} {s = S5} {s' = S6} {l' = L6} (c.close_node-in-None.ensures) s_end)))))

pub con_turn-con_op-requires : goal.con_turn-con_op-requires
con_turn-con_op-requires t c =
    let pre0 = c.requires.0 in
    let pre1 = c.requires.1 in
    (pre0, pre1)

pub con_turn-returns-in-Some-fix : goal.con_turn-returns-in-Some-fix
unfolding pat.con_turn plan choose chosen
con_turn-returns-in-Some-fix t c =
    let pre0 = c.requires.0 in
    let peek = c.in-Some.ensures in
    let name_star = c.name_star.ensures in
    let if1 = c.if-name_star.true in
    let fixity_at = c.in-Some-fix.ensures in
    let con_op = c.con_op.ensures in
    in_steps pre0 (s_look peek (s_true _ _ (test_true name_star if1) (s_fixed fixity_at (s_by _ con_op s_end))))

pub con_turn-arg-requires : goal.con_turn-arg-requires
con_turn-arg-requires t c =
    tt

pub con_turn-at_must-s1-requires-then-arg : goal.con_turn-at_must-s1-requires-then-arg
con_turn-at_must-s1-requires-then-arg t c =
    let pre0 = c.requires.0 in
    (omega arith, pre0)

pub con_turn-close_node-requires-then-arg : goal.con_turn-close_node-requires-then-arg
con_turn-close_node-requires-then-arg t c =
    let pre1 = c.requires.1 in
    let at_must2 = c.at_must-s1-then-arg.ensures in
    let at_must2_ok = at_must2.ok in
    (at_must2_ok.logs, pre1)

pub con_turn-returns-then-arg : goal.con_turn-returns-then-arg
unfolding pat.con_turn plan choose chosen
con_turn-returns-then-arg t c =
    let X0 = c.args.lent.text.now in
    let T0 = c.args.lent.toks.now in
    let N0 = c.args.lent.env.now in
    let J0 = c.args.table.now in
    let L0 = c.args.scratch.now in
    let H0 = c.args.finds.now in
    let S0 = c.args.s in
    let L6 = c.at_must-s1-then-arg.new.scratch in
    let H6 = c.at_must-s1-then-arg.new.finds in
    let S6 = c.at_must-s1-then-arg.result in
    let L7 = c.close_node-then-arg.new.scratch in
    let S7 = c.close_node-then-arg.result in
    in_steps {m = (mem X0 T0 N0 J0 L0 H0 S0)} {m' = (mem X0 T0 N0 J0 L7 H6 S7)} (c.requires.0) (s_look {a = (mem X0 T0 N0 J0 L0 H0 S0)} {e = (mem X0 T0 N0 J0 L7 H6 S7)} (c.in-Some.ensures) (s_false {a = (mem X0 T0 N0 J0 L0 H0 S0)} {e = (mem X0 T0 N0 J0 L7 H6 S7)} _ _ (test_false (c.name_star.ensures) (c.if-name_star.false)) (s_true {a = (mem X0 T0 N0 J0 L0 H0 S0)} {e = (mem X0 T0 N0 J0 L7 H6 S7)} _ _ (test_true (c.arg.ensures) (c.if-arg.true)) (s_by {a = (mem X0 T0 N0 J0 L0 H0 S0)} {c = (mem X0 T0 N0 J0 L6 H6 S6)} {e = (mem X0 T0 N0 J0 L7 H6 S7)} _ (runs_in {a = (mem X0 T0 N0 J0 L0 H0 S0)} {c = (mem X0 T0 N0 J0 L6 H6 S6)} (c.at_must-s1-then-arg.ensures)) (s_close {e = (mem X0 T0 N0 J0 L7 H6 S7)} {x = X0} {t = T0} {n = N0} {j = J0} {l = L6} {h = H6} {s = S6} {s' = S7} {l' = L7} (c.close_node-then-arg.ensures) s_end)))))

pub con_turn-close_node-requires-2 : goal.con_turn-close_node-requires-2
con_turn-close_node-requires-2 t c =
    let pre0 = c.requires.0 in
    let pre1 = c.requires.1 in
    (pre0.logs, pre1)

pub con_turn-returns : goal.con_turn-returns
unfolding pat.con_turn plan choose chosen
con_turn-returns t c =
    let X0 = c.args.lent.text.now in
    let T0 = c.args.lent.toks.now in
    let N0 = c.args.lent.env.now in
    let J0 = c.args.table.now in
    let L0 = c.args.scratch.now in
    let H0 = c.args.finds.now in
    let S0 = c.args.s in
    let L6 = c.close_node-2.new.scratch in
    let S6 = c.close_node-2.result in
    in_steps {m = (mem X0 T0 N0 J0 L0 H0 S0)} {m' = (mem X0 T0 N0 J0 L6 H0 S6)} (c.requires.0) (s_look {a = (mem X0 T0 N0 J0 L0 H0 S0)} {e = (mem X0 T0 N0 J0 L6 H0 S6)} (c.in-Some.ensures) (s_false {a = (mem X0 T0 N0 J0 L0 H0 S0)} {e = (mem X0 T0 N0 J0 L6 H0 S6)} _ _ (test_false (c.name_star.ensures) (c.if-name_star.false)) (s_false {a = (mem X0 T0 N0 J0 L0 H0 S0)} {e = (mem X0 T0 N0 J0 L6 H0 S6)} _ _ (test_false (c.arg.ensures) (c.if-arg.false)) (s_close {e = (mem X0 T0 N0 J0 L6 H0 S6)} {x = X0} {t = T0} {n = N0} {j = J0} {l = L0} {h = H0} {s = S0} {s' = S6} {l' = L6} (c.close_node-2.ensures) s_end))))

pub inf_pat-refuse_for-requires : goal.inf_pat-refuse_for-requires
inf_pat-refuse_for-requires t c =
    tt

pub inf_pat-returns-then-left-eq0 : goal.inf_pat-returns-then-left-eq0
unfolding pat.infix_pat plan choose chosen hushed
inf_pat-returns-then-left-eq0 t c =
    let X0 = c.args.lent.text.now in
    let T0 = c.args.lent.toks.now in
    let N0 = c.args.lent.env.now in
    let J0 = c.args.table.now in
    let L0 = c.args.scratch.now in
    let H0 = c.args.finds.now in
    let S0 = c.args.s in
    let S2 = c.refuse_for.result in
    in_steps {m = (mem X0 T0 N0 J0 L0 H0 S0)} {m' = (mem X0 T0 N0 J0 L0 H0 S2)} (c.requires.0) (s_shut (c.if-left-eq0.true) (c.refuse_for.ensures) (λ k l. refl))

pub inf_pat-mark-requires : goal.inf_pat-mark-requires
inf_pat-mark-requires t c =
    tt

pub inf_pat-bump-s1-requires : goal.inf_pat-bump-s1-requires
inf_pat-bump-s1-requires t c =
    let pre0 = c.requires.0 in
    let mark = c.mark.ensures in
    let mark_ok = ok_marks mark pre0 in
    (mark_ok.reads, mark_ok.logs)

pub inf_pat-pat_must-s2-requires : goal.inf_pat-pat_must-s2-requires
inf_pat-pat_must-s2-requires t c =
    let pre0 = c.requires.0 in
    let mark = c.mark.ensures in
    let mark_ok = ok_marks mark pre0 in
    let bump = c.bump-s1.ensures in
    let bump_ok = ok_bumps bump mark_ok in
    (omega arith, bump_ok)

pub inf_pat-close_node-requires : goal.inf_pat-close_node-requires
inf_pat-close_node-requires t c =
    let pre1 = c.requires.1 in
    let pat_must = c.pat_must-s2.ensures in
    let pat_must_ok = pat_must.ok in
    (pat_must_ok.logs, pre1)

pub inf_pat-returns : goal.inf_pat-returns
unfolding pat.infix_pat plan choose chosen
inf_pat-returns t c =
    let X0 = c.args.lent.text.now in
    let T0 = c.args.lent.toks.now in
    let N0 = c.args.lent.env.now in
    let J0 = c.args.table.now in
    let L0 = c.args.scratch.now in
    let H0 = c.args.finds.now in
    let S0 = c.args.s in
    let S2 = c.mark.result in
    let L3 = c.bump-s1.new.scratch in
    let S3 = c.bump-s1.result in
    let L4 = c.pat_must-s2.new.scratch in
    let H4 = c.pat_must-s2.new.finds in
    let S4 = c.pat_must-s2.result in
    let L5 = c.close_node.new.scratch in
    let S5 = c.close_node.result in
    in_steps {m = (mem X0 T0 N0 J0 L0 H0 S0)} {m' = (mem X0 T0 N0 J0 L5 H4 S5)} (c.requires.0) (s_mark {e = (mem X0 T0 N0 J0 L5 H4 S5)} {x = X0} {t = T0} {n = N0} {j = J0} {l = L0} {h = H0} {s = S0} {s' = S2} (c.if-left-eq0.false) (c.mark.ensures) (s_bump {e = (mem X0 T0 N0 J0 L5 H4 S5)} {x = X0} {t = T0} {n = N0} {j = J0} {l = L0} {h = H0} {s = S2} {s' = S3} {l' = L3} (c.bump-s1.ensures) (s_by {a = (mem X0 T0 N0 J0 L3 H0 S3)} {c = (mem X0 T0 N0 J0 L4 H4 S4)} {e = (mem X0 T0 N0 J0 L5 H4 S5)} _ (runs_in {a = (mem X0 T0 N0 J0 L3 H0 S3)} {c = (mem X0 T0 N0 J0 L4 H4 S4)} (c.pat_must-s2.ensures)) (s_close {e = (mem X0 T0 N0 J0 L5 H4 S5)} {x = X0} {t = T0} {n = N0} {j = J0} {l = L4} {h = H4} {s = S4} {s' = S5} {l' = L5} (c.close_node.ensures) s_end))))

pub op_step-fixity_at-fix-requires : goal.op_step-fixity_at-fix-requires
op_step-fixity_at-fix-requires t c =
    let pre0 = c.requires.0 in
    (pre0.reads, pre0.names, pre0.stands)

pub op_step-index-name-requires : goal.op_step-index-name-requires
op_step-index-name-requires t c =
    tt

pub op_step-report_error-requires : goal.op_step-report_error-requires
op_step-report_error-requires t c =
    let pre0 = c.requires.0 in
    let index = c.index-name.ensures in
    let index_small = small_index index pre0 in
    (pre0.holds, (let few = pre0.reads.few in let inside = pre0.reads.inside in omega arith), omega arith)

pub op_step-should_break_pat-ends-requires : goal.op_step-should_break_pat-ends-requires
op_step-should_break_pat-ends-requires t c =
    let pre0 = c.requires.0 in
    pre0

pub op_step-inf_pat-s2-requires : goal.op_step-inf_pat-s2-requires
op_step-inf_pat-s2-requires t c =
    let pre1 = c.requires.1 in
    let should_break_pat = c.in-Err.ensures in
    let should_break_pat_ok = (should_break_pat true).ok in
    (omega arith, (should_break_pat_ok, pre1))

pub op_step-returns-in-None : goal.op_step-returns-in-None
unfolding pat.op_step plan choose chosen
op_step-returns-in-None t c =
    let X0 = c.args.lent.text.now in
    let T0 = c.args.lent.toks.now in
    let N0 = c.args.lent.env.now in
    let J0 = c.args.table.now in
    let L0 = c.args.scratch.now in
    let H0 = c.args.finds.now in
    let S0 = c.args.s in
    let H3 = c.report_error.new.finds in
    let S3 = c.report_error.result in
    in_steps {m = (mem X0 T0 N0 J0 L0 H0 S0)} {m' = (mem X0 T0 N0 J0 L0 H3 S3)} (c.requires.0) (s_fixed {a = (mem X0 T0 N0 J0 L0 H0 S0)} {e = (mem X0 T0 N0 J0 L0 H3 S3)} (c.in-None.ensures) (s_index (c.index-name.ensures) (s_report {e = (mem X0 T0 N0 J0 L0 H3 S3)} {x = X0} {t = T0} {n = N0} {j = J0} {l = L0} {h = H0} {s = S0} {s' = S3} {h' = H3} (c.report_error.ensures) s_end)))

pub op_step-returns-in-Ok : goal.op_step-returns-in-Ok
unfolding pat.op_step plan choose chosen
op_step-returns-in-Ok t c =
    let X0 = c.args.lent.text.now in
    let T0 = c.args.lent.toks.now in
    let N0 = c.args.lent.env.now in
    let J0 = c.args.table.now in
    let L0 = c.args.scratch.now in
    let H0 = c.args.finds.now in
    let S0 = c.args.s in
    let L2 = c.should_break_pat-ends.new.scratch in
    let H2 = c.should_break_pat-ends.new.finds in
    let S2 = c.in-Ok.s1 in
    in_steps {m = (mem X0 T0 N0 J0 L0 H0 S0)} {m' = (mem X0 T0 N0 J0 L2 H2 S2)} (c.requires.0) (s_fixed {a = (mem X0 T0 N0 J0 L0 H0 S0)} {e = (mem X0 T0 N0 J0 L2 H2 S2)} (c.in-Some.ensures) (s_by {a = (mem X0 T0 N0 J0 L0 H0 S0)} {c = (mem X0 T0 N0 J0 L2 H2 S2)} {e = (mem X0 T0 N0 J0 L2 H2 S2)} _ (runs_always {a = (mem X0 T0 N0 J0 L0 H0 S0)} {c = (mem X0 T0 N0 J0 L2 H2 S2)} ((c.in-Ok.ensures) _)) s_end))

pub op_step-returns-in-Err : goal.op_step-returns-in-Err
unfolding pat.op_step plan choose chosen
op_step-returns-in-Err t c =
    let X0 = c.args.lent.text.now in
    let T0 = c.args.lent.toks.now in
    let N0 = c.args.lent.env.now in
    let J0 = c.args.table.now in
    let L0 = c.args.scratch.now in
    let H0 = c.args.finds.now in
    let S0 = c.args.s in
    let L2 = c.should_break_pat-ends.new.scratch in
    let H2 = c.should_break_pat-ends.new.finds in
    let S2 = c.in-Err.s1 in
    let L3 = c.inf_pat-s2.new.scratch in
    let H3 = c.inf_pat-s2.new.finds in
    let S3 = c.inf_pat-s2.result in
    in_steps {m = (mem X0 T0 N0 J0 L0 H0 S0)} {m' = (mem X0 T0 N0 J0 L3 H3 S3)} (c.requires.0) (s_fixed {a = (mem X0 T0 N0 J0 L0 H0 S0)} {e = (mem X0 T0 N0 J0 L3 H3 S3)} (c.in-Some.ensures) (s_by {a = (mem X0 T0 N0 J0 L0 H0 S0)} {c = (mem X0 T0 N0 J0 L2 H2 S2)} {e = (mem X0 T0 N0 J0 L3 H3 S3)} _ (runs_always {a = (mem X0 T0 N0 J0 L0 H0 S0)} {c = (mem X0 T0 N0 J0 L2 H2 S2)} ((c.in-Err.ensures) _)) (s_by {a = (mem X0 T0 N0 J0 L2 H2 S2)} {c = (mem X0 T0 N0 J0 L3 H3 S3)} {e = (mem X0 T0 N0 J0 L3 H3 S3)} _ (c.inf_pat-s2.ensures) s_end)))

pub op_tail-fixity_at-fix-requires : goal.op_tail-fixity_at-fix-requires
op_tail-fixity_at-fix-requires t c =
    let pre0 = c.requires.0 in
    (pre0.reads, pre0.names, pre0.stands)

pub op_tail-inf_pat-requires : goal.op_tail-inf_pat-requires
op_tail-inf_pat-requires t c =
    let pre0 = c.requires.0 in
    let pre1 = c.requires.1 in
    (omega arith, (pre0, pre1))

pub op_tail-returns-in-None : goal.op_tail-returns-in-None
unfolding pat.op_tail plan choose chosen
op_tail-returns-in-None t c =
    let X0 = c.args.lent.text.now in
    let T0 = c.args.lent.toks.now in
    let N0 = c.args.lent.env.now in
    let J0 = c.args.table.now in
    let L0 = c.args.scratch.now in
    let H0 = c.args.finds.now in
    let S0 = c.args.s in
    in_steps {m = (mem X0 T0 N0 J0 L0 H0 S0)} {m' = (mem X0 T0 N0 J0 L0 H0 S0)} (c.requires.0) (s_fixed {a = (mem X0 T0 N0 J0 L0 H0 S0)} {e = (mem X0 T0 N0 J0 L0 H0 S0)} (c.in-None.ensures) s_end)

pub op_tail-returns-in-Some : goal.op_tail-returns-in-Some
unfolding pat.op_tail plan choose chosen
op_tail-returns-in-Some t c =
    let X0 = c.args.lent.text.now in
    let T0 = c.args.lent.toks.now in
    let N0 = c.args.lent.env.now in
    let J0 = c.args.table.now in
    let L0 = c.args.scratch.now in
    let H0 = c.args.finds.now in
    let S0 = c.args.s in
    let L2 = c.inf_pat.new.scratch in
    let H2 = c.inf_pat.new.finds in
    let S2 = c.inf_pat.result in
    in_steps {m = (mem X0 T0 N0 J0 L0 H0 S0)} {m' = (mem X0 T0 N0 J0 L2 H2 S2)} (c.requires.0) (s_fixed {a = (mem X0 T0 N0 J0 L0 H0 S0)} {e = (mem X0 T0 N0 J0 L2 H2 S2)} (c.in-Some.ensures) (s_by {a = (mem X0 T0 N0 J0 L0 H0 S0)} {c = (mem X0 T0 N0 J0 L2 H2 S2)} {e = (mem X0 T0 N0 J0 L2 H2 S2)} _ (c.inf_pat.ensures) s_end))

pub or_step-is_min-requires : goal.or_step-is_min-requires
or_step-is_min-requires t c =
    tt

pub or_step-refuse_for-requires : goal.or_step-refuse_for-requires
or_step-refuse_for-requires t c =
    tt

pub or_step-returns-then-left-eq0 : goal.or_step-returns-then-left-eq0
unfolding pat.or_step plan choose chosen hushed
or_step-returns-then-left-eq0 t c =
    let X0 = c.args.lent.text.now in
    let T0 = c.args.lent.toks.now in
    let N0 = c.args.lent.env.now in
    let J0 = c.args.table.now in
    let L0 = c.args.scratch.now in
    let H0 = c.args.finds.now in
    let S0 = c.args.s in
    let S4 = c.refuse_for.result in
    in_steps {m = (mem X0 T0 N0 J0 L0 H0 S0)} {m' = (mem X0 T0 N0 J0 L0 H0 S4)} (c.requires.0) (s_true {a = (mem X0 T0 N0 J0 L0 H0 S0)} {e = (mem X0 T0 N0 J0 L0 H0 S4)} _ _ (test_true (c.is_min.ensures) (c.if-is_min.true)) (s_shut (c.if-left-eq0.true) (c.refuse_for.ensures) (λ k l. refl)))

pub or_step-mark-requires : goal.or_step-mark-requires
or_step-mark-requires t c =
    tt

pub or_step-bump-s1-requires : goal.or_step-bump-s1-requires
or_step-bump-s1-requires t c =
    let pre0 = c.requires.0 in
    let mark = c.mark.ensures in
    let mark_ok = ok_marks mark pre0 in
    (mark_ok.reads, mark_ok.logs)

pub or_step-pat_must-s2-requires : goal.or_step-pat_must-s2-requires
or_step-pat_must-s2-requires t c =
    let pre0 = c.requires.0 in
    let mark = c.mark.ensures in
    let mark_ok = ok_marks mark pre0 in
    let bump = c.bump-s1.ensures in
    let bump_ok = ok_bumps bump mark_ok in
    (omega arith, bump_ok)

pub or_step-close_node-requires : goal.or_step-close_node-requires
or_step-close_node-requires t c =
    let pre1 = c.requires.1 in
    let pat_must = c.pat_must-s2.ensures in
    let pat_must_ok = pat_must.ok in
    (pat_must_ok.logs, pre1)

pub or_step-returns-then-is_min : goal.or_step-returns-then-is_min
unfolding pat.or_step plan choose chosen
or_step-returns-then-is_min t c =
    let X0 = c.args.lent.text.now in
    let T0 = c.args.lent.toks.now in
    let N0 = c.args.lent.env.now in
    let J0 = c.args.table.now in
    let L0 = c.args.scratch.now in
    let H0 = c.args.finds.now in
    let S0 = c.args.s in
    let S4 = c.mark.result in
    let L5 = c.bump-s1.new.scratch in
    let S5 = c.bump-s1.result in
    let L6 = c.pat_must-s2.new.scratch in
    let H6 = c.pat_must-s2.new.finds in
    let S6 = c.pat_must-s2.result in
    let L7 = c.close_node.new.scratch in
    let S7 = c.close_node.result in
    in_steps {m = (mem X0 T0 N0 J0 L0 H0 S0)} {m' = (mem X0 T0 N0 J0 L7 H6 S7)} (c.requires.0) (s_true {a = (mem X0 T0 N0 J0 L0 H0 S0)} {e = (mem X0 T0 N0 J0 L7 H6 S7)} _ _ (test_true (c.is_min.ensures) (c.if-is_min.true)) (s_mark {e = (mem X0 T0 N0 J0 L7 H6 S7)} {x = X0} {t = T0} {n = N0} {j = J0} {l = L0} {h = H0} {s = S0} {s' = S4} (c.if-left-eq0.false) (c.mark.ensures) (s_bump {e = (mem X0 T0 N0 J0 L7 H6 S7)} {x = X0} {t = T0} {n = N0} {j = J0} {l = L0} {h = H0} {s = S4} {s' = S5} {l' = L5} (c.bump-s1.ensures) (s_by {a = (mem X0 T0 N0 J0 L5 H0 S5)} {c = (mem X0 T0 N0 J0 L6 H6 S6)} {e = (mem X0 T0 N0 J0 L7 H6 S7)} _ (runs_in {a = (mem X0 T0 N0 J0 L5 H0 S5)} {c = (mem X0 T0 N0 J0 L6 H6 S6)} (c.pat_must-s2.ensures)) (s_close {e = (mem X0 T0 N0 J0 L7 H6 S7)} {x = X0} {t = T0} {n = N0} {j = J0} {l = L6} {h = H6} {s = S6} {s' = S7} {l' = L7} (c.close_node.ensures) s_end)))))

pub or_step-returns : goal.or_step-returns
unfolding pat.or_step plan choose chosen
or_step-returns t c =
    let X0 = c.args.lent.text.now in
    let T0 = c.args.lent.toks.now in
    let N0 = c.args.lent.env.now in
    let J0 = c.args.table.now in
    let L0 = c.args.scratch.now in
    let H0 = c.args.finds.now in
    let S0 = c.args.s in
    in_steps {m = (mem X0 T0 N0 J0 L0 H0 S0)} {m' = (mem X0 T0 N0 J0 L0 H0 S0)} (c.requires.0) (s_false {a = (mem X0 T0 N0 J0 L0 H0 S0)} {e = (mem X0 T0 N0 J0 L0 H0 S0)} _ _ (test_false (c.is_min.ensures) (c.if-is_min.false)) s_end)

pub pat_arg-refuse_for-requires : goal.pat_arg-refuse_for-requires
pat_arg-refuse_for-requires t c =
    tt

pub pat_arg-returns-then-left-eq0 : goal.pat_arg-returns-then-left-eq0
unfolding pat.pat_arg plan choose chosen hushed
pat_arg-returns-then-left-eq0 t c =
    let X0 = c.args.lent.text.now in
    let T0 = c.args.lent.toks.now in
    let N0 = c.args.lent.env.now in
    let J0 = c.args.table.now in
    let L0 = c.args.scratch.now in
    let H0 = c.args.finds.now in
    let S0 = c.args.s in
    let S2 = c.refuse_for.result in
    by_steps {m = (mem X0 T0 N0 J0 L0 H0 S0)} {m' = (mem X0 T0 N0 J0 L0 H0 S2)} (c.requires) (λ b. s_shut (c.if-left-eq0.true) (c.refuse_for.ensures) (λ k l. refl))

pub pat_arg-mark-s1-requires : goal.pat_arg-mark-s1-requires
pat_arg-mark-s1-requires t c =
    tt

pub pat_arg-pat_must-s2-requires : goal.pat_arg-pat_must-s2-requires
pat_arg-pat_must-s2-requires t c =
    let pre0 = c.requires in
    let mark = c.mark-s1.ensures in
    let mark_ok = ok_marks mark pre0 in
    (omega arith, mark_ok)

pub pat_arg-at-requires : goal.pat_arg-at-requires
pat_arg-at-requires t c =
    let pat_must = c.pat_must-s2.ensures in
    let pat_must_ok = pat_must.ok in
    pat_must_ok.reads

pub pat_arg-returns-then-at : goal.pat_arg-returns-then-at
unfolding pat.pat_arg plan choose chosen
pat_arg-returns-then-at t c =
    let X0 = c.args.lent.text.now in
    let T0 = c.args.lent.toks.now in
    let N0 = c.args.lent.env.now in
    let J0 = c.args.table.now in
    let L0 = c.args.scratch.now in
    let H0 = c.args.finds.now in
    let S0 = c.args.s in
    let S2 = c.mark-s1.result in
    let L3 = c.pat_must-s2.new.scratch in
    let H3 = c.pat_must-s2.new.finds in
    let S3 = c.pat_must-s2.result in
    by_steps {m = (mem X0 T0 N0 J0 L0 H0 S0)} {m' = (mem X0 T0 N0 J0 L3 H3 S3)} (c.requires) (λ b. s_mark {e = (mem X0 T0 N0 J0 L3 H3 S3)} {x = X0} {t = T0} {n = N0} {j = J0} {l = L0} {h = H0} {s = S0} {s' = S2} (c.if-left-eq0.false) (c.mark-s1.ensures) (s_by {a = (mem X0 T0 N0 J0 L0 H0 S2)} {c = (mem X0 T0 N0 J0 L3 H3 S3)} {e = (mem X0 T0 N0 J0 L3 H3 S3)} _ (runs_in {a = (mem X0 T0 N0 J0 L0 H0 S2)} {c = (mem X0 T0 N0 J0 L3 H3 S3)} (c.pat_must-s2.ensures)) (s_kind {a = (mem X0 T0 N0 J0 L3 H3 S3)} {e = (mem X0 T0 N0 J0 L3 H3 S3)} (s_true {a = (mem X0 T0 N0 J0 L3 H3 S3)} {e = (mem X0 T0 N0 J0 L3 H3 S3)} _ _ (kind_at _ _ (mem X0 T0 N0 J0 L3 H3 S3) _ (c.at.ensures) (c.if-at.true)) s_end))))

pub pat_arg-eat-got-requires : goal.pat_arg-eat-got-requires
pat_arg-eat-got-requires t c =
    let pat_must = c.pat_must-s2.ensures in
    let pat_must_ok = pat_must.ok in
    (pat_must_ok.reads, pat_must_ok.logs, pat_must_ok.holds, omega arith)

pub pat_arg-either-s3-requires : goal.pat_arg-either-s3-requires
pat_arg-either-s3-requires t c =
    tt

pub pat_arg-close_node-requires : goal.pat_arg-close_node-requires
pat_arg-close_node-requires t c =
    let pre0 = c.requires in
    let mark = c.mark-s1.ensures in
    let mark_ok = ok_marks mark pre0 in
    let pat_must = c.pat_must-s2.ensures in
    let pat_must_ok = pat_must.ok in
    let eat = c.eat-got.ensures in
    let eat_ok = ok_eats eat pat_must_ok in
    let either = c.either-s3.ensures in
    let either_ok = ok_state either eat_ok in
    (either_ok.logs, small_len mark_ok)

pub pat_arg-returns : goal.pat_arg-returns
unfolding pat.pat_arg plan choose chosen
pat_arg-returns t c =
    let X0 = c.args.lent.text.now in
    let T0 = c.args.lent.toks.now in
    let N0 = c.args.lent.env.now in
    let J0 = c.args.table.now in
    let L0 = c.args.scratch.now in
    let H0 = c.args.finds.now in
    let S0 = c.args.s in
    let S2 = c.mark-s1.result in
    let L3 = c.pat_must-s2.new.scratch in
    let H3 = c.pat_must-s2.new.finds in
    let S3 = c.pat_must-s2.result in
    let L6 = c.eat-got.new.scratch in
    let H6 = c.eat-got.new.finds in
    let S7 = c.either-s3.result in
    let L8 = c.close_node.new.scratch in
    let S8 = c.close_node.result in
    by_steps {m = (mem X0 T0 N0 J0 L0 H0 S0)} {m' = (mem X0 T0 N0 J0 L8 H6 S8)} (c.requires) (λ b. s_mark {e = (mem X0 T0 N0 J0 L8 H6 S8)} {x = X0} {t = T0} {n = N0} {j = J0} {l = L0} {h = H0} {s = S0} {s' = S2} (c.if-left-eq0.false) (c.mark-s1.ensures) (s_by {a = (mem X0 T0 N0 J0 L0 H0 S2)} {c = (mem X0 T0 N0 J0 L3 H3 S3)} {e = (mem X0 T0 N0 J0 L8 H6 S8)} _ (runs_in {a = (mem X0 T0 N0 J0 L0 H0 S2)} {c = (mem X0 T0 N0 J0 L3 H3 S3)} (c.pat_must-s2.ensures)) (s_kind {a = (mem X0 T0 N0 J0 L3 H3 S3)} {e = (mem X0 T0 N0 J0 L8 H6 S8)} (s_false {a = (mem X0 T0 N0 J0 L3 H3 S3)} {e = (mem X0 T0 N0 J0 L8 H6 S8)} _ _ (kind_off _ _ (mem X0 T0 N0 J0 L3 H3 S3) _ (c.at.ensures) (c.if-at.false)) (s_eats _ _ {x = X0} {t = T0} {n = N0} {j = J0} {l = L3} {h = H3} {l' = L6} {s = S3} {s' = S7} {e = (mem X0 T0 N0 J0 L8 H6 S8)} _ {h' = H6} (eats_settled (c.either-s3.ensures) (c.eat-got.ensures)) (s_close {e = (mem X0 T0 N0 J0 L8 H6 S8)} {x = X0} {t = T0} {n = N0} {j = J0} {l = L6} {h = H6} {s = S7} {s' = S8} {l' = L8} (c.close_node.ensures) s_end))))))

pub pat_must-pat_prec-got-requires : goal.pat_must-pat_prec-got-requires
pat_must-pat_prec-got-requires t c =
    let pre0 = c.requires in
    (omega arith, pre0)

pub pat_must-report_error-requires : goal.pat_must-report_error-requires
pat_must-report_error-requires t c =
    let pat_prec = c.in-Err.ensures in
    let pat_prec_ok = pat_prec.ok in
    (pat_prec_ok.holds, (let few = pat_prec_ok.reads.few in let inside = pat_prec_ok.reads.inside in omega arith), omega arith)

pub pat_must-returns-in-Ok : goal.pat_must-returns-in-Ok
unfolding pat.pat_must plan choose chosen
pat_must-returns-in-Ok t c =
    let X0 = c.args.lent.text.now in
    let T0 = c.args.lent.toks.now in
    let N0 = c.args.lent.env.now in
    let J0 = c.args.table.now in
    let L0 = c.args.scratch.now in
    let H0 = c.args.finds.now in
    let S0 = c.args.s in
    let L1 = c.pat_prec-got.new.scratch in
    let H1 = c.pat_prec-got.new.finds in
    let S1 = c.in-Ok.s1 in
    by_steps {m = (mem X0 T0 N0 J0 L0 H0 S0)} {m' = (mem X0 T0 N0 J0 L1 H1 S1)} (c.requires) (λ b. s_run {a = (mem X0 T0 N0 J0 L0 H0 S0)} {c = (mem X0 T0 N0 J0 L1 H1 S1)} {e = (mem X0 T0 N0 J0 L1 H1 S1)} (runs_in {a = (mem X0 T0 N0 J0 L0 H0 S0)} {c = (mem X0 T0 N0 J0 L1 H1 S1)} (c.in-Ok.ensures)) s_end)

pub pat_must-returns-in-Err : goal.pat_must-returns-in-Err
unfolding pat.pat_must plan choose chosen
pat_must-returns-in-Err t c =
    let X0 = c.args.lent.text.now in
    let T0 = c.args.lent.toks.now in
    let N0 = c.args.lent.env.now in
    let J0 = c.args.table.now in
    let L0 = c.args.scratch.now in
    let H0 = c.args.finds.now in
    let S0 = c.args.s in
    let L1 = c.pat_prec-got.new.scratch in
    let H1 = c.pat_prec-got.new.finds in
    let S1 = c.in-Err.s1 in
    let H2 = c.report_error.new.finds in
    let S2 = c.report_error.result in
    by_steps {m = (mem X0 T0 N0 J0 L0 H0 S0)} {m' = (mem X0 T0 N0 J0 L1 H2 S2)} (c.requires) (λ b. s_run {a = (mem X0 T0 N0 J0 L0 H0 S0)} {c = (mem X0 T0 N0 J0 L1 H1 S1)} {e = (mem X0 T0 N0 J0 L1 H2 S2)} (runs_in {a = (mem X0 T0 N0 J0 L0 H0 S0)} {c = (mem X0 T0 N0 J0 L1 H1 S1)} (c.in-Err.ensures)) (s_report {e = (mem X0 T0 N0 J0 L1 H2 S2)} {x = X0} {t = T0} {n = N0} {j = J0} {l = L1} {h = H1} {s = S1} {s' = S2} {h' = H2} (c.report_error.ensures) s_end))

pub pat_prec-peek-requires : goal.pat_prec-peek-requires
pat_prec-peek-requires t c =
    let pre0 = c.requires in
    pre0.reads

pub pat_prec-atom-requires : goal.pat_prec-atom-requires
pat_prec-atom-requires t c =
    let pre0 = c.requires in
    (omega arith, (pre0, small_len pre0))

pub pat_prec-returns-in_default : goal.pat_prec-returns-in_default
unfolding root.body pat.pat_scope plan choose chosen
pat_prec-returns-in_default t c =
    let X0 = c.args.lent.text.now in
    let T0 = c.args.lent.toks.now in
    let N0 = c.args.lent.env.now in
    let J0 = c.args.table.now in
    let L0 = c.args.scratch.now in
    let H0 = c.args.finds.now in
    let S0 = c.args.s in
    let L2 = c.atom.new.scratch in
    let H2 = c.atom.new.finds in
    let S2 = out_state c.atom.result in
    by_steps {m = (mem X0 T0 N0 J0 L0 H0 S0)} {m' = (mem X0 T0 N0 J0 L2 H2 S2)} (c.requires) (λ b. s_rule {a = (mem X0 T0 N0 J0 L0 H0 S0)} {e = (mem X0 T0 N0 J0 L2 H2 S2)} (s_look {a = (mem X0 T0 N0 J0 L0 H0 S0)} {e = (mem X0 T0 N0 J0 L2 H2 S2)} (c.in_default.ensures) (s_by {a = (mem X0 T0 N0 J0 L0 H0 S0)} {c = (mem X0 T0 N0 J0 L2 H2 S2)} {e = (mem X0 T0 N0 J0 L2 H2 S2)} _ (c.atom.ensures) s_end)))

pub pat_prec-name_star-requires : goal.pat_prec-name_star-requires
pat_prec-name_star-requires t c =
    tt

pub pat_prec-con-requires : goal.pat_prec-con-requires
pat_prec-con-requires t c =
    let pre0 = c.requires in
    (omega arith, (pre0, small_len pre0))

pub pat_prec-returns-then-name_star : goal.pat_prec-returns-then-name_star
unfolding root.body pat.pat_scope plan choose chosen
pat_prec-returns-then-name_star t c =
    let X0 = c.args.lent.text.now in
    let T0 = c.args.lent.toks.now in
    let N0 = c.args.lent.env.now in
    let J0 = c.args.table.now in
    let L0 = c.args.scratch.now in
    let H0 = c.args.finds.now in
    let S0 = c.args.s in
    let L4 = c.con.new.scratch in
    let H4 = c.con.new.finds in
    let S4 = out_state c.con.result in
    by_steps {m = (mem X0 T0 N0 J0 L0 H0 S0)} {m' = (mem X0 T0 N0 J0 L4 H4 S4)} (c.requires) (λ b. s_rule {a = (mem X0 T0 N0 J0 L0 H0 S0)} {e = (mem X0 T0 N0 J0 L4 H4 S4)} (s_look {a = (mem X0 T0 N0 J0 L0 H0 S0)} {e = (mem X0 T0 N0 J0 L4 H4 S4)} (c.in-Some.ensures) (s_true {a = (mem X0 T0 N0 J0 L0 H0 S0)} {e = (mem X0 T0 N0 J0 L4 H4 S4)} _ _ (test_true (c.name_star.ensures) (c.if-name_star.true)) (s_by {a = (mem X0 T0 N0 J0 L0 H0 S0)} {c = (mem X0 T0 N0 J0 L4 H4 S4)} {e = (mem X0 T0 N0 J0 L4 H4 S4)} _ (c.con.ensures) s_end))))

pub pat_prec-peek_n-requires : goal.pat_prec-peek_n-requires
pat_prec-peek_n-requires t c =
    let pre0 = c.requires in
    pre0.reads

pub pat_prec-atom-requires-in_default-peek_n : goal.pat_prec-atom-requires-in_default-peek_n
pat_prec-atom-requires-in_default-peek_n t c =
    let pre0 = c.requires in
    (omega arith, (pre0, small_len pre0))

pub pat_prec-returns-in_default-peek_n : goal.pat_prec-returns-in_default-peek_n
unfolding root.body pat.pat_scope plan choose chosen
pat_prec-returns-in_default-peek_n t c =
    let X0 = c.args.lent.text.now in
    let T0 = c.args.lent.toks.now in
    let N0 = c.args.lent.env.now in
    let J0 = c.args.table.now in
    let L0 = c.args.scratch.now in
    let H0 = c.args.finds.now in
    let S0 = c.args.s in
    let L6 = c.atom-in_default-peek_n.new.scratch in
    let H6 = c.atom-in_default-peek_n.new.finds in
    let S6 = out_state c.atom-in_default-peek_n.result in
    by_steps {m = (mem X0 T0 N0 J0 L0 H0 S0)} {m' = (mem X0 T0 N0 J0 L6 H6 S6)} (c.requires) (λ b. s_rule {a = (mem X0 T0 N0 J0 L0 H0 S0)} {e = (mem X0 T0 N0 J0 L6 H6 S6)} (s_look {a = (mem X0 T0 N0 J0 L0 H0 S0)} {e = (mem X0 T0 N0 J0 L6 H6 S6)} (c.in-Some.ensures) (s_false {a = (mem X0 T0 N0 J0 L0 H0 S0)} {e = (mem X0 T0 N0 J0 L6 H6 S6)} _ _ (test_false (c.name_star.ensures) (c.if-name_star.false)) (s_true {a = (mem X0 T0 N0 J0 L0 H0 S0)} {e = (mem X0 T0 N0 J0 L6 H6 S6)} _ _ (kind_is (c.if-k-eq-OP_KW.true)) (s_look {a = (mem X0 T0 N0 J0 L0 H0 S0)} {e = (mem X0 T0 N0 J0 L6 H6 S6)} (c.in_default-peek_n.ensures) (s_by {a = (mem X0 T0 N0 J0 L0 H0 S0)} {c = (mem X0 T0 N0 J0 L6 H6 S6)} {e = (mem X0 T0 N0 J0 L6 H6 S6)} _ (c.atom-in_default-peek_n.ensures) s_end))))))

pub pat_prec-name_star-requires-then-k-eq-OP_KW : goal.pat_prec-name_star-requires-then-k-eq-OP_KW
pat_prec-name_star-requires-then-k-eq-OP_KW t c =
    tt

pub pat_prec-con-requires-then-name_star-2 : goal.pat_prec-con-requires-then-name_star-2
pat_prec-con-requires-then-name_star-2 t c =
    let pre0 = c.requires in
    (omega arith, (pre0, small_len pre0))

pub pat_prec-returns-then-name_star-2 : goal.pat_prec-returns-then-name_star-2
unfolding root.body pat.pat_scope plan choose chosen
pat_prec-returns-then-name_star-2 t c =
    let X0 = c.args.lent.text.now in
    let T0 = c.args.lent.toks.now in
    let N0 = c.args.lent.env.now in
    let J0 = c.args.table.now in
    let L0 = c.args.scratch.now in
    let H0 = c.args.finds.now in
    let S0 = c.args.s in
    let L8 = c.con-then-name_star-2.new.scratch in
    let H8 = c.con-then-name_star-2.new.finds in
    let S8 = out_state c.con-then-name_star-2.result in
    by_steps {m = (mem X0 T0 N0 J0 L0 H0 S0)} {m' = (mem X0 T0 N0 J0 L8 H8 S8)} (c.requires) (λ b. s_rule {a = (mem X0 T0 N0 J0 L0 H0 S0)} {e = (mem X0 T0 N0 J0 L8 H8 S8)} (s_look {a = (mem X0 T0 N0 J0 L0 H0 S0)} {e = (mem X0 T0 N0 J0 L8 H8 S8)} (c.in-Some.ensures) (s_false {a = (mem X0 T0 N0 J0 L0 H0 S0)} {e = (mem X0 T0 N0 J0 L8 H8 S8)} _ _ (test_false (c.name_star.ensures) (c.if-name_star.false)) (s_true {a = (mem X0 T0 N0 J0 L0 H0 S0)} {e = (mem X0 T0 N0 J0 L8 H8 S8)} _ _ (kind_is (c.if-k-eq-OP_KW.true)) (s_look {a = (mem X0 T0 N0 J0 L0 H0 S0)} {e = (mem X0 T0 N0 J0 L8 H8 S8)} (c.in-Some-peek_n.ensures) (s_true {a = (mem X0 T0 N0 J0 L0 H0 S0)} {e = (mem X0 T0 N0 J0 L8 H8 S8)} _ _ (test_true (c.name_star-then-k-eq-OP_KW.ensures) (c.if-name_star-2.true)) (s_by {a = (mem X0 T0 N0 J0 L0 H0 S0)} {c = (mem X0 T0 N0 J0 L8 H8 S8)} {e = (mem X0 T0 N0 J0 L8 H8 S8)} _ (c.con-then-name_star-2.ensures) s_end)))))))

pub pat_prec-atom-requires-then-k-eq-OP_KW : goal.pat_prec-atom-requires-then-k-eq-OP_KW
pat_prec-atom-requires-then-k-eq-OP_KW t c =
    let pre0 = c.requires in
    (omega arith, (pre0, small_len pre0))

pub pat_prec-returns-then-k-eq-OP_KW : goal.pat_prec-returns-then-k-eq-OP_KW
unfolding root.body pat.pat_scope plan choose chosen
pat_prec-returns-then-k-eq-OP_KW t c =
    let X0 = c.args.lent.text.now in
    let T0 = c.args.lent.toks.now in
    let N0 = c.args.lent.env.now in
    let J0 = c.args.table.now in
    let L0 = c.args.scratch.now in
    let H0 = c.args.finds.now in
    let S0 = c.args.s in
    let L8 = c.atom-then-k-eq-OP_KW.new.scratch in
    let H8 = c.atom-then-k-eq-OP_KW.new.finds in
    let S8 = out_state c.atom-then-k-eq-OP_KW.result in
    by_steps {m = (mem X0 T0 N0 J0 L0 H0 S0)} {m' = (mem X0 T0 N0 J0 L8 H8 S8)} (c.requires) (λ b. s_rule {a = (mem X0 T0 N0 J0 L0 H0 S0)} {e = (mem X0 T0 N0 J0 L8 H8 S8)} (s_look {a = (mem X0 T0 N0 J0 L0 H0 S0)} {e = (mem X0 T0 N0 J0 L8 H8 S8)} (c.in-Some.ensures) (s_false {a = (mem X0 T0 N0 J0 L0 H0 S0)} {e = (mem X0 T0 N0 J0 L8 H8 S8)} _ _ (test_false (c.name_star.ensures) (c.if-name_star.false)) (s_true {a = (mem X0 T0 N0 J0 L0 H0 S0)} {e = (mem X0 T0 N0 J0 L8 H8 S8)} _ _ (kind_is (c.if-k-eq-OP_KW.true)) (s_look {a = (mem X0 T0 N0 J0 L0 H0 S0)} {e = (mem X0 T0 N0 J0 L8 H8 S8)} (c.in-Some-peek_n.ensures) (s_false {a = (mem X0 T0 N0 J0 L0 H0 S0)} {e = (mem X0 T0 N0 J0 L8 H8 S8)} _ _ (test_false (c.name_star-then-k-eq-OP_KW.ensures) (c.if-name_star-2.false)) (s_by {a = (mem X0 T0 N0 J0 L0 H0 S0)} {c = (mem X0 T0 N0 J0 L8 H8 S8)} {e = (mem X0 T0 N0 J0 L8 H8 S8)} _ (c.atom-then-k-eq-OP_KW.ensures) s_end)))))))

pub pat_prec-atom-requires-2 : goal.pat_prec-atom-requires-2
pat_prec-atom-requires-2 t c =
    let pre0 = c.requires in
    (omega arith, (pre0, small_len pre0))

pub pat_prec-returns : goal.pat_prec-returns
unfolding root.body pat.pat_scope plan choose chosen
pat_prec-returns t c =
    let X0 = c.args.lent.text.now in
    let T0 = c.args.lent.toks.now in
    let N0 = c.args.lent.env.now in
    let J0 = c.args.table.now in
    let L0 = c.args.scratch.now in
    let H0 = c.args.finds.now in
    let S0 = c.args.s in
    let L5 = c.atom-2.new.scratch in
    let H5 = c.atom-2.new.finds in
    let S5 = out_state c.atom-2.result in
    by_steps {m = (mem X0 T0 N0 J0 L0 H0 S0)} {m' = (mem X0 T0 N0 J0 L5 H5 S5)} (c.requires) (λ b. s_rule {a = (mem X0 T0 N0 J0 L0 H0 S0)} {e = (mem X0 T0 N0 J0 L5 H5 S5)} (s_look {a = (mem X0 T0 N0 J0 L0 H0 S0)} {e = (mem X0 T0 N0 J0 L5 H5 S5)} (c.in-Some.ensures) (s_false {a = (mem X0 T0 N0 J0 L0 H0 S0)} {e = (mem X0 T0 N0 J0 L5 H5 S5)} _ _ (test_false (c.name_star.ensures) (c.if-name_star.false)) (s_false {a = (mem X0 T0 N0 J0 L0 H0 S0)} {e = (mem X0 T0 N0 J0 L5 H5 S5)} _ _ (kind_not (c.if-k-eq-OP_KW.false)) (s_by {a = (mem X0 T0 N0 J0 L0 H0 S0)} {c = (mem X0 T0 N0 J0 L5 H5 S5)} {e = (mem X0 T0 N0 J0 L5 H5 S5)} _ (c.atom-2.ensures) s_end)))))

pub rest-bump-s1-requires : goal.rest-bump-s1-requires
rest-bump-s1-requires t c =
    let pre0 = c.requires.0 in
    (pre0.reads, pre0.logs)

pub rest-rows-s2-requires : goal.rest-rows-s2-requires
rest-rows-s2-requires t c =
    let pre0 = c.requires.0 in
    let bump = c.bump-s1.ensures in
    let bump_ok = ok_bumps bump pre0 in
    (omega arith, bump_ok)

pub rest-close_node-requires : goal.rest-close_node-requires
rest-close_node-requires t c =
    let pre1 = c.requires.1 in
    let rows = c.rows-s2.ensures in
    let rows_ok = rows.ok in
    (rows_ok.logs, pre1)

pub rest-returns-then-k-eq-LCURLY : goal.rest-returns-then-k-eq-LCURLY
unfolding pat.at_pat_rest util.end_sep plan choose chosen
rest-returns-then-k-eq-LCURLY t c =
    let X0 = c.args.lent.text.now in
    let T0 = c.args.lent.toks.now in
    let N0 = c.args.lent.env.now in
    let J0 = c.args.table.now in
    let L0 = c.args.scratch.now in
    let H0 = c.args.finds.now in
    let S0 = c.args.s in
    let L2 = c.bump-s1.new.scratch in
    let S2 = c.bump-s1.result in
    let L3 = c.rows-s2.new.scratch in
    let H3 = c.rows-s2.new.finds in
    let S3 = c.rows-s2.result in
    let L4 = c.close_node.new.scratch in
    let S4 = c.close_node.result in
    in_steps {m = (mem X0 T0 N0 J0 L0 H0 S0)} {m' = (mem X0 T0 N0 J0 L4 H3 S4)} (c.requires.0) (s_true {a = (mem X0 T0 N0 J0 L0 H0 S0)} {e = (mem X0 T0 N0 J0 L4 H3 S4)} _ _ (kind_is (c.if-k-eq-LCURLY.true)) (s_bump {e = (mem X0 T0 N0 J0 L4 H3 S4)} {x = X0} {t = T0} {n = N0} {j = J0} {l = L0} {h = H0} {s = S0} {s' = S2} {l' = L2} (c.bump-s1.ensures) (s_run {a = (mem X0 T0 N0 J0 L2 H0 S2)} {c = (mem X0 T0 N0 J0 L3 H3 S3)} {e = (mem X0 T0 N0 J0 L4 H3 S4)} (c.rows-s2.ensures) (s_close {e = (mem X0 T0 N0 J0 L4 H3 S4)} {x = X0} {t = T0} {n = N0} {j = J0} {l = L3} {h = H3} {s = S3} {s' = S4} {l' = L4} (c.close_node.ensures) s_end))))

pub rest-bump-s1-requires-then-k-eq-LROUND : goal.rest-bump-s1-requires-then-k-eq-LROUND
rest-bump-s1-requires-then-k-eq-LROUND t c =
    let pre0 = c.requires.0 in
    (pre0.reads, pre0.logs)

pub rest-at_round-requires : goal.rest-at_round-requires
rest-at_round-requires t c =
    let pre0 = c.requires.0 in
    let pre1 = c.requires.1 in
    let bump2 = c.bump-s1-then-k-eq-LROUND.ensures in
    let bump2_ok = ok_bumps bump2 pre0 in
    (omega arith, (bump2_ok, pre1))

pub rest-returns-then-k-eq-LROUND : goal.rest-returns-then-k-eq-LROUND
unfolding pat.at_pat_rest util.end_sep plan choose chosen
rest-returns-then-k-eq-LROUND t c =
    let X0 = c.args.lent.text.now in
    let T0 = c.args.lent.toks.now in
    let N0 = c.args.lent.env.now in
    let J0 = c.args.table.now in
    let L0 = c.args.scratch.now in
    let H0 = c.args.finds.now in
    let S0 = c.args.s in
    let L3 = c.bump-s1-then-k-eq-LROUND.new.scratch in
    let S3 = c.bump-s1-then-k-eq-LROUND.result in
    let L4 = c.at_round.new.scratch in
    let H4 = c.at_round.new.finds in
    let S4 = out_state c.at_round.result in
    in_steps {m = (mem X0 T0 N0 J0 L0 H0 S0)} {m' = (mem X0 T0 N0 J0 L4 H4 S4)} (c.requires.0) (s_false {a = (mem X0 T0 N0 J0 L0 H0 S0)} {e = (mem X0 T0 N0 J0 L4 H4 S4)} _ _ (kind_not (c.if-k-eq-LCURLY.false)) (s_true {a = (mem X0 T0 N0 J0 L0 H0 S0)} {e = (mem X0 T0 N0 J0 L4 H4 S4)} _ _ (kind_is (c.if-k-eq-LROUND.true)) (s_bump {e = (mem X0 T0 N0 J0 L4 H4 S4)} {x = X0} {t = T0} {n = N0} {j = J0} {l = L0} {h = H0} {s = S0} {s' = S3} {l' = L3} (c.bump-s1-then-k-eq-LROUND.ensures) (s_by {a = (mem X0 T0 N0 J0 L3 H0 S3)} {c = (mem X0 T0 N0 J0 L4 H4 S4)} {e = (mem X0 T0 N0 J0 L4 H4 S4)} _ (c.at_round.ensures) s_end))))

pub rest-bump-s1-requires-then-k-eq-LSQUARE : goal.rest-bump-s1-requires-then-k-eq-LSQUARE
rest-bump-s1-requires-then-k-eq-LSQUARE t c =
    let pre0 = c.requires.0 in
    (pre0.reads, pre0.logs)

pub rest-args-s2-requires : goal.rest-args-s2-requires
rest-args-s2-requires t c =
    let pre0 = c.requires.0 in
    let bump3 = c.bump-s1-then-k-eq-LSQUARE.ensures in
    let bump3_ok = ok_bumps bump3 pre0 in
    (omega arith, (bump3_ok, omega arith))

pub rest-close_node-requires-then-k-eq-LSQUARE : goal.rest-close_node-requires-then-k-eq-LSQUARE
rest-close_node-requires-then-k-eq-LSQUARE t c =
    let pre1 = c.requires.1 in
    let args2 = c.args-s2.ensures in
    let args2_ok = args2.ok in
    (args2_ok.logs, pre1)

pub rest-returns-then-k-eq-LSQUARE : goal.rest-returns-then-k-eq-LSQUARE
unfolding pat.at_pat_rest util.end_sep plan choose chosen
rest-returns-then-k-eq-LSQUARE t c =
    let X0 = c.args.lent.text.now in
    let T0 = c.args.lent.toks.now in
    let N0 = c.args.lent.env.now in
    let J0 = c.args.table.now in
    let L0 = c.args.scratch.now in
    let H0 = c.args.finds.now in
    let S0 = c.args.s in
    let L4 = c.bump-s1-then-k-eq-LSQUARE.new.scratch in
    let S4 = c.bump-s1-then-k-eq-LSQUARE.result in
    let L5 = c.args-s2.new.scratch in
    let H5 = c.args-s2.new.finds in
    let S5 = c.args-s2.result in
    let L6 = c.close_node-then-k-eq-LSQUARE.new.scratch in
    let S6 = c.close_node-then-k-eq-LSQUARE.result in
    in_steps {m = (mem X0 T0 N0 J0 L0 H0 S0)} {m' = (mem X0 T0 N0 J0 L6 H5 S6)} (c.requires.0) (s_false {a = (mem X0 T0 N0 J0 L0 H0 S0)} {e = (mem X0 T0 N0 J0 L6 H5 S6)} _ _ (kind_not (c.if-k-eq-LCURLY.false)) (s_false {a = (mem X0 T0 N0 J0 L0 H0 S0)} {e = (mem X0 T0 N0 J0 L6 H5 S6)} _ _ (kind_not (c.if-k-eq-LROUND.false)) (s_true {a = (mem X0 T0 N0 J0 L0 H0 S0)} {e = (mem X0 T0 N0 J0 L6 H5 S6)} _ _ (kind_is (c.if-k-eq-LSQUARE.true)) (s_bump {e = (mem X0 T0 N0 J0 L6 H5 S6)} {x = X0} {t = T0} {n = N0} {j = J0} {l = L0} {h = H0} {s = S0} {s' = S4} {l' = L4} (c.bump-s1-then-k-eq-LSQUARE.ensures) (s_run {a = (mem X0 T0 N0 J0 L4 H0 S4)} {c = (mem X0 T0 N0 J0 L5 H5 S5)} {e = (mem X0 T0 N0 J0 L6 H5 S6)} (c.args-s2.ensures) (s_close {e = (mem X0 T0 N0 J0 L6 H5 S6)} {x = X0} {t = T0} {n = N0} {j = J0} {l = L5} {h = H5} {s = S5} {s' = S6} {l' = L6} (c.close_node-then-k-eq-LSQUARE.ensures) s_end))))))

pub rest-bump-s1-requires-then-k-eq-HASH : goal.rest-bump-s1-requires-then-k-eq-HASH
rest-bump-s1-requires-then-k-eq-HASH t c =
    let pre0 = c.requires.0 in
    (pre0.reads, pre0.logs)

pub rest-vector-s2-requires : goal.rest-vector-s2-requires
rest-vector-s2-requires t c =
    let pre0 = c.requires.0 in
    let bump4 = c.bump-s1-then-k-eq-HASH.ensures in
    let bump4_ok = ok_bumps bump4 pre0 in
    (omega arith, bump4_ok)

pub rest-close_node-requires-then-k-eq-HASH : goal.rest-close_node-requires-then-k-eq-HASH
rest-close_node-requires-then-k-eq-HASH t c =
    let pre1 = c.requires.1 in
    let vector = c.vector-s2.ensures in
    let vector_ok = vector.ok in
    (vector_ok.logs, pre1)

pub rest-returns-then-k-eq-HASH : goal.rest-returns-then-k-eq-HASH
unfolding pat.at_pat_rest util.end_sep plan choose chosen
rest-returns-then-k-eq-HASH t c =
    let X0 = c.args.lent.text.now in
    let T0 = c.args.lent.toks.now in
    let N0 = c.args.lent.env.now in
    let J0 = c.args.table.now in
    let L0 = c.args.scratch.now in
    let H0 = c.args.finds.now in
    let S0 = c.args.s in
    let L5 = c.bump-s1-then-k-eq-HASH.new.scratch in
    let S5 = c.bump-s1-then-k-eq-HASH.result in
    let L6 = c.vector-s2.new.scratch in
    let H6 = c.vector-s2.new.finds in
    let S6 = c.vector-s2.result in
    let L7 = c.close_node-then-k-eq-HASH.new.scratch in
    let S7 = c.close_node-then-k-eq-HASH.result in
    in_steps {m = (mem X0 T0 N0 J0 L0 H0 S0)} {m' = (mem X0 T0 N0 J0 L7 H6 S7)} (c.requires.0) (s_false {a = (mem X0 T0 N0 J0 L0 H0 S0)} {e = (mem X0 T0 N0 J0 L7 H6 S7)} _ _ (kind_not (c.if-k-eq-LCURLY.false)) (s_false {a = (mem X0 T0 N0 J0 L0 H0 S0)} {e = (mem X0 T0 N0 J0 L7 H6 S7)} _ _ (kind_not (c.if-k-eq-LROUND.false)) (s_false {a = (mem X0 T0 N0 J0 L0 H0 S0)} {e = (mem X0 T0 N0 J0 L7 H6 S7)} _ _ (kind_not (c.if-k-eq-LSQUARE.false)) (s_true {a = (mem X0 T0 N0 J0 L0 H0 S0)} {e = (mem X0 T0 N0 J0 L7 H6 S7)} _ _ (kind_is (c.if-k-eq-HASH.true)) (s_bump {e = (mem X0 T0 N0 J0 L7 H6 S7)} {x = X0} {t = T0} {n = N0} {j = J0} {l = L0} {h = H0} {s = S0} {s' = S5} {l' = L5} (c.bump-s1-then-k-eq-HASH.ensures) (s_by {a = (mem X0 T0 N0 J0 L5 H0 S5)} {c = (mem X0 T0 N0 J0 L6 H6 S6)} {e = (mem X0 T0 N0 J0 L7 H6 S7)} _ (runs_in {a = (mem X0 T0 N0 J0 L5 H0 S5)} {c = (mem X0 T0 N0 J0 L6 H6 S6)} (c.vector-s2.ensures)) (s_close {e = (mem X0 T0 N0 J0 L7 H6 S7)} {x = X0} {t = T0} {n = N0} {j = J0} {l = L6} {h = H6} {s = S6} {s' = S7} {l' = L7} (c.close_node-then-k-eq-HASH.ensures) s_end)))))))

pub rest-returns : goal.rest-returns
unfolding pat.at_pat_rest util.end_sep plan choose chosen
rest-returns t c =
    let pre0 = c.requires.0 in
    let if1 = c.if-k-eq-LCURLY.false in
    let if2 = c.if-k-eq-LROUND.false in
    let if3 = c.if-k-eq-LSQUARE.false in
    let if4 = c.if-k-eq-HASH.false in
    in_steps pre0 (s_false _ _ (kind_not if1) (s_false _ _ (kind_not if2) (s_false _ _ (kind_not if3) (s_false _ _ (kind_not if4) s_end))))

pub row-refuse_for-requires : goal.row-refuse_for-requires
row-refuse_for-requires t c =
    tt

pub row-returns-then-left-eq0 : goal.row-returns-then-left-eq0
unfolding pat.pat_row plan choose chosen hushed
row-returns-then-left-eq0 t c =
    let X0 = c.args.lent.text.now in
    let T0 = c.args.lent.toks.now in
    let N0 = c.args.lent.env.now in
    let J0 = c.args.table.now in
    let L0 = c.args.scratch.now in
    let H0 = c.args.finds.now in
    let S0 = c.args.s in
    let S2 = c.refuse_for.result in
    by_steps {m = (mem X0 T0 N0 J0 L0 H0 S0)} {m' = (mem X0 T0 N0 J0 L0 H0 S2)} (c.requires) (λ b. s_shut (c.if-left-eq0.true) (c.refuse_for.ensures) (λ k l. refl))

pub row-mark-s1-requires : goal.row-mark-s1-requires
row-mark-s1-requires t c =
    tt

pub row-at-requires : goal.row-at-requires
row-at-requires t c =
    let pre0 = c.requires in
    let mark = c.mark-s1.ensures in
    let mark_ok = ok_marks mark pre0 in
    mark_ok.reads

pub row-bump-s2-requires : goal.row-bump-s2-requires
row-bump-s2-requires t c =
    let pre0 = c.requires in
    let mark = c.mark-s1.ensures in
    let mark_ok = ok_marks mark pre0 in
    (mark_ok.reads, mark_ok.logs)

pub row-close_node-requires : goal.row-close_node-requires
row-close_node-requires t c =
    let pre0 = c.requires in
    let mark = c.mark-s1.ensures in
    let mark_ok = ok_marks mark pre0 in
    let bump = c.bump-s2.ensures in
    let bump_ok = ok_bumps bump mark_ok in
    (bump_ok.logs, small_len mark_ok)

pub row-returns-then-at : goal.row-returns-then-at
unfolding pat.pat_row plan choose chosen
row-returns-then-at t c =
    let X0 = c.args.lent.text.now in
    let T0 = c.args.lent.toks.now in
    let N0 = c.args.lent.env.now in
    let J0 = c.args.table.now in
    let L0 = c.args.scratch.now in
    let H0 = c.args.finds.now in
    let S0 = c.args.s in
    let S2 = c.mark-s1.result in
    let L5 = c.bump-s2.new.scratch in
    let S5 = c.bump-s2.result in
    let L6 = c.close_node.new.scratch in
    let S6 = c.close_node.result in
    by_steps {m = (mem X0 T0 N0 J0 L0 H0 S0)} {m' = (mem X0 T0 N0 J0 L6 H0 S6)} (c.requires) (λ b. s_mark {e = (mem X0 T0 N0 J0 L6 H0 S6)} {x = X0} {t = T0} {n = N0} {j = J0} {l = L0} {h = H0} {s = S0} {s' = S2} (c.if-left-eq0.false) (c.mark-s1.ensures) (s_kind {a = (mem X0 T0 N0 J0 L0 H0 S2)} {e = (mem X0 T0 N0 J0 L6 H0 S6)} (s_true {a = (mem X0 T0 N0 J0 L0 H0 S2)} {e = (mem X0 T0 N0 J0 L6 H0 S6)} _ _ (kind_at _ _ (mem X0 T0 N0 J0 L0 H0 S2) _ (c.at.ensures) (c.if-at.true)) (s_bump {e = (mem X0 T0 N0 J0 L6 H0 S6)} {x = X0} {t = T0} {n = N0} {j = J0} {l = L0} {h = H0} {s = S2} {s' = S5} {l' = L5} (c.bump-s2.ensures) (s_close {e = (mem X0 T0 N0 J0 L6 H0 S6)} {x = X0} {t = T0} {n = N0} {j = J0} {l = L5} {h = H0} {s = S5} {s' = S6} {l' = L6} (c.close_node.ensures) s_end)))))

pub row-at_n-requires : goal.row-at_n-requires
row-at_n-requires t c =
    let pre0 = c.requires in
    let mark = c.mark-s1.ensures in
    let mark_ok = ok_marks mark pre0 in
    mark_ok.reads

pub row-lab-s2-requires : goal.row-lab-s2-requires
row-lab-s2-requires t c =
    let pre0 = c.requires in
    let mark = c.mark-s1.ensures in
    let mark_ok = ok_marks mark pre0 in
    (mark_ok.reads, mark_ok.logs, mark_ok.holds)

pub row-eat-got-requires : goal.row-eat-got-requires
row-eat-got-requires t c =
    let pre0 = c.requires in
    let mark = c.mark-s1.ensures in
    let mark_ok = ok_marks mark pre0 in
    let lab = c.lab-s2.ensures in
    let lab_ok = ok_eats lab mark_ok in
    (lab_ok.reads, lab_ok.logs, lab_ok.holds, omega arith)

pub row-either-s3-requires : goal.row-either-s3-requires
row-either-s3-requires t c =
    tt

pub row-pat_must-s4-requires : goal.row-pat_must-s4-requires
row-pat_must-s4-requires t c =
    let pre0 = c.requires in
    let mark = c.mark-s1.ensures in
    let mark_ok = ok_marks mark pre0 in
    let lab = c.lab-s2.ensures in
    let lab_ok = ok_eats lab mark_ok in
    let eat = c.eat-got.ensures in
    let eat_ok = ok_eats eat lab_ok in
    let either = c.either-s3.ensures in
    let either_ok = ok_state either eat_ok in
    (omega arith, either_ok)

pub row-close_node-requires-then-at_n : goal.row-close_node-requires-then-at_n
row-close_node-requires-then-at_n t c =
    let pre0 = c.requires in
    let mark = c.mark-s1.ensures in
    let mark_ok = ok_marks mark pre0 in
    let pat_must = c.pat_must-s4.ensures in
    let pat_must_ok = pat_must.ok in
    (pat_must_ok.logs, small_len mark_ok)

pub row-returns-then-at_n : goal.row-returns-then-at_n
unfolding pat.pat_row plan choose chosen
row-returns-then-at_n t c =
    let X0 = c.args.lent.text.now in
    let T0 = c.args.lent.toks.now in
    let N0 = c.args.lent.env.now in
    let J0 = c.args.table.now in
    let L0 = c.args.scratch.now in
    let H0 = c.args.finds.now in
    let S0 = c.args.s in
    let S2 = c.mark-s1.result in
    let L7 = c.lab-s2.new.scratch in
    let H7 = c.lab-s2.new.finds in
    let S7 = c.lab-s2.result in
    let L8 = c.eat-got.new.scratch in
    let H8 = c.eat-got.new.finds in
    let S9 = c.either-s3.result in
    let L10 = c.pat_must-s4.new.scratch in
    let H10 = c.pat_must-s4.new.finds in
    let S10 = c.pat_must-s4.result in
    let L11 = c.close_node-then-at_n.new.scratch in
    let S11 = c.close_node-then-at_n.result in
    by_steps {m = (mem X0 T0 N0 J0 L0 H0 S0)} {m' = (mem X0 T0 N0 J0 L11 H10 S11)} (c.requires) (λ b. s_mark {e = (mem X0 T0 N0 J0 L11 H10 S11)} {x = X0} {t = T0} {n = N0} {j = J0} {l = L0} {h = H0} {s = S0} {s' = S2} (c.if-left-eq0.false) (c.mark-s1.ensures) (s_kind {a = (mem X0 T0 N0 J0 L0 H0 S2)} {e = (mem X0 T0 N0 J0 L11 H10 S11)} (s_false {a = (mem X0 T0 N0 J0 L0 H0 S2)} {e = (mem X0 T0 N0 J0 L11 H10 S11)} _ _ (kind_off _ _ (mem X0 T0 N0 J0 L0 H0 S2) _ (c.at.ensures) (c.if-at.false)) (s_kind {a = (mem X0 T0 N0 J0 L0 H0 S2)} {e = (mem X0 T0 N0 J0 L11 H10 S11)} (s_true {a = (mem X0 T0 N0 J0 L0 H0 S2)} {e = (mem X0 T0 N0 J0 L11 H10 S11)} _ _ (kind_at _ _ (mem X0 T0 N0 J0 L0 H0 S2) _ (c.at_n.ensures) (c.if-at_n.true)) (s_eats _ _ {x = X0} {t = T0} {n = N0} {j = J0} {l = L0} {h = H0} {l' = L7} {s = S2} {s' = S7} {e = (mem X0 T0 N0 J0 L11 H10 S11)} _ {h' = H7} (c.lab-s2.ensures) (s_eats _ _ {x = X0} {t = T0} {n = N0} {j = J0} {l = L7} {h = H7} {l' = L8} {s = S7} {s' = S9} {e = (mem X0 T0 N0 J0 L11 H10 S11)} _ {h' = H8} (eats_settled (c.either-s3.ensures) (c.eat-got.ensures)) (s_by {a = (mem X0 T0 N0 J0 L8 H8 S9)} {c = (mem X0 T0 N0 J0 L10 H10 S10)} {e = (mem X0 T0 N0 J0 L11 H10 S11)} _ (runs_in {a = (mem X0 T0 N0 J0 L8 H8 S9)} {c = (mem X0 T0 N0 J0 L10 H10 S10)} (c.pat_must-s4.ensures)) (s_close {e = (mem X0 T0 N0 J0 L11 H10 S11)} {x = X0} {t = T0} {n = N0} {j = J0} {l = L10} {h = H10} {s = S10} {s' = S11} {l' = L11} (c.close_node-then-at_n.ensures) s_end)))))))))

pub row-eat_name_star-name-requires : goal.row-eat_name_star-name-requires
row-eat_name_star-name-requires t c =
    let pre0 = c.requires in
    let mark = c.mark-s1.ensures in
    let mark_ok = ok_marks mark pre0 in
    (mark_ok.reads, mark_ok.logs, mark_ok.holds)

pub row-either-s2-requires : goal.row-either-s2-requires
row-either-s2-requires t c =
    tt

pub row-ty_annotation-ty-requires : goal.row-ty_annotation-ty-requires
row-ty_annotation-ty-requires t c =
    let pre0 = c.requires in
    let mark = c.mark-s1.ensures in
    let mark_ok = ok_marks mark pre0 in
    let eat_name_star = c.eat_name_star-name.ensures in
    let eat_name_star_ok = ok_eats eat_name_star mark_ok in
    let either2 = c.either-s2.ensures in
    let either2_ok = ok_state either2 eat_name_star_ok in
    either2_ok

pub row-either-s3-requires-2 : goal.row-either-s3-requires-2
row-either-s3-requires-2 t c =
    tt

pub row-as_pat_tl-more-requires : goal.row-as_pat_tl-more-requires
row-as_pat_tl-more-requires t c =
    let ty_annotation = c.ty_annotation-ty.ensures in
    let ty_annotation_ok = ty_annotation.ok in
    let either3 = c.either-s3-2.ensures in
    let either3_ok = ok_state either3 ty_annotation_ok in
    (omega arith, either3_ok)

pub row-either-s4-requires : goal.row-either-s4-requires
row-either-s4-requires t c =
    tt

pub row-close_node-requires-2 : goal.row-close_node-requires-2
row-close_node-requires-2 t c =
    let pre0 = c.requires in
    let mark = c.mark-s1.ensures in
    let mark_ok = ok_marks mark pre0 in
    let as_pat_tl = c.as_pat_tl-more.ensures in
    let as_pat_tl_ok = as_pat_tl.ok in
    let either4 = c.either-s4.ensures in
    let either4_ok = ok_state either4 as_pat_tl_ok in
    (either4_ok.logs, small_len mark_ok)

pub row-returns : goal.row-returns
unfolding pat.pat_row plan choose chosen
row-returns t c =
    let X0 = c.args.lent.text.now in
    let T0 = c.args.lent.toks.now in
    let N0 = c.args.lent.env.now in
    let J0 = c.args.table.now in
    let L0 = c.args.scratch.now in
    let H0 = c.args.finds.now in
    let S0 = c.args.s in
    let S2 = c.mark-s1.result in
    let L7 = c.eat_name_star-name.new.scratch in
    let H7 = c.eat_name_star-name.new.finds in
    let S8 = c.either-s2.result in
    let L9 = c.ty_annotation-ty.new.scratch in
    let H9 = c.ty_annotation-ty.new.finds in
    let S9 = out_state c.ty_annotation-ty.result in
    let S10 = c.either-s3-2.result in
    let L11 = c.as_pat_tl-more.new.scratch in
    let H11 = c.as_pat_tl-more.new.finds in
    let S11 = out_state c.as_pat_tl-more.result in
    let S12 = c.either-s4.result in
    let L13 = c.close_node-2.new.scratch in
    let S13 = c.close_node-2.result in
    by_steps {m = (mem X0 T0 N0 J0 L0 H0 S0)} {m' = (mem X0 T0 N0 J0 L13 H11 S13)} (c.requires) (λ b. s_mark {e = (mem X0 T0 N0 J0 L13 H11 S13)} {x = X0} {t = T0} {n = N0} {j = J0} {l = L0} {h = H0} {s = S0} {s' = S2} (c.if-left-eq0.false) (c.mark-s1.ensures) (s_kind {a = (mem X0 T0 N0 J0 L0 H0 S2)} {e = (mem X0 T0 N0 J0 L13 H11 S13)} (s_false {a = (mem X0 T0 N0 J0 L0 H0 S2)} {e = (mem X0 T0 N0 J0 L13 H11 S13)} _ _ (kind_off _ _ (mem X0 T0 N0 J0 L0 H0 S2) _ (c.at.ensures) (c.if-at.false)) (s_kind {a = (mem X0 T0 N0 J0 L0 H0 S2)} {e = (mem X0 T0 N0 J0 L13 H11 S13)} (s_false {a = (mem X0 T0 N0 J0 L0 H0 S2)} {e = (mem X0 T0 N0 J0 L13 H11 S13)} _ _ (kind_off _ _ (mem X0 T0 N0 J0 L0 H0 S2) _ (c.at_n.ensures) (c.if-at_n.false)) (s_eats _ _ {x = X0} {t = T0} {n = N0} {j = J0} {l = L0} {h = H0} {l' = L7} {s = S2} {s' = S8} {e = (mem X0 T0 N0 J0 L13 H11 S13)} _ {h' = H7} (eats_settled (c.either-s2.ensures) (c.eat_name_star-name.ensures)) (s_by {a = (mem X0 T0 N0 J0 L7 H7 S8)} {c = (mem X0 T0 N0 J0 L9 H9 S10)} {e = (mem X0 T0 N0 J0 L13 H11 S13)} _ (settled (c.either-s3-2.ensures) (runs_in {a = (mem X0 T0 N0 J0 L7 H7 S8)} {c = (mem X0 T0 N0 J0 L9 H9 S9)} (c.ty_annotation-ty.ensures))) (s_by {a = (mem X0 T0 N0 J0 L9 H9 S10)} {c = (mem X0 T0 N0 J0 L11 H11 S12)} {e = (mem X0 T0 N0 J0 L13 H11 S13)} _ (settled (c.either-s4.ensures) (runs_in {a = (mem X0 T0 N0 J0 L9 H9 S10)} {c = (mem X0 T0 N0 J0 L11 H11 S11)} (c.as_pat_tl-more.ensures))) (s_close {e = (mem X0 T0 N0 J0 L13 H11 S13)} {x = X0} {t = T0} {n = N0} {j = J0} {l = L11} {h = H11} {s = S12} {s' = S13} {l' = L13} (c.close_node-2.ensures) s_end)))))))))

pub row_item-refuse_for-requires : goal.row_item-refuse_for-requires
row_item-refuse_for-requires t c =
    tt

pub row_item-returns-then-left-eq0 : goal.row_item-returns-then-left-eq0
unfolding util.end_item plan choose chosen hushed
row_item-returns-then-left-eq0 t c =
    let X0 = c.args.lent.text.now in
    let T0 = c.args.lent.toks.now in
    let N0 = c.args.lent.env.now in
    let J0 = c.args.table.now in
    let L0 = c.args.scratch.now in
    let H0 = c.args.finds.now in
    let S0 = c.args.s in
    let S2 = c.refuse_for.result in
    by_steps {m = (mem X0 T0 N0 J0 L0 H0 S0)} {m' = (mem X0 T0 N0 J0 L0 H0 S2)} (c.requires) (λ b. s_shut (c.if-left-eq0.true) (c.refuse_for.ensures) (λ k l. refl))

pub row_item-mark-s1-requires : goal.row_item-mark-s1-requires
row_item-mark-s1-requires t c =
    tt

pub row_item-row-s2-requires : goal.row_item-row-s2-requires
row_item-row-s2-requires t c =
    let pre0 = c.requires in
    let mark = c.mark-s1.ensures in
    let mark_ok = ok_marks mark pre0 in
    (omega arith, mark_ok)

pub row_item-at-requires : goal.row_item-at-requires
row_item-at-requires t c =
    let row = c.row-s2.ensures in
    let row_ok = row.ok in
    row_ok.reads

pub row_item-bump-s3-requires : goal.row_item-bump-s3-requires
row_item-bump-s3-requires t c =
    let row = c.row-s2.ensures in
    let row_ok = row.ok in
    (row_ok.reads, row_ok.logs)

pub row_item-close_node-requires : goal.row_item-close_node-requires
row_item-close_node-requires t c =
    let pre0 = c.requires in
    let mark = c.mark-s1.ensures in
    let mark_ok = ok_marks mark pre0 in
    let row = c.row-s2.ensures in
    let row_ok = row.ok in
    let bump = c.bump-s3.ensures in
    let bump_ok = ok_bumps bump row_ok in
    (bump_ok.logs, small_len mark_ok)

pub row_item-returns-then-at : goal.row_item-returns-then-at
unfolding util.end_item plan choose chosen
row_item-returns-then-at t c =
    let X0 = c.args.lent.text.now in
    let T0 = c.args.lent.toks.now in
    let N0 = c.args.lent.env.now in
    let J0 = c.args.table.now in
    let L0 = c.args.scratch.now in
    let H0 = c.args.finds.now in
    let S0 = c.args.s in
    let S2 = c.mark-s1.result in
    let L3 = c.row-s2.new.scratch in
    let H3 = c.row-s2.new.finds in
    let S3 = c.row-s2.result in
    let L6 = c.bump-s3.new.scratch in
    let S6 = c.bump-s3.result in
    let L7 = c.close_node.new.scratch in
    let S7 = c.close_node.result in
    by_steps {m = (mem X0 T0 N0 J0 L0 H0 S0)} {m' = (mem X0 T0 N0 J0 L7 H3 S7)} (c.requires) (λ b. s_mark {e = (mem X0 T0 N0 J0 L7 H3 S7)} {x = X0} {t = T0} {n = N0} {j = J0} {l = L0} {h = H0} {s = S0} {s' = S2} (c.if-left-eq0.false) (c.mark-s1.ensures) (s_by {a = (mem X0 T0 N0 J0 L0 H0 S2)} {c = (mem X0 T0 N0 J0 L3 H3 S3)} {e = (mem X0 T0 N0 J0 L7 H3 S7)} _ (runs_in {a = (mem X0 T0 N0 J0 L0 H0 S2)} {c = (mem X0 T0 N0 J0 L3 H3 S3)} (c.row-s2.ensures)) (s_kind {a = (mem X0 T0 N0 J0 L3 H3 S3)} {e = (mem X0 T0 N0 J0 L7 H3 S7)} (s_true {a = (mem X0 T0 N0 J0 L3 H3 S3)} {e = (mem X0 T0 N0 J0 L7 H3 S7)} _ _ (kind_at _ _ (mem X0 T0 N0 J0 L3 H3 S3) _ (c.at.ensures) (c.if-at.true)) (s_bump {e = (mem X0 T0 N0 J0 L7 H3 S7)} {x = X0} {t = T0} {n = N0} {j = J0} {l = L3} {h = H3} {s = S3} {s' = S6} {l' = L6} (c.bump-s3.ensures) (s_close {e = (mem X0 T0 N0 J0 L7 H3 S7)} {x = X0} {t = T0} {n = N0} {j = J0} {l = L6} {h = H3} {s = S6} {s' = S7} {l' = L7} (c.close_node.ensures) s_end))))))

pub row_item-close_node-requires-2 : goal.row_item-close_node-requires-2
row_item-close_node-requires-2 t c =
    let pre0 = c.requires in
    let mark = c.mark-s1.ensures in
    let mark_ok = ok_marks mark pre0 in
    let row = c.row-s2.ensures in
    let row_ok = row.ok in
    (row_ok.logs, small_len mark_ok)

pub row_item-returns : goal.row_item-returns
unfolding util.end_item plan choose chosen
row_item-returns t c =
    let X0 = c.args.lent.text.now in
    let T0 = c.args.lent.toks.now in
    let N0 = c.args.lent.env.now in
    let J0 = c.args.table.now in
    let L0 = c.args.scratch.now in
    let H0 = c.args.finds.now in
    let S0 = c.args.s in
    let S2 = c.mark-s1.result in
    let L3 = c.row-s2.new.scratch in
    let H3 = c.row-s2.new.finds in
    let S3 = c.row-s2.result in
    let L6 = c.close_node-2.new.scratch in
    let S6 = c.close_node-2.result in
    by_steps {m = (mem X0 T0 N0 J0 L0 H0 S0)} {m' = (mem X0 T0 N0 J0 L6 H3 S6)} (c.requires) (λ b. s_mark {e = (mem X0 T0 N0 J0 L6 H3 S6)} {x = X0} {t = T0} {n = N0} {j = J0} {l = L0} {h = H0} {s = S0} {s' = S2} (c.if-left-eq0.false) (c.mark-s1.ensures) (s_by {a = (mem X0 T0 N0 J0 L0 H0 S2)} {c = (mem X0 T0 N0 J0 L3 H3 S3)} {e = (mem X0 T0 N0 J0 L6 H3 S6)} _ (runs_in {a = (mem X0 T0 N0 J0 L0 H0 S2)} {c = (mem X0 T0 N0 J0 L3 H3 S3)} (c.row-s2.ensures)) (s_kind {a = (mem X0 T0 N0 J0 L3 H3 S3)} {e = (mem X0 T0 N0 J0 L6 H3 S6)} (s_false {a = (mem X0 T0 N0 J0 L3 H3 S3)} {e = (mem X0 T0 N0 J0 L6 H3 S6)} _ _ (kind_off _ _ (mem X0 T0 N0 J0 L3 H3 S3) _ (c.at.ensures) (c.if-at.false)) (s_close {e = (mem X0 T0 N0 J0 L6 H3 S6)} {x = X0} {t = T0} {n = N0} {j = J0} {l = L3} {h = H3} {s = S3} {s' = S6} {l' = L6} (c.close_node-2.ensures) s_end)))))

pub row_turn-at-requires : goal.row_turn-at-requires
row_turn-at-requires t c =
    let pre0 = c.requires in
    pre0.reads

pub row_turn-bump-requires : goal.row_turn-bump-requires
row_turn-bump-requires t c =
    let pre0 = c.requires in
    (pre0.reads, pre0.logs)

pub row_turn-returns-then-at : goal.row_turn-returns-then-at
unfolding util.end_turn plan choose chosen
row_turn-returns-then-at t c =
    let X0 = c.args.lent.text.now in
    let T0 = c.args.lent.toks.now in
    let N0 = c.args.lent.env.now in
    let J0 = c.args.table.now in
    let L0 = c.args.scratch.now in
    let H0 = c.args.finds.now in
    let S0 = c.args.s in
    let L3 = c.bump.new.scratch in
    let S3 = c.bump.result in
    by_steps {m = (mem X0 T0 N0 J0 L0 H0 S0)} {m' = (mem X0 T0 N0 J0 L3 H0 S3)} (c.requires) (λ b. s_kind {a = (mem X0 T0 N0 J0 L0 H0 S0)} {e = (mem X0 T0 N0 J0 L3 H0 S3)} (s_true {a = (mem X0 T0 N0 J0 L0 H0 S0)} {e = (mem X0 T0 N0 J0 L3 H0 S3)} _ _ (kind_at _ _ (mem X0 T0 N0 J0 L0 H0 S0) _ (c.at.ensures) (c.if-at.true)) (s_bump {e = (mem X0 T0 N0 J0 L3 H0 S3)} {x = X0} {t = T0} {n = N0} {j = J0} {l = L0} {h = H0} {s = S0} {s' = S3} {l' = L3} (c.bump.ensures) s_end)))

pub row_turn-row_item-item-requires : goal.row_turn-row_item-item-requires
row_turn-row_item-item-requires t c =
    let pre0 = c.requires in
    (omega arith, pre0)

pub row_turn-eat-got-requires : goal.row_turn-eat-got-requires
row_turn-eat-got-requires t c =
    let row_item = c.in-Err.ensures in
    let row_item_ok = row_item.ok in
    (row_item_ok.reads, row_item_ok.logs, row_item_ok.holds, omega arith)

pub row_turn-either-s2-requires : goal.row_turn-either-s2-requires
row_turn-either-s2-requires t c =
    tt

pub row_turn-returns-in-Ok : goal.row_turn-returns-in-Ok
unfolding util.end_turn plan choose chosen
row_turn-returns-in-Ok t c =
    let X0 = c.args.lent.text.now in
    let T0 = c.args.lent.toks.now in
    let N0 = c.args.lent.env.now in
    let J0 = c.args.table.now in
    let L0 = c.args.scratch.now in
    let H0 = c.args.finds.now in
    let S0 = c.args.s in
    let L3 = c.row_item-item.new.scratch in
    let H3 = c.row_item-item.new.finds in
    let S3 = c.in-Ok.s1 in
    by_steps {m = (mem X0 T0 N0 J0 L0 H0 S0)} {m' = (mem X0 T0 N0 J0 L3 H3 S3)} (c.requires) (λ b. s_kind {a = (mem X0 T0 N0 J0 L0 H0 S0)} {e = (mem X0 T0 N0 J0 L3 H3 S3)} (s_false {a = (mem X0 T0 N0 J0 L0 H0 S0)} {e = (mem X0 T0 N0 J0 L3 H3 S3)} _ _ (kind_off _ _ (mem X0 T0 N0 J0 L0 H0 S0) _ (c.at.ensures) (c.if-at.false)) (s_by {a = (mem X0 T0 N0 J0 L0 H0 S0)} {c = (mem X0 T0 N0 J0 L3 H3 S3)} {e = (mem X0 T0 N0 J0 L3 H3 S3)} _ (runs_in {a = (mem X0 T0 N0 J0 L0 H0 S0)} {c = (mem X0 T0 N0 J0 L3 H3 S3)} (c.in-Ok.ensures)) s_end)))

pub row_turn-returns-in-Err : goal.row_turn-returns-in-Err
unfolding util.end_turn plan choose chosen
row_turn-returns-in-Err t c =
    let X0 = c.args.lent.text.now in
    let T0 = c.args.lent.toks.now in
    let N0 = c.args.lent.env.now in
    let J0 = c.args.table.now in
    let L0 = c.args.scratch.now in
    let H0 = c.args.finds.now in
    let S0 = c.args.s in
    let L3 = c.row_item-item.new.scratch in
    let H3 = c.row_item-item.new.finds in
    let S3 = c.in-Err.s1 in
    let L4 = c.eat-got.new.scratch in
    let H4 = c.eat-got.new.finds in
    let S5 = c.either-s2.result in
    by_steps {m = (mem X0 T0 N0 J0 L0 H0 S0)} {m' = (mem X0 T0 N0 J0 L4 H4 S5)} (c.requires) (λ b. s_kind {a = (mem X0 T0 N0 J0 L0 H0 S0)} {e = (mem X0 T0 N0 J0 L4 H4 S5)} (s_false {a = (mem X0 T0 N0 J0 L0 H0 S0)} {e = (mem X0 T0 N0 J0 L4 H4 S5)} _ _ (kind_off _ _ (mem X0 T0 N0 J0 L0 H0 S0) _ (c.at.ensures) (c.if-at.false)) (s_by {a = (mem X0 T0 N0 J0 L0 H0 S0)} {c = (mem X0 T0 N0 J0 L3 H3 S3)} {e = (mem X0 T0 N0 J0 L4 H4 S5)} _ (runs_in {a = (mem X0 T0 N0 J0 L0 H0 S0)} {c = (mem X0 T0 N0 J0 L3 H3 S3)} (c.in-Err.ensures)) (s_eats _ _ {x = X0} {t = T0} {n = N0} {j = J0} {l = L3} {h = H3} {l' = L4} {s = S3} {s' = S5} {e = (mem X0 T0 N0 J0 L4 H4 S5)} _ {h' = H4} (eats_settled (c.either-s2.ensures) (c.eat-got.ensures)) s_end))))

pub rows-loop-s2-init : goal.rows-loop-s2-init
rows-loop-s2-init t c =
    let pre0 = c.requires in
    loop_starts pre0

pub rows-row_turn-turn-requires : goal.rows-row_turn-turn-requires
rows-row_turn-turn-requires t c =
    let inv = c.loop-s2.invariant.ok in
    (omega arith, inv)

pub rows-loop-s2-smaller : goal.rows-loop-s2-smaller
rows-loop-s2-smaller t c =
    let row_turn = c.in-Ok.ensures in
    loop_falls (end_turn_advances true _ _ _ _ _ _) (runs_in {b = 0} row_turn)

pub rows-loop-s2-preserved : goal.rows-loop-s2-preserved
rows-loop-s2-preserved t c =
    let inv = c.loop-s2.invariant in
    let row_turn = c.in-Ok.ensures in
    loop_goes (end_turn_advances true _ _ _ _ _ _) inv (runs_in row_turn)

pub rows-returns-in-Err : goal.rows-returns-in-Err
rows-returns-in-Err t c =
    let inv = c.loop-s2.invariant in
    let row_turn = c.in-Err.ensures in
    loop_ends (end_turn_advances true _ _ _ _ _ _) inv (runs_in row_turn)

pub step-peek-requires : goal.step-peek-requires
step-peek-requires t c =
    let pre0 = c.requires.0 in
    pre0.reads

pub step-returns-in_default : goal.step-returns-in_default
unfolding pat.pat_step plan choose chosen
step-returns-in_default t c =
    let X0 = c.args.lent.text.now in
    let T0 = c.args.lent.toks.now in
    let N0 = c.args.lent.env.now in
    let J0 = c.args.table.now in
    let L0 = c.args.scratch.now in
    let H0 = c.args.finds.now in
    let S0 = c.args.s in
    in_steps {m = (mem X0 T0 N0 J0 L0 H0 S0)} {m' = (mem X0 T0 N0 J0 L0 H0 S0)} (c.requires.0) (s_look {a = (mem X0 T0 N0 J0 L0 H0 S0)} {e = (mem X0 T0 N0 J0 L0 H0 S0)} (c.in_default.ensures) s_end)

pub step-name_star-requires : goal.step-name_star-requires
step-name_star-requires t c =
    tt

pub step-op_step-requires : goal.step-op_step-requires
step-op_step-requires t c =
    let pre0 = c.requires.0 in
    let pre1 = c.requires.1 in
    (omega arith, (pre0, pre1))

pub step-returns-then-name_star : goal.step-returns-then-name_star
unfolding pat.pat_step plan choose chosen
step-returns-then-name_star t c =
    let X0 = c.args.lent.text.now in
    let T0 = c.args.lent.toks.now in
    let N0 = c.args.lent.env.now in
    let J0 = c.args.table.now in
    let L0 = c.args.scratch.now in
    let H0 = c.args.finds.now in
    let S0 = c.args.s in
    let L4 = c.op_step.new.scratch in
    let H4 = c.op_step.new.finds in
    let S4 = out_state c.op_step.result in
    in_steps {m = (mem X0 T0 N0 J0 L0 H0 S0)} {m' = (mem X0 T0 N0 J0 L4 H4 S4)} (c.requires.0) (s_look {a = (mem X0 T0 N0 J0 L0 H0 S0)} {e = (mem X0 T0 N0 J0 L4 H4 S4)} (c.in-Some.ensures) (s_true {a = (mem X0 T0 N0 J0 L0 H0 S0)} {e = (mem X0 T0 N0 J0 L4 H4 S4)} _ _ (test_true (c.name_star.ensures) (c.if-name_star.true)) (s_by {a = (mem X0 T0 N0 J0 L0 H0 S0)} {c = (mem X0 T0 N0 J0 L4 H4 S4)} {e = (mem X0 T0 N0 J0 L4 H4 S4)} _ (c.op_step.ensures) s_end)))

pub step-or_step-requires : goal.step-or_step-requires
step-or_step-requires t c =
    let pre0 = c.requires.0 in
    let pre1 = c.requires.1 in
    (omega arith, (pre0, pre1))

pub step-returns-then-k-eq-BAR : goal.step-returns-then-k-eq-BAR
unfolding pat.pat_step plan choose chosen
step-returns-then-k-eq-BAR t c =
    let X0 = c.args.lent.text.now in
    let T0 = c.args.lent.toks.now in
    let N0 = c.args.lent.env.now in
    let J0 = c.args.table.now in
    let L0 = c.args.scratch.now in
    let H0 = c.args.finds.now in
    let S0 = c.args.s in
    let L5 = c.or_step.new.scratch in
    let H5 = c.or_step.new.finds in
    let S5 = out_state c.or_step.result in
    in_steps {m = (mem X0 T0 N0 J0 L0 H0 S0)} {m' = (mem X0 T0 N0 J0 L5 H5 S5)} (c.requires.0) (s_look {a = (mem X0 T0 N0 J0 L0 H0 S0)} {e = (mem X0 T0 N0 J0 L5 H5 S5)} (c.in-Some.ensures) (s_false {a = (mem X0 T0 N0 J0 L0 H0 S0)} {e = (mem X0 T0 N0 J0 L5 H5 S5)} _ _ (test_false (c.name_star.ensures) (c.if-name_star.false)) (s_true {a = (mem X0 T0 N0 J0 L0 H0 S0)} {e = (mem X0 T0 N0 J0 L5 H5 S5)} _ _ (kind_is (c.if-k-eq-BAR.true)) (s_by {a = (mem X0 T0 N0 J0 L0 H0 S0)} {c = (mem X0 T0 N0 J0 L5 H5 S5)} {e = (mem X0 T0 N0 J0 L5 H5 S5)} _ (c.or_step.ensures) s_end))))

pub step-ascription-requires : goal.step-ascription-requires
step-ascription-requires t c =
    tt

pub step-typed_step-requires : goal.step-typed_step-requires
step-typed_step-requires t c =
    let pre0 = c.requires.0 in
    let pre1 = c.requires.1 in
    (pre0, pre1)

pub step-returns-then-ascription : goal.step-returns-then-ascription
unfolding pat.pat_step plan choose chosen
step-returns-then-ascription t c =
    let X0 = c.args.lent.text.now in
    let T0 = c.args.lent.toks.now in
    let N0 = c.args.lent.env.now in
    let J0 = c.args.table.now in
    let L0 = c.args.scratch.now in
    let H0 = c.args.finds.now in
    let S0 = c.args.s in
    let L7 = c.typed_step.new.scratch in
    let H7 = c.typed_step.new.finds in
    let S7 = out_state c.typed_step.result in
    in_steps {m = (mem X0 T0 N0 J0 L0 H0 S0)} {m' = (mem X0 T0 N0 J0 L7 H7 S7)} (c.requires.0) (s_look {a = (mem X0 T0 N0 J0 L0 H0 S0)} {e = (mem X0 T0 N0 J0 L7 H7 S7)} (c.in-Some.ensures) (s_false {a = (mem X0 T0 N0 J0 L0 H0 S0)} {e = (mem X0 T0 N0 J0 L7 H7 S7)} _ _ (test_false (c.name_star.ensures) (c.if-name_star.false)) (s_false {a = (mem X0 T0 N0 J0 L0 H0 S0)} {e = (mem X0 T0 N0 J0 L7 H7 S7)} _ _ (kind_not (c.if-k-eq-BAR.false)) (s_true {a = (mem X0 T0 N0 J0 L0 H0 S0)} {e = (mem X0 T0 N0 J0 L7 H7 S7)} _ _ (test_true (c.ascription.ensures) (c.if-ascription.true)) (s_by {a = (mem X0 T0 N0 J0 L0 H0 S0)} {c = (mem X0 T0 N0 J0 L7 H7 S7)} {e = (mem X0 T0 N0 J0 L7 H7 S7)} _ (c.typed_step.ensures) s_end)))))

pub step-as_step-requires : goal.step-as_step-requires
step-as_step-requires t c =
    let pre0 = c.requires.0 in
    let pre1 = c.requires.1 in
    (omega arith, (pre0, pre1))

pub step-returns-then-k-eq-AS_KW : goal.step-returns-then-k-eq-AS_KW
unfolding pat.pat_step plan choose chosen
step-returns-then-k-eq-AS_KW t c =
    let X0 = c.args.lent.text.now in
    let T0 = c.args.lent.toks.now in
    let N0 = c.args.lent.env.now in
    let J0 = c.args.table.now in
    let L0 = c.args.scratch.now in
    let H0 = c.args.finds.now in
    let S0 = c.args.s in
    let L8 = c.as_step.new.scratch in
    let H8 = c.as_step.new.finds in
    let S8 = out_state c.as_step.result in
    in_steps {m = (mem X0 T0 N0 J0 L0 H0 S0)} {m' = (mem X0 T0 N0 J0 L8 H8 S8)} (c.requires.0) (s_look {a = (mem X0 T0 N0 J0 L0 H0 S0)} {e = (mem X0 T0 N0 J0 L8 H8 S8)} (c.in-Some.ensures) (s_false {a = (mem X0 T0 N0 J0 L0 H0 S0)} {e = (mem X0 T0 N0 J0 L8 H8 S8)} _ _ (test_false (c.name_star.ensures) (c.if-name_star.false)) (s_false {a = (mem X0 T0 N0 J0 L0 H0 S0)} {e = (mem X0 T0 N0 J0 L8 H8 S8)} _ _ (kind_not (c.if-k-eq-BAR.false)) (s_false {a = (mem X0 T0 N0 J0 L0 H0 S0)} {e = (mem X0 T0 N0 J0 L8 H8 S8)} _ _ (test_false (c.ascription.ensures) (c.if-ascription.false)) (s_true {a = (mem X0 T0 N0 J0 L0 H0 S0)} {e = (mem X0 T0 N0 J0 L8 H8 S8)} _ _ (kind_is (c.if-k-eq-AS_KW.true)) (s_by {a = (mem X0 T0 N0 J0 L0 H0 S0)} {c = (mem X0 T0 N0 J0 L8 H8 S8)} {e = (mem X0 T0 N0 J0 L8 H8 S8)} _ (c.as_step.ensures) s_end))))))

pub step-returns : goal.step-returns
unfolding pat.pat_step plan choose chosen
step-returns t c =
    let X0 = c.args.lent.text.now in
    let T0 = c.args.lent.toks.now in
    let N0 = c.args.lent.env.now in
    let J0 = c.args.table.now in
    let L0 = c.args.scratch.now in
    let H0 = c.args.finds.now in
    let S0 = c.args.s in
    in_steps {m = (mem X0 T0 N0 J0 L0 H0 S0)} {m' = (mem X0 T0 N0 J0 L0 H0 S0)} (c.requires.0) (s_look {a = (mem X0 T0 N0 J0 L0 H0 S0)} {e = (mem X0 T0 N0 J0 L0 H0 S0)} (c.in-Some.ensures) (s_false {a = (mem X0 T0 N0 J0 L0 H0 S0)} {e = (mem X0 T0 N0 J0 L0 H0 S0)} _ _ (test_false (c.name_star.ensures) (c.if-name_star.false)) (s_false {a = (mem X0 T0 N0 J0 L0 H0 S0)} {e = (mem X0 T0 N0 J0 L0 H0 S0)} _ _ (kind_not (c.if-k-eq-BAR.false)) (s_false {a = (mem X0 T0 N0 J0 L0 H0 S0)} {e = (mem X0 T0 N0 J0 L0 H0 S0)} _ _ (test_false (c.ascription.ensures) (c.if-ascription.false)) (s_false {a = (mem X0 T0 N0 J0 L0 H0 S0)} {e = (mem X0 T0 N0 J0 L0 H0 S0)} _ _ (kind_not (c.if-k-eq-AS_KW.false)) s_end)))))

pub tail-loop-s2-init : goal.tail-loop-s2-init
tail-loop-s2-init t c =
    let pre0 = c.requires.0 in
    let pre1 = c.requires.1 in
    loop_starts pre0

pub tail-step-turn-requires : goal.tail-step-turn-requires
tail-step-turn-requires t c =
    let pre1 = c.requires.1 in
    let inv = c.loop-s2.invariant.ok in
    (omega arith, (inv, pre1))

pub tail-loop-s2-smaller : goal.tail-loop-s2-smaller
tail-loop-s2-smaller t c =
    let step = c.in-Ok.ensures in
    loop_falls (pat_step_advances _ _ _ _) step

pub tail-loop-s2-preserved : goal.tail-loop-s2-preserved
tail-loop-s2-preserved t c =
    let inv = c.loop-s2.invariant in
    let step = c.in-Ok.ensures in
    loop_goes (pat_step_advances _ _ _ _) inv step

pub tail-returns-in-Err : goal.tail-returns-in-Err
tail-returns-in-Err t c =
    let inv = c.loop-s2.invariant in
    let step = c.in-Err.ensures in
    loop_ends (pat_step_advances _ _ _ _) inv step

pub vector-refuse_for-requires : goal.vector-refuse_for-requires
vector-refuse_for-requires t c =
    tt

pub vector-returns-then-left-eq0 : goal.vector-returns-then-left-eq0
unfolding pat.vector util.end_sep plan choose chosen hushed
vector-returns-then-left-eq0 t c =
    let X0 = c.args.lent.text.now in
    let T0 = c.args.lent.toks.now in
    let N0 = c.args.lent.env.now in
    let J0 = c.args.table.now in
    let L0 = c.args.scratch.now in
    let H0 = c.args.finds.now in
    let S0 = c.args.s in
    let S2 = c.refuse_for.result in
    by_steps {m = (mem X0 T0 N0 J0 L0 H0 S0)} {m' = (mem X0 T0 N0 J0 L0 H0 S2)} (c.requires) (λ b. s_shut (c.if-left-eq0.true) (c.refuse_for.ensures) (λ k l. refl))

pub vector-mark-s1-requires : goal.vector-mark-s1-requires
vector-mark-s1-requires t c =
    tt

pub vector-eat-got-requires : goal.vector-eat-got-requires
vector-eat-got-requires t c =
    let pre0 = c.requires in
    let mark = c.mark-s1.ensures in
    let mark_ok = ok_marks mark pre0 in
    (mark_ok.reads, mark_ok.logs, mark_ok.holds, omega arith)

pub vector-either-s2-requires : goal.vector-either-s2-requires
vector-either-s2-requires t c =
    tt

pub vector-args-s3-requires : goal.vector-args-s3-requires
vector-args-s3-requires t c =
    let pre0 = c.requires in
    let mark = c.mark-s1.ensures in
    let mark_ok = ok_marks mark pre0 in
    let eat = c.eat-got.ensures in
    let eat_ok = ok_eats eat mark_ok in
    let either = c.either-s2.ensures in
    let either_ok = ok_state either eat_ok in
    (omega arith, (either_ok, omega arith))

pub vector-close_node-requires : goal.vector-close_node-requires
vector-close_node-requires t c =
    let pre0 = c.requires in
    let mark = c.mark-s1.ensures in
    let mark_ok = ok_marks mark pre0 in
    let args2 = c.args-s3.ensures in
    let args2_ok = args2.ok in
    (args2_ok.logs, small_len mark_ok)

pub vector-returns : goal.vector-returns
unfolding pat.vector util.end_sep plan choose chosen
vector-returns t c =
    let X0 = c.args.lent.text.now in
    let T0 = c.args.lent.toks.now in
    let N0 = c.args.lent.env.now in
    let J0 = c.args.table.now in
    let L0 = c.args.scratch.now in
    let H0 = c.args.finds.now in
    let S0 = c.args.s in
    let S2 = c.mark-s1.result in
    let L3 = c.eat-got.new.scratch in
    let H3 = c.eat-got.new.finds in
    let S4 = c.either-s2.result in
    let L5 = c.args-s3.new.scratch in
    let H5 = c.args-s3.new.finds in
    let S5 = c.args-s3.result in
    let L6 = c.close_node.new.scratch in
    let S6 = c.close_node.result in
    by_steps {m = (mem X0 T0 N0 J0 L0 H0 S0)} {m' = (mem X0 T0 N0 J0 L6 H5 S6)} (c.requires) (λ b. s_mark {e = (mem X0 T0 N0 J0 L6 H5 S6)} {x = X0} {t = T0} {n = N0} {j = J0} {l = L0} {h = H0} {s = S0} {s' = S2} (c.if-left-eq0.false) (c.mark-s1.ensures) (s_eats _ _ {x = X0} {t = T0} {n = N0} {j = J0} {l = L0} {h = H0} {l' = L3} {s = S2} {s' = S4} {e = (mem X0 T0 N0 J0 L6 H5 S6)} _ {h' = H3} (eats_settled (c.either-s2.ensures) (c.eat-got.ensures)) (s_run {a = (mem X0 T0 N0 J0 L3 H3 S4)} {c = (mem X0 T0 N0 J0 L5 H5 S5)} {e = (mem X0 T0 N0 J0 L6 H5 S6)} (c.args-s3.ensures) (s_close {e = (mem X0 T0 N0 J0 L6 H5 S6)} {x = X0} {t = T0} {n = N0} {j = J0} {l = L5} {h = H5} {s = S5} {s' = S6} {l' = L6} (c.close_node.ensures) s_end))))
