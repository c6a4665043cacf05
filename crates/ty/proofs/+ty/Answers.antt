-- by tools/prove
use Rattle.grammar.specs.Util as util
use Rattle.grammar.specs.Ty as types
use Rattle.grammar.specs.Root as root
use Rattle.laws.specs.Progress.{end_turn_advances, star_advances, ty_step_advances}
use Rattle.parser.specs.View.{mem, out_state}
use Rattle.parser.specs.Runs.{runs_in, kind_at, kind_off, kind_is, kind_not, test_true, test_false, ok_bumps, ok_marks, ok_eats, ok_takes, ok_state, small_len, loop_starts, loop_goes, loop_falls, loop_ends}
use Rattle.parser.specs.Plans.{plan, choose, chosen, in_steps, by_steps, s_rule, s_look, s_kind, s_true, s_false, s_bump, s_close, s_report, s_mark, s_shut, hushed, s_by, s_eats, s_takes, s_run, settled, eats_settled, s_end}
use native.Mathlib.Omega.{arith}
use mathlib.Core.Path.{refl}
use mathlib.Core.Bool.{true}
use Rattle.ty.proofs.+ty.Goals as goal

pub arg_item-refuse_for-requires : goal.arg_item-refuse_for-requires
arg_item-refuse_for-requires t c =
    tt

pub arg_item-returns-then-left-eq0 : goal.arg_item-returns-then-left-eq0
unfolding util.end_item plan choose chosen hushed
arg_item-returns-then-left-eq0 t c =
    let X0 = c.args.lent.text.now in
    let T0 = c.args.lent.toks.now in
    let N0 = c.args.lent.env.now in
    let J0 = c.args.table.now in
    let L0 = c.args.scratch.now in
    let H0 = c.args.finds.now in
    let S0 = c.args.s in
    let S2 = c.refuse_for.result in
    by_steps {m = (mem X0 T0 N0 J0 L0 H0 S0)} {m' = (mem X0 T0 N0 J0 L0 H0 S2)} (c.requires) (λ b. s_shut (c.if-left-eq0.true) (c.refuse_for.ensures) (λ k l. refl))

pub arg_item-mark-s1-requires : goal.arg_item-mark-s1-requires
arg_item-mark-s1-requires t c =
    tt

pub arg_item-ty_must-s2-requires : goal.arg_item-ty_must-s2-requires
arg_item-ty_must-s2-requires t c =
    let pre0 = c.requires in
    let mark = c.mark-s1.ensures in
    let mark_ok = ok_marks mark pre0 in
    (omega arith, mark_ok)

pub arg_item-at-requires : goal.arg_item-at-requires
arg_item-at-requires t c =
    let ty_must = c.ty_must-s2.ensures in
    let ty_must_ok = ty_must.ok in
    ty_must_ok.reads

pub arg_item-bump-s3-requires : goal.arg_item-bump-s3-requires
arg_item-bump-s3-requires t c =
    let ty_must = c.ty_must-s2.ensures in
    let ty_must_ok = ty_must.ok in
    (ty_must_ok.reads, ty_must_ok.logs)

pub arg_item-close_node-requires : goal.arg_item-close_node-requires
arg_item-close_node-requires t c =
    let pre0 = c.requires in
    let mark = c.mark-s1.ensures in
    let mark_ok = ok_marks mark pre0 in
    let ty_must = c.ty_must-s2.ensures in
    let ty_must_ok = ty_must.ok in
    let bump = c.bump-s3.ensures in
    let bump_ok = ok_bumps bump ty_must_ok in
    (bump_ok.logs, small_len mark_ok)

pub arg_item-returns-then-at : goal.arg_item-returns-then-at
unfolding util.end_item plan choose chosen
arg_item-returns-then-at t c =
    let X0 = c.args.lent.text.now in
    let T0 = c.args.lent.toks.now in
    let N0 = c.args.lent.env.now in
    let J0 = c.args.table.now in
    let L0 = c.args.scratch.now in
    let H0 = c.args.finds.now in
    let S0 = c.args.s in
    let S2 = c.mark-s1.result in
    let L3 = c.ty_must-s2.new.scratch in
    let H3 = c.ty_must-s2.new.finds in
    let S3 = c.ty_must-s2.result in
    let L6 = c.bump-s3.new.scratch in
    let S6 = c.bump-s3.result in
    let L7 = c.close_node.new.scratch in
    let S7 = c.close_node.result in
    by_steps {m = (mem X0 T0 N0 J0 L0 H0 S0)} {m' = (mem X0 T0 N0 J0 L7 H3 S7)} (c.requires) (λ b. s_mark {e = (mem X0 T0 N0 J0 L7 H3 S7)} {x = X0} {t = T0} {n = N0} {j = J0} {l = L0} {h = H0} {s = S0} {s' = S2} (c.if-left-eq0.false) (c.mark-s1.ensures) (s_by {a = (mem X0 T0 N0 J0 L0 H0 S2)} {c = (mem X0 T0 N0 J0 L3 H3 S3)} {e = (mem X0 T0 N0 J0 L7 H3 S7)} _ (runs_in {a = (mem X0 T0 N0 J0 L0 H0 S2)} {c = (mem X0 T0 N0 J0 L3 H3 S3)} (c.ty_must-s2.ensures)) (s_kind {a = (mem X0 T0 N0 J0 L3 H3 S3)} {e = (mem X0 T0 N0 J0 L7 H3 S7)} (s_true {a = (mem X0 T0 N0 J0 L3 H3 S3)} {e = (mem X0 T0 N0 J0 L7 H3 S7)} _ _ (kind_at _ _ (mem X0 T0 N0 J0 L3 H3 S3) _ (c.at.ensures) (c.if-at.true)) (s_bump {e = (mem X0 T0 N0 J0 L7 H3 S7)} {x = X0} {t = T0} {n = N0} {j = J0} {l = L3} {h = H3} {s = S3} {s' = S6} {l' = L6} (c.bump-s3.ensures) (s_close {e = (mem X0 T0 N0 J0 L7 H3 S7)} {x = X0} {t = T0} {n = N0} {j = J0} {l = L6} {h = H3} {s = S6} {s' = S7} {l' = L7} (c.close_node.ensures) s_end))))))

pub arg_item-close_node-requires-2 : goal.arg_item-close_node-requires-2
arg_item-close_node-requires-2 t c =
    let pre0 = c.requires in
    let mark = c.mark-s1.ensures in
    let mark_ok = ok_marks mark pre0 in
    let ty_must = c.ty_must-s2.ensures in
    let ty_must_ok = ty_must.ok in
    (ty_must_ok.logs, small_len mark_ok)

pub arg_item-returns : goal.arg_item-returns
unfolding util.end_item plan choose chosen
arg_item-returns t c =
    let X0 = c.args.lent.text.now in
    let T0 = c.args.lent.toks.now in
    let N0 = c.args.lent.env.now in
    let J0 = c.args.table.now in
    let L0 = c.args.scratch.now in
    let H0 = c.args.finds.now in
    let S0 = c.args.s in
    let S2 = c.mark-s1.result in
    let L3 = c.ty_must-s2.new.scratch in
    let H3 = c.ty_must-s2.new.finds in
    let S3 = c.ty_must-s2.result in
    let L6 = c.close_node-2.new.scratch in
    let S6 = c.close_node-2.result in
    by_steps {m = (mem X0 T0 N0 J0 L0 H0 S0)} {m' = (mem X0 T0 N0 J0 L6 H3 S6)} (c.requires) (λ b. s_mark {e = (mem X0 T0 N0 J0 L6 H3 S6)} {x = X0} {t = T0} {n = N0} {j = J0} {l = L0} {h = H0} {s = S0} {s' = S2} (c.if-left-eq0.false) (c.mark-s1.ensures) (s_by {a = (mem X0 T0 N0 J0 L0 H0 S2)} {c = (mem X0 T0 N0 J0 L3 H3 S3)} {e = (mem X0 T0 N0 J0 L6 H3 S6)} _ (runs_in {a = (mem X0 T0 N0 J0 L0 H0 S2)} {c = (mem X0 T0 N0 J0 L3 H3 S3)} (c.ty_must-s2.ensures)) (s_kind {a = (mem X0 T0 N0 J0 L3 H3 S3)} {e = (mem X0 T0 N0 J0 L6 H3 S6)} (s_false {a = (mem X0 T0 N0 J0 L3 H3 S3)} {e = (mem X0 T0 N0 J0 L6 H3 S6)} _ _ (kind_off _ _ (mem X0 T0 N0 J0 L3 H3 S3) _ (c.at.ensures) (c.if-at.false)) (s_close {e = (mem X0 T0 N0 J0 L6 H3 S6)} {x = X0} {t = T0} {n = N0} {j = J0} {l = L3} {h = H3} {s = S3} {s' = S6} {l' = L6} (c.close_node-2.ensures) s_end)))))

pub arg_turn-at-requires : goal.arg_turn-at-requires
arg_turn-at-requires t c =
    let pre0 = c.requires in
    pre0.reads

pub arg_turn-bump-requires : goal.arg_turn-bump-requires
arg_turn-bump-requires t c =
    let pre0 = c.requires in
    (pre0.reads, pre0.logs)

pub arg_turn-returns-then-at : goal.arg_turn-returns-then-at
unfolding util.end_turn plan choose chosen
arg_turn-returns-then-at t c =
    let X0 = c.args.lent.text.now in
    let T0 = c.args.lent.toks.now in
    let N0 = c.args.lent.env.now in
    let J0 = c.args.table.now in
    let L0 = c.args.scratch.now in
    let H0 = c.args.finds.now in
    let S0 = c.args.s in
    let L3 = c.bump.new.scratch in
    let S3 = c.bump.result in
    by_steps {m = (mem X0 T0 N0 J0 L0 H0 S0)} {m' = (mem X0 T0 N0 J0 L3 H0 S3)} (c.requires) (λ b. s_kind {a = (mem X0 T0 N0 J0 L0 H0 S0)} {e = (mem X0 T0 N0 J0 L3 H0 S3)} (s_true {a = (mem X0 T0 N0 J0 L0 H0 S0)} {e = (mem X0 T0 N0 J0 L3 H0 S3)} _ _ (kind_at _ _ (mem X0 T0 N0 J0 L0 H0 S0) _ (c.at.ensures) (c.if-at.true)) (s_bump {e = (mem X0 T0 N0 J0 L3 H0 S3)} {x = X0} {t = T0} {n = N0} {j = J0} {l = L0} {h = H0} {s = S0} {s' = S3} {l' = L3} (c.bump.ensures) s_end)))

pub arg_turn-arg_item-item-requires : goal.arg_turn-arg_item-item-requires
arg_turn-arg_item-item-requires t c =
    let pre0 = c.requires in
    (omega arith, pre0)

pub arg_turn-eat-got-requires : goal.arg_turn-eat-got-requires
arg_turn-eat-got-requires t c =
    let arg_item = c.in-Err.ensures in
    let arg_item_ok = arg_item.ok in
    (arg_item_ok.reads, arg_item_ok.logs, arg_item_ok.holds, omega arith)

pub arg_turn-either-s2-requires : goal.arg_turn-either-s2-requires
arg_turn-either-s2-requires t c =
    tt

pub arg_turn-returns-in-Ok : goal.arg_turn-returns-in-Ok
unfolding util.end_turn plan choose chosen
arg_turn-returns-in-Ok t c =
    let X0 = c.args.lent.text.now in
    let T0 = c.args.lent.toks.now in
    let N0 = c.args.lent.env.now in
    let J0 = c.args.table.now in
    let L0 = c.args.scratch.now in
    let H0 = c.args.finds.now in
    let S0 = c.args.s in
    let L3 = c.arg_item-item.new.scratch in
    let H3 = c.arg_item-item.new.finds in
    let S3 = c.in-Ok.s1 in
    by_steps {m = (mem X0 T0 N0 J0 L0 H0 S0)} {m' = (mem X0 T0 N0 J0 L3 H3 S3)} (c.requires) (λ b. s_kind {a = (mem X0 T0 N0 J0 L0 H0 S0)} {e = (mem X0 T0 N0 J0 L3 H3 S3)} (s_false {a = (mem X0 T0 N0 J0 L0 H0 S0)} {e = (mem X0 T0 N0 J0 L3 H3 S3)} _ _ (kind_off _ _ (mem X0 T0 N0 J0 L0 H0 S0) _ (c.at.ensures) (c.if-at.false)) (s_by {a = (mem X0 T0 N0 J0 L0 H0 S0)} {c = (mem X0 T0 N0 J0 L3 H3 S3)} {e = (mem X0 T0 N0 J0 L3 H3 S3)} _ (runs_in {a = (mem X0 T0 N0 J0 L0 H0 S0)} {c = (mem X0 T0 N0 J0 L3 H3 S3)} (c.in-Ok.ensures)) s_end)))

pub arg_turn-returns-in-Err : goal.arg_turn-returns-in-Err
unfolding util.end_turn plan choose chosen
arg_turn-returns-in-Err t c =
    let X0 = c.args.lent.text.now in
    let T0 = c.args.lent.toks.now in
    let N0 = c.args.lent.env.now in
    let J0 = c.args.table.now in
    let L0 = c.args.scratch.now in
    let H0 = c.args.finds.now in
    let S0 = c.args.s in
    let L3 = c.arg_item-item.new.scratch in
    let H3 = c.arg_item-item.new.finds in
    let S3 = c.in-Err.s1 in
    let L4 = c.eat-got.new.scratch in
    let H4 = c.eat-got.new.finds in
    let S5 = c.either-s2.result in
    by_steps {m = (mem X0 T0 N0 J0 L0 H0 S0)} {m' = (mem X0 T0 N0 J0 L4 H4 S5)} (c.requires) (λ b. s_kind {a = (mem X0 T0 N0 J0 L0 H0 S0)} {e = (mem X0 T0 N0 J0 L4 H4 S5)} (s_false {a = (mem X0 T0 N0 J0 L0 H0 S0)} {e = (mem X0 T0 N0 J0 L4 H4 S5)} _ _ (kind_off _ _ (mem X0 T0 N0 J0 L0 H0 S0) _ (c.at.ensures) (c.if-at.false)) (s_by {a = (mem X0 T0 N0 J0 L0 H0 S0)} {c = (mem X0 T0 N0 J0 L3 H3 S3)} {e = (mem X0 T0 N0 J0 L4 H4 S5)} _ (runs_in {a = (mem X0 T0 N0 J0 L0 H0 S0)} {c = (mem X0 T0 N0 J0 L3 H3 S3)} (c.in-Err.ensures)) (s_eats _ _ {x = X0} {t = T0} {n = N0} {j = J0} {l = L3} {h = H3} {l' = L4} {s = S3} {s' = S5} {e = (mem X0 T0 N0 J0 L4 H4 S5)} _ {h' = H4} (eats_settled (c.either-s2.ensures) (c.eat-got.ensures)) s_end))))

pub row_item-refuse_for-requires : goal.row_item-refuse_for-requires
row_item-refuse_for-requires t c =
    tt

pub row_item-returns-then-left-eq0 : goal.row_item-returns-then-left-eq0
unfolding util.end_item plan choose chosen hushed
row_item-returns-then-left-eq0 t c =
    let X0 = c.args.lent.text.now in
    let T0 = c.args.lent.toks.now in
    let N0 = c.args.lent.env.now in
    let J0 = c.args.table.now in
    let L0 = c.args.scratch.now in
    let H0 = c.args.finds.now in
    let S0 = c.args.s in
    let S2 = c.refuse_for.result in
    by_steps {m = (mem X0 T0 N0 J0 L0 H0 S0)} {m' = (mem X0 T0 N0 J0 L0 H0 S2)} (c.requires) (λ b. s_shut (c.if-left-eq0.true) (c.refuse_for.ensures) (λ k l. refl))

pub row_item-mark-s1-requires : goal.row_item-mark-s1-requires
row_item-mark-s1-requires t c =
    tt

pub row_item-ty_row-s2-requires : goal.row_item-ty_row-s2-requires
row_item-ty_row-s2-requires t c =
    let pre0 = c.requires in
    let mark = c.mark-s1.ensures in
    let mark_ok = ok_marks mark pre0 in
    (omega arith, mark_ok)

pub row_item-at-requires : goal.row_item-at-requires
row_item-at-requires t c =
    let ty_row = c.ty_row-s2.ensures in
    let ty_row_ok = ty_row.ok in
    ty_row_ok.reads

pub row_item-bump-s3-requires : goal.row_item-bump-s3-requires
row_item-bump-s3-requires t c =
    let ty_row = c.ty_row-s2.ensures in
    let ty_row_ok = ty_row.ok in
    (ty_row_ok.reads, ty_row_ok.logs)

pub row_item-close_node-requires : goal.row_item-close_node-requires
row_item-close_node-requires t c =
    let pre0 = c.requires in
    let mark = c.mark-s1.ensures in
    let mark_ok = ok_marks mark pre0 in
    let ty_row = c.ty_row-s2.ensures in
    let ty_row_ok = ty_row.ok in
    let bump = c.bump-s3.ensures in
    let bump_ok = ok_bumps bump ty_row_ok in
    (bump_ok.logs, small_len mark_ok)

pub row_item-returns-then-at : goal.row_item-returns-then-at
unfolding util.end_item plan choose chosen
row_item-returns-then-at t c =
    let X0 = c.args.lent.text.now in
    let T0 = c.args.lent.toks.now in
    let N0 = c.args.lent.env.now in
    let J0 = c.args.table.now in
    let L0 = c.args.scratch.now in
    let H0 = c.args.finds.now in
    let S0 = c.args.s in
    let S2 = c.mark-s1.result in
    let L3 = c.ty_row-s2.new.scratch in
    let H3 = c.ty_row-s2.new.finds in
    let S3 = c.ty_row-s2.result in
    let L6 = c.bump-s3.new.scratch in
    let S6 = c.bump-s3.result in
    let L7 = c.close_node.new.scratch in
    let S7 = c.close_node.result in
    by_steps {m = (mem X0 T0 N0 J0 L0 H0 S0)} {m' = (mem X0 T0 N0 J0 L7 H3 S7)} (c.requires) (λ b. s_mark {e = (mem X0 T0 N0 J0 L7 H3 S7)} {x = X0} {t = T0} {n = N0} {j = J0} {l = L0} {h = H0} {s = S0} {s' = S2} (c.if-left-eq0.false) (c.mark-s1.ensures) (s_by {a = (mem X0 T0 N0 J0 L0 H0 S2)} {c = (mem X0 T0 N0 J0 L3 H3 S3)} {e = (mem X0 T0 N0 J0 L7 H3 S7)} _ (runs_in {a = (mem X0 T0 N0 J0 L0 H0 S2)} {c = (mem X0 T0 N0 J0 L3 H3 S3)} (c.ty_row-s2.ensures)) (s_kind {a = (mem X0 T0 N0 J0 L3 H3 S3)} {e = (mem X0 T0 N0 J0 L7 H3 S7)} (s_true {a = (mem X0 T0 N0 J0 L3 H3 S3)} {e = (mem X0 T0 N0 J0 L7 H3 S7)} _ _ (kind_at _ _ (mem X0 T0 N0 J0 L3 H3 S3) _ (c.at.ensures) (c.if-at.true)) (s_bump {e = (mem X0 T0 N0 J0 L7 H3 S7)} {x = X0} {t = T0} {n = N0} {j = J0} {l = L3} {h = H3} {s = S3} {s' = S6} {l' = L6} (c.bump-s3.ensures) (s_close {e = (mem X0 T0 N0 J0 L7 H3 S7)} {x = X0} {t = T0} {n = N0} {j = J0} {l = L6} {h = H3} {s = S6} {s' = S7} {l' = L7} (c.close_node.ensures) s_end))))))

pub row_item-close_node-requires-2 : goal.row_item-close_node-requires-2
row_item-close_node-requires-2 t c =
    let pre0 = c.requires in
    let mark = c.mark-s1.ensures in
    let mark_ok = ok_marks mark pre0 in
    let ty_row = c.ty_row-s2.ensures in
    let ty_row_ok = ty_row.ok in
    (ty_row_ok.logs, small_len mark_ok)

pub row_item-returns : goal.row_item-returns
unfolding util.end_item plan choose chosen
row_item-returns t c =
    let X0 = c.args.lent.text.now in
    let T0 = c.args.lent.toks.now in
    let N0 = c.args.lent.env.now in
    let J0 = c.args.table.now in
    let L0 = c.args.scratch.now in
    let H0 = c.args.finds.now in
    let S0 = c.args.s in
    let S2 = c.mark-s1.result in
    let L3 = c.ty_row-s2.new.scratch in
    let H3 = c.ty_row-s2.new.finds in
    let S3 = c.ty_row-s2.result in
    let L6 = c.close_node-2.new.scratch in
    let S6 = c.close_node-2.result in
    by_steps {m = (mem X0 T0 N0 J0 L0 H0 S0)} {m' = (mem X0 T0 N0 J0 L6 H3 S6)} (c.requires) (λ b. s_mark {e = (mem X0 T0 N0 J0 L6 H3 S6)} {x = X0} {t = T0} {n = N0} {j = J0} {l = L0} {h = H0} {s = S0} {s' = S2} (c.if-left-eq0.false) (c.mark-s1.ensures) (s_by {a = (mem X0 T0 N0 J0 L0 H0 S2)} {c = (mem X0 T0 N0 J0 L3 H3 S3)} {e = (mem X0 T0 N0 J0 L6 H3 S6)} _ (runs_in {a = (mem X0 T0 N0 J0 L0 H0 S2)} {c = (mem X0 T0 N0 J0 L3 H3 S3)} (c.ty_row-s2.ensures)) (s_kind {a = (mem X0 T0 N0 J0 L3 H3 S3)} {e = (mem X0 T0 N0 J0 L6 H3 S6)} (s_false {a = (mem X0 T0 N0 J0 L3 H3 S3)} {e = (mem X0 T0 N0 J0 L6 H3 S6)} _ _ (kind_off _ _ (mem X0 T0 N0 J0 L3 H3 S3) _ (c.at.ensures) (c.if-at.false)) (s_close {e = (mem X0 T0 N0 J0 L6 H3 S6)} {x = X0} {t = T0} {n = N0} {j = J0} {l = L3} {h = H3} {s = S3} {s' = S6} {l' = L6} (c.close_node-2.ensures) s_end)))))

pub row_turn-at-requires : goal.row_turn-at-requires
row_turn-at-requires t c =
    let pre0 = c.requires in
    pre0.reads

pub row_turn-bump-requires : goal.row_turn-bump-requires
row_turn-bump-requires t c =
    let pre0 = c.requires in
    (pre0.reads, pre0.logs)

pub row_turn-returns-then-at : goal.row_turn-returns-then-at
unfolding util.end_turn plan choose chosen
row_turn-returns-then-at t c =
    let X0 = c.args.lent.text.now in
    let T0 = c.args.lent.toks.now in
    let N0 = c.args.lent.env.now in
    let J0 = c.args.table.now in
    let L0 = c.args.scratch.now in
    let H0 = c.args.finds.now in
    let S0 = c.args.s in
    let L3 = c.bump.new.scratch in
    let S3 = c.bump.result in
    by_steps {m = (mem X0 T0 N0 J0 L0 H0 S0)} {m' = (mem X0 T0 N0 J0 L3 H0 S3)} (c.requires) (λ b. s_kind {a = (mem X0 T0 N0 J0 L0 H0 S0)} {e = (mem X0 T0 N0 J0 L3 H0 S3)} (s_true {a = (mem X0 T0 N0 J0 L0 H0 S0)} {e = (mem X0 T0 N0 J0 L3 H0 S3)} _ _ (kind_at _ _ (mem X0 T0 N0 J0 L0 H0 S0) _ (c.at.ensures) (c.if-at.true)) (s_bump {e = (mem X0 T0 N0 J0 L3 H0 S3)} {x = X0} {t = T0} {n = N0} {j = J0} {l = L0} {h = H0} {s = S0} {s' = S3} {l' = L3} (c.bump.ensures) s_end)))

pub row_turn-row_item-item-requires : goal.row_turn-row_item-item-requires
row_turn-row_item-item-requires t c =
    let pre0 = c.requires in
    (omega arith, pre0)

pub row_turn-eat-got-requires : goal.row_turn-eat-got-requires
row_turn-eat-got-requires t c =
    let row_item = c.in-Err.ensures in
    let row_item_ok = row_item.ok in
    (row_item_ok.reads, row_item_ok.logs, row_item_ok.holds, omega arith)

pub row_turn-either-s2-requires : goal.row_turn-either-s2-requires
row_turn-either-s2-requires t c =
    tt

pub row_turn-returns-in-Ok : goal.row_turn-returns-in-Ok
unfolding util.end_turn plan choose chosen
row_turn-returns-in-Ok t c =
    let X0 = c.args.lent.text.now in
    let T0 = c.args.lent.toks.now in
    let N0 = c.args.lent.env.now in
    let J0 = c.args.table.now in
    let L0 = c.args.scratch.now in
    let H0 = c.args.finds.now in
    let S0 = c.args.s in
    let L3 = c.row_item-item.new.scratch in
    let H3 = c.row_item-item.new.finds in
    let S3 = c.in-Ok.s1 in
    by_steps {m = (mem X0 T0 N0 J0 L0 H0 S0)} {m' = (mem X0 T0 N0 J0 L3 H3 S3)} (c.requires) (λ b. s_kind {a = (mem X0 T0 N0 J0 L0 H0 S0)} {e = (mem X0 T0 N0 J0 L3 H3 S3)} (s_false {a = (mem X0 T0 N0 J0 L0 H0 S0)} {e = (mem X0 T0 N0 J0 L3 H3 S3)} _ _ (kind_off _ _ (mem X0 T0 N0 J0 L0 H0 S0) _ (c.at.ensures) (c.if-at.false)) (s_by {a = (mem X0 T0 N0 J0 L0 H0 S0)} {c = (mem X0 T0 N0 J0 L3 H3 S3)} {e = (mem X0 T0 N0 J0 L3 H3 S3)} _ (runs_in {a = (mem X0 T0 N0 J0 L0 H0 S0)} {c = (mem X0 T0 N0 J0 L3 H3 S3)} (c.in-Ok.ensures)) s_end)))

pub row_turn-returns-in-Err : goal.row_turn-returns-in-Err
unfolding util.end_turn plan choose chosen
row_turn-returns-in-Err t c =
    let X0 = c.args.lent.text.now in
    let T0 = c.args.lent.toks.now in
    let N0 = c.args.lent.env.now in
    let J0 = c.args.table.now in
    let L0 = c.args.scratch.now in
    let H0 = c.args.finds.now in
    let S0 = c.args.s in
    let L3 = c.row_item-item.new.scratch in
    let H3 = c.row_item-item.new.finds in
    let S3 = c.in-Err.s1 in
    let L4 = c.eat-got.new.scratch in
    let H4 = c.eat-got.new.finds in
    let S5 = c.either-s2.result in
    by_steps {m = (mem X0 T0 N0 J0 L0 H0 S0)} {m' = (mem X0 T0 N0 J0 L4 H4 S5)} (c.requires) (λ b. s_kind {a = (mem X0 T0 N0 J0 L0 H0 S0)} {e = (mem X0 T0 N0 J0 L4 H4 S5)} (s_false {a = (mem X0 T0 N0 J0 L0 H0 S0)} {e = (mem X0 T0 N0 J0 L4 H4 S5)} _ _ (kind_off _ _ (mem X0 T0 N0 J0 L0 H0 S0) _ (c.at.ensures) (c.if-at.false)) (s_by {a = (mem X0 T0 N0 J0 L0 H0 S0)} {c = (mem X0 T0 N0 J0 L3 H3 S3)} {e = (mem X0 T0 N0 J0 L4 H4 S5)} _ (runs_in {a = (mem X0 T0 N0 J0 L0 H0 S0)} {c = (mem X0 T0 N0 J0 L3 H3 S3)} (c.in-Err.ensures)) (s_eats _ _ {x = X0} {t = T0} {n = N0} {j = J0} {l = L3} {h = H3} {l' = L4} {s = S3} {s' = S5} {e = (mem X0 T0 N0 J0 L4 H4 S5)} _ {h' = H4} (eats_settled (c.either-s2.ensures) (c.eat-got.ensures)) s_end))))

pub star_factor-refuse_for-requires : goal.star_factor-refuse_for-requires
star_factor-refuse_for-requires t c =
    tt

pub star_factor-returns-then-left-eq0 : goal.star_factor-returns-then-left-eq0
unfolding types.star_factor plan choose chosen hushed
star_factor-returns-then-left-eq0 t c =
    let X0 = c.args.lent.text.now in
    let T0 = c.args.lent.toks.now in
    let N0 = c.args.lent.env.now in
    let J0 = c.args.table.now in
    let L0 = c.args.scratch.now in
    let H0 = c.args.finds.now in
    let S0 = c.args.s in
    let S2 = c.refuse_for.result in
    by_steps {m = (mem X0 T0 N0 J0 L0 H0 S0)} {m' = (mem X0 T0 N0 J0 L0 H0 S2)} (c.requires) (λ b. s_shut (c.if-left-eq0.true) (c.refuse_for.ensures) (λ k l. refl))

pub star_factor-mark-s1-requires : goal.star_factor-mark-s1-requires
star_factor-mark-s1-requires t c =
    tt

pub star_factor-bump-s2-requires : goal.star_factor-bump-s2-requires
star_factor-bump-s2-requires t c =
    let pre0 = c.requires in
    let mark = c.mark-s1.ensures in
    let mark_ok = ok_marks mark pre0 in
    (mark_ok.reads, mark_ok.logs)

pub star_factor-ty_must-s3-requires : goal.star_factor-ty_must-s3-requires
star_factor-ty_must-s3-requires t c =
    let pre0 = c.requires in
    let mark = c.mark-s1.ensures in
    let mark_ok = ok_marks mark pre0 in
    let bump = c.bump-s2.ensures in
    let bump_ok = ok_bumps bump mark_ok in
    (omega arith, bump_ok)

pub star_factor-close_node-requires : goal.star_factor-close_node-requires
star_factor-close_node-requires t c =
    let pre0 = c.requires in
    let mark = c.mark-s1.ensures in
    let mark_ok = ok_marks mark pre0 in
    let ty_must = c.ty_must-s3.ensures in
    let ty_must_ok = ty_must.ok in
    (ty_must_ok.logs, small_len mark_ok)

pub star_factor-returns : goal.star_factor-returns
unfolding types.star_factor plan choose chosen
star_factor-returns t c =
    let X0 = c.args.lent.text.now in
    let T0 = c.args.lent.toks.now in
    let N0 = c.args.lent.env.now in
    let J0 = c.args.table.now in
    let L0 = c.args.scratch.now in
    let H0 = c.args.finds.now in
    let S0 = c.args.s in
    let S2 = c.mark-s1.result in
    let L3 = c.bump-s2.new.scratch in
    let S3 = c.bump-s2.result in
    let L4 = c.ty_must-s3.new.scratch in
    let H4 = c.ty_must-s3.new.finds in
    let S4 = c.ty_must-s3.result in
    let L5 = c.close_node.new.scratch in
    let S5 = c.close_node.result in
    by_steps {m = (mem X0 T0 N0 J0 L0 H0 S0)} {m' = (mem X0 T0 N0 J0 L5 H4 S5)} (c.requires) (λ b. s_mark {e = (mem X0 T0 N0 J0 L5 H4 S5)} {x = X0} {t = T0} {n = N0} {j = J0} {l = L0} {h = H0} {s = S0} {s' = S2} (c.if-left-eq0.false) (c.mark-s1.ensures) (s_bump {e = (mem X0 T0 N0 J0 L5 H4 S5)} {x = X0} {t = T0} {n = N0} {j = J0} {l = L0} {h = H0} {s = S2} {s' = S3} {l' = L3} (c.bump-s2.ensures) (s_by {a = (mem X0 T0 N0 J0 L3 H0 S3)} {c = (mem X0 T0 N0 J0 L4 H4 S4)} {e = (mem X0 T0 N0 J0 L5 H4 S5)} _ (runs_in {a = (mem X0 T0 N0 J0 L3 H0 S3)} {c = (mem X0 T0 N0 J0 L4 H4 S4)} (c.ty_must-s3.ensures)) (s_close {e = (mem X0 T0 N0 J0 L5 H4 S5)} {x = X0} {t = T0} {n = N0} {j = J0} {l = L4} {h = H4} {s = S4} {s' = S5} {l' = L5} (c.close_node.ensures) s_end))))

pub star_tail-loop-s2-init : goal.star_tail-loop-s2-init
star_tail-loop-s2-init t c =
    let pre0 = c.requires in
    loop_starts pre0

pub star_tail-star_turn-turn-requires : goal.star_tail-star_turn-turn-requires
star_tail-star_turn-turn-requires t c =
    let inv = c.loop-s2.invariant.ok in
    (omega arith, inv)

pub star_tail-loop-s2-smaller : goal.star_tail-loop-s2-smaller
star_tail-loop-s2-smaller t c =
    let star_turn = c.in-Ok.ensures in
    loop_falls (star_advances _ _) (runs_in {b = 0} star_turn)

pub star_tail-loop-s2-preserved : goal.star_tail-loop-s2-preserved
star_tail-loop-s2-preserved t c =
    let inv = c.loop-s2.invariant in
    let star_turn = c.in-Ok.ensures in
    loop_goes (star_advances _ _) inv (runs_in star_turn)

pub star_tail-returns-in-Err : goal.star_tail-returns-in-Err
star_tail-returns-in-Err t c =
    let inv = c.loop-s2.invariant in
    let star_turn = c.in-Err.ensures in
    loop_ends (star_advances _ _) inv (runs_in star_turn)

pub star_turn-at-requires : goal.star_turn-at-requires
star_turn-at-requires t c =
    let pre0 = c.requires in
    pre0.reads

pub star_turn-star_factor-requires : goal.star_turn-star_factor-requires
star_turn-star_factor-requires t c =
    let pre0 = c.requires in
    (omega arith, pre0)

pub star_turn-returns-then-at : goal.star_turn-returns-then-at
unfolding types.star_turn plan choose chosen
star_turn-returns-then-at t c =
    let X0 = c.args.lent.text.now in
    let T0 = c.args.lent.toks.now in
    let N0 = c.args.lent.env.now in
    let J0 = c.args.table.now in
    let L0 = c.args.scratch.now in
    let H0 = c.args.finds.now in
    let S0 = c.args.s in
    let L3 = c.star_factor.new.scratch in
    let H3 = c.star_factor.new.finds in
    let S3 = c.star_factor.result in
    by_steps {m = (mem X0 T0 N0 J0 L0 H0 S0)} {m' = (mem X0 T0 N0 J0 L3 H3 S3)} (c.requires) (λ b. s_kind {a = (mem X0 T0 N0 J0 L0 H0 S0)} {e = (mem X0 T0 N0 J0 L3 H3 S3)} (s_true {a = (mem X0 T0 N0 J0 L0 H0 S0)} {e = (mem X0 T0 N0 J0 L3 H3 S3)} _ _ (kind_at _ _ (mem X0 T0 N0 J0 L0 H0 S0) _ (c.at.ensures) (c.if-at.true)) (s_by {a = (mem X0 T0 N0 J0 L0 H0 S0)} {c = (mem X0 T0 N0 J0 L3 H3 S3)} {e = (mem X0 T0 N0 J0 L3 H3 S3)} _ (runs_in {a = (mem X0 T0 N0 J0 L0 H0 S0)} {c = (mem X0 T0 N0 J0 L3 H3 S3)} (c.star_factor.ensures)) s_end)))

pub star_turn-returns-else-at : goal.star_turn-returns-else-at
unfolding types.star_turn plan choose chosen
star_turn-returns-else-at t c =
    let X0 = c.args.lent.text.now in
    let T0 = c.args.lent.toks.now in
    let N0 = c.args.lent.env.now in
    let J0 = c.args.table.now in
    let L0 = c.args.scratch.now in
    let H0 = c.args.finds.now in
    let S0 = c.args.s in
    by_steps {m = (mem X0 T0 N0 J0 L0 H0 S0)} {m' = (mem X0 T0 N0 J0 L0 H0 S0)} (c.requires) (λ b. s_kind {a = (mem X0 T0 N0 J0 L0 H0 S0)} {e = (mem X0 T0 N0 J0 L0 H0 S0)} (s_false {a = (mem X0 T0 N0 J0 L0 H0 S0)} {e = (mem X0 T0 N0 J0 L0 H0 S0)} _ _ (kind_off _ _ (mem X0 T0 N0 J0 L0 H0 S0) _ (c.at.ensures) (c.if-at.false)) s_end))

pub ty_arg-refuse_for-requires : goal.ty_arg-refuse_for-requires
ty_arg-refuse_for-requires t c =
    tt

pub ty_arg-returns-then-left-eq0 : goal.ty_arg-returns-then-left-eq0
unfolding types.ty_arg plan choose chosen hushed
ty_arg-returns-then-left-eq0 t c =
    let X0 = c.args.lent.text.now in
    let T0 = c.args.lent.toks.now in
    let N0 = c.args.lent.env.now in
    let J0 = c.args.table.now in
    let L0 = c.args.scratch.now in
    let H0 = c.args.finds.now in
    let S0 = c.args.s in
    let S2 = c.refuse_for.result in
    by_steps {m = (mem X0 T0 N0 J0 L0 H0 S0)} {m' = (mem X0 T0 N0 J0 L0 H0 S2)} (c.requires) (λ b. s_shut (c.if-left-eq0.true) (c.refuse_for.ensures) (λ k l. refl))

pub ty_arg-mark-s1-requires : goal.ty_arg-mark-s1-requires
ty_arg-mark-s1-requires t c =
    tt

pub ty_arg-ty_must-s2-requires : goal.ty_arg-ty_must-s2-requires
ty_arg-ty_must-s2-requires t c =
    let pre0 = c.requires in
    let mark = c.mark-s1.ensures in
    let mark_ok = ok_marks mark pre0 in
    (omega arith, mark_ok)

pub ty_arg-at-requires : goal.ty_arg-at-requires
ty_arg-at-requires t c =
    let ty_must = c.ty_must-s2.ensures in
    let ty_must_ok = ty_must.ok in
    ty_must_ok.reads

pub ty_arg-returns-then-at : goal.ty_arg-returns-then-at
unfolding types.ty_arg plan choose chosen
ty_arg-returns-then-at t c =
    let X0 = c.args.lent.text.now in
    let T0 = c.args.lent.toks.now in
    let N0 = c.args.lent.env.now in
    let J0 = c.args.table.now in
    let L0 = c.args.scratch.now in
    let H0 = c.args.finds.now in
    let S0 = c.args.s in
    let S2 = c.mark-s1.result in
    let L3 = c.ty_must-s2.new.scratch in
    let H3 = c.ty_must-s2.new.finds in
    let S3 = c.ty_must-s2.result in
    by_steps {m = (mem X0 T0 N0 J0 L0 H0 S0)} {m' = (mem X0 T0 N0 J0 L3 H3 S3)} (c.requires) (λ b. s_mark {e = (mem X0 T0 N0 J0 L3 H3 S3)} {x = X0} {t = T0} {n = N0} {j = J0} {l = L0} {h = H0} {s = S0} {s' = S2} (c.if-left-eq0.false) (c.mark-s1.ensures) (s_by {a = (mem X0 T0 N0 J0 L0 H0 S2)} {c = (mem X0 T0 N0 J0 L3 H3 S3)} {e = (mem X0 T0 N0 J0 L3 H3 S3)} _ (runs_in {a = (mem X0 T0 N0 J0 L0 H0 S2)} {c = (mem X0 T0 N0 J0 L3 H3 S3)} (c.ty_must-s2.ensures)) (s_kind {a = (mem X0 T0 N0 J0 L3 H3 S3)} {e = (mem X0 T0 N0 J0 L3 H3 S3)} (s_true {a = (mem X0 T0 N0 J0 L3 H3 S3)} {e = (mem X0 T0 N0 J0 L3 H3 S3)} _ _ (kind_at _ _ (mem X0 T0 N0 J0 L3 H3 S3) _ (c.at.ensures) (c.if-at.true)) s_end))))

pub ty_arg-eat-got-requires : goal.ty_arg-eat-got-requires
ty_arg-eat-got-requires t c =
    let ty_must = c.ty_must-s2.ensures in
    let ty_must_ok = ty_must.ok in
    (ty_must_ok.reads, ty_must_ok.logs, ty_must_ok.holds, omega arith)

pub ty_arg-either-s3-requires : goal.ty_arg-either-s3-requires
ty_arg-either-s3-requires t c =
    tt

pub ty_arg-close_node-requires : goal.ty_arg-close_node-requires
ty_arg-close_node-requires t c =
    let pre0 = c.requires in
    let mark = c.mark-s1.ensures in
    let mark_ok = ok_marks mark pre0 in
    let ty_must = c.ty_must-s2.ensures in
    let ty_must_ok = ty_must.ok in
    let eat = c.eat-got.ensures in
    let eat_ok = ok_eats eat ty_must_ok in
    let either = c.either-s3.ensures in
    let either_ok = ok_state either eat_ok in
    (either_ok.logs, small_len mark_ok)

pub ty_arg-returns : goal.ty_arg-returns
unfolding types.ty_arg plan choose chosen
ty_arg-returns t c =
    let X0 = c.args.lent.text.now in
    let T0 = c.args.lent.toks.now in
    let N0 = c.args.lent.env.now in
    let J0 = c.args.table.now in
    let L0 = c.args.scratch.now in
    let H0 = c.args.finds.now in
    let S0 = c.args.s in
    let S2 = c.mark-s1.result in
    let L3 = c.ty_must-s2.new.scratch in
    let H3 = c.ty_must-s2.new.finds in
    let S3 = c.ty_must-s2.result in
    let L6 = c.eat-got.new.scratch in
    let H6 = c.eat-got.new.finds in
    let S7 = c.either-s3.result in
    let L8 = c.close_node.new.scratch in
    let S8 = c.close_node.result in
    by_steps {m = (mem X0 T0 N0 J0 L0 H0 S0)} {m' = (mem X0 T0 N0 J0 L8 H6 S8)} (c.requires) (λ b. s_mark {e = (mem X0 T0 N0 J0 L8 H6 S8)} {x = X0} {t = T0} {n = N0} {j = J0} {l = L0} {h = H0} {s = S0} {s' = S2} (c.if-left-eq0.false) (c.mark-s1.ensures) (s_by {a = (mem X0 T0 N0 J0 L0 H0 S2)} {c = (mem X0 T0 N0 J0 L3 H3 S3)} {e = (mem X0 T0 N0 J0 L8 H6 S8)} _ (runs_in {a = (mem X0 T0 N0 J0 L0 H0 S2)} {c = (mem X0 T0 N0 J0 L3 H3 S3)} (c.ty_must-s2.ensures)) (s_kind {a = (mem X0 T0 N0 J0 L3 H3 S3)} {e = (mem X0 T0 N0 J0 L8 H6 S8)} (s_false {a = (mem X0 T0 N0 J0 L3 H3 S3)} {e = (mem X0 T0 N0 J0 L8 H6 S8)} _ _ (kind_off _ _ (mem X0 T0 N0 J0 L3 H3 S3) _ (c.at.ensures) (c.if-at.false)) (s_eats _ _ {x = X0} {t = T0} {n = N0} {j = J0} {l = L3} {h = H3} {l' = L6} {s = S3} {s' = S7} {e = (mem X0 T0 N0 J0 L8 H6 S8)} _ {h' = H6} (eats_settled (c.either-s3.ensures) (c.eat-got.ensures)) (s_close {e = (mem X0 T0 N0 J0 L8 H6 S8)} {x = X0} {t = T0} {n = N0} {j = J0} {l = L6} {h = H6} {s = S7} {s' = S8} {l' = L8} (c.close_node.ensures) s_end))))))

pub ty_args-loop-s2-init : goal.ty_args-loop-s2-init
ty_args-loop-s2-init t c =
    let pre0 = c.requires in
    loop_starts pre0

pub ty_args-arg_turn-turn-requires : goal.ty_args-arg_turn-turn-requires
ty_args-arg_turn-turn-requires t c =
    let inv = c.loop-s2.invariant.ok in
    (omega arith, inv)

pub ty_args-loop-s2-smaller : goal.ty_args-loop-s2-smaller
ty_args-loop-s2-smaller t c =
    let arg_turn = c.in-Ok.ensures in
    loop_falls (end_turn_advances true _ _ _ _ _ _) (runs_in {b = 0} arg_turn)

pub ty_args-loop-s2-preserved : goal.ty_args-loop-s2-preserved
ty_args-loop-s2-preserved t c =
    let inv = c.loop-s2.invariant in
    let arg_turn = c.in-Ok.ensures in
    loop_goes (end_turn_advances true _ _ _ _ _ _) inv (runs_in arg_turn)

pub ty_args-returns-in-Err : goal.ty_args-returns-in-Err
ty_args-returns-in-Err t c =
    let inv = c.loop-s2.invariant in
    let arg_turn = c.in-Err.ensures in
    loop_ends (end_turn_advances true _ _ _ _ _ _) inv (runs_in arg_turn)

pub ty_arrow-refuse_for-requires : goal.ty_arrow-refuse_for-requires
ty_arrow-refuse_for-requires t c =
    tt

pub ty_arrow-returns-then-left-eq0 : goal.ty_arrow-returns-then-left-eq0
unfolding types.ty_arrow plan choose chosen hushed
ty_arrow-returns-then-left-eq0 t c =
    let X0 = c.args.lent.text.now in
    let T0 = c.args.lent.toks.now in
    let N0 = c.args.lent.env.now in
    let J0 = c.args.table.now in
    let L0 = c.args.scratch.now in
    let H0 = c.args.finds.now in
    let S0 = c.args.s in
    let S2 = c.refuse_for.result in
    in_steps {m = (mem X0 T0 N0 J0 L0 H0 S0)} {m' = (mem X0 T0 N0 J0 L0 H0 S2)} (c.requires.0) (s_shut (c.if-left-eq0.true) (c.refuse_for.ensures) (λ k l. refl))

pub ty_arrow-mark-requires : goal.ty_arrow-mark-requires
ty_arrow-mark-requires t c =
    tt

pub ty_arrow-bump-s1-requires : goal.ty_arrow-bump-s1-requires
ty_arrow-bump-s1-requires t c =
    let pre0 = c.requires.0 in
    let mark = c.mark.ensures in
    let mark_ok = ok_marks mark pre0 in
    (mark_ok.reads, mark_ok.logs)

pub ty_arrow-ty_must-s2-requires : goal.ty_arrow-ty_must-s2-requires
ty_arrow-ty_must-s2-requires t c =
    let pre0 = c.requires.0 in
    let mark = c.mark.ensures in
    let mark_ok = ok_marks mark pre0 in
    let bump = c.bump-s1.ensures in
    let bump_ok = ok_bumps bump mark_ok in
    (omega arith, bump_ok)

pub ty_arrow-close_node-requires : goal.ty_arrow-close_node-requires
ty_arrow-close_node-requires t c =
    let pre1 = c.requires.1 in
    let ty_must = c.ty_must-s2.ensures in
    let ty_must_ok = ty_must.ok in
    (ty_must_ok.logs, pre1)

pub ty_arrow-returns : goal.ty_arrow-returns
unfolding types.ty_arrow plan choose chosen
ty_arrow-returns t c =
    let X0 = c.args.lent.text.now in
    let T0 = c.args.lent.toks.now in
    let N0 = c.args.lent.env.now in
    let J0 = c.args.table.now in
    let L0 = c.args.scratch.now in
    let H0 = c.args.finds.now in
    let S0 = c.args.s in
    let S2 = c.mark.result in
    let L3 = c.bump-s1.new.scratch in
    let S3 = c.bump-s1.result in
    let L4 = c.ty_must-s2.new.scratch in
    let H4 = c.ty_must-s2.new.finds in
    let S4 = c.ty_must-s2.result in
    let L5 = c.close_node.new.scratch in
    let S5 = c.close_node.result in
    in_steps {m = (mem X0 T0 N0 J0 L0 H0 S0)} {m' = (mem X0 T0 N0 J0 L5 H4 S5)} (c.requires.0) (s_mark {e = (mem X0 T0 N0 J0 L5 H4 S5)} {x = X0} {t = T0} {n = N0} {j = J0} {l = L0} {h = H0} {s = S0} {s' = S2} (c.if-left-eq0.false) (c.mark.ensures) (s_bump {e = (mem X0 T0 N0 J0 L5 H4 S5)} {x = X0} {t = T0} {n = N0} {j = J0} {l = L0} {h = H0} {s = S2} {s' = S3} {l' = L3} (c.bump-s1.ensures) (s_by {a = (mem X0 T0 N0 J0 L3 H0 S3)} {c = (mem X0 T0 N0 J0 L4 H4 S4)} {e = (mem X0 T0 N0 J0 L5 H4 S5)} _ (runs_in {a = (mem X0 T0 N0 J0 L3 H0 S3)} {c = (mem X0 T0 N0 J0 L4 H4 S4)} (c.ty_must-s2.ensures)) (s_close {e = (mem X0 T0 N0 J0 L5 H4 S5)} {x = X0} {t = T0} {n = N0} {j = J0} {l = L4} {h = H4} {s = S4} {s' = S5} {l' = L5} (c.close_node.ensures) s_end))))

pub ty_head-bump-s1-requires : goal.ty_head-bump-s1-requires
ty_head-bump-s1-requires t c =
    let pre0 = c.requires.0 in
    (pre0.reads, pre0.logs)

pub ty_head-close_node-requires : goal.ty_head-close_node-requires
ty_head-close_node-requires t c =
    let pre0 = c.requires.0 in
    let pre1 = c.requires.1 in
    let bump = c.bump-s1.ensures in
    let bump_ok = ok_bumps bump pre0 in
    (bump_ok.logs, pre1)

pub ty_head-returns-then-k-eq-DOT_DOT_DOT : goal.ty_head-returns-then-k-eq-DOT_DOT_DOT
unfolding types.ty_head plan choose chosen
ty_head-returns-then-k-eq-DOT_DOT_DOT t c =
    let X0 = c.args.lent.text.now in
    let T0 = c.args.lent.toks.now in
    let N0 = c.args.lent.env.now in
    let J0 = c.args.table.now in
    let L0 = c.args.scratch.now in
    let H0 = c.args.finds.now in
    let S0 = c.args.s in
    let L2 = c.bump-s1.new.scratch in
    let S2 = c.bump-s1.result in
    let L3 = c.close_node.new.scratch in
    let S3 = c.close_node.result in
    in_steps {m = (mem X0 T0 N0 J0 L0 H0 S0)} {m' = (mem X0 T0 N0 J0 L3 H0 S3)} (c.requires.0) (s_true {a = (mem X0 T0 N0 J0 L0 H0 S0)} {e = (mem X0 T0 N0 J0 L3 H0 S3)} _ _ (kind_is (c.if-k-eq-DOT_DOT_DOT.true)) (s_bump {e = (mem X0 T0 N0 J0 L3 H0 S3)} {x = X0} {t = T0} {n = N0} {j = J0} {l = L0} {h = H0} {s = S0} {s' = S2} {l' = L2} (c.bump-s1.ensures) (s_close {e = (mem X0 T0 N0 J0 L3 H0 S3)} {x = X0} {t = T0} {n = N0} {j = J0} {l = L2} {h = H0} {s = S2} {s' = S3} {l' = L3} (c.close_node.ensures) s_end)))

pub ty_head-bump-s1-requires-then-k-eq-UNDERSCORE : goal.ty_head-bump-s1-requires-then-k-eq-UNDERSCORE
ty_head-bump-s1-requires-then-k-eq-UNDERSCORE t c =
    let pre0 = c.requires.0 in
    (pre0.reads, pre0.logs)

pub ty_head-close_node-requires-then-k-eq-UNDERSCORE : goal.ty_head-close_node-requires-then-k-eq-UNDERSCORE
ty_head-close_node-requires-then-k-eq-UNDERSCORE t c =
    let pre0 = c.requires.0 in
    let pre1 = c.requires.1 in
    let bump2 = c.bump-s1-then-k-eq-UNDERSCORE.ensures in
    let bump2_ok = ok_bumps bump2 pre0 in
    (bump2_ok.logs, pre1)

pub ty_head-returns-then-k-eq-UNDERSCORE : goal.ty_head-returns-then-k-eq-UNDERSCORE
unfolding types.ty_head plan choose chosen
ty_head-returns-then-k-eq-UNDERSCORE t c =
    let X0 = c.args.lent.text.now in
    let T0 = c.args.lent.toks.now in
    let N0 = c.args.lent.env.now in
    let J0 = c.args.table.now in
    let L0 = c.args.scratch.now in
    let H0 = c.args.finds.now in
    let S0 = c.args.s in
    let L3 = c.bump-s1-then-k-eq-UNDERSCORE.new.scratch in
    let S3 = c.bump-s1-then-k-eq-UNDERSCORE.result in
    let L4 = c.close_node-then-k-eq-UNDERSCORE.new.scratch in
    let S4 = c.close_node-then-k-eq-UNDERSCORE.result in
    in_steps {m = (mem X0 T0 N0 J0 L0 H0 S0)} {m' = (mem X0 T0 N0 J0 L4 H0 S4)} (c.requires.0) (s_false {a = (mem X0 T0 N0 J0 L0 H0 S0)} {e = (mem X0 T0 N0 J0 L4 H0 S4)} _ _ (kind_not (c.if-k-eq-DOT_DOT_DOT.false)) (s_true {a = (mem X0 T0 N0 J0 L0 H0 S0)} {e = (mem X0 T0 N0 J0 L4 H0 S4)} _ _ (kind_is (c.if-k-eq-UNDERSCORE.true)) (s_bump {e = (mem X0 T0 N0 J0 L4 H0 S4)} {x = X0} {t = T0} {n = N0} {j = J0} {l = L0} {h = H0} {s = S0} {s' = S3} {l' = L3} (c.bump-s1-then-k-eq-UNDERSCORE.ensures) (s_close {e = (mem X0 T0 N0 J0 L4 H0 S4)} {x = X0} {t = T0} {n = N0} {j = J0} {l = L3} {h = H0} {s = S3} {s' = S4} {l' = L4} (c.close_node-then-k-eq-UNDERSCORE.ensures) s_end))))

pub ty_head-bump-s1-requires-then-k-eq-TY_VAR : goal.ty_head-bump-s1-requires-then-k-eq-TY_VAR
ty_head-bump-s1-requires-then-k-eq-TY_VAR t c =
    let pre0 = c.requires.0 in
    (pre0.reads, pre0.logs)

pub ty_head-close_node-requires-then-k-eq-TY_VAR : goal.ty_head-close_node-requires-then-k-eq-TY_VAR
ty_head-close_node-requires-then-k-eq-TY_VAR t c =
    let pre0 = c.requires.0 in
    let pre1 = c.requires.1 in
    let bump3 = c.bump-s1-then-k-eq-TY_VAR.ensures in
    let bump3_ok = ok_bumps bump3 pre0 in
    (bump3_ok.logs, pre1)

pub ty_head-returns-then-k-eq-TY_VAR : goal.ty_head-returns-then-k-eq-TY_VAR
unfolding types.ty_head plan choose chosen
ty_head-returns-then-k-eq-TY_VAR t c =
    let X0 = c.args.lent.text.now in
    let T0 = c.args.lent.toks.now in
    let N0 = c.args.lent.env.now in
    let J0 = c.args.table.now in
    let L0 = c.args.scratch.now in
    let H0 = c.args.finds.now in
    let S0 = c.args.s in
    let L4 = c.bump-s1-then-k-eq-TY_VAR.new.scratch in
    let S4 = c.bump-s1-then-k-eq-TY_VAR.result in
    let L5 = c.close_node-then-k-eq-TY_VAR.new.scratch in
    let S5 = c.close_node-then-k-eq-TY_VAR.result in
    in_steps {m = (mem X0 T0 N0 J0 L0 H0 S0)} {m' = (mem X0 T0 N0 J0 L5 H0 S5)} (c.requires.0) (s_false {a = (mem X0 T0 N0 J0 L0 H0 S0)} {e = (mem X0 T0 N0 J0 L5 H0 S5)} _ _ (kind_not (c.if-k-eq-DOT_DOT_DOT.false)) (s_false {a = (mem X0 T0 N0 J0 L0 H0 S0)} {e = (mem X0 T0 N0 J0 L5 H0 S5)} _ _ (kind_not (c.if-k-eq-UNDERSCORE.false)) (s_true {a = (mem X0 T0 N0 J0 L0 H0 S0)} {e = (mem X0 T0 N0 J0 L5 H0 S5)} _ _ (kind_is (c.if-k-eq-TY_VAR.true)) (s_bump {e = (mem X0 T0 N0 J0 L5 H0 S5)} {x = X0} {t = T0} {n = N0} {j = J0} {l = L0} {h = H0} {s = S0} {s' = S4} {l' = L4} (c.bump-s1-then-k-eq-TY_VAR.ensures) (s_close {e = (mem X0 T0 N0 J0 L5 H0 S5)} {x = X0} {t = T0} {n = N0} {j = J0} {l = L4} {h = H0} {s = S4} {s' = S5} {l' = L5} (c.close_node-then-k-eq-TY_VAR.ensures) s_end)))))

pub ty_head-ty_inner-requires : goal.ty_head-ty_inner-requires
ty_head-ty_inner-requires t c =
    let pre0 = c.requires.0 in
    let pre1 = c.requires.1 in
    (omega arith, (pre0, pre1))

pub ty_head-returns : goal.ty_head-returns
unfolding types.ty_head plan choose chosen
ty_head-returns t c =
    let X0 = c.args.lent.text.now in
    let T0 = c.args.lent.toks.now in
    let N0 = c.args.lent.env.now in
    let J0 = c.args.table.now in
    let L0 = c.args.scratch.now in
    let H0 = c.args.finds.now in
    let S0 = c.args.s in
    let L4 = c.ty_inner.new.scratch in
    let H4 = c.ty_inner.new.finds in
    let S4 = out_state c.ty_inner.result in
    in_steps {m = (mem X0 T0 N0 J0 L0 H0 S0)} {m' = (mem X0 T0 N0 J0 L4 H4 S4)} (c.requires.0) (s_false {a = (mem X0 T0 N0 J0 L0 H0 S0)} {e = (mem X0 T0 N0 J0 L4 H4 S4)} _ _ (kind_not (c.if-k-eq-DOT_DOT_DOT.false)) (s_false {a = (mem X0 T0 N0 J0 L0 H0 S0)} {e = (mem X0 T0 N0 J0 L4 H4 S4)} _ _ (kind_not (c.if-k-eq-UNDERSCORE.false)) (s_false {a = (mem X0 T0 N0 J0 L0 H0 S0)} {e = (mem X0 T0 N0 J0 L4 H4 S4)} _ _ (kind_not (c.if-k-eq-TY_VAR.false)) (s_by {a = (mem X0 T0 N0 J0 L0 H0 S0)} {c = (mem X0 T0 N0 J0 L4 H4 S4)} {e = (mem X0 T0 N0 J0 L4 H4 S4)} _ (c.ty_inner.ensures) s_end))))

pub ty_inner-bump-s1-requires : goal.ty_inner-bump-s1-requires
ty_inner-bump-s1-requires t c =
    let pre0 = c.requires.0 in
    (pre0.reads, pre0.logs)

pub ty_inner-ty_rows-s2-requires : goal.ty_inner-ty_rows-s2-requires
ty_inner-ty_rows-s2-requires t c =
    let pre0 = c.requires.0 in
    let bump = c.bump-s1.ensures in
    let bump_ok = ok_bumps bump pre0 in
    (omega arith, bump_ok)

pub ty_inner-close_node-requires : goal.ty_inner-close_node-requires
ty_inner-close_node-requires t c =
    let pre1 = c.requires.1 in
    let ty_rows = c.ty_rows-s2.ensures in
    let ty_rows_ok = ty_rows.ok in
    (ty_rows_ok.logs, pre1)

pub ty_inner-returns-then-k-eq-LCURLY : goal.ty_inner-returns-then-k-eq-LCURLY
unfolding types.ty_inner util.end_sep plan choose chosen
ty_inner-returns-then-k-eq-LCURLY t c =
    let X0 = c.args.lent.text.now in
    let T0 = c.args.lent.toks.now in
    let N0 = c.args.lent.env.now in
    let J0 = c.args.table.now in
    let L0 = c.args.scratch.now in
    let H0 = c.args.finds.now in
    let S0 = c.args.s in
    let L2 = c.bump-s1.new.scratch in
    let S2 = c.bump-s1.result in
    let L3 = c.ty_rows-s2.new.scratch in
    let H3 = c.ty_rows-s2.new.finds in
    let S3 = c.ty_rows-s2.result in
    let L4 = c.close_node.new.scratch in
    let S4 = c.close_node.result in
    in_steps {m = (mem X0 T0 N0 J0 L0 H0 S0)} {m' = (mem X0 T0 N0 J0 L4 H3 S4)} (c.requires.0) (s_true {a = (mem X0 T0 N0 J0 L0 H0 S0)} {e = (mem X0 T0 N0 J0 L4 H3 S4)} _ _ (kind_is (c.if-k-eq-LCURLY.true)) (s_bump {e = (mem X0 T0 N0 J0 L4 H3 S4)} {x = X0} {t = T0} {n = N0} {j = J0} {l = L0} {h = H0} {s = S0} {s' = S2} {l' = L2} (c.bump-s1.ensures) (s_run {a = (mem X0 T0 N0 J0 L2 H0 S2)} {c = (mem X0 T0 N0 J0 L3 H3 S3)} {e = (mem X0 T0 N0 J0 L4 H3 S4)} (c.ty_rows-s2.ensures) (s_close {e = (mem X0 T0 N0 J0 L4 H3 S4)} {x = X0} {t = T0} {n = N0} {j = J0} {l = L3} {h = H3} {s = S3} {s' = S4} {l' = L4} (c.close_node.ensures) s_end))))

pub ty_inner-ty_round-requires : goal.ty_inner-ty_round-requires
ty_inner-ty_round-requires t c =
    let pre0 = c.requires.0 in
    let pre1 = c.requires.1 in
    (omega arith, (pre0, pre1))

pub ty_inner-returns-then-k-eq-LROUND : goal.ty_inner-returns-then-k-eq-LROUND
unfolding types.ty_inner util.end_sep plan choose chosen
ty_inner-returns-then-k-eq-LROUND t c =
    let X0 = c.args.lent.text.now in
    let T0 = c.args.lent.toks.now in
    let N0 = c.args.lent.env.now in
    let J0 = c.args.table.now in
    let L0 = c.args.scratch.now in
    let H0 = c.args.finds.now in
    let S0 = c.args.s in
    let L3 = c.ty_round.new.scratch in
    let H3 = c.ty_round.new.finds in
    let S3 = out_state c.ty_round.result in
    in_steps {m = (mem X0 T0 N0 J0 L0 H0 S0)} {m' = (mem X0 T0 N0 J0 L3 H3 S3)} (c.requires.0) (s_false {a = (mem X0 T0 N0 J0 L0 H0 S0)} {e = (mem X0 T0 N0 J0 L3 H3 S3)} _ _ (kind_not (c.if-k-eq-LCURLY.false)) (s_true {a = (mem X0 T0 N0 J0 L0 H0 S0)} {e = (mem X0 T0 N0 J0 L3 H3 S3)} _ _ (kind_is (c.if-k-eq-LROUND.true)) (s_by {a = (mem X0 T0 N0 J0 L0 H0 S0)} {c = (mem X0 T0 N0 J0 L3 H3 S3)} {e = (mem X0 T0 N0 J0 L3 H3 S3)} _ (c.ty_round.ensures) s_end)))

pub ty_inner-path_must-got-requires : goal.ty_inner-path_must-got-requires
ty_inner-path_must-got-requires t c =
    let pre0 = c.requires.0 in
    pre0

pub ty_inner-either-s1-requires : goal.ty_inner-either-s1-requires
ty_inner-either-s1-requires t c =
    tt

pub ty_inner-close_node-requires-then-k-eq-NAME : goal.ty_inner-close_node-requires-then-k-eq-NAME
ty_inner-close_node-requires-then-k-eq-NAME t c =
    let pre1 = c.requires.1 in
    let path_must = c.path_must-got.ensures in
    let path_must_ok = path_must.ok in
    let either = c.either-s1.ensures in
    let either_ok = ok_state either path_must_ok in
    (either_ok.logs, pre1)

pub ty_inner-returns-then-k-eq-NAME : goal.ty_inner-returns-then-k-eq-NAME
unfolding types.ty_inner util.end_sep plan choose chosen
ty_inner-returns-then-k-eq-NAME t c =
    let X0 = c.args.lent.text.now in
    let T0 = c.args.lent.toks.now in
    let N0 = c.args.lent.env.now in
    let J0 = c.args.table.now in
    let L0 = c.args.scratch.now in
    let H0 = c.args.finds.now in
    let S0 = c.args.s in
    let L4 = c.path_must-got.new.scratch in
    let H4 = c.path_must-got.new.finds in
    let S4 = out_state c.path_must-got.result in
    let S5 = c.either-s1.result in
    let L6 = c.close_node-then-k-eq-NAME.new.scratch in
    let S6 = c.close_node-then-k-eq-NAME.result in
    in_steps {m = (mem X0 T0 N0 J0 L0 H0 S0)} {m' = (mem X0 T0 N0 J0 L6 H4 S6)} (c.requires.0) (s_false {a = (mem X0 T0 N0 J0 L0 H0 S0)} {e = (mem X0 T0 N0 J0 L6 H4 S6)} _ _ (kind_not (c.if-k-eq-LCURLY.false)) (s_false {a = (mem X0 T0 N0 J0 L0 H0 S0)} {e = (mem X0 T0 N0 J0 L6 H4 S6)} _ _ (kind_not (c.if-k-eq-LROUND.false)) (s_true {a = (mem X0 T0 N0 J0 L0 H0 S0)} {e = (mem X0 T0 N0 J0 L6 H4 S6)} _ _ (kind_is (c.if-k-eq-NAME.true)) (s_by {a = (mem X0 T0 N0 J0 L0 H0 S0)} {c = (mem X0 T0 N0 J0 L4 H4 S5)} {e = (mem X0 T0 N0 J0 L6 H4 S6)} _ (settled (c.either-s1.ensures) (runs_in {a = (mem X0 T0 N0 J0 L0 H0 S0)} {c = (mem X0 T0 N0 J0 L4 H4 S4)} (c.path_must-got.ensures))) (s_close {e = (mem X0 T0 N0 J0 L6 H4 S6)} {x = X0} {t = T0} {n = N0} {j = J0} {l = L4} {h = H4} {s = S5} {s' = S6} {l' = L6} (c.close_node-then-k-eq-NAME.ensures) s_end)))))

pub ty_inner-returns : goal.ty_inner-returns
unfolding types.ty_inner util.end_sep plan choose chosen
ty_inner-returns t c =
    let pre0 = c.requires.0 in
    let if1 = c.if-k-eq-LCURLY.false in
    let if2 = c.if-k-eq-LROUND.false in
    let if3 = c.if-k-eq-NAME.false in
    in_steps pre0 (s_false _ _ (kind_not if1) (s_false _ _ (kind_not if2) (s_false _ _ (kind_not if3) s_end)))

pub ty_must-place-requires : goal.ty_must-place-requires
ty_must-place-requires t c =
    tt

pub ty_must-ty_prec-got-requires : goal.ty_must-ty_prec-got-requires
ty_must-ty_prec-got-requires t c =
    let pre0 = c.requires in
    (omega arith, pre0)

pub ty_must-report_error-requires : goal.ty_must-report_error-requires
ty_must-report_error-requires t c =
    let ty_prec = c.in-Err.ensures in
    let ty_prec_ok = ty_prec.ok in
    (ty_prec_ok.holds, (let few = ty_prec_ok.reads.few in let inside = ty_prec_ok.reads.inside in omega arith), omega arith)

pub ty_must-returns-in-Ok : goal.ty_must-returns-in-Ok
unfolding types.ty_must plan choose chosen
ty_must-returns-in-Ok t c =
    let pre0 = c.requires in
    let place = c.place.ensures in
    let ty_prec = rw place at c.in-Ok.ensures in
    by_steps pre0 (λ b. s_run (runs_in ty_prec) s_end)

pub ty_must-returns-in-Err : goal.ty_must-returns-in-Err
unfolding types.ty_must plan choose chosen
ty_must-returns-in-Err t c =
    let pre0 = c.requires in
    let place = c.place.ensures in
    let ty_prec = rw place at c.in-Err.ensures in
    let report_error = c.report_error.ensures in
    by_steps pre0 (λ b. s_run (runs_in ty_prec) (s_report report_error s_end))

pub ty_prec-peek-requires : goal.ty_prec-peek-requires
ty_prec-peek-requires t c =
    let pre0 = c.requires in
    pre0.reads

pub ty_prec-returns-in_default : goal.ty_prec-returns-in_default
unfolding root.body types.ty_scope plan choose chosen
ty_prec-returns-in_default t c =
    let pre0 = c.requires in
    let peek = c.in_default.ensures in
    by_steps pre0 (λ b. s_rule (s_look peek s_end))

pub ty_prec-refuse_for-requires : goal.ty_prec-refuse_for-requires
ty_prec-refuse_for-requires t c =
    tt

pub ty_prec-returns-then-left-eq0 : goal.ty_prec-returns-then-left-eq0
unfolding root.body types.ty_scope plan choose chosen hushed
ty_prec-returns-then-left-eq0 t c =
    let X0 = c.args.lent.text.now in
    let T0 = c.args.lent.toks.now in
    let N0 = c.args.lent.env.now in
    let J0 = c.args.table.now in
    let L0 = c.args.scratch.now in
    let H0 = c.args.finds.now in
    let S0 = c.args.s in
    let S3 = c.refuse_for.result in
    by_steps {m = (mem X0 T0 N0 J0 L0 H0 S0)} {m' = (mem X0 T0 N0 J0 L0 H0 S3)} (c.requires) (λ b. s_rule {a = (mem X0 T0 N0 J0 L0 H0 S0)} {e = (mem X0 T0 N0 J0 L0 H0 S3)} (s_look {a = (mem X0 T0 N0 J0 L0 H0 S0)} {e = (mem X0 T0 N0 J0 L0 H0 S3)} (c.in-Some.ensures) (s_shut (c.if-left-eq0.true) (c.refuse_for.ensures) (λ k l. refl))))

pub ty_prec-mark-requires : goal.ty_prec-mark-requires
ty_prec-mark-requires t c =
    tt

pub ty_prec-ty_head-head-requires : goal.ty_prec-ty_head-head-requires
ty_prec-ty_head-head-requires t c =
    let pre0 = c.requires in
    let mark = c.mark.ensures in
    let mark_ok = ok_marks mark pre0 in
    (omega arith, (mark_ok, small_len pre0))

pub ty_prec-ty_tail-requires : goal.ty_prec-ty_tail-requires
ty_prec-ty_tail-requires t c =
    let pre0 = c.requires in
    let ty_head = c.in-Ok.ensures in
    let ty_head_ok = ty_head.ok in
    (omega arith, (ty_head_ok, small_len pre0))

pub ty_prec-returns-in-Err : goal.ty_prec-returns-in-Err
unfolding root.body types.ty_scope plan choose chosen
ty_prec-returns-in-Err t c =
    let X0 = c.args.lent.text.now in
    let T0 = c.args.lent.toks.now in
    let N0 = c.args.lent.env.now in
    let J0 = c.args.table.now in
    let L0 = c.args.scratch.now in
    let H0 = c.args.finds.now in
    let S0 = c.args.s in
    let S3 = c.mark.result in
    let L4 = c.ty_head-head.new.scratch in
    let H4 = c.ty_head-head.new.finds in
    let S4 = c.in-Err.s2 in
    by_steps {m = (mem X0 T0 N0 J0 L0 H0 S0)} {m' = (mem X0 T0 N0 J0 L4 H4 S4)} (c.requires) (λ b. s_rule {a = (mem X0 T0 N0 J0 L0 H0 S0)} {e = (mem X0 T0 N0 J0 L4 H4 S4)} (s_look {a = (mem X0 T0 N0 J0 L0 H0 S0)} {e = (mem X0 T0 N0 J0 L4 H4 S4)} (c.in-Some.ensures) (s_mark {e = (mem X0 T0 N0 J0 L4 H4 S4)} {x = X0} {t = T0} {n = N0} {j = J0} {l = L0} {h = H0} {s = S0} {s' = S3} (c.if-left-eq0.false) (c.mark.ensures) (s_by {a = (mem X0 T0 N0 J0 L0 H0 S3)} {c = (mem X0 T0 N0 J0 L4 H4 S4)} {e = (mem X0 T0 N0 J0 L4 H4 S4)} _ (c.in-Err.ensures) s_end))))

pub ty_prec-returns-in-Ok : goal.ty_prec-returns-in-Ok
unfolding root.body types.ty_scope plan choose chosen
ty_prec-returns-in-Ok t c =
    let X0 = c.args.lent.text.now in
    let T0 = c.args.lent.toks.now in
    let N0 = c.args.lent.env.now in
    let J0 = c.args.table.now in
    let L0 = c.args.scratch.now in
    let H0 = c.args.finds.now in
    let S0 = c.args.s in
    let S3 = c.mark.result in
    let L4 = c.ty_head-head.new.scratch in
    let H4 = c.ty_head-head.new.finds in
    let S4 = c.in-Ok.s2 in
    let L5 = c.ty_tail.new.scratch in
    let H5 = c.ty_tail.new.finds in
    let S5 = c.ty_tail.result in
    by_steps {m = (mem X0 T0 N0 J0 L0 H0 S0)} {m' = (mem X0 T0 N0 J0 L5 H5 S5)} (c.requires) (λ b. s_rule {a = (mem X0 T0 N0 J0 L0 H0 S0)} {e = (mem X0 T0 N0 J0 L5 H5 S5)} (s_look {a = (mem X0 T0 N0 J0 L0 H0 S0)} {e = (mem X0 T0 N0 J0 L5 H5 S5)} (c.in-Some.ensures) (s_mark {e = (mem X0 T0 N0 J0 L5 H5 S5)} {x = X0} {t = T0} {n = N0} {j = J0} {l = L0} {h = H0} {s = S0} {s' = S3} (c.if-left-eq0.false) (c.mark.ensures) (s_by {a = (mem X0 T0 N0 J0 L0 H0 S3)} {c = (mem X0 T0 N0 J0 L4 H4 S4)} {e = (mem X0 T0 N0 J0 L5 H5 S5)} _ (c.in-Ok.ensures) (s_run {a = (mem X0 T0 N0 J0 L4 H4 S4)} {c = (mem X0 T0 N0 J0 L5 H5 S5)} {e = (mem X0 T0 N0 J0 L5 H5 S5)} (c.ty_tail.ensures) s_end)))))

pub ty_round-ty_seq-seq-requires : goal.ty_round-ty_seq-seq-requires
ty_round-ty_seq-seq-requires t c =
    let pre0 = c.requires.0 in
    (omega arith, pre0)

pub ty_round-path_must-got-requires : goal.ty_round-path_must-got-requires
ty_round-path_must-got-requires t c =
    let ty_seq = c.in-Err.ensures in
    let ty_seq_ok = ty_seq.ok in
    ty_seq_ok

pub ty_round-either-s2-requires : goal.ty_round-either-s2-requires
ty_round-either-s2-requires t c =
    tt

pub ty_round-close_node-requires : goal.ty_round-close_node-requires
ty_round-close_node-requires t c =
    let pre1 = c.requires.1 in
    let path_must = c.path_must-got.ensures in
    let path_must_ok = path_must.ok in
    let either = c.either-s2.ensures in
    let either_ok = ok_state either path_must_ok in
    (either_ok.logs, pre1)

pub ty_round-bump-s2-requires : goal.ty_round-bump-s2-requires
ty_round-bump-s2-requires t c =
    let ty_seq = c.in-Ok.ensures in
    let ty_seq_ok = ty_seq.ok in
    (ty_seq_ok.reads, ty_seq_ok.logs)

pub ty_round-close_node-requires-in-Ok : goal.ty_round-close_node-requires-in-Ok
ty_round-close_node-requires-in-Ok t c =
    let pre1 = c.requires.1 in
    let ty_seq = c.in-Ok.ensures in
    let ty_seq_ok = ty_seq.ok in
    let bump = c.bump-s2.ensures in
    let bump_ok = ok_bumps bump ty_seq_ok in
    (bump_ok.logs, pre1)

pub ty_round-returns-in-Err : goal.ty_round-returns-in-Err
unfolding types.ty_round plan choose chosen
ty_round-returns-in-Err t c =
    let X0 = c.args.lent.text.now in
    let T0 = c.args.lent.toks.now in
    let N0 = c.args.lent.env.now in
    let J0 = c.args.table.now in
    let L0 = c.args.scratch.now in
    let H0 = c.args.finds.now in
    let S0 = c.args.s in
    let L1 = c.ty_seq-seq.new.scratch in
    let H1 = c.ty_seq-seq.new.finds in
    let S1 = c.in-Err.s1 in
    let L2 = c.path_must-got.new.scratch in
    let H2 = c.path_must-got.new.finds in
    let S2 = out_state c.path_must-got.result in
    let S3 = c.either-s2.result in
    let L4 = c.close_node.new.scratch in
    let S4 = c.close_node.result in
    in_steps {m = (mem X0 T0 N0 J0 L0 H0 S0)} {m' = (mem X0 T0 N0 J0 L4 H2 S4)} (c.requires.0) (s_by {a = (mem X0 T0 N0 J0 L0 H0 S0)} {c = (mem X0 T0 N0 J0 L1 H1 S1)} {e = (mem X0 T0 N0 J0 L4 H2 S4)} _ (runs_in {a = (mem X0 T0 N0 J0 L0 H0 S0)} {c = (mem X0 T0 N0 J0 L1 H1 S1)} (c.in-Err.ensures)) (s_by {a = (mem X0 T0 N0 J0 L1 H1 S1)} {c = (mem X0 T0 N0 J0 L2 H2 S3)} {e = (mem X0 T0 N0 J0 L4 H2 S4)} _ (settled (c.either-s2.ensures) (runs_in {a = (mem X0 T0 N0 J0 L1 H1 S1)} {c = (mem X0 T0 N0 J0 L2 H2 S2)} (c.path_must-got.ensures))) (s_close {e = (mem X0 T0 N0 J0 L4 H2 S4)} {x = X0} {t = T0} {n = N0} {j = J0} {l = L2} {h = H2} {s = S3} {s' = S4} {l' = L4} (c.close_node.ensures) s_end)))

pub ty_round-returns-in-Ok : goal.ty_round-returns-in-Ok
unfolding types.ty_round plan choose chosen
ty_round-returns-in-Ok t c =
    let X0 = c.args.lent.text.now in
    let T0 = c.args.lent.toks.now in
    let N0 = c.args.lent.env.now in
    let J0 = c.args.table.now in
    let L0 = c.args.scratch.now in
    let H0 = c.args.finds.now in
    let S0 = c.args.s in
    let L1 = c.ty_seq-seq.new.scratch in
    let H1 = c.ty_seq-seq.new.finds in
    let S1 = c.in-Ok.s1 in
    let L2 = c.bump-s2.new.scratch in
    let S2 = c.bump-s2.result in
    let L3 = c.close_node-in-Ok.new.scratch in
    let S3 = c.close_node-in-Ok.result in
    in_steps {m = (mem X0 T0 N0 J0 L0 H0 S0)} {m' = (mem X0 T0 N0 J0 L3 H1 S3)} (c.requires.0) (s_by {a = (mem X0 T0 N0 J0 L0 H0 S0)} {c = (mem X0 T0 N0 J0 L1 H1 S1)} {e = (mem X0 T0 N0 J0 L3 H1 S3)} _ (runs_in {a = (mem X0 T0 N0 J0 L0 H0 S0)} {c = (mem X0 T0 N0 J0 L1 H1 S1)} (c.in-Ok.ensures)) (s_bump {e = (mem X0 T0 N0 J0 L3 H1 S3)} {x = X0} {t = T0} {n = N0} {j = J0} {l = L1} {h = H1} {s = S1} {s' = S2} {l' = L2} (c.bump-s2.ensures) (s_close {e = (mem X0 T0 N0 J0 L3 H1 S3)} {x = X0} {t = T0} {n = N0} {j = J0} {l = L2} {h = H1} {s = S2} {s' = S3} {l' = L3} (c.close_node-in-Ok.ensures) s_end)))

pub ty_row-lab-s1-requires : goal.ty_row-lab-s1-requires
ty_row-lab-s1-requires t c =
    let pre0 = c.requires in
    (pre0.reads, pre0.logs, pre0.holds)

pub ty_row-bump_ascription-s2-requires : goal.ty_row-bump_ascription-s2-requires
ty_row-bump_ascription-s2-requires t c =
    let pre0 = c.requires in
    let lab = c.lab-s1.ensures in
    let lab_ok = ok_eats lab pre0 in
    (lab_ok.reads, lab_ok.logs)

pub ty_row-ty_must-requires : goal.ty_row-ty_must-requires
ty_row-ty_must-requires t c =
    let pre0 = c.requires in
    let lab = c.lab-s1.ensures in
    let lab_ok = ok_eats lab pre0 in
    let bump_ascription = c.bump_ascription-s2.ensures in
    let bump_ascription_ok = ok_takes bump_ascription lab_ok in
    (omega arith, bump_ascription_ok)

pub ty_row-returns : goal.ty_row-returns
unfolding types.ty_row plan choose chosen
ty_row-returns t c =
    let X0 = c.args.lent.text.now in
    let T0 = c.args.lent.toks.now in
    let N0 = c.args.lent.env.now in
    let J0 = c.args.table.now in
    let L0 = c.args.scratch.now in
    let H0 = c.args.finds.now in
    let S0 = c.args.s in
    let L1 = c.lab-s1.new.scratch in
    let H1 = c.lab-s1.new.finds in
    let S1 = c.lab-s1.result in
    let L2 = c.bump_ascription-s2.new.scratch in
    let S2 = c.bump_ascription-s2.result in
    let L3 = c.ty_must.new.scratch in
    let H3 = c.ty_must.new.finds in
    let S3 = c.ty_must.result in
    by_steps {m = (mem X0 T0 N0 J0 L0 H0 S0)} {m' = (mem X0 T0 N0 J0 L3 H3 S3)} (c.requires) (λ b. s_eats _ _ {x = X0} {t = T0} {n = N0} {j = J0} {l = L0} {h = H0} {l' = L1} {s = S0} {s' = S1} {e = (mem X0 T0 N0 J0 L3 H3 S3)} _ {h' = H1} (c.lab-s1.ensures) (s_takes _ _ {x = X0} {t = T0} {n = N0} {j = J0} {l = L1} {h = H1} {l' = L2} {s = S1} {s' = S2} {e = (mem X0 T0 N0 J0 L3 H3 S3)} _ (c.bump_ascription-s2.ensures) (s_by {a = (mem X0 T0 N0 J0 L2 H1 S2)} {c = (mem X0 T0 N0 J0 L3 H3 S3)} {e = (mem X0 T0 N0 J0 L3 H3 S3)} _ (runs_in {a = (mem X0 T0 N0 J0 L2 H1 S2)} {c = (mem X0 T0 N0 J0 L3 H3 S3)} (c.ty_must.ensures)) s_end)))

pub ty_rows-loop-s2-init : goal.ty_rows-loop-s2-init
ty_rows-loop-s2-init t c =
    let pre0 = c.requires in
    loop_starts pre0

pub ty_rows-row_turn-turn-requires : goal.ty_rows-row_turn-turn-requires
ty_rows-row_turn-turn-requires t c =
    let inv = c.loop-s2.invariant.ok in
    (omega arith, inv)

pub ty_rows-loop-s2-smaller : goal.ty_rows-loop-s2-smaller
ty_rows-loop-s2-smaller t c =
    let row_turn = c.in-Ok.ensures in
    loop_falls (end_turn_advances true _ _ _ _ _ _) (runs_in {b = 0} row_turn)

pub ty_rows-loop-s2-preserved : goal.ty_rows-loop-s2-preserved
ty_rows-loop-s2-preserved t c =
    let inv = c.loop-s2.invariant in
    let row_turn = c.in-Ok.ensures in
    loop_goes (end_turn_advances true _ _ _ _ _ _) inv (runs_in row_turn)

pub ty_rows-returns-in-Err : goal.ty_rows-returns-in-Err
ty_rows-returns-in-Err t c =
    let inv = c.loop-s2.invariant in
    let row_turn = c.in-Err.ensures in
    loop_ends (end_turn_advances true _ _ _ _ _ _) inv (runs_in row_turn)

pub ty_seq-refuse_for-requires : goal.ty_seq-refuse_for-requires
ty_seq-refuse_for-requires t c =
    tt

pub ty_seq-returns-then-left-eq0 : goal.ty_seq-returns-then-left-eq0
unfolding types.ty_seq util.end_sep plan choose chosen hushed
ty_seq-returns-then-left-eq0 t c =
    let X0 = c.args.lent.text.now in
    let T0 = c.args.lent.toks.now in
    let N0 = c.args.lent.env.now in
    let J0 = c.args.table.now in
    let L0 = c.args.scratch.now in
    let H0 = c.args.finds.now in
    let S0 = c.args.s in
    let S2 = c.refuse_for.result in
    by_steps {m = (mem X0 T0 N0 J0 L0 H0 S0)} {m' = (mem X0 T0 N0 J0 L0 H0 S2)} (c.requires) (λ b. s_shut (c.if-left-eq0.true) (c.refuse_for.ensures) (λ k l. refl))

pub ty_seq-mark-s1-requires : goal.ty_seq-mark-s1-requires
ty_seq-mark-s1-requires t c =
    tt

pub ty_seq-bump-s2-requires : goal.ty_seq-bump-s2-requires
ty_seq-bump-s2-requires t c =
    let pre0 = c.requires in
    let mark = c.mark-s1.ensures in
    let mark_ok = ok_marks mark pre0 in
    (mark_ok.reads, mark_ok.logs)

pub ty_seq-ty_arg-arg-requires : goal.ty_seq-ty_arg-arg-requires
ty_seq-ty_arg-arg-requires t c =
    let pre0 = c.requires in
    let mark = c.mark-s1.ensures in
    let mark_ok = ok_marks mark pre0 in
    let bump = c.bump-s2.ensures in
    let bump_ok = ok_bumps bump mark_ok in
    (omega arith, bump_ok)

pub ty_seq-ty_args-s4-requires : goal.ty_seq-ty_args-s4-requires
ty_seq-ty_args-s4-requires t c =
    let ty_arg = c.in-Err.ensures in
    let ty_arg_ok = ty_arg.ok in
    (omega arith, ty_arg_ok)

pub ty_seq-close_node-requires : goal.ty_seq-close_node-requires
ty_seq-close_node-requires t c =
    let pre0 = c.requires in
    let mark = c.mark-s1.ensures in
    let mark_ok = ok_marks mark pre0 in
    let ty_args = c.ty_args-s4.ensures in
    let ty_args_ok = ty_args.ok in
    (ty_args_ok.logs, small_len mark_ok)

pub ty_seq-returns-in-Err : goal.ty_seq-returns-in-Err
unfolding types.ty_seq util.end_sep plan choose chosen
ty_seq-returns-in-Err t c =
    let X0 = c.args.lent.text.now in
    let T0 = c.args.lent.toks.now in
    let N0 = c.args.lent.env.now in
    let J0 = c.args.table.now in
    let L0 = c.args.scratch.now in
    let H0 = c.args.finds.now in
    let S0 = c.args.s in
    let S2 = c.mark-s1.result in
    let L3 = c.bump-s2.new.scratch in
    let S3 = c.bump-s2.result in
    let L4 = c.ty_arg-arg.new.scratch in
    let H4 = c.ty_arg-arg.new.finds in
    let S4 = c.in-Err.s3 in
    let L5 = c.ty_args-s4.new.scratch in
    let H5 = c.ty_args-s4.new.finds in
    let S5 = c.ty_args-s4.result in
    let L6 = c.close_node.new.scratch in
    let S6 = c.close_node.result in
    by_steps {m = (mem X0 T0 N0 J0 L0 H0 S0)} {m' = (mem X0 T0 N0 J0 L6 H5 S6)} (c.requires) (λ b. s_mark {e = (mem X0 T0 N0 J0 L6 H5 S6)} {x = X0} {t = T0} {n = N0} {j = J0} {l = L0} {h = H0} {s = S0} {s' = S2} (c.if-left-eq0.false) (c.mark-s1.ensures) (s_bump {e = (mem X0 T0 N0 J0 L6 H5 S6)} {x = X0} {t = T0} {n = N0} {j = J0} {l = L0} {h = H0} {s = S2} {s' = S3} {l' = L3} (c.bump-s2.ensures) (s_by {a = (mem X0 T0 N0 J0 L3 H0 S3)} {c = (mem X0 T0 N0 J0 L4 H4 S4)} {e = (mem X0 T0 N0 J0 L6 H5 S6)} _ (runs_in {a = (mem X0 T0 N0 J0 L3 H0 S3)} {c = (mem X0 T0 N0 J0 L4 H4 S4)} (c.in-Err.ensures)) (s_run {a = (mem X0 T0 N0 J0 L4 H4 S4)} {c = (mem X0 T0 N0 J0 L5 H5 S5)} {e = (mem X0 T0 N0 J0 L6 H5 S6)} (c.ty_args-s4.ensures) (s_close {e = (mem X0 T0 N0 J0 L6 H5 S6)} {x = X0} {t = T0} {n = N0} {j = J0} {l = L5} {h = H5} {s = S5} {s' = S6} {l' = L6} (c.close_node.ensures) s_end)))))

pub ty_seq-returns-in-Ok : goal.ty_seq-returns-in-Ok
unfolding types.ty_seq util.end_sep plan choose chosen
ty_seq-returns-in-Ok t c =
    let X0 = c.args.lent.text.now in
    let T0 = c.args.lent.toks.now in
    let N0 = c.args.lent.env.now in
    let J0 = c.args.table.now in
    let L0 = c.args.scratch.now in
    let H0 = c.args.finds.now in
    let S0 = c.args.s in
    let S2 = c.mark-s1.result in
    let L3 = c.bump-s2.new.scratch in
    let S3 = c.bump-s2.result in
    let L4 = c.ty_arg-arg.new.scratch in
    let H4 = c.ty_arg-arg.new.finds in
    let S4 = c.in-Ok.s3 in
    by_steps {m = (mem X0 T0 N0 J0 L0 H0 S0)} {m' = (mem X0 T0 N0 J0 L4 H4 S4)} (c.requires) (λ b. s_mark {e = (mem X0 T0 N0 J0 L4 H4 S4)} {x = X0} {t = T0} {n = N0} {j = J0} {l = L0} {h = H0} {s = S0} {s' = S2} (c.if-left-eq0.false) (c.mark-s1.ensures) (s_bump {e = (mem X0 T0 N0 J0 L4 H4 S4)} {x = X0} {t = T0} {n = N0} {j = J0} {l = L0} {h = H0} {s = S2} {s' = S3} {l' = L3} (c.bump-s2.ensures) (s_by {a = (mem X0 T0 N0 J0 L3 H0 S3)} {c = (mem X0 T0 N0 J0 L4 H4 S4)} {e = (mem X0 T0 N0 J0 L4 H4 S4)} _ (runs_in {a = (mem X0 T0 N0 J0 L3 H0 S3)} {c = (mem X0 T0 N0 J0 L4 H4 S4)} (c.in-Ok.ensures)) s_end)))

pub ty_step-peek-requires : goal.ty_step-peek-requires
ty_step-peek-requires t c =
    let pre0 = c.requires.0 in
    pre0.reads

pub ty_step-returns-in_default : goal.ty_step-returns-in_default
unfolding types.ty_step plan choose chosen
ty_step-returns-in_default t c =
    let pre0 = c.requires.0 in
    let peek = c.in_default.ensures in
    in_steps pre0 (s_look peek s_end)

pub ty_step-ends-requires : goal.ty_step-ends-requires
ty_step-ends-requires t c =
    tt

pub ty_step-returns-then-ends : goal.ty_step-returns-then-ends
unfolding types.ty_step plan choose chosen
ty_step-returns-then-ends t c =
    let X0 = c.args.lent.text.now in
    let T0 = c.args.lent.toks.now in
    let N0 = c.args.lent.env.now in
    let J0 = c.args.table.now in
    let L0 = c.args.scratch.now in
    let H0 = c.args.finds.now in
    let S0 = c.args.s in
    in_steps {m = (mem X0 T0 N0 J0 L0 H0 S0)} {m' = (mem X0 T0 N0 J0 L0 H0 S0)} (c.requires.0) (s_look {a = (mem X0 T0 N0 J0 L0 H0 S0)} {e = (mem X0 T0 N0 J0 L0 H0 S0)} (c.in-Some.ensures) (s_true {a = (mem X0 T0 N0 J0 L0 H0 S0)} {e = (mem X0 T0 N0 J0 L0 H0 S0)} _ _ (kind_is (c.if-k-eq-MINUS_GT.true)) (s_true {a = (mem X0 T0 N0 J0 L0 H0 S0)} {e = (mem X0 T0 N0 J0 L0 H0 S0)} _ _ (test_true (c.ends.ensures) (c.if-ends.true)) s_end)))

pub ty_step-ty_arrow-requires : goal.ty_step-ty_arrow-requires
ty_step-ty_arrow-requires t c =
    let pre0 = c.requires.0 in
    let pre1 = c.requires.1 in
    (omega arith, (pre0, pre1))

pub ty_step-returns-then-k-eq-MINUS_GT : goal.ty_step-returns-then-k-eq-MINUS_GT
unfolding types.ty_step plan choose chosen
ty_step-returns-then-k-eq-MINUS_GT t c =
    let X0 = c.args.lent.text.now in
    let T0 = c.args.lent.toks.now in
    let N0 = c.args.lent.env.now in
    let J0 = c.args.table.now in
    let L0 = c.args.scratch.now in
    let H0 = c.args.finds.now in
    let S0 = c.args.s in
    let L5 = c.ty_arrow.new.scratch in
    let H5 = c.ty_arrow.new.finds in
    let S5 = c.ty_arrow.result in
    in_steps {m = (mem X0 T0 N0 J0 L0 H0 S0)} {m' = (mem X0 T0 N0 J0 L5 H5 S5)} (c.requires.0) (s_look {a = (mem X0 T0 N0 J0 L0 H0 S0)} {e = (mem X0 T0 N0 J0 L5 H5 S5)} (c.in-Some.ensures) (s_true {a = (mem X0 T0 N0 J0 L0 H0 S0)} {e = (mem X0 T0 N0 J0 L5 H5 S5)} _ _ (kind_is (c.if-k-eq-MINUS_GT.true)) (s_false {a = (mem X0 T0 N0 J0 L0 H0 S0)} {e = (mem X0 T0 N0 J0 L5 H5 S5)} _ _ (test_false (c.ends.ensures) (c.if-ends.false)) (s_by {a = (mem X0 T0 N0 J0 L0 H0 S0)} {c = (mem X0 T0 N0 J0 L5 H5 S5)} {e = (mem X0 T0 N0 J0 L5 H5 S5)} _ (c.ty_arrow.ensures) s_end))))

pub ty_step-ends-requires-then-k-eq-STAR : goal.ty_step-ends-requires-then-k-eq-STAR
ty_step-ends-requires-then-k-eq-STAR t c =
    tt

pub ty_step-returns-then-ends-2 : goal.ty_step-returns-then-ends-2
unfolding types.ty_step plan choose chosen
ty_step-returns-then-ends-2 t c =
    let X0 = c.args.lent.text.now in
    let T0 = c.args.lent.toks.now in
    let N0 = c.args.lent.env.now in
    let J0 = c.args.table.now in
    let L0 = c.args.scratch.now in
    let H0 = c.args.finds.now in
    let S0 = c.args.s in
    in_steps {m = (mem X0 T0 N0 J0 L0 H0 S0)} {m' = (mem X0 T0 N0 J0 L0 H0 S0)} (c.requires.0) (s_look {a = (mem X0 T0 N0 J0 L0 H0 S0)} {e = (mem X0 T0 N0 J0 L0 H0 S0)} (c.in-Some.ensures) (s_false {a = (mem X0 T0 N0 J0 L0 H0 S0)} {e = (mem X0 T0 N0 J0 L0 H0 S0)} _ _ (kind_not (c.if-k-eq-MINUS_GT.false)) (s_true {a = (mem X0 T0 N0 J0 L0 H0 S0)} {e = (mem X0 T0 N0 J0 L0 H0 S0)} _ _ (kind_is (c.if-k-eq-STAR.true)) (s_true {a = (mem X0 T0 N0 J0 L0 H0 S0)} {e = (mem X0 T0 N0 J0 L0 H0 S0)} _ _ (test_true (c.ends-then-k-eq-STAR.ensures) (c.if-ends-2.true)) s_end))))

pub ty_step-ty_tuple-requires : goal.ty_step-ty_tuple-requires
ty_step-ty_tuple-requires t c =
    let pre0 = c.requires.0 in
    let pre1 = c.requires.1 in
    (omega arith, (pre0, pre1))

pub ty_step-returns-then-k-eq-STAR : goal.ty_step-returns-then-k-eq-STAR
unfolding types.ty_step plan choose chosen
ty_step-returns-then-k-eq-STAR t c =
    let X0 = c.args.lent.text.now in
    let T0 = c.args.lent.toks.now in
    let N0 = c.args.lent.env.now in
    let J0 = c.args.table.now in
    let L0 = c.args.scratch.now in
    let H0 = c.args.finds.now in
    let S0 = c.args.s in
    let L6 = c.ty_tuple.new.scratch in
    let H6 = c.ty_tuple.new.finds in
    let S6 = c.ty_tuple.result in
    in_steps {m = (mem X0 T0 N0 J0 L0 H0 S0)} {m' = (mem X0 T0 N0 J0 L6 H6 S6)} (c.requires.0) (s_look {a = (mem X0 T0 N0 J0 L0 H0 S0)} {e = (mem X0 T0 N0 J0 L6 H6 S6)} (c.in-Some.ensures) (s_false {a = (mem X0 T0 N0 J0 L0 H0 S0)} {e = (mem X0 T0 N0 J0 L6 H6 S6)} _ _ (kind_not (c.if-k-eq-MINUS_GT.false)) (s_true {a = (mem X0 T0 N0 J0 L0 H0 S0)} {e = (mem X0 T0 N0 J0 L6 H6 S6)} _ _ (kind_is (c.if-k-eq-STAR.true)) (s_false {a = (mem X0 T0 N0 J0 L0 H0 S0)} {e = (mem X0 T0 N0 J0 L6 H6 S6)} _ _ (test_false (c.ends-then-k-eq-STAR.ensures) (c.if-ends-2.false)) (s_by {a = (mem X0 T0 N0 J0 L0 H0 S0)} {c = (mem X0 T0 N0 J0 L6 H6 S6)} {e = (mem X0 T0 N0 J0 L6 H6 S6)} _ (c.ty_tuple.ensures) s_end)))))

pub ty_step-ty_con-requires : goal.ty_step-ty_con-requires
ty_step-ty_con-requires t c =
    let pre0 = c.requires.0 in
    let pre1 = c.requires.1 in
    (pre0, pre1)

pub ty_step-returns-then-k-eq-NAME : goal.ty_step-returns-then-k-eq-NAME
unfolding types.ty_step plan choose chosen
ty_step-returns-then-k-eq-NAME t c =
    let X0 = c.args.lent.text.now in
    let T0 = c.args.lent.toks.now in
    let N0 = c.args.lent.env.now in
    let J0 = c.args.table.now in
    let L0 = c.args.scratch.now in
    let H0 = c.args.finds.now in
    let S0 = c.args.s in
    let L5 = c.ty_con.new.scratch in
    let H5 = c.ty_con.new.finds in
    let S5 = c.ty_con.result in
    in_steps {m = (mem X0 T0 N0 J0 L0 H0 S0)} {m' = (mem X0 T0 N0 J0 L5 H5 S5)} (c.requires.0) (s_look {a = (mem X0 T0 N0 J0 L0 H0 S0)} {e = (mem X0 T0 N0 J0 L5 H5 S5)} (c.in-Some.ensures) (s_false {a = (mem X0 T0 N0 J0 L0 H0 S0)} {e = (mem X0 T0 N0 J0 L5 H5 S5)} _ _ (kind_not (c.if-k-eq-MINUS_GT.false)) (s_false {a = (mem X0 T0 N0 J0 L0 H0 S0)} {e = (mem X0 T0 N0 J0 L5 H5 S5)} _ _ (kind_not (c.if-k-eq-STAR.false)) (s_true {a = (mem X0 T0 N0 J0 L0 H0 S0)} {e = (mem X0 T0 N0 J0 L5 H5 S5)} _ _ (kind_is (c.if-k-eq-NAME.true)) (s_by {a = (mem X0 T0 N0 J0 L0 H0 S0)} {c = (mem X0 T0 N0 J0 L5 H5 S5)} {e = (mem X0 T0 N0 J0 L5 H5 S5)} _ (c.ty_con.ensures) s_end)))))

pub ty_step-returns : goal.ty_step-returns
unfolding types.ty_step plan choose chosen
ty_step-returns t c =
    let X0 = c.args.lent.text.now in
    let T0 = c.args.lent.toks.now in
    let N0 = c.args.lent.env.now in
    let J0 = c.args.table.now in
    let L0 = c.args.scratch.now in
    let H0 = c.args.finds.now in
    let S0 = c.args.s in
    in_steps {m = (mem X0 T0 N0 J0 L0 H0 S0)} {m' = (mem X0 T0 N0 J0 L0 H0 S0)} (c.requires.0) (s_look {a = (mem X0 T0 N0 J0 L0 H0 S0)} {e = (mem X0 T0 N0 J0 L0 H0 S0)} (c.in-Some.ensures) (s_false {a = (mem X0 T0 N0 J0 L0 H0 S0)} {e = (mem X0 T0 N0 J0 L0 H0 S0)} _ _ (kind_not (c.if-k-eq-MINUS_GT.false)) (s_false {a = (mem X0 T0 N0 J0 L0 H0 S0)} {e = (mem X0 T0 N0 J0 L0 H0 S0)} _ _ (kind_not (c.if-k-eq-STAR.false)) (s_false {a = (mem X0 T0 N0 J0 L0 H0 S0)} {e = (mem X0 T0 N0 J0 L0 H0 S0)} _ _ (kind_not (c.if-k-eq-NAME.false)) s_end))))

pub ty_tail-loop-s2-init : goal.ty_tail-loop-s2-init
ty_tail-loop-s2-init t c =
    let pre0 = c.requires.0 in
    let pre1 = c.requires.1 in
    loop_starts pre0

pub ty_tail-ty_step-step-requires : goal.ty_tail-ty_step-step-requires
ty_tail-ty_step-step-requires t c =
    let pre1 = c.requires.1 in
    let inv = c.loop-s2.invariant.ok in
    (omega arith, (inv, pre1))

pub ty_tail-loop-s2-smaller : goal.ty_tail-loop-s2-smaller
ty_tail-loop-s2-smaller t c =
    let ty_step = c.in-Ok.ensures in
    loop_falls (ty_step_advances _ _ _) ty_step

pub ty_tail-loop-s2-preserved : goal.ty_tail-loop-s2-preserved
ty_tail-loop-s2-preserved t c =
    let inv = c.loop-s2.invariant in
    let ty_step = c.in-Ok.ensures in
    loop_goes (ty_step_advances _ _ _) inv ty_step

pub ty_tail-returns-in-Err : goal.ty_tail-returns-in-Err
ty_tail-returns-in-Err t c =
    let inv = c.loop-s2.invariant in
    let ty_step = c.in-Err.ensures in
    loop_ends (ty_step_advances _ _ _) inv ty_step

pub ty_tuple-refuse_for-requires : goal.ty_tuple-refuse_for-requires
ty_tuple-refuse_for-requires t c =
    tt

pub ty_tuple-returns-then-left-eq0 : goal.ty_tuple-returns-then-left-eq0
unfolding types.ty_tuple plan choose chosen hushed
ty_tuple-returns-then-left-eq0 t c =
    let X0 = c.args.lent.text.now in
    let T0 = c.args.lent.toks.now in
    let N0 = c.args.lent.env.now in
    let J0 = c.args.table.now in
    let L0 = c.args.scratch.now in
    let H0 = c.args.finds.now in
    let S0 = c.args.s in
    let S2 = c.refuse_for.result in
    in_steps {m = (mem X0 T0 N0 J0 L0 H0 S0)} {m' = (mem X0 T0 N0 J0 L0 H0 S2)} (c.requires.0) (s_shut (c.if-left-eq0.true) (c.refuse_for.ensures) (λ k l. refl))

pub ty_tuple-mark-requires : goal.ty_tuple-mark-requires
ty_tuple-mark-requires t c =
    tt

pub ty_tuple-star_tail-s1-requires : goal.ty_tuple-star_tail-s1-requires
ty_tuple-star_tail-s1-requires t c =
    let pre0 = c.requires.0 in
    let mark = c.mark.ensures in
    let mark_ok = ok_marks mark pre0 in
    (omega arith, mark_ok)

pub ty_tuple-close_node-requires : goal.ty_tuple-close_node-requires
ty_tuple-close_node-requires t c =
    let pre1 = c.requires.1 in
    let star_tail = c.star_tail-s1.ensures in
    let star_tail_ok = star_tail.ok in
    (star_tail_ok.logs, pre1)

pub ty_tuple-returns : goal.ty_tuple-returns
unfolding types.ty_tuple plan choose chosen
ty_tuple-returns t c =
    let X0 = c.args.lent.text.now in
    let T0 = c.args.lent.toks.now in
    let N0 = c.args.lent.env.now in
    let J0 = c.args.table.now in
    let L0 = c.args.scratch.now in
    let H0 = c.args.finds.now in
    let S0 = c.args.s in
    let S2 = c.mark.result in
    let L3 = c.star_tail-s1.new.scratch in
    let H3 = c.star_tail-s1.new.finds in
    let S3 = c.star_tail-s1.result in
    let L4 = c.close_node.new.scratch in
    let S4 = c.close_node.result in
    in_steps {m = (mem X0 T0 N0 J0 L0 H0 S0)} {m' = (mem X0 T0 N0 J0 L4 H3 S4)} (c.requires.0) (s_mark {e = (mem X0 T0 N0 J0 L4 H3 S4)} {x = X0} {t = T0} {n = N0} {j = J0} {l = L0} {h = H0} {s = S0} {s' = S2} (c.if-left-eq0.false) (c.mark.ensures) (s_run {a = (mem X0 T0 N0 J0 L0 H0 S2)} {c = (mem X0 T0 N0 J0 L3 H3 S3)} {e = (mem X0 T0 N0 J0 L4 H3 S4)} (c.star_tail-s1.ensures) (s_close {e = (mem X0 T0 N0 J0 L4 H3 S4)} {x = X0} {t = T0} {n = N0} {j = J0} {l = L3} {h = H3} {s = S3} {s' = S4} {l' = L4} (c.close_node.ensures) s_end)))
