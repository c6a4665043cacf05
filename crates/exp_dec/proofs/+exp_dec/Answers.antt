-- by tools/prove
use Rattle.grammar.specs.Util as util
use Rattle.grammar.specs.Exp as expr
use Rattle.grammar.specs.Dec as decl
use Rattle.grammar.specs.Root as root
use Rattle.parser.specs.Nodes.{node_number}
use Rattle.laws.specs.Progress.{many_turn_advances, end_turn_advances, semi_turn_advances, exp_step_advances, str_step_advances, sig_exp_advances}
use Rattle.parser.specs.View.{mem, err_of, out_state}
use Rattle.parser.specs.Runs.{runs_in, runs_always, kind_at, kind_off, kind_is, kind_not, test_true, test_false, ok_bumps, ok_adds, ok_marks, ok_eats, ok_takes, ok_refused, ok_state, small_len, loop_starts, loop_goes, loop_falls, loop_ends}
use Rattle.parser.specs.Plans.{plan, choose, chosen, in_steps, by_steps, s_rule, s_look, s_kind, s_fixed, s_true, s_false, s_bump, s_close, s_report, s_mark, s_deep, s_shut, hushed, s_by, s_eats, s_takes, s_run, settled, eats_settled, s_end, s_second}
use Rattle.parser.specs.Backs.{s_scoped, ok_back}
use Rattle.parser.specs.Others.{other_node}
use native.Mathlib.Omega.{arith}
use mathlib.Core.Path.{refl}
use mathlib.Core.Path.{sym}
use mathlib.Core.Bool.{true}
use Rattle.exp_dec.proofs.+exp_dec.Goals as goal

pub app-refuse_for-requires : goal.app-refuse_for-requires
app-refuse_for-requires t c =
    tt

pub app-returns-then-left-eq0 : goal.app-returns-then-left-eq0
unfolding expr.app_exp plan choose chosen hushed
app-returns-then-left-eq0 t c =
    let X0 = c.args.lent.text.now in
    let T0 = c.args.lent.toks.now in
    let N0 = c.args.lent.env.now in
    let J0 = c.args.table.now in
    let L0 = c.args.scratch.now in
    let H0 = c.args.finds.now in
    let S0 = c.args.s in
    let S2 = c.refuse_for.result in
    in_steps {m = (mem X0 T0 N0 J0 L0 H0 S0)} {m' = (mem X0 T0 N0 J0 L0 H0 S2)} (c.requires.0) (s_shut (c.if-left-eq0.true) (c.refuse_for.ensures) (λ k l. refl))

pub app-mark-s1-requires : goal.app-mark-s1-requires
app-mark-s1-requires t c =
    tt

pub app-arg-s2-requires : goal.app-arg-s2-requires
app-arg-s2-requires t c =
    let pre0 = c.requires.0 in
    let mark = c.mark-s1.ensures in
    let mark_ok = ok_marks mark pre0 in
    (omega arith, mark_ok)

pub app-close_node-requires : goal.app-close_node-requires
app-close_node-requires t c =
    let pre1 = c.requires.1 in
    let arg = c.arg-s2.ensures in
    let arg_ok = arg.ok in
    (arg_ok.logs, pre1)

pub app-returns : goal.app-returns
unfolding expr.app_exp plan choose chosen
app-returns t c =
    let X0 = c.args.lent.text.now in
    let T0 = c.args.lent.toks.now in
    let N0 = c.args.lent.env.now in
    let J0 = c.args.table.now in
    let L0 = c.args.scratch.now in
    let H0 = c.args.finds.now in
    let S0 = c.args.s in
    let S2 = c.mark-s1.result in
    let J3 = c.arg-s2.new.table in
    let L3 = c.arg-s2.new.scratch in
    let H3 = c.arg-s2.new.finds in
    let S3 = c.arg-s2.result in
    let L4 = c.close_node.new.scratch in
    let S4 = c.close_node.result in
    in_steps {m = (mem X0 T0 N0 J0 L0 H0 S0)} {m' = (mem X0 T0 N0 J3 L4 H3 S4)} (c.requires.0) (s_mark {e = (mem X0 T0 N0 J3 L4 H3 S4)} {x = X0} {t = T0} {n = N0} {j = J0} {l = L0} {h = H0} {s = S0} {s' = S2} (c.if-left-eq0.false) (c.mark-s1.ensures) (s_by {a = (mem X0 T0 N0 J0 L0 H0 S2)} {c = (mem X0 T0 N0 J3 L3 H3 S3)} {e = (mem X0 T0 N0 J3 L4 H3 S4)} _ (runs_in {a = (mem X0 T0 N0 J0 L0 H0 S2)} {c = (mem X0 T0 N0 J3 L3 H3 S3)} (c.arg-s2.ensures)) (s_close {e = (mem X0 T0 N0 J3 L4 H3 S4)} {x = X0} {t = T0} {n = N0} {j = J3} {l = L3} {h = H3} {s = S3} {s' = S4} {l' = L4} (c.close_node.ensures) s_end)))

pub arg-peek-requires : goal.arg-peek-requires
arg-peek-requires t c =
    let pre0 = c.requires in
    pre0.reads

pub arg-report_error-requires : goal.arg-report_error-requires
arg-report_error-requires t c =
    let pre0 = c.requires in
    (pre0.holds, (let few = pre0.reads.few in let inside = pre0.reads.inside in omega arith), omega arith)

pub arg-returns-in_default : goal.arg-returns-in_default
unfolding expr.at_exp_must expr.at_exp plan choose chosen
arg-returns-in_default t c =
    let pre0 = c.requires in
    let peek = c.in_default.ensures in
    let report_error = c.report_error.ensures in
    by_steps pre0 (λ b. s_look peek (s_report report_error s_end))

pub arg-refuse_for-requires : goal.arg-refuse_for-requires
arg-refuse_for-requires t c =
    tt

pub arg-returns-then-left-eq0 : goal.arg-returns-then-left-eq0
unfolding expr.at_exp_must expr.at_exp plan choose chosen hushed
arg-returns-then-left-eq0 t c =
    let X0 = c.args.lent.text.now in
    let T0 = c.args.lent.toks.now in
    let N0 = c.args.lent.env.now in
    let J0 = c.args.table.now in
    let L0 = c.args.scratch.now in
    let H0 = c.args.finds.now in
    let S0 = c.args.s in
    let S3 = c.refuse_for.result in
    by_steps {m = (mem X0 T0 N0 J0 L0 H0 S0)} {m' = (mem X0 T0 N0 J0 L0 H0 S3)} (c.requires) (λ b. s_look {a = (mem X0 T0 N0 J0 L0 H0 S0)} {e = (mem X0 T0 N0 J0 L0 H0 S3)} (c.in-Some.ensures) (s_shut (c.if-left-eq0.true) (c.refuse_for.ensures) (λ k l. refl)))

pub arg-mark-s1-requires : goal.arg-mark-s1-requires
arg-mark-s1-requires t c =
    tt

pub arg-atm-got-requires : goal.arg-atm-got-requires
arg-atm-got-requires t c =
    let pre0 = c.requires in
    let mark = c.mark-s1.ensures in
    let mark_ok = ok_marks mark pre0 in
    (omega arith, (mark_ok, small_len mark_ok))

pub arg-report_error-requires-in-Err : goal.arg-report_error-requires-in-Err
arg-report_error-requires-in-Err t c =
    let atm = c.in-Err.ensures in
    let atm_ok = atm.ok in
    (atm_ok.holds, (let few = atm_ok.reads.few in let inside = atm_ok.reads.inside in omega arith), omega arith)

pub arg-returns-in-Ok : goal.arg-returns-in-Ok
unfolding expr.at_exp_must expr.at_exp plan choose chosen
arg-returns-in-Ok t c =
    let X0 = c.args.lent.text.now in
    let T0 = c.args.lent.toks.now in
    let N0 = c.args.lent.env.now in
    let J0 = c.args.table.now in
    let L0 = c.args.scratch.now in
    let H0 = c.args.finds.now in
    let S0 = c.args.s in
    let S3 = c.mark-s1.result in
    let J4 = c.atm-got.new.table in
    let L4 = c.atm-got.new.scratch in
    let H4 = c.atm-got.new.finds in
    let S4 = c.in-Ok.s2 in
    by_steps {m = (mem X0 T0 N0 J0 L0 H0 S0)} {m' = (mem X0 T0 N0 J4 L4 H4 S4)} (c.requires) (λ b. s_look {a = (mem X0 T0 N0 J0 L0 H0 S0)} {e = (mem X0 T0 N0 J4 L4 H4 S4)} (c.in-Some.ensures) (s_mark {e = (mem X0 T0 N0 J4 L4 H4 S4)} {x = X0} {t = T0} {n = N0} {j = J0} {l = L0} {h = H0} {s = S0} {s' = S3} (c.if-left-eq0.false) (c.mark-s1.ensures) (s_by {a = (mem X0 T0 N0 J0 L0 H0 S3)} {c = (mem X0 T0 N0 J4 L4 H4 S4)} {e = (mem X0 T0 N0 J4 L4 H4 S4)} _ (c.in-Ok.ensures) s_end)))

pub arg-returns-in-Err : goal.arg-returns-in-Err
unfolding expr.at_exp_must expr.at_exp plan choose chosen
arg-returns-in-Err t c =
    let X0 = c.args.lent.text.now in
    let T0 = c.args.lent.toks.now in
    let N0 = c.args.lent.env.now in
    let J0 = c.args.table.now in
    let L0 = c.args.scratch.now in
    let H0 = c.args.finds.now in
    let S0 = c.args.s in
    let S3 = c.mark-s1.result in
    let J4 = c.atm-got.new.table in
    let L4 = c.atm-got.new.scratch in
    let H4 = c.atm-got.new.finds in
    let S4 = c.in-Err.s2 in
    let H5 = c.report_error-in-Err.new.finds in
    let S5 = c.report_error-in-Err.result in
    by_steps {m = (mem X0 T0 N0 J0 L0 H0 S0)} {m' = (mem X0 T0 N0 J4 L4 H5 S5)} (c.requires) (λ b. s_look {a = (mem X0 T0 N0 J0 L0 H0 S0)} {e = (mem X0 T0 N0 J4 L4 H5 S5)} (c.in-Some.ensures) (s_mark {e = (mem X0 T0 N0 J4 L4 H5 S5)} {x = X0} {t = T0} {n = N0} {j = J0} {l = L0} {h = H0} {s = S0} {s' = S3} (c.if-left-eq0.false) (c.mark-s1.ensures) (s_by {a = (mem X0 T0 N0 J0 L0 H0 S3)} {c = (mem X0 T0 N0 J4 L4 H4 S4)} {e = (mem X0 T0 N0 J4 L4 H5 S5)} _ (c.in-Err.ensures) (s_report {e = (mem X0 T0 N0 J4 L4 H5 S5)} {x = X0} {t = T0} {n = N0} {j = J4} {l = L4} {h = H4} {s = S4} {s' = S5} {h' = H5} (c.report_error-in-Err.ensures) s_end))))

pub arm-pat_prec-got-requires : goal.arm-pat_prec-got-requires
arm-pat_prec-got-requires t c =
    let pre0 = c.requires in
    pre0

pub arm-report_error-s2-requires : goal.arm-report_error-s2-requires
arm-report_error-s2-requires t c =
    let pat_prec = c.in-Err.ensures in
    let pat_prec_ok = pat_prec.ok in
    (pat_prec_ok.holds, (let few = pat_prec_ok.reads.few in let inside = pat_prec_ok.reads.inside in omega arith), omega arith)

pub arm-we-s2-requires : goal.arm-we-s2-requires
arm-we-s2-requires t c =
    let pat_prec = c.in-Ok.ensures in
    let pat_prec_ok = pat_prec.ok in
    (omega arith, (pat_prec_ok, omega arith))

pub arm-returns-in-Err : goal.arm-returns-in-Err
unfolding expr.arm plan choose chosen
arm-returns-in-Err t c =
    let X0 = c.args.lent.text.now in
    let T0 = c.args.lent.toks.now in
    let N0 = c.args.lent.env.now in
    let J0 = c.args.table.now in
    let L0 = c.args.scratch.now in
    let H0 = c.args.finds.now in
    let S0 = c.args.s in
    let L1 = c.pat_prec-got.new.scratch in
    let H1 = c.pat_prec-got.new.finds in
    let S1 = c.in-Err.s1 in
    let H2 = c.report_error-s2.new.finds in
    let S2 = c.report_error-s2.result in
    by_steps {m = (mem X0 T0 N0 J0 L0 H0 S0)} {m' = (mem X0 T0 N0 J0 L1 H2 S2)} (c.requires) (λ b. s_run {a = (mem X0 T0 N0 J0 L0 H0 S0)} {c = (mem X0 T0 N0 J0 L1 H1 S1)} {e = (mem X0 T0 N0 J0 L1 H2 S2)} (runs_in {a = (mem X0 T0 N0 J0 L0 H0 S0)} {c = (mem X0 T0 N0 J0 L1 H1 S1)} (c.in-Err.ensures)) (s_report {e = (mem X0 T0 N0 J0 L1 H2 S2)} {x = X0} {t = T0} {n = N0} {j = J0} {l = L1} {h = H1} {s = S1} {s' = S2} {h' = H2} (c.report_error-s2.ensures) s_end))

pub arm-returns-in-Ok : goal.arm-returns-in-Ok
unfolding expr.arm plan choose chosen
arm-returns-in-Ok t c =
    let X0 = c.args.lent.text.now in
    let T0 = c.args.lent.toks.now in
    let N0 = c.args.lent.env.now in
    let J0 = c.args.table.now in
    let L0 = c.args.scratch.now in
    let H0 = c.args.finds.now in
    let S0 = c.args.s in
    let L1 = c.pat_prec-got.new.scratch in
    let H1 = c.pat_prec-got.new.finds in
    let S1 = c.in-Ok.s1 in
    let J2 = c.we-s2.new.table in
    let L2 = c.we-s2.new.scratch in
    let H2 = c.we-s2.new.finds in
    let S2 = c.we-s2.result in
    by_steps {m = (mem X0 T0 N0 J0 L0 H0 S0)} {m' = (mem X0 T0 N0 J2 L2 H2 S2)} (c.requires) (λ b. s_run {a = (mem X0 T0 N0 J0 L0 H0 S0)} {c = (mem X0 T0 N0 J0 L1 H1 S1)} {e = (mem X0 T0 N0 J2 L2 H2 S2)} (runs_in {a = (mem X0 T0 N0 J0 L0 H0 S0)} {c = (mem X0 T0 N0 J0 L1 H1 S1)} (c.in-Ok.ensures)) (s_by {a = (mem X0 T0 N0 J0 L1 H1 S1)} {c = (mem X0 T0 N0 J2 L2 H2 S2)} {e = (mem X0 T0 N0 J2 L2 H2 S2)} _ (runs_in {a = (mem X0 T0 N0 J0 L1 H1 S1)} {c = (mem X0 T0 N0 J2 L2 H2 S2)} (c.we-s2.ensures)) s_end))

pub asc-refuse_for-requires : goal.asc-refuse_for-requires
asc-refuse_for-requires t c =
    tt

pub asc-returns-then-left-eq0 : goal.asc-returns-then-left-eq0
unfolding decl.ascription_tail plan choose chosen hushed
asc-returns-then-left-eq0 t c =
    let X0 = c.args.lent.text.now in
    let T0 = c.args.lent.toks.now in
    let N0 = c.args.lent.env.now in
    let J0 = c.args.table.now in
    let L0 = c.args.scratch.now in
    let H0 = c.args.finds.now in
    let S0 = c.args.s in
    let S2 = c.refuse_for.result in
    by_steps {m = (mem X0 T0 N0 J0 L0 H0 S0)} {m' = (mem X0 T0 N0 J0 L0 H0 S2)} (c.requires) (λ b. s_shut (c.if-left-eq0.true) (c.refuse_for.ensures) (λ k l. refl))

pub asc-mark-s1-requires : goal.asc-mark-s1-requires
asc-mark-s1-requires t c =
    tt

pub asc-bump-s2-requires : goal.asc-bump-s2-requires
asc-bump-s2-requires t c =
    let pre0 = c.requires in
    let mark = c.mark-s1.ensures in
    let mark_ok = ok_marks mark pre0 in
    (mark_ok.reads, mark_ok.logs)

pub asc-sgm-s3-requires : goal.asc-sgm-s3-requires
asc-sgm-s3-requires t c =
    let pre0 = c.requires in
    let mark = c.mark-s1.ensures in
    let mark_ok = ok_marks mark pre0 in
    let bump = c.bump-s2.ensures in
    let bump_ok = ok_bumps bump mark_ok in
    (omega arith, bump_ok)

pub asc-close_node-requires : goal.asc-close_node-requires
asc-close_node-requires t c =
    let pre0 = c.requires in
    let mark = c.mark-s1.ensures in
    let mark_ok = ok_marks mark pre0 in
    let sgm = c.sgm-s3.ensures in
    let sgm_ok = sgm.ok in
    (sgm_ok.logs, small_len mark_ok)

pub asc-returns : goal.asc-returns
unfolding decl.ascription_tail plan choose chosen
asc-returns t c =
    let X0 = c.args.lent.text.now in
    let T0 = c.args.lent.toks.now in
    let N0 = c.args.lent.env.now in
    let J0 = c.args.table.now in
    let L0 = c.args.scratch.now in
    let H0 = c.args.finds.now in
    let S0 = c.args.s in
    let S2 = c.mark-s1.result in
    let L3 = c.bump-s2.new.scratch in
    let S3 = c.bump-s2.result in
    let J4 = c.sgm-s3.new.table in
    let L4 = c.sgm-s3.new.scratch in
    let H4 = c.sgm-s3.new.finds in
    let S4 = c.sgm-s3.result in
    let L5 = c.close_node.new.scratch in
    let S5 = c.close_node.result in
    by_steps {m = (mem X0 T0 N0 J0 L0 H0 S0)} {m' = (mem X0 T0 N0 J4 L5 H4 S5)} (c.requires) (λ b. s_mark {e = (mem X0 T0 N0 J4 L5 H4 S5)} {x = X0} {t = T0} {n = N0} {j = J0} {l = L0} {h = H0} {s = S0} {s' = S2} (c.if-left-eq0.false) (c.mark-s1.ensures) (s_bump {e = (mem X0 T0 N0 J4 L5 H4 S5)} {x = X0} {t = T0} {n = N0} {j = J0} {l = L0} {h = H0} {s = S2} {s' = S3} {l' = L3} (c.bump-s2.ensures) (s_by {a = (mem X0 T0 N0 J0 L3 H0 S3)} {c = (mem X0 T0 N0 J4 L4 H4 S4)} {e = (mem X0 T0 N0 J4 L5 H4 S5)} _ (runs_in {a = (mem X0 T0 N0 J0 L3 H0 S3)} {c = (mem X0 T0 N0 J4 L4 H4 S4)} (c.sgm-s3.ensures)) (s_close {e = (mem X0 T0 N0 J4 L5 H4 S5)} {x = X0} {t = T0} {n = N0} {j = J4} {l = L4} {h = H4} {s = S4} {s' = S5} {l' = L5} (c.close_node.ensures) s_end))))

pub aso-peek-requires : goal.aso-peek-requires
aso-peek-requires t c =
    let pre0 = c.requires in
    pre0.reads

pub aso-returns-in_default : goal.aso-returns-in_default
unfolding decl.ascription_opt plan choose chosen
aso-returns-in_default t c =
    let pre0 = c.requires in
    let peek = c.in_default.ensures in
    by_steps pre0 (λ b. s_look peek s_end)

pub aso-ascription-requires : goal.aso-ascription-requires
aso-ascription-requires t c =
    tt

pub aso-asc-requires : goal.aso-asc-requires
aso-asc-requires t c =
    let pre0 = c.requires in
    (omega arith, pre0)

pub aso-returns-then-ascription : goal.aso-returns-then-ascription
unfolding decl.ascription_opt plan choose chosen
aso-returns-then-ascription t c =
    let X0 = c.args.lent.text.now in
    let T0 = c.args.lent.toks.now in
    let N0 = c.args.lent.env.now in
    let J0 = c.args.table.now in
    let L0 = c.args.scratch.now in
    let H0 = c.args.finds.now in
    let S0 = c.args.s in
    let J4 = c.asc.new.table in
    let L4 = c.asc.new.scratch in
    let H4 = c.asc.new.finds in
    let S4 = c.asc.result in
    by_steps {m = (mem X0 T0 N0 J0 L0 H0 S0)} {m' = (mem X0 T0 N0 J4 L4 H4 S4)} (c.requires) (λ b. s_look {a = (mem X0 T0 N0 J0 L0 H0 S0)} {e = (mem X0 T0 N0 J4 L4 H4 S4)} (c.in-Some.ensures) (s_true {a = (mem X0 T0 N0 J0 L0 H0 S0)} {e = (mem X0 T0 N0 J4 L4 H4 S4)} _ _ (test_true (c.ascription.ensures) (c.if-ascription.true)) (s_by {a = (mem X0 T0 N0 J0 L0 H0 S0)} {c = (mem X0 T0 N0 J4 L4 H4 S4)} {e = (mem X0 T0 N0 J4 L4 H4 S4)} _ (runs_in {a = (mem X0 T0 N0 J0 L0 H0 S0)} {c = (mem X0 T0 N0 J4 L4 H4 S4)} (c.asc.ensures)) s_end)))

pub aso-returns : goal.aso-returns
unfolding decl.ascription_opt plan choose chosen
aso-returns t c =
    let X0 = c.args.lent.text.now in
    let T0 = c.args.lent.toks.now in
    let N0 = c.args.lent.env.now in
    let J0 = c.args.table.now in
    let L0 = c.args.scratch.now in
    let H0 = c.args.finds.now in
    let S0 = c.args.s in
    by_steps {m = (mem X0 T0 N0 J0 L0 H0 S0)} {m' = (mem X0 T0 N0 J0 L0 H0 S0)} (c.requires) (λ b. s_look {a = (mem X0 T0 N0 J0 L0 H0 S0)} {e = (mem X0 T0 N0 J0 L0 H0 S0)} (c.in-Some.ensures) (s_false {a = (mem X0 T0 N0 J0 L0 H0 S0)} {e = (mem X0 T0 N0 J0 L0 H0 S0)} _ _ (test_false (c.ascription.ensures) (c.if-ascription.false)) s_end))

pub atm-record_start-s1-requires : goal.atm-record_start-s1-requires
atm-record_start-s1-requires t c =
    let pre0 = c.requires.0 in
    pre0

pub atm-cl-s2-requires : goal.atm-cl-s2-requires
atm-cl-s2-requires t c =
    let pre1 = c.requires.1 in
    let record_start = c.record_start-s1.ensures in
    let record_start_ok = record_start.ok in
    (omega arith, (record_start_ok, pre1, omega arith))

pub atm-returns-then-k-eq-LCURLY : goal.atm-returns-then-k-eq-LCURLY
unfolding expr.at_exp_head expr.end_closure util.choose plan choose chosen
atm-returns-then-k-eq-LCURLY t c =
    let X0 = c.args.lent.text.now in
    let T0 = c.args.lent.toks.now in
    let N0 = c.args.lent.env.now in
    let J0 = c.args.table.now in
    let L0 = c.args.scratch.now in
    let H0 = c.args.finds.now in
    let S0 = c.args.s in
    let L2 = c.record_start-s1.new.scratch in
    let H2 = c.record_start-s1.new.finds in
    let S2 = c.record_start-s1.result in
    let J3 = c.cl-s2.new.table in
    let L3 = c.cl-s2.new.scratch in
    let H3 = c.cl-s2.new.finds in
    let S3 = c.cl-s2.result in
    in_steps {m = (mem X0 T0 N0 J0 L0 H0 S0)} {m' = (mem X0 T0 N0 J3 L3 H3 S3)} (c.requires.0) (s_true {a = (mem X0 T0 N0 J0 L0 H0 S0)} {e = (mem X0 T0 N0 J3 L3 H3 S3)} _ _ (kind_is (c.if-k-eq-LCURLY.true)) (s_by {a = (mem X0 T0 N0 J0 L0 H0 S0)} {c = (mem X0 T0 N0 J0 L2 H2 S2)} {e = (mem X0 T0 N0 J3 L3 H3 S3)} _ (runs_in {a = (mem X0 T0 N0 J0 L0 H0 S0)} {c = (mem X0 T0 N0 J0 L2 H2 S2)} (c.record_start-s1.ensures)) (s_by {a = (mem X0 T0 N0 J0 L2 H2 S2)} {c = (mem X0 T0 N0 J3 L3 H3 S3)} {e = (mem X0 T0 N0 J3 L3 H3 S3)} _ (c.cl-s2.ensures) s_end)))

pub atm-hs-requires : goal.atm-hs-requires
atm-hs-requires t c =
    let pre0 = c.requires.0 in
    let pre1 = c.requires.1 in
    (omega arith, (pre0, pre1))

pub atm-returns-then-k-eq-HASH : goal.atm-returns-then-k-eq-HASH
unfolding expr.at_exp_head expr.end_closure util.choose plan choose chosen
atm-returns-then-k-eq-HASH t c =
    let X0 = c.args.lent.text.now in
    let T0 = c.args.lent.toks.now in
    let N0 = c.args.lent.env.now in
    let J0 = c.args.table.now in
    let L0 = c.args.scratch.now in
    let H0 = c.args.finds.now in
    let S0 = c.args.s in
    let J3 = c.hs.new.table in
    let L3 = c.hs.new.scratch in
    let H3 = c.hs.new.finds in
    let S3 = out_state c.hs.result in
    in_steps {m = (mem X0 T0 N0 J0 L0 H0 S0)} {m' = (mem X0 T0 N0 J3 L3 H3 S3)} (c.requires.0) (s_false {a = (mem X0 T0 N0 J0 L0 H0 S0)} {e = (mem X0 T0 N0 J3 L3 H3 S3)} _ _ (kind_not (c.if-k-eq-LCURLY.false)) (s_true {a = (mem X0 T0 N0 J0 L0 H0 S0)} {e = (mem X0 T0 N0 J3 L3 H3 S3)} _ _ (kind_is (c.if-k-eq-HASH.true)) (s_by {a = (mem X0 T0 N0 J0 L0 H0 S0)} {c = (mem X0 T0 N0 J3 L3 H3 S3)} {e = (mem X0 T0 N0 J3 L3 H3 S3)} _ (c.hs.ensures) s_end)))

pub atm-bump-s1-requires : goal.atm-bump-s1-requires
atm-bump-s1-requires t c =
    let pre0 = c.requires.0 in
    (pre0.reads, pre0.logs)

pub atm-rnd-requires : goal.atm-rnd-requires
atm-rnd-requires t c =
    let pre0 = c.requires.0 in
    let pre1 = c.requires.1 in
    let bump = c.bump-s1.ensures in
    let bump_ok = ok_bumps bump pre0 in
    (omega arith, (bump_ok, pre1))

pub atm-returns-then-k-eq-LROUND : goal.atm-returns-then-k-eq-LROUND
unfolding expr.at_exp_head expr.end_closure util.choose plan choose chosen
atm-returns-then-k-eq-LROUND t c =
    let X0 = c.args.lent.text.now in
    let T0 = c.args.lent.toks.now in
    let N0 = c.args.lent.env.now in
    let J0 = c.args.table.now in
    let L0 = c.args.scratch.now in
    let H0 = c.args.finds.now in
    let S0 = c.args.s in
    let L4 = c.bump-s1.new.scratch in
    let S4 = c.bump-s1.result in
    let J5 = c.rnd.new.table in
    let L5 = c.rnd.new.scratch in
    let H5 = c.rnd.new.finds in
    let S5 = out_state c.rnd.result in
    in_steps {m = (mem X0 T0 N0 J0 L0 H0 S0)} {m' = (mem X0 T0 N0 J5 L5 H5 S5)} (c.requires.0) (s_false {a = (mem X0 T0 N0 J0 L0 H0 S0)} {e = (mem X0 T0 N0 J5 L5 H5 S5)} _ _ (kind_not (c.if-k-eq-LCURLY.false)) (s_false {a = (mem X0 T0 N0 J0 L0 H0 S0)} {e = (mem X0 T0 N0 J5 L5 H5 S5)} _ _ (kind_not (c.if-k-eq-HASH.false)) (s_true {a = (mem X0 T0 N0 J0 L0 H0 S0)} {e = (mem X0 T0 N0 J5 L5 H5 S5)} _ _ (kind_is (c.if-k-eq-LROUND.true)) (s_bump {e = (mem X0 T0 N0 J5 L5 H5 S5)} {x = X0} {t = T0} {n = N0} {j = J0} {l = L0} {h = H0} {s = S0} {s' = S4} {l' = L4} (c.bump-s1.ensures) (s_by {a = (mem X0 T0 N0 J0 L4 H0 S4)} {c = (mem X0 T0 N0 J5 L5 H5 S5)} {e = (mem X0 T0 N0 J5 L5 H5 S5)} _ (c.rnd.ensures) s_end)))))

pub atm-bump-s1-requires-then-k-eq-LSQUARE : goal.atm-bump-s1-requires-then-k-eq-LSQUARE
atm-bump-s1-requires-then-k-eq-LSQUARE t c =
    let pre0 = c.requires.0 in
    (pre0.reads, pre0.logs)

pub atm-cl-s2-requires-then-k-eq-LSQUARE : goal.atm-cl-s2-requires-then-k-eq-LSQUARE
atm-cl-s2-requires-then-k-eq-LSQUARE t c =
    let pre0 = c.requires.0 in
    let pre1 = c.requires.1 in
    let bump2 = c.bump-s1-then-k-eq-LSQUARE.ensures in
    let bump2_ok = ok_bumps bump2 pre0 in
    (omega arith, (bump2_ok, pre1, omega arith))

pub atm-returns-then-k-eq-LSQUARE : goal.atm-returns-then-k-eq-LSQUARE
unfolding expr.at_exp_head expr.end_closure util.choose plan choose chosen
atm-returns-then-k-eq-LSQUARE t c =
    let X0 = c.args.lent.text.now in
    let T0 = c.args.lent.toks.now in
    let N0 = c.args.lent.env.now in
    let J0 = c.args.table.now in
    let L0 = c.args.scratch.now in
    let H0 = c.args.finds.now in
    let S0 = c.args.s in
    let L5 = c.bump-s1-then-k-eq-LSQUARE.new.scratch in
    let S5 = c.bump-s1-then-k-eq-LSQUARE.result in
    let J6 = c.cl-s2-then-k-eq-LSQUARE.new.table in
    let L6 = c.cl-s2-then-k-eq-LSQUARE.new.scratch in
    let H6 = c.cl-s2-then-k-eq-LSQUARE.new.finds in
    let S6 = c.cl-s2-then-k-eq-LSQUARE.result in
    in_steps {m = (mem X0 T0 N0 J0 L0 H0 S0)} {m' = (mem X0 T0 N0 J6 L6 H6 S6)} (c.requires.0) (s_false {a = (mem X0 T0 N0 J0 L0 H0 S0)} {e = (mem X0 T0 N0 J6 L6 H6 S6)} _ _ (kind_not (c.if-k-eq-LCURLY.false)) (s_false {a = (mem X0 T0 N0 J0 L0 H0 S0)} {e = (mem X0 T0 N0 J6 L6 H6 S6)} _ _ (kind_not (c.if-k-eq-HASH.false)) (s_false {a = (mem X0 T0 N0 J0 L0 H0 S0)} {e = (mem X0 T0 N0 J6 L6 H6 S6)} _ _ (kind_not (c.if-k-eq-LROUND.false)) (s_true {a = (mem X0 T0 N0 J0 L0 H0 S0)} {e = (mem X0 T0 N0 J6 L6 H6 S6)} _ _ (kind_is (c.if-k-eq-LSQUARE.true)) (s_bump {e = (mem X0 T0 N0 J6 L6 H6 S6)} {x = X0} {t = T0} {n = N0} {j = J0} {l = L0} {h = H0} {s = S0} {s' = S5} {l' = L5} (c.bump-s1-then-k-eq-LSQUARE.ensures) (s_by {a = (mem X0 T0 N0 J0 L5 H0 S5)} {c = (mem X0 T0 N0 J6 L6 H6 S6)} {e = (mem X0 T0 N0 J6 L6 H6 S6)} _ (c.cl-s2-then-k-eq-LSQUARE.ensures) s_end))))))

pub atm-lex-requires : goal.atm-lex-requires
atm-lex-requires t c =
    let pre0 = c.requires.0 in
    let pre1 = c.requires.1 in
    (omega arith, (pre0, pre1))

pub atm-returns-then-k-eq-LET_KW : goal.atm-returns-then-k-eq-LET_KW
unfolding expr.at_exp_head expr.end_closure util.choose plan choose chosen
atm-returns-then-k-eq-LET_KW t c =
    let X0 = c.args.lent.text.now in
    let T0 = c.args.lent.toks.now in
    let N0 = c.args.lent.env.now in
    let J0 = c.args.table.now in
    let L0 = c.args.scratch.now in
    let H0 = c.args.finds.now in
    let S0 = c.args.s in
    let J6 = c.lex.new.table in
    let L6 = c.lex.new.scratch in
    let H6 = c.lex.new.finds in
    let S6 = out_state c.lex.result in
    in_steps {m = (mem X0 T0 N0 J0 L0 H0 S0)} {m' = (mem X0 T0 N0 J6 L6 H6 S6)} (c.requires.0) (s_false {a = (mem X0 T0 N0 J0 L0 H0 S0)} {e = (mem X0 T0 N0 J6 L6 H6 S6)} _ _ (kind_not (c.if-k-eq-LCURLY.false)) (s_false {a = (mem X0 T0 N0 J0 L0 H0 S0)} {e = (mem X0 T0 N0 J6 L6 H6 S6)} _ _ (kind_not (c.if-k-eq-HASH.false)) (s_false {a = (mem X0 T0 N0 J0 L0 H0 S0)} {e = (mem X0 T0 N0 J6 L6 H6 S6)} _ _ (kind_not (c.if-k-eq-LROUND.false)) (s_false {a = (mem X0 T0 N0 J0 L0 H0 S0)} {e = (mem X0 T0 N0 J6 L6 H6 S6)} _ _ (kind_not (c.if-k-eq-LSQUARE.false)) (s_true {a = (mem X0 T0 N0 J0 L0 H0 S0)} {e = (mem X0 T0 N0 J6 L6 H6 S6)} _ _ (kind_is (c.if-k-eq-LET_KW.true)) (s_by {a = (mem X0 T0 N0 J0 L0 H0 S0)} {c = (mem X0 T0 N0 J6 L6 H6 S6)} {e = (mem X0 T0 N0 J6 L6 H6 S6)} _ (c.lex.ensures) s_end))))))

pub atm-leaf-requires : goal.atm-leaf-requires
atm-leaf-requires t c =
    let pre0 = c.requires.0 in
    let pre1 = c.requires.1 in
    (pre0, pre1)

pub atm-returns : goal.atm-returns
unfolding expr.at_exp_head expr.end_closure util.choose plan choose chosen
atm-returns t c =
    let X0 = c.args.lent.text.now in
    let T0 = c.args.lent.toks.now in
    let N0 = c.args.lent.env.now in
    let J0 = c.args.table.now in
    let L0 = c.args.scratch.now in
    let H0 = c.args.finds.now in
    let S0 = c.args.s in
    let L6 = c.leaf.new.scratch in
    let H6 = c.leaf.new.finds in
    let S6 = out_state c.leaf.result in
    in_steps {m = (mem X0 T0 N0 J0 L0 H0 S0)} {m' = (mem X0 T0 N0 J0 L6 H6 S6)} (c.requires.0) (s_false {a = (mem X0 T0 N0 J0 L0 H0 S0)} {e = (mem X0 T0 N0 J0 L6 H6 S6)} _ _ (kind_not (c.if-k-eq-LCURLY.false)) (s_false {a = (mem X0 T0 N0 J0 L0 H0 S0)} {e = (mem X0 T0 N0 J0 L6 H6 S6)} _ _ (kind_not (c.if-k-eq-HASH.false)) (s_false {a = (mem X0 T0 N0 J0 L0 H0 S0)} {e = (mem X0 T0 N0 J0 L6 H6 S6)} _ _ (kind_not (c.if-k-eq-LROUND.false)) (s_false {a = (mem X0 T0 N0 J0 L0 H0 S0)} {e = (mem X0 T0 N0 J0 L6 H6 S6)} _ _ (kind_not (c.if-k-eq-LSQUARE.false)) (s_false {a = (mem X0 T0 N0 J0 L0 H0 S0)} {e = (mem X0 T0 N0 J0 L6 H6 S6)} _ _ (kind_not (c.if-k-eq-LET_KW.false)) (s_by {a = (mem X0 T0 N0 J0 L0 H0 S0)} {c = (mem X0 T0 N0 J0 L6 H6 S6)} {e = (mem X0 T0 N0 J0 L6 H6 S6)} _ (c.leaf.ensures) s_end))))))

pub bd-mny-s1-requires : goal.bd-mny-s1-requires
bd-mny-s1-requires t c =
    let pre0 = c.requires.0 in
    (omega arith, pre0)

pub bd-close_node-requires : goal.bd-close_node-requires
bd-close_node-requires t c =
    let pre1 = c.requires.1 in
    let mny = c.mny-s1.ensures in
    let mny_ok = mny.ok in
    (mny_ok.logs, pre1)

pub bd-returns : goal.bd-returns
unfolding util.many_sep_node util.many_sep plan choose chosen
bd-returns t c =
    let X0 = c.args.lent.text.now in
    let T0 = c.args.lent.toks.now in
    let N0 = c.args.lent.env.now in
    let J0 = c.args.table.now in
    let L0 = c.args.scratch.now in
    let H0 = c.args.finds.now in
    let S0 = c.args.s in
    let J1 = c.mny-s1.new.table in
    let L1 = c.mny-s1.new.scratch in
    let H1 = c.mny-s1.new.finds in
    let S1 = c.mny-s1.result in
    let L2 = c.close_node.new.scratch in
    let S2 = c.close_node.result in
    in_steps {m = (mem X0 T0 N0 J0 L0 H0 S0)} {m' = (mem X0 T0 N0 J1 L2 H1 S2)} (c.requires.0) (s_run {a = (mem X0 T0 N0 J0 L0 H0 S0)} {c = (mem X0 T0 N0 J1 L1 H1 S1)} {e = (mem X0 T0 N0 J1 L2 H1 S2)} (c.mny-s1.ensures) (s_close {e = (mem X0 T0 N0 J1 L2 H1 S2)} {x = X0} {t = T0} {n = N0} {j = J1} {l = L1} {h = H1} {s = S1} {s' = S2} {l' = L2} (c.close_node.ensures) s_end))

pub bdy-dec-got-requires : goal.bdy-dec-got-requires
bdy-dec-got-requires t c =
    let pre0 = c.requires in
    (omega arith, pre0)

pub bdy-either-s1-requires : goal.bdy-either-s1-requires
bdy-either-s1-requires t c =
    tt

pub bdy-want-s2-requires : goal.bdy-want-s2-requires
bdy-want-s2-requires t c =
    let dec = c.dec-got.ensures in
    let dec_ok = dec.ok in
    let either = c.either-s1.ensures in
    let either_ok = ok_state either dec_ok in
    (either_ok.reads, either_ok.logs, either_ok.holds, omega arith)

pub bdy-sep-requires : goal.bdy-sep-requires
bdy-sep-requires t c =
    let dec = c.dec-got.ensures in
    let dec_ok = dec.ok in
    let either = c.either-s1.ensures in
    let either_ok = ok_state either dec_ok in
    let want = c.want-s2.ensures in
    let want_ok = ok_eats want either_ok in
    (omega arith, (want_ok, omega arith))

pub bdy-returns : goal.bdy-returns
unfolding expr.let_body util.end_sep expr.end_closure util.choose plan choose chosen
bdy-returns t c =
    let X0 = c.args.lent.text.now in
    let T0 = c.args.lent.toks.now in
    let N0 = c.args.lent.env.now in
    let J0 = c.args.table.now in
    let L0 = c.args.scratch.now in
    let H0 = c.args.finds.now in
    let S0 = c.args.s in
    let J1 = c.dec-got.new.table in
    let L1 = c.dec-got.new.scratch in
    let H1 = c.dec-got.new.finds in
    let S1 = out_state c.dec-got.result in
    let S2 = c.either-s1.result in
    let L3 = c.want-s2.new.scratch in
    let H3 = c.want-s2.new.finds in
    let S3 = c.want-s2.result in
    let J4 = c.sep.new.table in
    let L4 = c.sep.new.scratch in
    let H4 = c.sep.new.finds in
    let S4 = c.sep.result in
    in_steps {m = (mem X0 T0 N0 J0 L0 H0 S0)} {m' = (mem X0 T0 N0 J4 L4 H4 S4)} (c.requires) (s_run {a = (mem X0 T0 N0 J0 L0 H0 S0)} {c = (mem X0 T0 N0 J1 L1 H1 S2)} {e = (mem X0 T0 N0 J4 L4 H4 S4)} (settled (c.either-s1.ensures) (runs_in {a = (mem X0 T0 N0 J0 L0 H0 S0)} {c = (mem X0 T0 N0 J1 L1 H1 S1)} (c.dec-got.ensures))) (s_eats _ _ {x = X0} {t = T0} {n = N0} {j = J1} {l = L1} {h = H1} {l' = L3} {s = S2} {s' = S3} {e = (mem X0 T0 N0 J4 L4 H4 S4)} _ {h' = H3} (c.want-s2.ensures) (s_run {a = (mem X0 T0 N0 J1 L3 H3 S3)} {c = (mem X0 T0 N0 J4 L4 H4 S4)} {e = (mem X0 T0 N0 J4 L4 H4 S4)} (c.sep.ensures) s_end)))

pub cel-lab-s1-requires : goal.cel-lab-s1-requires
cel-lab-s1-requires t c =
    let pre0 = c.requires in
    (pre0.reads, pre0.logs, pre0.holds)

pub cel-eq-requires : goal.cel-eq-requires
cel-eq-requires t c =
    let pre0 = c.requires in
    let lab = c.lab-s1.ensures in
    let lab_ok = ok_eats lab pre0 in
    (omega arith, lab_ok)

pub cel-exp-requires : goal.cel-exp-requires
cel-exp-requires t c =
    let pre0 = c.requires in
    (omega arith, pre0)

pub cel-returns-in-ExpRow : goal.cel-returns-in-ExpRow
unfolding expr.end_closure expr.exp_row util.choose plan choose chosen
cel-returns-in-ExpRow t c =
    let pre0 = c.requires in
    let lab = c.lab-s1.ensures in
    let eq = c.eq.ensures in
    rw c.in-ExpRow.is (by_steps pre0 (λ b. s_eats _ _ _ lab (s_by _ (runs_in eq) s_end)))

pub cel-returns-in_default : goal.cel-returns-in_default
unfolding expr.end_closure expr.exp_row plan choose chosen
cel-returns-in_default t c =
    let pre0 = c.requires in
    let exp = c.exp.ensures in
    by_steps pre0 (λ b. s_second _ _ _ _ _ _ (other_node _ _ c.in_default.not-ExpRow) (s_by _ (runs_in exp) s_end))

pub cl-sep-s1-requires : goal.cl-sep-s1-requires
cl-sep-s1-requires t c =
    let pre0 = c.requires.0 in
    (omega arith, (pre0, omega arith))

pub cl-close_node-requires : goal.cl-close_node-requires
cl-close_node-requires t c =
    let pre1 = c.requires.1 in
    let sep = c.sep-s1.ensures in
    let sep_ok = sep.ok in
    (sep_ok.logs, pre1)

pub cl-returns : goal.cl-returns
unfolding util.end_sep_node util.end_sep plan choose chosen
cl-returns t c =
    let X0 = c.args.lent.text.now in
    let T0 = c.args.lent.toks.now in
    let N0 = c.args.lent.env.now in
    let J0 = c.args.table.now in
    let L0 = c.args.scratch.now in
    let H0 = c.args.finds.now in
    let S0 = c.args.s in
    let J1 = c.sep-s1.new.table in
    let L1 = c.sep-s1.new.scratch in
    let H1 = c.sep-s1.new.finds in
    let S1 = c.sep-s1.result in
    let L2 = c.close_node.new.scratch in
    let S2 = c.close_node.result in
    in_steps {m = (mem X0 T0 N0 J0 L0 H0 S0)} {m' = (mem X0 T0 N0 J1 L2 H1 S2)} (c.requires.0) (s_run {a = (mem X0 T0 N0 J0 L0 H0 S0)} {c = (mem X0 T0 N0 J1 L1 H1 S1)} {e = (mem X0 T0 N0 J1 L2 H1 S2)} (c.sep-s1.ensures) (s_close {e = (mem X0 T0 N0 J1 L2 H1 S2)} {x = X0} {t = T0} {n = N0} {j = J1} {l = L1} {h = H1} {s = S1} {s' = S2} {l' = L2} (c.close_node.ensures) s_end))

pub cor-bump_vars-s1-requires : goal.cor-bump_vars-s1-requires
cor-bump_vars-s1-requires t c =
    let pre0 = c.requires.0 in
    pre0

pub cor-bd-s2-requires : goal.cor-bd-s2-requires
cor-bd-s2-requires t c =
    let pre1 = c.requires.1 in
    let bump_vars = c.bump_vars-s1.ensures in
    let bump_vars_ok = bump_vars.ok in
    (omega arith, (bump_vars_ok, pre1))

pub cor-returns-then-k-eq-VAL_KW : goal.cor-returns-then-k-eq-VAL_KW
unfolding decl.core_dec decl.many_closure util.choose plan choose chosen
cor-returns-then-k-eq-VAL_KW t c =
    let X0 = c.args.lent.text.now in
    let T0 = c.args.lent.toks.now in
    let N0 = c.args.lent.env.now in
    let J0 = c.args.table.now in
    let L0 = c.args.scratch.now in
    let H0 = c.args.finds.now in
    let S0 = c.args.s in
    let L2 = c.bump_vars-s1.new.scratch in
    let H2 = c.bump_vars-s1.new.finds in
    let S2 = c.bump_vars-s1.result in
    let J3 = c.bd-s2.new.table in
    let L3 = c.bd-s2.new.scratch in
    let H3 = c.bd-s2.new.finds in
    let S3 = c.bd-s2.result in
    in_steps {m = (mem X0 T0 N0 J0 L0 H0 S0)} {m' = (mem X0 T0 N0 J3 L3 H3 S3)} (c.requires.0) (s_true {a = (mem X0 T0 N0 J0 L0 H0 S0)} {e = (mem X0 T0 N0 J3 L3 H3 S3)} _ _ (kind_is (c.if-k-eq-VAL_KW.true)) (s_by {a = (mem X0 T0 N0 J0 L0 H0 S0)} {c = (mem X0 T0 N0 J0 L2 H2 S2)} {e = (mem X0 T0 N0 J3 L3 H3 S3)} _ (runs_in {a = (mem X0 T0 N0 J0 L0 H0 S0)} {c = (mem X0 T0 N0 J0 L2 H2 S2)} (c.bump_vars-s1.ensures)) (s_by {a = (mem X0 T0 N0 J0 L2 H2 S2)} {c = (mem X0 T0 N0 J3 L3 H3 S3)} {e = (mem X0 T0 N0 J3 L3 H3 S3)} _ (c.bd-s2.ensures) s_end)))

pub cor-bump_vars-s1-requires-then-k-eq-FUN_KW : goal.cor-bump_vars-s1-requires-then-k-eq-FUN_KW
cor-bump_vars-s1-requires-then-k-eq-FUN_KW t c =
    let pre0 = c.requires.0 in
    pre0

pub cor-bd-s2-requires-then-k-eq-FUN_KW : goal.cor-bd-s2-requires-then-k-eq-FUN_KW
cor-bd-s2-requires-then-k-eq-FUN_KW t c =
    let pre1 = c.requires.1 in
    let bump_vars2 = c.bump_vars-s1-then-k-eq-FUN_KW.ensures in
    let bump_vars2_ok = bump_vars2.ok in
    (omega arith, (bump_vars2_ok, pre1))

pub cor-returns-then-k-eq-FUN_KW : goal.cor-returns-then-k-eq-FUN_KW
unfolding decl.core_dec decl.many_closure util.choose plan choose chosen
cor-returns-then-k-eq-FUN_KW t c =
    let X0 = c.args.lent.text.now in
    let T0 = c.args.lent.toks.now in
    let N0 = c.args.lent.env.now in
    let J0 = c.args.table.now in
    let L0 = c.args.scratch.now in
    let H0 = c.args.finds.now in
    let S0 = c.args.s in
    let L3 = c.bump_vars-s1-then-k-eq-FUN_KW.new.scratch in
    let H3 = c.bump_vars-s1-then-k-eq-FUN_KW.new.finds in
    let S3 = c.bump_vars-s1-then-k-eq-FUN_KW.result in
    let J4 = c.bd-s2-then-k-eq-FUN_KW.new.table in
    let L4 = c.bd-s2-then-k-eq-FUN_KW.new.scratch in
    let H4 = c.bd-s2-then-k-eq-FUN_KW.new.finds in
    let S4 = c.bd-s2-then-k-eq-FUN_KW.result in
    in_steps {m = (mem X0 T0 N0 J0 L0 H0 S0)} {m' = (mem X0 T0 N0 J4 L4 H4 S4)} (c.requires.0) (s_false {a = (mem X0 T0 N0 J0 L0 H0 S0)} {e = (mem X0 T0 N0 J4 L4 H4 S4)} _ _ (kind_not (c.if-k-eq-VAL_KW.false)) (s_true {a = (mem X0 T0 N0 J0 L0 H0 S0)} {e = (mem X0 T0 N0 J4 L4 H4 S4)} _ _ (kind_is (c.if-k-eq-FUN_KW.true)) (s_by {a = (mem X0 T0 N0 J0 L0 H0 S0)} {c = (mem X0 T0 N0 J0 L3 H3 S3)} {e = (mem X0 T0 N0 J4 L4 H4 S4)} _ (runs_in {a = (mem X0 T0 N0 J0 L0 H0 S0)} {c = (mem X0 T0 N0 J0 L3 H3 S3)} (c.bump_vars-s1-then-k-eq-FUN_KW.ensures)) (s_by {a = (mem X0 T0 N0 J0 L3 H3 S3)} {c = (mem X0 T0 N0 J4 L4 H4 S4)} {e = (mem X0 T0 N0 J4 L4 H4 S4)} _ (c.bd-s2-then-k-eq-FUN_KW.ensures) s_end))))

pub cor-bump-s1-requires : goal.cor-bump-s1-requires
cor-bump-s1-requires t c =
    let pre0 = c.requires.0 in
    (pre0.reads, pre0.logs)

pub cor-bd-s2-requires-then-k-eq-EXCEPTION_KW : goal.cor-bd-s2-requires-then-k-eq-EXCEPTION_KW
cor-bd-s2-requires-then-k-eq-EXCEPTION_KW t c =
    let pre0 = c.requires.0 in
    let pre1 = c.requires.1 in
    let bump = c.bump-s1.ensures in
    let bump_ok = ok_bumps bump pre0 in
    (omega arith, (bump_ok, pre1))

pub cor-returns-then-k-eq-EXCEPTION_KW : goal.cor-returns-then-k-eq-EXCEPTION_KW
unfolding decl.core_dec decl.many_closure util.choose plan choose chosen
cor-returns-then-k-eq-EXCEPTION_KW t c =
    let X0 = c.args.lent.text.now in
    let T0 = c.args.lent.toks.now in
    let N0 = c.args.lent.env.now in
    let J0 = c.args.table.now in
    let L0 = c.args.scratch.now in
    let H0 = c.args.finds.now in
    let S0 = c.args.s in
    let L4 = c.bump-s1.new.scratch in
    let S4 = c.bump-s1.result in
    let J5 = c.bd-s2-then-k-eq-EXCEPTION_KW.new.table in
    let L5 = c.bd-s2-then-k-eq-EXCEPTION_KW.new.scratch in
    let H5 = c.bd-s2-then-k-eq-EXCEPTION_KW.new.finds in
    let S5 = c.bd-s2-then-k-eq-EXCEPTION_KW.result in
    in_steps {m = (mem X0 T0 N0 J0 L0 H0 S0)} {m' = (mem X0 T0 N0 J5 L5 H5 S5)} (c.requires.0) (s_false {a = (mem X0 T0 N0 J0 L0 H0 S0)} {e = (mem X0 T0 N0 J5 L5 H5 S5)} _ _ (kind_not (c.if-k-eq-VAL_KW.false)) (s_false {a = (mem X0 T0 N0 J0 L0 H0 S0)} {e = (mem X0 T0 N0 J5 L5 H5 S5)} _ _ (kind_not (c.if-k-eq-FUN_KW.false)) (s_true {a = (mem X0 T0 N0 J0 L0 H0 S0)} {e = (mem X0 T0 N0 J5 L5 H5 S5)} _ _ (kind_is (c.if-k-eq-EXCEPTION_KW.true)) (s_bump {e = (mem X0 T0 N0 J5 L5 H5 S5)} {x = X0} {t = T0} {n = N0} {j = J0} {l = L0} {h = H0} {s = S0} {s' = S4} {l' = L4} (c.bump-s1.ensures) (s_by {a = (mem X0 T0 N0 J0 L4 H0 S4)} {c = (mem X0 T0 N0 J5 L5 H5 S5)} {e = (mem X0 T0 N0 J5 L5 H5 S5)} _ (c.bd-s2-then-k-eq-EXCEPTION_KW.ensures) s_end)))))

pub cor-bump-s1-requires-then-k-eq-DO_KW : goal.cor-bump-s1-requires-then-k-eq-DO_KW
cor-bump-s1-requires-then-k-eq-DO_KW t c =
    let pre0 = c.requires.0 in
    (pre0.reads, pre0.logs)

pub cor-exp-s2-requires : goal.cor-exp-s2-requires
cor-exp-s2-requires t c =
    let pre0 = c.requires.0 in
    let bump2 = c.bump-s1-then-k-eq-DO_KW.ensures in
    let bump2_ok = ok_bumps bump2 pre0 in
    (omega arith, bump2_ok)

pub cor-close_node-requires : goal.cor-close_node-requires
cor-close_node-requires t c =
    let pre1 = c.requires.1 in
    let exp = c.exp-s2.ensures in
    let exp_ok = exp.ok in
    (exp_ok.logs, pre1)

pub cor-returns-then-k-eq-DO_KW : goal.cor-returns-then-k-eq-DO_KW
unfolding decl.core_dec decl.many_closure util.choose plan choose chosen
cor-returns-then-k-eq-DO_KW t c =
    let X0 = c.args.lent.text.now in
    let T0 = c.args.lent.toks.now in
    let N0 = c.args.lent.env.now in
    let J0 = c.args.table.now in
    let L0 = c.args.scratch.now in
    let H0 = c.args.finds.now in
    let S0 = c.args.s in
    let L5 = c.bump-s1-then-k-eq-DO_KW.new.scratch in
    let S5 = c.bump-s1-then-k-eq-DO_KW.result in
    let J6 = c.exp-s2.new.table in
    let L6 = c.exp-s2.new.scratch in
    let H6 = c.exp-s2.new.finds in
    let S6 = c.exp-s2.result in
    let L7 = c.close_node.new.scratch in
    let S7 = c.close_node.result in
    in_steps {m = (mem X0 T0 N0 J0 L0 H0 S0)} {m' = (mem X0 T0 N0 J6 L7 H6 S7)} (c.requires.0) (s_false {a = (mem X0 T0 N0 J0 L0 H0 S0)} {e = (mem X0 T0 N0 J6 L7 H6 S7)} _ _ (kind_not (c.if-k-eq-VAL_KW.false)) (s_false {a = (mem X0 T0 N0 J0 L0 H0 S0)} {e = (mem X0 T0 N0 J6 L7 H6 S7)} _ _ (kind_not (c.if-k-eq-FUN_KW.false)) (s_false {a = (mem X0 T0 N0 J0 L0 H0 S0)} {e = (mem X0 T0 N0 J6 L7 H6 S7)} _ _ (kind_not (c.if-k-eq-EXCEPTION_KW.false)) (s_true {a = (mem X0 T0 N0 J0 L0 H0 S0)} {e = (mem X0 T0 N0 J6 L7 H6 S7)} _ _ (kind_is (c.if-k-eq-DO_KW.true)) (s_bump {e = (mem X0 T0 N0 J6 L7 H6 S7)} {x = X0} {t = T0} {n = N0} {j = J0} {l = L0} {h = H0} {s = S0} {s' = S5} {l' = L5} (c.bump-s1-then-k-eq-DO_KW.ensures) (s_by {a = (mem X0 T0 N0 J0 L5 H0 S5)} {c = (mem X0 T0 N0 J6 L6 H6 S6)} {e = (mem X0 T0 N0 J6 L7 H6 S7)} _ (runs_in {a = (mem X0 T0 N0 J0 L5 H0 S5)} {c = (mem X0 T0 N0 J6 L6 H6 S6)} (c.exp-s2.ensures)) (s_close {e = (mem X0 T0 N0 J6 L7 H6 S7)} {x = X0} {t = T0} {n = N0} {j = J6} {l = L6} {h = H6} {s = S6} {s' = S7} {l' = L7} (c.close_node.ensures) s_end)))))))

pub cor-mds-requires : goal.cor-mds-requires
cor-mds-requires t c =
    let pre0 = c.requires.0 in
    let pre1 = c.requires.1 in
    (omega arith, (pre0, pre1))

pub cor-returns : goal.cor-returns
unfolding decl.core_dec decl.many_closure util.choose plan choose chosen
cor-returns t c =
    let X0 = c.args.lent.text.now in
    let T0 = c.args.lent.toks.now in
    let N0 = c.args.lent.env.now in
    let J0 = c.args.table.now in
    let L0 = c.args.scratch.now in
    let H0 = c.args.finds.now in
    let S0 = c.args.s in
    let J5 = c.mds.new.table in
    let L5 = c.mds.new.scratch in
    let H5 = c.mds.new.finds in
    let S5 = out_state c.mds.result in
    in_steps {m = (mem X0 T0 N0 J0 L0 H0 S0)} {m' = (mem X0 T0 N0 J5 L5 H5 S5)} (c.requires.0) (s_false {a = (mem X0 T0 N0 J0 L0 H0 S0)} {e = (mem X0 T0 N0 J5 L5 H5 S5)} _ _ (kind_not (c.if-k-eq-VAL_KW.false)) (s_false {a = (mem X0 T0 N0 J0 L0 H0 S0)} {e = (mem X0 T0 N0 J5 L5 H5 S5)} _ _ (kind_not (c.if-k-eq-FUN_KW.false)) (s_false {a = (mem X0 T0 N0 J0 L0 H0 S0)} {e = (mem X0 T0 N0 J5 L5 H5 S5)} _ _ (kind_not (c.if-k-eq-EXCEPTION_KW.false)) (s_false {a = (mem X0 T0 N0 J0 L0 H0 S0)} {e = (mem X0 T0 N0 J5 L5 H5 S5)} _ _ (kind_not (c.if-k-eq-DO_KW.false)) (s_by {a = (mem X0 T0 N0 J0 L0 H0 S0)} {c = (mem X0 T0 N0 J5 L5 H5 S5)} {e = (mem X0 T0 N0 J5 L5 H5 S5)} _ (c.mds.ensures) s_end)))))

pub cs-fun_left-s1-requires : goal.cs-fun_left-s1-requires
cs-fun_left-s1-requires t c =
    let pre0 = c.requires in
    pre0

pub cs-ty_annotation-got-requires : goal.cs-ty_annotation-got-requires
cs-ty_annotation-got-requires t c =
    let fun_left = c.fun_left-s1.ensures in
    let fun_left_ok = fun_left.ok in
    fun_left_ok

pub cs-either-s2-requires : goal.cs-either-s2-requires
cs-either-s2-requires t c =
    tt

pub cs-eq-s3-requires : goal.cs-eq-s3-requires
cs-eq-s3-requires t c =
    let ty_annotation = c.ty_annotation-got.ensures in
    let ty_annotation_ok = ty_annotation.ok in
    let either = c.either-s2.ensures in
    let either_ok = ok_state either ty_annotation_ok in
    (omega arith, either_ok)

pub cs-returns : goal.cs-returns
unfolding decl.fun_case plan choose chosen
cs-returns t c =
    let X0 = c.args.lent.text.now in
    let T0 = c.args.lent.toks.now in
    let N0 = c.args.lent.env.now in
    let J0 = c.args.table.now in
    let L0 = c.args.scratch.now in
    let H0 = c.args.finds.now in
    let S0 = c.args.s in
    let L1 = c.fun_left-s1.new.scratch in
    let H1 = c.fun_left-s1.new.finds in
    let S1 = c.fun_left-s1.result in
    let L2 = c.ty_annotation-got.new.scratch in
    let H2 = c.ty_annotation-got.new.finds in
    let S2 = out_state c.ty_annotation-got.result in
    let S3 = c.either-s2.result in
    let J4 = c.eq-s3.new.table in
    let L4 = c.eq-s3.new.scratch in
    let H4 = c.eq-s3.new.finds in
    let S4 = c.eq-s3.result in
    by_steps {m = (mem X0 T0 N0 J0 L0 H0 S0)} {m' = (mem X0 T0 N0 J4 L4 H4 S4)} (c.requires) (λ b. s_by {a = (mem X0 T0 N0 J0 L0 H0 S0)} {c = (mem X0 T0 N0 J0 L1 H1 S1)} {e = (mem X0 T0 N0 J4 L4 H4 S4)} _ (runs_in {a = (mem X0 T0 N0 J0 L0 H0 S0)} {c = (mem X0 T0 N0 J0 L1 H1 S1)} (c.fun_left-s1.ensures)) (s_by {a = (mem X0 T0 N0 J0 L1 H1 S1)} {c = (mem X0 T0 N0 J0 L2 H2 S3)} {e = (mem X0 T0 N0 J4 L4 H4 S4)} _ (settled (c.either-s2.ensures) (runs_in {a = (mem X0 T0 N0 J0 L1 H1 S1)} {c = (mem X0 T0 N0 J0 L2 H2 S2)} (c.ty_annotation-got.ensures))) (s_by {a = (mem X0 T0 N0 J0 L2 H2 S3)} {c = (mem X0 T0 N0 J4 L4 H4 S4)} {e = (mem X0 T0 N0 J4 L4 H4 S4)} _ (runs_in {a = (mem X0 T0 N0 J0 L2 H2 S3)} {c = (mem X0 T0 N0 J4 L4 H4 S4)} (c.eq-s3.ensures)) s_end)))

pub dec-sem-turn-requires : goal.dec-sem-turn-requires
dec-sem-turn-requires t c =
    let pre0 = c.requires in
    (omega arith, pre0)

pub dec-seq-s2-requires : goal.dec-seq-s2-requires
dec-seq-s2-requires t c =
    let sem = c.in-Ok.ensures in
    let sem_ok = (sem true).ok in
    (omega arith, sem_ok)

pub dec-returns-in-Err : goal.dec-returns-in-Err
unfolding root.body decl.decs util.maybe_semi_sep decl.semi_closure util.choose plan choose chosen
dec-returns-in-Err t c =
    let X0 = c.args.lent.text.now in
    let T0 = c.args.lent.toks.now in
    let N0 = c.args.lent.env.now in
    let J0 = c.args.table.now in
    let L0 = c.args.scratch.now in
    let H0 = c.args.finds.now in
    let S0 = c.args.s in
    let J1 = c.sem-turn.new.table in
    let L1 = c.sem-turn.new.scratch in
    let H1 = c.sem-turn.new.finds in
    let S1 = c.in-Err.s1 in
    by_steps {m = (mem X0 T0 N0 J0 L0 H0 S0)} {m' = (mem X0 T0 N0 J1 L1 H1 S1)} (c.requires) (λ b. s_rule {a = (mem X0 T0 N0 J0 L0 H0 S0)} {e = (mem X0 T0 N0 J1 L1 H1 S1)} (s_by {a = (mem X0 T0 N0 J0 L0 H0 S0)} {c = (mem X0 T0 N0 J1 L1 H1 S1)} {e = (mem X0 T0 N0 J1 L1 H1 S1)} _ (runs_in {a = (mem X0 T0 N0 J0 L0 H0 S0)} {c = (mem X0 T0 N0 J1 L1 H1 S1)} ((c.in-Err.ensures) _)) s_end))

pub dec-returns-in-Ok : goal.dec-returns-in-Ok
unfolding root.body decl.decs util.maybe_semi_sep decl.semi_closure util.choose plan choose chosen
dec-returns-in-Ok t c =
    let X0 = c.args.lent.text.now in
    let T0 = c.args.lent.toks.now in
    let N0 = c.args.lent.env.now in
    let J0 = c.args.table.now in
    let L0 = c.args.scratch.now in
    let H0 = c.args.finds.now in
    let S0 = c.args.s in
    let J1 = c.sem-turn.new.table in
    let L1 = c.sem-turn.new.scratch in
    let H1 = c.sem-turn.new.finds in
    let S1 = c.in-Ok.s1 in
    let J2 = c.seq-s2.new.table in
    let L2 = c.seq-s2.new.scratch in
    let H2 = c.seq-s2.new.finds in
    let S2 = c.seq-s2.result in
    by_steps {m = (mem X0 T0 N0 J0 L0 H0 S0)} {m' = (mem X0 T0 N0 J2 L2 H2 S2)} (c.requires) (λ b. s_rule {a = (mem X0 T0 N0 J0 L0 H0 S0)} {e = (mem X0 T0 N0 J2 L2 H2 S2)} (s_by {a = (mem X0 T0 N0 J0 L0 H0 S0)} {c = (mem X0 T0 N0 J1 L1 H1 S1)} {e = (mem X0 T0 N0 J2 L2 H2 S2)} _ (runs_in {a = (mem X0 T0 N0 J0 L0 H0 S0)} {c = (mem X0 T0 N0 J1 L1 H1 S1)} ((c.in-Ok.ensures) _)) (s_run {a = (mem X0 T0 N0 J1 L1 H1 S1)} {c = (mem X0 T0 N0 J2 L2 H2 S2)} {e = (mem X0 T0 N0 J2 L2 H2 S2)} ((c.seq-s2.ensures) _) s_end)))

pub end-refuse_for-requires : goal.end-refuse_for-requires
end-refuse_for-requires t c =
    tt

pub end-returns-then-left-eq0 : goal.end-returns-then-left-eq0
unfolding decl.local_tail plan choose chosen decl.ended util.want util.eat hushed
end-returns-then-left-eq0 t c =
    let X0 = c.args.lent.text.now in
    let T0 = c.args.lent.toks.now in
    let N0 = c.args.lent.env.now in
    let J0 = c.args.table.now in
    let L0 = c.args.scratch.now in
    let H0 = c.args.finds.now in
    let S0 = c.args.s in
    let S2 = c.refuse_for.result in
    in_steps {m = (mem X0 T0 N0 J0 L0 H0 S0)} {m' = (mem X0 T0 N0 J0 L0 H0 S2)} (c.requires.0) (s_shut (c.if-left-eq0.true) (c.refuse_for.ensures) (λ k l. refl))

pub end-mark-s1-requires : goal.end-mark-s1-requires
end-mark-s1-requires t c =
    tt

pub end-want-s2-requires : goal.end-want-s2-requires
end-want-s2-requires t c =
    let pre0 = c.requires.0 in
    let mark = c.mark-s1.ensures in
    let mark_ok = ok_marks mark pre0 in
    (mark_ok.reads, mark_ok.logs, mark_ok.holds, omega arith)

pub end-dec-got-requires : goal.end-dec-got-requires
end-dec-got-requires t c =
    let pre0 = c.requires.0 in
    let mark = c.mark-s1.ensures in
    let mark_ok = ok_marks mark pre0 in
    let want = c.want-s2.ensures in
    let want_ok = ok_eats want mark_ok in
    (omega arith, want_ok)

pub end-either-s3-requires : goal.end-either-s3-requires
end-either-s3-requires t c =
    tt

pub end-close_node-s4-requires : goal.end-close_node-s4-requires
end-close_node-s4-requires t c =
    let pre0 = c.requires.0 in
    let mark = c.mark-s1.ensures in
    let mark_ok = ok_marks mark pre0 in
    let dec = c.dec-got.ensures in
    let dec_ok = dec.ok in
    let either = c.either-s3.ensures in
    let either_ok = ok_state either dec_ok in
    (either_ok.logs, small_len mark_ok)

pub end-end_node-end-requires : goal.end-end_node-end-requires
end-end_node-end-requires t c =
    let pre1 = c.requires.1 in
    let dec = c.dec-got.ensures in
    let dec_ok = dec.ok in
    let either = c.either-s3.ensures in
    let either_ok = ok_state either dec_ok in
    let close_node = c.close_node-s4.ensures in
    let close_node_ok = ok_adds close_node either_ok in
    (close_node_ok, pre1, omega arith)

pub end-returns : goal.end-returns
unfolding decl.local_tail plan choose chosen
end-returns t c =
    let X0 = c.args.lent.text.now in
    let T0 = c.args.lent.toks.now in
    let N0 = c.args.lent.env.now in
    let J0 = c.args.table.now in
    let L0 = c.args.scratch.now in
    let H0 = c.args.finds.now in
    let S0 = c.args.s in
    let S2 = c.mark-s1.result in
    let L3 = c.want-s2.new.scratch in
    let H3 = c.want-s2.new.finds in
    let S3 = c.want-s2.result in
    let J4 = c.dec-got.new.table in
    let L4 = c.dec-got.new.scratch in
    let H4 = c.dec-got.new.finds in
    let S4 = out_state c.dec-got.result in
    let S5 = c.either-s3.result in
    let L6 = c.close_node-s4.new.scratch in
    let S6 = c.close_node-s4.result in
    let L7 = c.end_node-end.new.scratch in
    let H7 = c.end_node-end.new.finds in
    let S7 = c.end_node-end.result in
    in_steps {m = (mem X0 T0 N0 J0 L0 H0 S0)} {m' = (mem X0 T0 N0 J4 L7 H7 S7)} (c.requires.0) (s_mark {e = (mem X0 T0 N0 J4 L7 H7 S7)} {x = X0} {t = T0} {n = N0} {j = J0} {l = L0} {h = H0} {s = S0} {s' = S2} (c.if-left-eq0.false) (c.mark-s1.ensures) (s_eats _ _ {x = X0} {t = T0} {n = N0} {j = J0} {l = L0} {h = H0} {l' = L3} {s = S2} {s' = S3} {e = (mem X0 T0 N0 J4 L7 H7 S7)} _ {h' = H3} (c.want-s2.ensures) (s_run {a = (mem X0 T0 N0 J0 L3 H3 S3)} {c = (mem X0 T0 N0 J4 L4 H4 S5)} {e = (mem X0 T0 N0 J4 L7 H7 S7)} (settled (c.either-s3.ensures) (runs_in {a = (mem X0 T0 N0 J0 L3 H3 S3)} {c = (mem X0 T0 N0 J4 L4 H4 S4)} (c.dec-got.ensures))) (s_close {e = (mem X0 T0 N0 J4 L7 H7 S7)} {x = X0} {t = T0} {n = N0} {j = J4} {l = L4} {h = H4} {s = S5} {s' = S6} {l' = L6} (c.close_node-s4.ensures) (s_by {a = (mem X0 T0 N0 J4 L6 H4 S6)} {c = (mem X0 T0 N0 J4 L7 H7 S7)} {e = (mem X0 T0 N0 J4 L7 H7 S7)} _ (c.end_node-end.ensures) s_end)))))

pub eq-at-requires : goal.eq-at-requires
eq-at-requires t c =
    let pre0 = c.requires in
    pre0.reads

pub eq-refuse_for-requires : goal.eq-refuse_for-requires
eq-refuse_for-requires t c =
    tt

pub eq-returns-then-left-eq0 : goal.eq-returns-then-left-eq0
unfolding expr.eq_exp plan choose chosen hushed
eq-returns-then-left-eq0 t c =
    let X0 = c.args.lent.text.now in
    let T0 = c.args.lent.toks.now in
    let N0 = c.args.lent.env.now in
    let J0 = c.args.table.now in
    let L0 = c.args.scratch.now in
    let H0 = c.args.finds.now in
    let S0 = c.args.s in
    let S4 = c.refuse_for.result in
    by_steps {m = (mem X0 T0 N0 J0 L0 H0 S0)} {m' = (mem X0 T0 N0 J0 L0 H0 S4)} (c.requires) (λ b. s_kind {a = (mem X0 T0 N0 J0 L0 H0 S0)} {e = (mem X0 T0 N0 J0 L0 H0 S4)} (s_true {a = (mem X0 T0 N0 J0 L0 H0 S0)} {e = (mem X0 T0 N0 J0 L0 H0 S4)} _ _ (kind_at _ _ (mem X0 T0 N0 J0 L0 H0 S0) _ (c.at.ensures) (c.if-at.true)) (s_shut (c.if-left-eq0.true) (c.refuse_for.ensures) (λ k l. refl))))

pub eq-mark-s1-requires : goal.eq-mark-s1-requires
eq-mark-s1-requires t c =
    tt

pub eq-bump-s2-requires : goal.eq-bump-s2-requires
eq-bump-s2-requires t c =
    let pre0 = c.requires in
    let mark = c.mark-s1.ensures in
    let mark_ok = ok_marks mark pre0 in
    (mark_ok.reads, mark_ok.logs)

pub eq-exp-s3-requires : goal.eq-exp-s3-requires
eq-exp-s3-requires t c =
    let pre0 = c.requires in
    let mark = c.mark-s1.ensures in
    let mark_ok = ok_marks mark pre0 in
    let bump = c.bump-s2.ensures in
    let bump_ok = ok_bumps bump mark_ok in
    (omega arith, bump_ok)

pub eq-close_node-requires : goal.eq-close_node-requires
eq-close_node-requires t c =
    let pre0 = c.requires in
    let mark = c.mark-s1.ensures in
    let mark_ok = ok_marks mark pre0 in
    let exp = c.exp-s3.ensures in
    let exp_ok = exp.ok in
    (exp_ok.logs, small_len mark_ok)

pub eq-returns-then-at : goal.eq-returns-then-at
unfolding expr.eq_exp plan choose chosen
eq-returns-then-at t c =
    let X0 = c.args.lent.text.now in
    let T0 = c.args.lent.toks.now in
    let N0 = c.args.lent.env.now in
    let J0 = c.args.table.now in
    let L0 = c.args.scratch.now in
    let H0 = c.args.finds.now in
    let S0 = c.args.s in
    let S4 = c.mark-s1.result in
    let L5 = c.bump-s2.new.scratch in
    let S5 = c.bump-s2.result in
    let J6 = c.exp-s3.new.table in
    let L6 = c.exp-s3.new.scratch in
    let H6 = c.exp-s3.new.finds in
    let S6 = c.exp-s3.result in
    let L7 = c.close_node.new.scratch in
    let S7 = c.close_node.result in
    by_steps {m = (mem X0 T0 N0 J0 L0 H0 S0)} {m' = (mem X0 T0 N0 J6 L7 H6 S7)} (c.requires) (λ b. s_kind {a = (mem X0 T0 N0 J0 L0 H0 S0)} {e = (mem X0 T0 N0 J6 L7 H6 S7)} (s_true {a = (mem X0 T0 N0 J0 L0 H0 S0)} {e = (mem X0 T0 N0 J6 L7 H6 S7)} _ _ (kind_at _ _ (mem X0 T0 N0 J0 L0 H0 S0) _ (c.at.ensures) (c.if-at.true)) (s_mark {e = (mem X0 T0 N0 J6 L7 H6 S7)} {x = X0} {t = T0} {n = N0} {j = J0} {l = L0} {h = H0} {s = S0} {s' = S4} (c.if-left-eq0.false) (c.mark-s1.ensures) (s_bump {e = (mem X0 T0 N0 J6 L7 H6 S7)} {x = X0} {t = T0} {n = N0} {j = J0} {l = L0} {h = H0} {s = S4} {s' = S5} {l' = L5} (c.bump-s2.ensures) (s_by {a = (mem X0 T0 N0 J0 L5 H0 S5)} {c = (mem X0 T0 N0 J6 L6 H6 S6)} {e = (mem X0 T0 N0 J6 L7 H6 S7)} _ (runs_in {a = (mem X0 T0 N0 J0 L5 H0 S5)} {c = (mem X0 T0 N0 J6 L6 H6 S6)} (c.exp-s3.ensures)) (s_close {e = (mem X0 T0 N0 J6 L7 H6 S7)} {x = X0} {t = T0} {n = N0} {j = J6} {l = L6} {h = H6} {s = S6} {s' = S7} {l' = L7} (c.close_node.ensures) s_end))))))

pub eq-returns : goal.eq-returns
unfolding expr.eq_exp plan choose chosen
eq-returns t c =
    let X0 = c.args.lent.text.now in
    let T0 = c.args.lent.toks.now in
    let N0 = c.args.lent.env.now in
    let J0 = c.args.table.now in
    let L0 = c.args.scratch.now in
    let H0 = c.args.finds.now in
    let S0 = c.args.s in
    by_steps {m = (mem X0 T0 N0 J0 L0 H0 S0)} {m' = (mem X0 T0 N0 J0 L0 H0 S0)} (c.requires) (λ b. s_kind {a = (mem X0 T0 N0 J0 L0 H0 S0)} {e = (mem X0 T0 N0 J0 L0 H0 S0)} (s_false {a = (mem X0 T0 N0 J0 L0 H0 S0)} {e = (mem X0 T0 N0 J0 L0 H0 S0)} _ _ (kind_off _ _ (mem X0 T0 N0 J0 L0 H0 S0) _ (c.at.ensures) (c.if-at.false)) s_end))

pub ex-op_name-name-requires : goal.ex-op_name-name-requires
ex-op_name-name-requires t c =
    let pre0 = c.requires in
    pre0

pub ex-of_ty-typed-requires : goal.ex-of_ty-typed-requires
ex-of_ty-typed-requires t c =
    let op_name = c.in-Ok.ensures in
    let op_name_ok = op_name.ok in
    op_name_ok

pub ex-eq-s3-requires : goal.ex-eq-s3-requires
ex-eq-s3-requires t c =
    let of_ty = c.in-Err-typed.ensures in
    let of_ty_ok = of_ty.ok in
    (omega arith, of_ty_ok)

pub ex-returns-in-Err : goal.ex-returns-in-Err
unfolding decl.ex_bind plan choose chosen
ex-returns-in-Err t c =
    let X0 = c.args.lent.text.now in
    let T0 = c.args.lent.toks.now in
    let N0 = c.args.lent.env.now in
    let J0 = c.args.table.now in
    let L0 = c.args.scratch.now in
    let H0 = c.args.finds.now in
    let S0 = c.args.s in
    let L1 = c.op_name-name.new.scratch in
    let H1 = c.op_name-name.new.finds in
    let S1 = c.in-Err.s1 in
    by_steps {m = (mem X0 T0 N0 J0 L0 H0 S0)} {m' = (mem X0 T0 N0 J0 L1 H1 S1)} (c.requires) (λ b. s_by {a = (mem X0 T0 N0 J0 L0 H0 S0)} {c = (mem X0 T0 N0 J0 L1 H1 S1)} {e = (mem X0 T0 N0 J0 L1 H1 S1)} _ (runs_always {a = (mem X0 T0 N0 J0 L0 H0 S0)} {c = (mem X0 T0 N0 J0 L1 H1 S1)} (c.in-Err.ensures)) s_end)

pub ex-returns-in-Err-typed : goal.ex-returns-in-Err-typed
unfolding decl.ex_bind plan choose chosen
ex-returns-in-Err-typed t c =
    let X0 = c.args.lent.text.now in
    let T0 = c.args.lent.toks.now in
    let N0 = c.args.lent.env.now in
    let J0 = c.args.table.now in
    let L0 = c.args.scratch.now in
    let H0 = c.args.finds.now in
    let S0 = c.args.s in
    let L1 = c.op_name-name.new.scratch in
    let H1 = c.op_name-name.new.finds in
    let S1 = c.in-Ok.s1 in
    let L2 = c.of_ty-typed.new.scratch in
    let H2 = c.of_ty-typed.new.finds in
    let S2 = c.in-Err-typed.s2 in
    let J3 = c.eq-s3.new.table in
    let L3 = c.eq-s3.new.scratch in
    let H3 = c.eq-s3.new.finds in
    let S3 = c.eq-s3.result in
    by_steps {m = (mem X0 T0 N0 J0 L0 H0 S0)} {m' = (mem X0 T0 N0 J3 L3 H3 S3)} (c.requires) (λ b. s_by {a = (mem X0 T0 N0 J0 L0 H0 S0)} {c = (mem X0 T0 N0 J0 L1 H1 S1)} {e = (mem X0 T0 N0 J3 L3 H3 S3)} _ (runs_always {a = (mem X0 T0 N0 J0 L0 H0 S0)} {c = (mem X0 T0 N0 J0 L1 H1 S1)} (c.in-Ok.ensures)) (s_by {a = (mem X0 T0 N0 J0 L1 H1 S1)} {c = (mem X0 T0 N0 J0 L2 H2 S2)} {e = (mem X0 T0 N0 J3 L3 H3 S3)} _ (runs_in {a = (mem X0 T0 N0 J0 L1 H1 S1)} {c = (mem X0 T0 N0 J0 L2 H2 S2)} (c.in-Err-typed.ensures)) (s_by {a = (mem X0 T0 N0 J0 L2 H2 S2)} {c = (mem X0 T0 N0 J3 L3 H3 S3)} {e = (mem X0 T0 N0 J3 L3 H3 S3)} _ (runs_in {a = (mem X0 T0 N0 J0 L2 H2 S2)} {c = (mem X0 T0 N0 J3 L3 H3 S3)} (c.eq-s3.ensures)) s_end)))

pub ex-returns-in-Ok-typed : goal.ex-returns-in-Ok-typed
unfolding decl.ex_bind plan choose chosen
ex-returns-in-Ok-typed t c =
    let X0 = c.args.lent.text.now in
    let T0 = c.args.lent.toks.now in
    let N0 = c.args.lent.env.now in
    let J0 = c.args.table.now in
    let L0 = c.args.scratch.now in
    let H0 = c.args.finds.now in
    let S0 = c.args.s in
    let L1 = c.op_name-name.new.scratch in
    let H1 = c.op_name-name.new.finds in
    let S1 = c.in-Ok.s1 in
    let L2 = c.of_ty-typed.new.scratch in
    let H2 = c.of_ty-typed.new.finds in
    let S2 = c.in-Ok-typed.s2 in
    by_steps {m = (mem X0 T0 N0 J0 L0 H0 S0)} {m' = (mem X0 T0 N0 J0 L2 H2 S2)} (c.requires) (λ b. s_by {a = (mem X0 T0 N0 J0 L0 H0 S0)} {c = (mem X0 T0 N0 J0 L1 H1 S1)} {e = (mem X0 T0 N0 J0 L2 H2 S2)} _ (runs_always {a = (mem X0 T0 N0 J0 L0 H0 S0)} {c = (mem X0 T0 N0 J0 L1 H1 S1)} (c.in-Ok.ensures)) (s_by {a = (mem X0 T0 N0 J0 L1 H1 S1)} {c = (mem X0 T0 N0 J0 L2 H2 S2)} {e = (mem X0 T0 N0 J0 L2 H2 S2)} _ (runs_in {a = (mem X0 T0 N0 J0 L1 H1 S1)} {c = (mem X0 T0 N0 J0 L2 H2 S2)} (c.in-Ok-typed.ensures)) s_end))

pub exp-pre-got-requires : goal.exp-pre-got-requires
exp-pre-got-requires t c =
    let pre0 = c.requires in
    (omega arith, pre0)

pub exp-report_error-requires : goal.exp-report_error-requires
exp-report_error-requires t c =
    let pre = c.in-Err.ensures in
    let pre_ok = pre.ok in
    (pre_ok.holds, (let few = pre_ok.reads.few in let inside = pre_ok.reads.inside in omega arith), omega arith)

pub exp-returns-in-Ok : goal.exp-returns-in-Ok
unfolding expr.exp_must plan choose chosen
exp-returns-in-Ok t c =
    let X0 = c.args.lent.text.now in
    let T0 = c.args.lent.toks.now in
    let N0 = c.args.lent.env.now in
    let J0 = c.args.table.now in
    let L0 = c.args.scratch.now in
    let H0 = c.args.finds.now in
    let S0 = c.args.s in
    let J1 = c.pre-got.new.table in
    let L1 = c.pre-got.new.scratch in
    let H1 = c.pre-got.new.finds in
    let S1 = c.in-Ok.s1 in
    by_steps {m = (mem X0 T0 N0 J0 L0 H0 S0)} {m' = (mem X0 T0 N0 J1 L1 H1 S1)} (c.requires) (λ b. s_run {a = (mem X0 T0 N0 J0 L0 H0 S0)} {c = (mem X0 T0 N0 J1 L1 H1 S1)} {e = (mem X0 T0 N0 J1 L1 H1 S1)} (runs_in {a = (mem X0 T0 N0 J0 L0 H0 S0)} {c = (mem X0 T0 N0 J1 L1 H1 S1)} (c.in-Ok.ensures)) s_end)

pub exp-returns-in-Err : goal.exp-returns-in-Err
unfolding expr.exp_must plan choose chosen
exp-returns-in-Err t c =
    let X0 = c.args.lent.text.now in
    let T0 = c.args.lent.toks.now in
    let N0 = c.args.lent.env.now in
    let J0 = c.args.table.now in
    let L0 = c.args.scratch.now in
    let H0 = c.args.finds.now in
    let S0 = c.args.s in
    let J1 = c.pre-got.new.table in
    let L1 = c.pre-got.new.scratch in
    let H1 = c.pre-got.new.finds in
    let S1 = c.in-Err.s1 in
    let H2 = c.report_error.new.finds in
    let S2 = c.report_error.result in
    by_steps {m = (mem X0 T0 N0 J0 L0 H0 S0)} {m' = (mem X0 T0 N0 J1 L1 H2 S2)} (c.requires) (λ b. s_run {a = (mem X0 T0 N0 J0 L0 H0 S0)} {c = (mem X0 T0 N0 J1 L1 H1 S1)} {e = (mem X0 T0 N0 J1 L1 H2 S2)} (runs_in {a = (mem X0 T0 N0 J0 L0 H0 S0)} {c = (mem X0 T0 N0 J1 L1 H1 S1)} (c.in-Err.ensures)) (s_report {e = (mem X0 T0 N0 J1 L1 H2 S2)} {x = X0} {t = T0} {n = N0} {j = J1} {l = L1} {h = H1} {s = S1} {s' = S2} {h' = H2} (c.report_error.ensures) s_end))

pub fap-app_start-s1-requires : goal.fap-app_start-s1-requires
fap-app_start-s1-requires t c =
    let pre0 = c.requires.0 in
    pre0

pub fap-refuse_for-requires : goal.fap-refuse_for-requires
fap-refuse_for-requires t c =
    tt

pub fap-returns-then-left-eq0 : goal.fap-returns-then-left-eq0
unfolding decl.str_app plan choose chosen decl.ended util.want util.eat hushed
fap-returns-then-left-eq0 t c =
    let X0 = c.args.lent.text.now in
    let T0 = c.args.lent.toks.now in
    let N0 = c.args.lent.env.now in
    let J0 = c.args.table.now in
    let L0 = c.args.scratch.now in
    let H0 = c.args.finds.now in
    let S0 = c.args.s in
    let L1 = c.app_start-s1.new.scratch in
    let H1 = c.app_start-s1.new.finds in
    let S1 = c.app_start-s1.result in
    let S3 = c.refuse_for.result in
    in_steps {m = (mem X0 T0 N0 J0 L0 H0 S0)} {m' = (mem X0 T0 N0 J0 L1 H1 S3)} (c.requires.0) (s_by {a = (mem X0 T0 N0 J0 L0 H0 S0)} {c = (mem X0 T0 N0 J0 L1 H1 S1)} {e = (mem X0 T0 N0 J0 L1 H1 S3)} _ (runs_in {a = (mem X0 T0 N0 J0 L0 H0 S0)} {c = (mem X0 T0 N0 J0 L1 H1 S1)} (c.app_start-s1.ensures)) (s_shut (c.if-left-eq0.true) (c.refuse_for.ensures) (λ k l. refl)))

pub fap-mark-s2-requires : goal.fap-mark-s2-requires
fap-mark-s2-requires t c =
    tt

pub fap-stx-found-requires : goal.fap-stx-found-requires
fap-stx-found-requires t c =
    let app_start = c.app_start-s1.ensures in
    let app_start_ok = app_start.ok in
    let mark = c.mark-s2.ensures in
    let mark_ok = ok_marks mark app_start_ok in
    (omega arith, mark_ok)

pub fap-close_node-s4-requires : goal.fap-close_node-s4-requires
fap-close_node-s4-requires t c =
    let app_start = c.app_start-s1.ensures in
    let app_start_ok = app_start.ok in
    let mark = c.mark-s2.ensures in
    let mark_ok = ok_marks mark app_start_ok in
    let stx = c.in-Ok.ensures in
    let stx_ok = stx.ok in
    (stx_ok.logs, small_len mark_ok)

pub fap-end_node-end-requires : goal.fap-end_node-end-requires
fap-end_node-end-requires t c =
    let pre1 = c.requires.1 in
    let stx = c.in-Ok.ensures in
    let stx_ok = stx.ok in
    let close_node = c.close_node-s4.ensures in
    let close_node_ok = ok_adds close_node stx_ok in
    (close_node_ok, pre1, omega arith)

pub fap-dec-got-requires : goal.fap-dec-got-requires
fap-dec-got-requires t c =
    let stx = c.in-Err.ensures in
    let stx_ok = stx.ok in
    (omega arith, stx_ok)

pub fap-either-s4-requires : goal.fap-either-s4-requires
fap-either-s4-requires t c =
    tt

pub fap-give_back-s5-requires : goal.fap-give_back-s5-requires
fap-give_back-s5-requires t c =
    tt

pub fap-end_node-end-requires-in-Err : goal.fap-end_node-end-requires-in-Err
fap-end_node-end-requires-in-Err t c =
    let pre1 = c.requires.1 in
    let stx = c.in-Err.ensures in
    let stx_ok = stx.ok in
    let dec = c.dec-got.ensures in
    let either = c.either-s4.ensures in
    let give_back = c.give_back-s5.ensures in
    let give_back_ok = ok_back (settled either (runs_in {b = 0} dec)) give_back stx_ok in
    (give_back_ok, pre1, omega arith)

pub fap-returns-in-Ok : goal.fap-returns-in-Ok
unfolding decl.str_app plan choose chosen
fap-returns-in-Ok t c =
    let X0 = c.args.lent.text.now in
    let T0 = c.args.lent.toks.now in
    let N0 = c.args.lent.env.now in
    let J0 = c.args.table.now in
    let L0 = c.args.scratch.now in
    let H0 = c.args.finds.now in
    let S0 = c.args.s in
    let L1 = c.app_start-s1.new.scratch in
    let H1 = c.app_start-s1.new.finds in
    let S1 = c.app_start-s1.result in
    let S3 = c.mark-s2.result in
    let J4 = c.stx-found.new.table in
    let L4 = c.stx-found.new.scratch in
    let H4 = c.stx-found.new.finds in
    let S4 = c.in-Ok.s3 in
    let L5 = c.close_node-s4.new.scratch in
    let S5 = c.close_node-s4.result in
    let L6 = c.end_node-end.new.scratch in
    let H6 = c.end_node-end.new.finds in
    let S6 = c.end_node-end.result in
    in_steps {m = (mem X0 T0 N0 J0 L0 H0 S0)} {m' = (mem X0 T0 N0 J4 L6 H6 S6)} (c.requires.0) (s_by {a = (mem X0 T0 N0 J0 L0 H0 S0)} {c = (mem X0 T0 N0 J0 L1 H1 S1)} {e = (mem X0 T0 N0 J4 L6 H6 S6)} _ (runs_in {a = (mem X0 T0 N0 J0 L0 H0 S0)} {c = (mem X0 T0 N0 J0 L1 H1 S1)} (c.app_start-s1.ensures)) (s_mark {e = (mem X0 T0 N0 J4 L6 H6 S6)} {x = X0} {t = T0} {n = N0} {j = J0} {l = L1} {h = H1} {s = S1} {s' = S3} (c.if-left-eq0.false) (c.mark-s2.ensures) (s_run {a = (mem X0 T0 N0 J0 L1 H1 S3)} {c = (mem X0 T0 N0 J4 L4 H4 S4)} {e = (mem X0 T0 N0 J4 L6 H6 S6)} (runs_in {a = (mem X0 T0 N0 J0 L1 H1 S3)} {c = (mem X0 T0 N0 J4 L4 H4 S4)} (c.in-Ok.ensures)) (s_close {e = (mem X0 T0 N0 J4 L6 H6 S6)} {x = X0} {t = T0} {n = N0} {j = J4} {l = L4} {h = H4} {s = S4} {s' = S5} {l' = L5} (c.close_node-s4.ensures) (s_by {a = (mem X0 T0 N0 J4 L5 H4 S5)} {c = (mem X0 T0 N0 J4 L6 H6 S6)} {e = (mem X0 T0 N0 J4 L6 H6 S6)} _ (c.end_node-end.ensures) s_end)))))

pub fap-returns-in-Err : goal.fap-returns-in-Err
unfolding decl.str_app plan choose chosen
fap-returns-in-Err t c =
    let X0 = c.args.lent.text.now in
    let T0 = c.args.lent.toks.now in
    let N0 = c.args.lent.env.now in
    let J0 = c.args.table.now in
    let L0 = c.args.scratch.now in
    let H0 = c.args.finds.now in
    let S0 = c.args.s in
    let L1 = c.app_start-s1.new.scratch in
    let H1 = c.app_start-s1.new.finds in
    let S1 = c.app_start-s1.result in
    let S3 = c.mark-s2.result in
    let J4 = c.stx-found.new.table in
    let L4 = c.stx-found.new.scratch in
    let H4 = c.stx-found.new.finds in
    let S4 = c.in-Err.s3 in
    let J5 = c.dec-got.new.table in
    let L5 = c.dec-got.new.scratch in
    let H5 = c.dec-got.new.finds in
    let S5 = out_state c.dec-got.result in
    let S6 = c.either-s4.result in
    let S7 = c.give_back-s5.result in
    let L8 = c.end_node-end-in-Err.new.scratch in
    let H8 = c.end_node-end-in-Err.new.finds in
    let S8 = c.end_node-end-in-Err.result in
    in_steps {m = (mem X0 T0 N0 J0 L0 H0 S0)} {m' = (mem X0 T0 N0 J5 L8 H8 S8)} (c.requires.0) (s_by {a = (mem X0 T0 N0 J0 L0 H0 S0)} {c = (mem X0 T0 N0 J0 L1 H1 S1)} {e = (mem X0 T0 N0 J5 L8 H8 S8)} _ (runs_in {a = (mem X0 T0 N0 J0 L0 H0 S0)} {c = (mem X0 T0 N0 J0 L1 H1 S1)} (c.app_start-s1.ensures)) (s_mark {e = (mem X0 T0 N0 J5 L8 H8 S8)} {x = X0} {t = T0} {n = N0} {j = J0} {l = L1} {h = H1} {s = S1} {s' = S3} (c.if-left-eq0.false) (c.mark-s2.ensures) (s_run {a = (mem X0 T0 N0 J0 L1 H1 S3)} {c = (mem X0 T0 N0 J4 L4 H4 S4)} {e = (mem X0 T0 N0 J5 L8 H8 S8)} (runs_in {a = (mem X0 T0 N0 J0 L1 H1 S3)} {c = (mem X0 T0 N0 J4 L4 H4 S4)} (c.in-Err.ensures)) (s_scoped {x = X0} {t = T0} {e = N0} {j = J4} {l = L4} {y = H4} {j' = J5} {l' = L5} {y' = H5} {s = S4} {s' = S6} {c = (mem X0 T0 N0 J5 L8 H8 S8)} {r = S7} (settled (c.either-s4.ensures) (runs_in {a = (mem X0 T0 N0 J4 L4 H4 S4)} {c = (mem X0 T0 N0 J5 L5 H5 S5)} (c.dec-got.ensures))) (c.give_back-s5.ensures) (s_by {a = (mem X0 T0 N0 J5 L5 H5 S7)} {c = (mem X0 T0 N0 J5 L8 H8 S8)} {e = (mem X0 T0 N0 J5 L8 H8 S8)} _ (c.end_node-end-in-Err.ensures) s_end)))))

pub fct-eat-name-requires : goal.fct-eat-name-requires
fct-eat-name-requires t c =
    let pre0 = c.requires in
    (pre0.reads, pre0.logs, pre0.holds, omega arith)

pub fct-want-s2-requires : goal.fct-want-s2-requires
fct-want-s2-requires t c =
    let pre0 = c.requires in
    let eat = c.in-Ok.ensures in
    let eat_ok = ok_eats eat pre0 in
    (eat_ok.reads, eat_ok.logs, eat_ok.holds, omega arith)

pub fct-pa-s3-requires : goal.fct-pa-s3-requires
fct-pa-s3-requires t c =
    let pre0 = c.requires in
    let eat = c.in-Ok.ensures in
    let eat_ok = ok_eats eat pre0 in
    let want = c.want-s2.ensures in
    let want_ok = ok_eats want eat_ok in
    (omega arith, want_ok)

pub fct-want-s4-requires : goal.fct-want-s4-requires
fct-want-s4-requires t c =
    let pa = c.pa-s3.ensures in
    let pa_ok = pa.ok in
    (pa_ok.reads, pa_ok.logs, pa_ok.holds, omega arith)

pub fct-aso-s5-requires : goal.fct-aso-s5-requires
fct-aso-s5-requires t c =
    let pa = c.pa-s3.ensures in
    let pa_ok = pa.ok in
    let want2 = c.want-s4.ensures in
    let want2_ok = ok_eats want2 pa_ok in
    (omega arith, want2_ok)

pub fct-want-s6-requires : goal.fct-want-s6-requires
fct-want-s6-requires t c =
    let aso = c.aso-s5.ensures in
    let aso_ok = aso.ok in
    (aso_ok.reads, aso_ok.logs, aso_ok.holds, omega arith)

pub fct-stm-s7-requires : goal.fct-stm-s7-requires
fct-stm-s7-requires t c =
    let aso = c.aso-s5.ensures in
    let aso_ok = aso.ok in
    let want3 = c.want-s6.ensures in
    let want3_ok = ok_eats want3 aso_ok in
    (omega arith, want3_ok)

pub fct-returns-in-Err : goal.fct-returns-in-Err
unfolding decl.functor_bind plan choose chosen
fct-returns-in-Err t c =
    let X0 = c.args.lent.text.now in
    let T0 = c.args.lent.toks.now in
    let N0 = c.args.lent.env.now in
    let J0 = c.args.table.now in
    let L0 = c.args.scratch.now in
    let H0 = c.args.finds.now in
    let S0 = c.args.s in
    let L1 = c.eat-name.new.scratch in
    let H1 = c.eat-name.new.finds in
    let S1 = c.in-Err.s1 in
    by_steps {m = (mem X0 T0 N0 J0 L0 H0 S0)} {m' = (mem X0 T0 N0 J0 L1 H1 S1)} (c.requires) (λ b. s_eats _ _ {x = X0} {t = T0} {n = N0} {j = J0} {l = L0} {h = H0} {l' = L1} {s = S0} {s' = S1} {e = (mem X0 T0 N0 J0 L1 H1 S1)} _ {h' = H1} (c.in-Err.ensures) s_end)

pub fct-returns-in-Ok : goal.fct-returns-in-Ok
unfolding decl.functor_bind plan choose chosen
fct-returns-in-Ok t c =
    let X0 = c.args.lent.text.now in
    let T0 = c.args.lent.toks.now in
    let N0 = c.args.lent.env.now in
    let J0 = c.args.table.now in
    let L0 = c.args.scratch.now in
    let H0 = c.args.finds.now in
    let S0 = c.args.s in
    let L1 = c.eat-name.new.scratch in
    let H1 = c.eat-name.new.finds in
    let S1 = c.in-Ok.s1 in
    let L2 = c.want-s2.new.scratch in
    let H2 = c.want-s2.new.finds in
    let S2 = c.want-s2.result in
    let J3 = c.pa-s3.new.table in
    let L3 = c.pa-s3.new.scratch in
    let H3 = c.pa-s3.new.finds in
    let S3 = c.pa-s3.result in
    let L4 = c.want-s4.new.scratch in
    let H4 = c.want-s4.new.finds in
    let S4 = c.want-s4.result in
    let J5 = c.aso-s5.new.table in
    let L5 = c.aso-s5.new.scratch in
    let H5 = c.aso-s5.new.finds in
    let S5 = c.aso-s5.result in
    let L6 = c.want-s6.new.scratch in
    let H6 = c.want-s6.new.finds in
    let S6 = c.want-s6.result in
    let J7 = c.stm-s7.new.table in
    let L7 = c.stm-s7.new.scratch in
    let H7 = c.stm-s7.new.finds in
    let S7 = c.stm-s7.result in
    by_steps {m = (mem X0 T0 N0 J0 L0 H0 S0)} {m' = (mem X0 T0 N0 J7 L7 H7 S7)} (c.requires) (λ b. s_eats _ _ {x = X0} {t = T0} {n = N0} {j = J0} {l = L0} {h = H0} {l' = L1} {s = S0} {s' = S1} {e = (mem X0 T0 N0 J7 L7 H7 S7)} _ {h' = H1} (c.in-Ok.ensures) (s_eats _ _ {x = X0} {t = T0} {n = N0} {j = J0} {l = L1} {h = H1} {l' = L2} {s = S1} {s' = S2} {e = (mem X0 T0 N0 J7 L7 H7 S7)} _ {h' = H2} (c.want-s2.ensures) (s_by {a = (mem X0 T0 N0 J0 L2 H2 S2)} {c = (mem X0 T0 N0 J3 L3 H3 S3)} {e = (mem X0 T0 N0 J7 L7 H7 S7)} _ (runs_in {a = (mem X0 T0 N0 J0 L2 H2 S2)} {c = (mem X0 T0 N0 J3 L3 H3 S3)} (c.pa-s3.ensures)) (s_eats _ _ {x = X0} {t = T0} {n = N0} {j = J3} {l = L3} {h = H3} {l' = L4} {s = S3} {s' = S4} {e = (mem X0 T0 N0 J7 L7 H7 S7)} _ {h' = H4} (c.want-s4.ensures) (s_by {a = (mem X0 T0 N0 J3 L4 H4 S4)} {c = (mem X0 T0 N0 J5 L5 H5 S5)} {e = (mem X0 T0 N0 J7 L7 H7 S7)} _ (runs_in {a = (mem X0 T0 N0 J3 L4 H4 S4)} {c = (mem X0 T0 N0 J5 L5 H5 S5)} (c.aso-s5.ensures)) (s_eats _ _ {x = X0} {t = T0} {n = N0} {j = J5} {l = L5} {h = H5} {l' = L6} {s = S5} {s' = S6} {e = (mem X0 T0 N0 J7 L7 H7 S7)} _ {h' = H6} (c.want-s6.ensures) (s_by {a = (mem X0 T0 N0 J5 L6 H6 S6)} {c = (mem X0 T0 N0 J7 L7 H7 S7)} {e = (mem X0 T0 N0 J7 L7 H7 S7)} _ (runs_in {a = (mem X0 T0 N0 J5 L6 H6 S6)} {c = (mem X0 T0 N0 J7 L7 H7 S7)} (c.stm-s7.ensures)) s_end)))))))

pub fun-bump_if-s1-requires : goal.fun-bump_if-s1-requires
fun-bump_if-s1-requires t c =
    let pre0 = c.requires in
    (pre0.reads, pre0.logs)

pub fun-mny-s2-requires : goal.fun-mny-s2-requires
fun-mny-s2-requires t c =
    let pre0 = c.requires in
    let bump_if = c.bump_if-s1.ensures in
    let bump_if_ok = ok_takes bump_if pre0 in
    (omega arith, bump_if_ok)

pub fun-returns : goal.fun-returns
unfolding decl.fun_bind util.many_sep decl.many_closure util.choose plan choose chosen
fun-returns t c =
    let X0 = c.args.lent.text.now in
    let T0 = c.args.lent.toks.now in
    let N0 = c.args.lent.env.now in
    let J0 = c.args.table.now in
    let L0 = c.args.scratch.now in
    let H0 = c.args.finds.now in
    let S0 = c.args.s in
    let L1 = c.bump_if-s1.new.scratch in
    let S1 = c.bump_if-s1.result in
    let J2 = c.mny-s2.new.table in
    let L2 = c.mny-s2.new.scratch in
    let H2 = c.mny-s2.new.finds in
    let S2 = c.mny-s2.result in
    by_steps {m = (mem X0 T0 N0 J0 L0 H0 S0)} {m' = (mem X0 T0 N0 J2 L2 H2 S2)} (c.requires) (λ b. s_takes _ _ {x = X0} {t = T0} {n = N0} {j = J0} {l = L0} {h = H0} {l' = L1} {s = S0} {s' = S1} {e = (mem X0 T0 N0 J2 L2 H2 S2)} _ (c.bump_if-s1.ensures) (s_run {a = (mem X0 T0 N0 J0 L1 H0 S1)} {c = (mem X0 T0 N0 J2 L2 H2 S2)} {e = (mem X0 T0 N0 J2 L2 H2 S2)} (c.mny-s2.ensures) s_end))

pub hs-bump-s1-requires : goal.hs-bump-s1-requires
hs-bump-s1-requires t c =
    let pre0 = c.requires.0 in
    (pre0.reads, pre0.logs)

pub hs-at-requires : goal.hs-at-requires
hs-at-requires t c =
    let pre0 = c.requires.0 in
    let bump = c.bump-s1.ensures in
    let bump_ok = ok_bumps bump pre0 in
    bump_ok.reads

pub hs-refuse_for-requires : goal.hs-refuse_for-requires
hs-refuse_for-requires t c =
    tt

pub hs-returns-then-left-eq0 : goal.hs-returns-then-left-eq0
unfolding expr.hash_exp expr.end_closure util.choose plan choose chosen hushed
hs-returns-then-left-eq0 t c =
    let X0 = c.args.lent.text.now in
    let T0 = c.args.lent.toks.now in
    let N0 = c.args.lent.env.now in
    let J0 = c.args.table.now in
    let L0 = c.args.scratch.now in
    let H0 = c.args.finds.now in
    let S0 = c.args.s in
    let L1 = c.bump-s1.new.scratch in
    let S1 = c.bump-s1.result in
    let S5 = c.refuse_for.result in
    in_steps {m = (mem X0 T0 N0 J0 L0 H0 S0)} {m' = (mem X0 T0 N0 J0 L1 H0 S5)} (c.requires.0) (s_bump {e = (mem X0 T0 N0 J0 L1 H0 S5)} {x = X0} {t = T0} {n = N0} {j = J0} {l = L0} {h = H0} {s = S0} {s' = S1} {l' = L1} (c.bump-s1.ensures) (s_kind {a = (mem X0 T0 N0 J0 L1 H0 S1)} {e = (mem X0 T0 N0 J0 L1 H0 S5)} (s_true {a = (mem X0 T0 N0 J0 L1 H0 S1)} {e = (mem X0 T0 N0 J0 L1 H0 S5)} _ _ (kind_at _ _ (mem X0 T0 N0 J0 L1 H0 S1) _ (c.at.ensures) (c.if-at.true)) (s_shut (c.if-left-eq0.true) (c.refuse_for.ensures) (λ k l. refl)))))

pub hs-mark-s2-requires : goal.hs-mark-s2-requires
hs-mark-s2-requires t c =
    tt

pub hs-bump-s3-requires : goal.hs-bump-s3-requires
hs-bump-s3-requires t c =
    let pre0 = c.requires.0 in
    let bump = c.bump-s1.ensures in
    let bump_ok = ok_bumps bump pre0 in
    let mark = c.mark-s2.ensures in
    let mark_ok = ok_marks mark bump_ok in
    (mark_ok.reads, mark_ok.logs)

pub hs-cl-s4-requires : goal.hs-cl-s4-requires
hs-cl-s4-requires t c =
    let pre0 = c.requires.0 in
    let bump = c.bump-s1.ensures in
    let bump_ok = ok_bumps bump pre0 in
    let mark = c.mark-s2.ensures in
    let mark_ok = ok_marks mark bump_ok in
    let bump2 = c.bump-s3.ensures in
    let bump2_ok = ok_bumps bump2 mark_ok in
    (omega arith, (bump2_ok, small_len mark_ok, omega arith))

pub hs-close_node-requires : goal.hs-close_node-requires
hs-close_node-requires t c =
    let pre1 = c.requires.1 in
    let cl = c.cl-s4.ensures in
    let cl_ok = cl.ok in
    (cl_ok.logs, pre1)

pub hs-returns-then-at : goal.hs-returns-then-at
unfolding expr.hash_exp expr.end_closure util.choose plan choose chosen
hs-returns-then-at t c =
    let X0 = c.args.lent.text.now in
    let T0 = c.args.lent.toks.now in
    let N0 = c.args.lent.env.now in
    let J0 = c.args.table.now in
    let L0 = c.args.scratch.now in
    let H0 = c.args.finds.now in
    let S0 = c.args.s in
    let L1 = c.bump-s1.new.scratch in
    let S1 = c.bump-s1.result in
    let S5 = c.mark-s2.result in
    let L6 = c.bump-s3.new.scratch in
    let S6 = c.bump-s3.result in
    let J7 = c.cl-s4.new.table in
    let L7 = c.cl-s4.new.scratch in
    let H7 = c.cl-s4.new.finds in
    let S7 = c.cl-s4.result in
    let L8 = c.close_node.new.scratch in
    let S8 = c.close_node.result in
    in_steps {m = (mem X0 T0 N0 J0 L0 H0 S0)} {m' = (mem X0 T0 N0 J7 L8 H7 S8)} (c.requires.0) (s_bump {e = (mem X0 T0 N0 J7 L8 H7 S8)} {x = X0} {t = T0} {n = N0} {j = J0} {l = L0} {h = H0} {s = S0} {s' = S1} {l' = L1} (c.bump-s1.ensures) (s_kind {a = (mem X0 T0 N0 J0 L1 H0 S1)} {e = (mem X0 T0 N0 J7 L8 H7 S8)} (s_true {a = (mem X0 T0 N0 J0 L1 H0 S1)} {e = (mem X0 T0 N0 J7 L8 H7 S8)} _ _ (kind_at _ _ (mem X0 T0 N0 J0 L1 H0 S1) _ (c.at.ensures) (c.if-at.true)) (s_mark {e = (mem X0 T0 N0 J7 L8 H7 S8)} {x = X0} {t = T0} {n = N0} {j = J0} {l = L1} {h = H0} {s = S1} {s' = S5} (c.if-left-eq0.false) (c.mark-s2.ensures) (s_bump {e = (mem X0 T0 N0 J7 L8 H7 S8)} {x = X0} {t = T0} {n = N0} {j = J0} {l = L1} {h = H0} {s = S5} {s' = S6} {l' = L6} (c.bump-s3.ensures) (s_by {a = (mem X0 T0 N0 J0 L6 H0 S6)} {c = (mem X0 T0 N0 J7 L7 H7 S7)} {e = (mem X0 T0 N0 J7 L8 H7 S8)} _ (c.cl-s4.ensures) (s_close {e = (mem X0 T0 N0 J7 L8 H7 S8)} {x = X0} {t = T0} {n = N0} {j = J7} {l = L7} {h = H7} {s = S7} {s' = S8} {l' = L8} (c.close_node.ensures) s_end)))))))

pub hs-lab-s2-requires : goal.hs-lab-s2-requires
hs-lab-s2-requires t c =
    let pre0 = c.requires.0 in
    let bump = c.bump-s1.ensures in
    let bump_ok = ok_bumps bump pre0 in
    (bump_ok.reads, bump_ok.logs, bump_ok.holds)

pub hs-close_node-requires-2 : goal.hs-close_node-requires-2
hs-close_node-requires-2 t c =
    let pre0 = c.requires.0 in
    let pre1 = c.requires.1 in
    let bump = c.bump-s1.ensures in
    let bump_ok = ok_bumps bump pre0 in
    let lab = c.lab-s2.ensures in
    let lab_ok = ok_eats lab bump_ok in
    (lab_ok.logs, pre1)

pub hs-returns : goal.hs-returns
unfolding expr.hash_exp expr.end_closure util.choose plan choose chosen
hs-returns t c =
    let X0 = c.args.lent.text.now in
    let T0 = c.args.lent.toks.now in
    let N0 = c.args.lent.env.now in
    let J0 = c.args.table.now in
    let L0 = c.args.scratch.now in
    let H0 = c.args.finds.now in
    let S0 = c.args.s in
    let L1 = c.bump-s1.new.scratch in
    let S1 = c.bump-s1.result in
    let L4 = c.lab-s2.new.scratch in
    let H4 = c.lab-s2.new.finds in
    let S4 = c.lab-s2.result in
    let L5 = c.close_node-2.new.scratch in
    let S5 = c.close_node-2.result in
    in_steps {m = (mem X0 T0 N0 J0 L0 H0 S0)} {m' = (mem X0 T0 N0 J0 L5 H4 S5)} (c.requires.0) (s_bump {e = (mem X0 T0 N0 J0 L5 H4 S5)} {x = X0} {t = T0} {n = N0} {j = J0} {l = L0} {h = H0} {s = S0} {s' = S1} {l' = L1} (c.bump-s1.ensures) (s_kind {a = (mem X0 T0 N0 J0 L1 H0 S1)} {e = (mem X0 T0 N0 J0 L5 H4 S5)} (s_false {a = (mem X0 T0 N0 J0 L1 H0 S1)} {e = (mem X0 T0 N0 J0 L5 H4 S5)} _ _ (kind_off _ _ (mem X0 T0 N0 J0 L1 H0 S1) _ (c.at.ensures) (c.if-at.false)) (s_eats _ _ {x = X0} {t = T0} {n = N0} {j = J0} {l = L1} {h = H0} {l' = L4} {s = S1} {s' = S4} {e = (mem X0 T0 N0 J0 L5 H4 S5)} _ {h' = H4} (c.lab-s2.ensures) (s_close {e = (mem X0 T0 N0 J0 L5 H4 S5)} {x = X0} {t = T0} {n = N0} {j = J0} {l = L4} {h = H4} {s = S4} {s' = S5} {l' = L5} (c.close_node-2.ensures) s_end)))))

pub ic-loop-s2-init : goal.ic-loop-s2-init
ic-loop-s2-init t c =
    let pre0 = c.requires in
    loop_starts pre0

pub ic-sgx-turn-requires : goal.ic-sgx-turn-requires
ic-sgx-turn-requires t c =
    let inv = c.loop-s2.invariant.ok in
    (omega arith, inv)

pub ic-loop-s2-smaller : goal.ic-loop-s2-smaller
ic-loop-s2-smaller t c =
    let sgx = c.in-Ok.ensures in
    loop_falls (sig_exp_advances _ _) (runs_in {b = 0} sgx)

pub ic-loop-s2-preserved : goal.ic-loop-s2-preserved
ic-loop-s2-preserved t c =
    let inv = c.loop-s2.invariant in
    let sgx = c.in-Ok.ensures in
    loop_goes (sig_exp_advances _ _) inv (runs_in sgx)

pub ic-returns-in-Err : goal.ic-returns-in-Err
ic-returns-in-Err t c =
    let inv = c.loop-s2.invariant in
    let sgx = c.in-Err.ensures in
    loop_ends (sig_exp_advances _ _) inv (runs_in sgx)

pub id-fixity_at-fix-requires : goal.id-fixity_at-fix-requires
id-fixity_at-fix-requires t c =
    let pre0 = c.requires.0 in
    (pre0.reads, pre0.names, pre0.stands)

pub id-app-s1-requires : goal.id-app-s1-requires
id-app-s1-requires t c =
    let pre0 = c.requires.0 in
    let pre1 = c.requires.1 in
    (omega arith, (pre0, pre1))

pub id-opr-requires : goal.id-opr-requires
id-opr-requires t c =
    let pre0 = c.requires.0 in
    let pre1 = c.requires.1 in
    (omega arith, (pre0, pre1))

pub id-returns-in-None : goal.id-returns-in-None
unfolding expr.name_step plan choose chosen
id-returns-in-None t c =
    let X0 = c.args.lent.text.now in
    let T0 = c.args.lent.toks.now in
    let N0 = c.args.lent.env.now in
    let J0 = c.args.table.now in
    let L0 = c.args.scratch.now in
    let H0 = c.args.finds.now in
    let S0 = c.args.s in
    let J2 = c.app-s1.new.table in
    let L2 = c.app-s1.new.scratch in
    let H2 = c.app-s1.new.finds in
    let S2 = c.app-s1.result in
    in_steps {m = (mem X0 T0 N0 J0 L0 H0 S0)} {m' = (mem X0 T0 N0 J2 L2 H2 S2)} (c.requires.0) (s_fixed {a = (mem X0 T0 N0 J0 L0 H0 S0)} {e = (mem X0 T0 N0 J2 L2 H2 S2)} (c.in-None.ensures) (s_by {a = (mem X0 T0 N0 J0 L0 H0 S0)} {c = (mem X0 T0 N0 J2 L2 H2 S2)} {e = (mem X0 T0 N0 J2 L2 H2 S2)} _ (c.app-s1.ensures) s_end))

pub id-returns-in-Some : goal.id-returns-in-Some
unfolding expr.name_step plan choose chosen
id-returns-in-Some t c =
    let X0 = c.args.lent.text.now in
    let T0 = c.args.lent.toks.now in
    let N0 = c.args.lent.env.now in
    let J0 = c.args.table.now in
    let L0 = c.args.scratch.now in
    let H0 = c.args.finds.now in
    let S0 = c.args.s in
    let J2 = c.opr.new.table in
    let L2 = c.opr.new.scratch in
    let H2 = c.opr.new.finds in
    let S2 = out_state c.opr.result in
    in_steps {m = (mem X0 T0 N0 J0 L0 H0 S0)} {m' = (mem X0 T0 N0 J2 L2 H2 S2)} (c.requires.0) (s_fixed {a = (mem X0 T0 N0 J0 L0 H0 S0)} {e = (mem X0 T0 N0 J2 L2 H2 S2)} (c.in-Some.ensures) (s_by {a = (mem X0 T0 N0 J0 L0 H0 S0)} {c = (mem X0 T0 N0 J2 L2 H2 S2)} {e = (mem X0 T0 N0 J2 L2 H2 S2)} _ (c.opr.ensures) s_end))

pub itm-arm-requires : goal.itm-arm-requires
itm-arm-requires t c =
    let pre0 = c.requires in
    (omega arith, pre0)

pub itm-vl-requires : goal.itm-vl-requires
itm-vl-requires t c =
    let pre0 = c.requires in
    (omega arith, pre0)

pub itm-fun-requires : goal.itm-fun-requires
itm-fun-requires t c =
    let pre0 = c.requires in
    (omega arith, pre0)

pub itm-cs-requires : goal.itm-cs-requires
itm-cs-requires t c =
    let pre0 = c.requires in
    (omega arith, pre0)

pub itm-ex-requires : goal.itm-ex-requires
itm-ex-requires t c =
    let pre0 = c.requires in
    (omega arith, pre0)

pub itm-stb-requires : goal.itm-stb-requires
itm-stb-requires t c =
    let pre0 = c.requires in
    (omega arith, pre0)

pub itm-sgb-requires : goal.itm-sgb-requires
itm-sgb-requires t c =
    let pre0 = c.requires in
    (omega arith, pre0)

pub itm-fct-requires : goal.itm-fct-requires
itm-fct-requires t c =
    let pre0 = c.requires in
    (omega arith, pre0)

pub itm-returns-in-Arm : goal.itm-returns-in-Arm
unfolding decl.many_closure util.choose plan choose chosen
itm-returns-in-Arm t c =
    let pre0 = c.requires in
    let arm = c.arm.ensures in
    rw c.in-Arm.is (by_steps pre0 (λ b. s_by _ (runs_in arm) s_end))

pub itm-returns-in-ValBind : goal.itm-returns-in-ValBind
unfolding decl.many_closure util.choose plan choose chosen
itm-returns-in-ValBind t c =
    let pre0 = c.requires in
    let vl = c.vl.ensures in
    rw c.in-ValBind.is (by_steps pre0 (λ b. s_by _ (runs_in vl) s_end))

pub itm-returns-in-FunBind : goal.itm-returns-in-FunBind
unfolding decl.many_closure util.choose plan choose chosen
itm-returns-in-FunBind t c =
    let pre0 = c.requires in
    let fun = c.fun.ensures in
    rw c.in-FunBind.is (by_steps pre0 (λ b. s_by _ (runs_in fun) s_end))

pub itm-returns-in-FunBindCase : goal.itm-returns-in-FunBindCase
unfolding decl.many_closure util.choose plan choose chosen
itm-returns-in-FunBindCase t c =
    let pre0 = c.requires in
    let cs = c.cs.ensures in
    rw c.in-FunBindCase.is (by_steps pre0 (λ b. s_by _ (runs_in cs) s_end))

pub itm-returns-in-ExBind : goal.itm-returns-in-ExBind
unfolding decl.many_closure util.choose plan choose chosen
itm-returns-in-ExBind t c =
    let pre0 = c.requires in
    let ex = c.ex.ensures in
    rw c.in-ExBind.is (by_steps pre0 (λ b. s_by _ (runs_in ex) s_end))

pub itm-returns-in-StrBind : goal.itm-returns-in-StrBind
unfolding decl.many_closure util.choose plan choose chosen
itm-returns-in-StrBind t c =
    let pre0 = c.requires in
    let stb = c.stb.ensures in
    rw c.in-StrBind.is (by_steps pre0 (λ b. s_by _ (runs_in stb) s_end))

pub itm-returns-in-SigBind : goal.itm-returns-in-SigBind
unfolding decl.many_closure util.choose plan choose chosen
itm-returns-in-SigBind t c =
    let pre0 = c.requires in
    let sgb = c.sgb.ensures in
    rw c.in-SigBind.is (by_steps pre0 (λ b. s_by _ (runs_in sgb) s_end))

pub itm-returns-in_default : goal.itm-returns-in_default
unfolding decl.many_closure plan choose chosen
itm-returns-in_default t c =
    let pre0 = c.requires in
    let fct = c.fct.ensures in
    by_steps pre0 (λ b. s_second _ _ _ _ _ _ (other_node _ _ c.in_default.not-Arm) (s_second _ _ _ _ _ _ (other_node _ _ c.in_default.not-ValBind) (s_second _ _ _ _ _ _ (other_node _ _ c.in_default.not-FunBind) (s_second _ _ _ _ _ _ (other_node _ _ c.in_default.not-FunBindCase) (s_second _ _ _ _ _ _ (other_node _ _ c.in_default.not-ExBind) (s_second _ _ _ _ _ _ (other_node _ _ c.in_default.not-StrBind) (s_second _ _ _ _ _ _ (other_node _ _ c.in_default.not-SigBind) (s_by _ (runs_in fct) s_end))))))))

pub kw-mat-s1-requires : goal.kw-mat-s1-requires
kw-mat-s1-requires t c =
    let pre0 = c.requires.0 in
    (omega arith, pre0)

pub kw-close_node-requires : goal.kw-close_node-requires
kw-close_node-requires t c =
    let pre1 = c.requires.1 in
    let mat = c.mat-s1.ensures in
    let mat_ok = mat.ok in
    (mat_ok.logs, pre1)

pub kw-returns-then-k-eq-FN_KW : goal.kw-returns-then-k-eq-FN_KW
unfolding expr.keyed plan choose chosen
kw-returns-then-k-eq-FN_KW t c =
    let X0 = c.args.lent.text.now in
    let T0 = c.args.lent.toks.now in
    let N0 = c.args.lent.env.now in
    let J0 = c.args.table.now in
    let L0 = c.args.scratch.now in
    let H0 = c.args.finds.now in
    let S0 = c.args.s in
    let J2 = c.mat-s1.new.table in
    let L2 = c.mat-s1.new.scratch in
    let H2 = c.mat-s1.new.finds in
    let S2 = c.mat-s1.result in
    let L3 = c.close_node.new.scratch in
    let S3 = c.close_node.result in
    in_steps {m = (mem X0 T0 N0 J0 L0 H0 S0)} {m' = (mem X0 T0 N0 J2 L3 H2 S3)} (c.requires.0) (s_true {a = (mem X0 T0 N0 J0 L0 H0 S0)} {e = (mem X0 T0 N0 J2 L3 H2 S3)} _ _ (kind_is (c.if-k-eq-FN_KW.true)) (s_by {a = (mem X0 T0 N0 J0 L0 H0 S0)} {c = (mem X0 T0 N0 J2 L2 H2 S2)} {e = (mem X0 T0 N0 J2 L3 H2 S3)} _ (runs_in {a = (mem X0 T0 N0 J0 L0 H0 S0)} {c = (mem X0 T0 N0 J2 L2 H2 S2)} (c.mat-s1.ensures)) (s_close {e = (mem X0 T0 N0 J2 L3 H2 S3)} {x = X0} {t = T0} {n = N0} {j = J2} {l = L2} {h = H2} {s = S2} {s' = S3} {l' = L3} (c.close_node.ensures) s_end)))

pub kw-exp-s1-requires : goal.kw-exp-s1-requires
kw-exp-s1-requires t c =
    let pre0 = c.requires.0 in
    (omega arith, pre0)

pub kw-close_node-requires-then-k-eq-RAISE_KW : goal.kw-close_node-requires-then-k-eq-RAISE_KW
kw-close_node-requires-then-k-eq-RAISE_KW t c =
    let pre1 = c.requires.1 in
    let exp = c.exp-s1.ensures in
    let exp_ok = exp.ok in
    (exp_ok.logs, pre1)

pub kw-returns-then-k-eq-RAISE_KW : goal.kw-returns-then-k-eq-RAISE_KW
unfolding expr.keyed plan choose chosen
kw-returns-then-k-eq-RAISE_KW t c =
    let X0 = c.args.lent.text.now in
    let T0 = c.args.lent.toks.now in
    let N0 = c.args.lent.env.now in
    let J0 = c.args.table.now in
    let L0 = c.args.scratch.now in
    let H0 = c.args.finds.now in
    let S0 = c.args.s in
    let J2 = c.exp-s1.new.table in
    let L2 = c.exp-s1.new.scratch in
    let H2 = c.exp-s1.new.finds in
    let S2 = c.exp-s1.result in
    let L4 = c.close_node-then-k-eq-RAISE_KW.new.scratch in
    let S4 = c.close_node-then-k-eq-RAISE_KW.result in
    in_steps {m = (mem X0 T0 N0 J0 L0 H0 S0)} {m' = (mem X0 T0 N0 J2 L4 H2 S4)} (c.requires.0) (s_false {a = (mem X0 T0 N0 J0 L0 H0 S0)} {e = (mem X0 T0 N0 J2 L4 H2 S4)} _ _ (kind_not (c.if-k-eq-FN_KW.false)) (s_by {a = (mem X0 T0 N0 J0 L0 H0 S0)} {c = (mem X0 T0 N0 J2 L2 H2 S2)} {e = (mem X0 T0 N0 J2 L4 H2 S4)} _ (runs_in {a = (mem X0 T0 N0 J0 L0 H0 S0)} {c = (mem X0 T0 N0 J2 L2 H2 S2)} (c.exp-s1.ensures)) (s_true {a = (mem X0 T0 N0 J2 L2 H2 S2)} {e = (mem X0 T0 N0 J2 L4 H2 S4)} _ _ (kind_is (c.if-k-eq-RAISE_KW.true)) (s_close {e = (mem X0 T0 N0 J2 L4 H2 S4)} {x = X0} {t = T0} {n = N0} {j = J2} {l = L2} {h = H2} {s = S2} {s' = S4} {l' = L4} (c.close_node-then-k-eq-RAISE_KW.ensures) s_end))))

pub kw-we-s2-requires : goal.kw-we-s2-requires
kw-we-s2-requires t c =
    let exp = c.exp-s1.ensures in
    let exp_ok = exp.ok in
    (omega arith, (exp_ok, omega arith))

pub kw-we-s3-requires : goal.kw-we-s3-requires
kw-we-s3-requires t c =
    let we = c.we-s2.ensures in
    let we_ok = we.ok in
    (omega arith, (we_ok, omega arith))

pub kw-close_node-requires-then-k-eq-IF_KW : goal.kw-close_node-requires-then-k-eq-IF_KW
kw-close_node-requires-then-k-eq-IF_KW t c =
    let pre1 = c.requires.1 in
    let we2 = c.we-s3.ensures in
    let we2_ok = we2.ok in
    (we2_ok.logs, pre1)

pub kw-returns-then-k-eq-IF_KW : goal.kw-returns-then-k-eq-IF_KW
unfolding expr.keyed plan choose chosen
kw-returns-then-k-eq-IF_KW t c =
    let X0 = c.args.lent.text.now in
    let T0 = c.args.lent.toks.now in
    let N0 = c.args.lent.env.now in
    let J0 = c.args.table.now in
    let L0 = c.args.scratch.now in
    let H0 = c.args.finds.now in
    let S0 = c.args.s in
    let J2 = c.exp-s1.new.table in
    let L2 = c.exp-s1.new.scratch in
    let H2 = c.exp-s1.new.finds in
    let S2 = c.exp-s1.result in
    let J5 = c.we-s2.new.table in
    let L5 = c.we-s2.new.scratch in
    let H5 = c.we-s2.new.finds in
    let S5 = c.we-s2.result in
    let J6 = c.we-s3.new.table in
    let L6 = c.we-s3.new.scratch in
    let H6 = c.we-s3.new.finds in
    let S6 = c.we-s3.result in
    let L7 = c.close_node-then-k-eq-IF_KW.new.scratch in
    let S7 = c.close_node-then-k-eq-IF_KW.result in
    in_steps {m = (mem X0 T0 N0 J0 L0 H0 S0)} {m' = (mem X0 T0 N0 J6 L7 H6 S7)} (c.requires.0) (s_false {a = (mem X0 T0 N0 J0 L0 H0 S0)} {e = (mem X0 T0 N0 J6 L7 H6 S7)} _ _ (kind_not (c.if-k-eq-FN_KW.false)) (s_by {a = (mem X0 T0 N0 J0 L0 H0 S0)} {c = (mem X0 T0 N0 J2 L2 H2 S2)} {e = (mem X0 T0 N0 J6 L7 H6 S7)} _ (runs_in {a = (mem X0 T0 N0 J0 L0 H0 S0)} {c = (mem X0 T0 N0 J2 L2 H2 S2)} (c.exp-s1.ensures)) (s_false {a = (mem X0 T0 N0 J2 L2 H2 S2)} {e = (mem X0 T0 N0 J6 L7 H6 S7)} _ _ (kind_not (c.if-k-eq-RAISE_KW.false)) (s_true {a = (mem X0 T0 N0 J2 L2 H2 S2)} {e = (mem X0 T0 N0 J6 L7 H6 S7)} _ _ (kind_is (c.if-k-eq-IF_KW.true)) (s_by {a = (mem X0 T0 N0 J2 L2 H2 S2)} {c = (mem X0 T0 N0 J5 L5 H5 S5)} {e = (mem X0 T0 N0 J6 L7 H6 S7)} _ (runs_in {a = (mem X0 T0 N0 J2 L2 H2 S2)} {c = (mem X0 T0 N0 J5 L5 H5 S5)} (c.we-s2.ensures)) (s_by {a = (mem X0 T0 N0 J5 L5 H5 S5)} {c = (mem X0 T0 N0 J6 L6 H6 S6)} {e = (mem X0 T0 N0 J6 L7 H6 S7)} _ (runs_in {a = (mem X0 T0 N0 J5 L5 H5 S5)} {c = (mem X0 T0 N0 J6 L6 H6 S6)} (c.we-s3.ensures)) (s_close {e = (mem X0 T0 N0 J6 L7 H6 S7)} {x = X0} {t = T0} {n = N0} {j = J6} {l = L6} {h = H6} {s = S6} {s' = S7} {l' = L7} (c.close_node-then-k-eq-IF_KW.ensures) s_end)))))))

pub kw-we-s2-requires-then-k-eq-WHILE_KW : goal.kw-we-s2-requires-then-k-eq-WHILE_KW
kw-we-s2-requires-then-k-eq-WHILE_KW t c =
    let exp = c.exp-s1.ensures in
    let exp_ok = exp.ok in
    (omega arith, (exp_ok, omega arith))

pub kw-close_node-requires-then-k-eq-WHILE_KW : goal.kw-close_node-requires-then-k-eq-WHILE_KW
kw-close_node-requires-then-k-eq-WHILE_KW t c =
    let pre1 = c.requires.1 in
    let we3 = c.we-s2-then-k-eq-WHILE_KW.ensures in
    let we3_ok = we3.ok in
    (we3_ok.logs, pre1)

pub kw-returns-then-k-eq-WHILE_KW : goal.kw-returns-then-k-eq-WHILE_KW
unfolding expr.keyed plan choose chosen
kw-returns-then-k-eq-WHILE_KW t c =
    let X0 = c.args.lent.text.now in
    let T0 = c.args.lent.toks.now in
    let N0 = c.args.lent.env.now in
    let J0 = c.args.table.now in
    let L0 = c.args.scratch.now in
    let H0 = c.args.finds.now in
    let S0 = c.args.s in
    let J2 = c.exp-s1.new.table in
    let L2 = c.exp-s1.new.scratch in
    let H2 = c.exp-s1.new.finds in
    let S2 = c.exp-s1.result in
    let J6 = c.we-s2-then-k-eq-WHILE_KW.new.table in
    let L6 = c.we-s2-then-k-eq-WHILE_KW.new.scratch in
    let H6 = c.we-s2-then-k-eq-WHILE_KW.new.finds in
    let S6 = c.we-s2-then-k-eq-WHILE_KW.result in
    let L7 = c.close_node-then-k-eq-WHILE_KW.new.scratch in
    let S7 = c.close_node-then-k-eq-WHILE_KW.result in
    in_steps {m = (mem X0 T0 N0 J0 L0 H0 S0)} {m' = (mem X0 T0 N0 J6 L7 H6 S7)} (c.requires.0) (s_false {a = (mem X0 T0 N0 J0 L0 H0 S0)} {e = (mem X0 T0 N0 J6 L7 H6 S7)} _ _ (kind_not (c.if-k-eq-FN_KW.false)) (s_by {a = (mem X0 T0 N0 J0 L0 H0 S0)} {c = (mem X0 T0 N0 J2 L2 H2 S2)} {e = (mem X0 T0 N0 J6 L7 H6 S7)} _ (runs_in {a = (mem X0 T0 N0 J0 L0 H0 S0)} {c = (mem X0 T0 N0 J2 L2 H2 S2)} (c.exp-s1.ensures)) (s_false {a = (mem X0 T0 N0 J2 L2 H2 S2)} {e = (mem X0 T0 N0 J6 L7 H6 S7)} _ _ (kind_not (c.if-k-eq-RAISE_KW.false)) (s_false {a = (mem X0 T0 N0 J2 L2 H2 S2)} {e = (mem X0 T0 N0 J6 L7 H6 S7)} _ _ (kind_not (c.if-k-eq-IF_KW.false)) (s_true {a = (mem X0 T0 N0 J2 L2 H2 S2)} {e = (mem X0 T0 N0 J6 L7 H6 S7)} _ _ (kind_is (c.if-k-eq-WHILE_KW.true)) (s_by {a = (mem X0 T0 N0 J2 L2 H2 S2)} {c = (mem X0 T0 N0 J6 L6 H6 S6)} {e = (mem X0 T0 N0 J6 L7 H6 S7)} _ (runs_in {a = (mem X0 T0 N0 J2 L2 H2 S2)} {c = (mem X0 T0 N0 J6 L6 H6 S6)} (c.we-s2-then-k-eq-WHILE_KW.ensures)) (s_close {e = (mem X0 T0 N0 J6 L7 H6 S7)} {x = X0} {t = T0} {n = N0} {j = J6} {l = L6} {h = H6} {s = S6} {s' = S7} {l' = L7} (c.close_node-then-k-eq-WHILE_KW.ensures) s_end)))))))

pub kw-want-s2-requires : goal.kw-want-s2-requires
kw-want-s2-requires t c =
    let exp = c.exp-s1.ensures in
    let exp_ok = exp.ok in
    (exp_ok.reads, exp_ok.logs, exp_ok.holds, omega arith)

pub kw-mat-s3-requires : goal.kw-mat-s3-requires
kw-mat-s3-requires t c =
    let exp = c.exp-s1.ensures in
    let exp_ok = exp.ok in
    let want = c.want-s2.ensures in
    let want_ok = ok_eats want exp_ok in
    (omega arith, want_ok)

pub kw-close_node-requires-2 : goal.kw-close_node-requires-2
kw-close_node-requires-2 t c =
    let pre1 = c.requires.1 in
    let mat2 = c.mat-s3.ensures in
    let mat2_ok = mat2.ok in
    (mat2_ok.logs, pre1)

pub kw-returns : goal.kw-returns
unfolding expr.keyed plan choose chosen
kw-returns t c =
    let X0 = c.args.lent.text.now in
    let T0 = c.args.lent.toks.now in
    let N0 = c.args.lent.env.now in
    let J0 = c.args.table.now in
    let L0 = c.args.scratch.now in
    let H0 = c.args.finds.now in
    let S0 = c.args.s in
    let J2 = c.exp-s1.new.table in
    let L2 = c.exp-s1.new.scratch in
    let H2 = c.exp-s1.new.finds in
    let S2 = c.exp-s1.result in
    let L6 = c.want-s2.new.scratch in
    let H6 = c.want-s2.new.finds in
    let S6 = c.want-s2.result in
    let J7 = c.mat-s3.new.table in
    let L7 = c.mat-s3.new.scratch in
    let H7 = c.mat-s3.new.finds in
    let S7 = c.mat-s3.result in
    let L8 = c.close_node-2.new.scratch in
    let S8 = c.close_node-2.result in
    in_steps {m = (mem X0 T0 N0 J0 L0 H0 S0)} {m' = (mem X0 T0 N0 J7 L8 H7 S8)} (c.requires.0) (s_false {a = (mem X0 T0 N0 J0 L0 H0 S0)} {e = (mem X0 T0 N0 J7 L8 H7 S8)} _ _ (kind_not (c.if-k-eq-FN_KW.false)) (s_by {a = (mem X0 T0 N0 J0 L0 H0 S0)} {c = (mem X0 T0 N0 J2 L2 H2 S2)} {e = (mem X0 T0 N0 J7 L8 H7 S8)} _ (runs_in {a = (mem X0 T0 N0 J0 L0 H0 S0)} {c = (mem X0 T0 N0 J2 L2 H2 S2)} (c.exp-s1.ensures)) (s_false {a = (mem X0 T0 N0 J2 L2 H2 S2)} {e = (mem X0 T0 N0 J7 L8 H7 S8)} _ _ (kind_not (c.if-k-eq-RAISE_KW.false)) (s_false {a = (mem X0 T0 N0 J2 L2 H2 S2)} {e = (mem X0 T0 N0 J7 L8 H7 S8)} _ _ (kind_not (c.if-k-eq-IF_KW.false)) (s_false {a = (mem X0 T0 N0 J2 L2 H2 S2)} {e = (mem X0 T0 N0 J7 L8 H7 S8)} _ _ (kind_not (c.if-k-eq-WHILE_KW.false)) (s_eats _ _ {x = X0} {t = T0} {n = N0} {j = J2} {l = L2} {h = H2} {l' = L6} {s = S2} {s' = S6} {e = (mem X0 T0 N0 J7 L8 H7 S8)} _ {h' = H6} (c.want-s2.ensures) (s_by {a = (mem X0 T0 N0 J2 L6 H6 S6)} {c = (mem X0 T0 N0 J7 L7 H7 S7)} {e = (mem X0 T0 N0 J7 L8 H7 S8)} _ (runs_in {a = (mem X0 T0 N0 J2 L6 H6 S6)} {c = (mem X0 T0 N0 J7 L7 H7 S7)} (c.mat-s3.ensures)) (s_close {e = (mem X0 T0 N0 J7 L8 H7 S8)} {x = X0} {t = T0} {n = N0} {j = J7} {l = L7} {h = H7} {s = S7} {s' = S8} {l' = L8} (c.close_node-2.ensures) s_end))))))))

pub lex-bump-s1-requires : goal.lex-bump-s1-requires
lex-bump-s1-requires t c =
    let pre0 = c.requires.0 in
    (pre0.reads, pre0.logs)

pub lex-bdy-s2-requires : goal.lex-bdy-s2-requires
lex-bdy-s2-requires t c =
    let pre0 = c.requires.0 in
    let bump = c.bump-s1.ensures in
    let bump_ok = ok_bumps bump pre0 in
    (omega arith, bump_ok)

pub lex-leave_node-requires : goal.lex-leave_node-requires
lex-leave_node-requires t c =
    let pre1 = c.requires.1 in
    let bdy = c.bdy-s2.ensures in
    let bdy_ok = bdy.ok in
    (bdy_ok.logs, pre1)

pub lex-returns : goal.lex-returns
unfolding expr.let_exp plan choose chosen
lex-returns t c =
    let pre0 = c.requires.0 in
    let bump = c.bump-s1.ensures in
    let bdy = c.bdy-s2.ensures in
    let leave_node = c.leave_node.ensures in
    in_steps pre0 (s_bump bump (s_scoped bdy refl (s_close leave_node s_end)))

pub lo-refuse_for-s1-requires : goal.lo-refuse_for-s1-requires
lo-refuse_for-s1-requires t c =
    tt

pub lo-end-requires : goal.lo-end-requires
lo-end-requires t c =
    let pre0 = c.requires.0 in
    let pre1 = c.requires.1 in
    let refuse_for = c.refuse_for-s1.ensures in
    let refuse_for_ok = ok_refused _ refuse_for pre0 in
    (omega arith, (refuse_for_ok, pre1))

pub lo-returns-then-left-eq0 : goal.lo-returns-then-left-eq0
unfolding decl.local_dec plan choose chosen
lo-returns-then-left-eq0 t c =
    let X0 = c.args.lent.text.now in
    let T0 = c.args.lent.toks.now in
    let N0 = c.args.lent.env.now in
    let J0 = c.args.table.now in
    let L0 = c.args.scratch.now in
    let H0 = c.args.finds.now in
    let S0 = c.args.s in
    let S2 = c.refuse_for-s1.result in
    let J3 = c.end.new.table in
    let L3 = c.end.new.scratch in
    let H3 = c.end.new.finds in
    let S3 = out_state c.end.result in
    in_steps {m = (mem X0 T0 N0 J0 L0 H0 S0)} {m' = (mem X0 T0 N0 J3 L3 H3 S3)} (c.requires.0) (s_deep (c.if-left-eq0.true) (c.refuse_for-s1.ensures) (s_by {a = (mem X0 T0 N0 J0 L0 H0 S2)} {c = (mem X0 T0 N0 J3 L3 H3 S3)} {e = (mem X0 T0 N0 J3 L3 H3 S3)} _ (c.end.ensures) s_end))

pub lo-mark-s1-requires : goal.lo-mark-s1-requires
lo-mark-s1-requires t c =
    tt

pub lo-bump-s2-requires : goal.lo-bump-s2-requires
lo-bump-s2-requires t c =
    let pre0 = c.requires.0 in
    let mark = c.mark-s1.ensures in
    let mark_ok = ok_marks mark pre0 in
    (mark_ok.reads, mark_ok.logs)

pub lo-dec-got-requires : goal.lo-dec-got-requires
lo-dec-got-requires t c =
    let pre0 = c.requires.0 in
    let mark = c.mark-s1.ensures in
    let mark_ok = ok_marks mark pre0 in
    let bump = c.bump-s2.ensures in
    let bump_ok = ok_bumps bump mark_ok in
    (omega arith, bump_ok)

pub lo-either-s3-requires : goal.lo-either-s3-requires
lo-either-s3-requires t c =
    tt

pub lo-leave_node-s4-requires : goal.lo-leave_node-s4-requires
lo-leave_node-s4-requires t c =
    let pre0 = c.requires.0 in
    let mark = c.mark-s1.ensures in
    let mark_ok = ok_marks mark pre0 in
    let dec = c.dec-got.ensures in
    let dec_ok = dec.ok in
    let either = c.either-s3.ensures in
    let either_ok = ok_state either dec_ok in
    (either_ok.logs, small_len mark_ok)

pub lo-end-requires-2 : goal.lo-end-requires-2
lo-end-requires-2 t c =
    let pre1 = c.requires.1 in
    let dec = c.dec-got.ensures in
    let dec_ok = dec.ok in
    let either = c.either-s3.ensures in
    let either_ok = ok_state either dec_ok in
    let leave_node = c.leave_node-s4.ensures in
    let leave_node_ok = ok_adds leave_node either_ok in
    (omega arith, (leave_node_ok, pre1))

pub lo-returns : goal.lo-returns
unfolding decl.local_dec plan choose chosen
lo-returns t c =
    let X0 = c.args.lent.text.now in
    let T0 = c.args.lent.toks.now in
    let N0 = c.args.lent.env.now in
    let J0 = c.args.table.now in
    let L0 = c.args.scratch.now in
    let H0 = c.args.finds.now in
    let S0 = c.args.s in
    let S2 = c.mark-s1.result in
    let L3 = c.bump-s2.new.scratch in
    let S3 = c.bump-s2.result in
    let J4 = c.dec-got.new.table in
    let L4 = c.dec-got.new.scratch in
    let H4 = c.dec-got.new.finds in
    let S4 = out_state c.dec-got.result in
    let S5 = c.either-s3.result in
    let L6 = c.leave_node-s4.new.scratch in
    let S6 = c.leave_node-s4.result in
    let J7 = c.end-2.new.table in
    let L7 = c.end-2.new.scratch in
    let H7 = c.end-2.new.finds in
    let S7 = out_state c.end-2.result in
    in_steps {m = (mem X0 T0 N0 J0 L0 H0 S0)} {m' = (mem X0 T0 N0 J7 L7 H7 S7)} (c.requires.0) (s_mark {e = (mem X0 T0 N0 J7 L7 H7 S7)} {x = X0} {t = T0} {n = N0} {j = J0} {l = L0} {h = H0} {s = S0} {s' = S2} (c.if-left-eq0.false) (c.mark-s1.ensures) (s_bump {e = (mem X0 T0 N0 J7 L7 H7 S7)} {x = X0} {t = T0} {n = N0} {j = J0} {l = L0} {h = H0} {s = S2} {s' = S3} {l' = L3} (c.bump-s2.ensures) (s_run {a = (mem X0 T0 N0 J0 L3 H0 S3)} {c = (mem X0 T0 N0 J4 L4 H4 S5)} {e = (mem X0 T0 N0 J7 L7 H7 S7)} (settled (c.either-s3.ensures) (runs_in {a = (mem X0 T0 N0 J0 L3 H0 S3)} {c = (mem X0 T0 N0 J4 L4 H4 S4)} (c.dec-got.ensures))) (s_close {e = (mem X0 T0 N0 J7 L7 H7 S7)} {x = X0} {t = T0} {n = N0} {j = J4} {l = L4} {h = H4} {s = S5} {s' = S6} {l' = L6} (c.leave_node-s4.ensures) (s_by {a = (mem X0 T0 N0 J4 L6 H4 S6)} {c = (mem X0 T0 N0 J7 L7 H7 S7)} {e = (mem X0 T0 N0 J7 L7 H7 S7)} _ (c.end-2.ensures) s_end)))))

pub mat-refuse_for-requires : goal.mat-refuse_for-requires
mat-refuse_for-requires t c =
    tt

pub mat-returns-then-left-eq0 : goal.mat-returns-then-left-eq0
unfolding expr.matcher decl.many_closure util.choose plan choose chosen hushed
mat-returns-then-left-eq0 t c =
    let X0 = c.args.lent.text.now in
    let T0 = c.args.lent.toks.now in
    let N0 = c.args.lent.env.now in
    let J0 = c.args.table.now in
    let L0 = c.args.scratch.now in
    let H0 = c.args.finds.now in
    let S0 = c.args.s in
    let S2 = c.refuse_for.result in
    by_steps {m = (mem X0 T0 N0 J0 L0 H0 S0)} {m' = (mem X0 T0 N0 J0 L0 H0 S2)} (c.requires) (λ b. s_shut (c.if-left-eq0.true) (c.refuse_for.ensures) (λ k l. refl))

pub mat-mark-s1-requires : goal.mat-mark-s1-requires
mat-mark-s1-requires t c =
    tt

pub mat-bump_if-s2-requires : goal.mat-bump_if-s2-requires
mat-bump_if-s2-requires t c =
    let pre0 = c.requires in
    let mark = c.mark-s1.ensures in
    let mark_ok = ok_marks mark pre0 in
    (mark_ok.reads, mark_ok.logs)

pub mat-bd-requires : goal.mat-bd-requires
mat-bd-requires t c =
    let pre0 = c.requires in
    let mark = c.mark-s1.ensures in
    let mark_ok = ok_marks mark pre0 in
    let bump_if = c.bump_if-s2.ensures in
    let bump_if_ok = ok_takes bump_if mark_ok in
    (omega arith, (bump_if_ok, small_len mark_ok))

pub mat-returns : goal.mat-returns
unfolding expr.matcher decl.many_closure util.choose plan choose chosen
mat-returns t c =
    let X0 = c.args.lent.text.now in
    let T0 = c.args.lent.toks.now in
    let N0 = c.args.lent.env.now in
    let J0 = c.args.table.now in
    let L0 = c.args.scratch.now in
    let H0 = c.args.finds.now in
    let S0 = c.args.s in
    let S2 = c.mark-s1.result in
    let L3 = c.bump_if-s2.new.scratch in
    let S3 = c.bump_if-s2.result in
    let J4 = c.bd.new.table in
    let L4 = c.bd.new.scratch in
    let H4 = c.bd.new.finds in
    let S4 = c.bd.result in
    by_steps {m = (mem X0 T0 N0 J0 L0 H0 S0)} {m' = (mem X0 T0 N0 J4 L4 H4 S4)} (c.requires) (λ b. s_mark {e = (mem X0 T0 N0 J4 L4 H4 S4)} {x = X0} {t = T0} {n = N0} {j = J0} {l = L0} {h = H0} {s = S0} {s' = S2} (c.if-left-eq0.false) (c.mark-s1.ensures) (s_takes _ _ {x = X0} {t = T0} {n = N0} {j = J0} {l = L0} {h = H0} {l' = L3} {s = S2} {s' = S3} {e = (mem X0 T0 N0 J4 L4 H4 S4)} _ (c.bump_if-s2.ensures) (s_by {a = (mem X0 T0 N0 J0 L3 H0 S3)} {c = (mem X0 T0 N0 J4 L4 H4 S4)} {e = (mem X0 T0 N0 J4 L4 H4 S4)} _ (c.bd.ensures) s_end)))

pub mds-bump-s1-requires : goal.mds-bump-s1-requires
mds-bump-s1-requires t c =
    let pre0 = c.requires.0 in
    (pre0.reads, pre0.logs)

pub mds-bd-s2-requires : goal.mds-bd-s2-requires
mds-bd-s2-requires t c =
    let pre0 = c.requires.0 in
    let pre1 = c.requires.1 in
    let bump = c.bump-s1.ensures in
    let bump_ok = ok_bumps bump pre0 in
    (omega arith, (bump_ok, pre1))

pub mds-returns-then-k-eq-STRUCTURE_KW : goal.mds-returns-then-k-eq-STRUCTURE_KW
unfolding decl.module_dec decl.many_closure util.choose plan choose chosen
mds-returns-then-k-eq-STRUCTURE_KW t c =
    let X0 = c.args.lent.text.now in
    let T0 = c.args.lent.toks.now in
    let N0 = c.args.lent.env.now in
    let J0 = c.args.table.now in
    let L0 = c.args.scratch.now in
    let H0 = c.args.finds.now in
    let S0 = c.args.s in
    let L2 = c.bump-s1.new.scratch in
    let S2 = c.bump-s1.result in
    let J3 = c.bd-s2.new.table in
    let L3 = c.bd-s2.new.scratch in
    let H3 = c.bd-s2.new.finds in
    let S3 = c.bd-s2.result in
    in_steps {m = (mem X0 T0 N0 J0 L0 H0 S0)} {m' = (mem X0 T0 N0 J3 L3 H3 S3)} (c.requires.0) (s_true {a = (mem X0 T0 N0 J0 L0 H0 S0)} {e = (mem X0 T0 N0 J3 L3 H3 S3)} _ _ (kind_is (c.if-k-eq-STRUCTURE_KW.true)) (s_bump {e = (mem X0 T0 N0 J3 L3 H3 S3)} {x = X0} {t = T0} {n = N0} {j = J0} {l = L0} {h = H0} {s = S0} {s' = S2} {l' = L2} (c.bump-s1.ensures) (s_by {a = (mem X0 T0 N0 J0 L2 H0 S2)} {c = (mem X0 T0 N0 J3 L3 H3 S3)} {e = (mem X0 T0 N0 J3 L3 H3 S3)} _ (c.bd-s2.ensures) s_end)))

pub mds-bump-s1-requires-then-k-eq-SIGNATURE_KW : goal.mds-bump-s1-requires-then-k-eq-SIGNATURE_KW
mds-bump-s1-requires-then-k-eq-SIGNATURE_KW t c =
    let pre0 = c.requires.0 in
    (pre0.reads, pre0.logs)

pub mds-bd-s2-requires-then-k-eq-SIGNATURE_KW : goal.mds-bd-s2-requires-then-k-eq-SIGNATURE_KW
mds-bd-s2-requires-then-k-eq-SIGNATURE_KW t c =
    let pre0 = c.requires.0 in
    let pre1 = c.requires.1 in
    let bump2 = c.bump-s1-then-k-eq-SIGNATURE_KW.ensures in
    let bump2_ok = ok_bumps bump2 pre0 in
    (omega arith, (bump2_ok, pre1))

pub mds-returns-then-k-eq-SIGNATURE_KW : goal.mds-returns-then-k-eq-SIGNATURE_KW
unfolding decl.module_dec decl.many_closure util.choose plan choose chosen
mds-returns-then-k-eq-SIGNATURE_KW t c =
    let X0 = c.args.lent.text.now in
    let T0 = c.args.lent.toks.now in
    let N0 = c.args.lent.env.now in
    let J0 = c.args.table.now in
    let L0 = c.args.scratch.now in
    let H0 = c.args.finds.now in
    let S0 = c.args.s in
    let L3 = c.bump-s1-then-k-eq-SIGNATURE_KW.new.scratch in
    let S3 = c.bump-s1-then-k-eq-SIGNATURE_KW.result in
    let J4 = c.bd-s2-then-k-eq-SIGNATURE_KW.new.table in
    let L4 = c.bd-s2-then-k-eq-SIGNATURE_KW.new.scratch in
    let H4 = c.bd-s2-then-k-eq-SIGNATURE_KW.new.finds in
    let S4 = c.bd-s2-then-k-eq-SIGNATURE_KW.result in
    in_steps {m = (mem X0 T0 N0 J0 L0 H0 S0)} {m' = (mem X0 T0 N0 J4 L4 H4 S4)} (c.requires.0) (s_false {a = (mem X0 T0 N0 J0 L0 H0 S0)} {e = (mem X0 T0 N0 J4 L4 H4 S4)} _ _ (kind_not (c.if-k-eq-STRUCTURE_KW.false)) (s_true {a = (mem X0 T0 N0 J0 L0 H0 S0)} {e = (mem X0 T0 N0 J4 L4 H4 S4)} _ _ (kind_is (c.if-k-eq-SIGNATURE_KW.true)) (s_bump {e = (mem X0 T0 N0 J4 L4 H4 S4)} {x = X0} {t = T0} {n = N0} {j = J0} {l = L0} {h = H0} {s = S0} {s' = S3} {l' = L3} (c.bump-s1-then-k-eq-SIGNATURE_KW.ensures) (s_by {a = (mem X0 T0 N0 J0 L3 H0 S3)} {c = (mem X0 T0 N0 J4 L4 H4 S4)} {e = (mem X0 T0 N0 J4 L4 H4 S4)} _ (c.bd-s2-then-k-eq-SIGNATURE_KW.ensures) s_end))))

pub mds-bump-s1-requires-then-k-eq-FUNCTOR_KW : goal.mds-bump-s1-requires-then-k-eq-FUNCTOR_KW
mds-bump-s1-requires-then-k-eq-FUNCTOR_KW t c =
    let pre0 = c.requires.0 in
    (pre0.reads, pre0.logs)

pub mds-bd-s2-requires-then-k-eq-FUNCTOR_KW : goal.mds-bd-s2-requires-then-k-eq-FUNCTOR_KW
mds-bd-s2-requires-then-k-eq-FUNCTOR_KW t c =
    let pre0 = c.requires.0 in
    let pre1 = c.requires.1 in
    let bump3 = c.bump-s1-then-k-eq-FUNCTOR_KW.ensures in
    let bump3_ok = ok_bumps bump3 pre0 in
    (omega arith, (bump3_ok, pre1))

pub mds-returns-then-k-eq-FUNCTOR_KW : goal.mds-returns-then-k-eq-FUNCTOR_KW
unfolding decl.module_dec decl.many_closure util.choose plan choose chosen
mds-returns-then-k-eq-FUNCTOR_KW t c =
    let X0 = c.args.lent.text.now in
    let T0 = c.args.lent.toks.now in
    let N0 = c.args.lent.env.now in
    let J0 = c.args.table.now in
    let L0 = c.args.scratch.now in
    let H0 = c.args.finds.now in
    let S0 = c.args.s in
    let L4 = c.bump-s1-then-k-eq-FUNCTOR_KW.new.scratch in
    let S4 = c.bump-s1-then-k-eq-FUNCTOR_KW.result in
    let J5 = c.bd-s2-then-k-eq-FUNCTOR_KW.new.table in
    let L5 = c.bd-s2-then-k-eq-FUNCTOR_KW.new.scratch in
    let H5 = c.bd-s2-then-k-eq-FUNCTOR_KW.new.finds in
    let S5 = c.bd-s2-then-k-eq-FUNCTOR_KW.result in
    in_steps {m = (mem X0 T0 N0 J0 L0 H0 S0)} {m' = (mem X0 T0 N0 J5 L5 H5 S5)} (c.requires.0) (s_false {a = (mem X0 T0 N0 J0 L0 H0 S0)} {e = (mem X0 T0 N0 J5 L5 H5 S5)} _ _ (kind_not (c.if-k-eq-STRUCTURE_KW.false)) (s_false {a = (mem X0 T0 N0 J0 L0 H0 S0)} {e = (mem X0 T0 N0 J5 L5 H5 S5)} _ _ (kind_not (c.if-k-eq-SIGNATURE_KW.false)) (s_true {a = (mem X0 T0 N0 J0 L0 H0 S0)} {e = (mem X0 T0 N0 J5 L5 H5 S5)} _ _ (kind_is (c.if-k-eq-FUNCTOR_KW.true)) (s_bump {e = (mem X0 T0 N0 J5 L5 H5 S5)} {x = X0} {t = T0} {n = N0} {j = J0} {l = L0} {h = H0} {s = S0} {s' = S4} {l' = L4} (c.bump-s1-then-k-eq-FUNCTOR_KW.ensures) (s_by {a = (mem X0 T0 N0 J0 L4 H0 S4)} {c = (mem X0 T0 N0 J5 L5 H5 S5)} {e = (mem X0 T0 N0 J5 L5 H5 S5)} _ (c.bd-s2-then-k-eq-FUNCTOR_KW.ensures) s_end)))))

pub mds-bump-s1-requires-then-k-eq-INCLUDE_KW : goal.mds-bump-s1-requires-then-k-eq-INCLUDE_KW
mds-bump-s1-requires-then-k-eq-INCLUDE_KW t c =
    let pre0 = c.requires.0 in
    (pre0.reads, pre0.logs)

pub mds-ic-s2-requires : goal.mds-ic-s2-requires
mds-ic-s2-requires t c =
    let pre0 = c.requires.0 in
    let bump4 = c.bump-s1-then-k-eq-INCLUDE_KW.ensures in
    let bump4_ok = ok_bumps bump4 pre0 in
    (omega arith, bump4_ok)

pub mds-close_node-requires : goal.mds-close_node-requires
mds-close_node-requires t c =
    let pre1 = c.requires.1 in
    let ic = c.ic-s2.ensures in
    let ic_ok = ic.ok in
    (ic_ok.logs, pre1)

pub mds-returns-then-k-eq-INCLUDE_KW : goal.mds-returns-then-k-eq-INCLUDE_KW
unfolding decl.module_dec decl.many_closure util.choose plan choose chosen
mds-returns-then-k-eq-INCLUDE_KW t c =
    let X0 = c.args.lent.text.now in
    let T0 = c.args.lent.toks.now in
    let N0 = c.args.lent.env.now in
    let J0 = c.args.table.now in
    let L0 = c.args.scratch.now in
    let H0 = c.args.finds.now in
    let S0 = c.args.s in
    let L5 = c.bump-s1-then-k-eq-INCLUDE_KW.new.scratch in
    let S5 = c.bump-s1-then-k-eq-INCLUDE_KW.result in
    let J6 = c.ic-s2.new.table in
    let L6 = c.ic-s2.new.scratch in
    let H6 = c.ic-s2.new.finds in
    let S6 = c.ic-s2.result in
    let L7 = c.close_node.new.scratch in
    let S7 = c.close_node.result in
    in_steps {m = (mem X0 T0 N0 J0 L0 H0 S0)} {m' = (mem X0 T0 N0 J6 L7 H6 S7)} (c.requires.0) (s_false {a = (mem X0 T0 N0 J0 L0 H0 S0)} {e = (mem X0 T0 N0 J6 L7 H6 S7)} _ _ (kind_not (c.if-k-eq-STRUCTURE_KW.false)) (s_false {a = (mem X0 T0 N0 J0 L0 H0 S0)} {e = (mem X0 T0 N0 J6 L7 H6 S7)} _ _ (kind_not (c.if-k-eq-SIGNATURE_KW.false)) (s_false {a = (mem X0 T0 N0 J0 L0 H0 S0)} {e = (mem X0 T0 N0 J6 L7 H6 S7)} _ _ (kind_not (c.if-k-eq-FUNCTOR_KW.false)) (s_true {a = (mem X0 T0 N0 J0 L0 H0 S0)} {e = (mem X0 T0 N0 J6 L7 H6 S7)} _ _ (kind_is (c.if-k-eq-INCLUDE_KW.true)) (s_bump {e = (mem X0 T0 N0 J6 L7 H6 S7)} {x = X0} {t = T0} {n = N0} {j = J0} {l = L0} {h = H0} {s = S0} {s' = S5} {l' = L5} (c.bump-s1-then-k-eq-INCLUDE_KW.ensures) (s_run {a = (mem X0 T0 N0 J0 L5 H0 S5)} {c = (mem X0 T0 N0 J6 L6 H6 S6)} {e = (mem X0 T0 N0 J6 L7 H6 S7)} (c.ic-s2.ensures) (s_close {e = (mem X0 T0 N0 J6 L7 H6 S7)} {x = X0} {t = T0} {n = N0} {j = J6} {l = L6} {h = H6} {s = S6} {s' = S7} {l' = L7} (c.close_node.ensures) s_end)))))))

pub mds-oth-requires : goal.mds-oth-requires
mds-oth-requires t c =
    let pre0 = c.requires.0 in
    let pre1 = c.requires.1 in
    (omega arith, (pre0, pre1))

pub mds-returns : goal.mds-returns
unfolding decl.module_dec decl.many_closure util.choose plan choose chosen
mds-returns t c =
    let X0 = c.args.lent.text.now in
    let T0 = c.args.lent.toks.now in
    let N0 = c.args.lent.env.now in
    let J0 = c.args.table.now in
    let L0 = c.args.scratch.now in
    let H0 = c.args.finds.now in
    let S0 = c.args.s in
    let J5 = c.oth.new.table in
    let L5 = c.oth.new.scratch in
    let H5 = c.oth.new.finds in
    let S5 = out_state c.oth.result in
    in_steps {m = (mem X0 T0 N0 J0 L0 H0 S0)} {m' = (mem X0 T0 N0 J5 L5 H5 S5)} (c.requires.0) (s_false {a = (mem X0 T0 N0 J0 L0 H0 S0)} {e = (mem X0 T0 N0 J5 L5 H5 S5)} _ _ (kind_not (c.if-k-eq-STRUCTURE_KW.false)) (s_false {a = (mem X0 T0 N0 J0 L0 H0 S0)} {e = (mem X0 T0 N0 J5 L5 H5 S5)} _ _ (kind_not (c.if-k-eq-SIGNATURE_KW.false)) (s_false {a = (mem X0 T0 N0 J0 L0 H0 S0)} {e = (mem X0 T0 N0 J5 L5 H5 S5)} _ _ (kind_not (c.if-k-eq-FUNCTOR_KW.false)) (s_false {a = (mem X0 T0 N0 J0 L0 H0 S0)} {e = (mem X0 T0 N0 J5 L5 H5 S5)} _ _ (kind_not (c.if-k-eq-INCLUDE_KW.false)) (s_by {a = (mem X0 T0 N0 J0 L0 H0 S0)} {c = (mem X0 T0 N0 J5 L5 H5 S5)} {e = (mem X0 T0 N0 J5 L5 H5 S5)} _ (c.oth.ensures) s_end)))))

pub mny-loop-q-init : goal.mny-loop-q-init
mny-loop-q-init t c =
    let pre0 = c.requires in
    loop_starts pre0

pub mny-refuse_for-requires : goal.mny-refuse_for-requires
mny-refuse_for-requires t c =
    tt

pub mny-returns-then-left-eq0 : goal.mny-returns-then-left-eq0
unfolding util.many_turn plan choose chosen hushed
mny-returns-then-left-eq0 t c =
    let inv = c.loop-q.invariant in
    let if1 = c.if-left-eq0.true in
    let refuse_for = c.refuse_for.ensures in
    loop_ends (many_turn_advances true _ _ _ _ _) inv (in_steps inv.ok {n = c.args.left} {b = c.args.b} (s_shut if1 refuse_for (λ k l. refl)))

pub mny-mark-s2-requires : goal.mny-mark-s2-requires
mny-mark-s2-requires t c =
    tt

pub mny-itm-got-requires : goal.mny-itm-got-requires
mny-itm-got-requires t c =
    let inv = c.loop-q.invariant.ok in
    let mark = c.mark-s2.ensures in
    let mark_ok = ok_marks mark inv in
    (omega arith, mark_ok)

pub mny-returns-in-Err : goal.mny-returns-in-Err
unfolding util.many_turn plan choose chosen
mny-returns-in-Err t c =
    let inv = c.loop-q.invariant in
    let if1 = c.if-left-eq0.false in
    let mark = c.mark-s2.ensures in
    let itm = c.in-Err.ensures in
    loop_ends (many_turn_advances true _ _ _ _ _) inv (in_steps inv.ok {n = c.args.left} {b = c.args.b} (s_mark if1 mark (s_by _ (runs_in itm) s_end)))

pub mny-at-requires : goal.mny-at-requires
mny-at-requires t c =
    let itm = c.in-Ok.ensures in
    let itm_ok = itm.ok in
    itm_ok.reads

pub mny-bump-s4-requires : goal.mny-bump-s4-requires
mny-bump-s4-requires t c =
    let itm = c.in-Ok.ensures in
    let itm_ok = itm.ok in
    (itm_ok.reads, itm_ok.logs)

pub mny-close_node-s1-requires : goal.mny-close_node-s1-requires
mny-close_node-s1-requires t c =
    let inv = c.loop-q.invariant.ok in
    let mark = c.mark-s2.ensures in
    let mark_ok = ok_marks mark inv in
    let itm = c.in-Ok.ensures in
    let itm_ok = itm.ok in
    let bump = c.bump-s4.ensures in
    let bump_ok = ok_bumps bump itm_ok in
    (bump_ok.logs, small_len mark_ok)

pub mny-loop-q-smaller : goal.mny-loop-q-smaller
unfolding util.many_turn plan choose chosen
mny-loop-q-smaller t c =
    let inv = c.loop-q.invariant in
    let if1 = c.if-left-eq0.false in
    let mark = c.mark-s2.ensures in
    let itm = c.in-Ok.ensures in
    let at = c.at.ensures in
    let if2 = c.if-at.true in
    let bump = c.bump-s4.ensures in
    let close_node = c.close_node-s1.ensures in
    loop_falls {p = (util.many_turn {g = true} c.args.q.sep (node_number c.args.q.wrap) (decl.many_closure (node_number c.args.q.wrap) (err_of c.args.e)))} (many_turn_advances true _ _ _ _ _) (in_steps inv.ok {n = c.args.left} {b = c.args.b} (s_mark if1 mark (s_by _ (runs_in itm) (s_kind (s_true _ _ (kind_at _ _ _ _ at if2) (s_bump bump (s_close close_node s_end)))))))

pub mny-loop-q-preserved : goal.mny-loop-q-preserved
unfolding util.many_turn plan choose chosen
mny-loop-q-preserved t c =
    let inv = c.loop-q.invariant in
    let if1 = c.if-left-eq0.false in
    let mark = c.mark-s2.ensures in
    let itm = c.in-Ok.ensures in
    let at = c.at.ensures in
    let if2 = c.if-at.true in
    let bump = c.bump-s4.ensures in
    let close_node = c.close_node-s1.ensures in
    loop_goes (many_turn_advances true _ _ _ _ _) inv (in_steps inv.ok {n = c.args.left} {b = c.args.b} (s_mark if1 mark (s_by _ (runs_in itm) (s_kind (s_true _ _ (kind_at _ _ _ _ at if2) (s_bump bump (s_close close_node s_end)))))))

pub mny-close_node-requires : goal.mny-close_node-requires
mny-close_node-requires t c =
    let inv = c.loop-q.invariant.ok in
    let mark = c.mark-s2.ensures in
    let mark_ok = ok_marks mark inv in
    let itm = c.in-Ok.ensures in
    let itm_ok = itm.ok in
    (itm_ok.logs, small_len mark_ok)

pub mny-returns-in-Ok : goal.mny-returns-in-Ok
unfolding util.many_turn plan choose chosen
mny-returns-in-Ok t c =
    let inv = c.loop-q.invariant in
    let if1 = c.if-left-eq0.false in
    let mark = c.mark-s2.ensures in
    let itm = c.in-Ok.ensures in
    let at = c.at.ensures in
    let if2 = c.if-at.false in
    let close_node2 = c.close_node.ensures in
    loop_ends (many_turn_advances true _ _ _ _ _) inv (in_steps inv.ok {n = c.args.left} {b = c.args.b} (s_mark if1 mark (s_by _ (runs_in itm) (s_kind (s_false _ _ (kind_off _ _ _ _ at if2) (s_close close_node2 s_end))))))

pub one-peek-requires : goal.one-peek-requires
one-peek-requires t c =
    let pre0 = c.requires in
    pre0.reads

pub one-returns-in_default : goal.one-returns-in_default
unfolding decl.dec_one decl.dec_head plan choose chosen
one-returns-in_default t c =
    let pre0 = c.requires in
    let peek = c.in_default.ensures in
    by_steps pre0 (λ b. s_look peek s_end)

pub one-refuse_for-requires : goal.one-refuse_for-requires
one-refuse_for-requires t c =
    tt

pub one-returns-then-left-eq0 : goal.one-returns-then-left-eq0
unfolding decl.dec_one decl.dec_head plan choose chosen hushed
one-returns-then-left-eq0 t c =
    let X0 = c.args.lent.text.now in
    let T0 = c.args.lent.toks.now in
    let N0 = c.args.lent.env.now in
    let J0 = c.args.table.now in
    let L0 = c.args.scratch.now in
    let H0 = c.args.finds.now in
    let S0 = c.args.s in
    let S3 = c.refuse_for.result in
    by_steps {m = (mem X0 T0 N0 J0 L0 H0 S0)} {m' = (mem X0 T0 N0 J0 L0 H0 S3)} (c.requires) (λ b. s_look {a = (mem X0 T0 N0 J0 L0 H0 S0)} {e = (mem X0 T0 N0 J0 L0 H0 S3)} (c.in-Some.ensures) (s_shut (c.if-left-eq0.true) (c.refuse_for.ensures) (λ k l. refl)))

pub one-mark-s1-requires : goal.one-mark-s1-requires
one-mark-s1-requires t c =
    tt

pub one-leaf_dec-got-requires : goal.one-leaf_dec-got-requires
one-leaf_dec-got-requires t c =
    let pre0 = c.requires in
    let mark = c.mark-s1.ensures in
    let mark_ok = ok_marks mark pre0 in
    (mark_ok, small_len mark_ok)

pub one-cor-requires : goal.one-cor-requires
one-cor-requires t c =
    let pre0 = c.requires in
    let mark = c.mark-s1.ensures in
    let mark_ok = ok_marks mark pre0 in
    let leaf_dec = c.in-Err.ensures in
    let leaf_dec_ok = leaf_dec.ok in
    (omega arith, (leaf_dec_ok, small_len mark_ok))

pub one-returns-in-Ok : goal.one-returns-in-Ok
unfolding decl.dec_one decl.dec_head plan choose chosen
one-returns-in-Ok t c =
    let X0 = c.args.lent.text.now in
    let T0 = c.args.lent.toks.now in
    let N0 = c.args.lent.env.now in
    let J0 = c.args.table.now in
    let L0 = c.args.scratch.now in
    let H0 = c.args.finds.now in
    let S0 = c.args.s in
    let S3 = c.mark-s1.result in
    let J4 = c.leaf_dec-got.new.table in
    let L4 = c.leaf_dec-got.new.scratch in
    let H4 = c.leaf_dec-got.new.finds in
    let S4 = c.in-Ok.s2 in
    by_steps {m = (mem X0 T0 N0 J0 L0 H0 S0)} {m' = (mem X0 T0 N0 J4 L4 H4 S4)} (c.requires) (λ b. s_look {a = (mem X0 T0 N0 J0 L0 H0 S0)} {e = (mem X0 T0 N0 J4 L4 H4 S4)} (c.in-Some.ensures) (s_mark {e = (mem X0 T0 N0 J4 L4 H4 S4)} {x = X0} {t = T0} {n = N0} {j = J0} {l = L0} {h = H0} {s = S0} {s' = S3} (c.if-left-eq0.false) (c.mark-s1.ensures) (s_by {a = (mem X0 T0 N0 J0 L0 H0 S3)} {c = (mem X0 T0 N0 J4 L4 H4 S4)} {e = (mem X0 T0 N0 J4 L4 H4 S4)} _ (c.in-Ok.ensures) s_end)))

pub one-returns-in-Err : goal.one-returns-in-Err
unfolding decl.dec_one decl.dec_head plan choose chosen
one-returns-in-Err t c =
    let X0 = c.args.lent.text.now in
    let T0 = c.args.lent.toks.now in
    let N0 = c.args.lent.env.now in
    let J0 = c.args.table.now in
    let L0 = c.args.scratch.now in
    let H0 = c.args.finds.now in
    let S0 = c.args.s in
    let S3 = c.mark-s1.result in
    let J4 = c.leaf_dec-got.new.table in
    let L4 = c.leaf_dec-got.new.scratch in
    let H4 = c.leaf_dec-got.new.finds in
    let S4 = c.in-Err.s2 in
    let J5 = c.cor.new.table in
    let L5 = c.cor.new.scratch in
    let H5 = c.cor.new.finds in
    let S5 = out_state c.cor.result in
    by_steps {m = (mem X0 T0 N0 J0 L0 H0 S0)} {m' = (mem X0 T0 N0 J5 L5 H5 S5)} (c.requires) (λ b. s_look {a = (mem X0 T0 N0 J0 L0 H0 S0)} {e = (mem X0 T0 N0 J5 L5 H5 S5)} (c.in-Some.ensures) (s_mark {e = (mem X0 T0 N0 J5 L5 H5 S5)} {x = X0} {t = T0} {n = N0} {j = J0} {l = L0} {h = H0} {s = S0} {s' = S3} (c.if-left-eq0.false) (c.mark-s1.ensures) (s_by {a = (mem X0 T0 N0 J0 L0 H0 S3)} {c = (mem X0 T0 N0 J4 L4 H4 S4)} {e = (mem X0 T0 N0 J5 L5 H5 S5)} _ (c.in-Err.ensures) (s_by {a = (mem X0 T0 N0 J4 L4 H4 S4)} {c = (mem X0 T0 N0 J5 L5 H5 S5)} {e = (mem X0 T0 N0 J5 L5 H5 S5)} _ (c.cor.ensures) s_end))))

pub opr-should_break_exp-ends-requires : goal.opr-should_break_exp-ends-requires
opr-should_break_exp-ends-requires t c =
    let pre0 = c.requires.0 in
    pre0

pub opr-refuse_for-requires : goal.opr-refuse_for-requires
opr-refuse_for-requires t c =
    tt

pub opr-returns-then-left-eq0 : goal.opr-returns-then-left-eq0
unfolding expr.climb plan choose chosen hushed
opr-returns-then-left-eq0 t c =
    let X0 = c.args.lent.text.now in
    let T0 = c.args.lent.toks.now in
    let N0 = c.args.lent.env.now in
    let J0 = c.args.table.now in
    let L0 = c.args.scratch.now in
    let H0 = c.args.finds.now in
    let S0 = c.args.s in
    let L1 = c.should_break_exp-ends.new.scratch in
    let H1 = c.should_break_exp-ends.new.finds in
    let S1 = c.in-Err.s1 in
    let S3 = c.refuse_for.result in
    in_steps {m = (mem X0 T0 N0 J0 L0 H0 S0)} {m' = (mem X0 T0 N0 J0 L1 H1 S3)} (c.requires.0) (s_by {a = (mem X0 T0 N0 J0 L0 H0 S0)} {c = (mem X0 T0 N0 J0 L1 H1 S1)} {e = (mem X0 T0 N0 J0 L1 H1 S3)} _ (runs_always {a = (mem X0 T0 N0 J0 L0 H0 S0)} {c = (mem X0 T0 N0 J0 L1 H1 S1)} (c.in-Err.ensures)) (s_shut (c.if-left-eq0.true) (c.refuse_for.ensures) (λ k l. refl)))

pub opr-mark-s2-requires : goal.opr-mark-s2-requires
opr-mark-s2-requires t c =
    tt

pub opr-bump-s3-requires : goal.opr-bump-s3-requires
opr-bump-s3-requires t c =
    let should_break_exp = c.in-Err.ensures in
    let should_break_exp_ok = should_break_exp.ok in
    let mark = c.mark-s2.ensures in
    let mark_ok = ok_marks mark should_break_exp_ok in
    (mark_ok.reads, mark_ok.logs)

pub opr-rhs-s4-requires : goal.opr-rhs-s4-requires
opr-rhs-s4-requires t c =
    let pre1 = c.requires.1 in
    let should_break_exp = c.in-Err.ensures in
    let should_break_exp_ok = should_break_exp.ok in
    let mark = c.mark-s2.ensures in
    let mark_ok = ok_marks mark should_break_exp_ok in
    let bump = c.bump-s3.ensures in
    let bump_ok = ok_bumps bump mark_ok in
    (omega arith, (bump_ok, pre1))

pub opr-returns-in-Ok : goal.opr-returns-in-Ok
unfolding expr.climb plan choose chosen
opr-returns-in-Ok t c =
    let X0 = c.args.lent.text.now in
    let T0 = c.args.lent.toks.now in
    let N0 = c.args.lent.env.now in
    let J0 = c.args.table.now in
    let L0 = c.args.scratch.now in
    let H0 = c.args.finds.now in
    let S0 = c.args.s in
    let L1 = c.should_break_exp-ends.new.scratch in
    let H1 = c.should_break_exp-ends.new.finds in
    let S1 = c.in-Ok.s1 in
    in_steps {m = (mem X0 T0 N0 J0 L0 H0 S0)} {m' = (mem X0 T0 N0 J0 L1 H1 S1)} (c.requires.0) (s_by {a = (mem X0 T0 N0 J0 L0 H0 S0)} {c = (mem X0 T0 N0 J0 L1 H1 S1)} {e = (mem X0 T0 N0 J0 L1 H1 S1)} _ (runs_always {a = (mem X0 T0 N0 J0 L0 H0 S0)} {c = (mem X0 T0 N0 J0 L1 H1 S1)} (c.in-Ok.ensures)) s_end)

pub opr-returns-else-left-eq0 : goal.opr-returns-else-left-eq0
unfolding expr.climb plan choose chosen
opr-returns-else-left-eq0 t c =
    let X0 = c.args.lent.text.now in
    let T0 = c.args.lent.toks.now in
    let N0 = c.args.lent.env.now in
    let J0 = c.args.table.now in
    let L0 = c.args.scratch.now in
    let H0 = c.args.finds.now in
    let S0 = c.args.s in
    let L1 = c.should_break_exp-ends.new.scratch in
    let H1 = c.should_break_exp-ends.new.finds in
    let S1 = c.in-Err.s1 in
    let S3 = c.mark-s2.result in
    let L4 = c.bump-s3.new.scratch in
    let S4 = c.bump-s3.result in
    let J5 = c.rhs-s4.new.table in
    let L5 = c.rhs-s4.new.scratch in
    let H5 = c.rhs-s4.new.finds in
    let S5 = c.rhs-s4.result in
    in_steps {m = (mem X0 T0 N0 J0 L0 H0 S0)} {m' = (mem X0 T0 N0 J5 L5 H5 S5)} (c.requires.0) (s_by {a = (mem X0 T0 N0 J0 L0 H0 S0)} {c = (mem X0 T0 N0 J0 L1 H1 S1)} {e = (mem X0 T0 N0 J5 L5 H5 S5)} _ (runs_always {a = (mem X0 T0 N0 J0 L0 H0 S0)} {c = (mem X0 T0 N0 J0 L1 H1 S1)} (c.in-Err.ensures)) (s_mark {e = (mem X0 T0 N0 J5 L5 H5 S5)} {x = X0} {t = T0} {n = N0} {j = J0} {l = L1} {h = H1} {s = S1} {s' = S3} (c.if-left-eq0.false) (c.mark-s2.ensures) (s_bump {e = (mem X0 T0 N0 J5 L5 H5 S5)} {x = X0} {t = T0} {n = N0} {j = J0} {l = L1} {h = H1} {s = S3} {s' = S4} {l' = L4} (c.bump-s3.ensures) (s_by {a = (mem X0 T0 N0 J0 L4 H1 S4)} {c = (mem X0 T0 N0 J5 L5 H5 S5)} {e = (mem X0 T0 N0 J5 L5 H5 S5)} _ (c.rhs-s4.ensures) s_end))))

pub ops-loop-s2-init : goal.ops-loop-s2-init
ops-loop-s2-init t c =
    let pre0 = c.requires.0 in
    let pre1 = c.requires.1 in
    loop_starts pre0

pub ops-stp-turn-requires : goal.ops-stp-turn-requires
ops-stp-turn-requires t c =
    let pre1 = c.requires.1 in
    let inv = c.loop-s2.invariant.ok in
    (omega arith, (inv, pre1))

pub ops-loop-s2-smaller : goal.ops-loop-s2-smaller
ops-loop-s2-smaller t c =
    let stp = c.in-Ok.ensures in
    loop_falls (exp_step_advances _ _ _) stp

pub ops-loop-s2-preserved : goal.ops-loop-s2-preserved
ops-loop-s2-preserved t c =
    let inv = c.loop-s2.invariant in
    let stp = c.in-Ok.ensures in
    loop_goes (exp_step_advances _ _ _) inv stp

pub ops-returns-in-Err : goal.ops-returns-in-Err
ops-returns-in-Err t c =
    let inv = c.loop-s2.invariant in
    let stp = c.in-Err.ensures in
    loop_ends (exp_step_advances _ _ _) inv stp

pub oth-abs_head-s1-requires : goal.oth-abs_head-s1-requires
oth-abs_head-s1-requires t c =
    let pre0 = c.requires.0 in
    pre0

pub oth-dec-got-requires : goal.oth-dec-got-requires
oth-dec-got-requires t c =
    let abs_head = c.abs_head-s1.ensures in
    let abs_head_ok = abs_head.ok in
    (omega arith, abs_head_ok)

pub oth-either-s2-requires : goal.oth-either-s2-requires
oth-either-s2-requires t c =
    tt

pub oth-end_node-end-requires : goal.oth-end_node-end-requires
oth-end_node-end-requires t c =
    let pre1 = c.requires.1 in
    let dec = c.dec-got.ensures in
    let dec_ok = dec.ok in
    let either = c.either-s2.ensures in
    let either_ok = ok_state either dec_ok in
    (either_ok, pre1, omega arith)

pub oth-returns-then-k-eq-ABSTYPE_KW : goal.oth-returns-then-k-eq-ABSTYPE_KW
unfolding decl.other_dec plan choose chosen
oth-returns-then-k-eq-ABSTYPE_KW t c =
    let X0 = c.args.lent.text.now in
    let T0 = c.args.lent.toks.now in
    let N0 = c.args.lent.env.now in
    let J0 = c.args.table.now in
    let L0 = c.args.scratch.now in
    let H0 = c.args.finds.now in
    let S0 = c.args.s in
    let L2 = c.abs_head-s1.new.scratch in
    let H2 = c.abs_head-s1.new.finds in
    let S2 = c.abs_head-s1.result in
    let J3 = c.dec-got.new.table in
    let L3 = c.dec-got.new.scratch in
    let H3 = c.dec-got.new.finds in
    let S3 = out_state c.dec-got.result in
    let S4 = c.either-s2.result in
    let L5 = c.end_node-end.new.scratch in
    let H5 = c.end_node-end.new.finds in
    let S5 = c.end_node-end.result in
    in_steps {m = (mem X0 T0 N0 J0 L0 H0 S0)} {m' = (mem X0 T0 N0 J3 L5 H5 S5)} (c.requires.0) (s_true {a = (mem X0 T0 N0 J0 L0 H0 S0)} {e = (mem X0 T0 N0 J3 L5 H5 S5)} _ _ (kind_is (c.if-k-eq-ABSTYPE_KW.true)) (s_by {a = (mem X0 T0 N0 J0 L0 H0 S0)} {c = (mem X0 T0 N0 J0 L2 H2 S2)} {e = (mem X0 T0 N0 J3 L5 H5 S5)} _ (c.abs_head-s1.ensures) (s_run {a = (mem X0 T0 N0 J0 L2 H2 S2)} {c = (mem X0 T0 N0 J3 L3 H3 S4)} {e = (mem X0 T0 N0 J3 L5 H5 S5)} (settled (c.either-s2.ensures) (runs_in {a = (mem X0 T0 N0 J0 L2 H2 S2)} {c = (mem X0 T0 N0 J3 L3 H3 S3)} (c.dec-got.ensures))) (s_by {a = (mem X0 T0 N0 J3 L3 H3 S4)} {c = (mem X0 T0 N0 J3 L5 H5 S5)} {e = (mem X0 T0 N0 J3 L5 H5 S5)} _ (c.end_node-end.ensures) s_end))))

pub oth-lo-requires : goal.oth-lo-requires
oth-lo-requires t c =
    let pre0 = c.requires.0 in
    let pre1 = c.requires.1 in
    (omega arith, (pre0, pre1))

pub oth-returns-then-k-eq-LOCAL_KW : goal.oth-returns-then-k-eq-LOCAL_KW
unfolding decl.other_dec plan choose chosen
oth-returns-then-k-eq-LOCAL_KW t c =
    let X0 = c.args.lent.text.now in
    let T0 = c.args.lent.toks.now in
    let N0 = c.args.lent.env.now in
    let J0 = c.args.table.now in
    let L0 = c.args.scratch.now in
    let H0 = c.args.finds.now in
    let S0 = c.args.s in
    let J3 = c.lo.new.table in
    let L3 = c.lo.new.scratch in
    let H3 = c.lo.new.finds in
    let S3 = out_state c.lo.result in
    in_steps {m = (mem X0 T0 N0 J0 L0 H0 S0)} {m' = (mem X0 T0 N0 J3 L3 H3 S3)} (c.requires.0) (s_false {a = (mem X0 T0 N0 J0 L0 H0 S0)} {e = (mem X0 T0 N0 J3 L3 H3 S3)} _ _ (kind_not (c.if-k-eq-ABSTYPE_KW.false)) (s_true {a = (mem X0 T0 N0 J0 L0 H0 S0)} {e = (mem X0 T0 N0 J3 L3 H3 S3)} _ _ (kind_is (c.if-k-eq-LOCAL_KW.true)) (s_by {a = (mem X0 T0 N0 J0 L0 H0 S0)} {c = (mem X0 T0 N0 J3 L3 H3 S3)} {e = (mem X0 T0 N0 J3 L3 H3 S3)} _ (c.lo.ensures) s_end)))

pub oth-pre-got-requires : goal.oth-pre-got-requires
oth-pre-got-requires t c =
    let pre0 = c.requires.0 in
    (omega arith, pre0)

pub oth-close_node-requires : goal.oth-close_node-requires
oth-close_node-requires t c =
    let pre1 = c.requires.1 in
    let pre = c.in-Ok.ensures in
    let pre_ok = pre.ok in
    (pre_ok.logs, pre1)

pub oth-returns-in-Err : goal.oth-returns-in-Err
unfolding decl.other_dec plan choose chosen
oth-returns-in-Err t c =
    let X0 = c.args.lent.text.now in
    let T0 = c.args.lent.toks.now in
    let N0 = c.args.lent.env.now in
    let J0 = c.args.table.now in
    let L0 = c.args.scratch.now in
    let H0 = c.args.finds.now in
    let S0 = c.args.s in
    let J3 = c.pre-got.new.table in
    let L3 = c.pre-got.new.scratch in
    let H3 = c.pre-got.new.finds in
    let S3 = c.in-Err.s1 in
    in_steps {m = (mem X0 T0 N0 J0 L0 H0 S0)} {m' = (mem X0 T0 N0 J3 L3 H3 S3)} (c.requires.0) (s_false {a = (mem X0 T0 N0 J0 L0 H0 S0)} {e = (mem X0 T0 N0 J3 L3 H3 S3)} _ _ (kind_not (c.if-k-eq-ABSTYPE_KW.false)) (s_false {a = (mem X0 T0 N0 J0 L0 H0 S0)} {e = (mem X0 T0 N0 J3 L3 H3 S3)} _ _ (kind_not (c.if-k-eq-LOCAL_KW.false)) (s_run {a = (mem X0 T0 N0 J0 L0 H0 S0)} {c = (mem X0 T0 N0 J3 L3 H3 S3)} {e = (mem X0 T0 N0 J3 L3 H3 S3)} (runs_in {a = (mem X0 T0 N0 J0 L0 H0 S0)} {c = (mem X0 T0 N0 J3 L3 H3 S3)} (c.in-Err.ensures)) s_end)))

pub oth-returns-in-Ok : goal.oth-returns-in-Ok
unfolding decl.other_dec plan choose chosen
oth-returns-in-Ok t c =
    let X0 = c.args.lent.text.now in
    let T0 = c.args.lent.toks.now in
    let N0 = c.args.lent.env.now in
    let J0 = c.args.table.now in
    let L0 = c.args.scratch.now in
    let H0 = c.args.finds.now in
    let S0 = c.args.s in
    let J3 = c.pre-got.new.table in
    let L3 = c.pre-got.new.scratch in
    let H3 = c.pre-got.new.finds in
    let S3 = c.in-Ok.s1 in
    let L4 = c.close_node.new.scratch in
    let S4 = c.close_node.result in
    in_steps {m = (mem X0 T0 N0 J0 L0 H0 S0)} {m' = (mem X0 T0 N0 J3 L4 H3 S4)} (c.requires.0) (s_false {a = (mem X0 T0 N0 J0 L0 H0 S0)} {e = (mem X0 T0 N0 J3 L4 H3 S4)} _ _ (kind_not (c.if-k-eq-ABSTYPE_KW.false)) (s_false {a = (mem X0 T0 N0 J0 L0 H0 S0)} {e = (mem X0 T0 N0 J3 L4 H3 S4)} _ _ (kind_not (c.if-k-eq-LOCAL_KW.false)) (s_run {a = (mem X0 T0 N0 J0 L0 H0 S0)} {c = (mem X0 T0 N0 J3 L3 H3 S3)} {e = (mem X0 T0 N0 J3 L4 H3 S4)} (runs_in {a = (mem X0 T0 N0 J0 L0 H0 S0)} {c = (mem X0 T0 N0 J3 L3 H3 S3)} (c.in-Ok.ensures)) (s_close {e = (mem X0 T0 N0 J3 L4 H3 S4)} {x = X0} {t = T0} {n = N0} {j = J3} {l = L3} {h = H3} {s = S3} {s' = S4} {l' = L4} (c.close_node.ensures) s_end))))

pub pa-at-requires : goal.pa-at-requires
pa-at-requires t c =
    let pre0 = c.requires in
    pre0.reads

pub pa-refuse_for-requires : goal.pa-refuse_for-requires
pa-refuse_for-requires t c =
    tt

pub pa-returns-then-left-eq0 : goal.pa-returns-then-left-eq0
unfolding decl.functor_arg plan choose chosen hushed
pa-returns-then-left-eq0 t c =
    let X0 = c.args.lent.text.now in
    let T0 = c.args.lent.toks.now in
    let N0 = c.args.lent.env.now in
    let J0 = c.args.table.now in
    let L0 = c.args.scratch.now in
    let H0 = c.args.finds.now in
    let S0 = c.args.s in
    let S4 = c.refuse_for.result in
    by_steps {m = (mem X0 T0 N0 J0 L0 H0 S0)} {m' = (mem X0 T0 N0 J0 L0 H0 S4)} (c.requires) (λ b. s_kind {a = (mem X0 T0 N0 J0 L0 H0 S0)} {e = (mem X0 T0 N0 J0 L0 H0 S4)} (s_true {a = (mem X0 T0 N0 J0 L0 H0 S0)} {e = (mem X0 T0 N0 J0 L0 H0 S4)} _ _ (kind_at _ _ (mem X0 T0 N0 J0 L0 H0 S0) _ (c.at.ensures) (c.if-at.true)) (s_shut (c.if-left-eq0.true) (c.refuse_for.ensures) (λ k l. refl))))

pub pa-mark-s1-requires : goal.pa-mark-s1-requires
pa-mark-s1-requires t c =
    tt

pub pa-bump-s2-requires : goal.pa-bump-s2-requires
pa-bump-s2-requires t c =
    let pre0 = c.requires in
    let mark = c.mark-s1.ensures in
    let mark_ok = ok_marks mark pre0 in
    (mark_ok.reads, mark_ok.logs)

pub pa-bump_ascription-s3-requires : goal.pa-bump_ascription-s3-requires
pa-bump_ascription-s3-requires t c =
    let pre0 = c.requires in
    let mark = c.mark-s1.ensures in
    let mark_ok = ok_marks mark pre0 in
    let bump = c.bump-s2.ensures in
    let bump_ok = ok_bumps bump mark_ok in
    (bump_ok.reads, bump_ok.logs)

pub pa-sgm-s4-requires : goal.pa-sgm-s4-requires
pa-sgm-s4-requires t c =
    let pre0 = c.requires in
    let mark = c.mark-s1.ensures in
    let mark_ok = ok_marks mark pre0 in
    let bump = c.bump-s2.ensures in
    let bump_ok = ok_bumps bump mark_ok in
    let bump_ascription = c.bump_ascription-s3.ensures in
    let bump_ascription_ok = ok_takes bump_ascription bump_ok in
    (omega arith, bump_ascription_ok)

pub pa-close_node-requires : goal.pa-close_node-requires
pa-close_node-requires t c =
    let pre0 = c.requires in
    let mark = c.mark-s1.ensures in
    let mark_ok = ok_marks mark pre0 in
    let sgm = c.sgm-s4.ensures in
    let sgm_ok = sgm.ok in
    (sgm_ok.logs, small_len mark_ok)

pub pa-returns-then-at : goal.pa-returns-then-at
unfolding decl.functor_arg plan choose chosen
pa-returns-then-at t c =
    let X0 = c.args.lent.text.now in
    let T0 = c.args.lent.toks.now in
    let N0 = c.args.lent.env.now in
    let J0 = c.args.table.now in
    let L0 = c.args.scratch.now in
    let H0 = c.args.finds.now in
    let S0 = c.args.s in
    let S4 = c.mark-s1.result in
    let L5 = c.bump-s2.new.scratch in
    let S5 = c.bump-s2.result in
    let L6 = c.bump_ascription-s3.new.scratch in
    let S6 = c.bump_ascription-s3.result in
    let J7 = c.sgm-s4.new.table in
    let L7 = c.sgm-s4.new.scratch in
    let H7 = c.sgm-s4.new.finds in
    let S7 = c.sgm-s4.result in
    let L8 = c.close_node.new.scratch in
    let S8 = c.close_node.result in
    by_steps {m = (mem X0 T0 N0 J0 L0 H0 S0)} {m' = (mem X0 T0 N0 J7 L8 H7 S8)} (c.requires) (λ b. s_kind {a = (mem X0 T0 N0 J0 L0 H0 S0)} {e = (mem X0 T0 N0 J7 L8 H7 S8)} (s_true {a = (mem X0 T0 N0 J0 L0 H0 S0)} {e = (mem X0 T0 N0 J7 L8 H7 S8)} _ _ (kind_at _ _ (mem X0 T0 N0 J0 L0 H0 S0) _ (c.at.ensures) (c.if-at.true)) (s_mark {e = (mem X0 T0 N0 J7 L8 H7 S8)} {x = X0} {t = T0} {n = N0} {j = J0} {l = L0} {h = H0} {s = S0} {s' = S4} (c.if-left-eq0.false) (c.mark-s1.ensures) (s_bump {e = (mem X0 T0 N0 J7 L8 H7 S8)} {x = X0} {t = T0} {n = N0} {j = J0} {l = L0} {h = H0} {s = S4} {s' = S5} {l' = L5} (c.bump-s2.ensures) (s_takes _ _ {x = X0} {t = T0} {n = N0} {j = J0} {l = L5} {h = H0} {l' = L6} {s = S5} {s' = S6} {e = (mem X0 T0 N0 J7 L8 H7 S8)} _ (c.bump_ascription-s3.ensures) (s_by {a = (mem X0 T0 N0 J0 L6 H0 S6)} {c = (mem X0 T0 N0 J7 L7 H7 S7)} {e = (mem X0 T0 N0 J7 L8 H7 S8)} _ (runs_in {a = (mem X0 T0 N0 J0 L6 H0 S6)} {c = (mem X0 T0 N0 J7 L7 H7 S7)} (c.sgm-s4.ensures)) (s_close {e = (mem X0 T0 N0 J7 L8 H7 S8)} {x = X0} {t = T0} {n = N0} {j = J7} {l = L7} {h = H7} {s = S7} {s' = S8} {l' = L8} (c.close_node.ensures) s_end)))))))

pub pa-dec-got-requires : goal.pa-dec-got-requires
pa-dec-got-requires t c =
    let pre0 = c.requires in
    (omega arith, pre0)

pub pa-either-requires : goal.pa-either-requires
pa-either-requires t c =
    tt

pub pa-returns : goal.pa-returns
unfolding decl.functor_arg plan choose chosen
pa-returns t c =
    let X0 = c.args.lent.text.now in
    let T0 = c.args.lent.toks.now in
    let N0 = c.args.lent.env.now in
    let J0 = c.args.table.now in
    let L0 = c.args.scratch.now in
    let H0 = c.args.finds.now in
    let S0 = c.args.s in
    let J3 = c.dec-got.new.table in
    let L3 = c.dec-got.new.scratch in
    let H3 = c.dec-got.new.finds in
    let S3 = out_state c.dec-got.result in
    let S4 = c.either.result in
    by_steps {m = (mem X0 T0 N0 J0 L0 H0 S0)} {m' = (mem X0 T0 N0 J3 L3 H3 S4)} (c.requires) (λ b. s_kind {a = (mem X0 T0 N0 J0 L0 H0 S0)} {e = (mem X0 T0 N0 J3 L3 H3 S4)} (s_false {a = (mem X0 T0 N0 J0 L0 H0 S0)} {e = (mem X0 T0 N0 J3 L3 H3 S4)} _ _ (kind_off _ _ (mem X0 T0 N0 J0 L0 H0 S0) _ (c.at.ensures) (c.if-at.false)) (s_run {a = (mem X0 T0 N0 J0 L0 H0 S0)} {c = (mem X0 T0 N0 J3 L3 H3 S4)} {e = (mem X0 T0 N0 J3 L3 H3 S4)} (settled (c.either.ensures) (runs_in {a = (mem X0 T0 N0 J0 L0 H0 S0)} {c = (mem X0 T0 N0 J3 L3 H3 S3)} (c.dec-got.ensures))) s_end)))

pub pre-peek-requires : goal.pre-peek-requires
pre-peek-requires t c =
    let pre0 = c.requires in
    pre0.reads

pub pre-returns-in_default : goal.pre-returns-in_default
unfolding root.body expr.exp_scope expr.exp_head plan choose chosen
pre-returns-in_default t c =
    let pre0 = c.requires in
    let peek = c.in_default.ensures in
    by_steps pre0 (λ b. s_rule (s_look peek s_end))

pub pre-refuse_for-requires : goal.pre-refuse_for-requires
pre-refuse_for-requires t c =
    tt

pub pre-returns-then-left-eq0 : goal.pre-returns-then-left-eq0
unfolding root.body expr.exp_scope expr.exp_head plan choose chosen expr.exp_rest expr.at_exp hushed
pre-returns-then-left-eq0 t c =
    let X0 = c.args.lent.text.now in
    let T0 = c.args.lent.toks.now in
    let N0 = c.args.lent.env.now in
    let J0 = c.args.table.now in
    let L0 = c.args.scratch.now in
    let H0 = c.args.finds.now in
    let S0 = c.args.s in
    let S3 = c.refuse_for.result in
    by_steps {m = (mem X0 T0 N0 J0 L0 H0 S0)} {m' = (mem X0 T0 N0 J0 L0 H0 S3)} (c.requires) (λ b. s_rule {a = (mem X0 T0 N0 J0 L0 H0 S0)} {e = (mem X0 T0 N0 J0 L0 H0 S3)} (s_look {a = (mem X0 T0 N0 J0 L0 H0 S0)} {e = (mem X0 T0 N0 J0 L0 H0 S3)} (c.in-Some.ensures) (s_shut (c.if-left-eq0.true) (c.refuse_for.ensures) (λ k l. refl))))

pub pre-mark-s1-requires : goal.pre-mark-s1-requires
pre-mark-s1-requires t c =
    tt

pub pre-starts-requires : goal.pre-starts-requires
pre-starts-requires t c =
    tt

pub pre-keyword-s2-requires : goal.pre-keyword-s2-requires
pre-keyword-s2-requires t c =
    let pre0 = c.requires in
    let mark = c.mark-s1.ensures in
    let mark_ok = ok_marks mark pre0 in
    mark_ok

pub pre-kw-s3-requires : goal.pre-kw-s3-requires
pre-kw-s3-requires t c =
    let pre0 = c.requires in
    let keyword = c.keyword-s2.ensures in
    let keyword_ok = keyword.ok in
    (omega arith, (keyword_ok, small_len pre0))

pub pre-returns-then-starts : goal.pre-returns-then-starts
unfolding root.body expr.exp_scope expr.exp_head plan choose chosen
pre-returns-then-starts t c =
    let X0 = c.args.lent.text.now in
    let T0 = c.args.lent.toks.now in
    let N0 = c.args.lent.env.now in
    let J0 = c.args.table.now in
    let L0 = c.args.scratch.now in
    let H0 = c.args.finds.now in
    let S0 = c.args.s in
    let S3 = c.mark-s1.result in
    let L6 = c.keyword-s2.new.scratch in
    let H6 = c.keyword-s2.new.finds in
    let S6 = c.keyword-s2.result in
    let J7 = c.kw-s3.new.table in
    let L7 = c.kw-s3.new.scratch in
    let H7 = c.kw-s3.new.finds in
    let S7 = c.kw-s3.result in
    by_steps {m = (mem X0 T0 N0 J0 L0 H0 S0)} {m' = (mem X0 T0 N0 J7 L7 H7 S7)} (c.requires) (λ b. s_rule {a = (mem X0 T0 N0 J0 L0 H0 S0)} {e = (mem X0 T0 N0 J7 L7 H7 S7)} (s_look {a = (mem X0 T0 N0 J0 L0 H0 S0)} {e = (mem X0 T0 N0 J7 L7 H7 S7)} (c.in-Some.ensures) (s_mark {e = (mem X0 T0 N0 J7 L7 H7 S7)} {x = X0} {t = T0} {n = N0} {j = J0} {l = L0} {h = H0} {s = S0} {s' = S3} (c.if-left-eq0.false) (c.mark-s1.ensures) (s_true {a = (mem X0 T0 N0 J0 L0 H0 S3)} {e = (mem X0 T0 N0 J7 L7 H7 S7)} _ _ (test_true (c.starts.ensures) (c.if-starts.true)) (s_by {a = (mem X0 T0 N0 J0 L0 H0 S3)} {c = (mem X0 T0 N0 J0 L6 H6 S6)} {e = (mem X0 T0 N0 J7 L7 H7 S7)} _ (runs_always {a = (mem X0 T0 N0 J0 L0 H0 S3)} {c = (mem X0 T0 N0 J0 L6 H6 S6)} (c.keyword-s2.ensures)) (s_by {a = (mem X0 T0 N0 J0 L6 H6 S6)} {c = (mem X0 T0 N0 J7 L7 H7 S7)} {e = (mem X0 T0 N0 J7 L7 H7 S7)} _ (c.kw-s3.ensures) s_end))))))

pub pre-rst-requires : goal.pre-rst-requires
pre-rst-requires t c =
    let pre0 = c.requires in
    let mark = c.mark-s1.ensures in
    let mark_ok = ok_marks mark pre0 in
    (omega arith, (mark_ok, small_len pre0))

pub pre-returns : goal.pre-returns
unfolding root.body expr.exp_scope expr.exp_head plan choose chosen
pre-returns t c =
    let X0 = c.args.lent.text.now in
    let T0 = c.args.lent.toks.now in
    let N0 = c.args.lent.env.now in
    let J0 = c.args.table.now in
    let L0 = c.args.scratch.now in
    let H0 = c.args.finds.now in
    let S0 = c.args.s in
    let S3 = c.mark-s1.result in
    let J6 = c.rst.new.table in
    let L6 = c.rst.new.scratch in
    let H6 = c.rst.new.finds in
    let S6 = out_state c.rst.result in
    by_steps {m = (mem X0 T0 N0 J0 L0 H0 S0)} {m' = (mem X0 T0 N0 J6 L6 H6 S6)} (c.requires) (λ b. s_rule {a = (mem X0 T0 N0 J0 L0 H0 S0)} {e = (mem X0 T0 N0 J6 L6 H6 S6)} (s_look {a = (mem X0 T0 N0 J0 L0 H0 S0)} {e = (mem X0 T0 N0 J6 L6 H6 S6)} (c.in-Some.ensures) (s_mark {e = (mem X0 T0 N0 J6 L6 H6 S6)} {x = X0} {t = T0} {n = N0} {j = J0} {l = L0} {h = H0} {s = S0} {s' = S3} (c.if-left-eq0.false) (c.mark-s1.ensures) (s_false {a = (mem X0 T0 N0 J0 L0 H0 S3)} {e = (mem X0 T0 N0 J6 L6 H6 S6)} _ _ (test_false (c.starts.ensures) (c.if-starts.false)) (s_by {a = (mem X0 T0 N0 J0 L0 H0 S3)} {c = (mem X0 T0 N0 J6 L6 H6 S6)} {e = (mem X0 T0 N0 J6 L6 H6 S6)} _ (c.rst.ensures) s_end)))))

pub pt-tl-requires : goal.pt-tl-requires
pt-tl-requires t c =
    let pre0 = c.requires in
    (omega arith, pre0)

pub pt-one-requires : goal.pt-one-requires
pt-one-requires t c =
    let pre0 = c.requires in
    (omega arith, pre0)

pub pt-returns-in-Dec : goal.pt-returns-in-Dec
unfolding decl.semi_closure util.choose plan choose chosen
pt-returns-in-Dec t c =
    let pre0 = c.requires in
    let tl = c.tl.ensures in
    rw c.in-Dec.is (by_steps pre0 (λ b. s_by _ (runs_in tl) s_end))

pub pt-returns-in_default : goal.pt-returns-in_default
unfolding decl.semi_closure plan choose chosen
pt-returns-in_default t c =
    let pre0 = c.requires in
    let one = c.one.ensures in
    by_steps pre0 (λ b. s_second _ _ _ _ _ _ (other_node _ _ c.in_default.not-Dec) (s_by _ (runs_in one) s_end))

pub rhs-is_ascribed-requires : goal.rhs-is_ascribed-requires
rhs-is_ascribed-requires t c =
    tt

pub rhs-ty_must-s1-requires : goal.rhs-ty_must-s1-requires
rhs-ty_must-s1-requires t c =
    let pre0 = c.requires.0 in
    pre0

pub rhs-close_node-requires : goal.rhs-close_node-requires
rhs-close_node-requires t c =
    let pre1 = c.requires.1 in
    let ty_must = c.ty_must-s1.ensures in
    let ty_must_ok = ty_must.ok in
    (ty_must_ok.logs, pre1)

pub rhs-returns-then-is_ascribed : goal.rhs-returns-then-is_ascribed
unfolding expr.right_side plan choose chosen
rhs-returns-then-is_ascribed t c =
    let pre0 = c.requires.0 in
    let is_ascribed = c.is_ascribed.ensures in
    let if1 = c.if-is_ascribed.true in
    let ty_must = c.ty_must-s1.ensures in
    let close_node = c.close_node.ensures in
    in_steps pre0 (s_true _ _ (test_true is_ascribed if1) (s_by _ (runs_in ty_must) (s_close close_node s_end)))

pub rhs-is_handle-requires : goal.rhs-is_handle-requires
rhs-is_handle-requires t c =
    tt

pub rhs-mat-s1-requires : goal.rhs-mat-s1-requires
rhs-mat-s1-requires t c =
    let pre0 = c.requires.0 in
    (omega arith, pre0)

pub rhs-close_node-requires-then-is_handle : goal.rhs-close_node-requires-then-is_handle
rhs-close_node-requires-then-is_handle t c =
    let pre1 = c.requires.1 in
    let mat = c.mat-s1.ensures in
    let mat_ok = mat.ok in
    (mat_ok.logs, pre1)

pub rhs-returns-then-is_handle : goal.rhs-returns-then-is_handle
unfolding expr.right_side plan choose chosen
rhs-returns-then-is_handle t c =
    let pre0 = c.requires.0 in
    let is_ascribed = c.is_ascribed.ensures in
    let if1 = c.if-is_ascribed.false in
    let is_handle = c.is_handle.ensures in
    let if2 = c.if-is_handle.true in
    let mat = c.mat-s1.ensures in
    let close_node2 = c.close_node-then-is_handle.ensures in
    in_steps pre0 (s_false _ _ (test_false is_ascribed if1) (s_true _ _ (test_true is_handle if2) (s_by _ (runs_in mat) (s_close close_node2 s_end))))

pub rhs-exp-s1-requires : goal.rhs-exp-s1-requires
rhs-exp-s1-requires t c =
    let pre0 = c.requires.0 in
    (omega arith, pre0)

pub rhs-node_of-node-requires : goal.rhs-node_of-node-requires
rhs-node_of-node-requires t c =
    tt

pub rhs-close_node-requires-2 : goal.rhs-close_node-requires-2
rhs-close_node-requires-2 t c =
    let pre1 = c.requires.1 in
    let exp = c.exp-s1.ensures in
    let exp_ok = exp.ok in
    (exp_ok.logs, pre1)

pub rhs-returns : goal.rhs-returns
unfolding expr.right_side plan choose chosen
rhs-returns t c =
    let pre0 = c.requires.0 in
    let is_ascribed = c.is_ascribed.ensures in
    let if1 = c.if-is_ascribed.false in
    let is_handle = c.is_handle.ensures in
    let if2 = c.if-is_handle.false in
    let exp = c.exp-s1.ensures in
    let node_of = c.node_of-node.ensures in
    let close_node3 = c.close_node-2.ensures in
    rw (sym node_of) (in_steps pre0 (s_false _ _ (test_false is_ascribed if1) (s_false _ _ (test_false is_handle if2) (s_by _ (runs_in exp) (s_close close_node3 s_end)))))

pub rnd-at-requires : goal.rnd-at-requires
rnd-at-requires t c =
    let pre0 = c.requires.0 in
    pre0.reads

pub rnd-bump-s1-requires : goal.rnd-bump-s1-requires
rnd-bump-s1-requires t c =
    let pre0 = c.requires.0 in
    (pre0.reads, pre0.logs)

pub rnd-close_node-requires : goal.rnd-close_node-requires
rnd-close_node-requires t c =
    let pre0 = c.requires.0 in
    let pre1 = c.requires.1 in
    let bump = c.bump-s1.ensures in
    let bump_ok = ok_bumps bump pre0 in
    (bump_ok.logs, pre1)

pub rnd-returns-then-at : goal.rnd-returns-then-at
unfolding expr.at_exp_l_round expr.end_closure util.choose plan choose chosen
rnd-returns-then-at t c =
    let X0 = c.args.lent.text.now in
    let T0 = c.args.lent.toks.now in
    let N0 = c.args.lent.env.now in
    let J0 = c.args.table.now in
    let L0 = c.args.scratch.now in
    let H0 = c.args.finds.now in
    let S0 = c.args.s in
    let L3 = c.bump-s1.new.scratch in
    let S3 = c.bump-s1.result in
    let L4 = c.close_node.new.scratch in
    let S4 = c.close_node.result in
    in_steps {m = (mem X0 T0 N0 J0 L0 H0 S0)} {m' = (mem X0 T0 N0 J0 L4 H0 S4)} (c.requires.0) (s_kind {a = (mem X0 T0 N0 J0 L0 H0 S0)} {e = (mem X0 T0 N0 J0 L4 H0 S4)} (s_true {a = (mem X0 T0 N0 J0 L0 H0 S0)} {e = (mem X0 T0 N0 J0 L4 H0 S4)} _ _ (kind_at _ _ (mem X0 T0 N0 J0 L0 H0 S0) _ (c.at.ensures) (c.if-at.true)) (s_bump {e = (mem X0 T0 N0 J0 L4 H0 S4)} {x = X0} {t = T0} {n = N0} {j = J0} {l = L0} {h = H0} {s = S0} {s' = S3} {l' = L3} (c.bump-s1.ensures) (s_close {e = (mem X0 T0 N0 J0 L4 H0 S4)} {x = X0} {t = T0} {n = N0} {j = J0} {l = L3} {h = H0} {s = S3} {s' = S4} {l' = L4} (c.close_node.ensures) s_end))))

pub rnd-refuse_for-requires : goal.rnd-refuse_for-requires
rnd-refuse_for-requires t c =
    tt

pub rnd-returns-then-left-eq0 : goal.rnd-returns-then-left-eq0
unfolding expr.at_exp_l_round expr.end_closure util.choose plan choose chosen expr.paren_end hushed
rnd-returns-then-left-eq0 t c =
    let X0 = c.args.lent.text.now in
    let T0 = c.args.lent.toks.now in
    let N0 = c.args.lent.env.now in
    let J0 = c.args.table.now in
    let L0 = c.args.scratch.now in
    let H0 = c.args.finds.now in
    let S0 = c.args.s in
    let S4 = c.refuse_for.result in
    in_steps {m = (mem X0 T0 N0 J0 L0 H0 S0)} {m' = (mem X0 T0 N0 J0 L0 H0 S4)} (c.requires.0) (s_kind {a = (mem X0 T0 N0 J0 L0 H0 S0)} {e = (mem X0 T0 N0 J0 L0 H0 S4)} (s_false {a = (mem X0 T0 N0 J0 L0 H0 S0)} {e = (mem X0 T0 N0 J0 L0 H0 S4)} _ _ (kind_off _ _ (mem X0 T0 N0 J0 L0 H0 S0) _ (c.at.ensures) (c.if-at.false)) (s_shut (c.if-left-eq0.true) (c.refuse_for.ensures) (λ k l. refl))))

pub rnd-mark-s1-requires : goal.rnd-mark-s1-requires
rnd-mark-s1-requires t c =
    tt

pub rnd-exp-s2-requires : goal.rnd-exp-s2-requires
rnd-exp-s2-requires t c =
    let pre0 = c.requires.0 in
    let mark = c.mark-s1.ensures in
    let mark_ok = ok_marks mark pre0 in
    (omega arith, mark_ok)

pub rnd-peek-requires : goal.rnd-peek-requires
rnd-peek-requires t c =
    let exp = c.exp-s2.ensures in
    let exp_ok = exp.ok in
    exp_ok.reads

pub rnd-paren_end-requires : goal.rnd-paren_end-requires
rnd-paren_end-requires t c =
    let pre1 = c.requires.1 in
    let exp = c.exp-s2.ensures in
    let exp_ok = exp.ok in
    (exp_ok, pre1)

pub rnd-returns-in_default : goal.rnd-returns-in_default
unfolding expr.at_exp_l_round expr.end_closure util.choose plan choose chosen
rnd-returns-in_default t c =
    let pre0 = c.requires.0 in
    let at = c.at.ensures in
    let if1 = c.if-at.false in
    let if2 = c.if-left-eq0.false in
    let mark = c.mark-s1.ensures in
    let exp = c.exp-s2.ensures in
    let peek = c.in_default.ensures in
    let paren_end = c.paren_end.ensures in
    in_steps pre0 (s_kind (s_false _ _ (kind_off _ _ _ _ at if1) (s_mark if2 mark (s_by _ (runs_in exp) (s_look peek (s_by _ paren_end s_end))))))

pub rnd-bump-s3-requires : goal.rnd-bump-s3-requires
rnd-bump-s3-requires t c =
    let exp = c.exp-s2.ensures in
    let exp_ok = exp.ok in
    (exp_ok.reads, exp_ok.logs)

pub rnd-close_node-s4-requires : goal.rnd-close_node-s4-requires
rnd-close_node-s4-requires t c =
    let pre0 = c.requires.0 in
    let mark = c.mark-s1.ensures in
    let mark_ok = ok_marks mark pre0 in
    let exp = c.exp-s2.ensures in
    let exp_ok = exp.ok in
    let bump2 = c.bump-s3.ensures in
    let bump2_ok = ok_bumps bump2 exp_ok in
    (bump2_ok.logs, small_len mark_ok)

pub rnd-cl-s5-requires : goal.rnd-cl-s5-requires
rnd-cl-s5-requires t c =
    let pre1 = c.requires.1 in
    let exp = c.exp-s2.ensures in
    let exp_ok = exp.ok in
    let bump2 = c.bump-s3.ensures in
    let bump2_ok = ok_bumps bump2 exp_ok in
    let close_node2 = c.close_node-s4.ensures in
    let close_node2_ok = ok_adds close_node2 bump2_ok in
    (omega arith, (close_node2_ok, pre1, omega arith))

pub rnd-returns-then-k-eq-SEMICOLON : goal.rnd-returns-then-k-eq-SEMICOLON
unfolding expr.at_exp_l_round expr.end_closure util.choose plan choose chosen
rnd-returns-then-k-eq-SEMICOLON t c =
    let X0 = c.args.lent.text.now in
    let T0 = c.args.lent.toks.now in
    let N0 = c.args.lent.env.now in
    let J0 = c.args.table.now in
    let L0 = c.args.scratch.now in
    let H0 = c.args.finds.now in
    let S0 = c.args.s in
    let S4 = c.mark-s1.result in
    let J5 = c.exp-s2.new.table in
    let L5 = c.exp-s2.new.scratch in
    let H5 = c.exp-s2.new.finds in
    let S5 = c.exp-s2.result in
    let L8 = c.bump-s3.new.scratch in
    let S8 = c.bump-s3.result in
    let L9 = c.close_node-s4.new.scratch in
    let S9 = c.close_node-s4.result in
    let J10 = c.cl-s5.new.table in
    let L10 = c.cl-s5.new.scratch in
    let H10 = c.cl-s5.new.finds in
    let S10 = c.cl-s5.result in
    in_steps {m = (mem X0 T0 N0 J0 L0 H0 S0)} {m' = (mem X0 T0 N0 J10 L10 H10 S10)} (c.requires.0) (s_kind {a = (mem X0 T0 N0 J0 L0 H0 S0)} {e = (mem X0 T0 N0 J10 L10 H10 S10)} (s_false {a = (mem X0 T0 N0 J0 L0 H0 S0)} {e = (mem X0 T0 N0 J10 L10 H10 S10)} _ _ (kind_off _ _ (mem X0 T0 N0 J0 L0 H0 S0) _ (c.at.ensures) (c.if-at.false)) (s_mark {e = (mem X0 T0 N0 J10 L10 H10 S10)} {x = X0} {t = T0} {n = N0} {j = J0} {l = L0} {h = H0} {s = S0} {s' = S4} (c.if-left-eq0.false) (c.mark-s1.ensures) (s_by {a = (mem X0 T0 N0 J0 L0 H0 S4)} {c = (mem X0 T0 N0 J5 L5 H5 S5)} {e = (mem X0 T0 N0 J10 L10 H10 S10)} _ (runs_in {a = (mem X0 T0 N0 J0 L0 H0 S4)} {c = (mem X0 T0 N0 J5 L5 H5 S5)} (c.exp-s2.ensures)) (s_look {a = (mem X0 T0 N0 J5 L5 H5 S5)} {e = (mem X0 T0 N0 J10 L10 H10 S10)} (c.in-Some.ensures) (s_true {a = (mem X0 T0 N0 J5 L5 H5 S5)} {e = (mem X0 T0 N0 J10 L10 H10 S10)} _ _ (kind_is (c.if-k-eq-SEMICOLON.true)) (s_bump {e = (mem X0 T0 N0 J10 L10 H10 S10)} {x = X0} {t = T0} {n = N0} {j = J5} {l = L5} {h = H5} {s = S5} {s' = S8} {l' = L8} (c.bump-s3.ensures) (s_close {e = (mem X0 T0 N0 J10 L10 H10 S10)} {x = X0} {t = T0} {n = N0} {j = J5} {l = L8} {h = H5} {s = S8} {s' = S9} {l' = L9} (c.close_node-s4.ensures) (s_by {a = (mem X0 T0 N0 J5 L9 H5 S9)} {c = (mem X0 T0 N0 J10 L10 H10 S10)} {e = (mem X0 T0 N0 J10 L10 H10 S10)} _ (c.cl-s5.ensures) s_end)))))))))

pub rnd-bump-s3-requires-then-k-eq-COMMA : goal.rnd-bump-s3-requires-then-k-eq-COMMA
rnd-bump-s3-requires-then-k-eq-COMMA t c =
    let exp = c.exp-s2.ensures in
    let exp_ok = exp.ok in
    (exp_ok.reads, exp_ok.logs)

pub rnd-close_node-s4-requires-then-k-eq-COMMA : goal.rnd-close_node-s4-requires-then-k-eq-COMMA
rnd-close_node-s4-requires-then-k-eq-COMMA t c =
    let pre0 = c.requires.0 in
    let mark = c.mark-s1.ensures in
    let mark_ok = ok_marks mark pre0 in
    let exp = c.exp-s2.ensures in
    let exp_ok = exp.ok in
    let bump3 = c.bump-s3-then-k-eq-COMMA.ensures in
    let bump3_ok = ok_bumps bump3 exp_ok in
    (bump3_ok.logs, small_len mark_ok)

pub rnd-cl-s5-requires-then-k-eq-COMMA : goal.rnd-cl-s5-requires-then-k-eq-COMMA
rnd-cl-s5-requires-then-k-eq-COMMA t c =
    let pre1 = c.requires.1 in
    let exp = c.exp-s2.ensures in
    let exp_ok = exp.ok in
    let bump3 = c.bump-s3-then-k-eq-COMMA.ensures in
    let bump3_ok = ok_bumps bump3 exp_ok in
    let close_node3 = c.close_node-s4-then-k-eq-COMMA.ensures in
    let close_node3_ok = ok_adds close_node3 bump3_ok in
    (omega arith, (close_node3_ok, pre1, omega arith))

pub rnd-returns-then-k-eq-COMMA : goal.rnd-returns-then-k-eq-COMMA
unfolding expr.at_exp_l_round expr.end_closure util.choose plan choose chosen
rnd-returns-then-k-eq-COMMA t c =
    let X0 = c.args.lent.text.now in
    let T0 = c.args.lent.toks.now in
    let N0 = c.args.lent.env.now in
    let J0 = c.args.table.now in
    let L0 = c.args.scratch.now in
    let H0 = c.args.finds.now in
    let S0 = c.args.s in
    let S4 = c.mark-s1.result in
    let J5 = c.exp-s2.new.table in
    let L5 = c.exp-s2.new.scratch in
    let H5 = c.exp-s2.new.finds in
    let S5 = c.exp-s2.result in
    let L9 = c.bump-s3-then-k-eq-COMMA.new.scratch in
    let S9 = c.bump-s3-then-k-eq-COMMA.result in
    let L10 = c.close_node-s4-then-k-eq-COMMA.new.scratch in
    let S10 = c.close_node-s4-then-k-eq-COMMA.result in
    let J11 = c.cl-s5-then-k-eq-COMMA.new.table in
    let L11 = c.cl-s5-then-k-eq-COMMA.new.scratch in
    let H11 = c.cl-s5-then-k-eq-COMMA.new.finds in
    let S11 = c.cl-s5-then-k-eq-COMMA.result in
    in_steps {m = (mem X0 T0 N0 J0 L0 H0 S0)} {m' = (mem X0 T0 N0 J11 L11 H11 S11)} (c.requires.0) (s_kind {a = (mem X0 T0 N0 J0 L0 H0 S0)} {e = (mem X0 T0 N0 J11 L11 H11 S11)} (s_false {a = (mem X0 T0 N0 J0 L0 H0 S0)} {e = (mem X0 T0 N0 J11 L11 H11 S11)} _ _ (kind_off _ _ (mem X0 T0 N0 J0 L0 H0 S0) _ (c.at.ensures) (c.if-at.false)) (s_mark {e = (mem X0 T0 N0 J11 L11 H11 S11)} {x = X0} {t = T0} {n = N0} {j = J0} {l = L0} {h = H0} {s = S0} {s' = S4} (c.if-left-eq0.false) (c.mark-s1.ensures) (s_by {a = (mem X0 T0 N0 J0 L0 H0 S4)} {c = (mem X0 T0 N0 J5 L5 H5 S5)} {e = (mem X0 T0 N0 J11 L11 H11 S11)} _ (runs_in {a = (mem X0 T0 N0 J0 L0 H0 S4)} {c = (mem X0 T0 N0 J5 L5 H5 S5)} (c.exp-s2.ensures)) (s_look {a = (mem X0 T0 N0 J5 L5 H5 S5)} {e = (mem X0 T0 N0 J11 L11 H11 S11)} (c.in-Some.ensures) (s_false {a = (mem X0 T0 N0 J5 L5 H5 S5)} {e = (mem X0 T0 N0 J11 L11 H11 S11)} _ _ (kind_not (c.if-k-eq-SEMICOLON.false)) (s_true {a = (mem X0 T0 N0 J5 L5 H5 S5)} {e = (mem X0 T0 N0 J11 L11 H11 S11)} _ _ (kind_is (c.if-k-eq-COMMA.true)) (s_bump {e = (mem X0 T0 N0 J11 L11 H11 S11)} {x = X0} {t = T0} {n = N0} {j = J5} {l = L5} {h = H5} {s = S5} {s' = S9} {l' = L9} (c.bump-s3-then-k-eq-COMMA.ensures) (s_close {e = (mem X0 T0 N0 J11 L11 H11 S11)} {x = X0} {t = T0} {n = N0} {j = J5} {l = L9} {h = H5} {s = S9} {s' = S10} {l' = L10} (c.close_node-s4-then-k-eq-COMMA.ensures) (s_by {a = (mem X0 T0 N0 J5 L10 H5 S10)} {c = (mem X0 T0 N0 J11 L11 H11 S11)} {e = (mem X0 T0 N0 J11 L11 H11 S11)} _ (c.cl-s5-then-k-eq-COMMA.ensures) s_end))))))))))

pub rnd-paren_end-requires-2 : goal.rnd-paren_end-requires-2
rnd-paren_end-requires-2 t c =
    let pre1 = c.requires.1 in
    let exp = c.exp-s2.ensures in
    let exp_ok = exp.ok in
    (exp_ok, pre1)

pub rnd-returns : goal.rnd-returns
unfolding expr.at_exp_l_round expr.end_closure util.choose plan choose chosen
rnd-returns t c =
    let X0 = c.args.lent.text.now in
    let T0 = c.args.lent.toks.now in
    let N0 = c.args.lent.env.now in
    let J0 = c.args.table.now in
    let L0 = c.args.scratch.now in
    let H0 = c.args.finds.now in
    let S0 = c.args.s in
    let S4 = c.mark-s1.result in
    let J5 = c.exp-s2.new.table in
    let L5 = c.exp-s2.new.scratch in
    let H5 = c.exp-s2.new.finds in
    let S5 = c.exp-s2.result in
    let L9 = c.paren_end-2.new.scratch in
    let H9 = c.paren_end-2.new.finds in
    let S9 = out_state c.paren_end-2.result in
    in_steps {m = (mem X0 T0 N0 J0 L0 H0 S0)} {m' = (mem X0 T0 N0 J5 L9 H9 S9)} (c.requires.0) (s_kind {a = (mem X0 T0 N0 J0 L0 H0 S0)} {e = (mem X0 T0 N0 J5 L9 H9 S9)} (s_false {a = (mem X0 T0 N0 J0 L0 H0 S0)} {e = (mem X0 T0 N0 J5 L9 H9 S9)} _ _ (kind_off _ _ (mem X0 T0 N0 J0 L0 H0 S0) _ (c.at.ensures) (c.if-at.false)) (s_mark {e = (mem X0 T0 N0 J5 L9 H9 S9)} {x = X0} {t = T0} {n = N0} {j = J0} {l = L0} {h = H0} {s = S0} {s' = S4} (c.if-left-eq0.false) (c.mark-s1.ensures) (s_by {a = (mem X0 T0 N0 J0 L0 H0 S4)} {c = (mem X0 T0 N0 J5 L5 H5 S5)} {e = (mem X0 T0 N0 J5 L9 H9 S9)} _ (runs_in {a = (mem X0 T0 N0 J0 L0 H0 S4)} {c = (mem X0 T0 N0 J5 L5 H5 S5)} (c.exp-s2.ensures)) (s_look {a = (mem X0 T0 N0 J5 L5 H5 S5)} {e = (mem X0 T0 N0 J5 L9 H9 S9)} (c.in-Some.ensures) (s_false {a = (mem X0 T0 N0 J5 L5 H5 S5)} {e = (mem X0 T0 N0 J5 L9 H9 S9)} _ _ (kind_not (c.if-k-eq-SEMICOLON.false)) (s_false {a = (mem X0 T0 N0 J5 L5 H5 S5)} {e = (mem X0 T0 N0 J5 L9 H9 S9)} _ _ (kind_not (c.if-k-eq-COMMA.false)) (s_by {a = (mem X0 T0 N0 J5 L5 H5 S5)} {c = (mem X0 T0 N0 J5 L9 H9 S9)} {e = (mem X0 T0 N0 J5 L9 H9 S9)} _ (c.paren_end-2.ensures) s_end))))))))

pub rst-peek-requires : goal.rst-peek-requires
rst-peek-requires t c =
    let pre0 = c.requires.0 in
    pre0.reads

pub rst-returns-in_default : goal.rst-returns-in_default
unfolding expr.exp_rest expr.at_exp plan choose chosen
rst-returns-in_default t c =
    let pre0 = c.requires.0 in
    let peek = c.in_default.ensures in
    in_steps pre0 (s_look peek s_end)

pub rst-refuse_for-requires : goal.rst-refuse_for-requires
rst-refuse_for-requires t c =
    tt

pub rst-returns-then-left-eq0 : goal.rst-returns-then-left-eq0
unfolding expr.exp_rest expr.at_exp plan choose chosen hushed
rst-returns-then-left-eq0 t c =
    let X0 = c.args.lent.text.now in
    let T0 = c.args.lent.toks.now in
    let N0 = c.args.lent.env.now in
    let J0 = c.args.table.now in
    let L0 = c.args.scratch.now in
    let H0 = c.args.finds.now in
    let S0 = c.args.s in
    let S3 = c.refuse_for.result in
    in_steps {m = (mem X0 T0 N0 J0 L0 H0 S0)} {m' = (mem X0 T0 N0 J0 L0 H0 S3)} (c.requires.0) (s_look {a = (mem X0 T0 N0 J0 L0 H0 S0)} {e = (mem X0 T0 N0 J0 L0 H0 S3)} (c.in-Some.ensures) (s_shut (c.if-left-eq0.true) (c.refuse_for.ensures) (λ k l. refl)))

pub rst-mark-s1-requires : goal.rst-mark-s1-requires
rst-mark-s1-requires t c =
    tt

pub rst-atm-head-requires : goal.rst-atm-head-requires
rst-atm-head-requires t c =
    let pre0 = c.requires.0 in
    let mark = c.mark-s1.ensures in
    let mark_ok = ok_marks mark pre0 in
    (omega arith, (mark_ok, small_len mark_ok))

pub rst-ops-s3-requires : goal.rst-ops-s3-requires
rst-ops-s3-requires t c =
    let pre1 = c.requires.1 in
    let atm = c.in-Ok.ensures in
    let atm_ok = atm.ok in
    (omega arith, (atm_ok, pre1))

pub rst-returns-in-Err : goal.rst-returns-in-Err
unfolding expr.exp_rest expr.at_exp plan choose chosen
rst-returns-in-Err t c =
    let X0 = c.args.lent.text.now in
    let T0 = c.args.lent.toks.now in
    let N0 = c.args.lent.env.now in
    let J0 = c.args.table.now in
    let L0 = c.args.scratch.now in
    let H0 = c.args.finds.now in
    let S0 = c.args.s in
    let S3 = c.mark-s1.result in
    let J4 = c.atm-head.new.table in
    let L4 = c.atm-head.new.scratch in
    let H4 = c.atm-head.new.finds in
    let S4 = c.in-Err.s2 in
    in_steps {m = (mem X0 T0 N0 J0 L0 H0 S0)} {m' = (mem X0 T0 N0 J4 L4 H4 S4)} (c.requires.0) (s_look {a = (mem X0 T0 N0 J0 L0 H0 S0)} {e = (mem X0 T0 N0 J4 L4 H4 S4)} (c.in-Some.ensures) (s_mark {e = (mem X0 T0 N0 J4 L4 H4 S4)} {x = X0} {t = T0} {n = N0} {j = J0} {l = L0} {h = H0} {s = S0} {s' = S3} (c.if-left-eq0.false) (c.mark-s1.ensures) (s_by {a = (mem X0 T0 N0 J0 L0 H0 S3)} {c = (mem X0 T0 N0 J4 L4 H4 S4)} {e = (mem X0 T0 N0 J4 L4 H4 S4)} _ (c.in-Err.ensures) s_end)))

pub rst-returns-in-Ok : goal.rst-returns-in-Ok
unfolding expr.exp_rest expr.at_exp plan choose chosen
rst-returns-in-Ok t c =
    let X0 = c.args.lent.text.now in
    let T0 = c.args.lent.toks.now in
    let N0 = c.args.lent.env.now in
    let J0 = c.args.table.now in
    let L0 = c.args.scratch.now in
    let H0 = c.args.finds.now in
    let S0 = c.args.s in
    let S3 = c.mark-s1.result in
    let J4 = c.atm-head.new.table in
    let L4 = c.atm-head.new.scratch in
    let H4 = c.atm-head.new.finds in
    let S4 = c.in-Ok.s2 in
    let J5 = c.ops-s3.new.table in
    let L5 = c.ops-s3.new.scratch in
    let H5 = c.ops-s3.new.finds in
    let S5 = c.ops-s3.result in
    in_steps {m = (mem X0 T0 N0 J0 L0 H0 S0)} {m' = (mem X0 T0 N0 J5 L5 H5 S5)} (c.requires.0) (s_look {a = (mem X0 T0 N0 J0 L0 H0 S0)} {e = (mem X0 T0 N0 J5 L5 H5 S5)} (c.in-Some.ensures) (s_mark {e = (mem X0 T0 N0 J5 L5 H5 S5)} {x = X0} {t = T0} {n = N0} {j = J0} {l = L0} {h = H0} {s = S0} {s' = S3} (c.if-left-eq0.false) (c.mark-s1.ensures) (s_by {a = (mem X0 T0 N0 J0 L0 H0 S3)} {c = (mem X0 T0 N0 J4 L4 H4 S4)} {e = (mem X0 T0 N0 J5 L5 H5 S5)} _ (c.in-Ok.ensures) (s_run {a = (mem X0 T0 N0 J4 L4 H4 S4)} {c = (mem X0 T0 N0 J5 L5 H5 S5)} {e = (mem X0 T0 N0 J5 L5 H5 S5)} (c.ops-s3.ensures) s_end))))

pub sem-refuse_for-requires : goal.sem-refuse_for-requires
sem-refuse_for-requires t c =
    tt

pub sem-returns-then-left-eq0 : goal.sem-returns-then-left-eq0
unfolding util.semi_turn plan choose chosen hushed
sem-returns-then-left-eq0 t c =
    let pre0 = c.requires in
    let if1 = c.if-left-eq0.true in
    let refuse_for = c.refuse_for.ensures in
    λ g. by_steps pre0 (λ b. s_shut if1 refuse_for (λ k l. refl))

pub sem-mark-s1-requires : goal.sem-mark-s1-requires
sem-mark-s1-requires t c =
    tt

pub sem-pt-got-requires : goal.sem-pt-got-requires
sem-pt-got-requires t c =
    let pre0 = c.requires in
    let mark = c.mark-s1.ensures in
    let mark_ok = ok_marks mark pre0 in
    (omega arith, mark_ok)

pub sem-bump_if-s3-requires : goal.sem-bump_if-s3-requires
sem-bump_if-s3-requires t c =
    let pt = c.in-Ok.ensures in
    let pt_ok = pt.ok in
    (pt_ok.reads, pt_ok.logs)

pub sem-close_node-requires : goal.sem-close_node-requires
sem-close_node-requires t c =
    let pre0 = c.requires in
    let mark = c.mark-s1.ensures in
    let mark_ok = ok_marks mark pre0 in
    let pt = c.in-Ok.ensures in
    let pt_ok = pt.ok in
    let bump_if = c.bump_if-s3.ensures in
    let bump_if_ok = ok_takes bump_if pt_ok in
    (bump_if_ok.logs, small_len mark_ok)

pub sem-returns-in-Err : goal.sem-returns-in-Err
unfolding util.semi_turn plan choose chosen
sem-returns-in-Err t c =
    let pre0 = c.requires in
    let if1 = c.if-left-eq0.false in
    let mark = c.mark-s1.ensures in
    let pt = c.in-Err.ensures in
    λ g. by_steps pre0 (λ b. s_mark if1 mark (s_by _ (runs_in pt) s_end))

pub sem-returns-in-Ok : goal.sem-returns-in-Ok
unfolding util.semi_turn plan choose chosen
sem-returns-in-Ok t c =
    let pre0 = c.requires in
    let if1 = c.if-left-eq0.false in
    let mark = c.mark-s1.ensures in
    let pt = c.in-Ok.ensures in
    let bump_if = c.bump_if-s3.ensures in
    let close_node = c.close_node.ensures in
    λ g. by_steps pre0 (λ b. s_mark if1 mark (s_by _ (runs_in pt) (s_takes _ _ _ bump_if (s_close close_node s_end))))

pub sep-loop-q-init : goal.sep-loop-q-init
sep-loop-q-init t c =
    let pre0 = c.requires.0 in
    let pre1 = c.requires.1 in
    loop_starts pre0

pub sep-at-requires : goal.sep-at-requires
sep-at-requires t c =
    let inv = c.loop-q.invariant.ok in
    inv.reads

pub sep-bump-requires : goal.sep-bump-requires
sep-bump-requires t c =
    let inv = c.loop-q.invariant.ok in
    (inv.reads, inv.logs)

pub sep-returns-then-at : goal.sep-returns-then-at
unfolding util.end_turn util.end_item plan choose chosen
sep-returns-then-at t c =
    let inv = c.loop-q.invariant in
    let at = c.at.ensures in
    let if1 = c.if-at.true in
    let bump = c.bump.ensures in
    loop_ends (end_turn_advances true _ _ _ _ _ _) inv (in_steps inv.ok {n = c.args.left} {b = c.args.b} (s_kind (s_true _ _ (kind_at _ _ _ _ at if1) (s_bump bump s_end))))

pub sep-refuse_for-s2-requires : goal.sep-refuse_for-s2-requires
sep-refuse_for-s2-requires t c =
    tt

pub sep-eat-got-requires : goal.sep-eat-got-requires
sep-eat-got-requires t c =
    let inv = c.loop-q.invariant.ok in
    let refuse_for = c.refuse_for-s2.ensures in
    let refuse_for_ok = ok_refused _ refuse_for inv in
    (refuse_for_ok.reads, refuse_for_ok.logs, refuse_for_ok.holds, omega arith)

pub sep-either-requires : goal.sep-either-requires
sep-either-requires t c =
    tt

pub sep-returns-then-left-eq0 : goal.sep-returns-then-left-eq0
unfolding util.end_turn util.end_item plan choose chosen
sep-returns-then-left-eq0 t c =
    let inv = c.loop-q.invariant in
    let at = c.at.ensures in
    let if1 = c.if-at.false in
    let if2 = c.if-left-eq0.true in
    let refuse_for = c.refuse_for-s2.ensures in
    let eat = c.eat-got.ensures in
    let either = c.either.ensures in
    loop_ends (end_turn_advances true _ _ _ _ _ _) inv (in_steps inv.ok {n = c.args.left} {b = c.args.b} (s_kind (s_false _ _ (kind_off _ _ _ _ at if1) (s_deep if2 refuse_for (s_eats _ _ _ (eats_settled either eat) s_end)))))

pub sep-mark-s2-requires : goal.sep-mark-s2-requires
sep-mark-s2-requires t c =
    tt

pub sep-cel-s3-requires : goal.sep-cel-s3-requires
sep-cel-s3-requires t c =
    let inv = c.loop-q.invariant.ok in
    let mark = c.mark-s2.ensures in
    let mark_ok = ok_marks mark inv in
    (omega arith, mark_ok)

pub sep-at-requires-in-loop-q : goal.sep-at-requires-in-loop-q
sep-at-requires-in-loop-q t c =
    let cel = c.cel-s3.ensures in
    let cel_ok = cel.ok in
    cel_ok.reads

pub sep-bump-s4-requires : goal.sep-bump-s4-requires
sep-bump-s4-requires t c =
    let cel = c.cel-s3.ensures in
    let cel_ok = cel.ok in
    (cel_ok.reads, cel_ok.logs)

pub sep-close_node-s1-requires : goal.sep-close_node-s1-requires
sep-close_node-s1-requires t c =
    let inv = c.loop-q.invariant.ok in
    let mark = c.mark-s2.ensures in
    let mark_ok = ok_marks mark inv in
    let cel = c.cel-s3.ensures in
    let cel_ok = cel.ok in
    let bump2 = c.bump-s4.ensures in
    let bump2_ok = ok_bumps bump2 cel_ok in
    (bump2_ok.logs, small_len mark_ok)

pub sep-loop-q-smaller : goal.sep-loop-q-smaller
unfolding util.end_turn util.end_item plan choose chosen
sep-loop-q-smaller t c =
    let inv = c.loop-q.invariant in
    let at = c.at.ensures in
    let if1 = c.if-at.false in
    let if2 = c.if-left-eq0.false in
    let mark = c.mark-s2.ensures in
    let cel = c.cel-s3.ensures in
    let at2 = c.at-in-loop-q.ensures in
    let if3 = c.if-at-2.true in
    let bump2 = c.bump-s4.ensures in
    let close_node = c.close_node-s1.ensures in
    loop_falls {p = (util.end_turn {g = true} (node_number c.args.q.wrap) c.args.q.sep c.args.q.end (expr.end_closure (node_number c.args.q.wrap)))} (end_turn_advances true _ _ _ _ _ _) (in_steps inv.ok {n = c.args.left} {b = c.args.b} (s_kind (s_false _ _ (kind_off _ _ _ _ at if1) (s_mark if2 mark (s_by _ (runs_in cel) (s_kind (s_true _ _ (kind_at _ _ _ _ at2 if3) (s_bump bump2 (s_close close_node s_end)))))))))

pub sep-loop-q-preserved : goal.sep-loop-q-preserved
unfolding util.end_turn util.end_item plan choose chosen
sep-loop-q-preserved t c =
    let inv = c.loop-q.invariant in
    let at = c.at.ensures in
    let if1 = c.if-at.false in
    let if2 = c.if-left-eq0.false in
    let mark = c.mark-s2.ensures in
    let cel = c.cel-s3.ensures in
    let at2 = c.at-in-loop-q.ensures in
    let if3 = c.if-at-2.true in
    let bump2 = c.bump-s4.ensures in
    let close_node = c.close_node-s1.ensures in
    loop_goes (end_turn_advances true _ _ _ _ _ _) inv (in_steps inv.ok {n = c.args.left} {b = c.args.b} (s_kind (s_false _ _ (kind_off _ _ _ _ at if1) (s_mark if2 mark (s_by _ (runs_in cel) (s_kind (s_true _ _ (kind_at _ _ _ _ at2 if3) (s_bump bump2 (s_close close_node s_end)))))))))

pub sep-close_node-s4-requires : goal.sep-close_node-s4-requires
sep-close_node-s4-requires t c =
    let inv = c.loop-q.invariant.ok in
    let mark = c.mark-s2.ensures in
    let mark_ok = ok_marks mark inv in
    let cel = c.cel-s3.ensures in
    let cel_ok = cel.ok in
    (cel_ok.logs, small_len mark_ok)

pub sep-eat-got-requires-in-loop-q : goal.sep-eat-got-requires-in-loop-q
sep-eat-got-requires-in-loop-q t c =
    let cel = c.cel-s3.ensures in
    let cel_ok = cel.ok in
    let close_node2 = c.close_node-s4.ensures in
    let close_node2_ok = ok_adds close_node2 cel_ok in
    (close_node2_ok.reads, close_node2_ok.logs, close_node2_ok.holds, omega arith)

pub sep-either-requires-in-loop-q : goal.sep-either-requires-in-loop-q
sep-either-requires-in-loop-q t c =
    tt

pub sep-returns-in-loop-q : goal.sep-returns-in-loop-q
unfolding util.end_turn util.end_item plan choose chosen
sep-returns-in-loop-q t c =
    let inv = c.loop-q.invariant in
    let at = c.at.ensures in
    let if1 = c.if-at.false in
    let if2 = c.if-left-eq0.false in
    let mark = c.mark-s2.ensures in
    let cel = c.cel-s3.ensures in
    let at2 = c.at-in-loop-q.ensures in
    let if3 = c.if-at-2.false in
    let close_node2 = c.close_node-s4.ensures in
    let eat2 = c.eat-got-in-loop-q.ensures in
    let either2 = c.either-in-loop-q.ensures in
    loop_ends (end_turn_advances true _ _ _ _ _ _) inv (in_steps inv.ok {n = c.args.left} {b = c.args.b} (s_kind (s_false _ _ (kind_off _ _ _ _ at if1) (s_mark if2 mark (s_by _ (runs_in cel) (s_kind (s_false _ _ (kind_off _ _ _ _ at2 if3) (s_close close_node2 (s_eats _ _ _ (eats_settled either2 eat2) s_end)))))))))

pub seq-loop-s2-init : goal.seq-loop-s2-init
seq-loop-s2-init t c =
    let pre0 = c.requires in
    λ g. loop_starts pre0

pub seq-sem-turn-requires : goal.seq-sem-turn-requires
seq-sem-turn-requires t c =
    let inv = (c.loop-s2.invariant true).ok in
    (omega arith, inv)

pub seq-loop-s2-smaller : goal.seq-loop-s2-smaller
seq-loop-s2-smaller t c =
    let sem = c.in-Ok.ensures in
    loop_falls (semi_turn_advances true _ _ _ _) (runs_in {b = 0} (sem true))

pub seq-loop-s2-preserved : goal.seq-loop-s2-preserved
seq-loop-s2-preserved t c =
    let inv = c.loop-s2.invariant in
    let sem = c.in-Ok.ensures in
    λ g. loop_goes (semi_turn_advances g _ _ _ _) (inv g) (runs_in (sem g))

pub seq-returns-in-Err : goal.seq-returns-in-Err
seq-returns-in-Err t c =
    let inv = c.loop-s2.invariant in
    let sem = c.in-Err.ensures in
    λ g. loop_ends (semi_turn_advances g _ _ _ _) (inv g) (runs_in (sem g))

pub sgb-eat-name-requires : goal.sgb-eat-name-requires
sgb-eat-name-requires t c =
    let pre0 = c.requires in
    (pre0.reads, pre0.logs, pre0.holds, omega arith)

pub sgb-want-s2-requires : goal.sgb-want-s2-requires
sgb-want-s2-requires t c =
    let pre0 = c.requires in
    let eat = c.in-Ok.ensures in
    let eat_ok = ok_eats eat pre0 in
    (eat_ok.reads, eat_ok.logs, eat_ok.holds, omega arith)

pub sgb-sgm-s3-requires : goal.sgb-sgm-s3-requires
sgb-sgm-s3-requires t c =
    let pre0 = c.requires in
    let eat = c.in-Ok.ensures in
    let eat_ok = ok_eats eat pre0 in
    let want = c.want-s2.ensures in
    let want_ok = ok_eats want eat_ok in
    (omega arith, want_ok)

pub sgb-returns-in-Err : goal.sgb-returns-in-Err
unfolding decl.sig_bind plan choose chosen
sgb-returns-in-Err t c =
    let X0 = c.args.lent.text.now in
    let T0 = c.args.lent.toks.now in
    let N0 = c.args.lent.env.now in
    let J0 = c.args.table.now in
    let L0 = c.args.scratch.now in
    let H0 = c.args.finds.now in
    let S0 = c.args.s in
    let L1 = c.eat-name.new.scratch in
    let H1 = c.eat-name.new.finds in
    let S1 = c.in-Err.s1 in
    by_steps {m = (mem X0 T0 N0 J0 L0 H0 S0)} {m' = (mem X0 T0 N0 J0 L1 H1 S1)} (c.requires) (λ b. s_eats _ _ {x = X0} {t = T0} {n = N0} {j = J0} {l = L0} {h = H0} {l' = L1} {s = S0} {s' = S1} {e = (mem X0 T0 N0 J0 L1 H1 S1)} _ {h' = H1} (c.in-Err.ensures) s_end)

pub sgb-returns-in-Ok : goal.sgb-returns-in-Ok
unfolding decl.sig_bind plan choose chosen
sgb-returns-in-Ok t c =
    let X0 = c.args.lent.text.now in
    let T0 = c.args.lent.toks.now in
    let N0 = c.args.lent.env.now in
    let J0 = c.args.table.now in
    let L0 = c.args.scratch.now in
    let H0 = c.args.finds.now in
    let S0 = c.args.s in
    let L1 = c.eat-name.new.scratch in
    let H1 = c.eat-name.new.finds in
    let S1 = c.in-Ok.s1 in
    let L2 = c.want-s2.new.scratch in
    let H2 = c.want-s2.new.finds in
    let S2 = c.want-s2.result in
    let J3 = c.sgm-s3.new.table in
    let L3 = c.sgm-s3.new.scratch in
    let H3 = c.sgm-s3.new.finds in
    let S3 = c.sgm-s3.result in
    by_steps {m = (mem X0 T0 N0 J0 L0 H0 S0)} {m' = (mem X0 T0 N0 J3 L3 H3 S3)} (c.requires) (λ b. s_eats _ _ {x = X0} {t = T0} {n = N0} {j = J0} {l = L0} {h = H0} {l' = L1} {s = S0} {s' = S1} {e = (mem X0 T0 N0 J3 L3 H3 S3)} _ {h' = H1} (c.in-Ok.ensures) (s_eats _ _ {x = X0} {t = T0} {n = N0} {j = J0} {l = L1} {h = H1} {l' = L2} {s = S1} {s' = S2} {e = (mem X0 T0 N0 J3 L3 H3 S3)} _ {h' = H2} (c.want-s2.ensures) (s_by {a = (mem X0 T0 N0 J0 L2 H2 S2)} {c = (mem X0 T0 N0 J3 L3 H3 S3)} {e = (mem X0 T0 N0 J3 L3 H3 S3)} _ (runs_in {a = (mem X0 T0 N0 J0 L2 H2 S2)} {c = (mem X0 T0 N0 J3 L3 H3 S3)} (c.sgm-s3.ensures)) s_end)))

pub sgm-sgx-got-requires : goal.sgm-sgx-got-requires
sgm-sgx-got-requires t c =
    let pre0 = c.requires in
    (omega arith, pre0)

pub sgm-report_error-requires : goal.sgm-report_error-requires
sgm-report_error-requires t c =
    let sgx = c.in-Err.ensures in
    let sgx_ok = sgx.ok in
    (sgx_ok.holds, (let few = sgx_ok.reads.few in let inside = sgx_ok.reads.inside in omega arith), omega arith)

pub sgm-returns-in-Ok : goal.sgm-returns-in-Ok
unfolding decl.sig_must plan choose chosen
sgm-returns-in-Ok t c =
    let X0 = c.args.lent.text.now in
    let T0 = c.args.lent.toks.now in
    let N0 = c.args.lent.env.now in
    let J0 = c.args.table.now in
    let L0 = c.args.scratch.now in
    let H0 = c.args.finds.now in
    let S0 = c.args.s in
    let J1 = c.sgx-got.new.table in
    let L1 = c.sgx-got.new.scratch in
    let H1 = c.sgx-got.new.finds in
    let S1 = c.in-Ok.s1 in
    by_steps {m = (mem X0 T0 N0 J0 L0 H0 S0)} {m' = (mem X0 T0 N0 J1 L1 H1 S1)} (c.requires) (λ b. s_run {a = (mem X0 T0 N0 J0 L0 H0 S0)} {c = (mem X0 T0 N0 J1 L1 H1 S1)} {e = (mem X0 T0 N0 J1 L1 H1 S1)} (runs_in {a = (mem X0 T0 N0 J0 L0 H0 S0)} {c = (mem X0 T0 N0 J1 L1 H1 S1)} (c.in-Ok.ensures)) s_end)

pub sgm-returns-in-Err : goal.sgm-returns-in-Err
unfolding decl.sig_must plan choose chosen
sgm-returns-in-Err t c =
    let X0 = c.args.lent.text.now in
    let T0 = c.args.lent.toks.now in
    let N0 = c.args.lent.env.now in
    let J0 = c.args.table.now in
    let L0 = c.args.scratch.now in
    let H0 = c.args.finds.now in
    let S0 = c.args.s in
    let J1 = c.sgx-got.new.table in
    let L1 = c.sgx-got.new.scratch in
    let H1 = c.sgx-got.new.finds in
    let S1 = c.in-Err.s1 in
    let H2 = c.report_error.new.finds in
    let S2 = c.report_error.result in
    by_steps {m = (mem X0 T0 N0 J0 L0 H0 S0)} {m' = (mem X0 T0 N0 J1 L1 H2 S2)} (c.requires) (λ b. s_run {a = (mem X0 T0 N0 J0 L0 H0 S0)} {c = (mem X0 T0 N0 J1 L1 H1 S1)} {e = (mem X0 T0 N0 J1 L1 H2 S2)} (runs_in {a = (mem X0 T0 N0 J0 L0 H0 S0)} {c = (mem X0 T0 N0 J1 L1 H1 S1)} (c.in-Err.ensures)) (s_report {e = (mem X0 T0 N0 J1 L1 H2 S2)} {x = X0} {t = T0} {n = N0} {j = J1} {l = L1} {h = H1} {s = S1} {s' = S2} {h' = H2} (c.report_error.ensures) s_end))

pub sgx-peek-requires : goal.sgx-peek-requires
sgx-peek-requires t c =
    let pre0 = c.requires in
    pre0.reads

pub sgx-returns-in_default : goal.sgx-returns-in_default
unfolding root.body decl.sig_scope decl.sig_head plan choose chosen
sgx-returns-in_default t c =
    let pre0 = c.requires in
    let peek = c.in_default.ensures in
    by_steps pre0 (λ b. s_rule (s_look peek s_end))

pub sgx-refuse_for-requires : goal.sgx-refuse_for-requires
sgx-refuse_for-requires t c =
    tt

pub sgx-returns-then-left-eq0 : goal.sgx-returns-then-left-eq0
unfolding root.body decl.sig_scope decl.sig_head plan choose chosen hushed
sgx-returns-then-left-eq0 t c =
    let X0 = c.args.lent.text.now in
    let T0 = c.args.lent.toks.now in
    let N0 = c.args.lent.env.now in
    let J0 = c.args.table.now in
    let L0 = c.args.scratch.now in
    let H0 = c.args.finds.now in
    let S0 = c.args.s in
    let S3 = c.refuse_for.result in
    by_steps {m = (mem X0 T0 N0 J0 L0 H0 S0)} {m' = (mem X0 T0 N0 J0 L0 H0 S3)} (c.requires) (λ b. s_rule {a = (mem X0 T0 N0 J0 L0 H0 S0)} {e = (mem X0 T0 N0 J0 L0 H0 S3)} (s_look {a = (mem X0 T0 N0 J0 L0 H0 S0)} {e = (mem X0 T0 N0 J0 L0 H0 S3)} (c.in-Some.ensures) (s_shut (c.if-left-eq0.true) (c.refuse_for.ensures) (λ k l. refl))))

pub sgx-mark-s1-requires : goal.sgx-mark-s1-requires
sgx-mark-s1-requires t c =
    tt

pub sgx-bump-s2-requires : goal.sgx-bump-s2-requires
sgx-bump-s2-requires t c =
    let pre0 = c.requires in
    let mark = c.mark-s1.ensures in
    let mark_ok = ok_marks mark pre0 in
    (mark_ok.reads, mark_ok.logs)

pub sgx-dec-got-requires : goal.sgx-dec-got-requires
sgx-dec-got-requires t c =
    let pre0 = c.requires in
    let mark = c.mark-s1.ensures in
    let mark_ok = ok_marks mark pre0 in
    let bump = c.bump-s2.ensures in
    let bump_ok = ok_bumps bump mark_ok in
    (omega arith, bump_ok)

pub sgx-either-s3-requires : goal.sgx-either-s3-requires
sgx-either-s3-requires t c =
    tt

pub sgx-give_back-s4-requires : goal.sgx-give_back-s4-requires
sgx-give_back-s4-requires t c =
    tt

pub sgx-end_node-s5-requires : goal.sgx-end_node-s5-requires
sgx-end_node-s5-requires t c =
    let pre0 = c.requires in
    let mark = c.mark-s1.ensures in
    let mark_ok = ok_marks mark pre0 in
    let bump = c.bump-s2.ensures in
    let bump_ok = ok_bumps bump mark_ok in
    let dec = c.dec-got.ensures in
    let either = c.either-s3.ensures in
    let give_back = c.give_back-s4.ensures in
    let give_back_ok = ok_back (settled either (runs_in {b = 0} dec)) give_back bump_ok in
    (give_back_ok, small_len pre0, omega arith)

pub sgx-wheres-requires : goal.sgx-wheres-requires
sgx-wheres-requires t c =
    let pre0 = c.requires in
    let end_node = c.end_node-s5.ensures in
    let end_node_ok = end_node.ok in
    (end_node_ok, small_len pre0)

pub sgx-returns-then-k-eq-SIG_KW : goal.sgx-returns-then-k-eq-SIG_KW
unfolding root.body decl.sig_scope decl.sig_head plan choose chosen
sgx-returns-then-k-eq-SIG_KW t c =
    let X0 = c.args.lent.text.now in
    let T0 = c.args.lent.toks.now in
    let N0 = c.args.lent.env.now in
    let J0 = c.args.table.now in
    let L0 = c.args.scratch.now in
    let H0 = c.args.finds.now in
    let S0 = c.args.s in
    let S3 = c.mark-s1.result in
    let L5 = c.bump-s2.new.scratch in
    let S5 = c.bump-s2.result in
    let J6 = c.dec-got.new.table in
    let L6 = c.dec-got.new.scratch in
    let H6 = c.dec-got.new.finds in
    let S6 = out_state c.dec-got.result in
    let S7 = c.either-s3.result in
    let S8 = c.give_back-s4.result in
    let L9 = c.end_node-s5.new.scratch in
    let H9 = c.end_node-s5.new.finds in
    let S9 = c.end_node-s5.result in
    let L10 = c.wheres.new.scratch in
    let H10 = c.wheres.new.finds in
    let S10 = c.wheres.result in
    by_steps {m = (mem X0 T0 N0 J0 L0 H0 S0)} {m' = (mem X0 T0 N0 J6 L10 H10 S10)} (c.requires) (λ b. s_rule {a = (mem X0 T0 N0 J0 L0 H0 S0)} {e = (mem X0 T0 N0 J6 L10 H10 S10)} (s_look {a = (mem X0 T0 N0 J0 L0 H0 S0)} {e = (mem X0 T0 N0 J6 L10 H10 S10)} (c.in-Some.ensures) (s_mark {e = (mem X0 T0 N0 J6 L10 H10 S10)} {x = X0} {t = T0} {n = N0} {j = J0} {l = L0} {h = H0} {s = S0} {s' = S3} (c.if-left-eq0.false) (c.mark-s1.ensures) (s_true {a = (mem X0 T0 N0 J0 L0 H0 S3)} {e = (mem X0 T0 N0 J6 L10 H10 S10)} _ _ (kind_is (c.if-k-eq-SIG_KW.true)) (s_bump {e = (mem X0 T0 N0 J6 L10 H10 S10)} {x = X0} {t = T0} {n = N0} {j = J0} {l = L0} {h = H0} {s = S3} {s' = S5} {l' = L5} (c.bump-s2.ensures) (s_scoped {x = X0} {t = T0} {e = N0} {j = J0} {l = L5} {y = H0} {j' = J6} {l' = L6} {y' = H6} {s = S5} {s' = S7} {c = (mem X0 T0 N0 J6 L10 H10 S10)} {r = S8} (settled (c.either-s3.ensures) (runs_in {a = (mem X0 T0 N0 J0 L5 H0 S5)} {c = (mem X0 T0 N0 J6 L6 H6 S6)} (c.dec-got.ensures))) (c.give_back-s4.ensures) (s_by {a = (mem X0 T0 N0 J6 L6 H6 S8)} {c = (mem X0 T0 N0 J6 L9 H9 S9)} {e = (mem X0 T0 N0 J6 L10 H10 S10)} _ (c.end_node-s5.ensures) (s_by {a = (mem X0 T0 N0 J6 L9 H9 S9)} {c = (mem X0 T0 N0 J6 L10 H10 S10)} {e = (mem X0 T0 N0 J6 L10 H10 S10)} _ (c.wheres.ensures) s_end))))))))

pub sgx-bump-s2-requires-then-k-eq-NAME : goal.sgx-bump-s2-requires-then-k-eq-NAME
sgx-bump-s2-requires-then-k-eq-NAME t c =
    let pre0 = c.requires in
    let mark = c.mark-s1.ensures in
    let mark_ok = ok_marks mark pre0 in
    (mark_ok.reads, mark_ok.logs)

pub sgx-close_node-s3-requires : goal.sgx-close_node-s3-requires
sgx-close_node-s3-requires t c =
    let pre0 = c.requires in
    let mark = c.mark-s1.ensures in
    let mark_ok = ok_marks mark pre0 in
    let bump2 = c.bump-s2-then-k-eq-NAME.ensures in
    let bump2_ok = ok_bumps bump2 mark_ok in
    (bump2_ok.logs, small_len pre0)

pub sgx-wheres-requires-then-k-eq-NAME : goal.sgx-wheres-requires-then-k-eq-NAME
sgx-wheres-requires-then-k-eq-NAME t c =
    let pre0 = c.requires in
    let mark = c.mark-s1.ensures in
    let mark_ok = ok_marks mark pre0 in
    let bump2 = c.bump-s2-then-k-eq-NAME.ensures in
    let bump2_ok = ok_bumps bump2 mark_ok in
    let close_node = c.close_node-s3.ensures in
    let close_node_ok = ok_adds close_node bump2_ok in
    (close_node_ok, small_len pre0)

pub sgx-returns-then-k-eq-NAME : goal.sgx-returns-then-k-eq-NAME
unfolding root.body decl.sig_scope decl.sig_head plan choose chosen
sgx-returns-then-k-eq-NAME t c =
    let X0 = c.args.lent.text.now in
    let T0 = c.args.lent.toks.now in
    let N0 = c.args.lent.env.now in
    let J0 = c.args.table.now in
    let L0 = c.args.scratch.now in
    let H0 = c.args.finds.now in
    let S0 = c.args.s in
    let S3 = c.mark-s1.result in
    let L6 = c.bump-s2-then-k-eq-NAME.new.scratch in
    let S6 = c.bump-s2-then-k-eq-NAME.result in
    let L7 = c.close_node-s3.new.scratch in
    let S7 = c.close_node-s3.result in
    let L8 = c.wheres-then-k-eq-NAME.new.scratch in
    let H8 = c.wheres-then-k-eq-NAME.new.finds in
    let S8 = c.wheres-then-k-eq-NAME.result in
    by_steps {m = (mem X0 T0 N0 J0 L0 H0 S0)} {m' = (mem X0 T0 N0 J0 L8 H8 S8)} (c.requires) (λ b. s_rule {a = (mem X0 T0 N0 J0 L0 H0 S0)} {e = (mem X0 T0 N0 J0 L8 H8 S8)} (s_look {a = (mem X0 T0 N0 J0 L0 H0 S0)} {e = (mem X0 T0 N0 J0 L8 H8 S8)} (c.in-Some.ensures) (s_mark {e = (mem X0 T0 N0 J0 L8 H8 S8)} {x = X0} {t = T0} {n = N0} {j = J0} {l = L0} {h = H0} {s = S0} {s' = S3} (c.if-left-eq0.false) (c.mark-s1.ensures) (s_false {a = (mem X0 T0 N0 J0 L0 H0 S3)} {e = (mem X0 T0 N0 J0 L8 H8 S8)} _ _ (kind_not (c.if-k-eq-SIG_KW.false)) (s_true {a = (mem X0 T0 N0 J0 L0 H0 S3)} {e = (mem X0 T0 N0 J0 L8 H8 S8)} _ _ (kind_is (c.if-k-eq-NAME.true)) (s_bump {e = (mem X0 T0 N0 J0 L8 H8 S8)} {x = X0} {t = T0} {n = N0} {j = J0} {l = L0} {h = H0} {s = S3} {s' = S6} {l' = L6} (c.bump-s2-then-k-eq-NAME.ensures) (s_close {e = (mem X0 T0 N0 J0 L8 H8 S8)} {x = X0} {t = T0} {n = N0} {j = J0} {l = L6} {h = H0} {s = S6} {s' = S7} {l' = L7} (c.close_node-s3.ensures) (s_by {a = (mem X0 T0 N0 J0 L7 H0 S7)} {c = (mem X0 T0 N0 J0 L8 H8 S8)} {e = (mem X0 T0 N0 J0 L8 H8 S8)} _ (c.wheres-then-k-eq-NAME.ensures) s_end))))))))

pub sgx-returns : goal.sgx-returns
unfolding root.body decl.sig_scope decl.sig_head plan choose chosen
sgx-returns t c =
    let X0 = c.args.lent.text.now in
    let T0 = c.args.lent.toks.now in
    let N0 = c.args.lent.env.now in
    let J0 = c.args.table.now in
    let L0 = c.args.scratch.now in
    let H0 = c.args.finds.now in
    let S0 = c.args.s in
    let S3 = c.mark-s1.result in
    by_steps {m = (mem X0 T0 N0 J0 L0 H0 S0)} {m' = (mem X0 T0 N0 J0 L0 H0 S3)} (c.requires) (λ b. s_rule {a = (mem X0 T0 N0 J0 L0 H0 S0)} {e = (mem X0 T0 N0 J0 L0 H0 S3)} (s_look {a = (mem X0 T0 N0 J0 L0 H0 S0)} {e = (mem X0 T0 N0 J0 L0 H0 S3)} (c.in-Some.ensures) (s_mark {e = (mem X0 T0 N0 J0 L0 H0 S3)} {x = X0} {t = T0} {n = N0} {j = J0} {l = L0} {h = H0} {s = S0} {s' = S3} (c.if-left-eq0.false) (c.mark-s1.ensures) (s_false {a = (mem X0 T0 N0 J0 L0 H0 S3)} {e = (mem X0 T0 N0 J0 L0 H0 S3)} _ _ (kind_not (c.if-k-eq-SIG_KW.false)) (s_false {a = (mem X0 T0 N0 J0 L0 H0 S3)} {e = (mem X0 T0 N0 J0 L0 H0 S3)} _ _ (kind_not (c.if-k-eq-NAME.false)) s_end)))))

pub slt-dec-got-requires : goal.slt-dec-got-requires
slt-dec-got-requires t c =
    let pre0 = c.requires in
    (omega arith, pre0)

pub slt-either-s1-requires : goal.slt-either-s1-requires
slt-either-s1-requires t c =
    tt

pub slt-want-s2-requires : goal.slt-want-s2-requires
slt-want-s2-requires t c =
    let dec = c.dec-got.ensures in
    let dec_ok = dec.ok in
    let either = c.either-s1.ensures in
    let either_ok = ok_state either dec_ok in
    (either_ok.reads, either_ok.logs, either_ok.holds, omega arith)

pub slt-stm-requires : goal.slt-stm-requires
slt-stm-requires t c =
    let dec = c.dec-got.ensures in
    let dec_ok = dec.ok in
    let either = c.either-s1.ensures in
    let either_ok = ok_state either dec_ok in
    let want = c.want-s2.ensures in
    let want_ok = ok_eats want either_ok in
    (omega arith, want_ok)

pub slt-returns : goal.slt-returns
unfolding decl.str_let plan choose chosen
slt-returns t c =
    let X0 = c.args.lent.text.now in
    let T0 = c.args.lent.toks.now in
    let N0 = c.args.lent.env.now in
    let J0 = c.args.table.now in
    let L0 = c.args.scratch.now in
    let H0 = c.args.finds.now in
    let S0 = c.args.s in
    let J1 = c.dec-got.new.table in
    let L1 = c.dec-got.new.scratch in
    let H1 = c.dec-got.new.finds in
    let S1 = out_state c.dec-got.result in
    let S2 = c.either-s1.result in
    let L3 = c.want-s2.new.scratch in
    let H3 = c.want-s2.new.finds in
    let S3 = c.want-s2.result in
    let J4 = c.stm.new.table in
    let L4 = c.stm.new.scratch in
    let H4 = c.stm.new.finds in
    let S4 = c.stm.result in
    by_steps {m = (mem X0 T0 N0 J0 L0 H0 S0)} {m' = (mem X0 T0 N0 J4 L4 H4 S4)} (c.requires) (λ b. s_run {a = (mem X0 T0 N0 J0 L0 H0 S0)} {c = (mem X0 T0 N0 J1 L1 H1 S2)} {e = (mem X0 T0 N0 J4 L4 H4 S4)} (settled (c.either-s1.ensures) (runs_in {a = (mem X0 T0 N0 J0 L0 H0 S0)} {c = (mem X0 T0 N0 J1 L1 H1 S1)} (c.dec-got.ensures))) (s_eats _ _ {x = X0} {t = T0} {n = N0} {j = J1} {l = L1} {h = H1} {l' = L3} {s = S2} {s' = S3} {e = (mem X0 T0 N0 J4 L4 H4 S4)} _ {h' = H3} (c.want-s2.ensures) (s_by {a = (mem X0 T0 N0 J1 L3 H3 S3)} {c = (mem X0 T0 N0 J4 L4 H4 S4)} {e = (mem X0 T0 N0 J4 L4 H4 S4)} _ (runs_in {a = (mem X0 T0 N0 J1 L3 H3 S3)} {c = (mem X0 T0 N0 J4 L4 H4 S4)} (c.stm.ensures)) s_end)))

pub stb-eat-name-requires : goal.stb-eat-name-requires
stb-eat-name-requires t c =
    let pre0 = c.requires in
    (pre0.reads, pre0.logs, pre0.holds, omega arith)

pub stb-aso-s2-requires : goal.stb-aso-s2-requires
stb-aso-s2-requires t c =
    let pre0 = c.requires in
    let eat = c.in-Ok.ensures in
    let eat_ok = ok_eats eat pre0 in
    (omega arith, eat_ok)

pub stb-at-requires : goal.stb-at-requires
stb-at-requires t c =
    let aso = c.aso-s2.ensures in
    let aso_ok = aso.ok in
    aso_ok.reads

pub stb-refuse_for-requires : goal.stb-refuse_for-requires
stb-refuse_for-requires t c =
    tt

pub stb-returns-then-left-eq0 : goal.stb-returns-then-left-eq0
unfolding decl.str_bind plan choose chosen hushed
stb-returns-then-left-eq0 t c =
    let X0 = c.args.lent.text.now in
    let T0 = c.args.lent.toks.now in
    let N0 = c.args.lent.env.now in
    let J0 = c.args.table.now in
    let L0 = c.args.scratch.now in
    let H0 = c.args.finds.now in
    let S0 = c.args.s in
    let L1 = c.eat-name.new.scratch in
    let H1 = c.eat-name.new.finds in
    let S1 = c.in-Ok.s1 in
    let J2 = c.aso-s2.new.table in
    let L2 = c.aso-s2.new.scratch in
    let H2 = c.aso-s2.new.finds in
    let S2 = c.aso-s2.result in
    let S6 = c.refuse_for.result in
    by_steps {m = (mem X0 T0 N0 J0 L0 H0 S0)} {m' = (mem X0 T0 N0 J2 L2 H2 S6)} (c.requires) (λ b. s_eats _ _ {x = X0} {t = T0} {n = N0} {j = J0} {l = L0} {h = H0} {l' = L1} {s = S0} {s' = S1} {e = (mem X0 T0 N0 J2 L2 H2 S6)} _ {h' = H1} (c.in-Ok.ensures) (s_by {a = (mem X0 T0 N0 J0 L1 H1 S1)} {c = (mem X0 T0 N0 J2 L2 H2 S2)} {e = (mem X0 T0 N0 J2 L2 H2 S6)} _ (runs_in {a = (mem X0 T0 N0 J0 L1 H1 S1)} {c = (mem X0 T0 N0 J2 L2 H2 S2)} (c.aso-s2.ensures)) (s_kind {a = (mem X0 T0 N0 J2 L2 H2 S2)} {e = (mem X0 T0 N0 J2 L2 H2 S6)} (s_true {a = (mem X0 T0 N0 J2 L2 H2 S2)} {e = (mem X0 T0 N0 J2 L2 H2 S6)} _ _ (kind_at _ _ (mem X0 T0 N0 J2 L2 H2 S2) _ (c.at.ensures) (c.if-at.true)) (s_shut (c.if-left-eq0.true) (c.refuse_for.ensures) (λ k l. refl))))))

pub stb-mark-s3-requires : goal.stb-mark-s3-requires
stb-mark-s3-requires t c =
    tt

pub stb-bump-s4-requires : goal.stb-bump-s4-requires
stb-bump-s4-requires t c =
    let aso = c.aso-s2.ensures in
    let aso_ok = aso.ok in
    let mark = c.mark-s3.ensures in
    let mark_ok = ok_marks mark aso_ok in
    (mark_ok.reads, mark_ok.logs)

pub stb-stm-s5-requires : goal.stb-stm-s5-requires
stb-stm-s5-requires t c =
    let aso = c.aso-s2.ensures in
    let aso_ok = aso.ok in
    let mark = c.mark-s3.ensures in
    let mark_ok = ok_marks mark aso_ok in
    let bump = c.bump-s4.ensures in
    let bump_ok = ok_bumps bump mark_ok in
    (omega arith, bump_ok)

pub stb-close_node-requires : goal.stb-close_node-requires
stb-close_node-requires t c =
    let aso = c.aso-s2.ensures in
    let aso_ok = aso.ok in
    let mark = c.mark-s3.ensures in
    let mark_ok = ok_marks mark aso_ok in
    let stm = c.stm-s5.ensures in
    let stm_ok = stm.ok in
    (stm_ok.logs, small_len mark_ok)

pub stb-returns-then-at : goal.stb-returns-then-at
unfolding decl.str_bind plan choose chosen
stb-returns-then-at t c =
    let X0 = c.args.lent.text.now in
    let T0 = c.args.lent.toks.now in
    let N0 = c.args.lent.env.now in
    let J0 = c.args.table.now in
    let L0 = c.args.scratch.now in
    let H0 = c.args.finds.now in
    let S0 = c.args.s in
    let L1 = c.eat-name.new.scratch in
    let H1 = c.eat-name.new.finds in
    let S1 = c.in-Ok.s1 in
    let J2 = c.aso-s2.new.table in
    let L2 = c.aso-s2.new.scratch in
    let H2 = c.aso-s2.new.finds in
    let S2 = c.aso-s2.result in
    let S6 = c.mark-s3.result in
    let L7 = c.bump-s4.new.scratch in
    let S7 = c.bump-s4.result in
    let J8 = c.stm-s5.new.table in
    let L8 = c.stm-s5.new.scratch in
    let H8 = c.stm-s5.new.finds in
    let S8 = c.stm-s5.result in
    let L9 = c.close_node.new.scratch in
    let S9 = c.close_node.result in
    by_steps {m = (mem X0 T0 N0 J0 L0 H0 S0)} {m' = (mem X0 T0 N0 J8 L9 H8 S9)} (c.requires) (λ b. s_eats _ _ {x = X0} {t = T0} {n = N0} {j = J0} {l = L0} {h = H0} {l' = L1} {s = S0} {s' = S1} {e = (mem X0 T0 N0 J8 L9 H8 S9)} _ {h' = H1} (c.in-Ok.ensures) (s_by {a = (mem X0 T0 N0 J0 L1 H1 S1)} {c = (mem X0 T0 N0 J2 L2 H2 S2)} {e = (mem X0 T0 N0 J8 L9 H8 S9)} _ (runs_in {a = (mem X0 T0 N0 J0 L1 H1 S1)} {c = (mem X0 T0 N0 J2 L2 H2 S2)} (c.aso-s2.ensures)) (s_kind {a = (mem X0 T0 N0 J2 L2 H2 S2)} {e = (mem X0 T0 N0 J8 L9 H8 S9)} (s_true {a = (mem X0 T0 N0 J2 L2 H2 S2)} {e = (mem X0 T0 N0 J8 L9 H8 S9)} _ _ (kind_at _ _ (mem X0 T0 N0 J2 L2 H2 S2) _ (c.at.ensures) (c.if-at.true)) (s_mark {e = (mem X0 T0 N0 J8 L9 H8 S9)} {x = X0} {t = T0} {n = N0} {j = J2} {l = L2} {h = H2} {s = S2} {s' = S6} (c.if-left-eq0.false) (c.mark-s3.ensures) (s_bump {e = (mem X0 T0 N0 J8 L9 H8 S9)} {x = X0} {t = T0} {n = N0} {j = J2} {l = L2} {h = H2} {s = S6} {s' = S7} {l' = L7} (c.bump-s4.ensures) (s_by {a = (mem X0 T0 N0 J2 L7 H2 S7)} {c = (mem X0 T0 N0 J8 L8 H8 S8)} {e = (mem X0 T0 N0 J8 L9 H8 S9)} _ (runs_in {a = (mem X0 T0 N0 J2 L7 H2 S7)} {c = (mem X0 T0 N0 J8 L8 H8 S8)} (c.stm-s5.ensures)) (s_close {e = (mem X0 T0 N0 J8 L9 H8 S9)} {x = X0} {t = T0} {n = N0} {j = J8} {l = L8} {h = H8} {s = S8} {s' = S9} {l' = L9} (c.close_node.ensures) s_end))))))))

pub stb-returns-in-Err : goal.stb-returns-in-Err
unfolding decl.str_bind plan choose chosen
stb-returns-in-Err t c =
    let X0 = c.args.lent.text.now in
    let T0 = c.args.lent.toks.now in
    let N0 = c.args.lent.env.now in
    let J0 = c.args.table.now in
    let L0 = c.args.scratch.now in
    let H0 = c.args.finds.now in
    let S0 = c.args.s in
    let L1 = c.eat-name.new.scratch in
    let H1 = c.eat-name.new.finds in
    let S1 = c.in-Err.s1 in
    by_steps {m = (mem X0 T0 N0 J0 L0 H0 S0)} {m' = (mem X0 T0 N0 J0 L1 H1 S1)} (c.requires) (λ b. s_eats _ _ {x = X0} {t = T0} {n = N0} {j = J0} {l = L0} {h = H0} {l' = L1} {s = S0} {s' = S1} {e = (mem X0 T0 N0 J0 L1 H1 S1)} _ {h' = H1} (c.in-Err.ensures) s_end)

pub stb-returns-else-at : goal.stb-returns-else-at
unfolding decl.str_bind plan choose chosen
stb-returns-else-at t c =
    let X0 = c.args.lent.text.now in
    let T0 = c.args.lent.toks.now in
    let N0 = c.args.lent.env.now in
    let J0 = c.args.table.now in
    let L0 = c.args.scratch.now in
    let H0 = c.args.finds.now in
    let S0 = c.args.s in
    let L1 = c.eat-name.new.scratch in
    let H1 = c.eat-name.new.finds in
    let S1 = c.in-Ok.s1 in
    let J2 = c.aso-s2.new.table in
    let L2 = c.aso-s2.new.scratch in
    let H2 = c.aso-s2.new.finds in
    let S2 = c.aso-s2.result in
    by_steps {m = (mem X0 T0 N0 J0 L0 H0 S0)} {m' = (mem X0 T0 N0 J2 L2 H2 S2)} (c.requires) (λ b. s_eats _ _ {x = X0} {t = T0} {n = N0} {j = J0} {l = L0} {h = H0} {l' = L1} {s = S0} {s' = S1} {e = (mem X0 T0 N0 J2 L2 H2 S2)} _ {h' = H1} (c.in-Ok.ensures) (s_by {a = (mem X0 T0 N0 J0 L1 H1 S1)} {c = (mem X0 T0 N0 J2 L2 H2 S2)} {e = (mem X0 T0 N0 J2 L2 H2 S2)} _ (runs_in {a = (mem X0 T0 N0 J0 L1 H1 S1)} {c = (mem X0 T0 N0 J2 L2 H2 S2)} (c.aso-s2.ensures)) (s_kind {a = (mem X0 T0 N0 J2 L2 H2 S2)} {e = (mem X0 T0 N0 J2 L2 H2 S2)} (s_false {a = (mem X0 T0 N0 J2 L2 H2 S2)} {e = (mem X0 T0 N0 J2 L2 H2 S2)} _ _ (kind_off _ _ (mem X0 T0 N0 J2 L2 H2 S2) _ (c.at.ensures) (c.if-at.false)) s_end))))

pub sth-bump-s1-requires : goal.sth-bump-s1-requires
sth-bump-s1-requires t c =
    let pre0 = c.requires.0 in
    (pre0.reads, pre0.logs)

pub sth-dec-got-requires : goal.sth-dec-got-requires
sth-dec-got-requires t c =
    let pre0 = c.requires.0 in
    let bump = c.bump-s1.ensures in
    let bump_ok = ok_bumps bump pre0 in
    (omega arith, bump_ok)

pub sth-either-s2-requires : goal.sth-either-s2-requires
sth-either-s2-requires t c =
    tt

pub sth-give_back-s3-requires : goal.sth-give_back-s3-requires
sth-give_back-s3-requires t c =
    tt

pub sth-end_node-end-requires : goal.sth-end_node-end-requires
sth-end_node-end-requires t c =
    let pre0 = c.requires.0 in
    let pre1 = c.requires.1 in
    let bump = c.bump-s1.ensures in
    let bump_ok = ok_bumps bump pre0 in
    let dec = c.dec-got.ensures in
    let either = c.either-s2.ensures in
    let give_back = c.give_back-s3.ensures in
    let give_back_ok = ok_back (settled either (runs_in {b = 0} dec)) give_back bump_ok in
    (give_back_ok, pre1, omega arith)

pub sth-returns-then-k-eq-STRUCT_KW : goal.sth-returns-then-k-eq-STRUCT_KW
unfolding decl.str_head plan choose chosen
sth-returns-then-k-eq-STRUCT_KW t c =
    let X0 = c.args.lent.text.now in
    let T0 = c.args.lent.toks.now in
    let N0 = c.args.lent.env.now in
    let J0 = c.args.table.now in
    let L0 = c.args.scratch.now in
    let H0 = c.args.finds.now in
    let S0 = c.args.s in
    let L2 = c.bump-s1.new.scratch in
    let S2 = c.bump-s1.result in
    let J3 = c.dec-got.new.table in
    let L3 = c.dec-got.new.scratch in
    let H3 = c.dec-got.new.finds in
    let S3 = out_state c.dec-got.result in
    let S4 = c.either-s2.result in
    let S5 = c.give_back-s3.result in
    let L6 = c.end_node-end.new.scratch in
    let H6 = c.end_node-end.new.finds in
    let S6 = c.end_node-end.result in
    in_steps {m = (mem X0 T0 N0 J0 L0 H0 S0)} {m' = (mem X0 T0 N0 J3 L6 H6 S6)} (c.requires.0) (s_true {a = (mem X0 T0 N0 J0 L0 H0 S0)} {e = (mem X0 T0 N0 J3 L6 H6 S6)} _ _ (kind_is (c.if-k-eq-STRUCT_KW.true)) (s_bump {e = (mem X0 T0 N0 J3 L6 H6 S6)} {x = X0} {t = T0} {n = N0} {j = J0} {l = L0} {h = H0} {s = S0} {s' = S2} {l' = L2} (c.bump-s1.ensures) (s_scoped {x = X0} {t = T0} {e = N0} {j = J0} {l = L2} {y = H0} {j' = J3} {l' = L3} {y' = H3} {s = S2} {s' = S4} {c = (mem X0 T0 N0 J3 L6 H6 S6)} {r = S5} (settled (c.either-s2.ensures) (runs_in {a = (mem X0 T0 N0 J0 L2 H0 S2)} {c = (mem X0 T0 N0 J3 L3 H3 S3)} (c.dec-got.ensures))) (c.give_back-s3.ensures) (s_by {a = (mem X0 T0 N0 J3 L3 H3 S5)} {c = (mem X0 T0 N0 J3 L6 H6 S6)} {e = (mem X0 T0 N0 J3 L6 H6 S6)} _ (c.end_node-end.ensures) s_end))))

pub sth-bump-s1-requires-then-k-eq-LET_KW : goal.sth-bump-s1-requires-then-k-eq-LET_KW
sth-bump-s1-requires-then-k-eq-LET_KW t c =
    let pre0 = c.requires.0 in
    (pre0.reads, pre0.logs)

pub sth-slt-s2-requires : goal.sth-slt-s2-requires
sth-slt-s2-requires t c =
    let pre0 = c.requires.0 in
    let bump2 = c.bump-s1-then-k-eq-LET_KW.ensures in
    let bump2_ok = ok_bumps bump2 pre0 in
    (omega arith, bump2_ok)

pub sth-give_back-s3-requires-then-k-eq-LET_KW : goal.sth-give_back-s3-requires-then-k-eq-LET_KW
sth-give_back-s3-requires-then-k-eq-LET_KW t c =
    tt

pub sth-end_node-end-requires-then-k-eq-LET_KW : goal.sth-end_node-end-requires-then-k-eq-LET_KW
sth-end_node-end-requires-then-k-eq-LET_KW t c =
    let pre0 = c.requires.0 in
    let pre1 = c.requires.1 in
    let bump2 = c.bump-s1-then-k-eq-LET_KW.ensures in
    let bump2_ok = ok_bumps bump2 pre0 in
    let slt = c.slt-s2.ensures in
    let give_back2 = c.give_back-s3-then-k-eq-LET_KW.ensures in
    let give_back2_ok = ok_back (runs_in {b = 0} slt) give_back2 bump2_ok in
    (give_back2_ok, pre1, omega arith)

pub sth-returns-then-k-eq-LET_KW : goal.sth-returns-then-k-eq-LET_KW
unfolding decl.str_head plan choose chosen
sth-returns-then-k-eq-LET_KW t c =
    let X0 = c.args.lent.text.now in
    let T0 = c.args.lent.toks.now in
    let N0 = c.args.lent.env.now in
    let J0 = c.args.table.now in
    let L0 = c.args.scratch.now in
    let H0 = c.args.finds.now in
    let S0 = c.args.s in
    let L3 = c.bump-s1-then-k-eq-LET_KW.new.scratch in
    let S3 = c.bump-s1-then-k-eq-LET_KW.result in
    let J4 = c.slt-s2.new.table in
    let L4 = c.slt-s2.new.scratch in
    let H4 = c.slt-s2.new.finds in
    let S4 = c.slt-s2.result in
    let S5 = c.give_back-s3-then-k-eq-LET_KW.result in
    let L6 = c.end_node-end-then-k-eq-LET_KW.new.scratch in
    let H6 = c.end_node-end-then-k-eq-LET_KW.new.finds in
    let S6 = c.end_node-end-then-k-eq-LET_KW.result in
    in_steps {m = (mem X0 T0 N0 J0 L0 H0 S0)} {m' = (mem X0 T0 N0 J4 L6 H6 S6)} (c.requires.0) (s_false {a = (mem X0 T0 N0 J0 L0 H0 S0)} {e = (mem X0 T0 N0 J4 L6 H6 S6)} _ _ (kind_not (c.if-k-eq-STRUCT_KW.false)) (s_true {a = (mem X0 T0 N0 J0 L0 H0 S0)} {e = (mem X0 T0 N0 J4 L6 H6 S6)} _ _ (kind_is (c.if-k-eq-LET_KW.true)) (s_bump {e = (mem X0 T0 N0 J4 L6 H6 S6)} {x = X0} {t = T0} {n = N0} {j = J0} {l = L0} {h = H0} {s = S0} {s' = S3} {l' = L3} (c.bump-s1-then-k-eq-LET_KW.ensures) (s_scoped {x = X0} {t = T0} {e = N0} {j = J0} {l = L3} {y = H0} {j' = J4} {l' = L4} {y' = H4} {s = S3} {s' = S4} {c = (mem X0 T0 N0 J4 L6 H6 S6)} {r = S5} (runs_in {a = (mem X0 T0 N0 J0 L3 H0 S3)} {c = (mem X0 T0 N0 J4 L4 H4 S4)} (c.slt-s2.ensures)) (c.give_back-s3-then-k-eq-LET_KW.ensures) (s_by {a = (mem X0 T0 N0 J4 L4 H4 S5)} {c = (mem X0 T0 N0 J4 L6 H6 S6)} {e = (mem X0 T0 N0 J4 L6 H6 S6)} _ (c.end_node-end-then-k-eq-LET_KW.ensures) s_end)))))

pub sth-at_n-requires : goal.sth-at_n-requires
sth-at_n-requires t c =
    let pre0 = c.requires.0 in
    pre0.reads

pub sth-fap-requires : goal.sth-fap-requires
sth-fap-requires t c =
    let pre0 = c.requires.0 in
    let pre1 = c.requires.1 in
    (omega arith, (pre0, pre1))

pub sth-returns-then-at_n : goal.sth-returns-then-at_n
unfolding decl.str_head plan choose chosen
sth-returns-then-at_n t c =
    let X0 = c.args.lent.text.now in
    let T0 = c.args.lent.toks.now in
    let N0 = c.args.lent.env.now in
    let J0 = c.args.table.now in
    let L0 = c.args.scratch.now in
    let H0 = c.args.finds.now in
    let S0 = c.args.s in
    let J6 = c.fap.new.table in
    let L6 = c.fap.new.scratch in
    let H6 = c.fap.new.finds in
    let S6 = out_state c.fap.result in
    in_steps {m = (mem X0 T0 N0 J0 L0 H0 S0)} {m' = (mem X0 T0 N0 J6 L6 H6 S6)} (c.requires.0) (s_false {a = (mem X0 T0 N0 J0 L0 H0 S0)} {e = (mem X0 T0 N0 J6 L6 H6 S6)} _ _ (kind_not (c.if-k-eq-STRUCT_KW.false)) (s_false {a = (mem X0 T0 N0 J0 L0 H0 S0)} {e = (mem X0 T0 N0 J6 L6 H6 S6)} _ _ (kind_not (c.if-k-eq-LET_KW.false)) (s_true {a = (mem X0 T0 N0 J0 L0 H0 S0)} {e = (mem X0 T0 N0 J6 L6 H6 S6)} _ _ (kind_is (c.if-k-eq-NAME.true)) (s_kind {a = (mem X0 T0 N0 J0 L0 H0 S0)} {e = (mem X0 T0 N0 J6 L6 H6 S6)} (s_true {a = (mem X0 T0 N0 J0 L0 H0 S0)} {e = (mem X0 T0 N0 J6 L6 H6 S6)} _ _ (kind_at _ _ (mem X0 T0 N0 J0 L0 H0 S0) _ (c.at_n.ensures) (c.if-at_n.true)) (s_by {a = (mem X0 T0 N0 J0 L0 H0 S0)} {c = (mem X0 T0 N0 J6 L6 H6 S6)} {e = (mem X0 T0 N0 J6 L6 H6 S6)} _ (c.fap.ensures) s_end))))))

pub sth-str_path-requires : goal.sth-str_path-requires
sth-str_path-requires t c =
    let pre0 = c.requires.0 in
    let pre1 = c.requires.1 in
    (pre0, pre1)

pub sth-returns-then-k-eq-NAME : goal.sth-returns-then-k-eq-NAME
unfolding decl.str_head plan choose chosen
sth-returns-then-k-eq-NAME t c =
    let X0 = c.args.lent.text.now in
    let T0 = c.args.lent.toks.now in
    let N0 = c.args.lent.env.now in
    let J0 = c.args.table.now in
    let L0 = c.args.scratch.now in
    let H0 = c.args.finds.now in
    let S0 = c.args.s in
    let L6 = c.str_path.new.scratch in
    let H6 = c.str_path.new.finds in
    let S6 = out_state c.str_path.result in
    in_steps {m = (mem X0 T0 N0 J0 L0 H0 S0)} {m' = (mem X0 T0 N0 J0 L6 H6 S6)} (c.requires.0) (s_false {a = (mem X0 T0 N0 J0 L0 H0 S0)} {e = (mem X0 T0 N0 J0 L6 H6 S6)} _ _ (kind_not (c.if-k-eq-STRUCT_KW.false)) (s_false {a = (mem X0 T0 N0 J0 L0 H0 S0)} {e = (mem X0 T0 N0 J0 L6 H6 S6)} _ _ (kind_not (c.if-k-eq-LET_KW.false)) (s_true {a = (mem X0 T0 N0 J0 L0 H0 S0)} {e = (mem X0 T0 N0 J0 L6 H6 S6)} _ _ (kind_is (c.if-k-eq-NAME.true)) (s_kind {a = (mem X0 T0 N0 J0 L0 H0 S0)} {e = (mem X0 T0 N0 J0 L6 H6 S6)} (s_false {a = (mem X0 T0 N0 J0 L0 H0 S0)} {e = (mem X0 T0 N0 J0 L6 H6 S6)} _ _ (kind_off _ _ (mem X0 T0 N0 J0 L0 H0 S0) _ (c.at_n.ensures) (c.if-at_n.false)) (s_by {a = (mem X0 T0 N0 J0 L0 H0 S0)} {c = (mem X0 T0 N0 J0 L6 H6 S6)} {e = (mem X0 T0 N0 J0 L6 H6 S6)} _ (c.str_path.ensures) s_end))))))

pub sth-returns : goal.sth-returns
unfolding decl.str_head plan choose chosen
sth-returns t c =
    let pre0 = c.requires.0 in
    let if1 = c.if-k-eq-STRUCT_KW.false in
    let if2 = c.if-k-eq-LET_KW.false in
    let if3 = c.if-k-eq-NAME.false in
    in_steps pre0 (s_false _ _ (kind_not if1) (s_false _ _ (kind_not if2) (s_false _ _ (kind_not if3) s_end)))

pub stm-stx-got-requires : goal.stm-stx-got-requires
stm-stx-got-requires t c =
    let pre0 = c.requires in
    (omega arith, pre0)

pub stm-report_error-requires : goal.stm-report_error-requires
stm-report_error-requires t c =
    let stx = c.in-Err.ensures in
    let stx_ok = stx.ok in
    (stx_ok.holds, (let few = stx_ok.reads.few in let inside = stx_ok.reads.inside in omega arith), omega arith)

pub stm-returns-in-Ok : goal.stm-returns-in-Ok
unfolding decl.str_must plan choose chosen
stm-returns-in-Ok t c =
    let X0 = c.args.lent.text.now in
    let T0 = c.args.lent.toks.now in
    let N0 = c.args.lent.env.now in
    let J0 = c.args.table.now in
    let L0 = c.args.scratch.now in
    let H0 = c.args.finds.now in
    let S0 = c.args.s in
    let J1 = c.stx-got.new.table in
    let L1 = c.stx-got.new.scratch in
    let H1 = c.stx-got.new.finds in
    let S1 = c.in-Ok.s1 in
    by_steps {m = (mem X0 T0 N0 J0 L0 H0 S0)} {m' = (mem X0 T0 N0 J1 L1 H1 S1)} (c.requires) (λ b. s_run {a = (mem X0 T0 N0 J0 L0 H0 S0)} {c = (mem X0 T0 N0 J1 L1 H1 S1)} {e = (mem X0 T0 N0 J1 L1 H1 S1)} (runs_in {a = (mem X0 T0 N0 J0 L0 H0 S0)} {c = (mem X0 T0 N0 J1 L1 H1 S1)} (c.in-Ok.ensures)) s_end)

pub stm-returns-in-Err : goal.stm-returns-in-Err
unfolding decl.str_must plan choose chosen
stm-returns-in-Err t c =
    let X0 = c.args.lent.text.now in
    let T0 = c.args.lent.toks.now in
    let N0 = c.args.lent.env.now in
    let J0 = c.args.table.now in
    let L0 = c.args.scratch.now in
    let H0 = c.args.finds.now in
    let S0 = c.args.s in
    let J1 = c.stx-got.new.table in
    let L1 = c.stx-got.new.scratch in
    let H1 = c.stx-got.new.finds in
    let S1 = c.in-Err.s1 in
    let H2 = c.report_error.new.finds in
    let S2 = c.report_error.result in
    by_steps {m = (mem X0 T0 N0 J0 L0 H0 S0)} {m' = (mem X0 T0 N0 J1 L1 H2 S2)} (c.requires) (λ b. s_run {a = (mem X0 T0 N0 J0 L0 H0 S0)} {c = (mem X0 T0 N0 J1 L1 H1 S1)} {e = (mem X0 T0 N0 J1 L1 H2 S2)} (runs_in {a = (mem X0 T0 N0 J0 L0 H0 S0)} {c = (mem X0 T0 N0 J1 L1 H1 S1)} (c.in-Err.ensures)) (s_report {e = (mem X0 T0 N0 J1 L1 H2 S2)} {x = X0} {t = T0} {n = N0} {j = J1} {l = L1} {h = H1} {s = S1} {s' = S2} {h' = H2} (c.report_error.ensures) s_end))

pub stp-peek-requires : goal.stp-peek-requires
stp-peek-requires t c =
    let pre0 = c.requires.0 in
    pre0.reads

pub stp-returns-in_default : goal.stp-returns-in_default
unfolding expr.exp_step plan choose chosen
stp-returns-in_default t c =
    let pre0 = c.requires.0 in
    let peek = c.in_default.ensures in
    in_steps pre0 (s_look peek s_end)

pub stp-name_star_eq-requires : goal.stp-name_star_eq-requires
stp-name_star_eq-requires t c =
    tt

pub stp-id-requires : goal.stp-id-requires
stp-id-requires t c =
    let pre0 = c.requires.0 in
    let pre1 = c.requires.1 in
    (omega arith, (pre0, pre1))

pub stp-returns-then-name_star_eq : goal.stp-returns-then-name_star_eq
unfolding expr.exp_step plan choose chosen
stp-returns-then-name_star_eq t c =
    let X0 = c.args.lent.text.now in
    let T0 = c.args.lent.toks.now in
    let N0 = c.args.lent.env.now in
    let J0 = c.args.table.now in
    let L0 = c.args.scratch.now in
    let H0 = c.args.finds.now in
    let S0 = c.args.s in
    let J4 = c.id.new.table in
    let L4 = c.id.new.scratch in
    let H4 = c.id.new.finds in
    let S4 = out_state c.id.result in
    in_steps {m = (mem X0 T0 N0 J0 L0 H0 S0)} {m' = (mem X0 T0 N0 J4 L4 H4 S4)} (c.requires.0) (s_look {a = (mem X0 T0 N0 J0 L0 H0 S0)} {e = (mem X0 T0 N0 J4 L4 H4 S4)} (c.in-Some.ensures) (s_true {a = (mem X0 T0 N0 J0 L0 H0 S0)} {e = (mem X0 T0 N0 J4 L4 H4 S4)} _ _ (test_true (c.name_star_eq.ensures) (c.if-name_star_eq.true)) (s_by {a = (mem X0 T0 N0 J0 L0 H0 S0)} {c = (mem X0 T0 N0 J4 L4 H4 S4)} {e = (mem X0 T0 N0 J4 L4 H4 S4)} _ (c.id.ensures) s_end)))

pub stp-ascription-requires : goal.stp-ascription-requires
stp-ascription-requires t c =
    tt

pub stp-opr-requires : goal.stp-opr-requires
stp-opr-requires t c =
    let pre0 = c.requires.0 in
    let pre1 = c.requires.1 in
    (omega arith, (pre0, pre1))

pub stp-returns-then-ascription : goal.stp-returns-then-ascription
unfolding expr.exp_step plan choose chosen
stp-returns-then-ascription t c =
    let X0 = c.args.lent.text.now in
    let T0 = c.args.lent.toks.now in
    let N0 = c.args.lent.env.now in
    let J0 = c.args.table.now in
    let L0 = c.args.scratch.now in
    let H0 = c.args.finds.now in
    let S0 = c.args.s in
    let J6 = c.opr.new.table in
    let L6 = c.opr.new.scratch in
    let H6 = c.opr.new.finds in
    let S6 = out_state c.opr.result in
    in_steps {m = (mem X0 T0 N0 J0 L0 H0 S0)} {m' = (mem X0 T0 N0 J6 L6 H6 S6)} (c.requires.0) (s_look {a = (mem X0 T0 N0 J0 L0 H0 S0)} {e = (mem X0 T0 N0 J6 L6 H6 S6)} (c.in-Some.ensures) (s_false {a = (mem X0 T0 N0 J0 L0 H0 S0)} {e = (mem X0 T0 N0 J6 L6 H6 S6)} _ _ (test_false (c.name_star_eq.ensures) (c.if-name_star_eq.false)) (s_true {a = (mem X0 T0 N0 J0 L0 H0 S0)} {e = (mem X0 T0 N0 J6 L6 H6 S6)} _ _ (test_true (c.ascription.ensures) (c.if-ascription.true)) (s_by {a = (mem X0 T0 N0 J0 L0 H0 S0)} {c = (mem X0 T0 N0 J6 L6 H6 S6)} {e = (mem X0 T0 N0 J6 L6 H6 S6)} _ (c.opr.ensures) s_end))))

pub stp-opr-requires-then-k-eq-ANDALSO_KW : goal.stp-opr-requires-then-k-eq-ANDALSO_KW
stp-opr-requires-then-k-eq-ANDALSO_KW t c =
    let pre0 = c.requires.0 in
    let pre1 = c.requires.1 in
    (omega arith, (pre0, pre1))

pub stp-returns-then-k-eq-ANDALSO_KW : goal.stp-returns-then-k-eq-ANDALSO_KW
unfolding expr.exp_step plan choose chosen
stp-returns-then-k-eq-ANDALSO_KW t c =
    let X0 = c.args.lent.text.now in
    let T0 = c.args.lent.toks.now in
    let N0 = c.args.lent.env.now in
    let J0 = c.args.table.now in
    let L0 = c.args.scratch.now in
    let H0 = c.args.finds.now in
    let S0 = c.args.s in
    let J7 = c.opr-then-k-eq-ANDALSO_KW.new.table in
    let L7 = c.opr-then-k-eq-ANDALSO_KW.new.scratch in
    let H7 = c.opr-then-k-eq-ANDALSO_KW.new.finds in
    let S7 = out_state c.opr-then-k-eq-ANDALSO_KW.result in
    in_steps {m = (mem X0 T0 N0 J0 L0 H0 S0)} {m' = (mem X0 T0 N0 J7 L7 H7 S7)} (c.requires.0) (s_look {a = (mem X0 T0 N0 J0 L0 H0 S0)} {e = (mem X0 T0 N0 J7 L7 H7 S7)} (c.in-Some.ensures) (s_false {a = (mem X0 T0 N0 J0 L0 H0 S0)} {e = (mem X0 T0 N0 J7 L7 H7 S7)} _ _ (test_false (c.name_star_eq.ensures) (c.if-name_star_eq.false)) (s_false {a = (mem X0 T0 N0 J0 L0 H0 S0)} {e = (mem X0 T0 N0 J7 L7 H7 S7)} _ _ (test_false (c.ascription.ensures) (c.if-ascription.false)) (s_true {a = (mem X0 T0 N0 J0 L0 H0 S0)} {e = (mem X0 T0 N0 J7 L7 H7 S7)} _ _ (kind_is (c.if-k-eq-ANDALSO_KW.true)) (s_by {a = (mem X0 T0 N0 J0 L0 H0 S0)} {c = (mem X0 T0 N0 J7 L7 H7 S7)} {e = (mem X0 T0 N0 J7 L7 H7 S7)} _ (c.opr-then-k-eq-ANDALSO_KW.ensures) s_end)))))

pub stp-opr-requires-then-k-eq-ORELSE_KW : goal.stp-opr-requires-then-k-eq-ORELSE_KW
stp-opr-requires-then-k-eq-ORELSE_KW t c =
    let pre0 = c.requires.0 in
    let pre1 = c.requires.1 in
    (omega arith, (pre0, pre1))

pub stp-returns-then-k-eq-ORELSE_KW : goal.stp-returns-then-k-eq-ORELSE_KW
unfolding expr.exp_step plan choose chosen
stp-returns-then-k-eq-ORELSE_KW t c =
    let X0 = c.args.lent.text.now in
    let T0 = c.args.lent.toks.now in
    let N0 = c.args.lent.env.now in
    let J0 = c.args.table.now in
    let L0 = c.args.scratch.now in
    let H0 = c.args.finds.now in
    let S0 = c.args.s in
    let J8 = c.opr-then-k-eq-ORELSE_KW.new.table in
    let L8 = c.opr-then-k-eq-ORELSE_KW.new.scratch in
    let H8 = c.opr-then-k-eq-ORELSE_KW.new.finds in
    let S8 = out_state c.opr-then-k-eq-ORELSE_KW.result in
    in_steps {m = (mem X0 T0 N0 J0 L0 H0 S0)} {m' = (mem X0 T0 N0 J8 L8 H8 S8)} (c.requires.0) (s_look {a = (mem X0 T0 N0 J0 L0 H0 S0)} {e = (mem X0 T0 N0 J8 L8 H8 S8)} (c.in-Some.ensures) (s_false {a = (mem X0 T0 N0 J0 L0 H0 S0)} {e = (mem X0 T0 N0 J8 L8 H8 S8)} _ _ (test_false (c.name_star_eq.ensures) (c.if-name_star_eq.false)) (s_false {a = (mem X0 T0 N0 J0 L0 H0 S0)} {e = (mem X0 T0 N0 J8 L8 H8 S8)} _ _ (test_false (c.ascription.ensures) (c.if-ascription.false)) (s_false {a = (mem X0 T0 N0 J0 L0 H0 S0)} {e = (mem X0 T0 N0 J8 L8 H8 S8)} _ _ (kind_not (c.if-k-eq-ANDALSO_KW.false)) (s_true {a = (mem X0 T0 N0 J0 L0 H0 S0)} {e = (mem X0 T0 N0 J8 L8 H8 S8)} _ _ (kind_is (c.if-k-eq-ORELSE_KW.true)) (s_by {a = (mem X0 T0 N0 J0 L0 H0 S0)} {c = (mem X0 T0 N0 J8 L8 H8 S8)} {e = (mem X0 T0 N0 J8 L8 H8 S8)} _ (c.opr-then-k-eq-ORELSE_KW.ensures) s_end))))))

pub stp-opr-requires-then-k-eq-HANDLE_KW : goal.stp-opr-requires-then-k-eq-HANDLE_KW
stp-opr-requires-then-k-eq-HANDLE_KW t c =
    let pre0 = c.requires.0 in
    let pre1 = c.requires.1 in
    (omega arith, (pre0, pre1))

pub stp-returns-then-k-eq-HANDLE_KW : goal.stp-returns-then-k-eq-HANDLE_KW
unfolding expr.exp_step plan choose chosen
stp-returns-then-k-eq-HANDLE_KW t c =
    let X0 = c.args.lent.text.now in
    let T0 = c.args.lent.toks.now in
    let N0 = c.args.lent.env.now in
    let J0 = c.args.table.now in
    let L0 = c.args.scratch.now in
    let H0 = c.args.finds.now in
    let S0 = c.args.s in
    let J9 = c.opr-then-k-eq-HANDLE_KW.new.table in
    let L9 = c.opr-then-k-eq-HANDLE_KW.new.scratch in
    let H9 = c.opr-then-k-eq-HANDLE_KW.new.finds in
    let S9 = out_state c.opr-then-k-eq-HANDLE_KW.result in
    in_steps {m = (mem X0 T0 N0 J0 L0 H0 S0)} {m' = (mem X0 T0 N0 J9 L9 H9 S9)} (c.requires.0) (s_look {a = (mem X0 T0 N0 J0 L0 H0 S0)} {e = (mem X0 T0 N0 J9 L9 H9 S9)} (c.in-Some.ensures) (s_false {a = (mem X0 T0 N0 J0 L0 H0 S0)} {e = (mem X0 T0 N0 J9 L9 H9 S9)} _ _ (test_false (c.name_star_eq.ensures) (c.if-name_star_eq.false)) (s_false {a = (mem X0 T0 N0 J0 L0 H0 S0)} {e = (mem X0 T0 N0 J9 L9 H9 S9)} _ _ (test_false (c.ascription.ensures) (c.if-ascription.false)) (s_false {a = (mem X0 T0 N0 J0 L0 H0 S0)} {e = (mem X0 T0 N0 J9 L9 H9 S9)} _ _ (kind_not (c.if-k-eq-ANDALSO_KW.false)) (s_false {a = (mem X0 T0 N0 J0 L0 H0 S0)} {e = (mem X0 T0 N0 J9 L9 H9 S9)} _ _ (kind_not (c.if-k-eq-ORELSE_KW.false)) (s_true {a = (mem X0 T0 N0 J0 L0 H0 S0)} {e = (mem X0 T0 N0 J9 L9 H9 S9)} _ _ (kind_is (c.if-k-eq-HANDLE_KW.true)) (s_by {a = (mem X0 T0 N0 J0 L0 H0 S0)} {c = (mem X0 T0 N0 J9 L9 H9 S9)} {e = (mem X0 T0 N0 J9 L9 H9 S9)} _ (c.opr-then-k-eq-HANDLE_KW.ensures) s_end)))))))

pub stp-starts_arg-requires : goal.stp-starts_arg-requires
stp-starts_arg-requires t c =
    tt

pub stp-app-requires : goal.stp-app-requires
stp-app-requires t c =
    let pre0 = c.requires.0 in
    let pre1 = c.requires.1 in
    (omega arith, (pre0, pre1))

pub stp-returns-then-starts_arg : goal.stp-returns-then-starts_arg
unfolding expr.exp_step plan choose chosen
stp-returns-then-starts_arg t c =
    let X0 = c.args.lent.text.now in
    let T0 = c.args.lent.toks.now in
    let N0 = c.args.lent.env.now in
    let J0 = c.args.table.now in
    let L0 = c.args.scratch.now in
    let H0 = c.args.finds.now in
    let S0 = c.args.s in
    let J11 = c.app.new.table in
    let L11 = c.app.new.scratch in
    let H11 = c.app.new.finds in
    let S11 = c.app.result in
    in_steps {m = (mem X0 T0 N0 J0 L0 H0 S0)} {m' = (mem X0 T0 N0 J11 L11 H11 S11)} (c.requires.0) (s_look {a = (mem X0 T0 N0 J0 L0 H0 S0)} {e = (mem X0 T0 N0 J11 L11 H11 S11)} (c.in-Some.ensures) (s_false {a = (mem X0 T0 N0 J0 L0 H0 S0)} {e = (mem X0 T0 N0 J11 L11 H11 S11)} _ _ (test_false (c.name_star_eq.ensures) (c.if-name_star_eq.false)) (s_false {a = (mem X0 T0 N0 J0 L0 H0 S0)} {e = (mem X0 T0 N0 J11 L11 H11 S11)} _ _ (test_false (c.ascription.ensures) (c.if-ascription.false)) (s_false {a = (mem X0 T0 N0 J0 L0 H0 S0)} {e = (mem X0 T0 N0 J11 L11 H11 S11)} _ _ (kind_not (c.if-k-eq-ANDALSO_KW.false)) (s_false {a = (mem X0 T0 N0 J0 L0 H0 S0)} {e = (mem X0 T0 N0 J11 L11 H11 S11)} _ _ (kind_not (c.if-k-eq-ORELSE_KW.false)) (s_false {a = (mem X0 T0 N0 J0 L0 H0 S0)} {e = (mem X0 T0 N0 J11 L11 H11 S11)} _ _ (kind_not (c.if-k-eq-HANDLE_KW.false)) (s_true {a = (mem X0 T0 N0 J0 L0 H0 S0)} {e = (mem X0 T0 N0 J11 L11 H11 S11)} _ _ (test_true (c.starts_arg.ensures) (c.if-starts_arg.true)) (s_by {a = (mem X0 T0 N0 J0 L0 H0 S0)} {c = (mem X0 T0 N0 J11 L11 H11 S11)} {e = (mem X0 T0 N0 J11 L11 H11 S11)} _ (c.app.ensures) s_end))))))))

pub stp-returns : goal.stp-returns
unfolding expr.exp_step plan choose chosen
stp-returns t c =
    let X0 = c.args.lent.text.now in
    let T0 = c.args.lent.toks.now in
    let N0 = c.args.lent.env.now in
    let J0 = c.args.table.now in
    let L0 = c.args.scratch.now in
    let H0 = c.args.finds.now in
    let S0 = c.args.s in
    in_steps {m = (mem X0 T0 N0 J0 L0 H0 S0)} {m' = (mem X0 T0 N0 J0 L0 H0 S0)} (c.requires.0) (s_look {a = (mem X0 T0 N0 J0 L0 H0 S0)} {e = (mem X0 T0 N0 J0 L0 H0 S0)} (c.in-Some.ensures) (s_false {a = (mem X0 T0 N0 J0 L0 H0 S0)} {e = (mem X0 T0 N0 J0 L0 H0 S0)} _ _ (test_false (c.name_star_eq.ensures) (c.if-name_star_eq.false)) (s_false {a = (mem X0 T0 N0 J0 L0 H0 S0)} {e = (mem X0 T0 N0 J0 L0 H0 S0)} _ _ (test_false (c.ascription.ensures) (c.if-ascription.false)) (s_false {a = (mem X0 T0 N0 J0 L0 H0 S0)} {e = (mem X0 T0 N0 J0 L0 H0 S0)} _ _ (kind_not (c.if-k-eq-ANDALSO_KW.false)) (s_false {a = (mem X0 T0 N0 J0 L0 H0 S0)} {e = (mem X0 T0 N0 J0 L0 H0 S0)} _ _ (kind_not (c.if-k-eq-ORELSE_KW.false)) (s_false {a = (mem X0 T0 N0 J0 L0 H0 S0)} {e = (mem X0 T0 N0 J0 L0 H0 S0)} _ _ (kind_not (c.if-k-eq-HANDLE_KW.false)) (s_false {a = (mem X0 T0 N0 J0 L0 H0 S0)} {e = (mem X0 T0 N0 J0 L0 H0 S0)} _ _ (test_false (c.starts_arg.ensures) (c.if-starts_arg.false)) s_end)))))))

pub stt-loop-k-init : goal.stt-loop-k-init
stt-loop-k-init t c =
    let pre0 = c.requires.0 in
    let pre1 = c.requires.1 in
    loop_starts pre0

pub stt-peek-requires : goal.stt-peek-requires
stt-peek-requires t c =
    let inv = c.loop-k.invariant.ok in
    inv.reads

pub stt-returns-in_default : goal.stt-returns-in_default
unfolding decl.str_step plan choose chosen
stt-returns-in_default t c =
    let inv = c.loop-k.invariant in
    let peek = c.in_default.ensures in
    loop_ends (str_step_advances _ _) inv (in_steps inv.ok {n = c.args.left} {b = c.args.b} (s_look peek s_end))

pub stt-ascription-requires : goal.stt-ascription-requires
stt-ascription-requires t c =
    tt

pub stt-refuse_for-s1-requires : goal.stt-refuse_for-s1-requires
stt-refuse_for-s1-requires t c =
    tt

pub stt-loop-k-smaller-then-left-eq0 : goal.stt-loop-k-smaller-then-left-eq0
unfolding decl.str_step plan choose chosen hushed
stt-loop-k-smaller-then-left-eq0 t c =
    let inv = c.loop-k.invariant in
    let peek = c.in-Some.ensures in
    let ascription = c.ascription.ensures in
    let if1 = c.if-ascription.true in
    let if2 = c.if-left-eq0.true in
    let refuse_for = c.refuse_for-s1.ensures in
    loop_falls (str_step_advances _ _) (in_steps inv.ok {n = c.args.left} {b = c.args.b} (s_look peek (s_true _ _ (test_true ascription if1) (s_shut if2 refuse_for (λ k l. refl)))))

pub stt-loop-k-preserved-then-left-eq0 : goal.stt-loop-k-preserved-then-left-eq0
unfolding decl.str_step plan choose chosen hushed
stt-loop-k-preserved-then-left-eq0 t c =
    let inv = c.loop-k.invariant in
    let peek = c.in-Some.ensures in
    let ascription = c.ascription.ensures in
    let if1 = c.if-ascription.true in
    let if2 = c.if-left-eq0.true in
    let refuse_for = c.refuse_for-s1.ensures in
    loop_goes (str_step_advances _ _) inv (in_steps inv.ok {n = c.args.left} {b = c.args.b} (s_look peek (s_true _ _ (test_true ascription if1) (s_shut if2 refuse_for (λ k l. refl)))))

pub stt-mark-s2-requires : goal.stt-mark-s2-requires
stt-mark-s2-requires t c =
    tt

pub stt-asc-s3-requires : goal.stt-asc-s3-requires
stt-asc-s3-requires t c =
    let inv = c.loop-k.invariant.ok in
    let mark = c.mark-s2.ensures in
    let mark_ok = ok_marks mark inv in
    (omega arith, mark_ok)

pub stt-close_node-s1-requires : goal.stt-close_node-s1-requires
stt-close_node-s1-requires t c =
    let pre1 = c.requires.1 in
    let asc = c.asc-s3.ensures in
    let asc_ok = asc.ok in
    (asc_ok.logs, pre1)

pub stt-loop-k-smaller : goal.stt-loop-k-smaller
unfolding decl.str_step plan choose chosen
stt-loop-k-smaller t c =
    let inv = c.loop-k.invariant in
    let peek = c.in-Some.ensures in
    let ascription = c.ascription.ensures in
    let if1 = c.if-ascription.true in
    let if2 = c.if-left-eq0.false in
    let mark = c.mark-s2.ensures in
    let asc = c.asc-s3.ensures in
    let close_node = c.close_node-s1.ensures in
    loop_falls (str_step_advances _ _) (in_steps inv.ok {n = c.args.left} {b = c.args.b} (s_look peek (s_true _ _ (test_true ascription if1) (s_mark if2 mark (s_by _ (runs_in asc) (s_close close_node s_end))))))

pub stt-loop-k-preserved : goal.stt-loop-k-preserved
unfolding decl.str_step plan choose chosen
stt-loop-k-preserved t c =
    let inv = c.loop-k.invariant in
    let peek = c.in-Some.ensures in
    let ascription = c.ascription.ensures in
    let if1 = c.if-ascription.true in
    let if2 = c.if-left-eq0.false in
    let mark = c.mark-s2.ensures in
    let asc = c.asc-s3.ensures in
    let close_node = c.close_node-s1.ensures in
    loop_goes (str_step_advances _ _) inv (in_steps inv.ok {n = c.args.left} {b = c.args.b} (s_look peek (s_true _ _ (test_true ascription if1) (s_mark if2 mark (s_by _ (runs_in asc) (s_close close_node s_end))))))

pub stt-returns-in-loop-k : goal.stt-returns-in-loop-k
unfolding decl.str_step plan choose chosen
stt-returns-in-loop-k t c =
    let inv = c.loop-k.invariant in
    let peek = c.in-Some.ensures in
    let ascription = c.ascription.ensures in
    let if1 = c.if-ascription.false in
    loop_ends (str_step_advances _ _) inv (in_steps inv.ok {n = c.args.left} {b = c.args.b} (s_look peek (s_false _ _ (test_false ascription if1) s_end)))

pub stx-peek-requires : goal.stx-peek-requires
stx-peek-requires t c =
    let pre0 = c.requires in
    pre0.reads

pub stx-returns-in_default : goal.stx-returns-in_default
unfolding root.body decl.str_scope plan choose chosen
stx-returns-in_default t c =
    let pre0 = c.requires in
    let peek = c.in_default.ensures in
    by_steps pre0 (λ b. s_rule (s_look peek s_end))

pub stx-refuse_for-requires : goal.stx-refuse_for-requires
stx-refuse_for-requires t c =
    tt

pub stx-returns-then-left-eq0 : goal.stx-returns-then-left-eq0
unfolding root.body decl.str_scope plan choose chosen hushed
stx-returns-then-left-eq0 t c =
    let X0 = c.args.lent.text.now in
    let T0 = c.args.lent.toks.now in
    let N0 = c.args.lent.env.now in
    let J0 = c.args.table.now in
    let L0 = c.args.scratch.now in
    let H0 = c.args.finds.now in
    let S0 = c.args.s in
    let S3 = c.refuse_for.result in
    by_steps {m = (mem X0 T0 N0 J0 L0 H0 S0)} {m' = (mem X0 T0 N0 J0 L0 H0 S3)} (c.requires) (λ b. s_rule {a = (mem X0 T0 N0 J0 L0 H0 S0)} {e = (mem X0 T0 N0 J0 L0 H0 S3)} (s_look {a = (mem X0 T0 N0 J0 L0 H0 S0)} {e = (mem X0 T0 N0 J0 L0 H0 S3)} (c.in-Some.ensures) (s_shut (c.if-left-eq0.true) (c.refuse_for.ensures) (λ k l. refl))))

pub stx-mark-s1-requires : goal.stx-mark-s1-requires
stx-mark-s1-requires t c =
    tt

pub stx-sth-head-requires : goal.stx-sth-head-requires
stx-sth-head-requires t c =
    let pre0 = c.requires in
    let mark = c.mark-s1.ensures in
    let mark_ok = ok_marks mark pre0 in
    (omega arith, (mark_ok, small_len pre0))

pub stx-stt-s3-requires : goal.stx-stt-s3-requires
stx-stt-s3-requires t c =
    let pre0 = c.requires in
    let sth = c.in-Ok.ensures in
    let sth_ok = sth.ok in
    (omega arith, (sth_ok, small_len pre0))

pub stx-returns-in-Err : goal.stx-returns-in-Err
unfolding root.body decl.str_scope plan choose chosen
stx-returns-in-Err t c =
    let X0 = c.args.lent.text.now in
    let T0 = c.args.lent.toks.now in
    let N0 = c.args.lent.env.now in
    let J0 = c.args.table.now in
    let L0 = c.args.scratch.now in
    let H0 = c.args.finds.now in
    let S0 = c.args.s in
    let S3 = c.mark-s1.result in
    let J4 = c.sth-head.new.table in
    let L4 = c.sth-head.new.scratch in
    let H4 = c.sth-head.new.finds in
    let S4 = c.in-Err.s2 in
    by_steps {m = (mem X0 T0 N0 J0 L0 H0 S0)} {m' = (mem X0 T0 N0 J4 L4 H4 S4)} (c.requires) (λ b. s_rule {a = (mem X0 T0 N0 J0 L0 H0 S0)} {e = (mem X0 T0 N0 J4 L4 H4 S4)} (s_look {a = (mem X0 T0 N0 J0 L0 H0 S0)} {e = (mem X0 T0 N0 J4 L4 H4 S4)} (c.in-Some.ensures) (s_mark {e = (mem X0 T0 N0 J4 L4 H4 S4)} {x = X0} {t = T0} {n = N0} {j = J0} {l = L0} {h = H0} {s = S0} {s' = S3} (c.if-left-eq0.false) (c.mark-s1.ensures) (s_by {a = (mem X0 T0 N0 J0 L0 H0 S3)} {c = (mem X0 T0 N0 J4 L4 H4 S4)} {e = (mem X0 T0 N0 J4 L4 H4 S4)} _ (c.in-Err.ensures) s_end))))

pub stx-returns-in-Ok : goal.stx-returns-in-Ok
unfolding root.body decl.str_scope plan choose chosen
stx-returns-in-Ok t c =
    let X0 = c.args.lent.text.now in
    let T0 = c.args.lent.toks.now in
    let N0 = c.args.lent.env.now in
    let J0 = c.args.table.now in
    let L0 = c.args.scratch.now in
    let H0 = c.args.finds.now in
    let S0 = c.args.s in
    let S3 = c.mark-s1.result in
    let J4 = c.sth-head.new.table in
    let L4 = c.sth-head.new.scratch in
    let H4 = c.sth-head.new.finds in
    let S4 = c.in-Ok.s2 in
    let J5 = c.stt-s3.new.table in
    let L5 = c.stt-s3.new.scratch in
    let H5 = c.stt-s3.new.finds in
    let S5 = c.stt-s3.result in
    by_steps {m = (mem X0 T0 N0 J0 L0 H0 S0)} {m' = (mem X0 T0 N0 J5 L5 H5 S5)} (c.requires) (λ b. s_rule {a = (mem X0 T0 N0 J0 L0 H0 S0)} {e = (mem X0 T0 N0 J5 L5 H5 S5)} (s_look {a = (mem X0 T0 N0 J0 L0 H0 S0)} {e = (mem X0 T0 N0 J5 L5 H5 S5)} (c.in-Some.ensures) (s_mark {e = (mem X0 T0 N0 J5 L5 H5 S5)} {x = X0} {t = T0} {n = N0} {j = J0} {l = L0} {h = H0} {s = S0} {s' = S3} (c.if-left-eq0.false) (c.mark-s1.ensures) (s_by {a = (mem X0 T0 N0 J0 L0 H0 S3)} {c = (mem X0 T0 N0 J4 L4 H4 S4)} {e = (mem X0 T0 N0 J5 L5 H5 S5)} _ (c.in-Ok.ensures) (s_run {a = (mem X0 T0 N0 J4 L4 H4 S4)} {c = (mem X0 T0 N0 J5 L5 H5 S5)} {e = (mem X0 T0 N0 J5 L5 H5 S5)} (c.stt-s3.ensures) s_end)))))

pub tl-refuse_for-requires : goal.tl-refuse_for-requires
tl-refuse_for-requires t c =
    tt

pub tl-returns-then-left-eq0 : goal.tl-returns-then-left-eq0
unfolding decl.dec_with_tail util.maybe_semi_sep decl.semi_closure util.choose plan choose chosen hushed
tl-returns-then-left-eq0 t c =
    let X0 = c.args.lent.text.now in
    let T0 = c.args.lent.toks.now in
    let N0 = c.args.lent.env.now in
    let J0 = c.args.table.now in
    let L0 = c.args.scratch.now in
    let H0 = c.args.finds.now in
    let S0 = c.args.s in
    let S2 = c.refuse_for.result in
    by_steps {m = (mem X0 T0 N0 J0 L0 H0 S0)} {m' = (mem X0 T0 N0 J0 L0 H0 S2)} (c.requires) (λ b. s_shut (c.if-left-eq0.true) (c.refuse_for.ensures) (λ k l. refl))

pub tl-mark-s1-requires : goal.tl-mark-s1-requires
tl-mark-s1-requires t c =
    tt

pub tl-sem-turn-requires : goal.tl-sem-turn-requires
tl-sem-turn-requires t c =
    let pre0 = c.requires in
    let mark = c.mark-s1.ensures in
    let mark_ok = ok_marks mark pre0 in
    (omega arith, mark_ok)

pub tl-bare_tail-requires : goal.tl-bare_tail-requires
tl-bare_tail-requires t c =
    let pre0 = c.requires in
    let mark = c.mark-s1.ensures in
    let mark_ok = ok_marks mark pre0 in
    let sem = c.in-Err.ensures in
    let sem_ok = (sem true).ok in
    (sem_ok, small_len mark_ok)

pub tl-seq-s3-requires : goal.tl-seq-s3-requires
tl-seq-s3-requires t c =
    let sem = c.in-Ok.ensures in
    let sem_ok = (sem true).ok in
    (omega arith, sem_ok)

pub tl-full_tail-s4-requires : goal.tl-full_tail-s4-requires
tl-full_tail-s4-requires t c =
    let pre0 = c.requires in
    let mark = c.mark-s1.ensures in
    let mark_ok = ok_marks mark pre0 in
    let seq = c.seq-s3.ensures in
    let seq_ok = (seq true).ok in
    (seq_ok, small_len mark_ok)

pub tl-returns-in-Err : goal.tl-returns-in-Err
unfolding decl.dec_with_tail util.maybe_semi_sep decl.semi_closure util.choose plan choose chosen
tl-returns-in-Err t c =
    let X0 = c.args.lent.text.now in
    let T0 = c.args.lent.toks.now in
    let N0 = c.args.lent.env.now in
    let J0 = c.args.table.now in
    let L0 = c.args.scratch.now in
    let H0 = c.args.finds.now in
    let S0 = c.args.s in
    let S2 = c.mark-s1.result in
    let J3 = c.sem-turn.new.table in
    let L3 = c.sem-turn.new.scratch in
    let H3 = c.sem-turn.new.finds in
    let S3 = c.in-Err.s2 in
    let L4 = c.bare_tail.new.scratch in
    let H4 = c.bare_tail.new.finds in
    let S4 = out_state c.bare_tail.result in
    by_steps {m = (mem X0 T0 N0 J0 L0 H0 S0)} {m' = (mem X0 T0 N0 J3 L4 H4 S4)} (c.requires) (λ b. s_mark {e = (mem X0 T0 N0 J3 L4 H4 S4)} {x = X0} {t = T0} {n = N0} {j = J0} {l = L0} {h = H0} {s = S0} {s' = S2} (c.if-left-eq0.false) (c.mark-s1.ensures) (s_by {a = (mem X0 T0 N0 J0 L0 H0 S2)} {c = (mem X0 T0 N0 J3 L3 H3 S3)} {e = (mem X0 T0 N0 J3 L4 H4 S4)} _ (runs_in {a = (mem X0 T0 N0 J0 L0 H0 S2)} {c = (mem X0 T0 N0 J3 L3 H3 S3)} ((c.in-Err.ensures) _)) (s_by {a = (mem X0 T0 N0 J3 L3 H3 S3)} {c = (mem X0 T0 N0 J3 L4 H4 S4)} {e = (mem X0 T0 N0 J3 L4 H4 S4)} _ (c.bare_tail.ensures) s_end)))

pub tl-returns-in-Ok : goal.tl-returns-in-Ok
unfolding decl.dec_with_tail util.maybe_semi_sep decl.semi_closure util.choose plan choose chosen
tl-returns-in-Ok t c =
    let X0 = c.args.lent.text.now in
    let T0 = c.args.lent.toks.now in
    let N0 = c.args.lent.env.now in
    let J0 = c.args.table.now in
    let L0 = c.args.scratch.now in
    let H0 = c.args.finds.now in
    let S0 = c.args.s in
    let S2 = c.mark-s1.result in
    let J3 = c.sem-turn.new.table in
    let L3 = c.sem-turn.new.scratch in
    let H3 = c.sem-turn.new.finds in
    let S3 = c.in-Ok.s2 in
    let J4 = c.seq-s3.new.table in
    let L4 = c.seq-s3.new.scratch in
    let H4 = c.seq-s3.new.finds in
    let S4 = c.seq-s3.result in
    let L5 = c.full_tail-s4.new.scratch in
    let H5 = c.full_tail-s4.new.finds in
    let S5 = c.full_tail-s4.result in
    by_steps {m = (mem X0 T0 N0 J0 L0 H0 S0)} {m' = (mem X0 T0 N0 J4 L5 H5 S5)} (c.requires) (λ b. s_mark {e = (mem X0 T0 N0 J4 L5 H5 S5)} {x = X0} {t = T0} {n = N0} {j = J0} {l = L0} {h = H0} {s = S0} {s' = S2} (c.if-left-eq0.false) (c.mark-s1.ensures) (s_by {a = (mem X0 T0 N0 J0 L0 H0 S2)} {c = (mem X0 T0 N0 J3 L3 H3 S3)} {e = (mem X0 T0 N0 J4 L5 H5 S5)} _ (runs_in {a = (mem X0 T0 N0 J0 L0 H0 S2)} {c = (mem X0 T0 N0 J3 L3 H3 S3)} ((c.in-Ok.ensures) _)) (s_run {a = (mem X0 T0 N0 J3 L3 H3 S3)} {c = (mem X0 T0 N0 J4 L4 H4 S4)} {e = (mem X0 T0 N0 J4 L5 H5 S5)} ((c.seq-s3.ensures) _) (s_by {a = (mem X0 T0 N0 J4 L4 H4 S4)} {c = (mem X0 T0 N0 J4 L5 H5 S5)} {e = (mem X0 T0 N0 J4 L5 H5 S5)} _ (c.full_tail-s4.ensures) s_end))))

pub vl-rec_pat-got-requires : goal.vl-rec_pat-got-requires
vl-rec_pat-got-requires t c =
    let pre0 = c.requires in
    pre0

pub vl-eq-s2-requires : goal.vl-eq-s2-requires
vl-eq-s2-requires t c =
    let rec_pat = c.in-Ok.ensures in
    let rec_pat_ok = rec_pat.ok in
    (omega arith, rec_pat_ok)

pub vl-returns-in-Err : goal.vl-returns-in-Err
unfolding decl.val_bind plan choose chosen
vl-returns-in-Err t c =
    let X0 = c.args.lent.text.now in
    let T0 = c.args.lent.toks.now in
    let N0 = c.args.lent.env.now in
    let J0 = c.args.table.now in
    let L0 = c.args.scratch.now in
    let H0 = c.args.finds.now in
    let S0 = c.args.s in
    let L1 = c.rec_pat-got.new.scratch in
    let H1 = c.rec_pat-got.new.finds in
    let S1 = c.in-Err.s1 in
    by_steps {m = (mem X0 T0 N0 J0 L0 H0 S0)} {m' = (mem X0 T0 N0 J0 L1 H1 S1)} (c.requires) (λ b. s_by {a = (mem X0 T0 N0 J0 L0 H0 S0)} {c = (mem X0 T0 N0 J0 L1 H1 S1)} {e = (mem X0 T0 N0 J0 L1 H1 S1)} _ (runs_in {a = (mem X0 T0 N0 J0 L0 H0 S0)} {c = (mem X0 T0 N0 J0 L1 H1 S1)} (c.in-Err.ensures)) s_end)

pub vl-returns-in-Ok : goal.vl-returns-in-Ok
unfolding decl.val_bind plan choose chosen
vl-returns-in-Ok t c =
    let X0 = c.args.lent.text.now in
    let T0 = c.args.lent.toks.now in
    let N0 = c.args.lent.env.now in
    let J0 = c.args.table.now in
    let L0 = c.args.scratch.now in
    let H0 = c.args.finds.now in
    let S0 = c.args.s in
    let L1 = c.rec_pat-got.new.scratch in
    let H1 = c.rec_pat-got.new.finds in
    let S1 = c.in-Ok.s1 in
    let J2 = c.eq-s2.new.table in
    let L2 = c.eq-s2.new.scratch in
    let H2 = c.eq-s2.new.finds in
    let S2 = c.eq-s2.result in
    by_steps {m = (mem X0 T0 N0 J0 L0 H0 S0)} {m' = (mem X0 T0 N0 J2 L2 H2 S2)} (c.requires) (λ b. s_by {a = (mem X0 T0 N0 J0 L0 H0 S0)} {c = (mem X0 T0 N0 J0 L1 H1 S1)} {e = (mem X0 T0 N0 J2 L2 H2 S2)} _ (runs_in {a = (mem X0 T0 N0 J0 L0 H0 S0)} {c = (mem X0 T0 N0 J0 L1 H1 S1)} (c.in-Ok.ensures)) (s_by {a = (mem X0 T0 N0 J0 L1 H1 S1)} {c = (mem X0 T0 N0 J2 L2 H2 S2)} {e = (mem X0 T0 N0 J2 L2 H2 S2)} _ (runs_in {a = (mem X0 T0 N0 J0 L1 H1 S1)} {c = (mem X0 T0 N0 J2 L2 H2 S2)} (c.eq-s2.ensures)) s_end))

pub we-want-s1-requires : goal.we-want-s1-requires
we-want-s1-requires t c =
    let pre0 = c.requires.0 in
    (pre0.reads, pre0.logs, pre0.holds, omega arith)

pub we-exp-requires : goal.we-exp-requires
we-exp-requires t c =
    let pre0 = c.requires.0 in
    let want = c.want-s1.ensures in
    let want_ok = ok_eats want pre0 in
    (omega arith, want_ok)

pub we-returns : goal.we-returns
unfolding expr.want_exp plan choose chosen
we-returns t c =
    let X0 = c.args.lent.text.now in
    let T0 = c.args.lent.toks.now in
    let N0 = c.args.lent.env.now in
    let J0 = c.args.table.now in
    let L0 = c.args.scratch.now in
    let H0 = c.args.finds.now in
    let S0 = c.args.s in
    let L1 = c.want-s1.new.scratch in
    let H1 = c.want-s1.new.finds in
    let S1 = c.want-s1.result in
    let J2 = c.exp.new.table in
    let L2 = c.exp.new.scratch in
    let H2 = c.exp.new.finds in
    let S2 = c.exp.result in
    by_steps {m = (mem X0 T0 N0 J0 L0 H0 S0)} {m' = (mem X0 T0 N0 J2 L2 H2 S2)} (c.requires.0) (λ b. s_eats _ _ {x = X0} {t = T0} {n = N0} {j = J0} {l = L0} {h = H0} {l' = L1} {s = S0} {s' = S1} {e = (mem X0 T0 N0 J2 L2 H2 S2)} _ {h' = H1} (c.want-s1.ensures) (s_by {a = (mem X0 T0 N0 J0 L1 H1 S1)} {c = (mem X0 T0 N0 J2 L2 H2 S2)} {e = (mem X0 T0 N0 J2 L2 H2 S2)} _ (runs_in {a = (mem X0 T0 N0 J0 L1 H1 S1)} {c = (mem X0 T0 N0 J2 L2 H2 S2)} (c.exp.ensures)) s_end))
