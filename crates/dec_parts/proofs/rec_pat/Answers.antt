-- by tools/prove
use Rattle.grammar.specs.Dec as decl
use Rattle.parser.specs.Runs.{runs_in, kind_at, kind_off, ok_bumps}
use Rattle.parser.specs.Plans.{plan, choose, chosen, by_steps, s_kind, s_true, s_false, s_bump, s_report, s_by, s_run, s_end}
use native.Mathlib.Omega.{arith}
use Rattle.dec_parts.proofs.rec_pat.Goals as goal

pub at-requires : goal.at-requires
at-requires c =
    let pre0 = c.requires in
    pre0.reads

pub bump-s1-requires : goal.bump-s1-requires
bump-s1-requires c =
    let pre0 = c.requires in
    (pre0.reads, pre0.logs)

pub pat_must-s2-requires : goal.pat_must-s2-requires
pat_must-s2-requires c =
    let pre0 = c.requires in
    let bump = c.bump-s1.ensures in
    let bump_ok = ok_bumps bump pre0 in
    bump_ok

pub returns-then-at : goal.returns-then-at
unfolding decl.rec_pat plan choose chosen
returns-then-at c =
    let pre0 = c.requires in
    let at = c.at.ensures in
    let if1 = c.if-at.true in
    let bump = c.bump-s1.ensures in
    let pat_must = c.pat_must-s2.ensures in
    by_steps pre0 (λ b. s_kind (s_true _ _ (kind_at _ _ _ _ at if1) (s_bump bump (s_by _ (runs_in pat_must) s_end))))

pub pat_prec-got-requires : goal.pat_prec-got-requires
pat_prec-got-requires c =
    let pre0 = c.requires in
    pre0

pub report_error-requires : goal.report_error-requires
report_error-requires c =
    let pat_prec = c.in-Err.ensures in
    let pat_prec_ok = pat_prec.ok in
    (pat_prec_ok.holds, (let few = pat_prec_ok.reads.few in let inside = pat_prec_ok.reads.inside in omega arith), omega arith)

pub returns-in-Ok : goal.returns-in-Ok
unfolding decl.rec_pat plan choose chosen
returns-in-Ok c =
    let pre0 = c.requires in
    let at = c.at.ensures in
    let if1 = c.if-at.false in
    let pat_prec = c.in-Ok.ensures in
    by_steps pre0 (λ b. s_kind (s_false _ _ (kind_off _ _ _ _ at if1) (s_run (runs_in pat_prec) s_end)))

pub returns-in-Err : goal.returns-in-Err
unfolding decl.rec_pat plan choose chosen
returns-in-Err c =
    let pre0 = c.requires in
    let at = c.at.ensures in
    let if1 = c.if-at.false in
    let pat_prec = c.in-Err.ensures in
    let report_error = c.report_error.ensures in
    by_steps pre0 (λ b. s_kind (s_false _ _ (kind_off _ _ _ _ at if1) (s_run (runs_in pat_prec) (s_report report_error s_end))))
