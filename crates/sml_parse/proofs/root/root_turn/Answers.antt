-- by tools/prove
use Rattle.grammar.specs.Root as root_def
use Rattle.parser.specs.Runs.{runs_in, test_true, test_false, ok_tells}
use Rattle.parser.specs.Plans.{plan, choose, chosen, by_steps, s_look, s_true, s_false, s_bump, s_report, s_run, s_end}
use native.Mathlib.Omega.{arith}
use Rattle.sml_parse.proofs.root.root_turn.Goals as goal

pub peek-requires : goal.peek-requires
peek-requires c =
    let pre0 = c.requires in
    pre0.reads

pub returns-in_default : goal.returns-in_default
unfolding root_def.root_turn plan choose chosen
returns-in_default c =
    let pre0 = c.requires in
    let peek = c.in_default.ensures in
    by_steps pre0 (λ b. s_look peek s_end)

pub dec-got-requires : goal.dec-got-requires
dec-got-requires c =
    let pre0 = c.requires in
    pre0

pub is_closer-requires : goal.is_closer-requires
is_closer-requires c =
    tt

pub report_error-s2-requires : goal.report_error-s2-requires
report_error-s2-requires c =
    let dec = c.in-Err.ensures in
    let dec_ok = dec.ok in
    (dec_ok.holds, (let few = dec_ok.reads.few in let inside = dec_ok.reads.inside in omega arith), omega arith)

pub bump-requires : goal.bump-requires
bump-requires c =
    let dec = c.in-Err.ensures in
    let dec_ok = dec.ok in
    let report_error = c.report_error-s2.ensures in
    let report_error_ok = ok_tells report_error dec_ok in
    (report_error_ok.reads, report_error_ok.logs)

pub returns-then-is_closer : goal.returns-then-is_closer
unfolding root_def.root_turn plan choose chosen
returns-then-is_closer c =
    let pre0 = c.requires in
    let peek = c.in-Some.ensures in
    let dec = c.in-Err.ensures in
    let is_closer = c.is_closer.ensures in
    let if1 = c.if-is_closer.true in
    let report_error = c.report_error-s2.ensures in
    let bump = c.bump.ensures in
    by_steps pre0 (λ b. s_look peek (s_run (runs_in dec) (s_true _ _ (test_true is_closer if1) (s_report report_error (s_bump bump s_end)))))

pub report_error-s2-requires-in-Err : goal.report_error-s2-requires-in-Err
report_error-s2-requires-in-Err c =
    let dec = c.in-Err.ensures in
    let dec_ok = dec.ok in
    (dec_ok.holds, (let few = dec_ok.reads.few in let inside = dec_ok.reads.inside in omega arith), omega arith)

pub bump-requires-in-Err : goal.bump-requires-in-Err
bump-requires-in-Err c =
    let dec = c.in-Err.ensures in
    let dec_ok = dec.ok in
    let report_error2 = c.report_error-s2-in-Err.ensures in
    let report_error2_ok = ok_tells report_error2 dec_ok in
    (report_error2_ok.reads, report_error2_ok.logs)

pub returns-in-Ok : goal.returns-in-Ok
unfolding root_def.root_turn plan choose chosen
returns-in-Ok c =
    let pre0 = c.requires in
    let peek = c.in-Some.ensures in
    let dec = c.in-Ok.ensures in
    by_steps pre0 (λ b. s_look peek (s_run (runs_in dec) s_end))

pub returns-else-is_closer : goal.returns-else-is_closer
unfolding root_def.root_turn plan choose chosen
returns-else-is_closer c =
    let pre0 = c.requires in
    let peek = c.in-Some.ensures in
    let dec = c.in-Err.ensures in
    let is_closer = c.is_closer.ensures in
    let if1 = c.if-is_closer.false in
    let report_error2 = c.report_error-s2-in-Err.ensures in
    let bump2 = c.bump-in-Err.ensures in
    by_steps pre0 (λ b. s_look peek (s_run (runs_in dec) (s_false _ _ (test_false is_closer if1) (s_report report_error2 (s_bump bump2 s_end)))))
