-- by tools/prove
use Rattle.grammar.specs.Dec as decl
use Rattle.parser.specs.Runs.{test_true, test_false, ok_bumps, ok_tells}
use Rattle.parser.specs.Plans.{plan, choose, chosen, always, s_look, s_fixed, s_true, s_false, s_bump, s_report, s_end}
use native.Mathlib.Omega.{arith}
use Rattle.head_parts.proofs.prefix_op.Goals as goal

pub peek_n-requires : goal.peek_n-requires
peek_n-requires c =
    let pre0 = c.requires in
    pre0.reads

pub bump-s1-requires : goal.bump-s1-requires
bump-s1-requires c =
    let pre0 = c.requires in
    (pre0.reads, pre0.logs)

pub report_error-requires : goal.report_error-requires
report_error-requires c =
    let pre0 = c.requires in
    let bump = c.bump-s1.ensures in
    let bump_ok = ok_bumps bump pre0 in
    (bump_ok.holds, (let few = bump_ok.reads.few in let inside = bump_ok.reads.inside in omega arith), omega arith)

pub returns-in_default : goal.returns-in_default
unfolding decl.prefix_op plan choose chosen
returns-in_default c =
    let pre0 = c.requires in
    let peek_n = c.in_default.ensures in
    let bump = c.bump-s1.ensures in
    let report_error = c.report_error.ensures in
    always pre0 (λ n b. s_look peek_n (s_bump bump (s_report report_error s_end)))

pub name_star-requires : goal.name_star-requires
name_star-requires c =
    tt

pub fixity_at-fix-requires : goal.fixity_at-fix-requires
fixity_at-fix-requires c =
    let pre0 = c.requires in
    (pre0.reads, pre0.names, pre0.stands)

pub report_error-s1-requires : goal.report_error-s1-requires
report_error-s1-requires c =
    let pre0 = c.requires in
    (pre0.holds, (let few = pre0.reads.few in let inside = pre0.reads.inside in omega arith), omega arith)

pub bump-s2-requires : goal.bump-s2-requires
bump-s2-requires c =
    let pre0 = c.requires in
    let report_error2 = c.report_error-s1.ensures in
    let report_error2_ok = ok_tells report_error2 pre0 in
    (report_error2_ok.reads, report_error2_ok.logs)

pub bump-requires : goal.bump-requires
bump-requires c =
    let pre0 = c.requires in
    let report_error2 = c.report_error-s1.ensures in
    let report_error2_ok = ok_tells report_error2 pre0 in
    let bump2 = c.bump-s2.ensures in
    let bump2_ok = ok_bumps bump2 report_error2_ok in
    (bump2_ok.reads, bump2_ok.logs)

pub returns-in-None : goal.returns-in-None
unfolding decl.prefix_op plan choose chosen
returns-in-None c =
    let pre0 = c.requires in
    let peek_n = c.in-Some.ensures in
    let name_star = c.name_star.ensures in
    let if1 = c.if-name_star.true in
    let fixity_at = c.in-None.ensures in
    let report_error2 = c.report_error-s1.ensures in
    let bump2 = c.bump-s2.ensures in
    let bump3 = c.bump.ensures in
    always pre0 (λ n b. s_look peek_n (s_true _ _ (test_true name_star if1) (s_fixed fixity_at (s_report report_error2 (s_bump bump2 (s_bump bump3 s_end))))))

pub bump-s1-requires-in-Some-fix : goal.bump-s1-requires-in-Some-fix
bump-s1-requires-in-Some-fix c =
    let pre0 = c.requires in
    (pre0.reads, pre0.logs)

pub bump-requires-in-Some-fix : goal.bump-requires-in-Some-fix
bump-requires-in-Some-fix c =
    let pre0 = c.requires in
    let bump4 = c.bump-s1-in-Some-fix.ensures in
    let bump4_ok = ok_bumps bump4 pre0 in
    (bump4_ok.reads, bump4_ok.logs)

pub returns-in-Some-fix : goal.returns-in-Some-fix
unfolding decl.prefix_op plan choose chosen
returns-in-Some-fix c =
    let pre0 = c.requires in
    let peek_n = c.in-Some.ensures in
    let name_star = c.name_star.ensures in
    let if1 = c.if-name_star.true in
    let fixity_at = c.in-Some-fix.ensures in
    let bump4 = c.bump-s1-in-Some-fix.ensures in
    let bump5 = c.bump-in-Some-fix.ensures in
    always pre0 (λ n b. s_look peek_n (s_true _ _ (test_true name_star if1) (s_fixed fixity_at (s_bump bump4 (s_bump bump5 s_end)))))

pub bump-s1-requires-2 : goal.bump-s1-requires-2
bump-s1-requires-2 c =
    let pre0 = c.requires in
    (pre0.reads, pre0.logs)

pub report_error-requires-2 : goal.report_error-requires-2
report_error-requires-2 c =
    let pre0 = c.requires in
    let bump6 = c.bump-s1-2.ensures in
    let bump6_ok = ok_bumps bump6 pre0 in
    (bump6_ok.holds, (let few = bump6_ok.reads.few in let inside = bump6_ok.reads.inside in omega arith), omega arith)

pub returns : goal.returns
unfolding decl.prefix_op plan choose chosen
returns c =
    let pre0 = c.requires in
    let peek_n = c.in-Some.ensures in
    let name_star = c.name_star.ensures in
    let if1 = c.if-name_star.false in
    let bump6 = c.bump-s1-2.ensures in
    let report_error3 = c.report_error-2.ensures in
    always pre0 (λ n b. s_look peek_n (s_false _ _ (test_false name_star if1) (s_bump bump6 (s_report report_error3 s_end))))
