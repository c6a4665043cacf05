-- by tools/prove
use Rattle.grammar.specs.Dec as decl
use Rattle.parser.specs.Runs.{test_true, test_false, ok_bumps, small_index}
use Rattle.parser.specs.Plans.{plan, choose, chosen, always, s_look, s_index, s_fixed, s_true, s_false, s_bump, s_report, s_end}
use native.Mathlib.Omega.{arith}
use Rattle.head_parts.proofs.infix_name.Goals as goal

pub peek-requires : goal.peek-requires
peek-requires c =
    let pre0 = c.requires in
    pre0.reads

pub report_error-requires : goal.report_error-requires
report_error-requires c =
    let pre0 = c.requires in
    (pre0.holds, (let few = pre0.reads.few in let inside = pre0.reads.inside in omega arith), omega arith)

pub returns-in_default : goal.returns-in_default
unfolding decl.infix_name plan choose chosen
returns-in_default c =
    let pre0 = c.requires in
    let peek = c.in_default.ensures in
    let report_error = c.report_error.ensures in
    always pre0 (λ n b. s_look peek (s_report report_error s_end))

pub name_star-requires : goal.name_star-requires
name_star-requires c =
    tt

pub fixity_at-fix-requires : goal.fixity_at-fix-requires
fixity_at-fix-requires c =
    let pre0 = c.requires in
    (pre0.reads, pre0.names, pre0.stands)

pub index-i-requires : goal.index-i-requires
index-i-requires c =
    tt

pub bump-s1-requires : goal.bump-s1-requires
bump-s1-requires c =
    let pre0 = c.requires in
    (pre0.reads, pre0.logs)

pub report_error-requires-in-None : goal.report_error-requires-in-None
report_error-requires-in-None c =
    let pre0 = c.requires in
    let index = c.index-i.ensures in
    let index_small = small_index index pre0 in
    let bump = c.bump-s1.ensures in
    let bump_ok = ok_bumps bump pre0 in
    (bump_ok.holds, (let few = bump_ok.reads.few in let inside = bump_ok.reads.inside in omega arith), omega arith)

pub returns-in-None : goal.returns-in-None
unfolding decl.infix_name plan choose chosen
returns-in-None c =
    let pre0 = c.requires in
    let peek = c.in-Some.ensures in
    let name_star = c.name_star.ensures in
    let if1 = c.if-name_star.true in
    let fixity_at = c.in-None.ensures in
    let index = c.index-i.ensures in
    let bump = c.bump-s1.ensures in
    let report_error2 = c.report_error-in-None.ensures in
    always pre0 (λ n b. s_look peek (s_true _ _ (test_true name_star if1) (s_fixed fixity_at (s_index index (s_bump bump (s_report report_error2 s_end))))))

pub bump-requires : goal.bump-requires
bump-requires c =
    let pre0 = c.requires in
    (pre0.reads, pre0.logs)

pub returns-in-Some-fix : goal.returns-in-Some-fix
unfolding decl.infix_name plan choose chosen
returns-in-Some-fix c =
    let pre0 = c.requires in
    let peek = c.in-Some.ensures in
    let name_star = c.name_star.ensures in
    let if1 = c.if-name_star.true in
    let fixity_at = c.in-Some-fix.ensures in
    let bump2 = c.bump.ensures in
    always pre0 (λ n b. s_look peek (s_true _ _ (test_true name_star if1) (s_fixed fixity_at (s_bump bump2 s_end))))

pub report_error-requires-2 : goal.report_error-requires-2
report_error-requires-2 c =
    let pre0 = c.requires in
    (pre0.holds, (let few = pre0.reads.few in let inside = pre0.reads.inside in omega arith), omega arith)

pub returns : goal.returns
unfolding decl.infix_name plan choose chosen
returns c =
    let pre0 = c.requires in
    let peek = c.in-Some.ensures in
    let name_star = c.name_star.ensures in
    let if1 = c.if-name_star.false in
    let report_error3 = c.report_error-2.ensures in
    always pre0 (λ n b. s_look peek (s_false _ _ (test_false name_star if1) (s_report report_error3 s_end)))
