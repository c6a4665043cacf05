-- by tools/prove
use Rattle.grammar.specs.Dec as decl
use Rattle.parser.specs.Runs.{kind_at, kind_off, ok_bumps, ok_tells}
use Rattle.parser.specs.Plans.{plan, choose, chosen, always, s_kind, s_true, s_false, s_bump, s_report, s_eats, eats_settled, s_end}
use native.Mathlib.Omega.{arith}
use Rattle.bind_parts.proofs.op_name.Goals as goal

pub at-requires : goal.at-requires
at-requires c =
    let pre0 = c.requires in
    pre0.reads

pub report_error-s1-requires : goal.report_error-s1-requires
report_error-s1-requires c =
    let pre0 = c.requires in
    (pre0.holds, (let few = pre0.reads.few in let inside = pre0.reads.inside in omega arith), omega arith)

pub bump-s2-requires : goal.bump-s2-requires
bump-s2-requires c =
    let pre0 = c.requires in
    let report_error = c.report_error-s1.ensures in
    let report_error_ok = ok_tells report_error pre0 in
    (report_error_ok.reads, report_error_ok.logs)

pub eat_name_star-got-requires : goal.eat_name_star-got-requires
eat_name_star-got-requires c =
    let pre0 = c.requires in
    let report_error = c.report_error-s1.ensures in
    let report_error_ok = ok_tells report_error pre0 in
    let bump = c.bump-s2.ensures in
    let bump_ok = ok_bumps bump report_error_ok in
    (bump_ok.reads, bump_ok.logs, bump_ok.holds)

pub either-s3-requires : goal.either-s3-requires
either-s3-requires c =
    tt

pub returns-then-at : goal.returns-then-at
unfolding decl.op_name plan choose chosen
returns-then-at c =
    let pre0 = c.requires in
    let at = c.at.ensures in
    let if1 = c.if-at.true in
    let report_error = c.report_error-s1.ensures in
    let bump = c.bump-s2.ensures in
    let eat_name_star = c.eat_name_star-got.ensures in
    let either = c.either-s3.ensures in
    always pre0 (λ n b. s_kind (s_true _ _ (kind_at _ _ _ _ at if1) (s_report report_error (s_bump bump (s_eats _ _ _ (eats_settled either eat_name_star) s_end)))))

pub eat_name_star-requires : goal.eat_name_star-requires
eat_name_star-requires c =
    let pre0 = c.requires in
    (pre0.reads, pre0.logs, pre0.holds)

pub returns : goal.returns
unfolding decl.op_name plan choose chosen
returns c =
    let pre0 = c.requires in
    let at = c.at.ensures in
    let if1 = c.if-at.false in
    let eat_name_star2 = c.eat_name_star.ensures in
    always pre0 (λ n b. s_kind (s_false _ _ (kind_off _ _ _ _ at if1) (s_eats _ _ _ eat_name_star2 s_end)))
