-- by tools/prove
use Rattle.grammar.specs.Util as util
use Rattle.parser.specs.Runs.{test_true, test_false}
use Rattle.parser.specs.Plans.{plan, choose, chosen, s_look, s_true, s_false, s_bump, s_report, s_end, eats}
use native.Mathlib.Omega.{arith}
use Rattle.util.proofs.eat_name_star.Goals as goal

pub peek-requires : goal.peek-requires
peek-requires c =
    let pre0 = c.requires.0 in
    pre0

pub report_error-requires : goal.report_error-requires
report_error-requires c =
    let pre0 = c.requires.0 in
    let pre2 = c.requires.2 in
    (pre2, (let few = pre0.few in let inside = pre0.inside in omega arith), omega arith)

pub returns-in_default : goal.returns-in_default
unfolding util.eat_name_star plan choose chosen
returns-in_default c =
    let peek = c.in_default.ensures in
    let report_error = c.report_error.ensures in
    eats (λ x e j n b. s_look peek (s_report report_error s_end))

pub name_star-requires : goal.name_star-requires
name_star-requires c =
    tt

pub bump-requires : goal.bump-requires
bump-requires c =
    let pre0 = c.requires.0 in
    let pre1 = c.requires.1 in
    (pre0, pre1)

pub report_error-requires-else-name_star : goal.report_error-requires-else-name_star
report_error-requires-else-name_star c =
    let pre0 = c.requires.0 in
    let pre2 = c.requires.2 in
    (pre2, (let few = pre0.few in let inside = pre0.inside in omega arith), omega arith)

pub returns-then-name_star : goal.returns-then-name_star
unfolding util.eat_name_star plan choose chosen
returns-then-name_star c =
    let peek = c.in-Some.ensures in
    let name_star = c.name_star.ensures in
    let if1 = c.if-name_star.true in
    let bump = c.bump.ensures in
    eats (λ x e j n b. s_look peek (s_true _ _ (test_true name_star if1) (s_bump bump s_end)))

pub returns-else-name_star : goal.returns-else-name_star
unfolding util.eat_name_star plan choose chosen
returns-else-name_star c =
    let peek = c.in-Some.ensures in
    let name_star = c.name_star.ensures in
    let if1 = c.if-name_star.false in
    let report_error2 = c.report_error-else-name_star.ensures in
    eats (λ x e j n b. s_look peek (s_false _ _ (test_false name_star if1) (s_report report_error2 s_end)))
