-- by tools/prove
use Rattle.grammar.specs.Util as util
use Rattle.parser.specs.Runs.{test_true, test_false}
use Rattle.parser.specs.Plans.{plan, choose, chosen, always, s_true, s_false, s_report, s_end}
use native.Mathlib.Omega.{arith}
use Rattle.breaks.proofs.should_break.Goals as goal

pub tie-requires : goal.tie-requires
tie-requires c =
    tt

pub report_error-requires : goal.report_error-requires
report_error-requires c =
    let pre0 = c.requires in
    (pre0.holds, (let few = pre0.reads.few in let inside = pre0.reads.inside in omega arith), omega arith)

pub returns-then-tie : goal.returns-then-tie
unfolding util.should_break plan choose chosen
returns-then-tie c =
    let pre0 = c.requires in
    let tie = c.tie.ensures in
    let if1 = c.if-tie.true in
    let report_error = c.report_error.ensures in
    λ g. always pre0 (λ n b. s_true _ _ (test_true tie if1) (s_report report_error s_end))

pub weaker-requires : goal.weaker-requires
weaker-requires c =
    tt

pub returns-then-weaker : goal.returns-then-weaker
unfolding util.should_break plan choose chosen
returns-then-weaker c =
    let pre0 = c.requires in
    let tie = c.tie.ensures in
    let if1 = c.if-tie.false in
    let weaker = c.weaker.ensures in
    let if2 = c.if-weaker.true in
    λ g. always pre0 (λ n b. s_false _ _ (test_false tie if1) (s_true _ _ (test_true weaker if2) s_end))

pub returns-else-weaker : goal.returns-else-weaker
unfolding util.should_break plan choose chosen
returns-else-weaker c =
    let pre0 = c.requires in
    let tie = c.tie.ensures in
    let if1 = c.if-tie.false in
    let weaker = c.weaker.ensures in
    let if2 = c.if-weaker.false in
    λ g. always pre0 (λ n b. s_false _ _ (test_false tie if1) (s_false _ _ (test_false weaker if2) s_end))
