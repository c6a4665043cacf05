-- by tools/prove
use Rattle.grammar.specs.Dec as decl
use Rattle.parser.specs.Runs.{test_true, test_false}
use Rattle.parser.specs.Plans.{plan, choose, chosen, always, s_look, s_true, s_false, s_report, s_end}
use native.Mathlib.Omega.{arith}
use Rattle.fix_parts.proofs.large_fixity.Goals as goal

pub mode-m-requires : goal.mode-m-requires
mode-m-requires c =
    tt

pub is_large-requires : goal.is_large-requires
is_large-requires c =
    tt

pub report_error-requires : goal.report_error-requires
report_error-requires c =
    let pre0 = c.requires in
    (pre0.holds, (let few = pre0.reads.few in let inside = pre0.reads.inside in omega arith), omega arith)

pub returns-then-is_large : goal.returns-then-is_large
unfolding decl.large_fixity plan choose chosen
returns-then-is_large c =
    let pre0 = c.requires in
    let mode = c.mode-m.ensures in
    let is_large = c.is_large.ensures in
    let if1 = c.if-is_large.true in
    let report_error = c.report_error.ensures in
    always pre0 (λ n b. s_look mode (s_true _ _ (test_true is_large if1) (s_report report_error s_end)))

pub returns : goal.returns
unfolding decl.large_fixity plan choose chosen
returns c =
    let pre0 = c.requires in
    let mode = c.mode-m.ensures in
    let is_large = c.is_large.ensures in
    let if1 = c.if-is_large.false in
    always pre0 (λ n b. s_look mode (s_false _ _ (test_false is_large if1) s_end))
