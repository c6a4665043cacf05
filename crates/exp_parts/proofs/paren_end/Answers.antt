-- by tools/prove
use Rattle.grammar.specs.Exp as expr
use Rattle.parser.specs.Runs.{kind_at, kind_off, ok_bumps, ok_tells}
use Rattle.parser.specs.Plans.{plan, choose, chosen, in_steps, s_kind, s_true, s_false, s_bump, s_close, s_report, s_end}
use native.Mathlib.Omega.{arith}
use Rattle.exp_parts.proofs.paren_end.Goals as goal

pub at-requires : goal.at-requires
at-requires c =
    let pre0 = c.requires.0 in
    pre0.reads

pub bump-s1-requires : goal.bump-s1-requires
bump-s1-requires c =
    let pre0 = c.requires.0 in
    (pre0.reads, pre0.logs)

pub close_node-requires : goal.close_node-requires
close_node-requires c =
    let pre0 = c.requires.0 in
    let pre1 = c.requires.1 in
    let bump = c.bump-s1.ensures in
    let bump_ok = ok_bumps bump pre0 in
    (bump_ok.logs, pre1)

pub returns-then-at : goal.returns-then-at
unfolding expr.paren_end plan choose chosen
returns-then-at c =
    let pre0 = c.requires.0 in
    let at = c.at.ensures in
    let if1 = c.if-at.true in
    let bump = c.bump-s1.ensures in
    let close_node = c.close_node.ensures in
    in_steps pre0 (s_kind (s_true _ _ (kind_at _ _ _ _ at if1) (s_bump bump (s_close close_node s_end))))

pub report_error-s1-requires : goal.report_error-s1-requires
report_error-s1-requires c =
    let pre0 = c.requires.0 in
    (pre0.holds, (let few = pre0.reads.few in let inside = pre0.reads.inside in omega arith), omega arith)

pub close_node-requires-2 : goal.close_node-requires-2
close_node-requires-2 c =
    let pre0 = c.requires.0 in
    let pre1 = c.requires.1 in
    let report_error = c.report_error-s1.ensures in
    let report_error_ok = ok_tells report_error pre0 in
    (report_error_ok.logs, pre1)

pub returns : goal.returns
unfolding expr.paren_end plan choose chosen
returns c =
    let pre0 = c.requires.0 in
    let at = c.at.ensures in
    let if1 = c.if-at.false in
    let report_error = c.report_error-s1.ensures in
    let close_node2 = c.close_node-2.ensures in
    in_steps pre0 (s_kind (s_false _ _ (kind_off _ _ _ _ at if1) (s_report report_error (s_close close_node2 s_end))))
