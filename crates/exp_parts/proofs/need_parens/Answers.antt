-- by tools/prove
use Rattle.grammar.specs.Exp as expr
use Rattle.parser.specs.Runs.{kind_is, kind_not}
use Rattle.parser.specs.Plans.{plan, choose, chosen, always, s_true, s_false, s_report, s_end}
use native.Mathlib.Omega.{arith}
use Rattle.exp_parts.proofs.need_parens.Goals as goal

pub report_error-requires : goal.report_error-requires
report_error-requires c =
    let pre0 = c.requires in
    (pre0.holds, (let few = pre0.reads.few in let inside = pre0.reads.inside in omega arith), omega arith)

pub returns-then-k-eq-RAISE_KW : goal.returns-then-k-eq-RAISE_KW
unfolding expr.need_parens plan choose chosen
returns-then-k-eq-RAISE_KW c =
    let pre0 = c.requires in
    let if1 = c.if-k-eq-RAISE_KW.true in
    let report_error = c.report_error.ensures in
    always pre0 (λ n b. s_true _ _ (kind_is if1) (s_report report_error s_end))

pub report_error-requires-then-k-eq-IF_KW : goal.report_error-requires-then-k-eq-IF_KW
report_error-requires-then-k-eq-IF_KW c =
    let pre0 = c.requires in
    (pre0.holds, (let few = pre0.reads.few in let inside = pre0.reads.inside in omega arith), omega arith)

pub returns-then-k-eq-IF_KW : goal.returns-then-k-eq-IF_KW
unfolding expr.need_parens plan choose chosen
returns-then-k-eq-IF_KW c =
    let pre0 = c.requires in
    let if1 = c.if-k-eq-RAISE_KW.false in
    let if2 = c.if-k-eq-IF_KW.true in
    let report_error2 = c.report_error-then-k-eq-IF_KW.ensures in
    always pre0 (λ n b. s_false _ _ (kind_not if1) (s_true _ _ (kind_is if2) (s_report report_error2 s_end)))

pub report_error-requires-then-k-eq-WHILE_KW : goal.report_error-requires-then-k-eq-WHILE_KW
report_error-requires-then-k-eq-WHILE_KW c =
    let pre0 = c.requires in
    (pre0.holds, (let few = pre0.reads.few in let inside = pre0.reads.inside in omega arith), omega arith)

pub returns-then-k-eq-WHILE_KW : goal.returns-then-k-eq-WHILE_KW
unfolding expr.need_parens plan choose chosen
returns-then-k-eq-WHILE_KW c =
    let pre0 = c.requires in
    let if1 = c.if-k-eq-RAISE_KW.false in
    let if2 = c.if-k-eq-IF_KW.false in
    let if3 = c.if-k-eq-WHILE_KW.true in
    let report_error3 = c.report_error-then-k-eq-WHILE_KW.ensures in
    always pre0 (λ n b. s_false _ _ (kind_not if1) (s_false _ _ (kind_not if2) (s_true _ _ (kind_is if3) (s_report report_error3 s_end))))

pub report_error-requires-then-k-eq-CASE_KW : goal.report_error-requires-then-k-eq-CASE_KW
report_error-requires-then-k-eq-CASE_KW c =
    let pre0 = c.requires in
    (pre0.holds, (let few = pre0.reads.few in let inside = pre0.reads.inside in omega arith), omega arith)

pub returns-then-k-eq-CASE_KW : goal.returns-then-k-eq-CASE_KW
unfolding expr.need_parens plan choose chosen
returns-then-k-eq-CASE_KW c =
    let pre0 = c.requires in
    let if1 = c.if-k-eq-RAISE_KW.false in
    let if2 = c.if-k-eq-IF_KW.false in
    let if3 = c.if-k-eq-WHILE_KW.false in
    let if4 = c.if-k-eq-CASE_KW.true in
    let report_error4 = c.report_error-then-k-eq-CASE_KW.ensures in
    always pre0 (λ n b. s_false _ _ (kind_not if1) (s_false _ _ (kind_not if2) (s_false _ _ (kind_not if3) (s_true _ _ (kind_is if4) (s_report report_error4 s_end)))))

pub report_error-requires-2 : goal.report_error-requires-2
report_error-requires-2 c =
    let pre0 = c.requires in
    (pre0.holds, (let few = pre0.reads.few in let inside = pre0.reads.inside in omega arith), omega arith)

pub returns : goal.returns
unfolding expr.need_parens plan choose chosen
returns c =
    let pre0 = c.requires in
    let if1 = c.if-k-eq-RAISE_KW.false in
    let if2 = c.if-k-eq-IF_KW.false in
    let if3 = c.if-k-eq-WHILE_KW.false in
    let if4 = c.if-k-eq-CASE_KW.false in
    let report_error5 = c.report_error-2.ensures in
    always pre0 (λ n b. s_false _ _ (kind_not if1) (s_false _ _ (kind_not if2) (s_false _ _ (kind_not if3) (s_false _ _ (kind_not if4) (s_report report_error5 s_end)))))
