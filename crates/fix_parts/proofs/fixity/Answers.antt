-- by tools/prove
use Rattle.grammar.specs.Dec as decl
use Rattle.parser.specs.Runs.{runs_always, kind_is, kind_not, test_true, test_false}
use Rattle.parser.specs.Plans.{plan, choose, chosen, always, s_look, s_true, s_false, s_report, s_by, s_end}
use native.Mathlib.Omega.{arith}
use Rattle.fix_parts.proofs.fixity.Goals as goal

pub peek-requires : goal.peek-requires
peek-requires c =
    let pre0 = c.requires in
    pre0.reads

pub report_error-s1-requires : goal.report_error-s1-requires
report_error-s1-requires c =
    let pre0 = c.requires in
    (pre0.holds, (let few = pre0.reads.few in let inside = pre0.reads.inside in omega arith), omega arith)

pub returns-in_default : goal.returns-in_default
unfolding decl.fixity plan choose chosen
returns-in_default c =
    let pre0 = c.requires in
    let peek = c.in_default.ensures in
    let report_error = c.report_error-s1.ensures in
    always pre0 (λ n b. s_look peek (s_report report_error s_end))

pub fixity_number-requires : goal.fixity_number-requires
fixity_number-requires c =
    let pre0 = c.requires in
    pre0

pub returns-then-k-eq-INT_LIT : goal.returns-then-k-eq-INT_LIT
unfolding decl.fixity plan choose chosen
returns-then-k-eq-INT_LIT c =
    let pre0 = c.requires in
    let peek = c.in-Some.ensures in
    let if1 = c.if-k-eq-INT_LIT.true in
    let fixity_number = c.fixity_number.ensures in
    always pre0 (λ n b. s_look peek (s_true _ _ (kind_is if1) (s_by _ (runs_always fixity_number) s_end)))

pub name_star_eq-requires : goal.name_star_eq-requires
name_star_eq-requires c =
    tt

pub returns-then-name_star_eq : goal.returns-then-name_star_eq
unfolding decl.fixity plan choose chosen
returns-then-name_star_eq c =
    let pre0 = c.requires in
    let peek = c.in-Some.ensures in
    let if1 = c.if-k-eq-INT_LIT.false in
    let name_star_eq = c.name_star_eq.ensures in
    let if2 = c.if-name_star_eq.true in
    always pre0 (λ n b. s_look peek (s_false _ _ (kind_not if1) (s_true _ _ (test_true name_star_eq if2) s_end)))

pub report_error-s1-requires-2 : goal.report_error-s1-requires-2
report_error-s1-requires-2 c =
    let pre0 = c.requires in
    (pre0.holds, (let few = pre0.reads.few in let inside = pre0.reads.inside in omega arith), omega arith)

pub returns : goal.returns
unfolding decl.fixity plan choose chosen
returns c =
    let pre0 = c.requires in
    let peek = c.in-Some.ensures in
    let if1 = c.if-k-eq-INT_LIT.false in
    let name_star_eq = c.name_star_eq.ensures in
    let if2 = c.if-name_star_eq.false in
    let report_error2 = c.report_error-s1-2.ensures in
    always pre0 (λ n b. s_look peek (s_false _ _ (kind_not if1) (s_false _ _ (test_false name_star_eq if2) (s_report report_error2 s_end))))
