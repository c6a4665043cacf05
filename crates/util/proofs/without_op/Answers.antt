-- by tools/prove
use Rattle.grammar.specs.Util as util
use Rattle.parser.specs.Runs.{kind_at, kind_off, test_true, test_false, small_index}
use Rattle.parser.specs.Plans.{plan, choose, chosen, always, s_look, s_index, s_kind, s_fixed, s_true, s_false, s_report, s_end}
use native.Mathlib.Omega.{arith}
use Rattle.util.proofs.without_op.Goals as goal

pub at_n-requires : goal.at_n-requires
at_n-requires c =
    let pre0 = c.requires in
    pre0.reads

pub returns-then-at_n : goal.returns-then-at_n
unfolding util.without_op plan choose chosen
returns-then-at_n c =
    let pre0 = c.requires in
    let at_n = c.at_n.ensures in
    let if1 = c.if-at_n.true in
    always pre0 (λ n b. s_kind (s_true _ _ (kind_at _ _ _ _ at_n if1) s_end))

pub peek-requires : goal.peek-requires
peek-requires c =
    let pre0 = c.requires in
    pre0.reads

pub returns-in_default : goal.returns-in_default
unfolding util.without_op plan choose chosen
returns-in_default c =
    let pre0 = c.requires in
    let at_n = c.at_n.ensures in
    let if1 = c.if-at_n.false in
    let peek = c.in_default.ensures in
    always pre0 (λ n b. s_kind (s_false _ _ (kind_off _ _ _ _ at_n if1) (s_look peek s_end)))

pub name_star_eq-requires : goal.name_star_eq-requires
name_star_eq-requires c =
    tt

pub fixity_at-requires : goal.fixity_at-requires
fixity_at-requires c =
    let pre0 = c.requires in
    (pre0.reads, pre0.names, pre0.stands)

pub index-requires : goal.index-requires
index-requires c =
    tt

pub report_error-requires : goal.report_error-requires
report_error-requires c =
    let pre0 = c.requires in
    let index = c.index.ensures in
    let index_small = small_index index pre0 in
    (pre0.holds, (let few = pre0.reads.few in let inside = pre0.reads.inside in omega arith), omega arith)

pub returns-in-None : goal.returns-in-None
unfolding util.without_op plan choose chosen
returns-in-None c =
    let pre0 = c.requires in
    let at_n = c.at_n.ensures in
    let if1 = c.if-at_n.false in
    let peek = c.in-Some.ensures in
    let name_star_eq = c.name_star_eq.ensures in
    let if2 = c.if-name_star_eq.true in
    let fixity_at = c.in-None.ensures in
    always pre0 (λ n b. s_kind (s_false _ _ (kind_off _ _ _ _ at_n if1) (s_look peek (s_true _ _ (test_true name_star_eq if2) (s_fixed fixity_at s_end)))))

pub returns-in-Some-fixity_at : goal.returns-in-Some-fixity_at
unfolding util.without_op plan choose chosen
returns-in-Some-fixity_at c =
    let pre0 = c.requires in
    let at_n = c.at_n.ensures in
    let if1 = c.if-at_n.false in
    let peek = c.in-Some.ensures in
    let name_star_eq = c.name_star_eq.ensures in
    let if2 = c.if-name_star_eq.true in
    let fixity_at = c.in-Some-fixity_at.ensures in
    let index = c.index.ensures in
    let report_error = c.report_error.ensures in
    always pre0 (λ n b. s_kind (s_false _ _ (kind_off _ _ _ _ at_n if1) (s_look peek (s_true _ _ (test_true name_star_eq if2) (s_fixed fixity_at (s_index index (s_report report_error s_end)))))))

pub returns-else-name_star_eq : goal.returns-else-name_star_eq
unfolding util.without_op plan choose chosen
returns-else-name_star_eq c =
    let pre0 = c.requires in
    let at_n = c.at_n.ensures in
    let if1 = c.if-at_n.false in
    let peek = c.in-Some.ensures in
    let name_star_eq = c.name_star_eq.ensures in
    let if2 = c.if-name_star_eq.false in
    always pre0 (λ n b. s_kind (s_false _ _ (kind_off _ _ _ _ at_n if1) (s_look peek (s_false _ _ (test_false name_star_eq if2) s_end))))
