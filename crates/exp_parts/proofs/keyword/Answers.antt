-- by tools/prove
use Rattle.grammar.specs.Exp as expr
use Rattle.parser.specs.Runs.{runs_always, test_true, test_false}
use Rattle.parser.specs.Plans.{plan, choose, chosen, always, s_true, s_false, s_bump, s_by, s_end}
use Rattle.exp_parts.proofs.keyword.Goals as goal

pub is_infix-requires : goal.is_infix-requires
is_infix-requires c =
    tt

pub need_parens-s1-requires : goal.need_parens-s1-requires
need_parens-s1-requires c =
    let pre0 = c.requires in
    pre0

pub bump-requires : goal.bump-requires
bump-requires c =
    let need_parens = c.need_parens-s1.ensures in
    let need_parens_ok = need_parens.ok in
    (need_parens_ok.reads, need_parens_ok.logs)

pub returns-then-is_infix : goal.returns-then-is_infix
unfolding expr.keyword plan choose chosen
returns-then-is_infix c =
    let pre0 = c.requires in
    let is_infix = c.is_infix.ensures in
    let if1 = c.if-is_infix.true in
    let need_parens = c.need_parens-s1.ensures in
    let bump = c.bump.ensures in
    always pre0 (λ n b. s_true _ _ (test_true is_infix if1) (s_by _ (runs_always need_parens) (s_bump bump s_end)))

pub bump-requires-2 : goal.bump-requires-2
bump-requires-2 c =
    let pre0 = c.requires in
    (pre0.reads, pre0.logs)

pub returns : goal.returns
unfolding expr.keyword plan choose chosen
returns c =
    let pre0 = c.requires in
    let is_infix = c.is_infix.ensures in
    let if1 = c.if-is_infix.false in
    let bump2 = c.bump-2.ensures in
    always pre0 (λ n b. s_false _ _ (test_false is_infix if1) (s_bump bump2 s_end))
