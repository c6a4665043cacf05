-- by tools/prove
use Rattle.grammar.specs.Util as util
use Rattle.parser.specs.Runs.{test_true, test_false}
use Rattle.parser.specs.Plans.{plan, choose, chosen, s_look, s_true, s_false, s_bump, s_end, takes}
use Rattle.util.proofs.bump_ascription.Goals as goal

pub peek-requires : goal.peek-requires
peek-requires c =
    let pre0 = c.requires.0 in
    pre0

pub returns-in_default : goal.returns-in_default
unfolding util.bump_ascription plan choose chosen
returns-in_default c =
    let peek = c.in_default.ensures in
    takes (λ x e j h n b. s_look peek s_end)

pub ascription-requires : goal.ascription-requires
ascription-requires c =
    tt

pub bump-requires : goal.bump-requires
bump-requires c =
    let pre0 = c.requires.0 in
    let pre1 = c.requires.1 in
    (pre0, pre1)

pub returns-then-ascription : goal.returns-then-ascription
unfolding util.bump_ascription plan choose chosen
returns-then-ascription c =
    let peek = c.in-Some.ensures in
    let ascription = c.ascription.ensures in
    let if1 = c.if-ascription.true in
    let bump = c.bump.ensures in
    takes (λ x e j h n b. s_look peek (s_true _ _ (test_true ascription if1) (s_bump bump s_end)))

pub returns-else-ascription : goal.returns-else-ascription
unfolding util.bump_ascription plan choose chosen
returns-else-ascription c =
    let peek = c.in-Some.ensures in
    let ascription = c.ascription.ensures in
    let if1 = c.if-ascription.false in
    takes (λ x e j h n b. s_look peek (s_false _ _ (test_false ascription if1) s_end))
