-- by tools/prove
use Rattle.grammar.specs.Util as util
use Rattle.parser.specs.Runs.{kind_at, kind_off}
use Rattle.parser.specs.Plans.{plan, choose, chosen, s_kind, s_true, s_false, s_bump, s_end, takes}
use Rattle.util.proofs.bump_if.Goals as goal

pub at-requires : goal.at-requires
at-requires c =
    let pre0 = c.requires.0 in
    pre0

pub bump-requires : goal.bump-requires
bump-requires c =
    let pre0 = c.requires.0 in
    let pre1 = c.requires.1 in
    (pre0, pre1)

pub returns-then-at : goal.returns-then-at
unfolding util.bump_if plan choose chosen
returns-then-at c =
    let at = c.at.ensures in
    let if1 = c.if-at.true in
    let bump = c.bump.ensures in
    takes (λ x e j h n b. s_kind (s_true _ _ (kind_at _ _ _ _ at if1) (s_bump bump s_end)))

pub returns-else-at : goal.returns-else-at
unfolding util.bump_if plan choose chosen
returns-else-at c =
    let at = c.at.ensures in
    let if1 = c.if-at.false in
    takes (λ x e j h n b. s_kind (s_false _ _ (kind_off _ _ _ _ at if1) s_end))
