-- by tools/prove
use Rattle.grammar.specs.Util as util
use Rattle.parser.specs.Plans.{plan, choose, chosen, s_eats, eats_settled, s_end, eats}
use native.Mathlib.Omega.{arith}
use Rattle.util.proofs.want.Goals as goal

pub eat-got-requires : goal.eat-got-requires
eat-got-requires c =
    let pre0 = c.requires.0 in
    let pre1 = c.requires.1 in
    let pre2 = c.requires.2 in
    (pre0, pre1, pre2, omega arith)

pub either-requires : goal.either-requires
either-requires c =
    tt

pub returns : goal.returns
unfolding util.want plan choose chosen
returns c =
    let eat = c.eat-got.ensures in
    let either = c.either.ensures in
    eats (λ x e j n b. s_eats _ _ _ (eats_settled either eat) s_end)
