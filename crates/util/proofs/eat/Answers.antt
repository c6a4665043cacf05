-- by hand: that a wanted kind is below 128 is arithmetic, which the tool does not write.
use Prim.Native.Nat.{◌%◌}
use native.Mathlib.Omega.{arith}
use mathlib.Core.Path.{◌≡◌}
use Rattle.grammar.specs.Util as util
use Rattle.parser.specs.Runs.{kind_at, kind_off}
use Rattle.parser.specs.Plans.{plan, choose, chosen, s_kind, s_true, s_false, s_bump, s_report, s_end, eats}
use Rattle.util.proofs.eat.Goals as goal

pub report_error-requires : goal.report_error-requires
report_error-requires c =
    let few = c.requires.0.few in
    let inside = c.requires.0.inside in
    (c.requires.2, omega arith, omega arith)

pub returns-then-at : goal.returns-then-at
unfolding util.eat plan choose chosen
returns-then-at c = eats (λ x e j n b. s_kind (s_true _ _ (kind_at _ _ _ _ c.at.ensures c.if-at.true) (s_bump c.bump.ensures s_end)))

pub returns-else-at : goal.returns-else-at
unfolding util.eat plan choose chosen
returns-else-at c =
    let low : c.args.want % 128 ≡ c.args.want = omega (arith, c.requires.3) in
    eats (λ x e j n b. s_kind (s_false _ _ (kind_off _ _ _ _ c.at.ensures c.if-at.false) (s_report (rw low at c.report_error.ensures) s_end)))
