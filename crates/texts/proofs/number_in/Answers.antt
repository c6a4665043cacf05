-- by hand: tests of one byte: the cases of `number_of`.
-- `number_in` meets its contract: by the first byte.
use Prim.Native.Nat.{ℕ, ◌<◌}
use mathlib.Core.Path.{◌≡◌, refl, ap, sym, ◌∙◌}
use mathlib.Core.List.{List, [], ◌∷◌}
use native.Mathlib.Omega.{arith}
use lib.ListN.{length}
use Rattle.grammar.specs.World.{number_of, invalid}
use Rattle.texts.proofs.Texts.{number_tilde, number_plus, number_plain, whole}
use Rattle.texts.proofs.number_in.Goals as goal

-- an empty text
no_byte : (x : List ℕ) → length x < 1 → invalid ≡ number_of x
unfolding number_of
no_byte [] h = refl
no_byte (c ∷ cs) h = absurd (omega arith)

pub returns-in_default : goal.returns-in_default
returns-in_default c = no_byte c.args.text.now c.in_default.len_below

pub returns-in-126 : goal.returns-in-126
returns-in-126 c =
    let x = c.args.text.now in
    sym (number_tilde x 0 (length x) c.in-len1-up.len_at_least (omega arith) c.in-126.is) ∙ ap number_of (whole x)

pub returns-in-43 : goal.returns-in-43
returns-in-43 c =
    let x = c.args.text.now in
    c.digits_in.ensures ∙ sym (number_plus x 0 (length x) c.in-len1-up.len_at_least (omega arith) c.in-43.is) ∙ ap number_of (whole x)

pub returns-in_default-first : goal.returns-in_default-first
returns-in_default-first c =
    let x = c.args.text.now in
    c.digits_in-in_default-first.ensures
    ∙ sym (number_plain x 0 (length x) c.in-len1-up.len_at_least (omega arith) (λ e. omega arith) (λ e. omega arith)) ∙ ap number_of (whole x)
