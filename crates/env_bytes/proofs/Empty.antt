-- The empty name comes before all others, and so after none.
use mathlib.Core.Path.{◌≡◌, refl}
use mathlib.Core.List.{List, [], ◌∷◌}
use mathlib.Core.Bool.{false}
use Prim.Native.Nat.{ℕ}
use Rattle.grammar.specs.Bytes.{before}

pub empty_first : (x : List ℕ) → before x [] ≡ false
unfolding before
empty_first [] = refl
empty_first (a ∷ x) = refl
