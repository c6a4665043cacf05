-- Parts of texts, and their comparison.
use Prim.Native.Nat.{ℕ, suc, ◌+◌, ◌-◌, ◌≤◌, ◌<◌}
use native.Mathlib.Omega.{arith}
use mathlib.Core.Path.{◌≡◌, refl}
use mathlib.Core.List.{List, [], ◌∷◌}
use lib.Dec.{eqb}
use lib.ListN.{length, get_or, length-take, length-drop}
use lib.Seq.{drop-cons}
use Rattle.std.specs.Str.{bytes_eq}
use Rattle.grammar.specs.Bytes.{same}
use Rattle.sml_fixity.specs.Names.{by_test}
use Rattle.sml_fixity.specs.Table.{part}

pub part_length : (a : List ℕ) (i m : ℕ) → i + m ≤ length a → length (part a i m) ≡ m
part_length a i m h = simp (length-take, length-drop) (omega arith)

pub part_cons : (a : List ℕ) (i m k : ℕ) → k < m → i + m ≤ length a → part a (i + k) (m - k) ≡ get_or a (i + k) 0 ∷ part a (i + (k + 1)) (m - (k + 1))
part_cons a i m k p h =
    let e : m - k ≡ suc (m - (k + 1)) = omega arith in
    let f : i + (k + 1) ≡ suc (i + k) = omega arith in
    rw (e, f, drop-cons a (i + k) 0 (omega arith))

-- `==` of the code is the grammar's `same`
pub eq_same : (x y : List ℕ) → bytes_eq x y ≡ same x y
unfolding same
eq_same [] [] = refl
eq_same [] (b ∷ y) = refl
eq_same (a ∷ x) [] = refl
eq_same (a ∷ x) (b ∷ y) = by_test (eqb a b) (λ e. rw (e, same) (eq_same x y)) (λ e. rw (e, same) refl)
