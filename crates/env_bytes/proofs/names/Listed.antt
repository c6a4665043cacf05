-- The names of the entries of bytes: those of a split, and those of an environment.
use Prim.Native.Nat.{ℕ, zero, suc, ◌+◌, ◌≤◌}
use native.Mathlib.Omega.{arith}
use mathlib.Core.Path.{◌≡◌, refl, ap}
use mathlib.Core.List.{List, [], ◌∷◌}
use borrow.Author.Tests.{le-leb, lt-leb}
use lib.Dec.{leb}
use lib.ListN.{length, take, drop, length-drop}
use Rattle.std.specs.Prelude.{Some, None}
use Rattle.std.specs.Borrow.{Bor}
use Rattle.sml_fixity.specs.Names.{by_test}
use Rattle.env_bytes.specs.Form.{Splits}
use Rattle.env_bytes.specs.Names.{names_by, names_in}

-- the bound on their number does not matter
enough : (k j : ℕ) (bytes : List ℕ) → length bytes ≤ k → length bytes ≤ j → names_by k bytes ≡ names_by j bytes
unfolding names_by
enough zero zero bytes h l = refl
enough zero (suc j) [] h l = refl
enough zero (suc j) (n ∷ bytes) h l = absurd (omega arith)
enough (suc k) zero [] h l = refl
enough (suc k) zero (n ∷ bytes) h l = absurd (omega arith)
enough (suc k) (suc j) [] h l = refl
enough (suc k) (suc j) (n ∷ bytes) h l =
    by_test (leb (n + 3) (length bytes))
    (λ t. rw (t, enough k j (drop (n + 3) bytes) (rw length-drop (omega arith)) (rw length-drop (omega arith)), names_by))
    (λ t. rw (t, names_by))

pub names_split : (bytes : List ℕ) (name fixity rest : Bor (List ℕ)) → Splits bytes (Some (name, fixity, rest)) → names_in bytes ≡ name.now ∷ names_in rest.now
unfolding names_in names_by
names_split [] name fixity rest s = cc
names_split (n ∷ bytes) name fixity rest s =
    rw (le-leb (n + 3) (length bytes) s.room, s.name-is, s.behind-is, names_by)
    (ap (λ (xs : List (List ℕ)). take n bytes ∷ xs) (enough (length bytes) (length (drop (n + 3) bytes)) (drop (n + 3) bytes) (rw length-drop (omega arith)) (omega arith)))

pub names_none : (bytes : List ℕ) → Splits bytes None → names_in bytes ≡ []
unfolding names_in names_by
names_none [] s = refl
names_none (n ∷ bytes) s = rw (lt-leb (n + 3) (length bytes) s, names_by)
