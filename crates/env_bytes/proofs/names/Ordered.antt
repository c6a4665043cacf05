-- Of names in their order the first that comes after another is the first of all of them that do.
use Prim.Native.Nat.{ℕ, zero, suc, ◌+◌, ◌≤◌}
use native.Mathlib.Omega.{arith}
use mathlib.Core.Path.{◌≡◌, refl}
use mathlib.Core.List.{List, [], ◌∷◌, ◌++◌}
use mathlib.Core.Option.{some}
use mathlib.Core.Bool.{Bool, true, false, cond}
use borrow.Author.Tests.{le-leb}
use lib.ListN.{length, take, drop, length-drop}
use Rattle.std.specs.List.{All, filter, find, fold, reduce}
use Rattle.std.specs.Option.{option_to_list}
use Rattle.std.proofs.lemmas.List.Elements.{All-nil, All-cons, All-head, All-tail, All-weaker, All-filter, filter-append}
use Rattle.std.proofs.lemmas.List.Sums.{fold-append}
use Rattle.grammar.specs.Bytes.{before}
use Rattle.grammar.specs.Env.{Entry, entries_of, env_of, max_entries}
use Rattle.sml_fixity.specs.Names.{by_test, before_trans, before_asym}
use Rattle.sml_fixity.specs.EnvBytes.{entered}
use Rattle.env_bytes.specs.Names.{names_by, names_in}

-- none comes before an earlier one
abbrev pub InOrder : List (List ℕ) → Type 0
InOrder [] = Unit
InOrder (x ∷ xs) = All (λ y. before y x ≡ false) xs × InOrder xs

-- ---- the names of an environment's entries

none_left : (j : ℕ) → names_by j [] ≡ []
unfolding names_by
none_left zero = refl
none_left (suc j) = refl

ordered : (k j : ℕ) (last bytes : List ℕ) (es : List Entry) → entries_of k last bytes ≡ some es → length bytes ≤ j → All (λ y. before last y ≡ true) (names_by j bytes) × InOrder (names_by j bytes)
unfolding names_by entries_of
ordered k j last [] es h l = rw (none_left j) (All-nil (λ y. before last y ≡ true), tt)
ordered zero j last (n ∷ bytes) es h l = cc
ordered (suc k) zero last (n ∷ bytes) es h l = absurd (omega arith)
ordered (suc k) (suc j) last (n ∷ bytes) es h l =
    let s = entered k last n bytes es h in
    let x = take n bytes in
    let rest = names_by j (drop (n + 3) bytes) in
    let r = ordered k j x (drop (n + 3) bytes) s.rest s.others (rw length-drop (omega arith)) in
    let P = λ (y : List ℕ). before x y ≡ true in
    let Q = λ (y : List ℕ). before last y ≡ true in
    rw (le-leb (n + 3) (length bytes) s.whole.room, names_by) (
      All-cons Q x rest s.whole.order (All-weaker P Q (λ y q. before_trans last x y s.whole.order q) rest r.0),
      (All-weaker P (λ y. before y x ≡ false) (λ y q. before_asym x y q) rest r.0, r.1),
    )

pub env_ordered : (env : List ℕ) (es : List Entry) → env_of env ≡ some es → InOrder (names_in env)
unfolding env_of names_in
env_ordered env es h = (ordered max_entries (length env) [] env es h (omega arith)).1

-- ---- the first that passes

-- the first of two
abbrev pub first : List ℕ → List ℕ → List ℕ
first b x = cond (before x b) x b

stays : (a : List ℕ) (xs : List (List ℕ)) → All (λ y. before y a ≡ false) xs → fold first a xs ≡ a
stays a [] h = refl
stays a (x ∷ xs) h =
    let P = λ (y : List ℕ). before y a ≡ false in
    rw (All-head P x xs h) (stays a xs (All-tail P x xs h))

pub first_found : (p : List ℕ → Bool) (xs ys : List (List ℕ)) → InOrder xs → reduce first (option_to_list (find p xs) ++ filter p ys) ≡ reduce first (filter p (xs ++ ys))
first_found p [] ys h = refl
first_found p (x ∷ xs) ys h =
    by_test (p x)
    (λ t. rw (t, filter-append p xs ys, fold-append first x (filter p xs) (filter p ys), stays x (filter p xs) (All-filter p (λ y. before y x ≡ false) xs h.0)))
    (λ t. rw t (first_found p xs ys h.1))
