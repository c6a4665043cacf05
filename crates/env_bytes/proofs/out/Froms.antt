-- The entries from a name on, of a list in the order of the names: what is left of it as its names are taken one by one.
use Prim.Native.Nat.{ℕ}
use native.Mathlib.Omega.{arith}
use mathlib.Core.Path.{◌≡◌, refl, sym, ◌∙◌}
use mathlib.Core.List.{List, [], ◌∷◌, ◌++◌}
use mathlib.Core.Option.{none}
use mathlib.Core.Bool.{true, false}
use Rattle.grammar.specs.Bytes.{same, before}
use Rattle.grammar.specs.Env.{Entry, find}
use Rattle.sml_fixity.specs.Names.{by_test, same_eq, before_irrefl, before_trans, before_asym, before_total}
use Rattle.sml_fixity.specs.Entries.{Chain, Sorted, chain_sorted, chain_none, first, behind}
use Rattle.sml_fixity.specs.Entries.Chain.{end, link}
use Rattle.env_bytes.specs.Out.{here}
use Rattle.env_bytes.proofs.Empty.{empty_first}

-- the entries whose names do not come before x, and those whose names come after it
unfoldable pub froms : List ℕ → List Entry → List Entry
froms x [] = []
froms x (e ∷ es) = elim (before e.name x) [ true ↦ froms x es | false ↦ e ∷ es ]

unfoldable pub afters : List ℕ → List Entry → List Entry
afters x [] = []
afters x (e ∷ es) = elim (before x e.name) [ true ↦ e ∷ es | false ↦ afters x es ]

pub froms_all : (es : List Entry) → froms [] es ≡ es
unfolding froms
froms_all [] = refl
froms_all (e ∷ es) = rw (empty_first e.name, froms)

chain_afters : {x : List ℕ} {es : List Entry} → Chain x es → afters x es ≡ es
unfolding afters
chain_afters end = refl
chain_afters (link p c) = rw (p, afters)

-- where x is the first entry's name, all are from it on
same_first : (x : List ℕ) (e : Entry) (es : List Entry) → x ≡ e.name → Sorted (e ∷ es) → froms x (e ∷ es) ≡ record { name = x; fixity = e.fixity } ∷ afters x es
unfolding froms
same_first x e es q h = rw (q, before_irrefl e.name, chain_afters h, froms)

-- the entry of x itself, and those after it
pub froms_split : (x : List ℕ) (es : List Entry) → Sorted es → froms x es ≡ here x (find x es) ++ afters x es
unfolding froms afters find
froms_split x [] h = refl
froms_split x (e ∷ es) h =
    by_test (before x e.name)
    (λ b. rw (before_asym x e.name b, chain_none x (e ∷ es) (link b h), b, froms, afters))
    (λ b. by_test (same x e.name)
    (λ s. let q : x ≡ e.name = same_eq x e.name s in
    rw (s, b, find, afters) (same_first x e es q h))
    (λ s. rw (before_total x e.name s b, s, b, froms, find, afters) (froms_split x es (chain_sorted h))))

-- a name that no entry has is no entry's name
named : {A : Type 0} (e : Entry) (es : List Entry) → find e.name (e ∷ es) ≡ none → A
named e es h = let z : ◌≡◌ {A = ℕ} 0 1 = cc (first e es) in absurd (omega arith)

-- nor is it behind the first one
later : (x : List ℕ) (e : Entry) (es : List Entry) → find x (e ∷ es) ≡ none → find x es ≡ none
unfolding find
later x e es h =
    by_test (same x e.name) (λ s. named e es (rw (same_eq x e.name s) at h)) (λ s. sym (behind x e es s) ∙ h)

-- where none comes between x and y, those after x are those from y on
pub afters_next : (x y : List ℕ) → before x y ≡ true → (es : List Entry) → ((z : List ℕ) → before x z ≡ true → before z y ≡ true → find z es ≡ none) → afters x es ≡ froms y es
unfolding froms afters
afters_next x y h [] f = refl
afters_next x y h (e ∷ es) f =
    by_test (before x e.name)
    (λ b. by_test (before e.name y) (λ d. named e es (f e.name b d)) (λ d. rw (b, d, froms, afters)))
    (λ b.
    let d : before e.name y ≡ true =
    by_test (same x e.name) (λ s. rw (← same_eq x e.name s) h) (λ s. before_trans e.name x y (before_total x e.name s b) h)
    in
    rw (b, d, froms, afters) (afters_next x y h es (λ z p q. later z e es (f z p q))))

-- where none comes after x, there are none
pub afters_none : (x : List ℕ) (es : List Entry) → ((z : List ℕ) → before x z ≡ true → find z es ≡ none) → afters x es ≡ []
unfolding afters
afters_none x [] f = refl
afters_none x (e ∷ es) f =
    by_test (before x e.name) (λ b. named e es (f e.name b))
    (λ b. rw (b, afters) (afters_none x es (λ z p. later z e es (f z p))))
