-- The first, in the order of names, of those of a list that come after a name.
use Prim.Native.Nat.{ℕ}
use mathlib.Core.Path.{◌≡◌, refl, sym, ◌∙◌}
use mathlib.Core.List.{List, [], ◌∷◌}
use mathlib.Core.Bool.{Bool, true, false, cond}
use lib.ListN.{get_or}
use Rattle.std.specs.Prelude.{Option, Some, None}
use Rattle.std.specs.Borrow.{Bor}
use Rattle.std.specs.Cmp.{IsStrictWeakOrder}
use Rattle.std.specs.List.{All, Contains, filter, reduce, best_of}
use Rattle.std.specs.Option.{option_map}
use Rattle.std.proofs.lemmas.List.Elements.{All-nil, All-cons, All-head, All-tail, All-weaker, All-contains, All-contains_itself, All-filter, All-from_get_or, Contains-get_or, filter_passes}
use Rattle.std.proofs.lemmas.List.MinMax.{IsFirstBest-from_best_of}
use Rattle.grammar.specs.Bytes.{same, before}
use Rattle.sml_fixity.specs.Names.{by_test, same_eq, before_asym, before_trans, before_total}
use Rattle.env_bytes.specs.Names.{NextName}

before_chain : (x y z : List ℕ) → before x y ≡ false → before y z ≡ false → before x z ≡ false
before_chain x y z p q =
    by_test (before x z)
    (λ t. by_test (same x y) (λ s. rw (same_eq x y s) q) (λ s. let u = before_trans y x z (before_total x y s p) t in cc))
    (λ t. t)

before_order : IsStrictWeakOrder before
before_order = record { one_way = before_asym; chain = before_chain }

all_passing : {X : Type 0} (p : X → Bool) (P : X → Type 0) (xs : List X) → All P (filter p xs) → All (λ x. p x ≡ true → P x) xs
all_passing p P [] h = All-nil _
all_passing p P (x ∷ xs) h =
    by_test (p x)
    (λ t. let g : All P (x ∷ filter p xs) = rw t at h in All-cons (λ y. p y ≡ true → P y) x xs (λ _. All-head P x (filter p xs) g) (all_passing p P xs (All-tail P x (filter p xs) g)))
    (λ t. let g : All P (filter p xs) = rw t at h in All-cons (λ y. p y ≡ true → P y) x xs (λ q. cc) (all_passing p P xs g))

none_passing : {X : Type 0} (p : X → Bool) (xs : List X) → filter p xs ≡ [] → All (λ x. p x ≡ false) xs
none_passing p xs e =
    All-weaker (λ x. p x ≡ true → ⊥) (λ x. p x ≡ false) (λ x g. by_test (p x) (λ t. absurd (g t)) (λ t. t)) xs (all_passing p (λ x. ⊥) xs (rw e (All-nil (λ x. ⊥))))

module _ (last : List ℕ) (names : List (List ℕ)) where
  first : (a : List ℕ) (ys : List (List ℕ)) → filter (before last) names ≡ a ∷ ys → (b : Bor (List ℕ)) → b.now ≡ best_of before a ys → NextName names last (Some b)
  first a ys f b m =
      let h = IsFirstBest-from_best_of before_order a ys in
      let here : get_or (a ∷ ys) h.0 a ≡ b.now = h.2 ∙ sym m in
      let c : Contains (a ∷ ys) b.now = rw here at (Contains-get_or (a ∷ ys) h.0 a h.1.0) in
      let least : All (λ x. before x b.now ≡ false) (a ∷ ys) = All-from_get_or (λ x. before x b.now ≡ false) (a ∷ ys) a (λ i l. rw here at (h.1.1 i a l)) in (
        All-contains (Contains names) (a ∷ ys) b.now (rw f at (All-filter (before last) (Contains names) names (All-contains_itself names))) c,
        All-contains (λ x. before last x ≡ true) (a ∷ ys) b.now (rw f at (filter_passes (before last) names)) c,
        all_passing (before last) (λ x. before x b.now ≡ false) names (rw f least),
      )

  pub picked : (r : Option (Bor (List ℕ))) → option_map (λ b. b.now) r ≡ reduce (λ b x. cond (before x b) x b) (filter (before last) names) → NextName names last r
  picked r e = go (filter (before last) names) refl r e
    where
      go : (ys : List (List ℕ)) → filter (before last) names ≡ ys → (r : Option (Bor (List ℕ))) → option_map (λ b. b.now) r ≡ reduce (λ b x. cond (before x b) x b) ys → NextName names last r
      go [] f None e = none_passing (before last) names f
      go [] f (Some b) e = cc
      go (a ∷ ys) f None e = cc
      go (a ∷ ys) f (Some b) e = first a ys f b cc
