-- Names: that `same` is equality, and that `before` is a strict and total order.
use Rattle.std.specs.Prelude.{ℕ, ◌<◌, ◌≡◌, refl, ◌⊎◌, List, [], ◌∷◌, Bool, true, false, eqb}
use Rattle.std.proofs.Common.{arith, ◌∙◌, ⊎_elim, eq-eqb, ne_eqb, eqb-true, lt-ltb, ltb-true, ltb-false}
use Rattle.std.proofs.Math.Logic.◌⊎◌.{inl, inr}
use Rattle.std.proofs.lemmas.Bool.{eqb-false}
use Rattle.grammar.specs.Bytes.{same, before}

-- a proof by the two values of a test
pub by_test : {C : Type 0} (t : Bool) → (t ≡ true → C) → (t ≡ false → C) → C
by_test true f g = f refl
by_test false f g = g refl

pub same_refl : (x : List ℕ) → same x x ≡ true
unfolding same
same_refl [] = refl
same_refl (a ∷ x) = rw (eq-eqb a a refl, same) (same_refl x)

pub same_eq : (x y : List ℕ) → same x y ≡ true → x ≡ y
unfolding same
same_eq [] [] h = refl
same_eq [] (b ∷ y) h = cc
same_eq (a ∷ x) [] h = cc
same_eq (a ∷ x) (b ∷ y) h =
    by_test (eqb a b) (λ e. let t : same x y ≡ true = rw (e, same) at h in cc (eqb-true a b e, same_eq x y t))
    (λ e. let t : false ≡ true = rw (e, same) at h in cc)

-- how two names with a first byte each are in order: by that byte, or behind it
below : (a b : ℕ) (x y : List ℕ) → a < b → before (a ∷ x) (b ∷ y) ≡ true
unfolding before
below a b x y h = rw (ne_eqb a b (λ e. omega arith), before) (lt-ltb a b h)

behind : (a : ℕ) (x y : List ℕ) → before (a ∷ x) (a ∷ y) ≡ before x y
unfolding before
behind a x y = rw (eq-eqb a a refl, before)

order : (a b : ℕ) (x y : List ℕ) → before (a ∷ x) (b ∷ y) ≡ true → (a < b) ⊎ ((a ≡ b) × (before x y ≡ true))
unfolding before
order a b x y h =
    by_test (eqb a b) (λ e. inr (eqb-true a b e, rw (e, before) at h)) (λ e. inl (ltb-true a b (rw (e, before) at h)))

pub before_irrefl : (x : List ℕ) → before x x ≡ false
unfolding before
before_irrefl [] = refl
before_irrefl (a ∷ x) = behind a x x ∙ before_irrefl x

pub before_trans : (x y z : List ℕ) → before x y ≡ true → before y z ≡ true → before x z ≡ true
unfolding before
before_trans [] [] z p q = q
before_trans [] (b ∷ y) [] p q = cc
before_trans [] (b ∷ y) (c ∷ z) p q = refl
before_trans (a ∷ x) [] z p q = cc
before_trans (a ∷ x) (b ∷ y) [] p q = cc
before_trans (a ∷ x) (b ∷ y) (c ∷ z) p q =
    ⊎_elim
    (λ l. ⊎_elim (λ m. below a c x z (omega arith)) (λ m. below a c x z (omega (arith, m.0))) (order b c y z q))
    (λ l. ⊎_elim (λ m. below a c x z (omega (arith, l.0)))
    (λ m. let e : a ≡ c = l.0 ∙ m.0 in rw e (behind c x z ∙ before_trans x y z l.1 m.1))
    (order b c y z q)) (order a b x y p)

pub before_asym : (x y : List ℕ) → before x y ≡ true → before y x ≡ false
before_asym x y p = by_test (before y x) (λ q. cc (before_trans x y x p q, before_irrefl x)) (λ q. q)

pub before_total : (x y : List ℕ) → same x y ≡ false → before x y ≡ false → before y x ≡ true
unfolding same before
before_total [] [] p q = cc
before_total [] (b ∷ y) p q = cc
before_total (a ∷ x) [] p q = refl
before_total (a ∷ x) (b ∷ y) p q =
    by_test (eqb a b)
    (λ e. let d : a ≡ b = eqb-true a b e in rw d (behind b y x ∙ before_total x y (rw (e, same) at p) (rw (e, before) at q)))
    (λ e. let d : a ≡ b → ⊥ = eqb-false a b e in below b a y x (omega (arith, ltb-false a b (rw (e, before) at q))))
