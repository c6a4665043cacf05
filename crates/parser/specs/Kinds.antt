-- Tests of kinds, where a look gives one more than the kind that the code has, and of fixities.
use Rattle.std.specs.Prelude.{ℕ, suc, ◌+◌, ◌≡◌, Bool, true, false, ◌&&◌, ◌||◌, eqb, leb, ltb}
use Rattle.std.proofs.Common.{ap, ◌∙◌, sym, add-one, arith, eq-eqb, ne_eqb}
use Rattle.std.proofs.Math.Dec.{eqb-suc-suc}
use Rattle.grammar.specs.Env as Env
use Rattle.grammar.specs.Util.{weaker}
use Rattle.sml_fixity.specs.Fix.{assoc_of, infix_of}
use Rattle.sml_fixity.specs.declared.Assoc.{Assoc}
use Rattle.sml_fixity.specs.declared.Assoc.TheVariants.{Left, Right}
use Rattle.sml_fixity.specs.declared.Infix.{Infix}

pub kind_same : (k want : ℕ) → eqb k want ≡ eqb (suc k) (want + 1)
kind_same k want = sym (rw (add-one want) (eqb-suc-suc k want))

-- one test or another, of which the first holds
pub kind_first : (k a : ℕ) (t : Bool) → k ≡ a → true ≡ (eqb (suc k) (a + 1) || t)
kind_first k a t e = sym (ap (λ (x : Bool). x || t) (eq-eqb (suc k) (a + 1) (omega arith)))

-- or fails, and the second is of a kind
pub kind_second : (k a c : ℕ) → (k ≡ a → ⊥) → eqb k c ≡ (eqb (suc k) (a + 1) || eqb (suc k) (c + 1))
kind_second k a c n = kind_same k c ∙ sym (ap (λ (x : Bool). x || eqb (suc k) (c + 1)) (ne_eqb (suc k) (a + 1) (λ e. n (omega arith))))

-- the same where a function made the first test
pub test_first : {r t : Bool} (u : Bool) → r ≡ t → r ≡ true → true ≡ (t || u)
test_first u e h = sym (ap (λ (x : Bool). x || u) (sym e ∙ h))

pub test_second : (k c : ℕ) {r t : Bool} → r ≡ t → r ≡ false → eqb k c ≡ (t || eqb (suc k) (c + 1))
test_second k c e h = kind_same k c ∙ sym (ap (λ (x : Bool). x || eqb (suc k) (c + 1)) (sym e ∙ h))

-- one test and another
pub both_on : {r t u : Bool} → t ≡ true → r ≡ u → r ≡ (t && u)
both_on {u = u} e q = q ∙ sym (ap (λ (x : Bool). x && u) e)

pub both_off : {t : Bool} (u : Bool) → t ≡ false → false ≡ (t && u)
both_off u e = sym (ap (λ (x : Bool). x && u) e)

-- an infix name that binds weaker, by the association of the other
pub weaker_left : (op min : Infix) → min.assoc ≡ Left → leb op.prec min.prec ≡ weaker (infix_of op) (infix_of min)
weaker_left op min e = sym (ap (λ (a : Assoc). elim (eqb (assoc_of a) Env.Left) [ true ↦ leb op.prec min.prec | false ↦ ltb op.prec min.prec ]) e)

pub weaker_right : (op min : Infix) → min.assoc ≡ Right → ltb op.prec min.prec ≡ weaker (infix_of op) (infix_of min)
weaker_right op min e = sym (ap (λ (a : Assoc). elim (eqb (assoc_of a) Env.Left) [ true ↦ leb op.prec min.prec | false ↦ ltb op.prec min.prec ]) e)

-- tests of kinds one after another
pub or_left : {t : Bool} (u : Bool) → t ≡ true → (t || u) ≡ true
or_left u e = ap (λ (x : Bool). x || u) e

pub or_right : {t u : Bool} → t ≡ false → u ≡ true → (t || u) ≡ true
or_right {u = u} e q = ap (λ (x : Bool). x || u) e ∙ q

pub or_off : {t u : Bool} → t ≡ false → u ≡ false → (t || u) ≡ false
or_off {u = u} e q = ap (λ (x : Bool). x || u) e ∙ q

pub or_last : {r t u : Bool} → t ≡ false → r ≡ u → r ≡ (t || u)
or_last {u = u} e q = q ∙ sym (ap (λ (x : Bool). x || u) e)
