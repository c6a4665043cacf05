-- Choices: what holds of each outcome of a test holds of the choice.
use Rattle.std.specs.Prelude.{◌≡◌, refl, Bool, true, false}
use Rattle.std.proofs.Math.Option.{Option, none, some}

-- two choices by one test
pub if_same : {X : Type 0} (b : Bool) {x x' y y' : X} → (b ≡ true → x ≡ x') → (b ≡ false → y ≡ y') → ◌≡◌ {A = X} (elim b [ true ↦ x | false ↦ y ]) (elim b [ true ↦ x' | false ↦ y' ])
if_same true f g = f refl
if_same false f g = g refl

-- what holds of both choices holds of the choice
pub if_both : {X : Type 0} (P : X → Type 0) (b : Bool) {x y : X} → (b ≡ true → P x) → (b ≡ false → P y) → P (elim b [ true ↦ x | false ↦ y ])
if_both P true f g = f refl
if_both P false f g = g refl

-- two choices by one optional thing
pub option_same : {A X : Type 0} (o : Option A) {x x' : X} {f f' : A → X} → (o ≡ none → x ≡ x') → ((a : A) → o ≡ some a → f a ≡ f' a)
    → ◌≡◌ {A = X} (elim o [ none ↦ x | some a ↦ f a ]) (elim o [ none ↦ x' | some a ↦ f' a ])
option_same none h k = h refl
option_same (some a) h k = k a refl

-- what holds without the thing and with it holds of the choice by it
pub option_both : {A X : Type 0} (P : X → Type 0) (o : Option A) {x : X} {f : A → X} → (o ≡ none → P x) → ((a : A) → o ≡ some a → P (f a))
    → P (elim o [ none ↦ x | some a ↦ f a ])
option_both P none h k = h refl
option_both P (some a) h k = k a refl
