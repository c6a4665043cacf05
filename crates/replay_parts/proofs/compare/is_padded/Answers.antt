-- by hand: the bytes in front are compared as the definition does it, byte by byte.
use Rattle.std.proofs.Common.{◌≡◌, ◌<◌, ℕ, List, [], ◌∷◌, Bool, true, false, eqb, nat_eq, take, length, drop, arith, length-take, refl, sym, ap, ◌∙◌, ◌&&◌}
use Rattle.std.specs.Cmp.Lexicographic.{pointwise, unequal}
use Rattle.grammar.specs.Bytes.{same}
use Rattle.replay_parts.specs.Agree.{is_zero}
use Rattle.replay_parts.specs.Case.{padded}
use Rattle.replay_parts.proofs.compare.is_padded.Goals as goal

same_each : (xs ys : List ℕ) → pointwise nat_eq xs ys ≡ same xs ys
unfolding same
same_each [] [] = refl
same_each [] (y ∷ ys) = refl
same_each (x ∷ xs) [] = refl
same_each (x ∷ xs) (y ∷ ys) = elim (eqb x y) as (λ t. (t && pointwise nat_eq xs ys) ≡ elim t [ true ↦ same xs ys | false ↦ false ]) [ true ↦ same_each xs ys | false ↦ refl ]

-- a buffer whose front is as long as what is said
module _ (b s : List ℕ) where
  by_front : (t : Bool) → same (take (length s) b) s ≡ t → (t && is_zero (drop (length s) b)) ≡ padded b s
  by_front t e = ap (λ u. u && is_zero (drop (length s) b)) (sym e)

  compared : {front : List ℕ} {t : Bool} → front ≡ take (length s) b → t ≡ pointwise nat_eq front s → same (take (length s) b) s ≡ t
  compared e h = sym (same_each (take (length s) b) s) ∙ ap (λ f. pointwise nat_eq f s) (sym e) ∙ sym h

  too_short : length b < length s → same (take (length s) b) s ≡ false
  too_short h = sym (same_each (take (length s) b) s) ∙ unequal nat_eq (take (length s) b) s (λ e. absurd (omega (arith, length-take (length s) b)))

pub returns-then-eq : goal.returns-then-eq
returns-then-eq c =
    let b = c.args.buffer.now in
    let s = c.args.said.now in
    let parts = c.in-Some.ensures.cases in
    c.is_zero.ensures ∙ ap is_zero parts.2 ∙ by_front b s true (compared b s parts.1 c.eq.ensures ∙ c.if-eq.true)

pub returns-else-eq : goal.returns-else-eq
returns-else-eq c =
    let b = c.args.buffer.now in
    let s = c.args.said.now in
    c.if-eq.false ∙ by_front b s false (compared b s c.in-Some.ensures.cases.1 c.eq.ensures ∙ c.if-eq.false)

pub returns-in-None : goal.returns-in-None
returns-in-None c =
    let b = c.args.buffer.now in
    let s = c.args.said.now in
    by_front b s false (too_short b s c.in-None.ensures.cases)
