-- What a loop does, where each of its steps makes progress.
use Prim.Native.Nat.{ℕ, zero, suc, ◌+◌, ◌≤◌}
use Rattle.std.proofs.Math.Path.{◌≡◌, refl, ap, sym}
use Rattle.std.proofs.Common.{◌∙◌, add-one, arith}
use Rattle.std.specs.Prelude.{Bool, true, false, eqb, length}
use borrow.Author.Tests.{eqb-true, eqb-false}
use Rattle.grammar.specs.World.{World, Now, Out, out, left_of}
use Rattle.grammar.specs.World.World.{refused, on}
use Rattle.grammar.specs.Prog.{Prog, iter, eval}
use Rattle.grammar.specs.Prog.Prog.{loop}
use Rattle.laws.specs.Choice.{if_same, if_both}
use Rattle.laws.specs.Grows.{after, Growing, eval_refused}

-- A step that gives another value than 0 took a token, or was refused.
abbrev pub Progress : (World → Out) → Type 0
Progress f = (s : Now) → ((f (on s)).val ≡ 0 → ⊥) → after (f (on s)).world ≤ length s.rest

-- A step that leaves a refused reading as it is.
abbrev pub Stays : (World → Out) → Type 0
Stays f = (k l : ℕ) → (f (refused k l)).world ≡ refused k l

-- The last turn of a loop that went on to s': it gave 0.
pub record Last (f : World → Out) (s' : Now) : Type 0 where
  pub now : Now
  pub gave : (f (on now)).val ≡ 0
  pub led : (f (on now)).world ≡ on s'

-- the tokens left, and one more, are enough turns
after_left : (w : World) → after w ≤ left_of w + 1
unfolding left_of
after_left (refused k l) = omega arith
after_left (on s) = omega arith

module _ (f : World → Out) (stays : Stays f) where
  -- no turn changes a refused reading
  pub iter_refused : (n k l : ℕ) → iter n f (refused k l) ≡ out 0 (refused k l)
  unfolding iter
  iter_refused zero k l = refl
  iter_refused (suc n) k l =
      if_both (λ (o : Out). o ≡ out 0 (refused k l)) (eqb (f (refused k l)).val 0) (λ _. ap (out 0) (stays k l))
      (λ _. ap (iter n f) (stays k l) ∙ iter_refused n k l)

  module _ (progress : Progress f) where
    -- more turns than there are tokens are enough
    pub iter_enough : (n n' : ℕ) (w : World) → after w ≤ n → after w ≤ n' → iter n f w ≡ iter n' f w
    unfolding iter
    iter_enough zero n' (refused k l) h h' = sym (iter_refused n' k l)
    iter_enough zero n' (on s) h h' = absurd (omega arith)
    iter_enough (suc n) n' (refused k l) h h' = iter_refused (suc n) k l ∙ sym (iter_refused n' k l)
    iter_enough (suc n) zero (on s) h h' = absurd (omega arith)
    iter_enough (suc n) (suc n') (on s) h h' =
        if_same (eqb (f (on s)).val 0) (λ _. refl) (λ t.
        let l = progress s (eqb-false (f (on s)).val 0 t) in
        iter_enough n n' (f (on s)).world (omega arith) (omega arith))

    -- the turns that are left after a step are as good as a new count of them
    iter_next : (w : World) → ((f w).val ≡ 0 → ⊥) → iter (left_of w) f (f w).world ≡ iter (left_of (f w).world + 1) f (f w).world
    unfolding left_of
    iter_next (refused k l) h = rw (stays k l) (iter_refused 0 k l ∙ sym (iter_refused 1 k l))
    iter_next (on s) h = iter_enough (length s.rest) _ (f (on s)).world (progress s h) (after_left (f (on s)).world)

    -- turns enough are a turn, and turns enough again unless it gave 0
    pub iter_law : (w : World)
        → iter (left_of w + 1) f w ≡ elim (eqb (f w).val 0) [ true ↦ out 0 (f w).world | false ↦ iter (left_of (f w).world + 1) f (f w).world ]
    unfolding iter
    iter_law w = rw (add-one (left_of w)) (if_same (eqb (f w).val 0) (λ _. refl) (λ t. iter_next w (eqb-false (f w).val 0 t)))

    -- where enough turns go on, one was the last
    iter_last : (n : ℕ) (w : World) → after w ≤ n → (s' : Now) → (iter n f w).world ≡ on s' → Last f s'
    unfolding iter
    iter_last zero (refused k l) h s' e = absurd (let z : ◌≡◌ {A = ℕ} 0 1 = cc in omega arith)
    iter_last zero (on s) h s' e = absurd (omega arith)
    iter_last (suc n) (refused k l) h s' e = absurd (let z : ◌≡◌ {A = ℕ} 0 1 = cc (iter_refused (suc n) k l) in omega arith)
    iter_last (suc n) (on s) h s' e = if_both (λ (o : Out). o.world ≡ on s' → Last f s') (eqb (f (on s)).val 0)
        (λ t q. record { now = s; gave = eqb-true (f (on s)).val 0 t; led = q })
        (λ t q. let l = progress s (eqb-false (f (on s)).val 0 t) in iter_last n (f (on s)).world (omega arith) s' q) e

-- a loop is a step, and the loop again unless the step gave 0
pub loop_law : {R : Type 0} {g : Bool} (ρ : ℕ → ℕ → R → World → Out) → Growing ρ → (n b : ℕ) (p : Prog R g) → Progress (eval ρ n b p) → (w : World)
    → eval ρ n b (loop p) w ≡ (let o = eval ρ n b p w in elim (eqb o.val 0) [ true ↦ out 0 o.world | false ↦ eval ρ n b (loop p) o.world ])
unfolding eval
loop_law ρ grows n b p progress w = iter_law (eval ρ n b p) (eval_refused ρ grows n b p) progress w

-- where a loop goes on, its last turn gave 0
pub loop_last : {R : Type 0} {g : Bool} (ρ : ℕ → ℕ → R → World → Out) → Growing ρ → (n b : ℕ) (p : Prog R g) → Progress (eval ρ n b p)
    → (w : World) (s' : Now) → (eval ρ n b (loop p) w).world ≡ on s' → Last (eval ρ n b p) s'
unfolding eval
loop_last ρ grows n b p progress w s' e = iter_last (eval ρ n b p) (eval_refused ρ grows n b p) progress (left_of w + 1) w (after_left w) s' e
