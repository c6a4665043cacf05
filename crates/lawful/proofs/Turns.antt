-- The bound on the turns is no part of the meaning: the loop obeys the source's equations.
use Rattle.std.specs.Prelude.{ℕ, suc, ◌<◌, ◌≡◌, List, ◌∷◌, length}
use Rattle.std.proofs.Math.Path.{refl, ap}
use Rattle.std.proofs.Common.{arith}
use Rattle.lawful.specs.Terms.{Step, Tree, Min, Out, pick, or, reports, breaks, loop}
use Rattle.lawful.specs.Terms.Tree.{leaf, node}
use Rattle.lawful.specs.Terms.Min.{infix_of_lem}
use Rattle.lawful.specs.Climb.{shrinks}
use Rattle.lawful.proofs.Climb.{runs}
use Rattle.lawful.specs.Turns.{determined, turns}

module _ {A : Type 0} where
  -- the turns allowed do not matter, where they are enough
  pub enough : (n k : ℕ) (m : Min) (ex : Tree A) (xs : List (Step A)) → length xs < n → length xs < k → loop n m ex xs ≡ loop k m ex xs
  enough n k m ex xs h h' = let d = determined (runs n m ex xs h) (runs k m ex xs h') refl refl refl in
      λ i. record { tree = d.tree i; tie = d.tie i; left_over = d.over i }

  pub turns_step : (m : Min) (ex : Tree A) (s : Step A) (xs : List (Step A))
      → turns m ex (s ∷ xs)
      ≡ (let r = turns (infix_of_lem s.op) (leaf s.operand) xs in
      let e = turns m (node ex s.op r.tree) r.left_over in
      pick (breaks s.op m)
      (record { tree = ex; tie = reports s.op m; left_over = s ∷ xs })
      (record { tree = e.tree; tie = or (reports s.op m) (or r.tie e.tie); left_over = e.left_over }))
  unfolding loop
  turns_step m ex s xs =
      let r = turns (infix_of_lem s.op) (leaf s.operand) xs in
      let f = shrinks (runs (suc (length xs)) (infix_of_lem s.op) (leaf s.operand) xs (omega arith)) in
      let d = enough (suc (length xs)) (suc (length r.left_over)) m (node ex s.op r.tree) r.left_over (omega arith) (omega arith) in
      ap (λ (e : Out A). pick (breaks s.op m)
      (record { tree = ex; tie = reports s.op m; left_over = s ∷ xs })
      (record { tree = e.tree; tie = or (reports s.op m) (or r.tie e.tie); left_over = e.left_over })) d
