-- That the climb does what the relation says, and that its tree is lawful where it tells no tie.
use Prim.Native.Nat.{ℕ, zero, suc, ◌<◌}
use Rattle.std.specs.Prelude.{◌≡◌, refl, Bool, true, false, eqb, leb, ltb, length}
use Rattle.std.proofs.Common.{◌∙◌, sym, arith, eqb-true, leb-true, leb-false, ltb-true, ltb-false}
use mathlib.Core.List.{List, [], ◌∷◌}
use Rattle.std.proofs.lemmas.Bool.{eqb-false}
use Rattle.lawful.specs.Terms.{Assoc, Op, Step, Tree, Min, Out, Below, Child, Lawful, pick, or, unlike, by_assoc, reports, breaks, loop}
use Rattle.lawful.specs.Terms.Assoc.{left, right}
use Rattle.lawful.specs.Terms.Tree.{leaf, node}
use Rattle.lawful.specs.Terms.Below.{higher, same}
use Rattle.lawful.specs.Terms.Min.{min, infix_of_lem}
use Rattle.lawful.specs.Lawful.{two_sides}
use Rattle.lawful.specs.Climb.{Takes, Stops, Loop, shrinks, stopped, true_false}
use Rattle.lawful.specs.Climb.Takes.{free, inside, tied}
use Rattle.lawful.specs.Climb.Loop.{stop, turn}

-- What the tests of the source come to: what holds where the operator is read, and where it is not, holds of their answers.
by : (Q : Bool → Type 0) (b : Bool) → (b ≡ true → Q true) → (b ≡ false → Q false) → Q b
by Q true f g = f refl
by Q false f g = g refl

module _ (P : Bool → Bool → Type 0) (m o : Op) (f : (b : Bool) → Takes (infix_of_lem m) o b → P false b) (g : Below left o m → P true false) where
  apart : (a : Assoc) → (o.prec ≡ m.prec → ⊥) → P (by_assoc a (leb o.prec m.prec) (ltb o.prec m.prec)) false
  apart left n = by (λ b. P b false) (leb o.prec m.prec)
      (λ t. g (higher (omega (arith, leb-true o.prec m.prec t))))
      (λ t. f false (inside (higher (leb-false o.prec m.prec t))))
  apart right n = by (λ b. P b false) (ltb o.prec m.prec)
      (λ t. g (higher (ltb-true o.prec m.prec t)))
      (λ t. f false (inside (higher (omega (arith, ltb-false o.prec m.prec t)))))

  level : (a b : Assoc) → m.assoc ≡ a → o.assoc ≡ b → o.prec ≡ m.prec
      → P (pick (unlike b a) false (by_assoc a (leb o.prec m.prec) (ltb o.prec m.prec))) (unlike b a)
  level left left p q e = by (λ b. P b false) (leb o.prec m.prec)
      (λ t. g (same e q p))
      (λ t. absurd (omega (arith, leb-false o.prec m.prec t)))
  level left right p q e = f true (tied (record { level = sym e; unlike = λ d. two_sides p (d ∙ q) }))
  level right left p q e = f true (tied (record { level = sym e; unlike = λ d. two_sides (d ∙ q) p }))
  level right right p q e = by (λ b. P b false) (ltb o.prec m.prec)
      (λ t. absurd (omega (arith, ltb-true o.prec m.prec t)))
      (λ t. f false (inside (same (sym e) p q)))

  judge_infix : P (breaks o (infix_of_lem m)) (reports o (infix_of_lem m))
  judge_infix = by
      (λ b. let c = pick b (unlike o.assoc m.assoc) false in P (pick c false (by_assoc m.assoc (leb o.prec m.prec) (ltb o.prec m.prec))) c)
      (eqb o.prec m.prec)
      (λ t. level m.assoc o.assoc refl refl (eqb-true o.prec m.prec t))
      (λ t. apart m.assoc (eqb-false o.prec m.prec t))

judge : {A : Type 0} (P : Bool → Bool → Type 0) (m : Min) (s : Step A) (xs : List (Step A))
    → ((b : Bool) → Takes m s.op b → P false b) → (Stops m (s ∷ xs) → P true false) → P (breaks s.op m) (reports s.op m)
judge P min s xs f g = f false free
judge P (infix_of_lem m) s xs f g = judge_infix P m s.op f g

module _ {A : Type 0} where
  -- the climb does what the relation says
  pub runs : (n : ℕ) (m : Min) (ex : Tree A) (xs : List (Step A)) → length xs < n
      → (let o = loop n m ex xs in Loop m ex xs o.tree o.tie o.left_over)
  unfolding loop
  runs zero m ex xs l = absurd (omega arith)
  runs (suc n) m ex [] l = stop tt
  runs (suc n) m ex (s ∷ xs) l =
      let r = loop n (infix_of_lem s.op) (leaf s.operand) xs in
      let e = loop n m (node ex s.op r.tree) r.left_over in
      let f = runs n (infix_of_lem s.op) (leaf s.operand) xs (omega arith) in
      let g = runs n m (node ex s.op r.tree) r.left_over (omega (arith, shrinks f)) in
      judge
      (λ k b. let o : Out A = pick k (record { tree = ex; tie = b; left_over = s ∷ xs }) (record { tree = e.tree; tie = or b (or r.tie e.tie); left_over = e.left_over })
      in Loop m ex (s ∷ xs) o.tree o.tie o.left_over)
      m s xs (λ b h. turn h f g) (λ h. stop h)

or_left : (b c : Bool) → or b c ≡ false → b ≡ false
or_left true c e = e
or_left false c e = refl

or_right : (b c : Bool) → or b c ≡ false → c ≡ false
or_right true c e = absurd (true_false e)
or_right false c e = e

-- the tree may stand to the right of m, and to the left of the next operator
abbrev Right : {A : Type 0} → Min → Tree A → Type 0
Right min t = Unit {0}
Right (infix_of_lem m) t = Child right m t

abbrev Left : {A : Type 0} → Tree A → List (Step A) → Type 0
Left t [] = Unit {0}
Left t (s ∷ xs) = Child left s.op t

module _ {A : Type 0} where
  takes_right : {m : Min} {o : Op} {b : Bool} (l r : Tree A) → Takes m o b → b ≡ false → Right m (node l o r)
  takes_right l r free e = tt
  takes_right l r (inside h) e = h
  takes_right l r (tied h) e = absurd (true_false e)

  stops_left : (o : Op) (l r : Tree A) (xs : List (Step A)) → Stops (infix_of_lem o) xs → Left (node l o r) xs
  stops_left o l r [] h = tt
  stops_left o l r (s ∷ xs) h = h

  pub leaf_left : (a : A) (xs : List (Step A)) → Left (leaf a) xs
  leaf_left a [] = tt
  leaf_left a (s ∷ xs) = tt

  pub lawful_loop : {m : Min} {ex t : Tree A} {xs ys : List (Step A)} {b : Bool} → Loop m ex xs t b ys → b ≡ false
      → Lawful ex → Right m ex → Left ex xs → Lawful t × Right m t
  lawful_loop (stop h) e l r k = (l, r)
  lawful_loop (turn {ex} {r = u} {s} {xs} {ys} {b} {c} {d} h f g) e l r k =
      let i = lawful_loop f (or_left c d (or_right b (or c d) e)) tt tt (leaf_left s.operand xs) in
      lawful_loop g (or_right c d (or_right b (or c d) e)) (k, i.1, l, i.0) (takes_right ex u h (or_left b (or c d) e)) (stops_left s.op ex u ys (stopped f))
