-- That a rule does what its body does.
use Prim.Native.Nat.{ℕ, zero, suc, ◌+◌, ◌-◌, ◌<◌, ◌≤◌}
use Rattle.std.specs.Prelude.{◌≡◌, refl, Bool, true, false, eqb}
use Rattle.std.proofs.Common.{ap, ◌∙◌, arith}
use Rattle.std.proofs.Math.Path.{fun_ext}
use Rattle.std.proofs.lemmas.Bool.{eqb-false}
use Rattle.grammar.specs.World.{World, Out, out, fixity_ahead, length_of, left_of, mark, give_back, ok_since}
use Rattle.grammar.specs.Prog.{Prog, iter, eval, upto, rule}
use Rattle.grammar.specs.Prog.Prog.{ret, bind, branch, look, lookup, act, from, close, marked, loop, scoped, attempt, call}
use Rattle.laws.specs.Choice.{if_same, option_same}

-- the levels at which a program of the kind g, run at the level n, may call a rule
abbrev pub Below : Bool → ℕ → ℕ → Type 0
Below true m n = m ≤ n
Below false m n = m < n

-- a level that is lower is below, for both kinds
below : (g : Bool) {m n : ℕ} → m < n → Below g m n
below true h = omega arith
below false h = h

-- eval looks at what the rules do only below its level
pub agree : {R : Type 0} {g : Bool} (ρ ρ' : ℕ → ℕ → R → World → Out) (n b : ℕ) (p : Prog R g)
    → ((m : ℕ) → Below g m n → (c : ℕ) (r : R) (w : World) → ρ m c r w ≡ ρ' m c r w)
    → (w : World) → eval ρ n b p w ≡ eval ρ' n b p w
unfolding eval
agree ρ ρ' n b (ret v) h w = refl
agree ρ ρ' n b (bind p f) h w =
    ap (λ (o : Out). eval ρ n b (f o.val) o.world) (agree ρ ρ' n b p h w)
    ∙ agree ρ ρ' n b (f (eval ρ' n b p w).val) h (eval ρ' n b p w).world
agree ρ ρ' n b (branch t p q) h w = if_same t (λ _. agree ρ ρ' n b p h w) (λ _. agree ρ ρ' n b q h w)
agree ρ ρ' n b (look q) h w = refl
agree ρ ρ' n b (lookup k p f) h w =
    option_same (fixity_ahead k w) {f = λ i. eval ρ n b (f i) w} {f' = λ i. eval ρ' n b (f i) w} (λ _. agree ρ ρ' n b p h w) (λ i _. agree ρ ρ' n b (f i) h w)
agree ρ ρ' n b (act a) h w = refl
agree ρ ρ' n b (from p) h w = agree ρ ρ' n (length_of w) p h w
agree ρ ρ' n b (close k) h w = refl
agree {g} ρ ρ' n b (marked p) h w =
    if_same (eqb n 0) (λ _. refl)
    (λ t. agree ρ ρ' (n - 1) b p (λ m l. h m (below g (omega (arith, eqb-false n 0 t)))) (mark w))
agree ρ ρ' n b (loop p) h w = ap (λ (f : World → Out). iter (left_of w + 1) f w) (fun_ext (agree ρ ρ' n b p h))
agree ρ ρ' n b (scoped p) h w = ap (λ (o : Out). out o.val (give_back w o.world)) (agree ρ ρ' n b p h w)
agree ρ ρ' n b (attempt p) h w = ap (λ (o : Out). ok_since w o.world) (agree ρ ρ' n b p h w)
agree ρ ρ' n b (call r) h w = h n (omega arith) b r w

module _ {R : Type 0} (body : R → Prog R false) where
  -- enough depth is enough
  pub stable : (k k' m : ℕ) → m < k → m < k' → (b : ℕ) (r : R) (w : World) → upto body k m b r w ≡ upto body k' m b r w
  unfolding upto
  stable zero k' m h h' b r w = absurd (omega arith)
  stable (suc k) zero m h h' b r w = absurd (omega arith)
  stable (suc k) (suc k') m h h' b r w =
      agree (upto body k) (upto body k') m b (body r) (λ m' l. stable k k' m' (omega arith) (omega arith)) w

  -- a rule does what its body does
  pub unfold_rule : (n b : ℕ) (r : R) (w : World) → rule body n b r w ≡ eval (rule body) n b (body r) w
  unfolding rule
  unfold_rule n b r w = agree (upto body n) (rule body) n b (body r) (λ m l. stable n (suc m) m l (omega arith)) w
