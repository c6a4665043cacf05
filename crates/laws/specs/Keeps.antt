-- What every program keeps: a relation of the readings before and after that each operation satisfies.
use Prim.Native.Nat.{ℕ, zero, suc, ◌+◌, ◌-◌}
use Rattle.std.specs.Prelude.{Bool, false, eqb, length}
use Rattle.grammar.specs.World.{World, Out, fixity_ahead, length_of, left_of, mark, end, give_back, ok_since}
use Rattle.grammar.specs.World.World.{refused, on}
use Rattle.grammar.specs.Prog.{Prog, Act, does, iter, eval, upto, rule}
use Rattle.grammar.specs.Prog.Act.{refuse}
use Rattle.grammar.specs.Prog.Reason.{deep}
use Rattle.grammar.specs.Prog.Prog.{ret, bind, branch, look, lookup, act, from, close, marked, loop, scoped, attempt, call}
use Rattle.laws.specs.Choice.{if_both, option_both}

-- A relation that the operations satisfy.
pub record Kept (S : World → World → Type 0) : Type 0 where
  pub same : (w : World) → S w w
  pub next : (a b c : World) → S a b → S b c → S a c
  pub marks : (w : World) → S w (mark w)
  pub acts : (a : Act) (w : World) → S w (does a w)
  pub ends : (k b : ℕ) (w : World) → S w (end k b w)
  pub backs : (a c : World) → S a c → S a (give_back a c)

-- a rule, a step, a program satisfies it
abbrev pub Keeps : (World → World → Type 0) → (World → Out) → Type 0
Keeps S f = (w : World) → S w (f w).world

module _ (S : World → World → Type 0) (c : Kept S) where
  -- a loop satisfies it where its turn does
  pub iter_keeps : (n : ℕ) (f : World → Out) → Keeps S f → Keeps S (iter n f)
  unfolding iter
  iter_keeps zero f h w = c.same w
  iter_keeps (suc n) f h w =
      if_both (λ (o : Out). S w o.world) (eqb (f w).val 0) (λ _. h w)
      (λ _. c.next w (f w).world (iter n f (f w).world).world (h w) (iter_keeps n f h (f w).world))

  -- what was tried stays, or the reading is the same as before
  since_keeps : (w w' : World) → S w w' → S w (ok_since w w').world
  unfolding ok_since
  since_keeps (refused k l) w' h = h
  since_keeps (on s) (refused k l) h = h
  since_keeps (on s) (on s') h =
      if_both (λ (o : Out). S (on s) o.world) (eqb (length s'.finds) (length s.finds)) (λ _. h) (λ _. c.same (on s))

  -- a program satisfies it where the rules do
  pub eval_keeps : {R : Type 0} {g : Bool} (ρ : ℕ → ℕ → R → World → Out) → ((m c : ℕ) (r : R) → Keeps S (ρ m c r))
      → (n b : ℕ) (p : Prog R g) → Keeps S (eval ρ n b p)
  unfolding eval
  eval_keeps ρ h n b (ret v) w = c.same w
  eval_keeps ρ h n b (bind p f) w =
      let o = eval ρ n b p w in
      c.next w o.world (eval ρ n b (f o.val) o.world).world (eval_keeps ρ h n b p w) (eval_keeps ρ h n b (f o.val) o.world)
  eval_keeps ρ h n b (branch t p q) w = if_both (λ (o : Out). S w o.world) t (λ _. eval_keeps ρ h n b p w) (λ _. eval_keeps ρ h n b q w)
  eval_keeps ρ h n b (look q) w = c.same w
  eval_keeps ρ h n b (lookup k p f) w =
      option_both (λ (o : Out). S w o.world) (fixity_ahead k w) {f = λ i. eval ρ n b (f i) w} (λ _. eval_keeps ρ h n b p w) (λ i _. eval_keeps ρ h n b (f i) w)
  eval_keeps ρ h n b (act a) w = c.acts a w
  eval_keeps ρ h n b (from p) w = eval_keeps ρ h n (length_of w) p w
  eval_keeps ρ h n b (close k) w = c.ends k b w
  eval_keeps ρ h n b (marked p) w =
      if_both (λ (o : Out). S w o.world) (eqb n 0) (λ _. c.acts (refuse deep) w)
      (λ _. c.next w (mark w) (eval ρ (n - 1) b p (mark w)).world (c.marks w) (eval_keeps ρ h (n - 1) b p (mark w)))
  eval_keeps ρ h n b (loop p) w = iter_keeps (left_of w + 1) (eval ρ n b p) (eval_keeps ρ h n b p) w
  eval_keeps ρ h n b (scoped p) w = c.backs w (eval ρ n b p w).world (eval_keeps ρ h n b p w)
  eval_keeps ρ h n b (attempt p) w = since_keeps w (eval ρ n b p w).world (eval_keeps ρ h n b p w)
  eval_keeps ρ h n b (call r) w = h n b r w

  -- the rules satisfy it, for calls at most k deep
  pub upto_keeps : {R : Type 0} (body : R → Prog R false) (k n b : ℕ) (r : R) → Keeps S (upto body k n b r)
  unfolding upto
  upto_keeps body zero n b r w = c.same w
  upto_keeps body (suc k) n b r w = eval_keeps (upto body k) (upto_keeps body k) n b (body r) w

  -- every rule satisfies it
  pub rule_keeps : {R : Type 0} (body : R → Prog R false) (n b : ℕ) (r : R) → Keeps S (rule body n b r)
  unfolding rule
  rule_keeps body n b r w = upto_keeps body (suc n) n b r w
