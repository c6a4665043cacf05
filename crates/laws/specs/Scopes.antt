-- That only fixity changes change the environment, and that a scope gives back the one it had.
use Prim.Native.Nat.{ℕ, zero, suc, ◌+◌, ◌-◌}
use Rattle.std.specs.Prelude.{◌≡◌, List, [], ◌∷◌, Bool, true, false, eqb, ltb, length}
use Rattle.std.proofs.Math.Path.{refl}
use Rattle.std.proofs.Common.{◌∙◌, arith}
use Rattle.grammar.specs.Tokens.{Token}
use Rattle.grammar.specs.Env.{Infix}
use Rattle.grammar.specs.World.{World, Now, Out, Rec, fixity_ahead, length_of, left_of, mark, take1, take_in, with_record, end, give_back, ok_since}
use Rattle.grammar.specs.World.World.{refused, on}
use Rattle.grammar.specs.World as world
use Rattle.grammar.specs.Prog.{Prog, Look, Act, does, iter, eval, upto, rule}
use Rattle.grammar.specs.Prog.Prog.{ret, bind, branch, look, lookup, act, from, close, marked, loop, scoped, attempt, call}
use Rattle.grammar.specs.Prog.Act.{take, take_as, report, refuse}
use Rattle.grammar.specs.Prog.Reason.{deep}
use Rattle.laws.specs.Choice.{if_both, option_both}
use Rattle.laws.specs.Keeps.{Keeps, iter_keeps}
use Rattle.laws.specs.Grows.{Grew, Growing, grew, eval_grows, upto_grows}

-- Where both readings go on, they have the same environment.
abbrev pub SameEnv : World → World → Type 0
SameEnv (refused k l) w' = Unit {0}
SameEnv (on s) (refused k l) = Unit {0}
SameEnv (on s) (on s') = s'.env ≡ s.env

-- what is done without a fixity change
abbrev pub calm : Act → Bool
calm take = true
calm (take_as c) = false
calm (report f d x) = true
calm (refuse k) = true

-- Outside of scopes the program makes no fixity change, and calls only rules of C.
pub data Still {R : Type 0} (C : R → Type 0) : (g : Bool) → Prog R g → Type 0 where
  still_ret : {g : Bool} {v : ℕ} → Still C g (ret v)
  still_bind : {g : Bool} {p : Prog R g} {f : ℕ → Prog R g} → Still C g p → ((v : ℕ) → Still C g (f v)) → Still C g (bind p f)
  still_branch : {g : Bool} {t : Bool} {p q : Prog R g} → Still C g p → Still C g q → Still C g (branch t p q)
  still_look : {g : Bool} {q : Look} → Still C g (look q)
  still_lookup : {g : Bool} {k : ℕ} {p : Prog R g} {f : Infix → Prog R g} → Still C g p → ((i : Infix) → Still C g (f i)) → Still C g (lookup k p f)
  still_act : {g : Bool} {a : Act} → calm a ≡ true → Still C g (act a)
  still_from : {g : Bool} {p : Prog R g} → Still C g p → Still C g (from p)
  still_close : {g : Bool} {k : ℕ} → Still C g (close k)
  still_marked : {g : Bool} {p : Prog R true} → Still C true p → Still C g (marked p)
  still_loop : {g : Bool} {p : Prog R g} → Still C g p → Still C g (loop p)
  still_scoped : {g : Bool} {p : Prog R g} → Still C g (scoped p)
  still_attempt : {g : Bool} {p : Prog R g} → Still C g p → Still C g (attempt p)
  still_call : {r : R} → C r → Still C true (call r)

-- nothing done
same_env : (w : World) → SameEnv w w
same_env (refused k l) = tt
same_env (on s) = refl

-- a refused reading does not go on again, so what comes after may be put behind what came before
next_env : (a b c : World) → SameEnv a b → Grew b c → SameEnv b c → SameEnv a c
next_env (refused k l) b c p g q = tt
next_env (on s) b (refused k l) p g q = tt
next_env (on s) (refused k l) (on s'') p g q = absurd (let z : ◌≡◌ {A = ℕ} 0 1 = cc in omega arith)
next_env (on s) (on s') (on s'') p g q = q ∙ p

-- a record more
with_env : (s : Now) (ts : List Token) (l : List Rec) → SameEnv (on s) (with_record s ts l)
unfolding with_record
with_env s ts l = if_both (SameEnv (on s)) (ltb s.used s.room) (λ _. refl) (λ _. tt)

-- a mark
mark_env : (w : World) → SameEnv w (mark w)
unfolding mark
mark_env (refused k l) = tt
mark_env (on s) = with_env s s.rest s.log

-- the end of a node
end_env : (k b : ℕ) (w : World) → SameEnv w (end k b w)
unfolding end
end_env k b (refused j l) = tt
end_env k b (on s) = with_env s s.rest _

-- an operation that is no fixity change
act_env : (a : Act) → calm a ≡ true → (w : World) → SameEnv w (does a w)
unfolding does take1 take_in world.report world.refuse
act_env a c (refused k l) = tt
act_env take c (on s) = go s.rest
  where
    go : (ts : List Token) → SameEnv (on s) (take_in s ts)
    go [] = refl
    go (t ∷ ts) = with_env s ts _
act_env (take_as d) c (on s) = absurd (let z : ◌≡◌ {A = ℕ} 0 1 = cc in omega arith)
act_env (report f d x) c (on s) = if_both (SameEnv (on s)) (ltb (length s.finds) s.kept) (λ _. refl) (λ _. tt)
act_env (refuse k) c (on s) = tt

-- the first reading's environment is given back
back_env : (w w' : World) → SameEnv w (give_back w w')
unfolding give_back
back_env (refused k l) w' = tt
back_env (on s) (refused k l) = tt
back_env (on s) (on s') = refl

-- what was tried stays, or the reading is as before
since_env : (w w' : World) → SameEnv w w' → SameEnv w (ok_since w w').world
unfolding ok_since
since_env (refused k l) w' h = tt
since_env (on s) (refused k l) h = tt
since_env (on s) (on s') h =
    if_both (λ (o : Out). SameEnv (on s) o.world) (eqb (length s'.finds) (length s.finds)) (λ _. h) (λ _. refl)

-- a loop, where its turn does
iter_env : (n : ℕ) (f : World → Out) → Keeps Grew f → Keeps SameEnv f → Keeps SameEnv (iter n f)
unfolding iter
iter_env zero f g h w = same_env w
iter_env (suc n) f g h w =
    if_both (λ (o : Out). SameEnv w o.world) (eqb (f w).val 0) (λ _. h w)
    (λ _. next_env w (f w).world (iter n f (f w).world).world (h w) (iter_keeps Grew grew n f g (f w).world) (iter_env n f g h (f w).world))

-- a scope gives back the environment it had, whatever is done in it
pub scoped_env : {R : Type 0} {g : Bool} (ρ : ℕ → ℕ → R → World → Out) (n b : ℕ) (p : Prog R g) → Keeps SameEnv (eval ρ n b (scoped p))
unfolding eval
scoped_env ρ n b p w = back_env w (eval ρ n b p w).world

module _ {R : Type 0} (C : R → Type 0) where
  -- a program without fixity changes outside of scopes keeps the environment, where the rules that it calls do
  pub eval_env : {g : Bool} (ρ : ℕ → ℕ → R → World → Out) → Growing ρ → ((m c : ℕ) (r : R) → C r → Keeps SameEnv (ρ m c r))
      → (n b : ℕ) {p : Prog R g} → Still C g p → Keeps SameEnv (eval ρ n b p)
  unfolding eval
  eval_env ρ grows h n b still_ret w = same_env w
  eval_env ρ grows h n b (still_bind {p = p} {f = f} s t) w =
      let o = eval ρ n b p w in
      next_env w o.world (eval ρ n b (f o.val) o.world).world (eval_env ρ grows h n b s w)
      (eval_grows ρ grows n b (f o.val) o.world) (eval_env ρ grows h n b (t o.val) o.world)
  eval_env ρ grows h n b (still_branch {t = c} s t) w =
      if_both (λ (o : Out). SameEnv w o.world) c (λ _. eval_env ρ grows h n b s w) (λ _. eval_env ρ grows h n b t w)
  eval_env ρ grows h n b still_look w = same_env w
  eval_env ρ grows h n b (still_lookup {k = k} {f = f} s t) w =
      option_both (λ (o : Out). SameEnv w o.world) (fixity_ahead k w) {f = λ i. eval ρ n b (f i) w} (λ _. eval_env ρ grows h n b s w)
      (λ i _. eval_env ρ grows h n b (t i) w)
  eval_env ρ grows h n b (still_act {a = a} c) w = act_env a c w
  eval_env ρ grows h n b (still_from s) w = eval_env ρ grows h n (length_of w) s w
  eval_env ρ grows h n b (still_close {k = k}) w = end_env k b w
  eval_env ρ grows h n b (still_marked {p = p} s) w =
      if_both (λ (o : Out). SameEnv w o.world) (eqb n 0) (λ _. act_env (refuse deep) refl w)
      (λ _. next_env w (mark w) (eval ρ (n - 1) b p (mark w)).world (mark_env w) (eval_grows ρ grows (n - 1) b p (mark w)) (eval_env ρ grows h (n - 1) b s (mark w)))
  eval_env ρ grows h n b (still_loop {p = p} s) w = iter_env (left_of w + 1) (eval ρ n b p) (eval_grows ρ grows n b p) (eval_env ρ grows h n b s) w
  eval_env ρ grows h n b (still_scoped {p = p}) w = scoped_env ρ n b p w
  eval_env ρ grows h n b (still_attempt {p = p} s) w = since_env w (eval ρ n b p w).world (eval_env ρ grows h n b s w)
  eval_env ρ grows h n b (still_call {r = r} c) w = h n b r c w

  module _ (body : R → Prog R false) (still : (r : R) → C r → Still C false (body r)) where
    -- the same for calls at most k deep
    upto_env : (k n b : ℕ) (r : R) → C r → Keeps SameEnv (upto body k n b r)
    unfolding upto
    upto_env zero n b r c w = same_env w
    upto_env (suc k) n b r c w = eval_env (upto body k) (upto_grows body k) (upto_env k) n b (still r c) w

    -- a rule of C keeps the environment, where the bodies of the rules of C make no fixity change outside of scopes
    pub rule_env : (n b : ℕ) (r : R) → C r → Keeps SameEnv (rule body n b r)
    unfolding rule
    rule_env n b r c w = upto_env (suc n) n b r c w

-- What proves that a program is still: `search stills depth 40`, with the definitions that it names opened by `unfolding`;
-- list what is known of its parts.
pub ruleset stills =
    (Still.still_ret, Still.still_bind, Still.still_branch, Still.still_look, Still.still_lookup, Still.still_act, Still.still_from, Still.still_close, Still.still_marked, Still.still_loop, Still.still_scoped, Still.still_attempt, Still.still_call, tt)
