-- Progress: which programs take a token, or are refused, unless they give a value that says that they did not.
use Rattle.std.specs.Prelude.{ℕ, zero, suc, ◌+◌, ◌-◌, ◌<◌, ◌≤◌, ◌≡◌, List, [], ◌∷◌, ◌++◌, Bool, not, ◌&&◌, ◌||◌, eqb, ltb, leb, length}
use Rattle.std.proofs.Math.Path.{refl, sym, subst}
use Rattle.std.proofs.Common.{ap, ◌∙◌, add-one, eqb-true, ne_eqb, length-append}
use Rattle.std.proofs.Math.Option.{Option, none, some}
use Rattle.std.proofs.Math.Bool.{true, false}
use native.Mathlib.Omega.{arith}
use Rattle.std.proofs.lemmas.Bool.{eqb-false}
use Rattle.grammar.specs.Tokens.{Token}
use Rattle.grammar.specs.Env.{Infix, find}
use Rattle.grammar.specs.World.{World, Now, Out, none?, token_in, token_ahead, ahead, fixity_ahead, length_of, left_of, mark, take1, take_in, take_change, take_change_in, change, with_record, give_back, ok_since}
use Rattle.grammar.specs.World.World.{refused, on}
use Rattle.grammar.specs.World as world
use Rattle.grammar.specs.Prog.{Prog, Look, Act, does, iter, eval, rule}
use Rattle.grammar.specs.Prog.Prog.{ret, bind, branch, look, lookup, act, from, close, marked, loop, scoped, attempt, call}
use Rattle.grammar.specs.Prog.Look.{kind, index, says, number, mode}
use Rattle.grammar.specs.Prog.Act.{take, take_as, report, refuse}
use Rattle.grammar.specs.Prog.Reason.{deep}
use Rattle.laws.specs.Choice.{if_both, option_both}
use Rattle.laws.specs.Keeps.{Keeps, iter_keeps}
use Rattle.laws.specs.Grows.{Grew, after, Growing, eval_grows, eval_after, grew, grew_after, grew_change, rule_has}
use Rattle.laws.specs.Loops.{Progress}

-- Where a look at the next token gives k, the program takes a token or is refused, or else gives a value in K.
pub record Moves {R : Type 0} {g : Bool} (ρ : ℕ → ℕ → R → World → Out) (n : ℕ) (p : Prog R g) (k : ℕ) (K : ℕ → Type 0) : Type 0 where
  pub still : (b : ℕ) (w : World) → ahead 0 w ≡ k → after (eval ρ n b p w).world ≡ after w → K (eval ρ n b p w).val

-- the value 0, by which a rule says that it found nothing and a turn that it is the last
abbrev pub Idle : ℕ → Type 0
Idle v = v ≡ 0

-- no value at all: the program always takes a token or is refused
abbrev pub Never : ℕ → Type 0
Never v = ⊥

-- A step takes a token or is refused, unless it gives 0.
pub record Advances (f : World → Out) : Type 0 where
  pub less : (w : World) → ((f w).val ≡ 0 → ⊥) → after (f w).world < after w

-- where no token was taken, the next token is the same
same_ahead : (w w' : World) → Grew w w' → after w' ≡ after w → ahead 0 w' ≡ ahead 0 w
unfolding ahead token_ahead
same_ahead (refused k l) w' h e = rw h
same_ahead (on s) (refused k l) h e = absurd (omega arith)
same_ahead (on s) (on s') h e = go h.gone h.rest
  where
    go : (ts : List Token) → s.rest ≡ ts ++ s'.rest → ahead 0 (on s') ≡ ahead 0 (on s)
    go [] q = rw q
    go (t ∷ ts) q = absurd (omega (arith, simp length-append at (ap length q)))

-- a token is ahead where a look found one
some_ahead : (w : World) → none? (ahead 0 w) ≡ false → 2 ≤ after w
unfolding ahead token_ahead token_in
some_ahead (refused k l) h = absurd (let z : ◌≡◌ {A = ℕ} 0 1 = cc in omega arith)
some_ahead (on s) h = go s.rest h
  where
    go : (ts : List Token) → none? (elim (token_in 0 ts) [ none ↦ 0 | some t ↦ suc t.kind ]) ≡ false → 2 ≤ suc (length ts)
    go [] h = absurd (let z : ◌≡◌ {A = ℕ} 0 1 = cc in omega arith)
    go (t ∷ ts) h = omega arith

-- a token is ahead where one has a fixity
pub some_fixity : (j : ℕ) (i : Infix) (w : World) → fixity_ahead j w ≡ some i → none? (ahead 0 w) ≡ false
unfolding fixity_ahead ahead token_ahead token_in
some_fixity j i (refused k l) e = absurd (let z : ◌≡◌ {A = ℕ} 0 1 = cc in omega arith)
some_fixity j i (on s) e = go s.rest e
  where
    go : (ts : List Token) → ◌≡◌ {A = Option Infix} (elim (token_in j ts) [ none ↦ none | some t ↦ find t.text s.env ]) (some i) → none? (elim (token_in 0 ts) [ none ↦ 0 | some t ↦ suc t.kind ]) ≡ false
    go [] h = absurd (let z : ◌≡◌ {A = ℕ} 0 1 = cc in omega arith)
    go (t ∷ ts) h = refl

-- the next token is taken, or the reading is refused
take_less : (s : Now) (t : Token) (ts : List Token) → s.rest ≡ t ∷ ts → after (take_in s (t ∷ ts)) < suc (length s.rest)
unfolding take_in with_record
take_less s t ts e =
    if_both (λ (v : World). after v < suc (length s.rest)) (ltb s.used s.room) (λ _. omega (arith, ap length e)) (λ _. omega arith)

-- what takes a token where one is ahead, or refuses
abbrev pub taking : Act → Bool
taking take = true
taking (take_as c) = true
taking (report f d x) = false
taking (refuse k) = true

-- it does so, or the reading is refused
act_less : (a : Act) (w : World) → taking a ≡ true → 2 ≤ after w → after (does a w) < after w
unfolding does take1 take_in take_change take_change_in world.refuse
act_less a (refused k l) e h = absurd (omega arith)
act_less take (on s) e h = go s.rest refl
  where
    go : (ts : List Token) → s.rest ≡ ts → after (take_in s ts) < suc (length s.rest)
    go [] q = absurd (omega (arith, ap length q))
    go (t ∷ ts) q = take_less s t ts q
act_less (take_as c) (on s) e h = go s.rest refl
  where
    go : (ts : List Token) → s.rest ≡ ts → after (take_change_in c s ts) < suc (length s.rest)
    go [] q = absurd (omega (arith, ap length q))
    go (t ∷ ts) q =
        let v = take_in s (t ∷ ts) in omega (arith, take_less s t ts q, grew_after v (change c t.text v) (grew_change c t.text v))
act_less (report f d x) (on s) e h = absurd (let z : ◌≡◌ {A = ℕ} 0 1 = cc in omega arith)
act_less (refuse k) (on s) e h = omega arith

-- as many tokens are left where the environment is given back
back_after : (w w' : World) → after w' ≡ after (give_back w w')
unfolding give_back
back_after (refused k l) w' = refl
back_after (on s) (refused k l) = refl
back_after (on s) (on s') = refl

-- a loop gives 0
loop_zero : (n : ℕ) (f : World → Out) (w : World) → (iter n f w).val ≡ 0
unfolding iter
loop_zero zero f w = refl
loop_zero (suc n) f w = if_both (λ (o : Out). o.val ≡ 0) (eqb (f w).val 0) (λ _. refl) (λ _. loop_zero n f (f w).world)

-- no more is left after a loop than after its first turn
turn_after : (m : ℕ) (f : World → Out) → Keeps Grew f → (w : World) → after (iter (m + 1) f w).world ≤ after (f w).world
unfolding iter
turn_after m f h w = rw (add-one m)
    (if_both (λ (o : Out). after o.world ≤ after (f w).world) (eqb (f w).val 0) (λ _. omega arith)
    (λ _. grew_after (f w).world _ (iter_keeps Grew grew m f h (f w).world)))

-- a number that is not other than 0
zero_not : (v : ℕ) → ((v ≡ 0 → ⊥) → ⊥) → v ≡ 0
zero_not zero h = refl
zero_not (suc v) h = absurd (h (λ e. omega arith))

-- no more and not equal is less
le_less : {a b : ℕ} → a ≤ b → (a ≡ b → ⊥) → a < b
le_less {a} {b} l h = omega arith

-- A token is ahead, or else Z.
pub data Held (k : ℕ) (Z : Type 0) : Type 0 where
  token : none? k ≡ false → Held k Z
  value : Z → Held k Z

-- A mark on programs of which nothing is said: a search that finds it takes any value to be the program's.
pub data Opaque {R : Type 0} {g : Bool} : Prog R g → Type 0 where
  opaque : (p : Prog R g) → Opaque p

-- a token is ahead where its kind is one
pub some_kind : (k c : ℕ) → eqb k c ≡ true → eqb c 0 ≡ false → none? k ≡ false
some_kind zero c e d = absurd (omega (arith, eqb-true 0 c e, eqb-false c 0 d))
some_kind (suc k) c e d = refl

-- a kind and one, which a look gives, is not 0
pub next_some : (c : ℕ) → eqb (c + 1) 0 ≡ false
next_some c = ne_eqb (c + 1) 0 (λ e. omega arith)

-- a test of one thing or another holds where the first does
pub or_left : (a c : Bool) → a ≡ true → (a || c) ≡ true
or_left a c e = rw e

-- or where the second does
pub or_right : (a c : Bool) → c ≡ true → (a || c) ≡ true
or_right true c e = refl
or_right false c e = e

-- X holds where the test does.
pub record When (t : Bool) (X : Type 0) : Type 0 where
  pub holds : t ≡ true → X

-- a test of one thing or another is taken by cases
pub when_or : (a c : Bool) {X : Type 0} → When a X → When c X → When (a || c) X
when_or true c f h = record { holds = λ _. f.holds refl }
when_or false c f h = h

-- of a test of two things each is known
pub when_and : (a c : Bool) {X : Type 0} → When a (When c X) → When (a && c) X
when_and true c f = f.holds refl
when_and false c f = record { holds = λ e. absurd (let z : ◌≡◌ {A = ℕ} 0 1 = cc in omega arith) }

-- a test of a number: of a kind other than 0, it tells that a token is ahead
pub when_eqb : (k c : ℕ) {X : Type 0} → (eqb k c ≡ true → (eqb c 0 ≡ false → none? k ≡ false) → X) → When (eqb k c) X
when_eqb k c h = record { holds = λ e. h e (some_kind k c e) }

-- a test whether there is nothing
pub when_none : (v : ℕ) {X : Type 0} → (none? v ≡ true → X) → When (none? v) X
when_none v h = record { holds = h }

-- a comparison
pub when_leb : (a c : ℕ) {X : Type 0} → (leb a c ≡ true → X) → When (leb a c) X
when_leb a c h = record { holds = h }

-- a test that something is not so
pub when_not : (a : Bool) {X : Type 0} → (a ≡ false → X) → When (not a) X
when_not true h = record { holds = λ e. absurd (let z : ◌≡◌ {A = ℕ} 0 1 = cc in omega arith) }
when_not false h = record { holds = λ _. h refl }

-- A mark on tests of another form: a search that finds it takes the test to have either outcome.
pub data Test : Bool → Type 0 where
  test : (t : Bool) → Test t

-- a test that is marked
pub when_test : {t : Bool} {X : Type 0} → Test t → (t ≡ true → X) → When t X
when_test _ h = record { holds = h }

-- the looks that see something else than the kind of the next token
abbrev pub elsewhere : Look → Bool
elsewhere (kind zero) = false
elsewhere (kind (suc j)) = true
elsewhere index = true
elsewhere (says x) = true
elsewhere number = true
elsewhere mode = true

module _ {R : Type 0} {g : Bool} {ρ : ℕ → ℕ → R → World → Out} {n k : ℕ} {K : ℕ → Type 0} where
  -- a program that is marked gives any value
  pub moves_any : {p : Prog R g} → Opaque p → ((u : ℕ) → K u) → Moves ρ n p k K
  moves_any _ h = record { still = λ b w _ _. h _ }

  -- a value that is in K
  pub moves_ret : {u : ℕ} → K u → Moves {g = g} ρ n (ret u) k K
  unfolding eval
  moves_ret h = record { still = λ b w _ _. h }

  -- What follows p has to move only for the values with which p takes nothing, and the next token is then the same.
  pub moves_bind : Growing ρ → {p : Prog R g} {f : ℕ → Prog R g} → Moves ρ n p k (λ u. Moves ρ n (f u) k K) → Moves ρ n (bind p f) k K
  unfolding eval
  moves_bind grows {p} {f} h = record {
    still = λ b w e q.
        let o = eval ρ n b p w in
        let l = eval_after ρ grows n b p w in
        let l' = eval_after ρ grows n b (f o.val) o.world in
        let s : after o.world ≡ after w = omega arith in
        (h.still b w e s).still b o.world (same_ahead w o.world (eval_grows ρ grows n b p w) s ∙ e) (q ∙ sym s);
  }

  -- a test that is known to hold
  pub moves_on : {t : Bool} {p q : Prog R g} → t ≡ true → Moves ρ n p k K → Moves ρ n (branch t p q) k K
  unfolding eval
  moves_on {p} {q} e h = record { still = λ b. rw e (h.still b) }

  -- a test that is known to fail
  pub moves_off : {t : Bool} {p q : Prog R g} → t ≡ false → Moves ρ n q k K → Moves ρ n (branch t p q) k K
  unfolding eval
  moves_off {p} {q} e h = record { still = λ b. rw e (h.still b) }

  -- a test of which either outcome may come
  pub moves_branch : (t : Bool) {p q : Prog R g} → When t (Moves ρ n p k K) → (t ≡ false → Moves ρ n q k K) → Moves ρ n (branch t p q) k K
  unfolding eval
  moves_branch true f h = record { still = (f.holds refl).still }
  moves_branch false f h = record { still = (h refl).still }

  -- a test that is made only later may be taken by cases before
  pub moves_cases : (t : Bool) {p : Prog R g} → When t (Moves ρ n p k K) → (t ≡ false → Moves ρ n p k K) → Moves ρ n p k K
  moves_cases true f h = f.holds refl
  moves_cases false f h = h refl

  -- a look at the next token gives k
  pub moves_peek : K k → Moves {g = g} ρ n (look (kind 0)) k K
  unfolding eval
  moves_peek h = record { still = λ b w e _. subst K (sym e) h }

  -- another look gives some value
  pub moves_look : {q : Look} → elsewhere q ≡ true → ((u : ℕ) → K u) → Moves {g = g} ρ n (look q) k K
  unfolding eval
  moves_look _ h = record { still = λ b w _ _. h _ }

  -- where a fixity was found, a token is ahead
  pub moves_lookup : {j : ℕ} {p : Prog R g} {f : Infix → Prog R g} → Moves ρ n p k K → ((i : Infix) → none? k ≡ false → Moves ρ n (f i) k K)
      → Moves ρ n (lookup j p f) k K
  unfolding eval
  moves_lookup {j} {p} {f} h h' = record {
    still = λ b w e. option_both (λ (o : Out). after o.world ≡ after w → K o.val) (fixity_ahead j w) {f = λ i. eval ρ n b (f i) w}
        (λ _. h.still b w e)
        (λ i q. (h' i (ap none? (sym e) ∙ some_fixity j i w q)).still b w e);
  }

  -- what takes a token or refuses, where a token is ahead
  pub moves_take : {a : Act} → taking a ≡ true → none? k ≡ false → Moves {g = g} ρ n (act a) k K
  unfolding eval
  moves_take {a} t h = record {
    still = λ b w e q. absurd (omega (arith, act_less a w t (some_ahead w (ap none? e ∙ h))));
  }

  -- an operation gives 0
  pub moves_act : {a : Act} → K 0 → Moves {g = g} ρ n (act a) k K
  unfolding eval
  moves_act h = record { still = λ b w _ _. h }

  -- the end of a node gives 0
  pub moves_close : {c : ℕ} → K 0 → Moves {g = g} ρ n (close c) k K
  unfolding eval
  moves_close h = record { still = λ b w _ _. h }

  -- a loop gives 0
  pub moves_loop : {p : Prog R g} → K 0 → Moves ρ n (loop p) k K
  unfolding eval
  moves_loop {p} h = record { still = λ b w _ _. rw (loop_zero (left_of w + 1) (eval ρ n b p) w) h }

  -- a scope of nodes takes what is in it
  pub moves_from : {p : Prog R g} → Moves ρ n p k K → Moves ρ n (from p) k K
  unfolding eval
  moves_from h = record { still = λ b w. h.still (length_of w) w }

  -- and so does a scope of fixities
  pub moves_scoped : {p : Prog R g} → Moves ρ n p k K → Moves ρ n (scoped p) k K
  unfolding eval
  moves_scoped {p} h = record { still = λ b w e q. h.still b w e (back_after w (eval ρ n b p w).world ∙ q) }

  -- what was tried stays, and the value is 1, or it is as before, and the value is 0
  pub moves_attempt : {p : Prog R g} → K 0 → Moves ρ n p k (λ u. K 1) → Moves ρ n (attempt p) k K
  unfolding eval ok_since
  moves_attempt {p} z h = record { still = λ b w e. go w (eval ρ n b p w).world (h.still b w e) }
    where
      go : (w w' : World) → (after w' ≡ after w → K 1) → after (ok_since w w').world ≡ after w → K (ok_since w w').val
      go (refused j l) w' f = λ _. z
      go (on s) (refused j l) f = λ _. z
      go (on s) (on s') f =
          if_both (λ (o : Out). after o.world ≡ after (on s) → K o.val) (eqb (length s'.finds) (length s.finds)) (λ _. f) (λ _ _. z)

  -- a loop whose first turn takes a token
  pub moves_turn : Growing ρ → {p : Prog R g} → Moves ρ n p k Never → Moves ρ n (loop p) k K
  unfolding eval
  moves_turn grows {p} h = record { still = λ b w e q. absurd (h.still b w e (go b w q)) }
    where
      go : (b : ℕ) (w : World) → after (iter (left_of w + 1) (eval ρ n b p) w).world ≡ after w → after (eval ρ n b p w).world ≡ after w
      go b w q = omega (arith, turn_after (left_of w) (eval ρ n b p) (eval_grows ρ grows n b p) w, eval_after ρ grows n b p w)

  -- a mark takes nothing, and where no more may be opened the value is 0
  pub moves_marked : Growing ρ → {p : Prog R true} → Held k (K 0) → Moves ρ (n - 1) p k K → Moves {g = g} ρ n (marked p) k K
  unfolding eval
  moves_marked grows {p} h t = record {
    still = λ b w e. if_both (λ (o : Out). after o.world ≡ after w → K o.val) (eqb n 0) (λ _. sunk h w e) (λ _ q.
        let l = grew_after w (mark w) (grew.marks w) in
        let l' = eval_after ρ grows (n - 1) b p (mark w) in
        let s : after (mark w) ≡ after w = omega arith in
        t.still b (mark w) (same_ahead w (mark w) (grew.marks w) s ∙ e) (q ∙ sym s));
  }
    where
      sunk : Held k (K 0) → (w : World) → ahead 0 w ≡ k → after (does (refuse deep) w) ≡ after w → K 0
      sunk (value z) w e q = z
      sunk (token z) w e q = absurd (omega (arith, act_less (refuse deep) w refl (some_ahead w (ap none? e ∙ z))))

-- the call of a rule that advances
pub moves_call : {R : Type 0} {ρ : ℕ → ℕ → R → World → Out} {n k : ℕ} {K : ℕ → Type 0} {r : R} → ((b : ℕ) → Advances (ρ n b r)) → K 0 → Moves ρ n (call r) k K
unfolding eval
moves_call {ρ} {n} {K} {r} h z = record { still = λ b w _ q. go (ρ n b r w) (after w) ((h b).less w) q }
  where
    go : (o : Out) (m : ℕ) → ((o.val ≡ 0 → ⊥) → after o.world < m) → after o.world ≡ m → K o.val
    go o m f q = rw (zero_not o.val (λ e. omega (arith, f e))) z

-- a program that moves unless it gives 0 advances
pub advances : {R : Type 0} {g : Bool} {ρ : ℕ → ℕ → R → World → Out} {n : ℕ} {p : Prog R g} → Growing ρ → ((k : ℕ) → Moves ρ n p k Idle) → (b : ℕ) → Advances (eval ρ n b p)
advances {ρ} {n} {p} grows h b = record {
  less = λ w z. le_less (eval_after ρ grows n b p w) (λ q. z ((h (ahead 0 w)).still b w refl q));
}

-- The rules of C advance, where their bodies move unless they give 0, if the rules of C that they call advance.
pub rule_advances : {R : Type 0} (body : R → Prog R false) (C : R → Type 0)
    → ((ρ : ℕ → ℕ → R → World → Out) → Growing ρ → ((m c : ℕ) (r : R) → C r → Advances (ρ m c r)) → (n k : ℕ) (r : R) → C r → Moves ρ n (body r) k Idle)
    → (n b : ℕ) (r : R) → C r → Advances (rule body n b r)
rule_advances body C step = rule_has body (λ r f. C r → Advances f) (λ r _. record { less = λ w z. absurd (z refl) })
    (λ ρ grows ih n b r c. advances grows (λ k. step ρ grows ih n k r c) b)

-- a loop of it goes on only after progress
pub advancing : (f : World → Out) → Advances f → Progress f
advancing f h s z = omega (arith, h.less (on s) z)

-- What proves that a program moves: `search moving depth 40 fits 10000`, with the definitions that the program names opened by `unfolding`,
-- and with a hypothesis `Growing ρ` and one that says which rules advance in scope. List besides:
-- lemmas of parts, stated for every K: `(n k : ℕ) (K : ℕ → Type 0) → K 0 → Moves ρ n part k K`,
-- or `.. → t k ≡ true → Moves ρ n part k K` of one that then takes a token;
-- `opaque p` for a part of which nothing is to be said; `test t` for a test of another form;
-- `moves_turn` for a loop whose first turn takes a token.
-- A part that takes a token where a test of the kind holds is proved as `When (t k) (Moves ρ n part k K)`,
-- which takes the test by cases, and used by `.holds`.
pub ruleset moving =
    (moves_any, moves_ret, moves_peek, moves_look, moves_on, moves_off, moves_branch, moves_lookup, moves_take, moves_act, moves_close, moves_loop, moves_from, moves_scoped, moves_attempt, moves_marked, moves_call, moves_bind, when_or, when_and, when_eqb, when_none, when_leb, when_not, when_test, Held.token, Held.value, some_kind, next_some, or_left, or_right, tt)
