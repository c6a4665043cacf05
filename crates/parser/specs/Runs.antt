-- A call that did what a program does: the contracts of the rules' functions, what calls require, and loops.
use Rattle.std.specs.Prelude.{ℕ, zero, suc, ◌+◌, ◌≤◌, ◌<◌, ◌≡◌, refl, List, Bool, true, false, not, eqb, length, Option, Some, None}
use Rattle.std.proofs.Common.{ap, ◌∙◌, sym, arith, rules, eq-eqb, ne_eqb, length-append}
use Rattle.grammar.specs.World.{World, Out, out, ahead, refuse, length_of}
use Rattle.grammar.specs.World.World.{refused}
use Rattle.grammar.specs.Prog.{Prog, eval, rule}
use Rattle.grammar.specs.Prog.Prog.{loop}
use Rattle.grammar.specs.Rule.{Rule}
use Rattle.grammar.specs.Root.{body}
use Rattle.laws.specs.Choice.{if_both}
use Rattle.laws.specs.Grows.{after, rule_grows}
use Rattle.laws.specs.Loops.{loop_law}
use Rattle.laws.specs.Moves.{Advances, advancing}
use Rattle.parser.specs.View.{Mem, mem, Sound, seen_in, now_of, chunks, rec_of, Kept, Is, Spells, Marks, Adds, Bumps, Tells, refused_by}
use Rattle.parser.specs.declared.State.{State}

-- ---- the contracts

-- From m to m', with the value v, as the program p does where n marks may still be opened and the node around it started at b in the log.
pub record RunsIn {g : Bool} (n b : ℕ) (p : Prog Rule g) (m m' : Mem) (v : ℕ) : Type 0 where
  pub ok : Sound m'
  pub same : out v (seen_in m') ≡ eval (rule body) n b p (seen_in m)
  pub kept : Kept m m'

-- The same, wherever the node around it started.
pub record Runs {g : Bool} (n : ℕ) (p : Prog Rule g) (m m' : Mem) (v : ℕ) : Type 0 where
  pub ok : Sound m'
  pub same : (b : ℕ) → out v (seen_in m') ≡ eval (rule body) n b p (seen_in m)
  pub kept : Kept m m'

-- The same, however many marks may still be opened.
pub record Always {g : Bool} (p : Prog Rule g) (m m' : Mem) (v : ℕ) : Type 0 where
  pub ok : Sound m'
  pub same : (n b : ℕ) → out v (seen_in m') ≡ eval (rule body) n b p (seen_in m)
  pub kept : Kept m m'

-- The log l became l', the findings h became h' and the state s became s', with the value v, as p does where t are the tokens, whatever the rest is.
pub record Eats {g : Bool} (p : Prog Rule g) (t l h : List ℕ) (s : State) (l' h' : List ℕ) (s' : State) (v : ℕ) : Type 0 where
  pub does : (x e j : List ℕ) → Sound (mem x t e j l h s) → Always p (mem x t e j l h s) (mem x t e j l' h' s') v

-- the same of the log alone
pub record Takes {g : Bool} (p : Prog Rule g) (t l : List ℕ) (s : State) (l' : List ℕ) (s' : State) (v : ℕ) : Type 0 where
  pub does : (x e j h : List ℕ) → Sound (mem x t e j l h s) → Always p (mem x t e j l h s) (mem x t e j l' h s') v

-- ---- the journal

-- another state over the same buffers, with the same fixities in force
pub kept_same : {x t e j l f x' t' e' l' f' : List ℕ} {s s' : State} → s'.fixes.len ≡ s.fixes.len → Kept (mem x t e j l f s) (mem x' t' e' j l' f' s')
kept_same q = record { grows = omega arith; bytes = λ i h. refl }

pub kept_next : {a b c : Mem} → Kept a b → Kept b c → Kept a c
kept_next p q = record {
  grows = let l = p.grows in let m = q.grows in omega arith;
  bytes = λ i h. q.bytes i (let l = p.grows in omega arith) ∙ p.bytes i h;
}

-- what a call did, in any of the three forms
pub runs_in : {g : Bool} {n b : ℕ} {p : Prog Rule g} {a c : Mem} {u : ℕ} → Runs n p a c u → RunsIn n b p a c u
runs_in {b} r = record { ok = r.ok; same = r.same b; kept = r.kept }

pub runs_always : {g : Bool} {n b : ℕ} {p : Prog Rule g} {a c : Mem} {u : ℕ} → Always p a c u → RunsIn n b p a c u
runs_always {n} {b} r = record { ok = r.ok; same = r.same n b; kept = r.kept }

pub length_chunks : {X : Type 0} (f : ℕ → ℕ → ℕ → X) (xs : List ℕ) (n : ℕ) → length (chunks f xs n) ≡ n
unfolding chunks
length_chunks f xs zero = refl
length_chunks f xs (suc n) = length-append (chunks f xs n) _ ∙ omega (arith, length_chunks f xs n)

-- the log's length is the state's
pub len_is : (m : Mem) → m.state.len ≡ length_of (seen_in m)
unfolding seen_in now_of length_of
len_is m = sym (if_both (λ (w : World). length_of w ≡ m.state.len) (eqb m.state.stop 0) (λ _. length_chunks rec_of m.scratch m.state.len) (λ _. refl))

-- what a test of `is_off` says
pub on_at : {t : Bool} → false ≡ not t → t ≡ true
on_at {t = true} e = refl
on_at {t = false} e = e

pub off_at : {t : Bool} → true ≡ not t → t ≡ false
off_at {t = true} e = e
off_at {t = false} e = refl

-- a reading that was refused
pub shut : (m : Mem) → eqb m.state.stop 0 ≡ false → seen_in m ≡ refused m.state.stop m.state.len
unfolding seen_in
shut m e = rw (e, seen_in)

-- a state that was refused, over the same buffers
pub refused_same : (n : ℕ) (m : Mem) → (n ≡ 0 → ⊥) → seen_in (mem m.text m.toks m.env m.table m.scratch m.finds (refused_by n m.state)) ≡ refuse n (seen_in m)
unfolding refuse seen_in now_of
refused_same n m z = go (eqb m.state.stop 0) refl
  where
    go : (t : Bool) → eqb m.state.stop 0 ≡ t → seen_in (mem m.text m.toks m.env m.table m.scratch m.finds (refused_by n m.state)) ≡ refuse n (seen_in m)
    go true e =
        let q : (refused_by n m.state).stop ≡ n = ap (λ (t : Bool). elim t [ true ↦ n | false ↦ m.state.stop ]) e in
        shut (mem m.text m.toks m.env m.table m.scratch m.finds (refused_by n m.state)) (ap (λ (k : ℕ). eqb k 0) q ∙ ne_eqb n 0 z)
        ∙ ap (λ (k : ℕ). refused k m.state.len) q
        ∙ sym (ap (refused n) (length_chunks rec_of m.scratch m.state.len))
        ∙ sym (rw (e, seen_in) refl)
    go false e =
        let q : (refused_by n m.state).stop ≡ m.state.stop = ap (λ (t : Bool). elim t [ true ↦ n | false ↦ m.state.stop ]) e in
        shut (mem m.text m.toks m.env m.table m.scratch m.finds (refused_by n m.state)) (ap (λ (k : ℕ). eqb k 0) q ∙ e)
        ∙ ap (λ (k : ℕ). refused k m.state.len) q ∙ sym (ap (refuse n) (shut m e))

-- what a call requires, after a mark or a refusal
pub ok_marks : {x t e j l f : List ℕ} {s r : State} → Marks s r → Sound (mem x t e j l f s) → Sound (mem x t e j l f r)
ok_marks {x} {t} {e} {j} {l} {f} d o = (d.does x t e j l f o).ok

pub ok_refused : {x t e j l f : List ℕ} {s r : State} (n : ℕ) → r ≡ refused_by n s → Sound (mem x t e j l f s) → Sound (mem x t e j l f r)
ok_refused n q o = rw q record { reads = o.reads; names = o.names; logs = o.logs; holds = o.holds; stands = o.stands }

-- whether a token is of a kind
module _ (x want : ℕ) (a : Mem) (r : Bool) (i : Is x a.toks a.state want r) where
  pub kind_at : r ≡ true → eqb (ahead x (seen_in a)) (want + 1) ≡ true
  kind_at e = sym (i.same a.text a.env a.table a.scratch a.finds) ∙ e

  pub kind_off : r ≡ false → eqb (ahead x (seen_in a)) (want + 1) ≡ false
  kind_off e = sym (i.same a.text a.env a.table a.scratch a.finds) ∙ e

-- the tests of a kind that was seen
pub kind_is : {k want : ℕ} → k ≡ want → eqb (suc k) (want + 1) ≡ true
kind_is {k} {want} e = eq-eqb (suc k) (want + 1) (omega arith)

pub kind_not : {k want : ℕ} → (k ≡ want → ⊥) → eqb (suc k) (want + 1) ≡ false
kind_not {k} {want} f = ne_eqb (suc k) (want + 1) (λ e. f (omega arith))

-- a test that was made by a function
pub test_true : {r t : Bool} → r ≡ t → r ≡ true → t ≡ true
test_true p q = sym p ∙ q

pub test_false : {r t : Bool} → r ≡ t → r ≡ false → t ≡ false
test_false p q = sym p ∙ q

-- ---- loops

-- A loop over p, which started at a and has come to c: what it will do is what it would have done.
pub record Loops {g : Bool} (n b : ℕ) (p : Prog Rule g) (a c : Mem) : Type 0 where
  pub ok : Sound c
  pub same : eval (rule body) n b (loop p) (seen_in c) ≡ eval (rule body) n b (loop p) (seen_in a)
  pub kept : Kept a c

-- the measure of a loop: the tokens left, and one more where the reading goes on
abbrev pub turns : Mem → ℕ
turns m = after (seen_in m)

module _ {g : Bool} {n b : ℕ} {p : Prog Rule g} where
  -- where the loop starts
  pub loop_starts : {m : Mem} → Sound m → Loops n b p m m
  loop_starts o = record { ok = o; same = refl; kept = kept_same refl }

  -- what a loop does after a turn
  after_turn : {c e : Mem} {v : ℕ} → Advances (eval (rule body) n b p) → RunsIn n b p c e v
      → eval (rule body) n b (loop p) (seen_in c) ≡ elim (eqb v 0) [ true ↦ out 0 (seen_in e) | false ↦ eval (rule body) n b (loop p) (seen_in e) ]
  after_turn {c} moves r =
      loop_law (rule body) (rule_grows body) n b p (advancing (eval (rule body) n b p) moves) (seen_in c)
      ∙ ap (λ (o : Out). elim (eqb o.val 0) [ true ↦ out 0 o.world | false ↦ eval (rule body) n b (loop p) o.world ]) (sym r.same)

  -- a turn after which the loop goes on
  pub loop_goes : {a c e : Mem} → Advances (eval (rule body) n b p) → Loops n b p a c → RunsIn n b p c e 1 → Loops n b p a e
  loop_goes moves l r = record { ok = r.ok; same = sym (after_turn moves r) ∙ l.same; kept = kept_next l.kept r.kept }

  -- the measure falls
  pub loop_falls : {c e : Mem} → Advances (eval (rule body) n b p) → RunsIn n b p c e 1 → turns e < turns c
  loop_falls {c} {e} moves r =
      let q : eval (rule body) n b p (seen_in c) ≡ out 1 (seen_in e) = sym r.same in
      rw q at (moves.less (seen_in c) (λ z. omega (arith, ap (λ (o : Out). o.val) q)))

  -- the turn at which it ends
  pub loop_ends : {a c e : Mem} → Advances (eval (rule body) n b p) → Loops n b p a c → RunsIn n b p c e 0 → RunsIn n b (loop p) a e 0
  loop_ends moves l r = record { ok = r.ok; same = sym (after_turn moves r) ∙ l.same; kept = kept_next l.kept r.kept }

-- what a call requires after an operation on the log or the findings
pub ok_bumps : {x t e j l g l' : List ℕ} {s s' : State} → Bumps t l s l' s' → Sound (mem x t e j l g s) → Sound (mem x t e j l' g s')
ok_bumps {x} {e = e} {j = j} {g = g} d o = (d.does x e j g o).ok

pub ok_adds : {f : World → World} {x t e j l g l' : List ℕ} {s s' : State} → Adds f l s l' s' → Sound (mem x t e j l g s) → Sound (mem x t e j l' g s')
ok_adds {x = x} {t = t} {e = e} {j = j} {g = g} d o = (d.does x t e j g o).ok

pub ok_tells : {f : World → World} {x t e j l g g' : List ℕ} {s s' : State} → Tells f g s g' s' → Sound (mem x t e j l g s) → Sound (mem x t e j l g' s')
ok_tells {x = x} {t = t} {e = e} {j = j} {l = l} d o = (d.does x t e j l o).ok

pub ok_eats : {g : Bool} {p : Prog Rule g} {x t e j l h l' h' : List ℕ} {s s' : State} {v : ℕ} → Eats p t l h s l' h' s' v → Sound (mem x t e j l h s) → Sound (mem x t e j l' h' s')
ok_eats {x = x} {e = e} {j = j} d o = (d.does x e j o).ok

pub ok_takes : {g : Bool} {p : Prog Rule g} {x t e j l h l' : List ℕ} {s s' : State} {v : ℕ} → Takes p t l s l' s' v → Sound (mem x t e j l h s) → Sound (mem x t e j l' h s')
ok_takes {x = x} {e = e} {j = j} {h = h} d o = (d.does x e j h o).ok

pub ok_state : {x t e j l f : List ℕ} {s s' : State} → s' ≡ s → Sound (mem x t e j l f s) → Sound (mem x t e j l f s')
ok_state q o = rw q o

-- a start in the log is small enough to be written
pub small_len : {m : Mem} → Sound m → m.state.len < 4294967296
small_len {m} o = let l = o.logs in omega arith

-- an index is small enough to be reported
pub small_index : {x t e j l f : List ℕ} {s : State} {u : ℕ} → Spells s u → Sound (mem x t e j l f s) → u ≤ 65535
small_index q o = q.small o.reads.few

-- what proves what a call requires
pub ruleset asks = (ok_marks, ok_refused, small_len, rules)
