-- What more scratch changes: nothing, unless the reading was refused for the want of it.
use Prim.Native.Nat.{ℕ, zero, suc, ◌+◌, ◌-◌, ◌/◌, ◌≤◌}
use native.Mathlib.Omega.{arith}
use Rattle.std.proofs.Math.Path.{◌≡◌, refl, ap}
use Rattle.std.proofs.Common.{◌∙◌, sym}
use Rattle.std.specs.Prelude.{◌⊎◌, ◌&&◌, eqb, leb, length}
use Rattle.std.proofs.Math.Logic.{⊎_elim}
use Rattle.std.proofs.Math.Logic.◌⊎◌.{inl, inr}
use mathlib.Core.List.{List, [], ◌∷◌}
use Rattle.std.proofs.Math.Option.{Option, none, some}
use Rattle.std.proofs.Math.Bool.{Bool, true, false}
use borrow.Author.Tests.{lt-ltb, ltb-true, leb-true, leb-false}
use Rattle.std.proofs.Math.Dec.{ltb}
use Rattle.grammar.specs.Tokens.{Token, records_fit, record_count}
use Rattle.grammar.specs.Env.{Infix, Entry, env_of, env_bytes}
use Rattle.grammar.specs.Nodes.{nodes_of, nodes_bytes, find_bytes}
use Rattle.grammar.specs.World.{World, Now, Out, out, Rec, no_scratch, ahead, index_ahead, says_ahead, number_ahead, mode_of, token_ahead, fixity_ahead, length_of, left_of, mark, take1, take_in, take_change, take_change_in, change, change_in, in_env, with_record, end, give_back, ok_since, may_change, max_changes}
use Rattle.grammar.specs.World.World.{refused, on}
use Rattle.grammar.specs.World as world
use Rattle.grammar.specs.Prog.{Prog, Look, Act, seen, does, iter, eval, upto, rule}
use Rattle.grammar.specs.Prog.Look.{kind, index, says, number, mode}
use Rattle.grammar.specs.Prog.Act.{take, take_as, report, refuse}
use Rattle.grammar.specs.Prog.Reason.{deep}
use Rattle.grammar.specs.Prog.Prog.{ret, bind, branch, look, lookup, act, from, close, marked, loop, scoped, attempt, call}
use Rattle.grammar.specs.Root.{root, body}
use Rattle.grammar.specs.Read.{Call, Result, settings_fit, start, reading, finish, refusal, handed, read_with, read, bad_settings, bad_records, no_nodes, no_final}
use Rattle.laws.specs.Choice.{if_both}
use Rattle.laws.specs.Keeps.{iter_keeps}
use Rattle.laws.specs.Grows.{Grew, Growing, grew, eval_grows, upto_grows, rule_grows}
use Rattle.answers.specs.Entry.{with_scratch, cleared_to, served, most_scratch, served_short, served_long}

-- a reading with d records more room
abbrev wider : ℕ → Now → Now
wider d s = record { rest = s.rest; count = s.count; log = s.log; used = s.used; room = s.room + d; finds = s.finds; kept = s.kept; env = s.env; changes = s.changes; mode = s.mode }

abbrev more : ℕ → World → World
more d (refused k l) = refused k l
more d (on s) = on (wider d s)

-- it was refused for the want of scratch
abbrev Short : World → Type 0
Short (refused k l) = k ≡ no_scratch
Short (on s) = ⊥

-- more room changes nothing, or there was too little
abbrev Moves : ℕ → (World → World) → World → Type 0
Moves d f w = Short (f w) ⊎ (f (more d w) ≡ more d (f w))

abbrev Goes : ℕ → (World → Out) → World → Type 0
Goes d f w = Short (f w).world ⊎ (f (more d w) ≡ out (f w).val (more d (f w).world))

module _ (d : ℕ) where
  more_if : (t : Bool) (a b : World) → ◌≡◌ {A = World} (elim t [ true ↦ more d a | false ↦ more d b ]) (more d (elim t [ true ↦ a | false ↦ b ]))
  more_if true a b = refl
  more_if false a b = refl

  -- ---- the operations

  with_record_lem : (s : Now) (ts : List Token) (l : List Rec) → Short (with_record s ts l) ⊎ (with_record (wider d s) ts l ≡ more d (with_record s ts l))
  unfolding with_record
  with_record_lem s ts l = go (ltb s.used s.room) refl
    where
      go : (t : Bool) → ltb s.used s.room ≡ t → Short (with_record s ts l) ⊎ (with_record (wider d s) ts l ≡ more d (with_record s ts l))
      go true e =
          let e' : ltb s.used (s.room + d) ≡ true = lt-ltb s.used (s.room + d) (omega (arith, ltb-true s.used s.room e)) in
          inr (rw (e, e', with_record) refl)
      go false e = inl (rw (e, with_record) refl)

  take_in_lem : (s : Now) (ts : List Token) → Short (take_in s ts) ⊎ (take_in (wider d s) ts ≡ more d (take_in s ts))
  unfolding take_in
  take_in_lem s [] = inr refl
  take_in_lem s (t ∷ ts) = with_record_lem s ts _

  change_more : (c : Option Infix) (x : List ℕ) (w : World) → change c x (more d w) ≡ more d (change c x w)
  unfolding change change_in
  change_more c x (refused k l) = refl
  change_more c x (on s) = more_if (ltb s.changes max_changes && may_change c x s.env) _ _

  change_short : (c : Option Infix) (x : List ℕ) (w : World) → Short w → Short (change c x w)
  unfolding change
  change_short c x (refused k l) h = h
  change_short c x (on s) h = absurd h

  take_change_lem : (c : Option Infix) (s : Now) (ts : List Token) → Short (take_change_in c s ts) ⊎ (take_change_in c (wider d s) ts ≡ more d (take_change_in c s ts))
  unfolding take_change_in
  take_change_lem c s [] = inr refl
  take_change_lem c s (t ∷ ts) =
      ⊎_elim (λ h. inl (change_short c t.text (take_in s (t ∷ ts)) h)) (λ e. inr (ap (change c t.text) e ∙ change_more c t.text (take_in s (t ∷ ts)))) (take_in_lem s (t ∷ ts))

  acts : (a : Act) (w : World) → Moves d (does a) w
  unfolding does take1 take_change world.report world.refuse
  acts take (refused k l) = inr refl
  acts take (on s) = take_in_lem s s.rest
  acts (take_as c) (refused k l) = inr refl
  acts (take_as c) (on s) = take_change_lem c s s.rest
  acts (report f x y) (refused k l) = inr refl
  acts (report f x y) (on s) = inr (more_if (ltb (length s.finds) s.kept) _ _)
  acts (refuse y) (refused k l) = inr refl
  acts (refuse y) (on s) = inr refl

  marks : (w : World) → Moves d mark w
  unfolding mark
  marks (refused k l) = inr refl
  marks (on s) = with_record_lem s s.rest s.log

  ends : (k b : ℕ) (w : World) → Moves d (end k b) w
  unfolding end
  ends k b (refused n l) = inr refl
  ends k b (on s) = with_record_lem s s.rest _

  -- ---- what is seen is the same

  seen_more : (q : Look) (w : World) → seen q (more d w) ≡ seen q w
  unfolding seen ahead index_ahead says_ahead number_ahead mode_of token_ahead
  seen_more q (refused k l) = refl
  seen_more (kind n) (on s) = refl
  seen_more index (on s) = refl
  seen_more (says x) (on s) = refl
  seen_more number (on s) = refl
  seen_more mode (on s) = refl

  fixity_more : (k : ℕ) (w : World) → fixity_ahead k (more d w) ≡ fixity_ahead k w
  unfolding fixity_ahead
  fixity_more k (refused n l) = refl
  fixity_more k (on s) = refl

  length_more : (w : World) → length_of (more d w) ≡ length_of w
  unfolding length_of
  length_more (refused k l) = refl
  length_more (on s) = refl

  left_more : (w : World) → left_of (more d w) ≡ left_of w
  unfolding left_of
  left_more (refused k l) = refl
  left_more (on s) = refl

  -- ---- scopes and attempts

  back_more : (w v : World) → give_back (more d w) (more d v) ≡ more d (give_back w v)
  unfolding give_back
  back_more (refused k l) v = refl
  back_more (on s) (refused k l) = refl
  back_more (on s) (on s') = refl

  back_short : (w v : World) → Short v → Short (give_back w v)
  unfolding give_back
  back_short (refused k l) v h = h
  back_short (on s) (refused k l) h = h
  back_short (on s) (on s') h = absurd h

  since_more : (w v : World) → ok_since (more d w) (more d v) ≡ (let o = ok_since w v in out o.val (more d o.world))
  unfolding ok_since
  since_more (refused k l) v = refl
  since_more (on s) (refused k l) = refl
  since_more (on s) (on s') = go (eqb (length s'.finds) (length s.finds))
    where
      go : (t : Bool) → ◌≡◌ {A = Out} (elim t [ true ↦ out 1 (on (wider d s')) | false ↦ out 0 (on (wider d s)) ])
          (let o : Out = elim t [ true ↦ out 1 (on s') | false ↦ out 0 (on s) ] in out o.val (more d o.world))
      go true = refl
      go false = refl

  since_short : (w v : World) → Short v → Short (ok_since w v).world
  unfolding ok_since
  since_short (refused k l) v h = h
  since_short (on s) (refused k l) h = h
  since_short (on s) (on s') h = absurd h

  -- ---- programs

  -- what grew from a reading that was short is short
  grew_short : (w v : World) → Grew w v → Short w → Short v
  grew_short (refused k l) v g h = rw g h
  grew_short (on s) v g h = absurd h

  -- one step and then another
  then_goes : (f : World → Out) (h : ℕ → World → Out) (w : World) → ((v : ℕ) (u : World) → Grew u (h v u).world) → Goes d f w → ((v : ℕ) (u : World) → Goes d (h v) u)
      → Goes d (λ u. h (f u).val (f u).world) w
  then_goes f h w grows p q =
      ⊎_elim (λ s. inl (grew_short (f w).world (h (f w).val (f w).world).world (grows (f w).val (f w).world) s))
      (λ e. ⊎_elim (λ s. inl s) (λ e'. inr (ap (λ (o : Out). h o.val o.world) e ∙ e')) (q (f w).val (f w).world)) p

  -- a loop, where its turn does
  iter_goes : (n : ℕ) (f : World → Out) → ((u : World) → Grew u (f u).world) → ((u : World) → Goes d f u) → (w : World) → Goes d (iter n f) w
  unfolding iter
  iter_goes zero f grows h w = inr refl
  iter_goes (suc n) f grows h w = then_goes f turn w turn_grows (h w) (λ v u. turn_goes u (iter_goes n f grows h u) (eqb v 0))
    where
      turn : ℕ → World → Out
      turn v u = elim (eqb v 0) [ true ↦ out 0 u | false ↦ iter n f u ]

      turn_grows : (v : ℕ) (u : World) → Grew u (turn v u).world
      turn_grows v u = if_both (λ (o : Out). Grew u o.world) (eqb v 0) (λ _. grew.same u) (λ _. iter_keeps Grew grew n f grows u)

      turn_goes : (u : World) → Goes d (iter n f) u → (t : Bool) → Goes d (λ u. elim t [ true ↦ out 0 u | false ↦ iter n f u ]) u
      turn_goes u q true = inr refl
      turn_goes u q false = q

  -- a program, where the rules do
  eval_goes : {R : Type 0} {g : Bool} (ρ : ℕ → ℕ → R → World → Out) → Growing ρ → ((m c : ℕ) (r : R) (w : World) → Goes d (ρ m c r) w)
      → (n b : ℕ) (p : Prog R g) (w : World) → Goes d (eval ρ n b p) w
  unfolding eval
  eval_goes ρ grows h n b (ret v) w = inr refl
  eval_goes ρ grows h n b (bind p f) w =
      then_goes (eval ρ n b p) (λ v u. eval ρ n b (f v) u) w (λ v u. eval_grows ρ grows n b (f v) u) (eval_goes ρ grows h n b p w) (λ v u. eval_goes ρ grows h n b (f v) u)
  eval_goes ρ grows h n b (branch true p q) w = eval_goes ρ grows h n b p w
  eval_goes ρ grows h n b (branch false p q) w = eval_goes ρ grows h n b q w
  eval_goes ρ grows h n b (look q) w = inr (ap (λ (v : ℕ). out v (more d w)) (seen_more q w))
  eval_goes ρ grows h n b (lookup k p f) w = go (fixity_ahead k w) (fixity_more k w) (eval_goes ρ grows h n b p w) (λ i. eval_goes ρ grows h n b (f i) w)
    where
      chosen : Option Infix → World → Out
      chosen o u = elim o [ none ↦ eval ρ n b p u | some i ↦ eval ρ n b (f i) u ]

      go : (o : Option Infix) → fixity_ahead k (more d w) ≡ o → Goes d (eval ρ n b p) w → ((i : Infix) → Goes d (eval ρ n b (f i)) w)
          → Short (chosen o w).world ⊎ (chosen (fixity_ahead k (more d w)) (more d w) ≡ out (chosen o w).val (more d (chosen o w).world))
      go none e p q = ⊎_elim (λ s. inl s) (λ r. inr (ap (λ (o : Option Infix). chosen o (more d w)) e ∙ r)) p
      go (some i) e p q = ⊎_elim (λ s. inl s) (λ r. inr (ap (λ (o : Option Infix). chosen o (more d w)) e ∙ r)) (q i)
  eval_goes ρ grows h n b (act a) w = ⊎_elim (λ s. inl s) (λ e. inr (ap (out 0) e)) (acts a w)
  eval_goes ρ grows h n b (from p) w =
      ⊎_elim (λ s. inl s) (λ e. inr (ap (λ (l : ℕ). eval ρ n l p (more d w)) (length_more w) ∙ e)) (eval_goes ρ grows h n (length_of w) p w)
  eval_goes ρ grows h n b (close k) w = ⊎_elim (λ s. inl s) (λ e. inr (ap (out 0) e)) (ends k b w)
  eval_goes ρ grows h n b (marked p) w = go (eqb n 0) (λ u. eval_goes ρ grows h (n - 1) b p u)
    where
      go : (t : Bool) → ((u : World) → Goes d (eval ρ (n - 1) b p) u) → Goes d (λ u. elim t [ true ↦ out 0 (does (refuse deep) u) | false ↦ eval ρ (n - 1) b p (mark u) ]) w
      go true q = ⊎_elim (λ s. inl s) (λ e. inr (ap (out 0) e)) (acts (refuse deep) w)
      go false q =
          then_goes (λ u. out 0 (mark u)) (λ v u. eval ρ (n - 1) b p u) w (λ v u. eval_grows ρ grows (n - 1) b p u) (⊎_elim (λ s. inl s) (λ e. inr (ap (out 0) e)) (marks w)) (λ v u. q u)
  eval_goes ρ grows h n b (loop p) w =
      ⊎_elim (λ s. inl s) (λ e. inr (ap (λ (l : ℕ). iter (l + 1) (eval ρ n b p) (more d w)) (left_more w) ∙ e))
      (iter_goes (left_of w + 1) (eval ρ n b p) (eval_grows ρ grows n b p) (eval_goes ρ grows h n b p) w)
  eval_goes ρ grows h n b (scoped p) w =
      let o = eval ρ n b p w in
      ⊎_elim (λ s. inl (back_short w o.world s))
      (λ e. inr (ap (λ (u : Out). out u.val (give_back (more d w) u.world)) e ∙ ap (out o.val) (back_more w o.world))) (eval_goes ρ grows h n b p w)
  eval_goes ρ grows h n b (attempt p) w =
      let o = eval ρ n b p w in
      ⊎_elim (λ s. inl (since_short w o.world s)) (λ e. inr (ap (λ (u : Out). ok_since (more d w) u.world) e ∙ since_more w o.world)) (eval_goes ρ grows h n b p w)
  eval_goes ρ grows h n b (call r) w = h n b r w

  module _ {R : Type 0} (body : R → Prog R false) where
    upto_goes : (k m c : ℕ) (r : R) (w : World) → Goes d (upto body k m c r) w
    unfolding upto
    upto_goes zero m c r w = inr refl
    upto_goes (suc k) m c r w = eval_goes (upto body k) (upto_grows body k) (upto_goes k) m c (body r) w

    rule_goes : (m c : ℕ) (r : R) (w : World) → Goes d (rule body m c r) w
    unfolding rule
    rule_goes m c r w = upto_goes (suc m) m c r w

-- ---- calls

module _ (c : Call) (n : ℕ) (fits : n ≤ c.scratch) where
  abbrev less : Call
  less = with_scratch c n

  abbrev extra : ℕ
  extra = c.scratch / 8 - n / 8

  -- the reading with less scratch
  reading_more : (es : List Entry) → Short (reading less es) ⊎ (reading c es ≡ more extra (reading less es))
  unfolding reading start
  reading_more es =
      let r : n / 8 + extra ≡ c.scratch / 8 = omega arith in
      let e : more extra (on (start less es)) ≡ on (start c es) = rw r refl in
      ⊎_elim (λ s. inl s) (λ q. inr (ap (λ (w : World). (eval (rule body) c.depth 0 root w).world) (sym e) ∙ ap (λ (o : Out). o.world) q))
      (eval_goes extra (rule body) (rule_grows body) (rule_goes extra body) c.depth 0 root (on (start less es)))

  finish_more : (w : World) → finish c (more extra w) ≡ cleared_to (finish less w) c.scratch
  unfolding finish refusal handed
  finish_more (refused k l) = refl
  finish_more (on s) = go (leb (length (nodes_bytes (nodes_of s.log))) c.nodes) (leb (length (env_bytes s.env)) c.final)
    where
      ends : Call → Bool → Bool → Result
      ends k t u = elim t [ true ↦ elim u [ true ↦ handed k (nodes_bytes (nodes_of s.log)) (find_bytes s.finds) (env_bytes s.env) | false ↦ refusal k no_final ] | false ↦ refusal k no_nodes ]

      go : (t u : Bool) → ends c t u ≡ cleared_to (ends less t u) c.scratch
      go true true = refl
      go true false = refl
      go false u = refl

  short_answer : (w : World) → Short w → (finish less w).answer ≡ no_scratch
  unfolding finish refusal
  short_answer (refused k l) h = h
  short_answer (on s) h = absurd h

  -- more scratch changes nothing but its own bytes, unless the answer is 5
  read_more : ((read less).answer ≡ no_scratch) ⊎ (read c ≡ cleared_to (read less) c.scratch)
  unfolding read read_with settings_fit refusal
  read_more = go (settings_fit c) (records_fit (length c.text) c.toks (record_count c.toks)) (env_of c.env)
    where
      asked : Call → Bool → Bool → Option (List Entry) → Result
      asked k t u o = elim t [ true ↦ elim u [ true ↦ read_with k o | false ↦ refusal k bad_records ] | false ↦ refusal k bad_settings ]

      go : (t u : Bool) (o : Option (List Entry)) → ((asked less t u o).answer ≡ no_scratch) ⊎ (asked c t u o ≡ cleared_to (asked less t u o) c.scratch)
      go true true none = inr refl
      go true true (some es) =
          ⊎_elim (λ s. inl (short_answer (reading less es) s)) (λ e. inr (ap (finish c) e ∙ finish_more (reading less es))) (reading_more es)
      go true false o = inr refl
      go false u o = inr refl

-- A call is served as document 01 says, but that with more scratch than `most_scratch` it may lack some all the same.
pub served_read : (c : Call) → ((served c).answer ≡ no_scratch → ⊥) → served c ≡ read c
served_read c z = go (leb c.scratch most_scratch) refl
  where
    go : (t : Bool) → leb c.scratch most_scratch ≡ t → served c ≡ read c
    go true e = served_short c (leb-true c.scratch most_scratch e)
    go false e =
        let long = leb-false c.scratch most_scratch e in
        let q = served_long c long in
        ⊎_elim (λ a. absurd (z (ap (λ (r : Result). r.answer) q ∙ a))) (λ a. q ∙ sym a) (read_more c most_scratch (omega arith))
