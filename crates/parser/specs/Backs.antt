-- The laws of `attempt` and `scoped`: an old state over buffers that were written since still means the old reading, since what stood there stays.
use Rattle.std.specs.Prelude.{ℕ, zero, suc, ◌≤◌, ◌≡◌, List, ◌++◌, Bool, true, false, eqb, length, take}
use Rattle.std.proofs.Common.{le_refl, ◌∙◌, sym, eqb-true, length-append, take_all, take_at}
use native.Mathlib.Omega.{arith}
use Rattle.std.proofs.Math.Path.{refl, ap}
use Rattle.std.proofs.lemmas.Bool.{eqb-false}
use Rattle.std.proofs.lemmas.List.{take-append-le}
use Rattle.grammar.specs.World.{World, Out, out, give_back, ok_since, max_changes}
use Rattle.grammar.specs.World.World.{refused, on}
use Rattle.grammar.specs.Prog.{Prog, eval, rule}
use Rattle.grammar.specs.Prog.Prog.{scoped, attempt}
use Rattle.grammar.specs.Rule.{Rule}
use Rattle.grammar.specs.Root.{body}
use Rattle.laws.specs.Choice.{if_both}
use Rattle.laws.specs.Grows.{Grew, Longer, eval_grows, rule_grows}
use Rattle.sml_fixity.specs.Table.{Stands, entries_in, in_force}
use Rattle.sml_fixity.specs.Names.{by_test}
use Rattle.sml_fixity.proofs.Journals.{force_kept, journal_kept}
use Rattle.parser.specs.View.{Mem, mem, Sound, seen_in, now_of, chunks, rec_of, find_of, Kept, Found, out_state, out_val, since_of, back_of, table_in, rest_of}
use Rattle.parser.specs.Runs.{RunsIn, shut, length_chunks}
use Rattle.parser.specs.Plans.{Plan, Steps, s_run}
use Rattle.parser.specs.Plans.Plan.{runs}
use Rattle.parser.specs.declared.State.{State}

-- ---- a buffer's first records

take_chunks : {X : Type 0} (f : ℕ → ℕ → ℕ → X) (xs : List ℕ) (n m : ℕ) → n ≤ m → take n (chunks f xs m) ≡ chunks f xs n
unfolding chunks
take_chunks f xs n zero h = let e : n ≡ 0 = omega arith in rw e refl
take_chunks f xs n (suc m) h =
    by_test (eqb n (suc m))
    (λ t. rw (eqb-true n (suc m) t) (take_all (suc m) (chunks f xs (suc m)) (omega (arith, length_chunks f xs (suc m)))))
    (λ t. let z = eqb-false n (suc m) t in take-append-le n (chunks f xs m) _ (omega (arith, length_chunks f xs m)) ∙ take_chunks f xs n m (omega arith))

-- two buffers, where the one's records are the other's and more: its first records are the other's
same_chunks : {X : Type 0} (f : ℕ → ℕ → ℕ → X) (xs ys : List ℕ) (n m : ℕ) (more : List X) → chunks f ys m ≡ chunks f xs n ++ more → chunks f ys n ≡ chunks f xs n
same_chunks f xs ys n m more e =
    let h : n ≤ m = omega (arith, length_chunks f xs n, length_chunks f ys m, simp length-append at (ap length e)) in
    sym (take_chunks f ys n m h) ∙ ap (take n) e ∙ take_at (chunks f xs n) more n (length_chunks f xs n)

-- ---- what a program did

module _ {g : Bool} {n b u : ℕ} {p : Prog Rule g} {a c : Mem} (r : RunsIn n b p a c u) where
  -- the reading after it
  world_is : seen_in c ≡ (eval (rule body) n b p (seen_in a)).world
  world_is = ap (λ (o : Out). o.world) r.same

  -- it only grew
  grown : Grew (seen_in a) (seen_in c)
  grown = rw world_is (eval_grows (rule body) (rule_grows body) n b p (seen_in a))

-- a reading that goes on
pub opened : (m : Mem) → eqb m.state.stop 0 ≡ true → seen_in m ≡ on (now_of m)
unfolding seen_in
opened m e = rw (e, seen_in)

-- two that go on: the second got longer
longer : (a c : Mem) → Grew (seen_in a) (seen_in c) → eqb a.state.stop 0 ≡ true → eqb c.state.stop 0 ≡ true → Longer (now_of a) (now_of c)
longer a c h p q = rw (opened a p, opened c q) at h

-- a refused reading stays so
stays : (a c : Mem) → Grew (seen_in a) (seen_in c) → eqb a.state.stop 0 ≡ false → eqb c.state.stop 0 ≡ false
stays a c h p =
    by_test (eqb c.state.stop 0)
    (λ q.
    let w : on (now_of c) ≡ refused a.state.stop a.state.len = rw (shut a p, opened c q) at h in
    let z : ◌≡◌ {A = ℕ} 0 1 = cc in absurd (omega arith))
    (λ q. q)

-- ---- an old state over new buffers

module _ {x t e j l f j' l' f' : List ℕ} {s s' : State} (k : Kept (mem x t e j l f s) (mem x t e j' l' f' s')) where
  -- the old fixities are in force by the new journal as by the old
  same_force : in_force x (entries_in e) j' s.fixes.len ≡ in_force x (entries_in e) j s.fixes.len
  same_force = force_kept x j j' s.fixes.len k.bytes (entries_in e) s.fixes.len (le_refl s.fixes.len)

  -- the old table stands over the new journal, whichever changes are counted
  stands_back : (n : ℕ) → Stands x e j (table_in s) → Stands x e j' (table_in s') → s.fixes.len ≤ n → n ≤ max_changes
      → Stands x e j' (record { len = s.fixes.len; entries = s.fixes.entries; changes = n })
  stands_back n p q h m = record {
    form = p.form;
    records = journal_kept x j j' s.fixes.len k.bytes (let y = p.records.few in let z = q.room in omega arith) p.records;
    counted = p.counted ∙ ap length (sym same_force);
    few = p.few;
    begun = h;
    made = m;
    short = p.short;
    room = q.room;
  }

  -- the fixities are given back
  sound_back : Sound (mem x t e j l f s) → Sound (mem x t e j' l' f' s') → Sound (mem x t e j' l' f' (back_of s s'))
  sound_back o o' = record {
    reads = o'.reads;
    names = o'.names;
    logs = o'.logs;
    holds = o'.holds;
    stands = let y = k.grows in let z = o'.stands.begun in stands_back s'.fixes.changes o.stands o'.stands (omega arith) o'.stands.made;
  }

  kept_back : Kept (mem x t e j l f s) (mem x t e j' l' f' (back_of s s'))
  kept_back = record { grows = le_refl s.fixes.len; bytes = k.bytes }

  -- their reading has the old environment
  given : Grew (seen_in (mem x t e j l f s)) (seen_in (mem x t e j' l' f' s'))
      → seen_in (mem x t e j' l' f' (back_of s s')) ≡ give_back (seen_in (mem x t e j l f s)) (seen_in (mem x t e j' l' f' s'))
  unfolding give_back now_of rest_of
  given h =
      let a = mem x t e j l f s in
      let c = mem x t e j' l' f' s' in
      let r = mem x t e j' l' f' (back_of s s') in
      by_test (eqb s'.stop 0)
      (λ q.
      by_test (eqb s.stop 0)
      (λ p. rw (opened a p, opened c q, opened r q) (cc same_force))
      (λ p. let z = stays a c h p in cc))
      (λ q.
      by_test (eqb s.stop 0)
      (λ p. rw (opened a p, shut c q, shut r q) refl)
      (λ p. rw (shut a p, shut c q, shut r q) refl))

-- where both go on, the old state over the new buffers is as it was
module _ {g : Bool} {n b u : ℕ} {p : Prog Rule g} {x t e j l f j' l' f' : List ℕ} {s s' : State}
    (r : RunsIn n b p (mem x t e j l f s) (mem x t e j' l' f' s') u) (o : Sound (mem x t e j l f s)) (on : eqb s.stop 0 ≡ true) (on' : eqb s'.stop 0 ≡ true) where
  grew : Longer (now_of (mem x t e j l f s)) (now_of (mem x t e j' l' f' s'))
  grew = longer (mem x t e j l f s) (mem x t e j' l' f' s') (grown r) on on'

  pub back_ok : Sound (mem x t e j' l' f' s)
  unfolding now_of
  back_ok = record {
    reads = o.reads;
    names = o.names;
    logs = record {
      logged = o.logs.logged;
      within = o.logs.within;
      fits = let y = r.ok.logs.fits in let z = grew.room in omega arith;
      small = o.logs.small;
    };
    holds = record { held = o.holds.held; fits = let y = r.ok.holds.fits in let z = grew.kept in omega arith };
    stands = stands_back r.kept s.fixes.changes o.stands r.ok.stands o.stands.begun o.stands.made;
  }

  back_now : now_of (mem x t e j' l' f' s) ≡ now_of (mem x t e j l f s)
  unfolding now_of rest_of
  back_now =
      cc (same_chunks rec_of l l' s.len s'.len grew.new grew.log, same_chunks find_of f f' s.found s'.found grew.more grew.finds, same_force r.kept)

  pub back_same : seen_in (mem x t e j' l' f' s) ≡ seen_in (mem x t e j l f s)
  back_same = opened (mem x t e j' l' f' s) on ∙ ap World.on back_now ∙ sym (opened (mem x t e j l f s) on)

-- ---- the steps

module _ {g : Bool} {n b u : ℕ} {p : Prog Rule g} {x t e j l f j' l' f' : List ℕ} {s s' : State} (o : Sound (mem x t e j l f s)) (r : RunsIn n b p (mem x t e j l f s) (mem x t e j' l' f' s') u) where
  runs_scoped : {w : State} → w ≡ back_of s s' → RunsIn n b (scoped p) (mem x t e j l f s) (mem x t e j' l' f' w) u
  unfolding eval
  runs_scoped q = rw q record {
    ok = sound_back r.kept o r.ok;
    same = ap (out u) (given r.kept (grown r)) ∙ ap (λ (o : Out). out o.val (give_back (seen_in (mem x t e j l f s)) o.world)) r.same;
    kept = kept_back r.kept;
  }

  -- an attempt ends in a state that means what `ok_since` gives
  ended_so : {w : State} {v : ℕ} → Sound (mem x t e j' l' f' w) → Kept (mem x t e j l f s) (mem x t e j' l' f' w)
      → out v (seen_in (mem x t e j' l' f' w)) ≡ ok_since (seen_in (mem x t e j l f s)) (seen_in (mem x t e j' l' f' s')) → RunsIn n b (attempt p) (mem x t e j l f s) (mem x t e j' l' f' w) v
  unfolding eval
  ended_so o k q = record { ok = o; same = q ∙ ap (ok_since (seen_in (mem x t e j l f s))) (world_is r); kept = k }

  -- it was refused
  since_shut : eqb s'.stop 0 ≡ false → out 0 (seen_in (mem x t e j' l' f' s')) ≡ ok_since (seen_in (mem x t e j l f s)) (seen_in (mem x t e j' l' f' s'))
  unfolding ok_since
  since_shut q =
      by_test (eqb s.stop 0) (λ on. rw (opened (mem x t e j l f s) on, shut (mem x t e j' l' f' s') q) refl) (λ off. rw (shut (mem x t e j l f s) off) refl)

  -- it goes on, so it did before
  was_on : eqb s'.stop 0 ≡ true → eqb s.stop 0 ≡ true
  was_on q =
      by_test (eqb s.stop 0) (λ on. on)
      (λ off. let z = stays (mem x t e j l f s) (mem x t e j' l' f' s') (grown r) off in let z : ◌≡◌ {A = ℕ} 0 1 = cc in absurd (omega arith))

  -- no finding came
  since_none : eqb s'.stop 0 ≡ true → eqb s'.found s.found ≡ true → out 1 (seen_in (mem x t e j' l' f' s')) ≡ ok_since (seen_in (mem x t e j l f s)) (seen_in (mem x t e j' l' f' s'))
  unfolding ok_since now_of
  since_none q h =
      rw (opened (mem x t e j l f s) (was_on q), opened (mem x t e j' l' f' s') q, length_chunks find_of f s.found, length_chunks find_of f' s'.found, h, ok_since) refl

  -- one came
  since_some : eqb s'.stop 0 ≡ true → eqb s'.found s.found ≡ false → out 0 (seen_in (mem x t e j l f s)) ≡ ok_since (seen_in (mem x t e j l f s)) (seen_in (mem x t e j' l' f' s'))
  unfolding ok_since now_of
  since_some q h =
      rw (opened (mem x t e j l f s) (was_on q), opened (mem x t e j' l' f' s') q, length_chunks find_of f s.found, length_chunks find_of f' s'.found, h, ok_since) refl

  since : RunsIn n b (attempt p) (mem x t e j l f s) (mem x t e j' l' f' (out_state (since_of s s'))) (out_val (since_of s s'))
  since = if_both (λ (w : Found). RunsIn n b (attempt p) (mem x t e j l f s) (mem x t e j' l' f' (out_state w)) (out_val w)) (eqb s'.stop 0)
      (λ q. if_both (λ (w : Found). RunsIn n b (attempt p) (mem x t e j l f s) (mem x t e j' l' f' (out_state w)) (out_val w)) (eqb s'.found s.found)
      (λ m. ended_so r.ok r.kept (since_none q m))
      (λ m. ended_so (back_ok r o (was_on q) q) (record { grows = le_refl s.fixes.len; bytes = r.kept.bytes }) (ap (out 0) (back_same r o (was_on q) q) ∙ since_some q m)))
      (λ q. ended_so r.ok r.kept (since_shut q))

  runs_attempt : {w : Found} → w ≡ since_of s s' → RunsIn n b (attempt p) (mem x t e j l f s) (mem x t e j' l' f' (out_state w)) (out_val w)
  runs_attempt q = rw q since

module _ {g : Bool} {n b : ℕ} {p : Prog Rule g} {f : ℕ → ℕ → Plan} {x t e j l y j' l' y' : List ℕ} {s s' : State} {u : ℕ} {c : Mem} {v : ℕ} where
  -- an attempt, and `ok_since` behind it: r is what it left
  pub s_attempt : {r : Found} → RunsIn n b p (mem x t e j l y s) (mem x t e j' l' y' s') u → r ≡ since_of s s'
      → Steps (f (out_val r) (out_state r).len) (mem x t e j' l' y' (out_state r)) c v → Steps (runs n b (attempt p) f) (mem x t e j l y s) c v
  s_attempt q w p = record { go = λ o. (s_run (runs_attempt o q w) p).go o }

  -- a scope, and the fixities given back behind it: r is what that left
  pub s_scoped : {r : State} → RunsIn n b p (mem x t e j l y s) (mem x t e j' l' y' s') u → r ≡ back_of s s'
      → Steps (f u r.len) (mem x t e j' l' y' r) c v → Steps (runs n b (scoped p) f) (mem x t e j l y s) c v
  s_scoped q w p = record { go = λ o. (s_run (runs_scoped o q w) p).go o }

-- ---- what a call behind them requires

module _ {g : Bool} {n b u : ℕ} {p : Prog Rule g} {x t e j l y j' l' y' : List ℕ} {s s' : State} (q : RunsIn n b p (mem x t e j l y s) (mem x t e j' l' y' s') u) where
  -- the fixities were given back
  pub ok_back : {r : State} → r ≡ back_of s s' → Sound (mem x t e j l y s) → Sound (mem x t e j' l' y' r)
  ok_back w o = (runs_scoped o q w).ok

  -- what was tried stays, or the state is back
  pub ok_since_lem : {r : Found} → r ≡ since_of s s' → Sound (mem x t e j l y s) → Sound (mem x t e j' l' y' (out_state r))
  ok_since_lem w o = (runs_attempt o q w).ok
