-- Laws of the primitives: one for each of their outcomes, as the contract has it there.
use Prim.Native.Nat.{ℕ, zero, suc, ◌+◌, ◌-◌, ◌*◌, ◌/◌, ◌%◌, ◌≤◌, ◌<◌}
use native.Mathlib.Nat.{eq-or-lt_of_le}
use native.Mathlib.Numerals.{unary_clauses}
use native.Mathlib.Omega.{arith}
use mathlib.Core.Path.{◌≡◌, refl, ap, sym, ◌∙◌}
use mathlib.Core.Logic.{⊎_elim}
use mathlib.Core.List.{List, [], ◌∷◌, ◌++◌}
use mathlib.Core.Option.{none}
use mathlib.Core.Bool.{Bool, true, false}
use borrow.Author.Tests.{eq-eqb, ne_eqb, lt-ltb, le-ltb, eqb-true, eqb-false}
use lib.Dec.{eqb}
use Rattle.grammar.specs.Tokens.{Token, live, kind_at}
use Rattle.grammar.specs.SyntaxKind as SK
use Rattle.grammar.specs.World.{World, Rec, token_in, token_ahead, ahead, index_ahead, mode_of, no_name, refuse, with_record, place_in, take_in, mark, take1, end, report, no_scratch, no_findings}
use Rattle.grammar.specs.World.Rec.{took}
use Rattle.grammar.specs.World.World.{refused, on}
use Rattle.grammar.specs.Prog.{seen}
use Rattle.grammar.specs.Prog.Look.{kind, mode}
use Rattle.parser.specs.declared.State.{State}
use Rattle.std.specs.Prelude.{Option, Some, None, Ok, Err, nat_eq}
use Rattle.std.specs.Option.{option_eq}
use Rattle.parser.specs.View.{Mem, mem, NoneAhead, Stood, kind_of, Reads, Logs, Sound, Next, Did, Kept, Saw, Is, Spells, Marks, Bumps, Adds, Tells, chunks, rec_of, find_of, put_at, rest_of, now_of, seen_in, is_off, refused_by, since_of, took_tag, ended_tag}
use Rattle.parser.specs.Runs.{on_at, off_at, kept_same, length_chunks, refused_same, ok_refused}
use Rattle.parser.specs.View.{token_at}
use Rattle.parser.proofs.Buffers.{live_none, live_token, chunks_put, length_put}

-- ---- the reading

module _ (m : Mem) where
  seen_on : false ≡ is_off m.state → seen_in m ≡ on (now_of m)
  unfolding seen_in
  seen_on e = rw (on_at e, seen_in)

  seen_off : true ≡ is_off m.state → seen_in m ≡ refused m.state.stop m.state.len
  unfolding seen_in
  seen_off h = rw (off_at h, seen_in)

  rest_none : m.state.count ≤ m.state.at → rest_of m.text m.toks m.state ≡ []
  unfolding rest_of
  rest_none h = live_none m.text m.toks m.state.count m.state.at h

  rest_token : Sound m → m.state.at < m.state.count
      → rest_of m.text m.toks m.state ≡ token_at m.text m.toks m.state.at ∷ live m.text m.toks (m.state.count - (m.state.at + 1)) (m.state.at + 1)
  unfolding rest_of
  rest_token o h = live_token m.text m.toks m.state.count m.state.at h (o.reads.ready h)

  token_on : (n : ℕ) → false ≡ is_off m.state → token_ahead n (seen_in m) ≡ token_in n (live m.text m.toks (m.state.count - m.state.at) m.state.at)
  unfolding token_ahead now_of rest_of
  token_on n h = rw (seen_on h)

  token_off : (n : ℕ) → true ≡ is_off m.state → token_ahead n (seen_in m) ≡ none
  unfolding token_ahead
  token_off n h = rw (seen_off h)

-- ---- looks

-- A look n ahead from `at` that has come to i, which is no trivia where it is a token, with so many tokens still to pass.
pub record Ahead (toks : List ℕ) (count at n i left : ℕ) : Type 0 where
  pub ready : i < count → kind_at toks i ≡ SK.Trivia → ⊥
  pub same : (text : List ℕ) → token_in left (live text toks (count - i) i) ≡ token_in n (live text toks (count - at) at)

pass_token : (n : ℕ) (t : Token) (ts : List Token) → (n ≡ 0 → ⊥) → token_in n (t ∷ ts) ≡ token_in (n - 1) ts
unfolding token_in
pass_token zero t ts z = absurd (z refl)
pass_token (suc n) t ts z = simp unary_clauses

module _ {toks : List ℕ} {count at : ℕ} where
  pub ahead_starts : {n : ℕ} → Reads toks at count → Ahead toks count at n at n
  ahead_starts r = record { ready = r.ready; same = λ x. refl }

  pub ahead_next : {n i left r : ℕ} → Ahead toks count at n i left → i < count → (left ≡ 0 → ⊥) → Next toks count (i + 1) r → Ahead toks count at n r (left - 1)
  ahead_next {i = i} {left = left} a h z x = record {
    ready = x.ready;
    same = λ text.
        ap (token_in (left - 1)) (x.same text)
        ∙ sym (pass_token left (token_at text toks i) (live text toks (count - (i + 1)) (i + 1)) z)
        ∙ sym (ap (token_in left) (live_token text toks count i h (a.ready h)))
        ∙ a.same text;
  }

module _ {toks : List ℕ} {s : State} {n : ℕ} where
  pub none_off : true ≡ is_off s → NoneAhead n toks s
  none_off h = record { is = λ x e j l f. token_off (mem x toks e j l f s) n h }

  pub none_ahead : {i left : ℕ} → Ahead toks s.count s.at n i left → false ≡ is_off s → s.count ≤ i → NoneAhead n toks s
  unfolding token_in
  none_ahead {i} {left} a h p = record { is = λ x e j l f. rw (token_on (mem x toks e j l f s) n h, ← a.same x, live_none x toks s.count i p) refl }

  pub stood : {i left : ℕ} → Ahead toks s.count s.at n i left → left ≡ 0 → false ≡ is_off s → i < s.count → Stood n toks s i
  unfolding token_in
  stood {i} a z h p = record {
    inside = p;
    goes = λ x e j l f. seen_on (mem x toks e j l f s) h;
    is = λ x e j l f. rw (token_on (mem x toks e j l f s) n h, ← a.same x, z, live_token x toks s.count i p (a.ready p)) refl;
  }

  pub saw_none : NoneAhead n toks s → Saw (kind n) toks s 0
  unfolding seen ahead
  saw_none a = record { same = λ x e j l f. rw (a.is x e j l f, seen, ahead) }

  pub saw_kind : {i : ℕ} → Stood n toks s i → Saw (kind n) toks s (suc (kind_at toks i))
  unfolding seen ahead
  saw_kind a = record { same = λ x e j l f. rw (a.is x e j l f, seen, ahead) }

suc_eqb : (k want : ℕ) → eqb k want ≡ eqb (suc k) (want + 1)
suc_eqb k want = go (eqb k want) refl
  where
    go : (t : Bool) → eqb k want ≡ t → t ≡ eqb (suc k) (want + 1)
    go true e = sym (eq-eqb (suc k) (want + 1) (omega (arith, eqb-true k want e)))
    go false e = sym (ne_eqb (suc k) (want + 1) (λ q. eqb-false k want e (omega arith)))

-- whether a token is of a kind, from what a look at it found
module _ {toks : List ℕ} {s : State} {n want : ℕ} where
  pub is_seen : {r : Bool} (o : Option ℕ) → Saw (kind n) toks s (kind_of o) → r ≡ option_eq nat_eq o (Some want) → Is n toks s want r
  unfolding seen
  is_seen None w q = record { same = λ x e j l f. q ∙ sym (rw (← w.same x e j l f) (ne_eqb 0 (want + 1) (λ e. omega arith))) }
  is_seen (Some k) w q = record { same = λ x e j l f. q ∙ rw (← w.same x e j l f) (suc_eqb k want) }

-- the index of the next token
module _ {s : State} where
  pub spells_off : true ≡ is_off s → Spells s no_name
  unfolding seen index_ahead
  spells_off h = record { small = λ p. omega arith; same = λ x t e j l f o. rw (token_off (mem x t e j l f s) 0 h, seen, index_ahead) }

  pub spells_none : false ≡ is_off s → s.count ≤ s.at → Spells s no_name
  unfolding seen index_ahead token_in
  spells_none h p = record { small = λ p. omega arith; same = λ x t e j l f o. rw (token_on (mem x t e j l f s) 0 h, live_none x t s.count s.at p, seen, index_ahead) }

  pub spells_at : false ≡ is_off s → s.at < s.count → Spells s s.at
  unfolding seen index_ahead token_in
  spells_at h p = record { small = λ q. omega arith; same = λ x t e j l f o. rw (token_on (mem x t e j l f s) 0 h, live_token x t s.count s.at p (o.reads.ready p), seen, index_ahead) }

-- the mode
module _ {toks : List ℕ} {s : State} where
  pub mode_off : true ≡ is_off s → Saw mode toks s 0
  unfolding seen mode_of
  mode_off h = record { same = λ x e j l f. rw (seen_off (mem x toks e j l f s) h) }

  pub mode_on : false ≡ is_off s → Saw mode toks s s.mode
  unfolding seen mode_of now_of
  mode_on h = record { same = λ x e j l f. rw (seen_on (mem x toks e j l f s) h) }

-- ---- what `ok_since` leaves

module _ (s s' : State) where
  pub since_off : true ≡ is_off s' → Err s' ≡ since_of s s'
  since_off h = rw (off_at h, since_of)

  module _ (on' : false ≡ is_off s') where
    pub since_same : s'.found ≡ s.found → Ok s' ≡ since_of s s'
    since_same h = rw (on_at on', eq-eqb s'.found s.found h, since_of)

    pub since_other : (s'.found ≡ s.found → ⊥) → Err s ≡ since_of s s'
    since_other h = rw (on_at on', ne_eqb s'.found s.found h, since_of)

-- ---- operations

-- the state with other counts
abbrev pub moved : State → ℕ → ℕ → ℕ → ℕ → State
moved s at len used found = record { at = at; count = s.count; len = len; used = used; room = s.room; found = found; kept = s.kept; fixes = s.fixes; mode = s.mode; stop = s.stop }

module _ {f : World → World} (m : Mem) (ok : Sound m) where
  -- what was refused stays as it is
  stays : ((k l : ℕ) → f (refused k l) ≡ refused k l) → true ≡ is_off m.state → Did f m m
  stays strict h = record { ok = ok; same = rw (seen_off m h) (sym (strict _ _)); kept = kept_same refl }

  -- a reading that goes on is refused
  refuses : (n : ℕ) {r : State} → r ≡ refused_by n m.state → (n ≡ 0 → ⊥) → f (seen_in m) ≡ refuse n (seen_in m) → Did f m (mem m.text m.toks m.env m.table m.scratch m.finds r)
  refuses n e z q = rw e record { ok = ok_refused n refl ok; same = refused_same n m z ∙ sym q; kept = kept_same refl }

  -- a reading that goes on goes on
  goes : (m' : Mem) → Sound m' → false ≡ is_off m.state → false ≡ is_off m'.state → Kept m m' → f (on (now_of m)) ≡ on (now_of m') → Did f m m'
  goes m' o h h' k g = record { ok = o; same = rw (seen_on m h, seen_on m' h') (sym g); kept = k }

-- one record more of the scratch
module _ {f : World → World} (m : Mem) (ok : Sound m) (on' : false ≡ is_off m.state) (ts : List Token) (l : List Rec) (is : f (on (now_of m)) ≡ with_record (now_of m) ts l) where
  -- where the room is full
  full : {r : State} → r ≡ refused_by no_scratch m.state → m.state.room ≤ m.state.used → Did f m (mem m.text m.toks m.env m.table m.scratch m.finds r)
  unfolding with_record now_of refuse
  full e h =
      refuses m ok no_scratch e (λ z. omega arith)
      (rw (seen_on m on') (is ∙ rw (le-ltb m.state.used m.state.room h, with_record)))

  -- where it is not
  recorded : {l' : List ℕ} {at' len' : ℕ} → m.state.used < m.state.room → Reads m.toks at' m.state.count → Logs l' len' (m.state.used + 1) m.state.room
      → live m.text m.toks (m.state.count - at') at' ≡ ts → chunks rec_of l' len' ≡ l
      → Did f m (mem m.text m.toks m.env m.table l' m.finds (moved m.state at' len' (m.state.used + 1) m.state.found))
  unfolding with_record now_of rest_of
  recorded {l'} {at'} {len'} h r g e e' =
      goes m ok (mem m.text m.toks m.env m.table l' m.finds (moved m.state at' len' (m.state.used + 1) m.state.found))
      record { reads = r; names = ok.names; logs = g; holds = ok.holds; stands = ok.stands } on' on' (kept_same refl)
      (is ∙ rw (lt-ltb m.state.used m.state.room h, ← e, ← e', with_record))

-- ---- a mark

module _ {s : State} where
  pub marks_off : true ≡ is_off s → Marks s s
  unfolding mark
  marks_off h = record { does = λ x t e j l f o. stays (mem x t e j l f s) o (λ n k. refl) h }

  pub marks_full : {r : State} → r ≡ refused_by no_scratch s → false ≡ is_off s → s.room ≤ s.used → Marks s r
  unfolding mark
  marks_full q on' h = record { does = λ x t e j l f o. full (mem x t e j l f s) o on' _ _ refl q h }

  pub marks_goes : false ≡ is_off s → s.used < s.room → Marks s (moved s s.at s.len (s.used + 1) s.found)
  unfolding mark now_of rest_of
  marks_goes on' h = record {
    does = λ x t e j l f o.
        let g = o.logs in
        recorded (mem x t e j l f s) o on' _ _ refl h o.reads record { logged = omega arith; within = omega arith; fits = g.fits; small = g.small } refl refl;
  }

-- ---- a record of the log

-- the log with a record more is within the room
more_logs : (l : List ℕ) (len used room tag k v : ℕ) → Logs l len used room → used < room → Logs (put_at l len tag k v) (len + 1) (used + 1) room
more_logs l len used room tag k v g h = record { logged = omega arith; within = omega arith; fits = rw length_put g.fits; small = g.small }

module _ {l : List ℕ} {s : State} (k b : ℕ) where
  pub adds_off : true ≡ is_off s → Adds (end k b) l s l s
  unfolding end
  adds_off h = record { does = λ x t e j g o. stays (mem x t e j l g s) o (λ n m. refl) h }

  pub adds_full : {r : State} → r ≡ refused_by no_scratch s → false ≡ is_off s → s.room ≤ s.used → Adds (end k b) l s l r
  unfolding end
  adds_full q on' h = record { does = λ x t e j g o. full (mem x t e j l g s) o on' _ _ refl q h }

  pub adds_goes : {l' : List ℕ} → b < 4294967296 → false ≡ is_off s → s.used < s.room → l' ≡ put_at l s.len ended_tag k b → Adds (end k b) l s l' (moved s s.at (s.len + 1) (s.used + 1) s.found)
  unfolding end now_of rest_of
  adds_goes small on' h q = rw q record {
    does = λ x t e j g o.
        let i = o.logs in
        recorded (mem x t e j l g s) o on' _ _ refl h o.reads
        (more_logs l s.len s.used s.room ended_tag k b i h) refl
        (chunks_put rec_of l s.len ended_tag k b (omega arith) small);
  }

-- ---- a token

takes : (m : Mem) → Sound m → m.state.at < m.state.count
    → take1 (on (now_of m)) ≡ with_record (now_of m) (live m.text m.toks (m.state.count - (m.state.at + 1)) (m.state.at + 1)) (chunks rec_of m.scratch m.state.len ++ (took (kind_at m.toks m.state.at) m.state.at ∷ []))
unfolding take1 take_in now_of
takes m o h = ap (take_in (now_of m)) (rest_token m o h)

module _ {t l : List ℕ} {s : State} where
  pub bumps_off : true ≡ is_off s → Bumps t l s l s
  unfolding take1
  bumps_off h = record { does = λ x e j g o. stays (mem x t e j l g s) o (λ n m. refl) h }

  pub bumps_none : false ≡ is_off s → s.count ≤ s.at → Bumps t l s l s
  unfolding take1 take_in now_of
  bumps_none on' h = record {
    does = λ x e j g o.
        let m = mem x t e j l g s in
        goes m o m o on' on' (kept_same refl) (rw (rest_none m h));
  }

  pub bumps_full : {r : State} → r ≡ refused_by no_scratch s → false ≡ is_off s → s.at < s.count → s.room ≤ s.used → Bumps t l s l r
  bumps_full q on' p h = record { does = λ x e j g o. full (mem x t e j l g s) o on' _ _ (takes (mem x t e j l g s) o p) q h }

  pub bumps_goes : {l' : List ℕ} {n : ℕ} → Next t s.count (s.at + 1) n → false ≡ is_off s → s.at < s.count → s.used < s.room → l' ≡ put_at l s.len took_tag (kind_at t s.at) s.at
      → Bumps t l s l' (moved s n (s.len + 1) (s.used + 1) s.found)
  bumps_goes {n = n} i on' p h q = rw q record {
    does = λ x e j g o.
        let r = o.reads in
        let k = o.logs in
        recorded (mem x t e j l g s) o on' _ _ (takes (mem x t e j l g s) o p) h
        record { whole = r.whole; few = r.few; inside = i.inside; ready = i.ready }
        (more_logs l s.len s.used s.room took_tag (kind_at t s.at) s.at k h) (i.same x)
        (chunks_put rec_of l s.len took_tag (kind_at t s.at) s.at (omega arith) (omega arith));
  }

-- ---- a finding

place : (m : Mem) → Sound m → place_in m.state.count (rest_of m.text m.toks m.state) ≡ m.state.at
unfolding place_in
place m o =
    ⊎_elim (λ e. rw (rest_none m (omega arith)) (sym e)) (λ h. rw (rest_token m o h)) (eq-or-lt_of_le o.reads.inside)

-- place and name are taken apart again
find_of_lem : (n d at name : ℕ) → at ≤ 65535 → find_of n d (at + 65536 * name) ≡ record { number = n; detail = d; place = at; name = name }
find_of_lem n d at name h =
    let p : (at + 65536 * name) % 65536 ≡ at = omega arith in
    let q : (at + 65536 * name) / 65536 ≡ name = omega arith in
    rw (p, q)

module _ {g : List ℕ} {s : State} (n d name : ℕ) where
  pub tells_off : true ≡ is_off s → Tells (report n d name) g s g s
  unfolding report
  tells_off h = record { does = λ x t e j l o. stays (mem x t e j l g s) o (λ n m. refl) h }

  pub tells_full : {r : State} → r ≡ refused_by no_findings s → false ≡ is_off s → s.kept ≤ s.found → Tells (report n d name) g s g r
  unfolding report now_of refuse
  tells_full q on' h = record {
    does = λ x t e j l o.
        let m = mem x t e j l g s in
        refuses m o no_findings q (λ z. omega arith)
        (rw (seen_on m on', length_chunks find_of g s.found, le-ltb s.found s.kept h, report));
  }

  pub tells_goes : {g' : List ℕ} → s.at ≤ 65535 → name ≤ 65535 → false ≡ is_off s → s.found < s.kept → g' ≡ put_at g s.found n d (s.at + 65536 * name)
      → Tells (report n d name) g s g' (moved s s.at s.len s.used (s.found + 1))
  unfolding report now_of rest_of
  tells_goes a b on' h q = rw q record {
    does = λ x t e j l o.
        let i = o.holds in
        let m = mem x t e j l g s in
        goes m o (mem x t e j l (put_at g s.found n d (s.at + 65536 * name)) (moved s s.at s.len s.used (s.found + 1)))
        record { reads = o.reads; names = o.names; logs = o.logs; holds = record { held = omega arith; fits = rw length_put i.fits }; stands = o.stands } on' on' (kept_same refl)
        (rw (length_chunks find_of g s.found, lt-ltb s.found s.kept h, place m o, chunks_put find_of g s.found n d (s.at + 65536 * name) (omega arith) (omega arith), find_of_lem n d s.at name a, report));
  }
