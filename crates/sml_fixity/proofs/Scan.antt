-- A walk through an environment's bytes, entry by entry: what is known at an entry, and behind it.
use Prim.Native.Nat.{ℕ, zero, suc, ◌+◌, ◌≤◌, ◌<◌}
use native.Mathlib.Nat.{add_assoc, add-zero}
use native.Mathlib.Numerals.{add-one}
use native.Mathlib.Omega.{arith}
use mathlib.Core.Path.{◌≡◌, refl, sym, ◌∙◌}
use mathlib.Core.List.{List, [], ◌∷◌}
use mathlib.Core.Option.{none, some}
use mathlib.Core.Bool.{true, false}
use lib.ListN.{length, get_or, drop, length-drop, drop_of_length-le}
use lib.Seq.{drop-cons, drop-drop, get_or-drop}
use Rattle.grammar.specs.Bytes.{same, pair_at}
use Rattle.grammar.specs.Env.{Entry, find, entry_in, entries_of, env_of, max_entries, Right}
use Rattle.sml_fixity.specs.EnvBytes.{Entered, entered, no_entries}
use Rattle.sml_fixity.specs.Table.{part, fix_in, entries_in}
use Rattle.sml_fixity.proofs.Fixities.{fix_some}

-- The bytes from `at` on are entries. Of the names that are still asked for, P, they say what all entries say.
pub record Rest (P : List ℕ → Type 0) (env : List ℕ) (at : ℕ) : Type 0 where
  pub k : ℕ
  pub last : List ℕ
  pub es : List Entry
  pub is : entries_of k last (drop at env) ≡ some es
  pub left : (x : List ℕ) → P x → find x es ≡ find x (entries_in env)
  pub within : at ≤ length env

-- There is an entry at `at`, and those behind it are `rest`.
pub record Next (env : List ℕ) (at : ℕ) (es : List Entry) : Type 0 where
  pub room : at + 1 + get_or env at 0 + 3 ≤ length env
  pub kind : get_or env (at + 1 + get_or env at 0 + 2) 0 ≤ Right
  pub said : (x : List ℕ) → same x (part env (at + 1) (get_or env at 0)) ≡ true → find x es ≡ fix_in env (at + 1 + get_or env at 0)
  pub k : ℕ
  pub rest : List Entry
  pub others : entries_of k (part env (at + 1) (get_or env at 0)) (drop (at + 1 + get_or env at 0 + 3) env) ≡ some rest
  pub passed : (x : List ℕ) → same x (part env (at + 1) (get_or env at 0)) ≡ false → find x es ≡ find x rest

pub starts : (P : List ℕ → Type 0) (env : List ℕ) → env_of env ≡ some (entries_in env) → Rest P env 0
unfolding env_of
starts P env h = record { k = max_entries; last = []; es = entries_in env; is = h; left = λ x p. refl; within = omega arith }

pub ends : {P : List ℕ → Type 0} {env : List ℕ} {at : ℕ} → Rest P env at → length env ≤ at → (x : List ℕ) → P x → find x (entries_in env) ≡ none
unfolding find
ends {env = env} r h x p =
    let e : r.es ≡ [] = no_entries r.k r.last r.es (rw (drop_of_length-le env h) at r.is) in
    sym (r.left x p) ∙ rw e

module _ (env : List ℕ) (at : ℕ) (h : at < length env) where
  front : drop at env ≡ get_or env at 0 ∷ drop (at + 1) env
  front = rw (add-one, drop-cons env at 0)

  shift : (i : ℕ) → get_or env (at + 1 + get_or env at 0 + i) 0 ≡ get_or (drop (at + 1) env) (get_or env at 0 + i) 0
  shift i = rw (add_assoc (at + 1) (get_or env at 0) i) (sym (get_or-drop (at + 1) env (get_or env at 0 + i) 0))

  enters : (k : ℕ) (last : List ℕ) (es : List Entry) → Entered k last (get_or env at 0) (drop (at + 1) env) es → Next env at es
  unfolding find
  enters k last es s =
      let n = get_or env at 0 in
      let z : at + 1 + (n + 3) ≡ at + 1 + n + 3 = omega arith in
      let p : pair_at env (at + 1 + n) ≡ pair_at (drop (at + 1) env) n = cc (shift 0, shift 1, add-zero n, add-zero (at + 1 + n)) in
      record {
        room = omega (arith, simp length-drop at s.whole.room);
        kind = rw (shift 2) s.whole.kind;
        said = λ x e.
            let f : find x es ≡ some (entry_in n (drop (at + 1) env)).fixity = rw s.is (rw (e, find)) in
            f ∙ sym (fix_some env (at + 1 + n) _ _ p (shift 2) (omega (arith, s.whole.kind)));
        k = k;
        rest = s.rest;
        others = rw (← z, ← drop-drop (n + 3) (at + 1) env) s.others;
        passed = λ x e. rw s.is (rw (e, find));
      }

  pub next : {P : List ℕ → Type 0} (r : Rest P env at) → Next env at r.es
  unfolding entries_of
  next r = go r.k r.is
    where
      go : (k : ℕ) → entries_of k r.last (drop at env) ≡ some r.es → Next env at r.es
      go zero i =
          let q : none ≡ some r.es = rw front at i in
          let z : ◌≡◌ {A = ℕ} 0 1 = cc in absurd (omega arith)
      go (suc k) i = enters k r.last r.es (entered k r.last (get_or env at 0) (drop (at + 1) env) r.es (rw front at i))

  -- what the entry says of a name that is asked for
  pub hit : {P : List ℕ → Type 0} → Rest P env at → (x : List ℕ) → P x → same x (part env (at + 1) (get_or env at 0)) ≡ true → find x (entries_in env) ≡ fix_in env (at + 1 + get_or env at 0)
  hit r x p e = sym (r.left x p) ∙ (next r).said x e

  -- behind it, where its name is not asked for any more
  pub miss : {P : List ℕ → Type 0} (Q : List ℕ → Type 0) → Rest P env at → ((x : List ℕ) → Q x → P x × (same x (part env (at + 1) (get_or env at 0)) ≡ false)) → Rest Q env (at + 1 + get_or env at 0 + 3)
  miss Q r f =
      let e = next r in
      record {
        k = e.k;
        last = part env (at + 1) (get_or env at 0);
        es = e.rest;
        is = e.others;
        left = λ x q. let p = f x q in sym (e.passed x p.1) ∙ r.left x p.0;
        within = omega arith;
      }
