-- The environment in force after a number of changes: its order, and what it says of a name.
use Prim.Native.Nat.{ℕ, zero, suc, ◌+◌, ◌*◌, ◌≤◌, ◌<◌}
use native.Mathlib.Omega.{arith}
use mathlib.Core.Path.{◌≡◌, refl, ◌∙◌}
use mathlib.Core.List.{List}
use mathlib.Core.Bool.{true, false}
use lib.ListN.{length, get_or}
use Rattle.grammar.specs.Bytes.{same, pair_at}
use Rattle.grammar.specs.Env.{Entry, find}
use Rattle.sml_fixity.specs.Names.{by_test, same_eq}
use Rattle.sml_fixity.specs.Entries.{Sorted, sorted_changed, changed_same, changed_other}
use Rattle.sml_fixity.specs.Table.{change_size, start_at, length_at, what_at, name_at, fix_at, in_force, Short, Journal}

module _ (text : List ℕ) (es : List Entry) (journal : List ℕ) (sorted : Sorted es) where
  pub sorted_force : (n : ℕ) → Sorted (in_force text es journal n)
  unfolding in_force
  sorted_force zero = sorted
  sorted_force (suc n) = sorted_changed (fix_at journal n) (name_at text journal n) (in_force text es journal n) (sorted_force n)

  -- the name of the last change, and any other
  pub found : (x : List ℕ) (i n : ℕ) → n ≡ suc i → same x (name_at text journal i) ≡ true → find x (in_force text es journal n) ≡ fix_at journal i
  unfolding in_force
  found x i n e s = rw (e, same_eq x (name_at text journal i) s) (changed_same (fix_at journal i) (name_at text journal i) (in_force text es journal i) (sorted_force i))

  pub passed : (x : List ℕ) (i n : ℕ) → n ≡ suc i → same x (name_at text journal i) ≡ false → find x (in_force text es journal n) ≡ find x (in_force text es journal i)
  unfolding in_force
  passed x i n e s = rw e (changed_other (fix_at journal i) x (name_at text journal i) (in_force text es journal i) s)

  -- a name that is no change's
  pub untouched : (x : List ℕ) (n : ℕ) → ((i : ℕ) → i < n → same x (name_at text journal i) ≡ false) → find x (in_force text es journal n) ≡ find x es
  unfolding in_force
  untouched x zero f = refl
  untouched x (suc n) f = passed x n (suc n) refl (f n (omega arith)) ∙ untouched x n (λ i h. f i (omega arith))

  -- a name in force has a length of one byte
  pub short_force : ((x : List ℕ) → Short x (find x es)) → (n : ℕ) → ((i : ℕ) → i < n → Short (name_at text journal i) (fix_at journal i)) → (x : List ℕ) → Short x (find x (in_force text es journal n))
  unfolding in_force
  short_force e zero f x = e x
  short_force e (suc n) f x =
      by_test (same x (name_at text journal n)) (λ s. rw (found x n (suc n) refl s, same_eq x (name_at text journal n) s) (f n (omega arith)))
      (λ s. rw (passed x n (suc n) refl s) (short_force e n (λ i h. f i (omega arith)) x))

-- ---- two journals with the same first n records

module _ (text j j' : List ℕ) (n : ℕ) (agree : (i : ℕ) → i < change_size * n → get_or j' i 0 ≡ get_or j i 0) where
  start_kept : (i : ℕ) → i < n → start_at j' i ≡ start_at j i
  start_kept i h = cc (agree (change_size * i) (omega arith), agree (change_size * i + 1) (omega arith))

  length_kept : (i : ℕ) → i < n → length_at j' i ≡ length_at j i
  length_kept i h = cc (agree (change_size * i + 2) (omega arith), agree (change_size * i + 2 + 1) (omega arith))

  what_kept : (i : ℕ) → i < n → what_at j' i ≡ what_at j i
  what_kept i h = agree (change_size * i + 4 + 2) (omega arith)

  prec_kept : (i : ℕ) → i < n → pair_at j' (change_size * i + 4) ≡ pair_at j (change_size * i + 4)
  prec_kept i h = cc (agree (change_size * i + 4) (omega arith), agree (change_size * i + 4 + 1) (omega arith))

  pub force_kept : (es : List Entry) (k : ℕ) → k ≤ n → in_force text es j' k ≡ in_force text es j k
  unfolding in_force
  force_kept es zero h = refl
  force_kept es (suc k) h =
      cc (force_kept es k (omega arith), start_kept k (omega arith), length_kept k (omega arith), what_kept k (omega arith), prec_kept k (omega arith))

  pub journal_kept : change_size * n ≤ length j' → Journal text j n → Journal text j' n
  journal_kept l r = record {
    fits = l;
    few = r.few;
    inside = λ i h. rw (start_kept i h, length_kept i h) (r.inside i h);
    kinds = λ i h. rw (what_kept i h) (r.kinds i h);
    named = λ i h. rw (start_kept i h, length_kept i h, prec_kept i h, what_kept i h) (r.named i h);
  }
