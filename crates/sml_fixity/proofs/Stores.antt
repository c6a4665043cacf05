-- A record of the journal that was written: its bytes, the numbers in them, and the bytes before it.
use Prim.Native.Nat.{ℕ, zero, suc, ◌+◌, ◌*◌, ◌≤◌, ◌<◌}
use native.Mathlib.Nat.{add-zero, add-suc, suc-add}
use native.Mathlib.Omega.{arith}
use mathlib.Core.Path.{◌≡◌, refl, ◌∙◌}
use mathlib.Core.List.{List, [], ◌∷◌}
use mathlib.Core.Option.{Option}
use lib.Dec.{lit<}
use lib.ListN.{length, get_or, set, length-set}
use lib.Seq.{sets, length-sets, get_or-set_same, get_or-set_other}
use Rattle.grammar.specs.Bytes.{pair_at, low, high}
use Rattle.grammar.specs.Env.{Infix}
use Rattle.sml_fixity.specs.Table.{change_size, start_at, length_at, what_at, what_of, prec_of, record_of, put_at}

sets_below : (vs l : List ℕ) (i j : ℕ) → j < i → get_or (sets l i vs) j 0 ≡ get_or l j 0
sets_below [] l i j h = refl
sets_below (a ∷ vs) l i j h =
    sets_below vs (set l i a) (suc i) j (omega arith) ∙ get_or-set_other l i j a 0 (λ e. omega arith)

sets_in : (vs l : List ℕ) (i k : ℕ) → i + length vs ≤ length l → k < length vs → get_or (sets l i vs) (i + k) 0 ≡ get_or vs k 0
sets_in [] l i k h p = absurd (omega arith)
sets_in (a ∷ vs) l i zero h p =
    rw (add-zero i) (sets_below vs (set l i a) (suc i) i (omega arith) ∙ get_or-set_same l i a 0 (omega arith))
sets_in (a ∷ vs) l i (suc k) h p =
    rw (add-suc, ← suc-add i k) (sets_in vs (set l i a) (suc i) k (simp length-set (omega arith)) (omega arith))

two_bytes : (v : ℕ) → v ≤ 65535 → low v + 256 * high v ≡ v
two_bytes v h = omega arith

module _ (journal : List ℕ) (n start len : ℕ) (c : Option Infix) where
  pub put_length : length (put_at journal n start len c) ≡ length journal
  unfolding put_at
  put_length = length-sets journal (change_size * n) (record_of start len c)

  pub put_below : (i : ℕ) → i < change_size * n → get_or (put_at journal n start len c) i 0 ≡ get_or journal i 0
  unfolding put_at
  put_below i h = sets_below (record_of start len c) journal (change_size * n) i h

  module _ (room : change_size * n + 8 ≤ length journal) where
    put_in : (k : ℕ) → k < 8 → get_or (put_at journal n start len c) (change_size * n + k) 0 ≡ get_or (record_of start len c) k 0
    unfolding put_at
    put_in k h = sets_in (record_of start len c) journal (change_size * n) k room h

    pub put_start : start ≤ 65535 → start_at (put_at journal n start len c) n ≡ start
    put_start h = cc (put_in 0 (lit< tt), put_in 1 (lit< tt), add-zero (change_size * n), two_bytes start h)

    pub put_len : len ≤ 65535 → length_at (put_at journal n start len c) n ≡ len
    put_len h =
        let e : change_size * n + 2 + 1 ≡ change_size * n + 3 = omega arith in
        cc (put_in 2 (lit< tt), put_in 3 (lit< tt), two_bytes len h)

    pub put_prec : prec_of c ≤ 65535 → pair_at (put_at journal n start len c) (change_size * n + 4) ≡ prec_of c
    put_prec h =
        let e : change_size * n + 4 + 1 ≡ change_size * n + 5 = omega arith in
        cc (put_in 4 (lit< tt), put_in 5 (lit< tt), two_bytes (prec_of c) h)

    pub put_what : what_at (put_at journal n start len c) n ≡ what_of c
    put_what =
        let e : change_size * n + 4 + 2 ≡ change_size * n + 6 = omega arith in
        cc (put_in 6 (lit< tt))
