-- Laws of the buffers: what a store of a record leaves, and the tokens from an index on.
use Prim.Native.Nat.{ℕ, zero, suc, ◌+◌, ◌-◌, ◌*◌, ◌/◌, ◌%◌, ◌≤◌, ◌<◌}
use native.Mathlib.Nat.{div-div-eq-div-mul, add-zero, add-suc, suc-add}
use native.Mathlib.Numerals.{add-one}
use native.Mathlib.Omega.{arith}
use mathlib.Core.Path.{◌≡◌, refl, ◌∙◌}
use mathlib.Core.List.{List, [], ◌∷◌, ◌++◌}
use borrow.Author.Tests.{ne_eqb}
use lib.Dec.{lit<}
use lib.ListN.{length, get_or, set, length-set}
use lib.Seq.{sets, length-sets, get_or-set_same, get_or-set_other}
use Rattle.grammar.specs.Tokens.{live, kind_at}
use Rattle.grammar.specs.SyntaxKind as SK
use Rattle.parser.specs.View.{chunks, chunk_size, bytes_of, put_at}
use Rattle.parser.specs.View.{token_at}

-- ---- a run of stores

sets_below : (vs l : List ℕ) (i j : ℕ) → j < i → get_or (sets l i vs) j 0 ≡ get_or l j 0
sets_below [] l i j h = refl
sets_below (a ∷ vs) l i j h =
    sets_below vs (set l i a) (suc i) j (omega arith) ∙ get_or-set_other l i j a 0 (λ e. omega arith)

sets_in : (vs l : List ℕ) (i k : ℕ) → i + length vs ≤ length l → k < length vs → get_or (sets l i vs) (i + k) 0 ≡ get_or vs k 0
sets_in [] l i k h p = absurd (omega arith)
sets_in (a ∷ vs) l i zero h p =
    rw (add-zero i) (sets_below vs (set l i a) (suc i) i (omega arith) ∙ get_or-set_same l i a 0 (omega arith))
sets_in (a ∷ vs) l i (suc k) h p =
    rw (add-suc, ← suc-add i k) (sets_in vs (set l i a) (suc i) k (simp length-set (omega arith)) (omega arith))

-- ---- a record's store

module _ (xs : List ℕ) (n tag kind v : ℕ) where
  pub length_put : length (put_at xs n tag kind v) ≡ length xs
  unfolding put_at
  length_put = length-sets xs (chunk_size * n) (bytes_of tag kind v)

  put_below : (j : ℕ) → j < chunk_size * n → get_or (put_at xs n tag kind v) j 0 ≡ get_or xs j 0
  unfolding put_at
  put_below j h = sets_below (bytes_of tag kind v) xs (chunk_size * n) j h

  put_in : chunk_size * n + chunk_size ≤ length xs → (k : ℕ) → k < chunk_size → get_or (put_at xs n tag kind v) (chunk_size * n + k) 0 ≡ get_or (bytes_of tag kind v) k 0
  unfolding put_at
  put_in h k p = sets_in (bytes_of tag kind v) xs (chunk_size * n) k h p

-- a number below 2 ^ 32 is its four bytes
four_bytes : (v : ℕ) → v < 4294967296 → v % 256 + 256 * (v / 256 % 256 + 256 * (v / 65536 % 256 + 256 * (v / 16777216 % 256))) ≡ v
four_bytes v h =
    let d : v / 16777216 % 256 ≡ v / 16777216 = omega arith in
    let c : v / 65536 % 256 + 256 * (v / 16777216) ≡ v / 65536 = rw (← div-div-eq-div-mul v 65536 256) (omega arith) in
    let b : v / 256 % 256 + 256 * (v / 65536) ≡ v / 256 = rw (← div-div-eq-div-mul v 256 256) (omega arith) in
    omega arith

-- ---- records of eight bytes

module _ {X : Type 0} (f : ℕ → ℕ → ℕ → X) where
  chunks_same : (xs ys : List ℕ) (n : ℕ) → ((i : ℕ) → i < chunk_size * n → get_or xs i 0 ≡ get_or ys i 0) → chunks f xs n ≡ chunks f ys n
  unfolding chunks
  chunks_same xs ys zero h = refl
  chunks_same xs ys (suc n) h =
      cc (chunks_same xs ys n (λ i p. h i (omega arith)), h (8 * n) (omega arith), h (8 * n + 1) (omega arith), h (8 * n + 2) (omega arith), h (8 * n + 3) (omega arith), h (8 * n + 4) (omega arith), h (8 * n + 5) (omega arith))

  pub chunks_put : (xs : List ℕ) (n tag kind v : ℕ) → chunk_size * n + chunk_size ≤ length xs → v < 4294967296 → chunks f (put_at xs n tag kind v) (n + 1) ≡ chunks f xs n ++ (f tag kind v ∷ [])
  unfolding chunks
  chunks_put xs n tag kind v h small =
      let ys : List ℕ = put_at xs n tag kind v in
      let b : (k : ℕ) → k < 8 → get_or ys (8 * n + k) 0 ≡ get_or (bytes_of tag kind v) k 0 = put_in xs n tag kind v h in
      rw (add-one n)
      (cc (chunks_same ys xs n (put_below xs n tag kind v), four_bytes v small, add-zero (8 * n), b 0 (lit< tt), b 1 (lit< tt), b 2 (lit< tt), b 3 (lit< tt), b 4 (lit< tt), b 5 (lit< tt)))

-- ---- the next token

pub live_none : (text toks : List ℕ) (n i : ℕ) → n ≤ i → live text toks (n - i) i ≡ []
unfolding live
live_none text toks n i h = let m : n - i ≡ 0 = omega arith in rw m

module _ (text toks : List ℕ) (n i : ℕ) (inside : i < n) where
  pub live_trivia : kind_at toks i ≡ SK.Trivia → live text toks (n - i) i ≡ live text toks (n - (i + 1)) (i + 1)
  unfolding live
  live_trivia e = let m : n - i ≡ suc (n - (i + 1)) = omega arith in rw (m, e, live)

  pub live_token : (kind_at toks i ≡ SK.Trivia → ⊥) → live text toks (n - i) i ≡ token_at text toks i ∷ live text toks (n - (i + 1)) (i + 1)
  unfolding live
  live_token h = let m : n - i ≡ suc (n - (i + 1)) = omega arith in rw (m, ne_eqb (kind_at toks i) SK.Trivia h, live)
