-- The findings in their buffer: sealed one after the other, they are the bytes that are handed out.
use Prim.Native.Nat.{ℕ, ◌+◌, ◌*◌, ◌/◌, ◌%◌, ◌≤◌, ◌<◌}
use native.Mathlib.Nat.{add-zero}
use native.Mathlib.Numerals.{add-one}
use native.Mathlib.Omega.{arith}
use mathlib.Core.Path.{◌≡◌, refl, ap, ◌∙◌, sym}
use mathlib.Core.List.{List, [], ◌∷◌, ◌++◌, append_assoc}
use lib.ListN.{length, get_or, take, drop, length-drop}
use lib.Seq.{paste, take-add, drop-drop, get_or-drop, length-take-le}
use Rattle.std.proofs.lemmas.List.Edits.{length-paste, take-paste, drop-paste}
use Rattle.grammar.specs.World.{Find}
use Rattle.grammar.specs.Nodes.{find_bytes}
use Rattle.grammar.specs.Read.{pad, zeroes}
use Rattle.parser.specs.View.{chunks, chunk_at, find_of}
use Rattle.parser.specs.Runs.{length_chunks}

-- What a buffer holds are bytes.
pub record Bytes (xs : List ℕ) : Type 0 where
  pub below : (i : ℕ) → get_or xs i 0 < 256

-- the first six bytes
six : (xs : List ℕ) → 6 ≤ length xs → take 6 xs ≡ get_or xs 0 0 ∷ get_or xs 1 0 ∷ get_or xs 2 0 ∷ get_or xs 3 0 ∷ get_or xs 4 0 ∷ get_or xs 5 0 ∷ []
six [] h = absurd (omega arith)
six (a ∷ []) h = absurd (omega arith)
six (a ∷ b ∷ []) h = absurd (omega arith)
six (a ∷ b ∷ c ∷ []) h = absurd (omega arith)
six (a ∷ b ∷ c ∷ d ∷ []) h = absurd (omega arith)
six (a ∷ b ∷ c ∷ d ∷ e ∷ []) h = absurd (omega arith)
six (a ∷ b ∷ c ∷ d ∷ e ∷ f ∷ xs) h = refl

-- one finding more
finds_more : (fs : List Find) (f : Find) → find_bytes (fs ++ (f ∷ [])) ≡ find_bytes fs ++ find_bytes (f ∷ [])
unfolding find_bytes
finds_more [] f = refl
finds_more (g ∷ fs) f = rw (finds_more fs f) refl

-- the bytes of a finding whose numbers stand in bytes
find_bytes_lem : (n d a b x y : ℕ) → a < 256 → b < 256 → x < 256 → y < 256
    → find_bytes (find_of n d (a + 256 * (b + 256 * (x + 256 * y))) ∷ []) ≡ n ∷ d ∷ a ∷ b ∷ x ∷ y ∷ 0 ∷ 0 ∷ []
unfolding find_bytes
find_bytes_lem n d a b x y p q r s =
    let v : ℕ = a + 256 * (b + 256 * (x + 256 * y)) in
    let low : v % 65536 ≡ a + 256 * b = omega arith in
    let high : v / 65536 ≡ x + 256 * y = omega arith in
    let e0 : (a + 256 * b) % 256 ≡ a = omega arith in
    let e1 : (a + 256 * b) / 256 ≡ b = omega arith in
    let e2 : (x + 256 * y) % 256 ≡ x = omega arith in
    let e3 : (x + 256 * y) / 256 ≡ y = omega arith in
    let f1 : b % 256 ≡ b = omega arith in
    let f3 : y % 256 ≡ y = omega arith in
    rw (low, high, e0, e1, e2, e3, f1, f3) refl

-- The first i findings of xs are sealed in ys, and behind them nothing changed.
pub record Sealed (xs ys : List ℕ) (i : ℕ) : Type 0 where
  pub long : length ys ≡ length xs
  pub front : take (8 * i) ys ≡ find_bytes (chunks find_of xs i)
  pub behind : drop (8 * i) ys ≡ drop (8 * i) xs

pub seal_none : (xs : List ℕ) → Sealed xs xs 0
unfolding find_bytes chunks
seal_none xs = record { long = refl; front = refl; behind = refl }

module _ (xs ys : List ℕ) (i : ℕ) (bytes : Bytes xs) (fits : 8 * i + 8 ≤ length xs) (s : Sealed xs ys i) where
  -- the next finding, sealed
  next_bytes : take 6 (drop (8 * i) ys) ++ (0 ∷ 0 ∷ []) ≡ find_bytes (chunk_at find_of xs i ∷ [])
  next_bytes =
      let r : List ℕ = drop (8 * i) xs in
      let room : 6 ≤ length r = omega (arith, length-drop (8 * i) xs) in
      let at : (k : ℕ) → get_or r k 0 ≡ get_or xs (8 * i + k) 0 = λ k. get_or-drop (8 * i) xs k 0 in
      let first : get_or r 0 0 ≡ get_or xs (8 * i) 0 = at 0 ∙ ap (λ (k : ℕ). get_or xs k 0) (add-zero (8 * i)) in
      ap (λ (l : List ℕ). take 6 l ++ (0 ∷ 0 ∷ [])) s.behind
      ∙ ap (λ (l : List ℕ). l ++ (0 ∷ 0 ∷ [])) (six r room)
      ∙ rw (first, at 1, at 2, at 3, at 4, at 5) (sym (find_bytes_lem _ _ _ _ _ _ (bytes.below (8 * i + 2)) (bytes.below (8 * i + 3)) (bytes.below (8 * i + 4)) (bytes.below (8 * i + 5))))

  pub seal_next : Sealed xs (paste ys (8 * i + 6) (0 ∷ 0 ∷ []) 2) (i + 1)
  unfolding chunks
  seal_next =
      let b = 8 * i in
      let l = s.long in
      let e : 8 * (i + 1) ≡ b + 6 + 2 = omega arith in
      let e8 : b + 6 + 2 ≡ b + 8 = omega arith in
      record {
        long = length-paste ys (b + 6) (0 ∷ 0 ∷ []) 2 (omega arith) (omega arith) ∙ l;
        front = rw (e, add-one i) (take-paste ys (b + 6) (0 ∷ 0 ∷ []) 2 (omega arith) (omega arith)
            ∙ ap (λ (l : List ℕ). l ++ (0 ∷ 0 ∷ [])) (take-add b 6 ys)
            ∙ append_assoc (take b ys) (take 6 (drop b ys)) (0 ∷ 0 ∷ [])
            ∙ cc (s.front, next_bytes)
            ∙ sym (finds_more (chunks find_of xs i) (chunk_at find_of xs i)));
        behind = rw e (drop-paste ys (b + 6) (0 ∷ 0 ∷ []) 2 (omega arith) (omega arith)
            ∙ rw e8 (sym (drop-drop 8 b ys) ∙ ap (drop 8) s.behind ∙ drop-drop 8 b xs));
      }

-- the findings that were sealed, and zeroes behind them
pub finds_out : (xs ys : List ℕ) {out fs : List ℕ} (n : ℕ) → n ≤ length xs → length ys ≡ length xs → take n ys ≡ fs → out ≡ take n ys ++ zeroes (length (drop n ys)) → out ≡ pad (length xs) fs
unfolding pad
finds_out xs ys {fs = fs} n h l e q =
    let m : length fs ≡ n = ap length (sym e) ∙ length-take-le n ys (omega arith) in
    rw (m, q, e, length-drop n ys, l) refl

-- how many bytes findings take
finds_length : (fs : List Find) → length (find_bytes fs) ≡ 8 * length fs
unfolding find_bytes
finds_length [] = refl
finds_length (f ∷ fs) = omega (arith, finds_length fs)

pub found_length : (xs : List ℕ) (n : ℕ) → length (find_bytes (chunks find_of xs n)) ≡ 8 * n
found_length xs n = finds_length (chunks find_of xs n) ∙ ap (λ (k : ℕ). 8 * k) (length_chunks find_of xs n)
