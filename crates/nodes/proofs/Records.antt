-- Laws of the buffers: the log's last record, a record that is copied, and node records that are written from the last to the first.
use Prim.Native.Nat.{ℕ, zero, suc, ◌+◌, ◌-◌, ◌*◌, ◌≤◌, ◌<◌}
use native.Mathlib.Omega.{arith}
use mathlib.Core.Path.{◌≡◌, refl, ap, sym, ◌∙◌}
use mathlib.Core.List.{List, [], ◌∷◌, ◌++◌, append_assoc}
use lib.Dec.{lit<}
use lib.ListN.{length, get_or, take, drop, length-append}
use lib.Seq.{length-take-le, drop_at, take_all}
use Rattle.std.proofs.lemmas.List.Edits.{length-paste}
use Rattle.std.specs.List.{CopiedTo, SameBelow, SameFrom}
use Rattle.grammar.specs.World.{Rec}
use Rattle.grammar.specs.Nodes.{Node, nodes_bytes, node_record}
use Rattle.grammar.specs.Nodes.Node.{opens, token, closes}
use Rattle.parser.specs.View.{chunks, chunk_size}
use Rattle.node_count.specs.Log.{node_size, kind_at, number_at, log_in}
use Rattle.nodes.specs.Walk.{put_node}

-- ---- the log

pub log_same : (xs ys : List ℕ) (n : ℕ) → ((i : ℕ) → i < chunk_size * n → get_or xs i 0 ≡ get_or ys i 0) → log_in xs n ≡ log_in ys n
unfolding chunks
log_same xs ys zero h = refl
log_same xs ys (suc n) h =
    cc (log_same xs ys n (λ i p. h i (omega arith)), h (8 * n) (omega arith), h (8 * n + 1) (omega arith), h (8 * n + 2) (omega arith), h (8 * n + 3) (omega arith), h (8 * n + 4) (omega arith), h (8 * n + 5) (omega arith))

-- two lists cut before their last records
pub cut_last : (a b : List Rec) (x y : Rec) → a ++ (x ∷ []) ≡ b ++ (y ∷ []) → (a ≡ b) × (x ≡ y)
cut_last [] [] x y e = (refl, cc)
cut_last [] (z ∷ b) x y e = absurd (omega (arith, simp length-append at (ap length e)))
cut_last (z ∷ a) [] x y e = absurd (omega (arith, simp length-append at (ap length e)))
cut_last (z ∷ a) (u ∷ b) x y e = let r = cut_last a b x y (cc) in (cc, r.1)

-- ---- a record that was copied

-- The record i was copied to the record j.
pub record Copied (xs : List ℕ) (i j : ℕ) (ys : List ℕ) : Type 0 where
  pub long : length ys ≡ length xs
  pub there : CopiedTo xs ys (chunk_size * i) (chunk_size * j) chunk_size
  pub below : SameBelow xs ys (chunk_size * j)
  pub above : SameFrom xs ys (chunk_size * j + chunk_size)

module _ {xs ys : List ℕ} {i j : ℕ} (c : Copied xs i j ys) where
  byte : (k : ℕ) → k < chunk_size → get_or ys (chunk_size * j + k) 0 ≡ get_or xs (chunk_size * i + k) 0
  byte k h =
      let e : chunk_size * i + (chunk_size * j + k - chunk_size * j) ≡ chunk_size * i + k = omega arith in
      c.there (chunk_size * j + k) 0 (omega arith) (omega arith) ∙ ap (λ (n : ℕ). get_or xs n 0) e

  pub copied_kind : kind_at ys j ≡ kind_at xs i
  copied_kind = byte 1 (lit< tt)

  pub copied_number : number_at ys j ≡ number_at xs i
  copied_number = cc (byte 2 (lit< tt), byte 3 (lit< tt), byte 4 (lit< tt), byte 5 (lit< tt))

-- ---- node records

bytes_append : (a b : List Node) → nodes_bytes (a ++ b) ≡ nodes_bytes a ++ nodes_bytes b
unfolding nodes_bytes
bytes_append [] b = refl
bytes_append (opens k ∷ a) b = rw (bytes_append a b)
bytes_append (token k i ∷ a) b = rw (bytes_append a b)
bytes_append (closes k ∷ a) b = rw (bytes_append a b)

one : (x : Node) → nodes_bytes (x ∷ []) ≡ node_record x []
unfolding nodes_bytes
one x = refl

record_length : (x : Node) → length (node_record x []) ≡ node_size
record_length (opens k) = refl
record_length (token k i) = refl
record_length (closes k) = refl

-- the buffer stays as long
pub put_room : (x : Node) (nodes : List ℕ) (at : ℕ) → node_size * (at + 1) ≤ length nodes → node_size * at ≤ length (put_node nodes at (node_record x []))
put_room x nodes at r =
    let four : length (node_record x []) ≡ node_size = record_length x in
    rw (length-paste nodes (node_size * at) (node_record x []) node_size (omega arith) (omega arith)) (omega arith)

-- The last of the records to be written is written: the bytes are the same.
module _ (rest : List Node) (x y : Node) (nodes all : List ℕ) (at : ℕ) where
  pub written : y ≡ x → length (rest ++ (x ∷ [])) ≡ at + 1 → node_size * (at + 1) ≤ length nodes
      → nodes_bytes (rest ++ (x ∷ [])) ++ drop (node_size * (at + 1)) nodes ≡ all
      → nodes_bytes rest ++ drop (node_size * at) (put_node nodes at (node_record y [])) ≡ all
  unfolding nodes_bytes
  written s n r e =
      let b = node_size * at in
      let four : length (node_record y []) ≡ node_size = record_length y in
      let q : b + node_size ≡ node_size * (at + 1) = omega arith in
      let f : take b nodes ++ take node_size (node_record y []) ++ drop (b + node_size) nodes ≡ take b nodes ++ (node_record y [] ++ drop (b + node_size) nodes) =
      append_assoc (take b nodes) _ _ ∙ ap (λ (l : List ℕ). take b nodes ++ (l ++ drop (b + node_size) nodes)) (take_all node_size (node_record y []) (omega arith)) in
      ap (λ (l : List ℕ). nodes_bytes rest ++ drop b l) f
      ∙ ap (λ (l : List ℕ). nodes_bytes rest ++ l) (drop_at (take b nodes) (node_record y [] ++ drop (b + node_size) nodes) b (length-take-le b nodes (omega arith)))
      ∙ ap (λ (z : Node). nodes_bytes rest ++ (node_record z [] ++ drop (b + node_size) nodes)) s
      ∙ ap (λ (m : ℕ). nodes_bytes rest ++ (node_record x [] ++ drop m nodes)) q
      ∙ sym (append_assoc (nodes_bytes rest) (node_record x []) _)
      ∙ ap (λ (l : List ℕ). l ++ drop (node_size * (at + 1)) nodes) (sym (bytes_append rest (x ∷ []) ∙ ap (λ (l : List ℕ). nodes_bytes rest ++ l) (one x)))
      ∙ e
