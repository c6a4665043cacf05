-- That the nodes of a forest are what its log is handed out as, and hold its leaves.
use Rattle.std.specs.Prelude.{ℕ, suc, ◌+◌, ◌≤◌, ◌<◌, ◌≡◌, refl, List, [], ◌∷◌, ◌++◌, map, length}
use Rattle.std.proofs.Common.{ap, ◌∙◌, sym, append_assoc, append-nil, add-zero, arith, le-leb, length-append}
use Rattle.std.proofs.lemmas.List.{map-append}
use Rattle.std.proofs.lemmas.Bool.{lt-leb}
use Rattle.grammar.specs.World.{Rec}
use Rattle.grammar.specs.World.Rec.{took, ended}
use Rattle.grammar.specs.Nodes.{Node, Placed, insert, place, nodes_of}
use Rattle.grammar.specs.Nodes.Node.{opens, token, closes}
use Rattle.laws.specs.Trees.{Forest, posts, leaves}
use Rattle.laws.specs.Trees.Forest.{none, leaf, node}
use Rattle.laws.specs.Flat.{flat, held}

-- of two lists of nodes, one behind the other
held_append : (a b : List Node) → held (a ++ b) ≡ held a ++ held b
held_append [] b = refl
held_append (opens k ∷ a) b = held_append a b
held_append (token k i ∷ a) b = ap (λ (l : List Rec). took k i ∷ l) (held_append a b)
held_append (closes k ∷ a) b = held_append a b

-- Among the nodes of a forest, the tokens are its leaves.
pub held_flat : (f : Forest) → held (flat f) ≡ leaves f
unfolding flat leaves
held_flat none = refl
held_flat (leaf f k i) = rw (held_append, held_flat f)
held_flat (node f k c) = simp (held_append, append-nil, held_flat f, held_flat c)

-- a node at a place in the log
abbrev at : ℕ → Node → Placed
at i x = record { at = i; node = x }

-- the same nodes, with the places that they have where the forest's log starts at b
unfoldable placed : ℕ → Forest → List Placed
placed b none = []
placed b (leaf f k i) = placed b f ++ (at (b + length (posts b f)) (token k i) ∷ [])
placed b (node f k c) =
    let m = b + length (posts b f) in
    placed b f ++ (at m (opens k) ∷ (placed m c ++ (at (m + length (posts m c)) (closes k) ∷ [])))

-- without the places they are the nodes of the forest
placed_nodes : (b : ℕ) (f : Forest) → map (λ x. x.node) (placed b f) ≡ flat f
unfolding placed flat
placed_nodes b none = refl
placed_nodes b (leaf f k i) = simp (map-append, placed_nodes b f)
placed_nodes b (node f k c) = simp (map-append, placed_nodes b f, placed_nodes (b + length (posts b f)) c)

-- all places are from a on, and before b
abbrev Within : ℕ → ℕ → List Placed → Type 0
Within a b [] = Unit {0}
Within a b (x ∷ xs) = (a ≤ x.at) × (x.at < b) × Within a b xs

-- and so they are in wider bounds
wider : {a b : ℕ} (a' b' : ℕ) → a' ≤ a → b ≤ b' → (xs : List Placed) → Within a b xs → Within a' b' xs
wider a' b' h h' [] w = tt
wider a' b' h h' (x ∷ xs) w = (omega (arith, w.0), omega (arith, w.1), wider a' b' h h' xs w.2)

-- of two lists, one behind the other
within_append : (a b : ℕ) (xs ys : List Placed) → Within a b xs → Within a b ys → Within a b (xs ++ ys)
within_append a b [] ys w v = v
within_append a b (x ∷ xs) ys w v = (w.0, w.1, within_append a b xs ys w.2 v)

-- the places of a forest's nodes are those of its log
placed_within : (b : ℕ) (f : Forest) → Within b (b + length (posts b f)) (placed b f)
unfolding placed posts
placed_within b none = tt
placed_within b (leaf f k i) = within_append b _ (placed b f) _
    (wider b _ (omega arith) (simp length-append (omega arith)) (placed b f) (placed_within b f))
    (omega arith, simp length-append (omega arith), tt)
placed_within b (node f k c) =
    let m = b + length (posts b f) in
    within_append b _ (placed b f) _
    (wider b _ (omega arith) (simp length-append (omega arith)) (placed b f) (placed_within b f)) (
      omega arith,
      simp length-append (omega arith),
      within_append b _ (placed m c) _
          (wider b _ (omega arith) (simp length-append (omega arith)) (placed m c) (placed_within m c))
          (omega arith, simp length-append (omega arith), tt),
    )

-- a node goes behind all that is before its place, and before all that is not
insert_between : (m n : ℕ) (x : Node) (a c : List Placed) → Within 0 m a → Within m n c → insert m x (a ++ c) ≡ a ++ (at m x ∷ c)
unfolding insert
insert_between m n x [] [] w v = refl
insert_between m n x [] (y ∷ c) w v = rw (le-leb m y.at v.0, insert)
insert_between m n x (y ∷ a) c w v = rw (lt-leb m y.at w.1, insert) (ap (λ (l : List Placed). y ∷ l) (insert_between m n x a c w.2 v))

-- the records of a log are placed one behind the other
place_append : (out : List Placed) (i : ℕ) (a c : List Rec) → place out i (a ++ c) ≡ place (place out i a) (i + length a) c
unfolding place
place_append out i [] c = rw add-zero
place_append out i (took k x ∷ a) c =
    let e : suc i + length a ≡ i + suc (length a) = omega arith in place_append (out ++ (at i (token k x) ∷ [])) (suc i) a c ∙ rw e
place_append out i (ended k b ∷ a) c =
    let e : suc i + length a ≡ i + suc (length a) = omega arith in
    place_append (insert b (opens k) out ++ (at i (closes k) ∷ [])) (suc i) a c ∙ rw e

-- behind what was placed before it, the log of a forest gives the forest's nodes
place_posts : (out : List Placed) (b : ℕ) (f : Forest) → Within 0 b out → place out b (posts b f) ≡ out ++ placed b f
unfolding place posts placed
place_posts out b none w = sym (append-nil out)
place_posts out b (leaf f k i) w = rw (place_append, place_posts out b f w) (append_assoc out (placed b f) _)
place_posts out b (node f k c) w =
    let m = b + length (posts b f) in
    let u : Within 0 m (out ++ placed b f) = within_append 0 m out (placed b f) (wider 0 m (omega arith) (omega arith) out w) (wider 0 m (omega arith) (omega arith) (placed b f) (placed_within b f)) in
    rw (place_append, place_posts out b f w, place_append, place_posts (out ++ placed b f) m c u, insert_between m _ (opens k) (out ++ placed b f) (placed m c) u (placed_within m c))
    (simp append_assoc)

-- The nodes of the log of a forest are the nodes of the forest.
pub nodes_posts : (f : Forest) → nodes_of (posts 0 f) ≡ flat f
unfolding nodes_of
nodes_posts f = rw (place_posts [] 0 f tt) (placed_nodes 0 f)
