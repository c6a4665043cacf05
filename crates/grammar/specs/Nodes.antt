-- The nodes that are handed out: from the log to the records of document 01.
use Rattle.std.specs.Prelude.{ℕ, suc, List, [], ◌∷◌, ◌++◌, map, true, false, leb}
use Rattle.grammar.specs.Bytes.{low, high}
use Rattle.grammar.specs.World.{Rec, Find}
use Rattle.grammar.specs.World.Rec.{took, ended}

-- A node record of document 01: a node opens (kind), a token (kind, index), a node closes (kind).
pub data Node : Type 0 where
  opens : ℕ → Node
  token : ℕ → ℕ → Node
  closes : ℕ → Node

-- a node record, and the place in the log where it belongs
pub record Placed : Type 0 where
  pub at : ℕ
  pub node : Node

-- a node record at b in the log, before all that stands at b or behind
unfoldable pub insert : ℕ → Node → List Placed → List Placed
insert b x [] = record { at = b; node = x } ∷ []
insert b x (y ∷ ys) = elim (leb b y.at) [ true ↦ record { at = b; node = x } ∷ y ∷ ys | false ↦ y ∷ insert b x ys ]

-- The nodes of the log's records from i on, behind those of the records before.
-- A node that ends opens before all that came since its start.
unfoldable pub place : List Placed → ℕ → List Rec → List Placed
place out i [] = out
place out i (took k x ∷ l) = place (out ++ (record { at = i; node = token k x } ∷ [])) (suc i) l
place out i (ended k b ∷ l) = place (insert b (opens k) out ++ (record { at = i; node = closes k } ∷ [])) (suc i) l

-- document 01: the first byte of a node record
abbrev pub opened : ℕ
opened = 1

abbrev pub tokened : ℕ
tokened = 2

abbrev pub closed : ℕ
closed = 3

-- the four bytes of a node record, before the bytes l
abbrev pub node_record : Node → List ℕ → List ℕ
node_record (opens k) l = opened ∷ k ∷ 0 ∷ 0 ∷ l
node_record (token k i) l = tokened ∷ k ∷ low i ∷ high i ∷ l
node_record (closes k) l = closed ∷ k ∷ 0 ∷ 0 ∷ l

-- the bytes of node records
unfoldable pub nodes_bytes : List Node → List ℕ
nodes_bytes [] = []
nodes_bytes (x ∷ xs) = node_record x (nodes_bytes xs)

-- the nodes of a whole log
unfoldable pub nodes_of : List Rec → List Node
nodes_of log = map (λ x. x.node) (place [] 0 log)

-- the bytes of findings, eight for each
unfoldable pub find_bytes : List Find → List ℕ
find_bytes [] = []
find_bytes (f ∷ fs) = f.number ∷ f.detail ∷ low f.place ∷ high f.place ∷ low f.name ∷ high f.name ∷ 0 ∷ 0 ∷ find_bytes fs
