-- The walk over the log from its last record to its first: where it stands, and what a step does.
use Rattle.std.specs.Prelude.{ℕ, ◌+◌, ◌*◌, ◌≤◌, ◌<◌, ◌≡◌, List, [], ◌∷◌, ◌++◌, Bool, ◌&&◌, eqb, ltb, length, drop}
use Rattle.std.proofs.Math.Seq.{paste}
use Rattle.grammar.specs.World.{Rec}
use Rattle.grammar.specs.Nodes.{Node, nodes_bytes}
use Rattle.grammar.specs.Nodes.Node.{opens}
use Rattle.laws.specs.Trees.{Forest, posts}
use Rattle.laws.specs.Flat.{flat}
use Rattle.parser.specs.View.{chunk_size}
use Rattle.nodes.specs.declared.Tag.{Tag}
use Rattle.nodes.specs.declared.Tag.TheVariants.{Opens, Token, Closes}
use Rattle.node_count.specs.Log.{node_size, kind_at, number_at, log_in}

-- The nodes that the walk is inside of, from the outermost: none, or those, what stands behind the last one's opening and before the next, and that one's kind.
pub data Way : Type 0 where
  outside : Way
  inside : Way → Forest → ℕ → Way

-- the log before what is left of the innermost
unfoldable pub before : Way → List Rec
before outside = []
before (inside w f k) = before w ++ posts (length (before w)) f

-- the nodes before it
unfoldable pub ahead : Way → List Node
ahead outside = []
ahead (inside w f k) = (ahead w ++ flat f) ++ (opens k ∷ [])

-- The stack in the scratch buffer: the records from `top` to `len` are those nodes' kinds and starts, the innermost first.
abbrev pub Stack : List ℕ → ℕ → ℕ → Way → Type 0
Stack scratch len top outside = top ≡ len
Stack scratch len top (inside w f k) =
    (top < len) × (kind_at scratch top ≡ k) × (number_at scratch top ≡ length (before (inside w f k))) × Stack scratch len (top + 1) w

-- Where the walk stands: so many node records are to be written and so many records of the log to be read, behind which the stack begins.
-- The nodes to be written, before those that are, are the bytes `all`.
pub record Stands (all scratch : List ℕ) (len : ℕ) (nodes : List ℕ) (at left top : ℕ) (way : Way) (here : Forest) : Type 0 where
  pub log : log_in scratch left ≡ before way ++ posts (length (before way)) here
  pub stack : Stack scratch len top way
  pub apart : left ≤ top
  pub inner : top ≤ len
  pub fits : chunk_size * len ≤ length scratch
  pub count : length (ahead way ++ flat here) ≡ at
  pub room : node_size * at ≤ length nodes
  pub ends : nodes_bytes (ahead way ++ flat here) ++ drop (node_size * at) nodes ≡ all

pub record Walks (all scratch : List ℕ) (len : ℕ) (nodes : List ℕ) (at left top : ℕ) : Type 0 where
  pub way : Way
  pub here : Forest
  pub stands : Stands all scratch len nodes at left top way here

-- the same, whatever the bytes are
pub record Walking (scratch : List ℕ) (len : ℕ) (nodes : List ℕ) (at left top : ℕ) : Type 0 where
  pub all : List ℕ
  pub walks : Walks all scratch len nodes at left top

-- the first byte of a node record
abbrev pub tag_of : Tag → ℕ
tag_of Opens = 1
tag_of Token = 2
tag_of Closes = 3

-- whether the innermost node starts at i
abbrev pub starts_at : List ℕ → ℕ → ℕ → ℕ → Bool
starts_at scratch len top i = ltb top len && eqb (number_at scratch top) i

-- a buffer with the node record i written
abbrev pub put_node : List ℕ → ℕ → List ℕ → List ℕ
put_node nodes i bytes = paste nodes (node_size * i) bytes node_size

-- A step: the node record `at` is written, and the bytes that the walk ends in stay.
pub record Steps (log : List ℕ) (len : ℕ) (nodes : List ℕ) (at left top : ℕ) (log' nodes' : List ℕ) (left' top' : ℕ) : Type 0 where
  pub does : (all : List ℕ) → Walks all log len nodes (at + 1) left top → Walks all log' len nodes' at left' top'
