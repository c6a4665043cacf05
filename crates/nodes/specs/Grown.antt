-- That the log of a reading is a forest's, and what the writing of its nodes requires.
use Rattle.std.specs.Prelude.{ℕ, ◌*◌, ◌/◌, ◌≤◌, ◌≡◌, List, length}
use Rattle.grammar.specs.Env.{Entry}
use Rattle.grammar.specs.World.{Rec, Now}
use Rattle.grammar.specs.World.World.{on}
use Rattle.grammar.specs.Read.{Call, start, reading}
use Rattle.grammar.specs.Root.{root, body}
use Rattle.laws.specs.Trees.{Forest, posts, eval_built}
use Rattle.parser.specs.View.{chunk_size}
use Rattle.node_count.specs.Log.{node_size, log_in, nodes_in}

-- A log is that of a forest.
pub record Grown (log : List Rec) : Type 0 where
  pub forest : Forest
  pub same : log ≡ posts 0 forest

-- The log of a reading of a whole file is that of a forest: how a caller meets what `write_nodes` requires.
pub reading_grown : (c : Call) (es : List Entry) (s : Now) → reading c es ≡ on s → Grown s.log
unfolding reading start
reading_grown c es s e = let b = eval_built body c.depth root (start c es) s e in record { forest = b.forest; same = b.log }

-- What `write_nodes` requires: the log is a forest's, and its nodes, so many, have room.
pub record Ready (log nodes : List ℕ) (count : ℕ) : Type 0 where
  pub grown : Grown (log_in log (length log / chunk_size))
  pub counted : length (nodes_in log (length log / chunk_size)) ≡ node_size * count
  pub room : node_size * count ≤ length nodes
