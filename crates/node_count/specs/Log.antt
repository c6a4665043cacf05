-- The log of a reading in the scratch buffer, and how many bytes its nodes take.
use Rattle.std.specs.Prelude.{ℕ, ◌+◌, ◌*◌, ◌≤◌, ◌≡◌, List, length, get_or}
use Rattle.grammar.specs.World.{Rec}
use Rattle.grammar.specs.Nodes.{nodes_of, nodes_bytes}
use Rattle.parser.specs.View.{chunks, rec_of, chunk_size}

-- the bytes of a node record
abbrev pub node_size : ℕ
node_size = 4

-- the kind and the number of the record i of the scratch buffer
abbrev pub kind_at : List ℕ → ℕ → ℕ
kind_at scratch i = get_or scratch (chunk_size * i + 1) 0

abbrev pub number_at : List ℕ → ℕ → ℕ
number_at scratch i =
    get_or scratch (chunk_size * i + 2) 0 + 256 * (get_or scratch (chunk_size * i + 3) 0 + 256 * (get_or scratch (chunk_size * i + 4) 0 + 256 * get_or scratch (chunk_size * i + 5) 0))

-- the log in a buffer
abbrev pub log_in : List ℕ → ℕ → List Rec
log_in scratch len = chunks rec_of scratch len

-- the bytes of its nodes
abbrev pub nodes_in : List ℕ → ℕ → List ℕ
nodes_in scratch len = nodes_bytes (nodes_of (log_in scratch len))

-- The nodes of the log are so many, and few enough to count bytes.
pub record Counted (scratch : List ℕ) (len r : ℕ) : Type 0 where
  pub bytes : length (nodes_in scratch len) ≡ node_size * r
  pub few : r ≤ 2 * len
