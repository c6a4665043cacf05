-- What `read` hands out for a file of one declaration: its nodes and its ties.
use Rattle.std.specs.Prelude.{ℕ, ◌≡◌, List, map, Bool}
use Rattle.grammar.specs.Env.{Entry, env_bytes}
use Rattle.grammar.specs.Nodes.{nodes_bytes, find_bytes}
use Rattle.grammar.specs.Read.{Call, handed, read}
use Rattle.laws.specs.Trees.{Forest}
use Rattle.laws.specs.Flat.{flat}
use Rattle.grouping.specs.Grouping.{file_of, tie_at}
use Rattle.grouping.specs.Climbs.{some?}

-- The call hands out the file of one declaration, a node of the kind k that holds f, and ties, some where b says so.
pub record Handed (c : Call) (E : List Entry) (k : ℕ) (f : Forest) (b : Bool) : Type 0 where
  pub ps : List ℕ
  pub tells : some? ps ≡ b
  pub result : read c ≡ handed c (nodes_bytes (flat (file_of k f))) (find_bytes (map tie_at ps)) (env_bytes E)
