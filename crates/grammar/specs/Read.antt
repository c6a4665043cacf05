-- A whole call: from what is lent and set to the answer and every lent byte afterwards (document 01).
use Rattle.std.specs.Prelude.{ℕ, ◌-◌, ◌/◌, List, [], ◌++◌, Bool, true, false, ◌&&◌, leb, length, replicate}
use Rattle.std.proofs.Math.Option.{Option, none, some}
use Rattle.grammar.specs.Tokens.{lists_fit, records_fit, record_count, live}
use Rattle.grammar.specs.Env.{Entry, env_of, env_bytes}
use Rattle.grammar.specs.World.{World, Now}
use Rattle.grammar.specs.World.World.{refused, on}
use Rattle.grammar.specs.Prog.{eval, rule}
use Rattle.grammar.specs.Root.{root, body}
use Rattle.grammar.specs.Nodes.{nodes_of, nodes_bytes, find_bytes}

-- What is lent to read, the settings, and the lengths in bytes of what is lent to write.
pub record Call : Type 0 where
  pub text : List ℕ
  pub toks : List ℕ
  pub env : List ℕ
  pub depth : ℕ
  pub mode : ℕ
  pub scratch : ℕ
  pub nodes : ℕ
  pub finds : ℕ
  pub final : ℕ

-- The answer, the three used lengths in bytes, and what is lent to write, whole.
pub record Result : Type 0 where
  pub answer : ℕ
  pub nodes_used : ℕ
  pub finds_used : ℕ
  pub final_used : ℕ
  pub scratch : List ℕ
  pub nodes : List ℕ
  pub finds : List ℕ
  pub final : List ℕ

-- the answers that a call gives besides those of reading
abbrev pub was_read : ℕ
was_read = 0

abbrev pub bad_settings : ℕ
bad_settings = 1

abbrev pub bad_records : ℕ
bad_records = 2

abbrev pub bad_env : ℕ
bad_env = 3

abbrev pub no_nodes : ℕ
no_nodes = 6

abbrev pub no_final : ℕ
no_final = 9

-- document 01: the largest depth and the largest mode
abbrev pub max_depth : ℕ
max_depth = 1000

abbrev pub max_mode : ℕ
max_mode = 2

-- the bytes of a scratch record, and of a finding
abbrev pub scratch_size : ℕ
scratch_size = 8

abbrev pub find_size : ℕ
find_size = 8

-- Answer 1's whole test: the settings, the text and the records.
unfoldable pub settings_fit : Call → Bool
settings_fit c = leb 1 c.depth && leb c.depth max_depth && leb c.mode max_mode && lists_fit c.text c.toks

-- lib.rs, `get`: the parser as it is made. Every token that is no trivia is left; the rooms are counted in whole records.
unfoldable pub start : Call → List Entry → Now
start c es = record {
  rest = live c.text c.toks (record_count c.toks) 0;
  count = record_count c.toks;
  log = [];
  used = 0;
  room = c.scratch / scratch_size;
  finds = [];
  kept = c.finds / find_size;
  env = es;
  changes = 0;
  mode = c.mode;
}

-- lib.rs, `get`: the reading of the whole file by `root`
unfoldable pub reading : Call → List Entry → World
reading c es = (eval (rule body) c.depth 0 root (on (start c es))).world

-- so many zeroes
abbrev pub zeroes : ℕ → List ℕ
zeroes n = replicate n 0

-- bytes, and zeroes behind them
unfoldable pub pad : ℕ → List ℕ → List ℕ
pad n l = l ++ zeroes (n - length l)

-- the answer k, which is not 0: zero lengths, and zeroes everywhere
unfoldable pub refusal : Call → ℕ → Result
refusal c k = record {
  answer = k;
  nodes_used = 0;
  finds_used = 0;
  final_used = 0;
  scratch = zeroes c.scratch;
  nodes = zeroes c.nodes;
  finds = zeroes c.finds;
  final = zeroes c.final;
}

-- what is handed out: nodes, findings, final environment
unfoldable pub handed : Call → List ℕ → List ℕ → List ℕ → Result
handed c ns fs es = record {
  answer = was_read;
  nodes_used = length ns;
  finds_used = length fs;
  final_used = length es;
  scratch = zeroes c.scratch;
  nodes = pad c.nodes ns;
  finds = pad c.finds fs;
  final = pad c.final es;
}

-- after reading: the nodes fit, then the environment does
unfoldable pub finish : Call → World → Result
finish c (refused k l) = refusal c k
finish c (on s) =
    let ns = nodes_bytes (nodes_of s.log) in
    let es = env_bytes s.env in
    elim (leb (length ns) c.nodes) [
      | true ↦ elim (leb (length es) c.final) [ true ↦ handed c ns (find_bytes s.finds) es | false ↦ refusal c no_final ]
      | false ↦ refusal c no_nodes
    ]

-- after the first two tests: answer 3 where the environment's bytes give none, otherwise the reading
unfoldable pub read_with : Call → Option (List Entry) → Result
read_with c none = refusal c bad_env
read_with c (some es) = finish c (reading c es)

-- The call, with the tests of the answers 1, 2 and 3 in that order.
unfoldable pub read : Call → Result
read c =
    elim (settings_fit c) [
      | true ↦ elim (records_fit (length c.text) c.toks (record_count c.toks)) [
        | true ↦ read_with c (env_of c.env)
        | false ↦ refusal c bad_records
      ]
      | false ↦ refusal c bad_settings
    ]
