-- That the nodes of a call that was read open and close in pairs, and hold each token that isn't trivia exactly once, in order.
use Rattle.std.specs.Prelude.{ℕ, ◌≡◌, List, map, length}
use Rattle.std.proofs.Common.{◌∙◌, sym}
use Rattle.grammar.specs.Tokens.{Token, record_count, live}
use Rattle.grammar.specs.Nodes.{nodes_bytes}
use Rattle.grammar.specs.Read.{Call, Result, was_read, pad, refusal, read}
use Rattle.grammar.specs.SyntaxKind as SK
use Rattle.laws.specs.Grows.{took_of}
use Rattle.laws.specs.Trees.{Forest, leaves}
use Rattle.laws.specs.Flat.{flat, held}

-- the tokens of a call that are no trivia, in order
abbrev pub tokens_of : Call → List Token
tokens_of c = live c.text c.toks (record_count c.toks) 0

-- the node `Root` and what is in it
abbrev pub root_of : Forest → Forest
root_of f = Forest.node Forest.none SK.Root f

-- The call was read. The nodes handed out are those of `Root` and the forest in it (each opens, holds what is in it, and closes: `flat`),
-- with zeroes behind them; and the leaves of that forest, which are the tokens among the nodes, are the tokens that are no trivia, each once, in order.
pub record Whole (c : Call) (r : Result) : Type 0 where
  pub answer : r.answer ≡ was_read
  pub inside : Forest
  pub nodes : r.nodes ≡ pad c.nodes (nodes_bytes (flat (root_of inside)))
  pub used : r.nodes_used ≡ length (nodes_bytes (flat (root_of inside)))
  pub tokens : leaves inside ≡ map took_of (tokens_of c)
  pub holds : held (flat (root_of inside)) ≡ map took_of (tokens_of c)

-- A call was read whole, or it is refused by a number that is not 0, and then all that was lent to write is zeroes.
pub data Outcome (c : Call) (r : Result) : Type 0 where
  whole : Whole c r → Outcome c r
  refuse : (k : ℕ) → (k ≡ 0 → ⊥) → r ≡ refusal c k → Outcome c r

-- One call has one outcome.
pub read_one : (c : Call) (r r' : Result) → r ≡ read c → r' ≡ read c → r ≡ r'
read_one c r r' e e' = e ∙ sym e'
