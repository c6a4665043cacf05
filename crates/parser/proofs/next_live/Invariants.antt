-- by hand: a loop over tokens, whose invariant is its own.
-- `next_live` meets its contract. The loop's invariant: the tokens from `i` on that are no trivia are those from `from` on.
use Prim.Native.Nat.{ℕ, ◌≤◌, ◌-◌}
use mathlib.Core.Path.{◌≡◌}
use mathlib.Core.List.{List}
use Rattle.grammar.specs.Tokens.{live}
use Rattle.parser.proofs.next_live.Given as goal

abbrev pub invariant-loop-i : goal.invariant-loop-i
invariant-loop-i l = (l.i ≤ l.count) × (l.from ≤ l.i) × ((text : List ℕ) → live text l.toks (l.count - l.i) l.i ≡ live text l.toks (l.count - l.from) l.from)
