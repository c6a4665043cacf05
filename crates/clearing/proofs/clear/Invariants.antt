-- by hand: a loop over bytes, whose invariant is its own: those from `kept` to `at` are zeroes, and those before `kept` are as they were.
use Rattle.std.proofs.Common.{◌≡◌, ◌≤◌, ◌-◌, ◌++◌, length, take}
use Rattle.grammar.specs.Read.{zeroes}
use Rattle.clearing.proofs.clear.Given as goal

abbrev pub invariant-loop-at : goal.invariant-loop-at
invariant-loop-at l = (l.at - l.kept ≤ length l.b - l.kept) × (take l.at l.b ≡ take l.kept l.initial.b ++ zeroes (l.at - l.kept))
