-- by hand: a loop over bytes, whose invariant is its own.
-- `digits_in` meets its contract. The loop's invariant: the digits left, after the value so far, give the number of all, and that value is small.
use Prim.Native.Nat.{◌+◌, ◌-◌, ◌≤◌}
use mathlib.Core.Path.{◌≡◌}
use Rattle.grammar.specs.World.{digits, some_digits}
use Rattle.sml_fixity.specs.Table.{part}
use Rattle.texts.specs.Texts.{value_of}
use Rattle.texts.proofs.digits_in.Given as goal

abbrev pub invariant-loop-k : goal.invariant-loop-k
invariant-loop-k l =
    (l.v ≤ 65535) × (value_of (digits l.v (part l.text (l.start + l.k) (l.len - l.k))) ≡ value_of (some_digits (part l.text l.start l.len)))
