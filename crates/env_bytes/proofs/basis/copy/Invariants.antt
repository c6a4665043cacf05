-- by hand: a loop over bytes, whose invariant is its own.
-- `basis::copy` meets its contract. The loop's invariant: storing what is left of the name ends in what storing all of it would.
use Prim.Native.Nat.{◌+◌}
use mathlib.Core.Path.{◌≡◌}
use lib.ListN.{length, drop}
use lib.Seq.{sets}
use Rattle.env_bytes.proofs.basis.copy.Given as goal

abbrev pub invariant-loop-i : goal.invariant-loop-i
invariant-loop-i l = (length l.out ≡ length l.initial.out) × (sets l.out (l.at + l.i) (drop l.i l.name) ≡ sets l.initial.out l.at l.name)
