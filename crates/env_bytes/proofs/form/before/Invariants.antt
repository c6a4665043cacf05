-- by hand: a loop over the bytes of two names, whose invariant is its own.
-- `form::before` meets its contract. The loop's invariant: what is left of the two names compares as they do.
use mathlib.Core.Path.{◌≡◌}
use lib.ListN.{drop}
use Rattle.grammar.specs.Bytes.{before}
use Rattle.env_bytes.proofs.form.before.Given as goal

abbrev pub invariant-loop-i : goal.invariant-loop-i
invariant-loop-i l = before (drop l.i l.a) (drop l.i l.b) ≡ before l.a l.b
