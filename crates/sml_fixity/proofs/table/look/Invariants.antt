-- by hand: a loop over an environment's entries, whose invariant is its own.
-- `table::look` meets its contract. The loop's invariant: the bytes from `at` on are entries, among which the name has the fixity that it has among all.
use Prim.Native.Nat.{◌-◌}
use mathlib.Core.Path.{◌≡◌}
use lib.ListN.{length}
use Rattle.sml_fixity.proofs.Scan.{Rest}
use Rattle.sml_fixity.proofs.table.look.Given as goal

abbrev pub invariant-loop-at : goal.invariant-loop-at
invariant-loop-at l = Rest (λ x. x ≡ l.name) l.env l.at

abbrev pub decreases-loop-at : goal.decreases-loop-at
decreases-loop-at l = length l.env - l.at
