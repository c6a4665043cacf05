-- by hand: a loop whose invariant is its own: the sum so far fits.
use Rattle.std.proofs.Common.{◌≤◌, ◌*◌}
use Rattle.fixity_bench.proofs.find_all.Given as goal

abbrev pub invariant-loop-k : goal.invariant-loop-k
invariant-loop-k l = l.sum ≤ 65536 * l.k
