-- by hand: an entry takes a byte at least, so that their number is that of the bytes at most.
use Rattle.std.proofs.Common.{◌+◌, ◌≤◌, length}
use Rattle.listing_parts.proofs.lines.entry_count.Given as goal

abbrev pub invariant-loop-rest : goal.invariant-loop-rest
invariant-loop-rest l = l.n + length l.rest ≤ length l.env

abbrev pub decreases-loop-rest : goal.decreases-loop-rest
decreases-loop-rest l = length l.rest
