-- by hand: a loop over the steps of a walk, whose invariant is its own.
-- `write_nodes` meets its contract. The loop's invariant: the walk stands, and ends in the nodes' bytes with zeroes behind them.
use Rattle.std.proofs.Common.{length, ◌/◌}
use Rattle.grammar.specs.Read.{pad}
use Rattle.parser.specs.View.{chunk_size}
use Rattle.node_count.specs.Log.{nodes_in}
use Rattle.nodes.specs.Walk.{Walks}
use Rattle.nodes.proofs.write_nodes.Given as goal

abbrev pub invariant-loop-at : goal.invariant-loop-at
invariant-loop-at l =
    Walks (pad (length l.initial.nodes) (nodes_in l.initial.log (length l.initial.log / chunk_size))) l.log (length l.log / chunk_size) l.nodes l.at l.walk.left l.walk.top
