-- by hand: a count over the pieces of a buffer, which `search` does not join to the log.
use Rattle.std.proofs.Common.{arith, rules, tests, length, ◌/◌}
use Rattle.std.proofs.lemmas.Iterator.Consumers.{count_from_yields_List, YieldsList-from_filter, YieldsList-at}
use Rattle.parser.specs.View.{chunk_size}
use Rattle.node_count.specs.Counts.{counted}
use Rattle.node_count.proofs.Pieces.{ends, yields, weighs, at_most}
use Rattle.node_count.proofs.node_count.Goals as goal

pub returns : goal.returns
returns c =
    let xs = c.args.log.now in
    let n = length xs / chunk_size in
    let e = count_from_yields_List c.filter.result _ c.count-ends.ensures.ran
    (YieldsList-from_filter _ ends (YieldsList-at c.filter.ensures.source (yields c.chunks_exact.result xs c.chunks_exact.ensures.rest c.chunks_exact.ensures.size)) c.filter.ensures.closure (λ x r q k. search (rules, tests))) in
    record { bytes = counted xs n _ (omega (arith, weighs n xs)); few = omega (arith, at_most n xs) }
