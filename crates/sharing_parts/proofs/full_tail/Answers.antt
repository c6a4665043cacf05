-- by tools/prove
use Rattle.grammar.specs.Dec as decl
use Rattle.parser.specs.Runs.{ok_state}
use Rattle.parser.specs.Plans.{plan, choose, chosen, in_steps, s_close, s_by, settled, s_end}
use Rattle.sharing_parts.proofs.full_tail.Goals as goal

pub sharings-more-requires : goal.sharings-more-requires
sharings-more-requires c =
    let pre0 = c.requires.0 in
    pre0

pub either-s1-requires : goal.either-s1-requires
either-s1-requires c =
    tt

pub close_node-requires : goal.close_node-requires
close_node-requires c =
    let pre1 = c.requires.1 in
    let sharings = c.sharings-more.ensures in
    let sharings_ok = sharings.ok in
    let either = c.either-s1.ensures in
    let either_ok = ok_state either sharings_ok in
    (either_ok.logs, pre1)

pub returns : goal.returns
unfolding decl.full_tail plan choose chosen
returns c =
    let pre0 = c.requires.0 in
    let sharings = c.sharings-more.ensures in
    let either = c.either-s1.ensures in
    let close_node = c.close_node.ensures in
    in_steps pre0 (s_by _ (settled either sharings) (s_close close_node s_end))
