-- by tools/prove
use Rattle.grammar.specs.Dec as decl
use Rattle.parser.specs.Plans.{plan, choose, chosen, in_steps, s_close, s_by, s_end}
use Rattle.sharing_parts.proofs.bare_tail.Goals as goal

pub sharings-more-requires : goal.sharings-more-requires
sharings-more-requires c =
    let pre0 = c.requires.0 in
    pre0

pub close_node-requires : goal.close_node-requires
close_node-requires c =
    let pre1 = c.requires.1 in
    let sharings = c.in-Ok.ensures in
    let sharings_ok = sharings.ok in
    (sharings_ok.logs, pre1)

pub close_node-requires-in-Err : goal.close_node-requires-in-Err
close_node-requires-in-Err c =
    let pre1 = c.requires.1 in
    let sharings = c.in-Err.ensures in
    let sharings_ok = sharings.ok in
    (sharings_ok.logs, pre1)

pub returns-in-Ok : goal.returns-in-Ok
unfolding decl.bare_tail plan choose chosen
returns-in-Ok c =
    let pre0 = c.requires.0 in
    let sharings = c.in-Ok.ensures in
    let close_node = c.close_node.ensures in
    in_steps pre0 (s_by _ sharings (s_close close_node s_end))

pub returns-in-Err : goal.returns-in-Err
unfolding decl.bare_tail plan choose chosen
returns-in-Err c =
    let pre0 = c.requires.0 in
    let sharings = c.in-Err.ensures in
    let close_node2 = c.close_node-in-Err.ensures in
    in_steps pre0 (s_by _ sharings (s_close close_node2 s_end))
