-- by tools/prove
use Rattle.grammar.specs.Pat as pat
use Rattle.parser.specs.Runs.{runs_always}
use Rattle.parser.specs.Plans.{plan, choose, chosen, in_steps, s_close, s_by, s_end}
use mathlib.Core.Bool.{true}
use Rattle.pat_parts.proofs.con_op.Goals as goal

pub should_break_pat-ends-requires : goal.should_break_pat-ends-requires
should_break_pat-ends-requires c =
    let pre0 = c.requires.0 in
    pre0

pub close_node-requires : goal.close_node-requires
close_node-requires c =
    let pre1 = c.requires.1 in
    let should_break_pat = c.in-Ok.ensures in
    let should_break_pat_ok = (should_break_pat true).ok in
    (should_break_pat_ok.logs, pre1)

pub close_node-requires-in-Err : goal.close_node-requires-in-Err
close_node-requires-in-Err c =
    let pre1 = c.requires.1 in
    let should_break_pat = c.in-Err.ensures in
    let should_break_pat_ok = (should_break_pat true).ok in
    (should_break_pat_ok.logs, pre1)

pub returns-in-Ok : goal.returns-in-Ok
unfolding pat.con_op plan choose chosen
returns-in-Ok c =
    let pre0 = c.requires.0 in
    let should_break_pat = c.in-Ok.ensures in
    let close_node = c.close_node.ensures in
    in_steps pre0 (s_by _ (runs_always (should_break_pat _)) (s_close close_node s_end))

pub returns-in-Err : goal.returns-in-Err
unfolding pat.con_op plan choose chosen
returns-in-Err c =
    let pre0 = c.requires.0 in
    let should_break_pat = c.in-Err.ensures in
    let close_node2 = c.close_node-in-Err.ensures in
    in_steps pre0 (s_by _ (runs_always (should_break_pat _)) (s_close close_node2 s_end))
