-- by tools/prove
use Rattle.grammar.specs.Dec as decl
use Rattle.parser.specs.Runs.{runs_in, ok_state}
use Rattle.parser.specs.Plans.{plan, choose, chosen, in_steps, s_close, s_by, settled, s_end}
use Rattle.dec_parts.proofs.str_path.Goals as goal

pub path_must-got-requires : goal.path_must-got-requires
path_must-got-requires c =
    let pre0 = c.requires.0 in
    pre0

pub either-s1-requires : goal.either-s1-requires
either-s1-requires c =
    tt

pub close_node-requires : goal.close_node-requires
close_node-requires c =
    let pre1 = c.requires.1 in
    let path_must = c.path_must-got.ensures in
    let path_must_ok = path_must.ok in
    let either = c.either-s1.ensures in
    let either_ok = ok_state either path_must_ok in
    (either_ok.logs, pre1)

pub returns : goal.returns
unfolding decl.str_path plan choose chosen
returns c =
    let pre0 = c.requires.0 in
    let path_must = c.path_must-got.ensures in
    let either = c.either-s1.ensures in
    let close_node = c.close_node.ensures in
    in_steps pre0 (s_by _ (settled either (runs_in path_must)) (s_close close_node s_end))
