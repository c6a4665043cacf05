-- by tools/prove
use Rattle.laws.specs.Progress.{root_turn_advances}
use Rattle.parser.specs.Runs.{runs_in, loop_starts, loop_goes, loop_falls, loop_ends}
use Rattle.sml_parse.proofs.root.root_turns.Goals as goal

pub loop-s2-init : goal.loop-s2-init
loop-s2-init c =
    let pre0 = c.requires in
    loop_starts pre0

pub root_turn-turn-requires : goal.root_turn-turn-requires
root_turn-turn-requires c =
    let inv = c.loop-s2.invariant.ok in
    inv

pub loop-s2-smaller : goal.loop-s2-smaller
loop-s2-smaller c =
    let root_turn = c.in-Ok.ensures in
    loop_falls (root_turn_advances _ _) (runs_in {b = 0} root_turn)

pub loop-s2-preserved : goal.loop-s2-preserved
loop-s2-preserved c =
    let inv = c.loop-s2.invariant in
    let root_turn = c.in-Ok.ensures in
    loop_goes (root_turn_advances _ _) inv (runs_in root_turn)

pub returns-in-Err : goal.returns-in-Err
returns-in-Err c =
    let inv = c.loop-s2.invariant in
    let root_turn = c.in-Err.ensures in
    loop_ends (root_turn_advances _ _) inv (runs_in root_turn)
