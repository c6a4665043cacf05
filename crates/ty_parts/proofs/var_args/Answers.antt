-- by tools/prove
use Rattle.laws.specs.Progress.{end_turn_advances}
use Rattle.parser.specs.Runs.{runs_in, loop_starts, loop_goes, loop_falls, loop_ends}
use mathlib.Core.Bool.{true}
use Rattle.ty_parts.proofs.var_args.Goals as goal

pub loop-s2-init : goal.loop-s2-init
loop-s2-init c =
    let pre0 = c.requires.0 in
    let pre1 = c.requires.1 in
    loop_starts pre0

pub var_turn-turn-requires : goal.var_turn-turn-requires
var_turn-turn-requires c =
    let inv = c.loop-s2.invariant.ok in
    inv

pub loop-s2-smaller : goal.loop-s2-smaller
loop-s2-smaller c =
    let var_turn = c.in-Ok.ensures in
    loop_falls (end_turn_advances true _ _ _ _ _ _) (runs_in {b = 0} var_turn)

pub loop-s2-preserved : goal.loop-s2-preserved
loop-s2-preserved c =
    let inv = c.loop-s2.invariant in
    let var_turn = c.in-Ok.ensures in
    loop_goes (end_turn_advances true _ _ _ _ _ _) inv (runs_in var_turn)

pub returns-in-Err : goal.returns-in-Err
returns-in-Err c =
    let inv = c.loop-s2.invariant in
    let var_turn = c.in-Err.ensures in
    loop_ends (end_turn_advances true _ _ _ _ _ _) inv (runs_in var_turn)
