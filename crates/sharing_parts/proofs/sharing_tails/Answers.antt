-- by tools/prove
use Rattle.laws.specs.Progress.{sharing_advances}
use Rattle.parser.specs.Runs.{runs_in, loop_starts, loop_goes, loop_falls, loop_ends}
use mathlib.Core.Bool.{true}
use Rattle.sharing_parts.proofs.sharing_tails.Goals as goal

pub loop-s2-init : goal.loop-s2-init
loop-s2-init c =
    let pre0 = c.requires in
    loop_starts pre0

pub sharing_turn-turn-requires : goal.sharing_turn-turn-requires
sharing_turn-turn-requires c =
    let inv = c.loop-s2.invariant.ok in
    inv

pub loop-s2-smaller : goal.loop-s2-smaller
loop-s2-smaller c =
    let sharing_turn = c.in-Ok.ensures in
    loop_falls (sharing_advances true _ _) (runs_in {b = 0} sharing_turn)

pub loop-s2-preserved : goal.loop-s2-preserved
loop-s2-preserved c =
    let inv = c.loop-s2.invariant in
    let sharing_turn = c.in-Ok.ensures in
    loop_goes (sharing_advances true _ _) inv (runs_in sharing_turn)

pub returns-in-Err : goal.returns-in-Err
returns-in-Err c =
    let inv = c.loop-s2.invariant in
    let sharing_turn = c.in-Err.ensures in
    loop_ends (sharing_advances true _ _) inv (runs_in sharing_turn)
