-- by tools/prove
use Rattle.laws.specs.Progress.{path_advances}
use Rattle.parser.specs.Runs.{runs_in, loop_starts, loop_goes, loop_falls, loop_ends}
use mathlib.Core.Bool.{true}
use Rattle.leaf_parts.proofs.opens.Goals as goal

pub loop-s2-init : goal.loop-s2-init
loop-s2-init c =
    let pre0 = c.requires in
    loop_starts pre0

pub path-turn-requires : goal.path-turn-requires
path-turn-requires c =
    let inv = c.loop-s2.invariant.ok in
    inv

pub loop-s2-smaller : goal.loop-s2-smaller
loop-s2-smaller c =
    let path = c.in-Ok.ensures in
    loop_falls (path_advances true _ _) (runs_in {b = 0} path)

pub loop-s2-preserved : goal.loop-s2-preserved
loop-s2-preserved c =
    let inv = c.loop-s2.invariant in
    let path = c.in-Ok.ensures in
    loop_goes (path_advances true _ _) inv (runs_in path)

pub returns-in-Err : goal.returns-in-Err
returns-in-Err c =
    let inv = c.loop-s2.invariant in
    let path = c.in-Err.ensures in
    loop_ends (path_advances true _ _) inv (runs_in path)
