-- by tools/prove
use Rattle.laws.specs.Progress.{path_part_advances}
use Rattle.parser.specs.Runs.{runs_in, loop_starts, loop_goes, loop_falls, loop_ends}
use mathlib.Core.Bool.{true}
use Rattle.util.proofs.path_parts.Goals as goal

pub loop-s2-init : goal.loop-s2-init
loop-s2-init c =
    let pre0 = c.requires in
    loop_starts pre0

pub path_part-turn-requires : goal.path_part-turn-requires
path_part-turn-requires c =
    let inv = c.loop-s2.invariant.ok in
    inv

pub loop-s2-smaller : goal.loop-s2-smaller
loop-s2-smaller c =
    let path_part = c.in-Ok.ensures in
    loop_falls (path_part_advances true _ _) (runs_in {b = 0} path_part)

pub loop-s2-preserved : goal.loop-s2-preserved
loop-s2-preserved c =
    let inv = c.loop-s2.invariant in
    let path_part = c.in-Ok.ensures in
    loop_goes (path_part_advances true _ _) inv (runs_in path_part)

pub returns-in-Err : goal.returns-in-Err
returns-in-Err c =
    let inv = c.loop-s2.invariant in
    let path_part = c.in-Err.ensures in
    loop_ends (path_part_advances true _ _) inv (runs_in path_part)
