-- by tools/prove
use Rattle.laws.specs.Progress.{at_pat_advances}
use Rattle.parser.specs.Runs.{runs_in, loop_starts, loop_goes, loop_falls, loop_ends}
use mathlib.Core.Bool.{true}
use Rattle.fun_parts.proofs.at_pats.Goals as goal

pub loop-s2-init : goal.loop-s2-init
loop-s2-init c =
    let pre0 = c.requires in
    loop_starts pre0

pub at_pat-turn-requires : goal.at_pat-turn-requires
at_pat-turn-requires c =
    let inv = c.loop-s2.invariant.ok in
    inv

pub loop-s2-smaller : goal.loop-s2-smaller
loop-s2-smaller c =
    let at_pat = c.in-Ok.ensures in
    loop_falls (at_pat_advances true _ _ _) (runs_in {b = 0} (at_pat _))

pub loop-s2-preserved : goal.loop-s2-preserved
loop-s2-preserved c =
    let inv = c.loop-s2.invariant in
    let at_pat = c.in-Ok.ensures in
    loop_goes (at_pat_advances true _ _ _) inv (runs_in (at_pat _))

pub returns-in-Err : goal.returns-in-Err
returns-in-Err c =
    let inv = c.loop-s2.invariant in
    let at_pat = c.in-Err.ensures in
    loop_ends (at_pat_advances true _ _ _) inv (runs_in (at_pat _))
