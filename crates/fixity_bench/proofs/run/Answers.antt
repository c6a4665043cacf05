-- by hand: no program, but the laws of a table that begins, is changed and goes back.
use Rattle.fixity_bench.proofs.Grow.{begun, grown_left}
use Rattle.fixity_bench.proofs.run.Goals as goal

pub change_all-full-requires : goal.change_all-full-requires
change_all-full-requires g c = (begun _ _ _ c.begin-start.ensures c.in-Some.ensures c.requires.0 c.requires.1, c.requires.0)

-- The table stands as it began, and so again behind the scope.
pub find_all-requires-2 : goal.find_all-requires-2
find_all-requires-2 g c =
    let started = begun _ _ _ c.begin-start.ensures c.in-Some.ensures c.requires.0 c.requires.1 in
    (grown_left c.change_all-full.ensures c.leave-left.ensures started, c.requires.0)
