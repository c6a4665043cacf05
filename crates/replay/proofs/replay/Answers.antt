-- by hand: the list has a number in front, by the test of its form.
use Rattle.std.proofs.Common.{arith}
use Rattle.replay_parts.specs.Laws.{formed}
use Rattle.replay.proofs.replay.Goals as goal

pub number-requires : goal.number-requires
number-requires g c = let f = formed _ c.requires in omega arith
