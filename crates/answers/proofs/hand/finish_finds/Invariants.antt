-- by hand: a loop over the findings, whose invariant is its own.
use Rattle.answers.proofs.Finds.{Bytes, Sealed}
use Rattle.answers.proofs.hand.finish_finds.Given as goal

abbrev pub invariant-loop-i : goal.invariant-loop-i
invariant-loop-i l = Bytes l.initial.finds × Sealed l.initial.finds l.finds l.i
