-- by hand: a loop whose invariant is its own: the table stands, and what it began with is still in the journal.
use Rattle.fixity_bench.specs.Bench.{Grown}
use Rattle.fixity_bench.proofs.change_all.Given as goal

abbrev pub invariant-loop-k : goal.invariant-loop-k
invariant-loop-k l = Grown l.text l.env l.initial.journal l.initial.full l.journal l.full
