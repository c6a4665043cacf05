-- by tools/prove
use Rattle.grammar.specs.Dec as decl
use Rattle.sml_fixity.specs.Fix.{fixity_of}
use Rattle.parser.specs.View.{mem_of}
use Rattle.parser.specs.Runs.{Loops, turns}
use Rattle.fix_parts.proofs.names.Given as goal

abbrev pub invariant-loop-k : goal.invariant-loop-k
invariant-loop-k l = Loops l.left l.b (decl.names_turn (fixity_of l.f)) (mem_of l.initial.lent l.initial.table l.initial.scratch l.initial.finds l.initial.s1) (mem_of l.lent l.table l.scratch l.finds l.s1)

abbrev pub decreases-loop-k : goal.decreases-loop-k
decreases-loop-k l = turns (mem_of l.lent l.table l.scratch l.finds l.s1)
