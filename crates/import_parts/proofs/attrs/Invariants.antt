-- by tools/prove
use Rattle.grammar.specs.Dec as decl
use Rattle.parser.specs.View.{mem_of}
use Rattle.parser.specs.Runs.{Loops, turns}
use Rattle.import_parts.proofs.attrs.Given as goal

abbrev pub invariant-loop-scratch : goal.invariant-loop-scratch
invariant-loop-scratch l = Loops l.left l.b decl.attr_turn (mem_of l.initial.lent l.initial.table l.initial.scratch l.initial.finds l.initial.s1) (mem_of l.lent l.table l.scratch l.finds l.s1)

abbrev pub decreases-loop-scratch : goal.decreases-loop-scratch
decreases-loop-scratch l = turns (mem_of l.lent l.table l.scratch l.finds l.s1)
