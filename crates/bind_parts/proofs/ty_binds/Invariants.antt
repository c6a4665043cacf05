-- by tools/prove
use Rattle.grammar.specs.Util as util
use Rattle.grammar.specs.Dec as decl
use Rattle.grammar.specs.SyntaxKind as SK
use Rattle.parser.specs.View.{mem_of}
use Rattle.parser.specs.Runs.{Loops, turns}
use mathlib.Core.Bool.{true}
use Rattle.bind_parts.proofs.ty_binds.Given as goal

abbrev pub invariant-loop-s1 : goal.invariant-loop-s1
invariant-loop-s1 l = Loops l.left l.b (util.many_turn {g = true} SK.AndKw SK.TyBind decl.ty_bind) (mem_of l.initial.lent l.initial.table l.initial.scratch l.initial.finds l.initial.s1) (mem_of l.lent l.table l.scratch l.finds l.s1)

abbrev pub decreases-loop-s1 : goal.decreases-loop-s1
decreases-loop-s1 l = turns (mem_of l.lent l.table l.scratch l.finds l.s1)
