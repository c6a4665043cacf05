-- by tools/prove
use Rattle.grammar.specs.Util as util
use Rattle.grammar.specs.SyntaxKind as SK
use Rattle.parser.specs.View.{mem_of}
use Rattle.parser.specs.Runs.{Loops, turns}
use mathlib.Core.Bool.{true}
use Rattle.ty_parts.proofs.var_args.Given as goal

abbrev pub invariant-loop-s2 : goal.invariant-loop-s2
invariant-loop-s2 l = Loops l.left l.b (util.end_turn {g = true} SK.TyVarArg SK.Comma SK.RRound (util.eat SK.TyVar)) (mem_of l.initial.lent l.initial.table l.initial.scratch l.initial.finds l.initial.s1) (mem_of l.lent l.table l.scratch l.finds l.s1)

abbrev pub decreases-loop-s2 : goal.decreases-loop-s2
decreases-loop-s2 l = turns (mem_of l.lent l.table l.scratch l.finds l.s1)
