-- by tools/prove
use Rattle.grammar.specs.Rule.{PatPrec as Prec}
use Rattle.grammar.specs.Util as util
use Rattle.grammar.specs.Pat as pat
use Rattle.grammar.specs.SyntaxKind as SK
use Rattle.pat_prec.specs.Prec.{prec_of}
use Rattle.parser.specs.View.{mem_of, err_of}
use Rattle.parser.specs.Runs.{Loops, turns}
use Prim.Native.Nat.{◌*◌}
use Prim.Native.Nat.{◌+◌}
use mathlib.Core.Bool.{true}
use Rattle.pat.proofs.+pat.Given as goal

abbrev pub decreases-arg_item : goal.decreases-arg_item
decreases-arg_item l = 64 * l.left

abbrev pub decreases-arg_turn : goal.decreases-arg_turn
decreases-arg_turn l = 64 * l.left + 1

abbrev pub decreases-args : goal.decreases-args
decreases-args l = 64 * l.left + 2

abbrev pub invariant-args-loop-s2 : goal.invariant-args-loop-s2
invariant-args-loop-s2 l = Loops l.left l.b (util.end_turn {g = true} SK.PatArg SK.Comma l.end (pat.pat_must Prec.Min (err_of l.e))) (mem_of l.initial.lent l.initial.table l.initial.scratch l.initial.finds l.initial.s1) (mem_of l.lent l.table l.scratch l.finds l.s1)

abbrev pub decreases-args-loop-s2 : goal.decreases-args-loop-s2
decreases-args-loop-s2 l = turns (mem_of l.lent l.table l.scratch l.finds l.s1)

abbrev pub decreases-as_pat_tl : goal.decreases-as_pat_tl
decreases-as_pat_tl l = 64 * l.left

abbrev pub decreases-as_step : goal.decreases-as_step
decreases-as_step l = 64 * l.left

abbrev pub decreases-at_head : goal.decreases-at_head
decreases-at_head l = 64 * l.left + 5

abbrev pub decreases-at_must : goal.decreases-at_must
decreases-at_must l = 64 * l.left + 1

abbrev pub decreases-at_pat : goal.decreases-at_pat
decreases-at_pat l = 64 * l.left

abbrev pub decreases-at_round : goal.decreases-at_round
decreases-at_round l = 64 * l.left + 3

abbrev pub decreases-atom : goal.decreases-atom
decreases-atom l = 64 * l.left + 4

abbrev pub decreases-con : goal.decreases-con
decreases-con l = 64 * l.left + 4

abbrev pub decreases-con_head : goal.decreases-con_head
decreases-con_head l = 64 * l.left

abbrev pub decreases-con_turn : goal.decreases-con_turn
decreases-con_turn l = 64 * l.left + 2

abbrev pub decreases-inf_pat : goal.decreases-inf_pat
decreases-inf_pat l = 64 * l.left

abbrev pub decreases-op_step : goal.decreases-op_step
decreases-op_step l = 64 * l.left + 1

abbrev pub decreases-op_tail : goal.decreases-op_tail
decreases-op_tail l = 64 * l.left + 1

abbrev pub decreases-or_step : goal.decreases-or_step
decreases-or_step l = 64 * l.left

abbrev pub decreases-pat_arg : goal.decreases-pat_arg
decreases-pat_arg l = 64 * l.left

abbrev pub decreases-pat_must : goal.decreases-pat_must
decreases-pat_must l = 64 * l.left + 6

abbrev pub decreases-pat_prec : goal.decreases-pat_prec
decreases-pat_prec l = 64 * l.left + 5

abbrev pub decreases-rest : goal.decreases-rest
decreases-rest l = 64 * l.left + 4

abbrev pub decreases-row : goal.decreases-row
decreases-row l = 64 * l.left

abbrev pub decreases-row_item : goal.decreases-row_item
decreases-row_item l = 64 * l.left

abbrev pub decreases-row_turn : goal.decreases-row_turn
decreases-row_turn l = 64 * l.left + 1

abbrev pub decreases-rows : goal.decreases-rows
decreases-rows l = 64 * l.left + 2

abbrev pub invariant-rows-loop-s2 : goal.invariant-rows-loop-s2
invariant-rows-loop-s2 l = Loops l.left l.b (util.end_turn {g = true} SK.PatRow SK.Comma SK.RCurly (pat.pat_row (err_of l.e))) (mem_of l.initial.lent l.initial.table l.initial.scratch l.initial.finds l.initial.s1) (mem_of l.lent l.table l.scratch l.finds l.s1)

abbrev pub decreases-rows-loop-s2 : goal.decreases-rows-loop-s2
decreases-rows-loop-s2 l = turns (mem_of l.lent l.table l.scratch l.finds l.s1)

abbrev pub decreases-step : goal.decreases-step
decreases-step l = 64 * l.left + 2

abbrev pub decreases-tail : goal.decreases-tail
decreases-tail l = 64 * l.left + 3

abbrev pub invariant-tail-loop-s2 : goal.invariant-tail-loop-s2
invariant-tail-loop-s2 l = Loops l.left l.b (pat.pat_step (prec_of l.min) (err_of l.e)) (mem_of l.initial.lent l.initial.table l.initial.scratch l.initial.finds l.initial.s1) (mem_of l.lent l.table l.scratch l.finds l.s1)

abbrev pub decreases-tail-loop-s2 : goal.decreases-tail-loop-s2
decreases-tail-loop-s2 l = turns (mem_of l.lent l.table l.scratch l.finds l.s1)

abbrev pub decreases-vector : goal.decreases-vector
decreases-vector l = 64 * l.left
