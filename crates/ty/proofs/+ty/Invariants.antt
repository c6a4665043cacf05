-- by tools/prove
use Rattle.grammar.specs.Util as util
use Rattle.grammar.specs.Ty as types
use Rattle.grammar.specs.SyntaxKind as SK
use Rattle.parser.specs.View.{mem_of}
use Rattle.parser.specs.Runs.{Loops, turns}
use Prim.Native.Nat.{◌*◌}
use Prim.Native.Nat.{◌+◌}
use mathlib.Core.Bool.{true}
use Rattle.ty.proofs.+ty.Given as goal

abbrev pub decreases-arg_item : goal.decreases-arg_item
decreases-arg_item l = 32 * l.left + 5

abbrev pub decreases-arg_turn : goal.decreases-arg_turn
decreases-arg_turn l = 32 * l.left + 6

abbrev pub decreases-row_item : goal.decreases-row_item
decreases-row_item l = 32 * l.left + 5

abbrev pub decreases-row_turn : goal.decreases-row_turn
decreases-row_turn l = 32 * l.left + 6

abbrev pub decreases-star_factor : goal.decreases-star_factor
decreases-star_factor l = 32 * l.left + 4

abbrev pub decreases-star_tail : goal.decreases-star_tail
decreases-star_tail l = 32 * l.left + 6

abbrev pub invariant-star_tail-loop-s2 : goal.invariant-star_tail-loop-s2
invariant-star_tail-loop-s2 l = Loops l.left l.b types.star_turn (mem_of l.initial.lent l.initial.table l.initial.scratch l.initial.finds l.initial.s1) (mem_of l.lent l.table l.scratch l.finds l.s1)

abbrev pub decreases-star_tail-loop-s2 : goal.decreases-star_tail-loop-s2
decreases-star_tail-loop-s2 l = turns (mem_of l.lent l.table l.scratch l.finds l.s1)

abbrev pub decreases-star_turn : goal.decreases-star_turn
decreases-star_turn l = 32 * l.left + 5

abbrev pub decreases-ty_arg : goal.decreases-ty_arg
decreases-ty_arg l = 32 * l.left + 8

abbrev pub decreases-ty_args : goal.decreases-ty_args
decreases-ty_args l = 32 * l.left + 7

abbrev pub invariant-ty_args-loop-s2 : goal.invariant-ty_args-loop-s2
invariant-ty_args-loop-s2 l = Loops l.left l.b (util.end_turn {g = true} SK.TyArg SK.Comma SK.RRound (types.ty_must 0)) (mem_of l.initial.lent l.initial.table l.initial.scratch l.initial.finds l.initial.s1) (mem_of l.lent l.table l.scratch l.finds l.s1)

abbrev pub decreases-ty_args-loop-s2 : goal.decreases-ty_args-loop-s2
decreases-ty_args-loop-s2 l = turns (mem_of l.lent l.table l.scratch l.finds l.s1)

abbrev pub decreases-ty_arrow : goal.decreases-ty_arrow
decreases-ty_arrow l = 32 * l.left

abbrev pub decreases-ty_head : goal.decreases-ty_head
decreases-ty_head l = 32 * l.left + 12

abbrev pub decreases-ty_inner : goal.decreases-ty_inner
decreases-ty_inner l = 32 * l.left + 11

abbrev pub decreases-ty_must : goal.decreases-ty_must
decreases-ty_must l = 32 * l.left + 4

abbrev pub decreases-ty_prec : goal.decreases-ty_prec
decreases-ty_prec l = 32 * l.left + 3

abbrev pub decreases-ty_round : goal.decreases-ty_round
decreases-ty_round l = 32 * l.left + 10

abbrev pub decreases-ty_row : goal.decreases-ty_row
decreases-ty_row l = 32 * l.left + 5

abbrev pub decreases-ty_rows : goal.decreases-ty_rows
decreases-ty_rows l = 32 * l.left + 7

abbrev pub invariant-ty_rows-loop-s2 : goal.invariant-ty_rows-loop-s2
invariant-ty_rows-loop-s2 l = Loops l.left l.b (util.end_turn {g = true} SK.TyRow SK.Comma SK.RCurly types.ty_row) (mem_of l.initial.lent l.initial.table l.initial.scratch l.initial.finds l.initial.s1) (mem_of l.lent l.table l.scratch l.finds l.s1)

abbrev pub decreases-ty_rows-loop-s2 : goal.decreases-ty_rows-loop-s2
decreases-ty_rows-loop-s2 l = turns (mem_of l.lent l.table l.scratch l.finds l.s1)

abbrev pub decreases-ty_seq : goal.decreases-ty_seq
decreases-ty_seq l = 32 * l.left + 9

abbrev pub decreases-ty_step : goal.decreases-ty_step
decreases-ty_step l = 32 * l.left + 1

abbrev pub decreases-ty_tail : goal.decreases-ty_tail
decreases-ty_tail l = 32 * l.left + 2

abbrev pub invariant-ty_tail-loop-s2 : goal.invariant-ty_tail-loop-s2
invariant-ty_tail-loop-s2 l = Loops l.left l.b (types.ty_step l.min) (mem_of l.initial.lent l.initial.table l.initial.scratch l.initial.finds l.initial.s1) (mem_of l.lent l.table l.scratch l.finds l.s1)

abbrev pub decreases-ty_tail-loop-s2 : goal.decreases-ty_tail-loop-s2
decreases-ty_tail-loop-s2 l = turns (mem_of l.lent l.table l.scratch l.finds l.s1)

abbrev pub decreases-ty_tuple : goal.decreases-ty_tuple
decreases-ty_tuple l = 32 * l.left
