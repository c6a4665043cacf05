-- What the code's heads of constructor patterns mean.
use Rattle.std.specs.Prelude.{ℕ}
use Rattle.grammar.specs.Pat.{go_on, at_op, stop}
use Rattle.parser.specs.declared.State.{State}
use Rattle.pat_parts.specs.declared.Head.{Head}
use Rattle.pat_parts.specs.declared.Head.TheVariants.{Missing, GoOn, AtOp, Stop}

-- the state in which a head was left, and how
abbrev pub head_state : Head → State
head_state (Missing s) = s
head_state (GoOn s) = s
head_state (AtOp s) = s
head_state (Stop s) = s

abbrev pub head_val : Head → ℕ
head_val (Missing s) = 0
head_val (GoOn s) = go_on
head_val (AtOp s) = at_op
head_val (Stop s) = stop
