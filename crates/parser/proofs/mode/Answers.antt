-- by hand: a look at the state alone: the laws of `Saw`.
-- `mode` meets its contract: one law for each return.
use Rattle.parser.proofs.Laws.{mode_off, mode_on}
use Rattle.parser.proofs.mode.Goals as goal

pub returns-then-is_refused : goal.returns-then-is_refused
returns-then-is_refused c = search (mode_off, c.if-is_refused.ensures)

pub returns : goal.returns
returns c = search (mode_on, c.if-is_refused.ensures)
