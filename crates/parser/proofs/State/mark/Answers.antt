-- by hand: an operation that programs are made of: the laws of `Marks`.
-- `State::mark` meets its contract: one law for each return.
use Rattle.parser.proofs.Laws.{marks_off, marks_full, marks_goes}
use Rattle.parser.proofs.State.mark.Goals as goal

pub returns-then-is_refused : goal.returns-then-is_refused
returns-then-is_refused c = search (marks_off, c.if-is_refused.ensures)

pub returns-then-self : goal.returns-then-self
returns-then-self c = search (marks_full, c.if-is_refused.ensures)

pub returns : goal.returns
returns c = search (marks_goes, c.if-is_refused.ensures)
