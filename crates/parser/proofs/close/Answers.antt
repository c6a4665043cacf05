-- by hand: it writes the log: an operation that programs are made of, by the laws of `Adds`.
-- `close` meets its contract: one law for each return.
use Rattle.parser.proofs.Laws.{adds_off, adds_full, adds_goes}
use Rattle.parser.proofs.close.Goals as goal

pub returns-then-is_refused : goal.returns-then-is_refused
returns-then-is_refused c = search (adds_off, c.if-is_refused.ensures)

pub returns-then-s : goal.returns-then-s
returns-then-s c = search (adds_full, c.if-is_refused.ensures)

pub returns : goal.returns
returns c = search (adds_goes, c.if-is_refused.ensures)
