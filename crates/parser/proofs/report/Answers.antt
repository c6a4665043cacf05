-- by hand: it writes the findings: an operation that programs are made of, by the laws of `Tells`.
-- `report` meets its contract: one law for each return.
use Rattle.parser.proofs.Laws.{tells_off, tells_full, tells_goes}
use Rattle.parser.proofs.report.Goals as goal

pub returns-then-is_refused : goal.returns-then-is_refused
returns-then-is_refused c = search (tells_off, c.if-is_refused.ensures)

pub returns-then-s : goal.returns-then-s
returns-then-s c = search (tells_full, c.if-is_refused.ensures)

pub returns : goal.returns
returns c = search (tells_goes, c.if-is_refused.ensures)
