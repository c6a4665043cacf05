-- by hand: it writes the log: an operation that programs are made of, by the laws of `Bumps`.
-- `bump` meets its contract: one law for each return.
use Rattle.parser.proofs.Laws.{bumps_off, bumps_none, bumps_full, bumps_goes}
use Rattle.parser.proofs.bump.Goals as goal

pub returns-then-is_refused : goal.returns-then-is_refused
returns-then-is_refused c = search (bumps_off, c.if-is_refused.ensures)

pub returns-then-s-at : goal.returns-then-s-at
returns-then-s-at c = search (bumps_none, c.if-is_refused.ensures)

pub returns-then-s : goal.returns-then-s
returns-then-s c = search (bumps_full, c.if-is_refused.ensures)

pub returns : goal.returns
returns c = search (bumps_goes, c.if-is_refused.ensures)
