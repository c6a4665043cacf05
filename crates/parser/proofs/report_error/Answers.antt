-- by hand: the numbers of a finding stand in what is promised.
use Rattle.parser.proofs.report_error.Goals as goal

pub report-requires : goal.report-requires
report-requires c = (c.requires.0, c.requires.1, rw c.name.ensures c.requires.2)

pub returns : goal.returns
returns c = rw (c.code.ensures, c.detail.ensures, c.name.ensures) at c.report.ensures
