-- by hand: a look, of which programs are made: the laws of `Saw`.
use Rattle.parser.proofs.Laws.{saw_none, saw_kind}
use Rattle.parser.proofs.peek_n.Goals as goal

pub returns-in_err-i : goal.returns-in_err-i
returns-in_err-i c = rw c.from_residual.ensures (saw_none c.in_err-i.ensures)

pub returns : goal.returns
returns c = saw_kind c.in_ok-i.ensures
