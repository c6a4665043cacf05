-- by hand: the number of a kind stands in what is promised.
use Rattle.scopes.proofs.leave_node.Goals as goal

pub returns : goal.returns
returns c = rw c.number.ensures at c.leave.ensures
