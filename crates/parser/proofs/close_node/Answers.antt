-- by hand: the number of a kind stands in what is promised.
use Rattle.parser.proofs.close_node.Goals as goal

pub returns : goal.returns
returns c = rw c.number.ensures at c.close.ensures
