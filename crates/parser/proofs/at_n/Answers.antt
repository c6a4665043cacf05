-- by hand: a look, of which programs are made: what `peek_n` saw, by the laws of `Is`.
use Rattle.parser.proofs.Laws.{is_seen}
use Rattle.parser.proofs.at_n.Goals as goal

pub returns : goal.returns
returns c = is_seen _ c.peek_n.ensures c.eq.ensures
