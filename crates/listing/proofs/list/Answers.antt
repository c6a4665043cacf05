-- by hand: what a call used lies within what was lent.
use Rattle.listing_parts.specs.Used.{used}
use Rattle.listing.proofs.list.Goals as goal

pub list_answer-requires : goal.list_answer-requires
list_answer-requires g c = rw c.numbers-number.ensures.1 (used _ _ c.read-answer.ensures)
