-- by hand: a look at a token's text: the laws of `Says`.
use Rattle.texts.proofs.Texts.{no_number, is_number}
use Rattle.texts.proofs.number_at.Goals as goal

pub returns-in-Some : goal.returns-in-Some
returns-in-Some c = is_number c.in-Some.ensures c.number_in.ensures

pub returns-in-None : goal.returns-in-None
returns-in-None c = no_number c.in-None.ensures
