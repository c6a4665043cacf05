-- by hand: a look at a token's text: the laws of `Says`.
use Rattle.texts.proofs.Texts.{no_word, is_word}
use Rattle.texts.proofs.says.Goals as goal

pub returns-in-Some : goal.returns-in-Some
returns-in-Some c = is_word c.args.word.now c.in-Some.ensures c.same.ensures

pub returns-in-None : goal.returns-in-None
returns-in-None c = no_word c.args.word.now c.in-None.ensures
