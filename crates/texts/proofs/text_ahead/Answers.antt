-- by hand: a look at a token's text: where the text lies.
use native.Mathlib.Nat.{add-sub_cancel_left}
use Rattle.texts.proofs.Texts.{absent, present}
use Rattle.texts.proofs.text_ahead.Goals as goal

pub returns-in_err-i : goal.returns-in_err-i
returns-in_err-i c = rw c.from_residual.ensures (absent c.args.text.now c.in_err-i.ensures)

pub returns : goal.returns
returns c = present c.args.text.now c.in_ok-i.ensures (simp (add-sub_cancel_left, c.start_of-start.ensures, c.length_of.ensures))
