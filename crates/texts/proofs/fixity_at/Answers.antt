-- by hand: a look at a token's text: the laws of `Fixed`.
use Rattle.texts.proofs.Texts.{no_fixity, is_fixity}
use Rattle.texts.proofs.fixity_at.Goals as goal

pub returns-in_err-text_ahead : goal.returns-in_err-text_ahead
returns-in_err-text_ahead c = rw c.from_residual.ensures (no_fixity c.args.lent.env.now c.args.table.now c.in_err-text_ahead.ensures)

pub returns : goal.returns
returns c = is_fixity c.args.lent.env.now c.args.table.now c.in_ok-text_ahead.ensures c.find_name.ensures
