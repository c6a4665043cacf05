-- by hand: which of two states is left: an equation, no program.
-- `State::ok_since` meets its contract: one law for each return.
use Rattle.parser.proofs.Laws.{since_off, since_same, since_other}
use Rattle.parser.proofs.State.ok_since.Goals as goal

pub returns-then-is_refused : goal.returns-then-is_refused
returns-then-is_refused c = since_off _ _ c.if-is_refused.ensures

pub returns-then-now-self : goal.returns-then-now-self
returns-then-now-self c = since_same _ _ c.if-is_refused.ensures c.if-now-self.true

pub returns : goal.returns
returns c = since_other _ _ c.if-is_refused.ensures c.if-now-self.false
