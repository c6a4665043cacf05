-- by hand: a look at the state alone: the laws of `Spells`.
-- `index` meets its contract: one law for each return.
use borrow.Author.Tests.{ltb-true, ltb-false}
use lib.Dec.{ltb}
use Rattle.sml_fixity.specs.Names.{by_test}
use Rattle.parser.proofs.Laws.{spells_off, spells_none, spells_at}
use Rattle.parser.proofs.index.Goals as goal

pub returns-then-is_refused : goal.returns-then-is_refused
returns-then-is_refused c = spells_off c.if-is_refused.ensures

pub returns : goal.returns
returns c =
    let s = c.args.s in
    by_test (ltb s.at s.count)
    (λ h. rw (c.then_some.ensures, h) (spells_at c.if-is_refused.ensures (ltb-true s.at s.count h)))
    (λ h. rw (c.then_some.ensures, h) (spells_none c.if-is_refused.ensures (ltb-false s.at s.count h)))
