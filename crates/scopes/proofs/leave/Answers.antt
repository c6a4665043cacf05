-- by hand: the tool has no form for a contract that holds at one state or at another
use borrow.Author.Tests.{eq-eqb, ne_eqb}
use mathlib.Core.Path.{sym}
use Rattle.scopes.specs.Scopes.{left_by}
use Rattle.scopes.proofs.leave.Goals as goal

pub close-requires : goal.close-requires
close-requires c = rw c.give_back.ensures c.requires

pub returns-then-k-eq-LET_EXP : goal.returns-then-k-eq-LET_EXP
returns-then-k-eq-LET_EXP c = rw (eq-eqb _ _ c.if-k-eq-LET_EXP.true, left_by) (rw (sym c.give_back.ensures) c.close.ensures)

pub returns : goal.returns
returns c = rw (ne_eqb _ _ c.if-k-eq-LET_EXP.false, left_by) c.close-2.ensures
