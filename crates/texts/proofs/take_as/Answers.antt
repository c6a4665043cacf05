-- by hand: it writes the log and the journal: an operation that programs are made of, by the laws of changes.
-- `take_as` meets its contract: the bump, and behind it the change.
use native.Mathlib.Omega.{arith}
use Rattle.grammar.specs.World.{take1}
use Rattle.sml_fixity.specs.Fix.{fixity_of}
use Rattle.parser.specs.View.{mem, Did}
use Rattle.texts.proofs.Changes.{takes_off, takes_none, takes_full, takes_refused, takes_changed}
use Rattle.texts.proofs.take_as.Goals as goal
use Rattle.texts.proofs.take_as.Goals.{After-bump-r, then-is_refused-via-then-is_refused, then-is_refused-via-else-is_refused+then-s}

-- what the bump did
did : (k : After-bump-r) → let a = k.args in Did take1 (mem a.lent.text.now a.lent.toks.now a.lent.env.now a.table.now a.scratch.now a.finds.now a.s) (mem a.lent.text.now a.lent.toks.now a.lent.env.now a.table.now k.bump-r.new.scratch a.finds.now k.bump-r.result)
did k =
    let a = k.args in
    k.bump-r.ensures.does a.lent.text.now a.lent.env.now a.table.now a.finds.now k.requires

pub returns-then-is_refused : goal.returns-then-is_refused
returns-then-is_refused c =
    elim c.then-is_refused.branch [
      | then-is_refused-via-then-is_refused w ↦ takes_off c.requires (fixity_of c.args.f) w.if-is_refused.ensures
      | then-is_refused-via-else-is_refused+then-s w ↦ takes_none c.requires (fixity_of c.args.f) w.if-is_refused.ensures w.if-s.true
    ]

pub returns-then-is_refused-2 : goal.returns-then-is_refused-2
returns-then-is_refused-2 c =
    takes_full (fixity_of c.args.f) c.requires c.if-is_refused.ensures c.if-s.false (did (goal.at.returns-then-is_refused-2 c).After-bump-r) c.if-is_refused-2.ensures

pub change-requires : goal.change-requires
change-requires c =
    let w = c.requires.names.within c.args.s.at c.if-s.false in
    ((did (goal.at.change-requires c).After-bump-r).ok.stands, omega (arith, w, c.length_of-len.ensures, c.start_of-start.ensures))

pub returns-in-Ok : goal.returns-in-Ok
returns-in-Ok c =
    let h = rw (c.length_of-len.ensures, c.start_of-start.ensures) at c.in-Ok.ensures in
    takes_changed (fixity_of c.args.f) c.requires c.if-is_refused.ensures c.if-s.false (did (goal.at.returns-in-Ok c).After-bump-r) c.if-is_refused-2.ensures h

pub returns-in-Err : goal.returns-in-Err
returns-in-Err c =
    let h = rw (c.length_of-len.ensures, c.start_of-start.ensures) at c.in-Err.ensures in
    takes_refused (fixity_of c.args.f) c.requires c.if-is_refused.ensures c.if-s.false (did (goal.at.returns-in-Err c).After-bump-r) c.if-is_refused-2.ensures h c.refuse_for.ensures
