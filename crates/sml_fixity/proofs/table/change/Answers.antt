-- by hand: it writes the journal: the laws of the table's entries and their count.
-- `table::change` meets its contract: the entries are counted by what the name had and by what it gets.
use Prim.Native.Nat.{◌+◌, ◌-◌}
use mathlib.Core.Path.{◌≡◌, sym, ◌∙◌}
use native.Mathlib.Omega.{arith}
use lib.ListN.{length}
use Rattle.grammar.specs.World.{changed}
use Rattle.sml_fixity.specs.Fix.{fixity_of}
use Rattle.sml_fixity.specs.Table.{part, table_of}
use Rattle.sml_fixity.proofs.Changes.{balance, large, made}
use Rattle.sml_fixity.proofs.table.change.Goals as goal
use Rattle.sml_fixity.proofs.table.change.Goals.{After-holds-2}

-- the entries there will be
entries : (c : After-holds-2) → let a = c.args in length (changed (fixity_of a.f) (part a.text.now a.start a.len) (table_of a.text.now a.env.now a.journal.now a.t)) + c.holds-2.result ≡ a.t.entries + c.holds.result
entries c =
    let a = c.args in
    balance a.text.now a.env.now a.journal.now a.t a.start a.len a.f c.requires.0 c.requires.1
    c.holds.result c.holds-2.result (fixity_of c.find-was.result) c.holds.ensures c.holds-2.ensures c.find-was.ensures

pub overflow_sub-entries : goal.overflow_sub-entries
overflow_sub-entries c = let e = entries c in omega (arith, e)

pub returns-then-not-fits : goal.returns-then-not-fits
returns-then-not-fits c =
    let a = c.args in
    large a.text.now a.env.now a.journal.now a.t a.start a.len a.f c.requires.0 c.requires.1 (a.t.entries + c.holds.result - c.holds-2.result) c.if-t-ge1024.false (let e = entries (goal.at.returns-then-not-fits c).After-holds-2 in omega (arith, e))
    (sym c.fits.ensures ∙ c.if-not-fits.true)

pub returns : goal.returns
returns c =
    let a = c.args in
    made a.text.now a.env.now a.journal.now a.t a.start a.len a.f c.requires.0 c.requires.1 (a.t.entries + c.holds.result - c.holds-2.result) c.if-t-ge1024.false (let e = entries (goal.at.returns c).After-holds-2 in omega (arith, e))
    (sym c.fits.ensures ∙ c.if-not-fits.false)
    c.put.ensures.1
    c.put.ensures.0
