-- by hand: a loop over the journal, whose invariant is its own.
use Prim.Native.Nat.{◌-◌}
use native.Mathlib.Nat.{add-sub_cancel_left}
use native.Mathlib.Omega.{arith}
use mathlib.Core.Path.{◌≡◌, sym, ◌∙◌}
use Rattle.grammar.specs.Bytes.{same}
use Rattle.sml_fixity.specs.EnvBytes.{sorted_env}
use Rattle.sml_fixity.specs.Table.{name_at, in_force, entries_in}
use Rattle.sml_fixity.proofs.Journals.{found, passed}
use Rattle.sml_fixity.proofs.table.find_name.Goals as goal
use Rattle.sml_fixity.proofs.table.find_name.Goals.{After-same}

-- what the comparison says of the change's name
compared : (c : After-same) → let a = c.args in c.same.result ≡ same a.name.now (name_at a.text.now a.journal.now (c.loop-i.i - 1))
compared c = simp (add-sub_cancel_left, c.pair-start.ensures, c.pair-len.ensures) at c.same.ensures

pub returns-then-same : goal.returns-then-same
returns-then-same c =
    let a = c.args in
    let sorted = sorted_env a.env.now (entries_in a.env.now) c.requires.form in
    let f = found a.text.now (entries_in a.env.now) a.journal.now sorted a.name.now (c.loop-i.i - 1) c.loop-i.i (omega arith) (sym (compared (goal.at.returns-then-same c).After-same) ∙ c.if-same.true) in
    c.read.ensures ∙ sym f ∙ c.loop-i.invariant

pub loop-i-preserved : goal.loop-i-preserved
loop-i-preserved c =
    let a = c.args in
    let sorted = sorted_env a.env.now (entries_in a.env.now) c.requires.form in
    let p = passed a.text.now (entries_in a.env.now) a.journal.now sorted a.name.now (c.loop-i.i - 1) c.loop-i.i (omega arith) (sym (compared (goal.at.loop-i-preserved c).After-same) ∙ c.if-same.false) in
    sym p ∙ c.loop-i.invariant

pub returns : goal.returns
unfolding in_force
returns c =
    let z : c.loop-i.i ≡ 0 = omega arith in
    c.look.ensures ∙ (rw z at c.loop-i.invariant)
