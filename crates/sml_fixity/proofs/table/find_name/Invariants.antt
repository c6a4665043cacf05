-- by hand: a loop over the journal, whose invariant is its own.
-- `table::find_name` meets its contract. The loop's invariant: the name has the fixity that it has without the changes from `i` on.
use mathlib.Core.Path.{◌≡◌}
use Rattle.grammar.specs.Env.{find}
use Rattle.sml_fixity.specs.Table.{in_force, entries_in}
use Rattle.sml_fixity.proofs.table.find_name.Given as goal

abbrev pub invariant-loop-i : goal.invariant-loop-i
invariant-loop-i l =
    find l.name (in_force l.text (entries_in l.env) l.journal l.i) ≡ find l.name (in_force l.text (entries_in l.env) l.journal l.fn.t.len)
