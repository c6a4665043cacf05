-- by hand: one law of `==`.
-- `table::same` meets its contract.
use mathlib.Core.Path.{◌∙◌}
use Rattle.sml_fixity.proofs.Parts.{eq_same}
use Rattle.sml_fixity.proofs.table.same.Goals as goal

pub returns : goal.returns
returns c = c.eq.ensures ∙ eq_same c.args.a.now c.args.b.now
