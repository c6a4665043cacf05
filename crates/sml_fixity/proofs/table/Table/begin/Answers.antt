-- by hand: one law of tables, for every environment.
-- `table::Table::begin` meets its contract.
use Rattle.sml_fixity.proofs.Scopes.{begins}
use Rattle.sml_fixity.proofs.table.Table.begin.Goals as goal

pub returns : goal.returns
returns c = begins c.args.entries
