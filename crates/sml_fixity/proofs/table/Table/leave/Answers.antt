-- by hand: one law of tables, for every journal.
-- `table::Table::leave` meets its contract.
use Rattle.sml_fixity.proofs.Scopes.{leaves}
use Rattle.sml_fixity.proofs.table.Table.leave.Goals as goal

pub returns : goal.returns
returns c = leaves c.args.self c.args.now
