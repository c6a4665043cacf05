-- What a run of changes leaves: a table over the same journal, longer, so that the table it began with can come back.
use Rattle.std.specs.Prelude.{ℕ, ◌*◌, ◌≤◌, ◌<◌, ◌≡◌, List, length, get_or}
use Rattle.sml_fixity.specs.Table.{Stands, change_size}
use Rattle.sml_fixity.specs.declared.table.Table.{Table}

pub record Grown (text env journal : List ℕ) (t : Table) (journal' : List ℕ) (t' : Table) : Type 0 where
  pub stands : Stands text env journal' t'
  pub counted : t.changes ≤ t'.changes
  pub longer : t.len ≤ t'.len
  pub below : (i : ℕ) → i < change_size * t.len → get_or journal' i 0 ≡ get_or journal i 0
  pub long : length journal' ≡ length journal
