-- by hand: a loop over names in their order, whose invariant and measure are its own.
-- `out::copy_out` meets its contract. The loop's invariant: storing the entries from the next name on at `at` ends in what storing all of them at the front would.
use Prim.Native.Nat.{ℕ, ◌+◌}
use mathlib.Core.List.{List, [], ◌++◌}
use lib.ListN.{length}
use Rattle.std.specs.Prelude.{Option, Some, None}
use Rattle.std.specs.Borrow.{Bor}
use Rattle.std.specs.List.{filter}
use Rattle.grammar.specs.Bytes.{before}
use Rattle.grammar.specs.Env.{Entry, env_bytes}
use Rattle.sml_fixity.specs.Table.{table_of}
use Rattle.env_bytes.specs.Names.{names_in, changed_names}
use Rattle.env_bytes.proofs.out.Froms.{froms}
use Rattle.env_bytes.proofs.Writes.{Left}
use Rattle.env_bytes.proofs.out.copy_out.Given as goal

-- the entries from a name on, and how many names come from it on, itself counted
abbrev pub from : Option (Bor (List ℕ)) → List Entry → List Entry
from None es = []
from (Some x) es = froms x.now es

abbrev pub still : Option (Bor (List ℕ)) → List (List ℕ) → ℕ
still None names = 0
still (Some x) names = length (filter (before x.now) names) + 1

abbrev pub invariant-loop-name : goal.invariant-loop-name
invariant-loop-name l =
    let es = table_of l.text l.env l.journal l.t in
    Left (env_bytes es) l.initial.out l.out (env_bytes (from l.name es)) l.at

abbrev pub decreases-loop-name : goal.decreases-loop-name
decreases-loop-name l = still l.name (names_in l.env ++ changed_names l.text l.journal l.t.len)
