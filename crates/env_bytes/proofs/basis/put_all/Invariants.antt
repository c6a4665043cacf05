-- by hand: a loop over a table, whose invariant is its own.
-- `basis::put_all` meets its contract. The loop's invariant: storing the entries that are left at `at` ends in what storing all of them at the front would.
use lib.ListN.{drop}
use Rattle.grammar.specs.Env.{env_bytes}
use Rattle.env_bytes.specs.Basis.{entries_of}
use Rattle.env_bytes.proofs.Writes.{Left}
use Rattle.env_bytes.proofs.basis.put_all.Given as goal

abbrev pub invariant-loop-name : goal.invariant-loop-name
invariant-loop-name l = Left (env_bytes (entries_of l.entries)) l.initial.out l.out (env_bytes (entries_of (drop l.name-index l.entries))) l.at
