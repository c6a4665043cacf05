-- by hand: a loop over an environment's entries, whose invariant is its own.
-- `form::form_of` meets its contract. The loop's invariant: the entries that are left, and those that were passed, are the environment's.
use Prim.Native.Nat.{ℕ, ◌+◌, ◌-◌, ◌≤◌}
use mathlib.Core.Path.{◌≡◌}
use mathlib.Core.Option.{Option, none, some}
use mathlib.Core.List.{List}
use lib.ListN.{length}
use Rattle.grammar.specs.Env.{Entry, entries_of, env_of, max_entries}
use Rattle.env_bytes.specs.Form.{count_of}
use Rattle.env_bytes.proofs.form.form_of.Given as goal

-- the count of entries behind k others
abbrev pub behind : ℕ → Option (List Entry) → Option ℕ
behind k none = none
behind k (some es) = some (k + length es)

abbrev pub invariant-loop-last : goal.invariant-loop-last
invariant-loop-last l =
    (l.count ≤ max_entries) × (behind l.count (entries_of (max_entries - l.count) l.last l.left) ≡ count_of (env_of l.env))

abbrev pub decreases-loop-last : goal.decreases-loop-last
decreases-loop-last l = length l.left
