-- The test of an environment's byte form: the entry that bytes start with, and how many entries they are, if they have the form.
use Rattle.std.specs.Prelude as std
use Rattle.std.specs.Prelude.{ℕ, ◌+◌, ◌≤◌, ◌<◌, ◌≡◌, List, [], ◌∷◌, length, take, drop}
use Rattle.std.specs.Borrow.{Bor}
use Rattle.std.proofs.Math.Option.{Option, none, some}
use Rattle.grammar.specs.Env.{Entry, fixity_size, max_name}

abbrev pub count_of : Option (List Entry) → Option ℕ
count_of none = none
count_of (some es) = some (length es)

abbrev pub form_of : std.Option ℕ → Option ℕ
form_of std.None = none
form_of (std.Some n) = some n

-- The entry that bytes start with is whole: its name, its fixity's bytes and those behind it. Its name's length n stood before `bytes`.
pub record Split (n : ℕ) (bytes name fixity behind : List ℕ) : Type 0 where
  pub sized : n ≤ max_name
  pub room : n + fixity_size ≤ length bytes
  pub name-is : name ≡ take n bytes
  pub fixity-is : fixity ≡ take fixity_size (drop n bytes)
  pub behind-is : behind ≡ drop (n + fixity_size) bytes

abbrev pub Splits : List ℕ → std.Option (Bor (List ℕ) × Bor (List ℕ) × Bor (List ℕ)) → Type 0
Splits [] r = r ≡ std.None
Splits (n ∷ bytes) std.None = length bytes < n + fixity_size
Splits (n ∷ bytes) (std.Some p) = Split n bytes p.0.now p.1.now p.2.now
