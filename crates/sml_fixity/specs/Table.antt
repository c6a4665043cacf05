-- The table in force: the starting environment, and a journal of the fixity changes made since. Leaving a scope cuts the journal back.
use Rattle.std.specs.Prelude.{ℕ, zero, suc, ◌+◌, ◌*◌, ◌≤◌, ◌<◌, ◌≡◌, List, [], ◌∷◌, Bool, true, false, ◌&&◌, eqb, ltb, leb, length, get_or, take, drop, Result, Ok, Err}
use Rattle.std.proofs.Math.Option
use Rattle.std.proofs.Math.Option.{Option, none, some}
use Rattle.std.proofs.lemmas.List.Edits.{sets}
use Rattle.grammar.specs.Bytes.{pair_at, low, high}
use Rattle.grammar.specs.Env.{Entry, Infix, env_of, max_entries, max_name}
use Rattle.grammar.specs.World.{changed, may_change, max_changes}
use Rattle.sml_fixity.specs.declared.table.Table.{Table}
use Rattle.sml_fixity.specs.declared.table.Full.{Full}

-- A record of the journal, 8 bytes: where the name starts in the text (2), its length (2), the precedence (2), what it becomes (left 0, right 1, nonfix 2), 0.
abbrev pub change_size : ℕ
change_size = 8

abbrev pub nonfix : ℕ
nonfix = 2

-- `len` bytes of a text
abbrev pub part : List ℕ → ℕ → ℕ → List ℕ
part text start len = take len (drop start text)

-- the fixity by its two numbers: the precedence, and what it is
abbrev pub fix_by : ℕ → ℕ → Option Infix
fix_by prec what = elim (eqb what nonfix) [ true ↦ none | false ↦ some (record { prec = prec; assoc = what }) ]

-- the fixity in three bytes, of an entry or of a change
abbrev pub fix_in : List ℕ → ℕ → Option Infix
fix_in bytes i = fix_by (pair_at bytes i) (get_or bytes (i + 2) 0)

abbrev pub start_at : List ℕ → ℕ → ℕ
start_at journal i = pair_at journal (change_size * i)

abbrev pub length_at : List ℕ → ℕ → ℕ
length_at journal i = pair_at journal (change_size * i + 2)

abbrev pub what_at : List ℕ → ℕ → ℕ
what_at journal i = get_or journal (change_size * i + 4 + 2) 0

abbrev pub name_at : List ℕ → List ℕ → ℕ → List ℕ
name_at text journal i = part text (start_at journal i) (length_at journal i)

abbrev pub fix_at : List ℕ → ℕ → Option Infix
fix_at journal i = fix_in journal (change_size * i + 4)

-- the environment after the first n changes
unfoldable pub in_force : List ℕ → List Entry → List ℕ → ℕ → List Entry
in_force text es journal zero = es
in_force text es journal (suc n) = changed (fix_at journal n) (name_at text journal n) (in_force text es journal n)

-- a name that has a fixity has a length of one byte
abbrev pub Short : List ℕ → Option Infix → Type 0
Short x none = Unit
Short x (some i) = length x ≤ max_name

-- the journal's first n records are whole: each name is within the text
pub record Journal (text journal : List ℕ) (n : ℕ) : Type 0 where
  pub fits : change_size * n ≤ length journal
  pub few : n ≤ max_changes
  pub inside : (i : ℕ) → i < n → start_at journal i + length_at journal i ≤ length text
  pub kinds : (i : ℕ) → i < n → what_at journal i ≤ nonfix
  pub named : (i : ℕ) → i < n → Short (name_at text journal i) (fix_at journal i)

-- the entries of an environment's bytes
abbrev pub entries_in : List ℕ → List Entry
entries_in env = Option.get_or (env_of env) []

-- the environment in force
abbrev pub table_of : List ℕ → List ℕ → List ℕ → Table → List Entry
table_of text env journal t = in_force text (entries_in env) journal t.len

-- The table's numbers are those of the environment in force, and within their bounds.
pub record Stands (text env journal : List ℕ) (t : Table) : Type 0 where
  pub form : env_of env ≡ some (entries_in env)
  pub records : Journal text journal t.len
  pub counted : t.entries ≡ length (table_of text env journal t)
  pub few : t.entries ≤ max_entries
  pub begun : t.len ≤ t.changes
  pub made : t.changes ≤ max_changes
  pub short : length text ≤ 65535
  pub room : change_size * max_changes ≤ length journal

-- `may_change` by numbers: the name's length, and the entries there are afterwards
abbrev pub fits_in : Option Infix → ℕ → ℕ → Bool
fits_in none len entries = true
fits_in (some i) len entries = leb len max_name && leb entries max_entries

-- what a change becomes in the journal
abbrev pub what_of : Option Infix → ℕ
what_of none = nonfix
what_of (some i) = i.assoc

abbrev pub prec_of : Option Infix → ℕ
prec_of none = 0
prec_of (some i) = i.prec

-- the journal with a record more, or another one
abbrev pub record_of : ℕ → ℕ → Option Infix → List ℕ
record_of start len c =
    low start ∷ high start ∷ low len ∷ high len ∷ low (prec_of c) ∷ high (prec_of c) ∷ what_of c ∷ 0 ∷ []

unfoldable pub put_at : List ℕ → ℕ → ℕ → ℕ → Option Infix → List ℕ
put_at journal i start len c = sets journal (change_size * i) (record_of start len c)

-- whether a change is made: as grammar's change_in says
abbrev pub allowed : List ℕ → List ℕ → List ℕ → Table → List ℕ → Option Infix → Bool
allowed text env journal t x c = ltb t.changes max_changes && may_change c x (table_of text env journal t)

-- a change that was made
pub record Made (text env journal : List ℕ) (t : Table) (x : List ℕ) (c : Option Infix) (journal' : List ℕ) (t' : Table) : Type 0 where
  pub may : allowed text env journal t x c ≡ true
  pub stands : Stands text env journal' t'
  pub means : table_of text env journal' t' ≡ changed c x (table_of text env journal t)
  pub once : t'.changes ≡ t.changes + 1
  pub next : t'.len ≡ t.len + 1
  pub below : (i : ℕ) → i < change_size * t.len → get_or journal' i 0 ≡ get_or journal i 0
  pub long : length journal' ≡ length journal

-- one that was not
pub record Refused (text env journal : List ℕ) (t : Table) (x : List ℕ) (c : Option Infix) (journal' : List ℕ) : Type 0 where
  pub may : allowed text env journal t x c ≡ false
  pub kept : journal' ≡ journal

abbrev pub Changes : List ℕ → List ℕ → List ℕ → Table → List ℕ → Option Infix → List ℕ → Result Table Full → Type 0
Changes text env journal t x c journal' (Ok t') = Made text env journal t x c journal' t'
Changes text env journal t x c journal' (Err _) = Refused text env journal t x c journal'

-- A table that begins with so many entries stands over every environment that has them, and means those.
pub record Begins (entries : ℕ) (t : Table) : Type 0 where
  pub stands : (text env journal : List ℕ) → env_of env ≡ some (entries_in env) → length (entries_in env) ≡ entries → length text ≤ 65535 → change_size * max_changes ≤ length journal → Stands text env journal t
  pub means : (text env journal : List ℕ) → table_of text env journal t ≡ entries_in env

-- The table that a scope was entered with stands again as it is left, whatever was written behind its records, and means what it meant.
pub record Leaves (old now t : Table) : Type 0 where
  pub stands : (text env journal journal' : List ℕ) → Stands text env journal old → old.changes ≤ now.changes → now.changes ≤ max_changes → length journal' ≡ length journal → ((i : ℕ) → i < change_size * old.len → get_or journal' i 0 ≡ get_or journal i 0) → Stands text env journal' t
  pub means : (text env journal journal' : List ℕ) → ((i : ℕ) → i < change_size * old.len → get_or journal' i 0 ≡ get_or journal i 0) → table_of text env journal' t ≡ table_of text env journal old
