-- The standard environment's parts: the fixity of a rank, and the bytes of an entry.
use Rattle.std.specs.Prelude.{ℕ, List, [], ◌∷◌, map}
use Rattle.std.specs.Borrow.{Bor}
use Rattle.sml_fixity.specs.Fix.{assoc_of}
use Rattle.sml_fixity.specs.declared.Assoc.{Assoc}
use Rattle.grammar.specs.Env.{Infix, Entry, env_bytes}

-- the fixity of the rank with this number and side
abbrev pub rank_of : ℕ → Assoc → Infix
rank_of n side = record { prec = n; assoc = assoc_of side }

-- the bytes of one entry
abbrev pub entry_bytes : List ℕ → Infix → List ℕ
entry_bytes x i = env_bytes (record { name = x; fixity = i } ∷ [])

-- the entries of a table of names, numbers and sides
abbrev pub Row : Type 0
Row = Bor (List ℕ) × ℕ × Assoc

abbrev pub entry_of : Row → Entry
entry_of r = record { name = r.0.now; fixity = rank_of r.1 r.2 }

abbrev pub entries_of : List Row → List Entry
entries_of rows = map entry_of rows
