-- The names of an environment's entries and of a journal's changes: which of them comes next after another.
use Rattle.std.specs.Prelude.{ℕ, zero, suc, ◌+◌, ◌≡◌, List, [], ◌∷◌, true, false, leb, length, take, drop, map, Option}
use Rattle.std.specs.Borrow.{Bor}
use Rattle.std.specs.List.{All, Contains, range_with_len}
use Rattle.std.specs.Option.{MatchOption}
use Rattle.grammar.specs.Bytes.{before}
use Rattle.grammar.specs.Env.{fixity_size}
use Rattle.sml_fixity.specs.Table.{name_at}

-- the names of the whole entries at the front of bytes, at most k
unfoldable pub names_by : ℕ → List ℕ → List (List ℕ)
names_by zero bytes = []
names_by (suc k) [] = []
names_by (suc k) (n ∷ bytes) =
    elim (leb (n + fixity_size) (length bytes)) [
      | true ↦ take n bytes ∷ names_by k (drop (n + fixity_size) bytes)
      | false ↦ []
    ]

-- of all of them
unfoldable pub names_in : List ℕ → List (List ℕ)
names_in bytes = names_by (length bytes) bytes

-- the names of the first n changes
abbrev pub changed_names : List ℕ → List ℕ → ℕ → List (List ℕ)
changed_names text journal n = map (name_at text journal) (range_with_len 0 n)

-- the name, of these, that comes next after `last`; or that none does
abbrev pub NextName : List (List ℕ) → List ℕ → Option (Bor (List ℕ)) → Type 0
NextName names last r =
    MatchOption r (All (λ x. before last x ≡ false) names)
    (λ b. Contains names b.now × (before last b.now ≡ true) × All (λ x. before last x ≡ true → before x b.now ≡ false) names)
