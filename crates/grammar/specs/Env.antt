-- Fixities and their environment: sml-fixity's lib.rs, and the byte form of document 01.
use Rattle.std.specs.Prelude.{ℕ, zero, suc, ◌+◌, List, [], ◌∷◌, ◌++◌, Bool, true, false, ◌&&◌, leb, get_or, length, take, drop}
use Rattle.std.proofs.Math.Option.{Option, none, some}
use Rattle.grammar.specs.Bytes.{ascii, same, before, pair_at, low, high}

-- lib.rs, `Assoc`
abbrev pub Left : ℕ
Left = 0

abbrev pub Right : ℕ
Right = 1

-- lib.rs, `Infix`
pub record Infix : Type 0 where
  pub prec : ℕ
  pub assoc : ℕ

-- lib.rs, `Infix::left`
abbrev pub left : ℕ → Infix
left n = record { prec = n; assoc = Left }

-- lib.rs, `Infix::right`
abbrev pub right : ℕ → Infix
right n = record { prec = n; assoc = Right }

-- lib.rs, `Env`: an entry of the map, a name and its fixity
pub record Entry : Type 0 where
  pub name : List ℕ
  pub fixity : Infix

-- lib.rs, `Env`: its `get`, and its `contains_key`, which asks only whether there is one
unfoldable pub find : List ℕ → List Entry → Option Infix
find x [] = none
find x (e ∷ es) = elim (same x e.name) [ true ↦ some e.fixity | false ↦ find x es ]

-- lib.rs, `Env`: its `insert`, at the name's place in the order of the names
unfoldable pub put : List ℕ → Infix → List Entry → List Entry
put x i [] = record { name = x; fixity = i } ∷ []
put x i (e ∷ es) =
    elim (same x e.name) [
      | true ↦ record { name = x; fixity = i } ∷ es
      | false ↦ elim (before x e.name) [
        | true ↦ record { name = x; fixity = i } ∷ e ∷ es
        | false ↦ e ∷ put x i es
      ]
    ]

-- lib.rs, `Env`: its `remove`
unfoldable pub remove : List ℕ → List Entry → List Entry
remove x [] = []
remove x (e ∷ es) = elim (same x e.name) [ true ↦ es | false ↦ e ∷ remove x es ]

-- lib.rs, `STD_BASIS`: one rank, a fixity and its names
pub record Rank : Type 0 where
  pub fixity : Infix
  pub names : List (List ℕ)

-- lib.rs, `STD_BASIS`: `ops_arr`
unfoldable pub ranks : List Rank
unfolding ascii
ranks =
    record { fixity = left 7; names = ascii "*" ∷ ascii "/" ∷ ascii "div" ∷ ascii "mod" ∷ [] }
    ∷ record { fixity = left 6; names = ascii "+" ∷ ascii "-" ∷ ascii "^" ∷ [] }
    ∷ record { fixity = right 5; names = ascii "::" ∷ ascii "@" ∷ [] }
    ∷ record { fixity = left 4; names = ascii "=" ∷ ascii "<>" ∷ ascii ">" ∷ ascii ">=" ∷ ascii "<" ∷ ascii "<=" ∷ [] }
    ∷ record { fixity = left 3; names = ascii ":=" ∷ ascii "o" ∷ [] }
    ∷ record { fixity = left 0; names = ascii "before" ∷ [] }
    ∷ []

-- lib.rs, `STD_BASIS`: the inner loop, over the names of a rank
unfoldable pub put_all : Infix → List (List ℕ) → List Entry → List Entry
put_all i [] es = es
put_all i (x ∷ xs) es = put_all i xs (put x i es)

-- lib.rs, `STD_BASIS`: the outer loop, over the ranks
unfoldable pub put_ranks : List Rank → List Entry → List Entry
put_ranks [] es = es
put_ranks (r ∷ rs) es = put_ranks rs (put_all r.fixity r.names es)

-- lib.rs, `STD_BASIS`: the standard environment
unfoldable pub std : List Entry
unfolding ranks put_ranks put_all
std = put_ranks ranks []

-- document 01, an environment: the entries' length, name, precedence (2 bytes), association
unfoldable pub env_bytes : List Entry → List ℕ
env_bytes [] = []
env_bytes (e ∷ es) =
    let i = e.fixity in
    length e.name ∷ (e.name ++ (low i.prec ∷ high i.prec ∷ i.assoc ∷ env_bytes es))

-- document 01: the most entries of an environment, and the most bytes of a name
abbrev pub max_entries : ℕ
max_entries = 256

abbrev pub max_name : ℕ
max_name = 255

-- the bytes behind a name: the precedence, and the whole fixity
abbrev pub prec_size : ℕ
prec_size = 2

abbrev pub fixity_size : ℕ
fixity_size = 3

-- The entry at the front of `bytes`: n is its name's length, which stood before `bytes`. What follows the entry is not given.
abbrev pub entry_in : ℕ → List ℕ → Entry
entry_in n bytes = record { name = take n bytes; fixity = record { prec = pair_at bytes n; assoc = get_or bytes (n + prec_size) 0 } }

-- whether such an entry is there, whole, with a name that comes after `last` and an association that is one
unfoldable pub entry_fits : List ℕ → ℕ → List ℕ → Bool
entry_fits last n bytes =
    leb 1 n && leb n max_name && leb (n + fixity_size) (length bytes) && before last (take n bytes) && leb (get_or bytes (n + prec_size) 0) Right

-- at most k entries, the first one's name after `last`: nothing else may be left over
unfoldable pub entries_of : ℕ → List ℕ → List ℕ → Option (List Entry)
entries_of zero last [] = some []
entries_of zero last (n ∷ bytes) = none
entries_of (suc k) last [] = some []
entries_of (suc k) last (n ∷ bytes) =
    elim (entry_fits last n bytes) [
      | true ↦ elim (entries_of k (take n bytes) (drop (n + fixity_size) bytes)) [ none ↦ none | some es ↦ some (entry_in n bytes ∷ es) ]
      | false ↦ none
    ]

-- Answer 3's test, and the entries. The empty text comes before every name.
unfoldable pub env_of : List ℕ → Option (List Entry)
env_of bytes = entries_of max_entries [] bytes
