-- Bytes: those of an ASCII text, their order, and numbers of two bytes.
use Rattle.std.specs.Prelude.{ℕ, ◌+◌, ◌*◌, ◌/◌, ◌%◌, List, [], ◌∷◌, Bool, true, false, eqb, ltb, get_or}
use Prim.Native.Char.{code}
use Prim.Native.String.{String}
use Prim.Native.String as string

-- the bytes of an ASCII text
unfoldable pub ascii : String → List ℕ
ascii string.[] = []
ascii (string.◌∷◌ c s) = code c ∷ ascii s

-- whether two texts are the same
unfoldable pub same : List ℕ → List ℕ → Bool
same [] [] = true
same [] (y ∷ ys) = false
same (x ∷ xs) [] = false
same (x ∷ xs) (y ∷ ys) = elim (eqb x y) [ true ↦ same xs ys | false ↦ false ]

-- whether the first comes before the second, by bytes; a prefix comes first
unfoldable pub before : List ℕ → List ℕ → Bool
before [] [] = false
before [] (y ∷ ys) = true
before (x ∷ xs) [] = false
before (x ∷ xs) (y ∷ ys) = elim (eqb x y) [ true ↦ before xs ys | false ↦ ltb x y ]

-- how many values a byte has
abbrev pub byte_values : ℕ
byte_values = 256

-- the number in two bytes, the lower first
abbrev pub pair : ℕ → ℕ → ℕ
pair lo hi = lo + byte_values * hi

-- the number in the bytes i and i + 1 of a list; a byte that is not there counts as 0
abbrev pub pair_at : List ℕ → ℕ → ℕ
pair_at bytes i = pair (get_or bytes i 0) (get_or bytes (i + 1) 0)

-- the two bytes of a number
abbrev pub low : ℕ → ℕ
low n = n % byte_values

abbrev pub high : ℕ → ℕ
high n = n / byte_values % byte_values
