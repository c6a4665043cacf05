-- A token file (document 01): text, records, and a trailer of eight bytes that has their numbers.
use Rattle.std.specs.Prelude.{ℕ, ◌+◌, ◌*◌, ◌-◌, List, Bool, ◌&&◌, leb, eqb, length, get_or}
use Rattle.grammar.specs.Bytes.{pair_at}

abbrev pub max_file : ℕ
max_file = 65536

abbrev pub trailer_size : ℕ
trailer_size = 8

-- the last byte
abbrev pub mark : ℕ
mark = 77

-- the length of the text, and the number of records
abbrev pub text_length : List ℕ → ℕ
text_length file = pair_at file (length file - trailer_size)

abbrev pub token_count : List ℕ → ℕ
token_count file = pair_at file (length file - trailer_size + 2)

-- The length is exactly that of text, records and trailer, and the last byte is the mark.
unfoldable pub is_file : List ℕ → Bool
is_file file =
    leb (length file) max_file
    && leb trailer_size (length file)
    && eqb (get_or file (length file - 1) 0) mark
    && eqb (text_length file + 5 * token_count file + trailer_size) (length file)
