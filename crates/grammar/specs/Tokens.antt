-- The lent text and token records: the tokens, the tests behind the answers 1 and 2, and the text of a token.
use Rattle.std.specs.Prelude.{ℕ, zero, suc, ◌+◌, ◌*◌, ◌/◌, ◌%◌, List, [], ◌∷◌, Bool, true, false, ◌&&◌, eqb, ltb, leb, get_or, length, take, drop}
use Rattle.grammar.specs.Bytes.{pair_at}
use Rattle.grammar.specs.SyntaxKind as SK

-- A token: its record's index, its kind, its bytes.
pub record Token : Type 0 where
  pub index : ℕ
  pub kind : ℕ
  pub text : List ℕ

-- document 01: the bytes of a token record, and the most bytes of a text and records of a list
abbrev pub record_size : ℕ
record_size = 5

abbrev pub max_text : ℕ
max_text = 65535

abbrev pub max_records : ℕ
max_records = 13107

-- where the start and the length of a token stand in its record, behind the kind
abbrev pub start_offset : ℕ
start_offset = 1

abbrev pub length_offset : ℕ
length_offset = 3

-- the fields of the record i, and where it ends in the text
abbrev pub kind_at : List ℕ → ℕ → ℕ
kind_at toks i = get_or toks (record_size * i) 0

abbrev pub start_at : List ℕ → ℕ → ℕ
start_at toks i = pair_at toks (record_size * i + start_offset)

abbrev pub length_at : List ℕ → ℕ → ℕ
length_at toks i = pair_at toks (record_size * i + length_offset)

abbrev pub end_at : List ℕ → ℕ → ℕ
end_at toks i = start_at toks i + length_at toks i

-- where the record before i claims to end
abbrev pub end_before : List ℕ → ℕ → ℕ
end_before toks zero = 0
end_before toks (suc i) = end_at toks i

-- how many records the bytes are
abbrev pub record_count : List ℕ → ℕ
record_count toks = length toks / record_size

-- Answer 1's test of the text and the records.
unfoldable pub lists_fit : List ℕ → List ℕ → Bool
lists_fit text toks = leb (length text) max_text && leb (length toks) (record_size * max_records) && eqb (length toks % record_size) 0

-- Answer 2's test of the record i, over a text of n bytes.
unfoldable pub record_fits : ℕ → List ℕ → ℕ → Bool
record_fits n toks i = leb (kind_at toks i) SK.Other && leb 1 (length_at toks i) && leb (end_before toks i) (start_at toks i) && leb (end_at toks i) n

-- of the first k records
unfoldable pub records_fit : ℕ → List ℕ → ℕ → Bool
records_fit n toks zero = true
records_fit n toks (suc k) = records_fit n toks k && record_fits n toks k

-- the bytes of the record i
abbrev pub text_at : List ℕ → List ℕ → ℕ → List ℕ
text_at text toks i = take (length_at toks i) (drop (start_at toks i) text)

-- of the n records from i on, the tokens that are no trivia
unfoldable pub live : List ℕ → List ℕ → ℕ → ℕ → List Token
live text toks zero i = []
live text toks (suc n) i =
    elim (eqb (kind_at toks i) SK.Trivia) [
      | true ↦ live text toks n (i + 1)
      | false ↦ record { index = i; kind = kind_at toks i; text = text_at text toks i } ∷ live text toks n (i + 1)
    ]

-- A part of the lent text: where it starts, and how many bytes it has.
pub record Part : Type 0 where
  pub start : ℕ
  pub len : ℕ

-- Document 01: where the text of the token i stands, for reports. It is the empty part at the text's start for an index at or
-- past the count, a record that fails answer 2's test, or lists that answer 1 refuses.
unfoldable pub token_part : List ℕ → List ℕ → ℕ → Part
token_part text toks i =
    elim (lists_fit text toks && ltb i (record_count toks) && record_fits (length text) toks i) [
      | true ↦ record { start = start_at toks i; len = length_at toks i }
      | false ↦ record { start = 0; len = 0 }
    ]

-- the text of the token i: the bytes of that part
unfoldable pub token_text : List ℕ → List ℕ → ℕ → List ℕ
unfolding token_part
token_text text toks i = let p = token_part text toks i in take p.len (drop p.start text)
