-- The state of a reading, and what each of the parser's operations does to it (event_parse, by document 01's rules).
use Rattle.std.specs.Prelude.{ℕ, zero, suc, ◌+◌, ◌-◌, ◌*◌, List, [], ◌∷◌, ◌++◌, Bool, true, false, ◌&&◌, eqb, ltb, leb, length}
use Rattle.std.proofs.Math.Option.{Option, none, some}
use Rattle.grammar.specs.Bytes.{same}
use Rattle.grammar.specs.Tokens.{Token}
use Rattle.grammar.specs.Env.{Infix, Entry, find, put, remove, max_entries, max_name}

-- A record of the log: a token that was read (kind, index), or a node that ended (kind, the place in the log where it started).
pub data Rec : Type 0 where
  took : ℕ → ℕ → Rec
  ended : ℕ → ℕ → Rec

-- A finding: the fields of document 01's record.
pub record Find : Type 0 where
  pub number : ℕ
  pub detail : ℕ
  pub place : ℕ
  pub name : ℕ

-- A reading that goes on: the tokens left, the count of records, the log, the scratch records used and their room,
-- the findings and their room, the environment in force, the fixity changes made, the mode.
pub record Now : Type 0 where
  pub rest : List Token
  pub count : ℕ
  pub log : List Rec
  pub used : ℕ
  pub room : ℕ
  pub finds : List Find
  pub kept : ℕ
  pub env : List Entry
  pub changes : ℕ
  pub mode : ℕ

-- A reading that was refused by number, with the log's length then; or one that goes on.
-- A scope that starts in a refused reading starts at that length, as the code's does; no answer depends on it.
pub data World : Type 0 where
  refused : ℕ → ℕ → World
  on : Now → World

-- What a program gives: a number, and the reading after it.
pub record Out : Type 0 where
  pub val : ℕ
  pub world : World

abbrev pub out : ℕ → World → Out
out v w = record { val = v; world = w }

-- the answers that reading gives (document 01)
abbrev pub too_deep : ℕ
too_deep = 4

abbrev pub no_scratch : ℕ
no_scratch = 5

abbrev pub no_findings : ℕ
no_findings = 7

abbrev pub no_fixity : ℕ
no_fixity = 8

abbrev pub impossible : ℕ
impossible = 10

-- document 01: the most fixity changes of a reading
abbrev pub max_changes : ℕ
max_changes = 1024

-- the name of a finding that carries none
abbrev pub no_name : ℕ
no_name = 65535

-- whether a number is 0: that a look found nothing, or a rule did not
abbrev pub none? : ℕ → Bool
none? zero = true
none? (suc n) = false

-- the token n ahead in a list of them
unfoldable pub token_in : ℕ → List Token → Option Token
token_in n [] = none
token_in zero (t ∷ ts) = some t
token_in (suc n) (t ∷ ts) = token_in n ts

-- the token n ahead in a reading; a refused one has none
unfoldable pub token_ahead : ℕ → World → Option Token
token_ahead n (refused k l) = none
token_ahead n (on s) = token_in n s.rest

-- `peek_n`: the kind of the token n ahead, plus one; 0 where there is none
unfoldable pub ahead : ℕ → World → ℕ
ahead n w = elim (token_ahead n w) [ none ↦ 0 | some t ↦ suc t.kind ]

-- the index of the next token, by which a finding spells its name
unfoldable pub index_ahead : World → ℕ
index_ahead w = elim (token_ahead 0 w) [ none ↦ no_name | some t ↦ t.index ]

-- whether the next token's text is this: 1 or 0
unfoldable pub says_ahead : List ℕ → World → ℕ
says_ahead x w = elim (token_ahead 0 w) [ none ↦ 0 | some t ↦ elim (same t.text x) [ true ↦ 1 | false ↦ 0 ] ]

-- the bytes and the limit that reading a fixity number needs
abbrev pub plus : ℕ
plus = 43

abbrev pub digit0 : ℕ
digit0 = 48

abbrev pub digit9 : ℕ
digit9 = 57

abbrev pub tilde : ℕ
tilde = 126

abbrev pub max_u16 : ℕ
max_u16 = 65535

-- the digits are decimal
abbrev pub radix : ℕ
radix = 10

-- the number of the digits, n being that of the digits before them
unfoldable pub digits : ℕ → List ℕ → Option ℕ
digits n [] = some n
digits n (d ∷ ds) = elim (leb digit0 d && leb d digit9) [ true ↦ digits (radix * n + (d - digit0)) ds | false ↦ none ]

-- at least one digit
unfoldable pub some_digits : List ℕ → Option ℕ
some_digits [] = none
some_digits (d ∷ ds) = digits 0 (d ∷ ds)

-- one leading plus may stand before them
unfoldable pub signed_digits : List ℕ → Option ℕ
signed_digits [] = none
signed_digits (c ∷ cs) = elim (eqb c plus) [ true ↦ some_digits cs | false ↦ some_digits (c ∷ cs) ]

-- Rust's parse::<u16>; leading zeroes are allowed
unfoldable pub parse_u16 : List ℕ → Option ℕ
parse_u16 x = elim (signed_digits x) [ none ↦ none | some n ↦ elim (leb n max_u16) [ true ↦ some n | false ↦ none ] ]

-- what `number_of` gives for a text that is no fixity number
abbrev pub negative : ℕ
negative = 0

abbrev pub invalid : ℕ
invalid = 1

-- how many more than a fixity number `number_of` gives for it, so that it is neither of these two
abbrev pub valid : ℕ
valid = 2

-- dec.rs, `fixity`: its number. `negative` where it starts with ~, `invalid` where it is none, or `valid` more than it is.
unfoldable pub number_of : List ℕ → ℕ
number_of [] = invalid
number_of (c ∷ cs) = elim (eqb c tilde) [ true ↦ negative | false ↦ elim (parse_u16 (c ∷ cs)) [ none ↦ invalid | some n ↦ n + valid ] ]

-- dec.rs, `fixity`: the number of the next token
unfoldable pub number_ahead : World → ℕ
number_ahead w = elim (token_ahead 0 w) [ none ↦ invalid | some t ↦ number_of t.text ]

-- the mode of the call; a refused reading has none, and gives 0
unfoldable pub mode_of : World → ℕ
mode_of (refused k l) = 0
mode_of (on s) = s.mode

-- `fe.get` and `fe.contains_key` of the text of the token n ahead
unfoldable pub fixity_ahead : ℕ → World → Option Infix
fixity_ahead n (refused k l) = none
fixity_ahead n (on s) = elim (token_in n s.rest) [ none ↦ none | some t ↦ find t.text s.env ]

-- the log's length, where a scope starts
unfoldable pub length_of : World → ℕ
length_of (refused k l) = l
length_of (on s) = length s.log

-- how many tokens are left
unfoldable pub left_of : World → ℕ
left_of (refused k l) = 0
left_of (on s) = length s.rest

-- Refuses, unless it was refused before.
unfoldable pub refuse : ℕ → World → World
refuse n (refused k l) = refused k l
refuse n (on s) = refused n (length s.log)

-- The same reading with one scratch record more used, the tokens `ts` left and the log `l`; or the refusal.
unfoldable pub with_record : Now → List Token → List Rec → World
with_record s ts l =
    elim (ltb s.used s.room) [
      | true ↦ on (record { rest = ts; count = s.count; log = l; used = s.used + 1; room = s.room; finds = s.finds; kept = s.kept; env = s.env; changes = s.changes; mode = s.mode })
      | false ↦ refused no_scratch (length s.log)
    ]

-- a mark: `enter` and `precede`
unfoldable pub mark : World → World
mark (refused k l) = refused k l
mark (on s) = with_record s s.rest s.log

-- `bump`, where these tokens are left
unfoldable pub take_in : Now → List Token → World
take_in s [] = on s
take_in s (t ∷ ts) = with_record s ts (s.log ++ (took t.kind t.index ∷ []))

-- `bump`: the next token goes into the log; where there is none, nothing happens
unfoldable pub take1 : World → World
take1 (refused k l) = refused k l
take1 (on s) = take_in s s.rest

-- `exit`: a node of the kind k, which started at b in the log
unfoldable pub end : ℕ → ℕ → World → World
end k b (refused n l) = refused n l
end k b (on s) = with_record s s.rest (s.log ++ (ended k b ∷ []))

-- the index of the next token, or the count
unfoldable pub place_in : ℕ → List Token → ℕ
place_in n [] = n
place_in n (t ∷ ts) = t.index

-- `error`: a finding with its detail and its name, at the place of the next token
unfoldable pub report : ℕ → ℕ → ℕ → World → World
report f d x (refused k l) = refused k l
report f d x (on s) =
    elim (ltb (length s.finds) s.kept) [
      | true ↦ on (record { rest = s.rest; count = s.count; log = s.log; used = s.used; room = s.room; finds = s.finds ++ (record { number = f; detail = d; place = place_in s.count s.rest; name = x } ∷ []); kept = s.kept; env = s.env; changes = s.changes; mode = s.mode })
      | false ↦ refused no_findings (length s.log)
    ]

-- the same reading in another environment, after so many fixity changes
abbrev pub in_env : Now → List Entry → ℕ → Now
in_env s es c = record { rest = s.rest; count = s.count; log = s.log; used = s.used; room = s.room; finds = s.finds; kept = s.kept; env = es; changes = c; mode = s.mode }

-- A name gets a fixity, or has none from here on.
abbrev pub changed : Option Infix → List ℕ → List Entry → List Entry
changed none x es = remove x es
changed (some i) x es = put x i es

-- whether a change may be made: a name that gets a fixity is not too long, and there are not too many entries
abbrev pub may_change : Option Infix → List ℕ → List Entry → Bool
may_change none x es = true
may_change (some i) x es = leb (length x) max_name && leb (length (put x i es)) max_entries

-- `fe.insert` and `fe.remove` of the name x, or the refusal: answer 8
unfoldable pub change_in : Option Infix → List ℕ → Now → World
change_in c x s =
    elim (ltb s.changes max_changes && may_change c x s.env) [
      | true ↦ on (in_env s (changed c x s.env) (s.changes + 1))
      | false ↦ refused no_fixity (length s.log)
    ]

-- `fe.insert` and `fe.remove`, unless the reading was refused
unfoldable pub change : Option Infix → List ℕ → World → World
change c x (refused k l) = refused k l
change c x (on s) = change_in c x s

-- `bump` and the change of the fixity of the name that it read, where these tokens are left
unfoldable pub take_change_in : Option Infix → Now → List Token → World
take_change_in c s [] = on s
take_change_in c s (t ∷ ts) = change c t.text (take_in s (t ∷ ts))

-- dec.rs, `names_star_eq`: a turn of its loop, `bump` and the closure's change of the fixity of the name that was read
unfoldable pub take_change : Option Infix → World → World
take_change c (refused k l) = refused k l
take_change c (on s) = take_change_in c s s.rest

-- the second reading, with the first one's environment: the end of a scope that had a clone of it
unfoldable pub give_back : World → World → World
give_back (refused k l) w = w
give_back (on s) (refused k l) = refused k l
give_back (on s) (on s') = on (in_env s' s.env s'.changes)

-- `ok_since`, where the first reading was saved: the second stays where no finding came since, and gives 1;
-- otherwise the first is back, and gives 0.
unfoldable pub ok_since : World → World → Out
ok_since (refused k l) w = out 0 w
ok_since (on s) (refused k l) = out 0 (refused k l)
ok_since (on s) (on s') = elim (eqb (length s'.finds) (length s.finds)) [ true ↦ out 1 (on s') | false ↦ out 0 (on s) ]
