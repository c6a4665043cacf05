-- What the code's numbers and buffers mean: the reading that they hold.
use Rattle.std.specs.Prelude.{ℕ, zero, suc, ◌+◌, ◌-◌, ◌*◌, ◌/◌, ◌%◌, ◌≤◌, ◌<◌, ◌≡◌, List, [], ◌∷◌, ◌++◌, Bool, true, false, not, eqb, length, get_or, Option, Some, None, Result, Ok, Err}
use Rattle.std.proofs.lemmas.List.Edits.{sets}
use Rattle.grammar.specs.Tokens.{Token, live, kind_at, text_at, end_at, record_size, max_records}
use Rattle.std.proofs.Math.Option.{none, some}
use Rattle.grammar.specs.World.{World, Now, Rec, Find, ahead, token_ahead, fixity_ahead, mark, take1}
use Rattle.grammar.specs.World.World.{refused, on}
use Rattle.grammar.specs.World.Rec.{took, ended}
use Rattle.grammar.specs.Prog.{Look as Ask, seen}
use Rattle.grammar.specs.Prog.Look.{index}
use Rattle.grammar.specs.Rule as Rule
use Rattle.grammar.specs.SyntaxKind as SK
use Rattle.sml_fixity.specs.Fix.{fixity_of}
use Rattle.sml_fixity.specs.Table.{Stands, table_of, change_size}
use Rattle.sml_fixity.specs.declared.table.Table.{Table}
use Rattle.sml_fixity.specs.declared.Infix.{Infix}
use Rattle.parser.specs.declared.Lent.{Lent}
use Rattle.parser.specs.declared.State.{State}
use Rattle.parser.specs.declared.InfixErr.{InfixErr}
use Rattle.parser.specs.declared.InfixErr.TheVariants.{No, Yes}

-- the token of the record i
abbrev pub token_at : List ℕ → List ℕ → ℕ → Token
token_at text toks i = record { index = i; kind = kind_at toks i; text = text_at text toks i }

-- A record of the log or of the findings, 8 bytes: a tag, a kind, a number of four bytes, two zeroes.
abbrev pub chunk_size : ℕ
chunk_size = 8

-- the tags of the log's records: a token that was read (any other tag: a node that ended)
abbrev pub took_tag : ℕ
took_tag = 1

abbrev pub ended_tag : ℕ
ended_tag = 2

-- a record of the log: its number is the token's index, or where the node started
abbrev pub rec_of : ℕ → ℕ → ℕ → Rec
rec_of tag k v = elim (eqb tag took_tag) [ true ↦ took k v | false ↦ ended k v ]

-- a finding: its number and its detail, and of four bytes the place and the name
abbrev pub find_of : ℕ → ℕ → ℕ → Find
find_of n d v = record { number = n; detail = d; place = v % 65536; name = v / 65536 }

-- the record i of a buffer
abbrev pub chunk_at : {X : Type 0} → (ℕ → ℕ → ℕ → X) → List ℕ → ℕ → X
chunk_at f xs i =
    f (get_or xs (chunk_size * i) 0) (get_or xs (chunk_size * i + 1) 0)
    (get_or xs (chunk_size * i + 2) 0 + 256 * (get_or xs (chunk_size * i + 3) 0 + 256 * (get_or xs (chunk_size * i + 4) 0 + 256 * get_or xs (chunk_size * i + 5) 0)))

-- a buffer's first n records
unfoldable pub chunks : {X : Type 0} → (ℕ → ℕ → ℕ → X) → List ℕ → ℕ → List X
chunks f xs zero = []
chunks f xs (suc n) = chunks f xs n ++ (chunk_at f xs n ∷ [])

-- the bytes of a record, and a buffer whose record i they are
abbrev pub bytes_of : ℕ → ℕ → ℕ → List ℕ
bytes_of tag kind v = tag ∷ kind ∷ v % 256 ∷ v / 256 % 256 ∷ v / 65536 % 256 ∷ v / 16777216 % 256 ∷ 0 ∷ 0 ∷ []

unfoldable pub put_at : List ℕ → ℕ → ℕ → ℕ → ℕ → List ℕ
put_at xs i tag kind v = sets xs (chunk_size * i) (bytes_of tag kind v)

-- What a call is lent and handed: text, token records, starting environment; the journal of fixities, the log, the findings; the state.
pub record Mem : Type 0 where
  pub text : List ℕ
  pub toks : List ℕ
  pub env : List ℕ
  pub table : List ℕ
  pub scratch : List ℕ
  pub finds : List ℕ
  pub state : State

abbrev pub mem : List ℕ → List ℕ → List ℕ → List ℕ → List ℕ → List ℕ → State → Mem
mem x t e j l f s = record { text = x; toks = t; env = e; table = j; scratch = l; finds = f; state = s }

-- the same where the first three are lent as one value
abbrev pub mem_of : Lent → List ℕ → List ℕ → List ℕ → State → Mem
mem_of v j l f s = mem v.text.now v.toks.now v.env.now j l f s

-- the table of the fixities in force
abbrev pub table_in : State → Table
table_in s = s.fixes

-- the tokens still to be read
unfoldable pub rest_of : List ℕ → List ℕ → State → List Token
rest_of text toks s = live text toks (s.count - s.at) s.at

unfoldable pub now_of : Mem → Now
now_of m = record {
  rest = rest_of m.text m.toks m.state;
  count = m.state.count;
  log = chunks rec_of m.scratch m.state.len;
  used = m.state.used;
  room = m.state.room;
  finds = chunks find_of m.finds m.state.found;
  kept = m.state.kept;
  env = table_of m.text m.env m.table (table_in m.state);
  changes = m.state.fixes.changes;
  mode = m.state.mode;
}

-- whether it was refused
abbrev pub is_off : State → Bool
is_off s = not (eqb s.stop 0)

-- the reading
unfoldable pub seen_in : Mem → World
seen_in m = elim (eqb m.state.stop 0) [ true ↦ on (now_of m) | false ↦ refused m.state.stop m.state.len ]

-- What every rule keeps. Of the tokens: their records are whole and few, and the next is no trivia.
pub record Reads (toks : List ℕ) (at count : ℕ) : Type 0 where
  pub whole : length toks ≡ record_size * count
  pub few : count ≤ max_records
  pub inside : at ≤ count
  pub ready : at < count → kind_at toks at ≡ SK.Trivia → ⊥

-- their names are within the text
pub record Names (text toks : List ℕ) (count : ℕ) : Type 0 where
  pub within : (i : ℕ) → i < count → end_at toks i ≤ length text

-- the first token from `from` on that is no trivia is at r, or r is the count
pub record Next (toks : List ℕ) (count from r : ℕ) : Type 0 where
  pub inside : r ≤ count
  pub later : from ≤ r
  pub ready : r < count → kind_at toks r ≡ SK.Trivia → ⊥
  pub same : (text : List ℕ) → live text toks (count - r) r ≡ live text toks (count - from) from

-- of the log: its records are within the room, which is within the buffer
pub record Logs (scratch : List ℕ) (len used room : ℕ) : Type 0 where
  pub logged : len ≤ used
  pub within : used ≤ room
  pub fits : chunk_size * room ≤ length scratch
  pub small : room < 268435456

-- of the findings
pub record Holds (finds : List ℕ) (found kept : ℕ) : Type 0 where
  pub held : found ≤ kept
  pub fits : chunk_size * kept ≤ length finds

pub record Sound (m : Mem) : Type 0 where
  pub reads : Reads m.toks m.state.at m.state.count
  pub names : Names m.text m.toks m.state.count
  pub logs : Logs m.scratch m.state.len m.state.used m.state.room
  pub holds : Holds m.finds m.state.found m.state.kept
  pub stands : Stands m.text m.env m.table (table_in m.state)

-- the kind that a look found, plus one, or 0
abbrev pub kind_of : Option ℕ → ℕ
kind_of (Some k) = suc k
kind_of None = 0

-- whether infix names without `op` are reported
abbrev pub err_of : InfixErr → Rule.InfixErr
err_of No = Rule.InfixErr.No
err_of Yes = Rule.InfixErr.Yes

-- what a rule leaves, and whether it found what it reads
abbrev pub Found : Type 0
Found = Result State State

abbrev pub out_state : Found → State
out_state (Ok s) = s
out_state (Err s) = s

abbrev pub out_val : Found → ℕ
out_val (Ok s) = 1
out_val (Err s) = 0

-- From m to m' the journal in force only grew: its records that stood stay.
pub record Kept (m m' : Mem) : Type 0 where
  pub grows : m.state.fixes.len ≤ m'.state.fixes.len
  pub bytes : (i : ℕ) → i < change_size * m.state.fixes.len → get_or m'.table i 0 ≡ get_or m.table i 0

-- From m to m' as f does to a reading, with the buffers in order.
pub record Did (f : World → World) (m m' : Mem) : Type 0 where
  pub ok : Sound m'
  pub same : seen_in m' ≡ f (seen_in m)
  pub kept : Kept m m'

-- the state refused by number, unless it was before
abbrev pub refused_by : ℕ → State → State
refused_by n s = record {
  at = s.at;
  count = s.count;
  len = s.len;
  used = s.used;
  room = s.room;
  found = s.found;
  kept = s.kept;
  fixes = s.fixes;
  mode = s.mode;
  stop = elim (eqb s.stop 0) [ true ↦ n | false ↦ s.stop ];
}

-- What `ok_since` leaves: the second state where no finding came since the first, or it was refused; otherwise the first.
abbrev pub since_of : State → State → Found
since_of s s' =
    elim (eqb s'.stop 0) [
      | true ↦ elim (eqb s'.found s.found) [ true ↦ Ok s' | false ↦ Err s ]
      | false ↦ Err s'
    ]

-- the second state with the fixities in force at the first
abbrev pub back_of : State → State → State
back_of s s' = record {
  at = s'.at;
  count = s'.count;
  len = s'.len;
  used = s'.used;
  room = s'.room;
  found = s'.found;
  kept = s'.kept;
  fixes = record { len = s.fixes.len; entries = s.fixes.entries; changes = s'.fixes.changes };
  mode = s'.mode;
  stop = s'.stop;
}

-- There is no token n ahead, whatever the other buffers are.
pub record NoneAhead (n : ℕ) (toks : List ℕ) (s : State) : Type 0 where
  pub is : (x e j l f : List ℕ) → token_ahead n (seen_in (mem x toks e j l f s)) ≡ none

-- The reading goes on, and the token n ahead is that of the index i, whatever the other buffers are.
pub record Stood (n : ℕ) (toks : List ℕ) (s : State) (i : ℕ) : Type 0 where
  pub inside : i < s.count
  pub goes : (x e j l f : List ℕ) → seen_in (mem x toks e j l f s) ≡ on (now_of (mem x toks e j l f s))
  pub is : (x e j l f : List ℕ) → token_ahead n (seen_in (mem x toks e j l f s)) ≡ some (token_at x toks i)

-- The look q at the reading of the state s over these tokens gives u, whatever the rest is.
pub record Saw (q : Ask) (toks : List ℕ) (s : State) (u : ℕ) : Type 0 where
  pub same : (x e j l f : List ℕ) → u ≡ seen q (seen_in (mem x toks e j l f s))

-- the same where the text matters too
pub record Says (q : Ask) (text toks : List ℕ) (s : State) (u : ℕ) : Type 0 where
  pub same : (e j l f : List ℕ) → u ≡ seen q (seen_in (mem text toks e j l f s))

-- The next token's index is u, whatever the buffers are, and a finding has room for it.
pub record Spells (s : State) (u : ℕ) : Type 0 where
  pub small : s.count ≤ max_records → u ≤ 65535
  pub same : (x t e j l f : List ℕ) → Sound (mem x t e j l f s) → u ≡ seen index (seen_in (mem x t e j l f s))

-- The token n ahead is of the kind `want`, or not, as r says.
pub record Is (n : ℕ) (toks : List ℕ) (s : State) (want : ℕ) (r : Bool) : Type 0 where
  pub same : (x e j l f : List ℕ) → r ≡ eqb (ahead n (seen_in (mem x toks e j l f s))) (want + 1)

-- The fixity of the text of the token n ahead is r.
pub record Fixed (n : ℕ) (text toks env table : List ℕ) (s : State) (r : Option Infix) : Type 0 where
  pub same : (l f : List ℕ) → fixity_of r ≡ fixity_ahead n (seen_in (mem text toks env table l f s))

-- The state r is s with a mark opened, whatever the buffers are.
pub record Marks (s r : State) : Type 0 where
  pub does : (x t e j l f : List ℕ) → Sound (mem x t e j l f s) → Did mark (mem x t e j l f s) (mem x t e j l f r)

-- The log l became l' and the state s became s' as f does to the reading, whatever the rest is.
pub record Adds (f : World → World) (l : List ℕ) (s : State) (l' : List ℕ) (s' : State) : Type 0 where
  pub does : (x t e j g : List ℕ) → Sound (mem x t e j l g s) → Did f (mem x t e j l g s) (mem x t e j l' g s')

-- the same as a bump of one of these tokens does
pub record Bumps (t l : List ℕ) (s : State) (l' : List ℕ) (s' : State) : Type 0 where
  pub does : (x e j g : List ℕ) → Sound (mem x t e j l g s) → Did take1 (mem x t e j l g s) (mem x t e j l' g s')

-- the same of the findings
pub record Tells (f : World → World) (g : List ℕ) (s : State) (g' : List ℕ) (s' : State) : Type 0 where
  pub does : (x t e j l : List ℕ) → Sound (mem x t e j l g s) → Did f (mem x t e j l g s) (mem x t e j l g' s')
