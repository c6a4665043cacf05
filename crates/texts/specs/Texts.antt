-- What is said of a token's text: which token stands ahead, what its text is, and the numbers that answer a look.
use Rattle.std.specs.Prelude.{ℕ, ◌+◌, ◌≡◌, List, Bool, true, false, leb, Result, Ok, Err}
use Rattle.std.proofs.Math.Option.{Option, none, some}
use Rattle.grammar.specs.Tokens.{Token}
use Rattle.grammar.specs.World.{token_ahead, negative, invalid, valid, max_u16}
use Rattle.grammar.specs.World.World.{on}
use Rattle.parser.specs.View.{mem, seen_in, now_of}
use Rattle.parser.specs.declared.State.{State}
use Rattle.texts.specs.declared.NumberErr.{NumberErr}
use Rattle.texts.specs.declared.NumberErr.TheVariants.{Negative, Invalid}

-- There is no token n ahead, whatever the other buffers are.
pub record Absent (n : ℕ) (text toks : List ℕ) (s : State) : Type 0 where
  pub is : (e j l f : List ℕ) → token_ahead n (seen_in (mem text toks e j l f s)) ≡ none

-- There is one, in a reading that goes on, and its text is x.
pub record Present (n : ℕ) (text toks : List ℕ) (s : State) (x : List ℕ) : Type 0 where
  pub goes : (e j l f : List ℕ) → seen_in (mem text toks e j l f s) ≡ on (now_of (mem text toks e j l f s))
  pub token : Token
  pub is : (e j l f : List ℕ) → token_ahead n (seen_in (mem text toks e j l f s)) ≡ some token
  pub text_is : token.text ≡ x

-- the answer to a test
abbrev pub bit : Bool → ℕ
bit t = elim t [ true ↦ 1 | false ↦ 0 ]

-- the answer of a fixity number
abbrev pub number_val : Result ℕ NumberErr → ℕ
number_val (Ok n) = n + valid
number_val (Err Negative) = negative
number_val (Err Invalid) = invalid

-- the answer of digits, or of none: grammar's `number_of` and `parse_u16` in one
abbrev pub value_of : Option ℕ → ℕ
value_of o = elim o [ none ↦ invalid | some n ↦ elim (leb n max_u16) [ true ↦ n + valid | false ↦ invalid ] ]
