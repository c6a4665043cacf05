-- Copying the table out: which name comes next after another, and what is written.
use Rattle.std.specs.Prelude.{ℕ, ◌+◌, ◌≤◌, ◌<◌, ◌≡◌, List, [], ◌∷◌, ◌++◌, length, drop, Result, Ok, Err}
use Rattle.std.proofs.Math.Option.{Option, none, some}
use Rattle.std.proofs.lemmas.List.Edits.{sets}
use Rattle.grammar.specs.Env.{Infix, Entry}
use Rattle.env_bytes.specs.declared.out.TooLong.{TooLong}

-- the entry of a name that has a fixity
abbrev pub here : List ℕ → Option Infix → List Entry
here x none = []
here x (some i) = record { name = x; fixity = i } ∷ []

-- bytes that were written at a place
pub record Put (at : ℕ) (bytes out out' : List ℕ) (n : ℕ) : Type 0 where
  pub end : n ≡ at + length bytes
  pub room : n ≤ length out
  pub now : out' ≡ sets out at bytes

abbrev pub Puts : ℕ → List ℕ → List ℕ → List ℕ → Result ℕ TooLong → Type 0
Puts at bytes out out' (Ok n) = Put at bytes out out' n
Puts at bytes out out' (Err _) = length out < at + length bytes

-- All bytes are at the front of `out`, and behind them it is as it was.
pub record Fitted (bytes out out' : List ℕ) (n : ℕ) : Type 0 where
  pub all : n ≡ length bytes
  pub room : length bytes ≤ length out
  pub now : out' ≡ bytes ++ drop n out

-- They do not fit. What `out` holds is left open: the public entry clears it.
pub record Over (bytes out out' : List ℕ) : Type 0 where
  pub long : length out < length bytes
  pub kept : length out' ≡ length out

-- `Ok` exactly where the bytes fit, since its room and the length of `Err` exclude each other.
abbrev pub Copies : List ℕ → List ℕ → List ℕ → Result ℕ TooLong → Type 0
Copies bytes out out' (Ok n) = Fitted bytes out out' n
Copies bytes out out' (Err _) = Over bytes out out'
