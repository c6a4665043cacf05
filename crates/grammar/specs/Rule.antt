-- The names of the rules that others call, and what they are called with.
use Rattle.std.specs.Prelude.{ℕ, Bool, true, false}
use Rattle.grammar.specs.Env as Env

-- util.rs, `InfixErr`: whether to report infix names that stand without `op`
pub data InfixErr : Type 0 where
  No Yes : InfixErr

-- pat.rs, `match infix`: whether it reports them
abbrev pub reports : InfixErr → Bool
reports InfixErr.No = false
reports InfixErr.Yes = true

-- ty.rs, `TyPrec`, in its derived order
abbrev pub Arrow : ℕ
Arrow = 0

abbrev pub Star : ℕ
Star = 1

abbrev pub App : ℕ
App = 2

-- pat.rs, `PatPrec`
pub data PatPrec : Type 0 where
  Min Or : PatPrec
  Infix : Env.Infix → PatPrec

-- exp.rs, `ExpPrec`
pub data ExpPrec : Type 0 where
  Min Handle Orelse Andalso Ascription : ExpPrec
  Infix : Env.Infix → ExpPrec

-- `ty_prec`, `pat_prec`, `exp_prec`, `dec`, `str_exp`, `sig_exp`.
-- A function of the source that is called at its caller's own level is a program, and stands in the caller's.
pub data Rule : Type 0 where
  ty_prec : ℕ → Rule
  pat_prec : PatPrec → InfixErr → Rule
  exp_prec : ExpPrec → Rule
  dec : InfixErr → Rule
  str_exp : Rule
  sig_exp : Rule
