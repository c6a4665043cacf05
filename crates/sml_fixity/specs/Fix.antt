-- What the code's fixities mean. A name that has none is nonfix.
use Rattle.std.specs.Prelude.{ℕ, Some, None}
use Rattle.std.specs.Prelude as std
use Rattle.std.proofs.Math.Option.{Option, none, some}
use Rattle.grammar.specs.Env as Env
use Rattle.sml_fixity.specs.declared.Assoc.{Assoc}
use Rattle.sml_fixity.specs.declared.Assoc.TheVariants.{Left, Right}
use Rattle.sml_fixity.specs.declared.Infix.{Infix}

abbrev pub assoc_of : Assoc → ℕ
assoc_of Left = Env.Left
assoc_of Right = Env.Right

abbrev pub infix_of : Infix → Env.Infix
infix_of i = record { prec = i.prec; assoc = assoc_of i.assoc }

abbrev pub fixity_of : std.Option Infix → Option Env.Infix
fixity_of None = none
fixity_of (Some i) = some (infix_of i)
