-- The place of a precedence in the derived order of the source's TyPrec.
use Rattle.std.specs.Prelude.{ℕ}
use Rattle.grammar.specs.Rule as rules
use Rattle.ty_prec.specs.declared.TyPrec.{TyPrec}
use Rattle.ty_prec.specs.declared.TyPrec.TheVariants.{Arrow, Star, App}

abbrev pub place_of : TyPrec → ℕ
place_of Arrow = rules.Arrow
place_of Star = rules.Star
place_of App = rules.App
