-- What the code's precedences of patterns mean.
use Rattle.grammar.specs.Rule as Rule
use Rattle.sml_fixity.specs.Fix.{infix_of}
use Rattle.pat_prec.specs.declared.PatPrec.{PatPrec}
use Rattle.pat_prec.specs.declared.PatPrec.TheVariants.{Min, Or, Infix}

abbrev pub prec_of : PatPrec → Rule.PatPrec
prec_of Min = Rule.PatPrec.Min
prec_of Or = Rule.PatPrec.Or
prec_of (Infix i) = Rule.PatPrec.Infix (infix_of i)
