-- What the code's precedences and verdicts mean.
use Rattle.grammar.specs.Rule as Rule
use Rattle.grammar.specs.Exp as Exp
use Rattle.sml_fixity.specs.Fix.{infix_of}
use Rattle.exp_prec.specs.declared.ExpPrec.{ExpPrec}
use Rattle.exp_prec.specs.declared.ExpPrec.TheVariants.{Min, Handle, Orelse, Andalso, Ascription, Infix}
use Rattle.exp_prec.specs.declared.Verdict.{Verdict}
use Rattle.exp_prec.specs.declared.Verdict.TheVariants.{Unreachable, GoesOn, Ends, Infixes}

abbrev pub prec_of : ExpPrec → Rule.ExpPrec
prec_of Min = Rule.ExpPrec.Min
prec_of Handle = Rule.ExpPrec.Handle
prec_of Orelse = Rule.ExpPrec.Orelse
prec_of Andalso = Rule.ExpPrec.Andalso
prec_of Ascription = Rule.ExpPrec.Ascription
prec_of (Infix i) = Rule.ExpPrec.Infix (infix_of i)

abbrev pub verdict_of : Verdict → Exp.Verdict
verdict_of Unreachable = Exp.Verdict.unreachable
verdict_of GoesOn = Exp.Verdict.goes_on
verdict_of Ends = Exp.Verdict.ends
verdict_of (Infixes i j) = Exp.Verdict.infixes (infix_of i) (infix_of j)
