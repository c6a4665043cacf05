-- The number, the detail and the name of a finding.
use Rattle.std.specs.Prelude.{ℕ, ◌%◌, Option, Some, None}
use Rattle.grammar.specs.World.{no_name}
use Rattle.grammar.specs.ErrorKind as EK
use Rattle.parser.specs.declared.finding.Expected.{Expected}
use Rattle.parser.specs.declared.finding.Expected.TheVariants as E
use Rattle.parser.specs.declared.finding.ParensExpFlavor.{ParensExpFlavor}
use Rattle.parser.specs.declared.finding.ParensExpFlavor.TheVariants as P
use Rattle.parser.specs.declared.finding.ErrorKind.{ErrorKind}
use Rattle.parser.specs.declared.finding.ErrorKind.TheVariants as K

-- what was expected; the kind of a token is below 128
abbrev pub wanted_of : Expected → ℕ
wanted_of E.Exp = EK.Exp
wanted_of E.Lab = EK.Lab
wanted_of E.Pat = EK.Pat
wanted_of E.Path = EK.Path
wanted_of E.SigExp = EK.SigExp
wanted_of E.StrExp = EK.StrExp
wanted_of E.Ty = EK.Ty
wanted_of E.LRoundExpTail = EK.LRoundExpTail
wanted_of E.Item = EK.Item
wanted_of E.NameOrInt = EK.NameOrInt
wanted_of E.From = EK.From
wanted_of E.NameOrString = EK.NameOrString
wanted_of (E.Kind k) = EK.Kind (k % 128)

-- what needs parentheses
abbrev pub flavor_of : ParensExpFlavor → ℕ
flavor_of P.Raise = EK.Raise
flavor_of P.If = EK.If
flavor_of P.While = EK.While
flavor_of P.Case = EK.Case
flavor_of P.Fn = EK.Fn

abbrev pub code_of : ErrorKind → ℕ
code_of (K.NotInfix i) = EK.NotInfix
code_of (K.InfixWithoutOp i) = EK.InfixWithoutOp
code_of K.InvalidFixity = EK.InvalidFixity
code_of K.NegativeFixity = EK.NegativeFixity
code_of K.SameFixityDiffAssoc = EK.SameFixityDiffAssoc
code_of (K.Expected what) = EK.Expected
code_of K.UnnecessaryOp = EK.UnnecessaryOp
code_of K.UnmatchedClosingDelimiter = EK.UnmatchedClosingDelimiter
code_of (K.NeedParensAroundExpHere what) = EK.NeedParensAroundExpHere
code_of K.LargeFixity = EK.LargeFixity

abbrev pub detail_of : ErrorKind → ℕ
detail_of (K.NotInfix i) = 0
detail_of (K.InfixWithoutOp i) = 0
detail_of K.InvalidFixity = 0
detail_of K.NegativeFixity = 0
detail_of K.SameFixityDiffAssoc = 0
detail_of (K.Expected what) = wanted_of what
detail_of K.UnnecessaryOp = 0
detail_of K.UnmatchedClosingDelimiter = 0
detail_of (K.NeedParensAroundExpHere what) = flavor_of what
detail_of K.LargeFixity = 0

-- the index of a name's token, or document 01's number for none
abbrev pub spelled : Option ℕ → ℕ
spelled (Some i) = i
spelled None = no_name

abbrev pub name_of : ErrorKind → ℕ
name_of (K.NotInfix i) = spelled i
name_of (K.InfixWithoutOp i) = spelled i
name_of K.InvalidFixity = no_name
name_of K.NegativeFixity = no_name
name_of K.SameFixityDiffAssoc = no_name
name_of (K.Expected what) = no_name
name_of K.UnnecessaryOp = no_name
name_of K.UnmatchedClosingDelimiter = no_name
name_of (K.NeedParensAroundExpHere what) = no_name
name_of K.LargeFixity = no_name
