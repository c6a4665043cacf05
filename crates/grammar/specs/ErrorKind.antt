-- The numbers of the findings and of their details: parser.rs, ErrorKind, Expected and ParensExpFlavor, each in its order from 1.
use Rattle.std.specs.Prelude.{ℕ, ◌+◌}

abbrev pub NotInfix : ℕ
NotInfix = 1

abbrev pub InfixWithoutOp : ℕ
InfixWithoutOp = 2

abbrev pub InvalidFixity : ℕ
InvalidFixity = 3

abbrev pub NegativeFixity : ℕ
NegativeFixity = 4

abbrev pub SameFixityDiffAssoc : ℕ
SameFixityDiffAssoc = 5

abbrev pub Expected : ℕ
Expected = 6

abbrev pub UnnecessaryOp : ℕ
UnnecessaryOp = 7

abbrev pub UnmatchedClosingDelimiter : ℕ
UnmatchedClosingDelimiter = 8

abbrev pub NeedParensAroundExpHere : ℕ
NeedParensAroundExpHere = 9

-- Document 01's own, in strict mode: a fixity number above 9.
abbrev pub LargeFixity : ℕ
LargeFixity = 10

-- parser.rs, `Expected`: the details of Expected
abbrev pub Exp : ℕ
Exp = 1

abbrev pub Lab : ℕ
Lab = 2

abbrev pub Pat : ℕ
Pat = 3

abbrev pub Path : ℕ
Path = 4

abbrev pub SigExp : ℕ
SigExp = 5

abbrev pub StrExp : ℕ
StrExp = 6

abbrev pub Ty : ℕ
Ty = 7

abbrev pub LRoundExpTail : ℕ
LRoundExpTail = 8

abbrev pub Item : ℕ
Item = 9

abbrev pub NameOrInt : ℕ
NameOrInt = 10

abbrev pub From : ℕ
From = 11

abbrev pub NameOrString : ℕ
NameOrString = 12

-- document 01: what the detail of an expected token has more than the token's kind
abbrev pub kind_base : ℕ
kind_base = 128

-- parser.rs, `Expected::Kind`: a token of this kind
abbrev pub Kind : ℕ → ℕ
Kind k = kind_base + k

-- parser.rs, `ParensExpFlavor`: the details of NeedParensAroundExpHere
abbrev pub Raise : ℕ
Raise = 1

abbrev pub If : ℕ
If = 2

abbrev pub While : ℕ
While = 3

abbrev pub Case : ℕ
Case = 4

abbrev pub Fn : ℕ
Fn = 5
