-- The kinds of tokens and of nodes, under the names that the source has for them (sml_syntax's SyntaxKind).
use Rattle.std.specs.Prelude.{ℕ}

-- Document 01: token kinds 0 to 69. The last two are its own: `Trivia` is skipped by every look, `Other` is wanted by no rule.
abbrev pub DotDotDot : ℕ
DotDotDot = 0

abbrev pub Dot : ℕ
Dot = 1

abbrev pub Bar : ℕ
Bar = 2

abbrev pub LRound : ℕ
LRound = 3

abbrev pub RRound : ℕ
RRound = 4

abbrev pub LCurly : ℕ
LCurly = 5

abbrev pub RCurly : ℕ
RCurly = 6

abbrev pub LSquare : ℕ
LSquare = 7

abbrev pub RSquare : ℕ
RSquare = 8

abbrev pub Eq : ℕ
Eq = 9

abbrev pub Star : ℕ
Star = 10

abbrev pub Comma : ℕ
Comma = 11

abbrev pub Semicolon : ℕ
Semicolon = 12

abbrev pub Colon : ℕ
Colon = 13

abbrev pub ColonGt : ℕ
ColonGt = 14

abbrev pub EqGt : ℕ
EqGt = 15

abbrev pub MinusGt : ℕ
MinusGt = 16

abbrev pub Underscore : ℕ
Underscore = 17

abbrev pub Hash : ℕ
Hash = 18

abbrev pub ValKw : ℕ
ValKw = 19

abbrev pub RecKw : ℕ
RecKw = 20

abbrev pub AndKw : ℕ
AndKw = 21

abbrev pub FunKw : ℕ
FunKw = 22

abbrev pub OpKw : ℕ
OpKw = 23

abbrev pub TypeKw : ℕ
TypeKw = 24

abbrev pub EqtypeKw : ℕ
EqtypeKw = 25

abbrev pub DatatypeKw : ℕ
DatatypeKw = 26

abbrev pub AbstypeKw : ℕ
AbstypeKw = 27

abbrev pub WithKw : ℕ
WithKw = 28

abbrev pub EndKw : ℕ
EndKw = 29

abbrev pub ExceptionKw : ℕ
ExceptionKw = 30

abbrev pub OpenKw : ℕ
OpenKw = 31

abbrev pub InfixKw : ℕ
InfixKw = 32

abbrev pub InfixrKw : ℕ
InfixrKw = 33

abbrev pub NonfixKw : ℕ
NonfixKw = 34

abbrev pub DoKw : ℕ
DoKw = 35

abbrev pub LocalKw : ℕ
LocalKw = 36

abbrev pub InKw : ℕ
InKw = 37

abbrev pub StructureKw : ℕ
StructureKw = 38

abbrev pub SignatureKw : ℕ
SignatureKw = 39

abbrev pub FunctorKw : ℕ
FunctorKw = 40

abbrev pub IncludeKw : ℕ
IncludeKw = 41

abbrev pub StructKw : ℕ
StructKw = 42

abbrev pub LetKw : ℕ
LetKw = 43

abbrev pub SigKw : ℕ
SigKw = 44

abbrev pub WhereKw : ℕ
WhereKw = 45

abbrev pub SharingKw : ℕ
SharingKw = 46

abbrev pub WithtypeKw : ℕ
WithtypeKw = 47

abbrev pub EsimportKw : ℕ
EsimportKw = 48

abbrev pub RaiseKw : ℕ
RaiseKw = 49

abbrev pub IfKw : ℕ
IfKw = 50

abbrev pub ThenKw : ℕ
ThenKw = 51

abbrev pub ElseKw : ℕ
ElseKw = 52

abbrev pub WhileKw : ℕ
WhileKw = 53

abbrev pub CaseKw : ℕ
CaseKw = 54

abbrev pub OfKw : ℕ
OfKw = 55

abbrev pub FnKw : ℕ
FnKw = 56

abbrev pub AndalsoKw : ℕ
AndalsoKw = 57

abbrev pub OrelseKw : ℕ
OrelseKw = 58

abbrev pub HandleKw : ℕ
HandleKw = 59

abbrev pub AsKw : ℕ
AsKw = 60

abbrev pub Name : ℕ
Name = 61

abbrev pub TyVar : ℕ
TyVar = 62

abbrev pub IntLit : ℕ
IntLit = 63

abbrev pub RealLit : ℕ
RealLit = 64

abbrev pub WordLit : ℕ
WordLit = 65

abbrev pub CharLit : ℕ
CharLit = 66

abbrev pub StringLit : ℕ
StringLit = 67

abbrev pub Trivia : ℕ
Trivia = 68

abbrev pub Other : ℕ
Other = 69

-- Node kinds: the names that the source passes to a node's exit, from 0 in byte order. tools/node-kinds derives them again.
abbrev pub AbstypeDec : ℕ
AbstypeDec = 0

abbrev pub AndalsoExp : ℕ
AndalsoExp = 1

abbrev pub AppExp : ℕ
AppExp = 2

abbrev pub AppStrExp : ℕ
AppStrExp = 3

abbrev pub AppStrExpArgStrExp : ℕ
AppStrExpArgStrExp = 4

abbrev pub Arm : ℕ
Arm = 5

abbrev pub AsPat : ℕ
AsPat = 6

abbrev pub AsPatTail : ℕ
AsPatTail = 7

abbrev pub AscriptionStrExp : ℕ
AscriptionStrExp = 8

abbrev pub AscriptionTail : ℕ
AscriptionTail = 9

abbrev pub CaseExp : ℕ
CaseExp = 10

abbrev pub ConBind : ℕ
ConBind = 11

abbrev pub ConPat : ℕ
ConPat = 12

abbrev pub ConTy : ℕ
ConTy = 13

abbrev pub DatBind : ℕ
DatBind = 14

abbrev pub DatCopyDec : ℕ
DatCopyDec = 15

abbrev pub DatDec : ℕ
DatDec = 16

abbrev pub Dec : ℕ
Dec = 17

abbrev pub DecInSeq : ℕ
DecInSeq = 18

abbrev pub DecWithTail : ℕ
DecWithTail = 19

abbrev pub DoDec : ℕ
DoDec = 20

abbrev pub EqConBinds : ℕ
EqConBinds = 21

abbrev pub EqExp : ℕ
EqExp = 22

abbrev pub EqStrExp : ℕ
EqStrExp = 23

abbrev pub EqTy : ℕ
EqTy = 24

abbrev pub EsImportAttrs : ℕ
EsImportAttrs = 25

abbrev pub EsImportDec : ℕ
EsImportDec = 26

abbrev pub EsImportSpec : ℕ
EsImportSpec = 27

abbrev pub EsImportSpecArg : ℕ
EsImportSpecArg = 28

abbrev pub EsImportSpecs : ℕ
EsImportSpecs = 29

abbrev pub ExBind : ℕ
ExBind = 30

abbrev pub ExDec : ℕ
ExDec = 31

abbrev pub ExpArg : ℕ
ExpArg = 32

abbrev pub ExpDec : ℕ
ExpDec = 33

abbrev pub ExpInSeq : ℕ
ExpInSeq = 34

abbrev pub ExpRow : ℕ
ExpRow = 35

abbrev pub FnExp : ℕ
FnExp = 36

abbrev pub FnTy : ℕ
FnTy = 37

abbrev pub FunBind : ℕ
FunBind = 38

abbrev pub FunBindCase : ℕ
FunBindCase = 39

abbrev pub FunDec : ℕ
FunDec = 40

abbrev pub FunctorArgNameSigExp : ℕ
FunctorArgNameSigExp = 41

abbrev pub FunctorBind : ℕ
FunctorBind = 42

abbrev pub FunctorDec : ℕ
FunctorDec = 43

abbrev pub HandleExp : ℕ
HandleExp = 44

abbrev pub HoleDec : ℕ
HoleDec = 45

abbrev pub HoleExp : ℕ
HoleExp = 46

abbrev pub HoleTy : ℕ
HoleTy = 47

abbrev pub IfExp : ℕ
IfExp = 48

abbrev pub IncludeDec : ℕ
IncludeDec = 49

abbrev pub InfixDec : ℕ
InfixDec = 50

abbrev pub InfixExp : ℕ
InfixExp = 51

abbrev pub InfixFunBindCaseHead : ℕ
InfixFunBindCaseHead = 52

abbrev pub InfixPat : ℕ
InfixPat = 53

abbrev pub InfixrDec : ℕ
InfixrDec = 54

abbrev pub LabAndPatPatRow : ℕ
LabAndPatPatRow = 55

abbrev pub LabPatRow : ℕ
LabPatRow = 56

abbrev pub LetExp : ℕ
LetExp = 57

abbrev pub LetStrExp : ℕ
LetStrExp = 58

abbrev pub ListExp : ℕ
ListExp = 59

abbrev pub ListPat : ℕ
ListPat = 60

abbrev pub LocalDec : ℕ
LocalDec = 61

abbrev pub LocalDecHd : ℕ
LocalDecHd = 62

abbrev pub LocalDecTl : ℕ
LocalDecTl = 63

abbrev pub Matcher : ℕ
Matcher = 64

abbrev pub NameSigExp : ℕ
NameSigExp = 65

abbrev pub NameStarEqDot : ℕ
NameStarEqDot = 66

abbrev pub NonfixDec : ℕ
NonfixDec = 67

abbrev pub OfTy : ℕ
OfTy = 68

abbrev pub OneArgConTy : ℕ
OneArgConTy = 69

abbrev pub OpAndalsoExp : ℕ
OpAndalsoExp = 70

abbrev pub OpOrelseExp : ℕ
OpOrelseExp = 71

abbrev pub OpenDec : ℕ
OpenDec = 72

abbrev pub OrPat : ℕ
OrPat = 73

abbrev pub OrelseExp : ℕ
OrelseExp = 74

abbrev pub ParenExp : ℕ
ParenExp = 75

abbrev pub ParenPat : ℕ
ParenPat = 76

abbrev pub ParenTy : ℕ
ParenTy = 77

abbrev pub PatArg : ℕ
PatArg = 78

abbrev pub PatRow : ℕ
PatRow = 79

abbrev pub Path : ℕ
Path = 80

abbrev pub PathEq : ℕ
PathEq = 81

abbrev pub PathExp : ℕ
PathExp = 82

abbrev pub PathStrExp : ℕ
PathStrExp = 83

abbrev pub PrefixFunBindCaseHead : ℕ
PrefixFunBindCaseHead = 84

abbrev pub RaiseExp : ℕ
RaiseExp = 85

abbrev pub RecordExp : ℕ
RecordExp = 86

abbrev pub RecordPat : ℕ
RecordPat = 87

abbrev pub RecordTy : ℕ
RecordTy = 88

abbrev pub RecordUpdate : ℕ
RecordUpdate = 89

abbrev pub RestPatRow : ℕ
RestPatRow = 90

abbrev pub Root : ℕ
Root = 91

abbrev pub SConExp : ℕ
SConExp = 92

abbrev pub SConPat : ℕ
SConPat = 93

abbrev pub SelectorExp : ℕ
SelectorExp = 94

abbrev pub SeqExp : ℕ
SeqExp = 95

abbrev pub SharingTail : ℕ
SharingTail = 96

abbrev pub SigBind : ℕ
SigBind = 97

abbrev pub SigSigExp : ℕ
SigSigExp = 98

abbrev pub SignatureDec : ℕ
SignatureDec = 99

abbrev pub StarTy : ℕ
StarTy = 100

abbrev pub StrBind : ℕ
StrBind = 101

abbrev pub StructStrExp : ℕ
StructStrExp = 102

abbrev pub StructureDec : ℕ
StructureDec = 103

abbrev pub TupleExp : ℕ
TupleExp = 104

abbrev pub TuplePat : ℕ
TuplePat = 105

abbrev pub TupleTy : ℕ
TupleTy = 106

abbrev pub TyAnnotation : ℕ
TyAnnotation = 107

abbrev pub TyArg : ℕ
TyArg = 108

abbrev pub TyBind : ℕ
TyBind = 109

abbrev pub TyDec : ℕ
TyDec = 110

abbrev pub TyRow : ℕ
TyRow = 111

abbrev pub TySeq : ℕ
TySeq = 112

abbrev pub TyVarArg : ℕ
TyVarArg = 113

abbrev pub TyVarSeq : ℕ
TyVarSeq = 114

abbrev pub TyVarTy : ℕ
TyVarTy = 115

abbrev pub TypedExp : ℕ
TypedExp = 116

abbrev pub TypedPat : ℕ
TypedPat = 117

abbrev pub ValBind : ℕ
ValBind = 118

abbrev pub ValDec : ℕ
ValDec = 119

abbrev pub VectorExp : ℕ
VectorExp = 120

abbrev pub VectorPat : ℕ
VectorPat = 121

abbrev pub WhereSigExp : ℕ
WhereSigExp = 122

abbrev pub WhereTypeSigExp : ℕ
WhereTypeSigExp = 123

abbrev pub WhileExp : ℕ
WhileExp = 124

abbrev pub WildcardExp : ℕ
WildcardExp = 125

abbrev pub WildcardPat : ℕ
WildcardPat = 126

abbrev pub WildcardTy : ℕ
WildcardTy = 127

abbrev pub WithType : ℕ
WithType = 128
