-- Tests of the kind of a node: no two kinds have one number.
use Rattle.std.specs.Prelude.{ℕ, ◌≡◌, refl, List, [], ◌∷◌, false, eqb, get_or}
use Rattle.std.proofs.Common.{ap, ◌∙◌, sym, eqb-true}
use Rattle.sml_fixity.specs.Names.{by_test}
use Rattle.parser.specs.Nodes.{node_number}
use Rattle.parser.specs.declared.node.Node.{Node}
use Rattle.parser.specs.declared.node.Node.TheVariants as N

all : List Node
all =
    N.AbstypeDec ∷ N.AndalsoExp ∷ N.AppExp ∷ N.AppStrExp ∷ N.AppStrExpArgStrExp ∷ N.Arm ∷ N.AsPat ∷ N.AsPatTail ∷ N.AscriptionStrExp ∷ N.AscriptionTail ∷
    N.CaseExp ∷ N.ConBind ∷ N.ConPat ∷ N.ConTy ∷ N.DatBind ∷ N.DatCopyDec ∷ N.DatDec ∷ N.Dec ∷ N.DecInSeq ∷ N.DecWithTail ∷ N.DoDec ∷ N.EqConBinds ∷
    N.EqExp ∷ N.EqStrExp ∷ N.EqTy ∷ N.EsImportAttrs ∷ N.EsImportDec ∷ N.EsImportSpec ∷ N.EsImportSpecArg ∷ N.EsImportSpecs ∷ N.ExBind ∷ N.ExDec ∷
    N.ExpArg ∷ N.ExpDec ∷ N.ExpInSeq ∷ N.ExpRow ∷ N.FnExp ∷ N.FnTy ∷ N.FunBind ∷ N.FunBindCase ∷ N.FunDec ∷ N.FunctorArgNameSigExp ∷ N.FunctorBind ∷
    N.FunctorDec ∷ N.HandleExp ∷ N.HoleDec ∷ N.HoleExp ∷ N.HoleTy ∷ N.IfExp ∷ N.IncludeDec ∷ N.InfixDec ∷ N.InfixExp ∷ N.InfixFunBindCaseHead ∷
    N.InfixPat ∷ N.InfixrDec ∷ N.LabAndPatPatRow ∷ N.LabPatRow ∷ N.LetExp ∷ N.LetStrExp ∷ N.ListExp ∷ N.ListPat ∷ N.LocalDec ∷ N.LocalDecHd ∷
    N.LocalDecTl ∷ N.Matcher ∷ N.NameSigExp ∷ N.NameStarEqDot ∷ N.NonfixDec ∷ N.OfTy ∷ N.OneArgConTy ∷ N.OpAndalsoExp ∷ N.OpOrelseExp ∷ N.OpenDec ∷
    N.OrPat ∷ N.OrelseExp ∷ N.ParenExp ∷ N.ParenPat ∷ N.ParenTy ∷ N.PatArg ∷ N.PatRow ∷ N.Path ∷ N.PathEq ∷ N.PathExp ∷ N.PathStrExp ∷
    N.PrefixFunBindCaseHead ∷ N.RaiseExp ∷ N.RecordExp ∷ N.RecordPat ∷ N.RecordTy ∷ N.RecordUpdate ∷ N.RestPatRow ∷ N.Root ∷ N.SConExp ∷ N.SConPat ∷
    N.SelectorExp ∷ N.SeqExp ∷ N.SharingTail ∷ N.SigBind ∷ N.SigSigExp ∷ N.SignatureDec ∷ N.StarTy ∷ N.StrBind ∷ N.StructStrExp ∷ N.StructureDec ∷
    N.TupleExp ∷ N.TuplePat ∷ N.TupleTy ∷ N.TyAnnotation ∷ N.TyArg ∷ N.TyBind ∷ N.TyDec ∷ N.TyRow ∷ N.TySeq ∷ N.TyVarArg ∷ N.TyVarSeq ∷ N.TyVarTy ∷
    N.TypedExp ∷ N.TypedPat ∷ N.ValBind ∷ N.ValDec ∷ N.VectorExp ∷ N.VectorPat ∷ N.WhereSigExp ∷ N.WhereTypeSigExp ∷ N.WhileExp ∷ N.WildcardExp ∷
    N.WildcardPat ∷ N.WildcardTy ∷ N.WithType ∷ []

node_at : ℕ → Node
node_at n = get_or all n N.AbstypeDec

same_node : (x : Node) → node_at (node_number x) ≡ x
unfolding all node_at
same_node N.AbstypeDec = refl
same_node N.AndalsoExp = refl
same_node N.AppExp = refl
same_node N.AppStrExp = refl
same_node N.AppStrExpArgStrExp = refl
same_node N.Arm = refl
same_node N.AsPat = refl
same_node N.AsPatTail = refl
same_node N.AscriptionStrExp = refl
same_node N.AscriptionTail = refl
same_node N.CaseExp = refl
same_node N.ConBind = refl
same_node N.ConPat = refl
same_node N.ConTy = refl
same_node N.DatBind = refl
same_node N.DatCopyDec = refl
same_node N.DatDec = refl
same_node N.Dec = refl
same_node N.DecInSeq = refl
same_node N.DecWithTail = refl
same_node N.DoDec = refl
same_node N.EqConBinds = refl
same_node N.EqExp = refl
same_node N.EqStrExp = refl
same_node N.EqTy = refl
same_node N.EsImportAttrs = refl
same_node N.EsImportDec = refl
same_node N.EsImportSpec = refl
same_node N.EsImportSpecArg = refl
same_node N.EsImportSpecs = refl
same_node N.ExBind = refl
same_node N.ExDec = refl
same_node N.ExpArg = refl
same_node N.ExpDec = refl
same_node N.ExpInSeq = refl
same_node N.ExpRow = refl
same_node N.FnExp = refl
same_node N.FnTy = refl
same_node N.FunBind = refl
same_node N.FunBindCase = refl
same_node N.FunDec = refl
same_node N.FunctorArgNameSigExp = refl
same_node N.FunctorBind = refl
same_node N.FunctorDec = refl
same_node N.HandleExp = refl
same_node N.HoleDec = refl
same_node N.HoleExp = refl
same_node N.HoleTy = refl
same_node N.IfExp = refl
same_node N.IncludeDec = refl
same_node N.InfixDec = refl
same_node N.InfixExp = refl
same_node N.InfixFunBindCaseHead = refl
same_node N.InfixPat = refl
same_node N.InfixrDec = refl
same_node N.LabAndPatPatRow = refl
same_node N.LabPatRow = refl
same_node N.LetExp = refl
same_node N.LetStrExp = refl
same_node N.ListExp = refl
same_node N.ListPat = refl
same_node N.LocalDec = refl
same_node N.LocalDecHd = refl
same_node N.LocalDecTl = refl
same_node N.Matcher = refl
same_node N.NameSigExp = refl
same_node N.NameStarEqDot = refl
same_node N.NonfixDec = refl
same_node N.OfTy = refl
same_node N.OneArgConTy = refl
same_node N.OpAndalsoExp = refl
same_node N.OpOrelseExp = refl
same_node N.OpenDec = refl
same_node N.OrPat = refl
same_node N.OrelseExp = refl
same_node N.ParenExp = refl
same_node N.ParenPat = refl
same_node N.ParenTy = refl
same_node N.PatArg = refl
same_node N.PatRow = refl
same_node N.Path = refl
same_node N.PathEq = refl
same_node N.PathExp = refl
same_node N.PathStrExp = refl
same_node N.PrefixFunBindCaseHead = refl
same_node N.RaiseExp = refl
same_node N.RecordExp = refl
same_node N.RecordPat = refl
same_node N.RecordTy = refl
same_node N.RecordUpdate = refl
same_node N.RestPatRow = refl
same_node N.Root = refl
same_node N.SConExp = refl
same_node N.SConPat = refl
same_node N.SelectorExp = refl
same_node N.SeqExp = refl
same_node N.SharingTail = refl
same_node N.SigBind = refl
same_node N.SigSigExp = refl
same_node N.SignatureDec = refl
same_node N.StarTy = refl
same_node N.StrBind = refl
same_node N.StructStrExp = refl
same_node N.StructureDec = refl
same_node N.TupleExp = refl
same_node N.TuplePat = refl
same_node N.TupleTy = refl
same_node N.TyAnnotation = refl
same_node N.TyArg = refl
same_node N.TyBind = refl
same_node N.TyDec = refl
same_node N.TyRow = refl
same_node N.TySeq = refl
same_node N.TyVarArg = refl
same_node N.TyVarSeq = refl
same_node N.TyVarTy = refl
same_node N.TypedExp = refl
same_node N.TypedPat = refl
same_node N.ValBind = refl
same_node N.ValDec = refl
same_node N.VectorExp = refl
same_node N.VectorPat = refl
same_node N.WhereSigExp = refl
same_node N.WhereTypeSigExp = refl
same_node N.WhileExp = refl
same_node N.WildcardExp = refl
same_node N.WildcardPat = refl
same_node N.WildcardTy = refl
same_node N.WithType = refl

pub other_node : (x y : Node) → (x ≡ y → ⊥) → eqb (node_number x) (node_number y) ≡ false
other_node x y h =
    by_test (eqb (node_number x) (node_number y))
    (λ t. absurd (h (sym (same_node x) ∙ ap node_at (eqb-true _ _ t) ∙ same_node y)))
    (λ t. t)
