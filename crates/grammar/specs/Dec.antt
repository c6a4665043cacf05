-- The rules of dec.rs.
use Rattle.std.specs.Prelude.{ℕ, ◌-◌, Bool, true, false, ◌&&◌, ◌||◌, eqb, ltb}
use Rattle.std.proofs.Math.Option.{Option, none, some}
use Rattle.grammar.specs.Bytes.{ascii}
use Rattle.grammar.specs.Env.{Infix, left, right}
use Rattle.grammar.specs.World.{negative, invalid, valid}
use Rattle.grammar.specs.Prog.{Prog, ◌>>=◌, ◌>>◌, peek, bump, error_at}
use Rattle.grammar.specs.Prog.Prog.{ret, branch, look, lookup, act, from, close, marked, loop, scoped, attempt, call}
use Rattle.grammar.specs.Prog.Look.{index, says, number, mode}
use Rattle.grammar.specs.Prog.Act.{take_as}
use Rattle.grammar.specs.Rule.{Rule, PatPrec, InfixErr}
use Rattle.grammar.specs.Rule.Rule.{dec, str_exp, sig_exp}
use Rattle.grammar.specs.Util.{is, if_kind, if_none, when, done, plain, expected, eat, want, choose, bump_if, comma_sep, many_sep, many_sep_node, maybe_semi_sep, is_name_star, is_name_star_eq, is_ascription, bump_ascription, eat_name_star, path, path_must}
use Rattle.grammar.specs.Ty.{ty, ty_var_seq, of_ty, ty_annotation}
use Rattle.grammar.specs.Pat.{pat, pat_must, at_pat, at_pat_must, as_pat_tl}
use Rattle.grammar.specs.Exp.{exp, exp_opt, eq_exp, arm}
use Rattle.grammar.specs.SyntaxKind as SK
use Rattle.grammar.specs.ErrorKind as EK

-- dec.rs, `dec_one`: the start of its closure for ValBind. It gives `got`: whether there was `rec` or a pattern.
unfoldable pub rec_pat : InfixErr → Prog Rule true
rec_pat e = do
  k ← peek 0
  if_kind k SK.RecKw (do
    bump
    pat_must PatPrec.Min e
    ret 1) (do
      v ← pat e
      if_none v (do
        expected EK.Pat
        ret 0) (ret 1))

-- dec.rs, `dec_one`: its closure for ValBind
unfoldable pub val_bind : InfixErr → Prog Rule true
val_bind e = do
  v ← rec_pat e
  if_none v (ret 0) (do
    eq_exp
    ret 1)

-- dec.rs, `infix_fun_bind_case_head_inner`: its name
unfoldable pub infix_name : {g : Bool} → Prog Rule g
infix_name = do
  k ← peek 0
  branch (is_name_star k)
      (lookup 0 (do
        i ← look index
        bump
        error_at EK.NotInfix i)
      (λ _. bump))
      (expected (EK.Kind SK.Name))

-- dec.rs, `infix_fun_bind_case_head_inner`
unfoldable pub infix_head : {g : Bool} → InfixErr → Prog Rule g
infix_head e = do
  at_pat_must e
  infix_name
  at_pat_must e

-- dec.rs, `dec_one`: a prefix head that starts at `op`, which is read here. `UnnecessaryOp` is reported before that.
unfoldable pub prefix_op : {g : Bool} → Prog Rule g
prefix_op = do
  k1 ← peek 1
  branch (is_name_star k1)
      (lookup 1 (do
        plain EK.UnnecessaryOp
        bump
        bump)
      (λ _. do
        bump
        bump))
      (do
        bump
        expected (EK.Kind SK.Name))

-- dec.rs, `dec_one`: a prefix head without `op`
unfoldable pub prefix_name : {g : Bool} → Prog Rule g
prefix_name = do
  k ← peek 0
  branch (is_name_star k)
      (lookup 0 bump (λ _. do
        i ← look index
        error_at EK.InfixWithoutOp i
        bump))
      (expected (EK.Kind SK.Name))

-- dec.rs, `dec_one`: the head of a FunBindCase where the attempt was taken back, to its exit
unfoldable pub other_head : {g : Bool} → InfixErr → Prog Rule g
other_head e = do
  k ← peek 0
  if_kind k SK.LRound (do
    bump
    infix_head e
    want SK.RRound
    close SK.InfixFunBindCaseHead)
      (if_kind k SK.OpKw (do
        prefix_op
        close SK.PrefixFunBindCaseHead) (do
          prefix_name
          close SK.PrefixFunBindCaseHead))

-- dec.rs, `dec_one`: the head of a FunBindCase, to its exit. 1 where it is infix and stands without parentheses.
unfoldable pub fun_head : {g : Bool} → InfixErr → Prog Rule g
fun_head e = do
  v ← attempt (infix_head e)
  if_none v (do
    other_head e
    ret 0) (done SK.InfixFunBindCaseHead)

-- dec.rs, `dec_one`: the left side in its closure for FunBindCase: the head, and the patterns behind it. The scope serves no node.
unfoldable pub fun_left : InfixErr → Prog Rule true
fun_left e = from (do
  v ← marked (from (fun_head e))
  if_none v (loop (at_pat e)) (ret 0))

-- dec.rs, `dec_one`: its closure for FunBindCase, which always gives true
unfoldable pub fun_case : InfixErr → Prog Rule true
fun_case e = do
  fun_left e
  ty_annotation
  eq_exp
  ret 1

-- dec.rs, `dec_one`: its closure for FunBind. `many_sep` found its first case, so it gives true. The scope serves no node.
unfoldable pub fun_bind : InfixErr → Prog Rule true
fun_bind e = from (do
  bump_if SK.Bar
  many_sep SK.Bar SK.FunBindCase (fun_case e)
  ret 1)

-- dec.rs, `ty_binds` and `dat_binds`: the type variables and the name that their closures start with. 1 where there were any.
unfoldable pub ty_name : Prog Rule true
ty_name = do
  s ← ty_var_seq
  if_none s (eat SK.Name) (do
    eat SK.Name
    ret 1)

-- dec.rs, `ty_binds`: the type in its closure for TyBind
unfoldable pub eq_ty : Prog Rule true
eq_ty = do
  k ← peek 0
  when (is k SK.Eq) (marked (from (do
    bump
    ty
    close SK.EqTy)))

-- dec.rs, `ty_binds`: its closure for TyBind
unfoldable pub ty_bind : Prog Rule true
ty_bind = do
  v ← ty_name
  if_none v (ret 0) (do
    eq_ty
    ret 1)

-- dec.rs, `ty_binds`
abbrev pub ty_binds : {g : Bool} → Prog Rule g
ty_binds = many_sep SK.AndKw SK.TyBind ty_bind

-- dec.rs, the start of the closures for ConBind (`dat_binds`) and ExBind (`dec_one`): a name that may stand behind
-- an unnecessary `op`. It gives `got`: whether there was either.
unfoldable pub op_name : {g : Bool} → Prog Rule g
op_name = do
  k ← peek 0
  if_kind k SK.OpKw (do
    plain EK.UnnecessaryOp
    bump
    eat_name_star
    ret 1) eat_name_star

-- dec.rs, `dat_binds`: its closure for ConBind. Both callers of `dat_binds` allow `op`.
unfoldable pub con_bind : Prog Rule true
con_bind = do
  v ← op_name
  if_none v (ret 0) (do
    of_ty
    ret 1)

-- dec.rs, `dat_binds`: the constructors in its closure for DatBind
unfoldable pub eq_con_binds : Prog Rule true
eq_con_binds = do
  k ← peek 0
  when (is k SK.Eq) (marked (from (do
    bump
    bump_if SK.Bar
    many_sep SK.Bar SK.ConBind con_bind
    close SK.EqConBinds)))

-- dec.rs, `dat_binds`: its closure for DatBind
unfoldable pub dat_bind : Prog Rule true
dat_bind = do
  v ← ty_name
  if_none v (ret 0) (do
    eq_con_binds
    ret 1)

-- dec.rs, `dat_binds`: its end
unfoldable pub with_type : Prog Rule true
with_type = do
  k ← peek 0
  when (is k SK.WithtypeKw) (marked (from (do
    bump
    ty_binds
    close SK.WithType)))

-- dec.rs, `dat_binds`
unfoldable pub dat_binds : Prog Rule true
dat_binds = do
  many_sep SK.AndKw SK.DatBind dat_bind
  with_type

-- dec.rs, `datatype`, and the exit of its node in `dec_one`
unfoldable pub datatype : Prog Rule true
datatype = do
  bump
  k2 ← peek 2
  if_kind k2 SK.DatatypeKw (do
    want SK.Name
    want SK.Eq
    want SK.DatatypeKw
    path_must
    done SK.DatCopyDec) (do
      dat_binds
      done SK.DatDec)

-- dec.rs, `dec_one`: its closure for ExBind
unfoldable pub ex_bind : Prog Rule true
ex_bind = do
  v ← op_name
  if_none v (ret 0) (do
    t ← of_ty
    if_none t (do
      eq_exp
      ret 1) (ret 1))

-- document 01: the mode in which a large fixity number is reported, and the largest that is not
abbrev pub strict : ℕ
strict = 2

abbrev pub largest : ℕ
largest = 9

-- dec.rs, `fixity`: document 01's test, in the mode m at the number n
abbrev pub is_large : ℕ → ℕ → Bool
is_large m n = eqb m strict && ltb largest n

-- dec.rs, `fixity`: document 01's strict mode, at the number n
unfoldable pub large_fixity : ℕ → Prog Rule true
large_fixity n = do
  m ← look mode
  when (is_large m n) (plain EK.LargeFixity)

-- dec.rs, `fixity`: its case of an IntLit. A valid number is `number_of` less `valid`
unfoldable pub fixity_number : Prog Rule true
fixity_number = do
  v ← look number
  branch (eqb v negative) (do
    plain EK.NegativeFixity
    bump
    ret 0)
      (branch (eqb v invalid) (do
        plain EK.InvalidFixity
        bump
        ret 0)
      (do
        large_fixity (v - valid)
        bump
        ret (v - valid)))

-- dec.rs, `fixity`
unfoldable pub fixity : Prog Rule true
fixity = do
  k ← peek 0
  if_kind k SK.IntLit fixity_number
      (branch (is_name_star_eq k) (ret 0) (do
        expected EK.NameOrInt
        ret 0))

-- dec.rs, `names_star_eq`: one turn of its loop. Its closure makes the change c for each name.
unfoldable pub names_turn : Option Infix → Prog Rule true
names_turn c = do
  k ← peek 0
  branch (is_name_star_eq k) (do
    act (take_as c)
    ret 1) (ret 0)

-- dec.rs, `names_star_eq`
abbrev pub names_star_eq : Option Infix → Prog Rule true
names_star_eq c = loop (names_turn c)

-- dec.rs, `dec_one`: its cases of `infix`, `infixr` and `nonfix`
unfoldable pub infix_dec : Prog Rule true
infix_dec = do
  bump
  n ← fixity
  names_star_eq (some (left n))
  done SK.InfixDec

unfoldable pub infixr_dec : Prog Rule true
infixr_dec = do
  bump
  n ← fixity
  names_star_eq (some (right n))
  done SK.InfixrDec

unfoldable pub nonfix_dec : Prog Rule true
nonfix_dec = do
  bump
  names_star_eq none
  done SK.NonfixDec

-- dec.rs, the end of what ends at a token of the kind k, and the exit of its node
unfoldable pub ended : ℕ → ℕ → Prog Rule true
ended k node = do
  want k
  done node

-- dec.rs, `dec_one`: its case of `local`, from the second part on
unfoldable pub local_tail : InfixErr → Prog Rule true
local_tail e = do
  marked (from (do
    want SK.InKw
    call (dec e)
    close SK.LocalDecTl))
  ended SK.EndKw SK.LocalDec

-- dec.rs, `dec_one`: its case of `local`
unfoldable pub local_dec : InfixErr → Prog Rule true
local_dec e = do
  marked (from (do
    bump
    call (dec e)
    close SK.LocalDecHd))
  local_tail e

-- dec.rs, `str_exp` and `sig_exp`: their calls, or the finding that there is none
unfoldable pub str_must : Prog Rule true
str_must = do
  v ← call str_exp
  if_none v (expected EK.StrExp) (ret 0)

unfoldable pub sig_must : Prog Rule true
sig_must = do
  v ← call sig_exp
  if_none v (expected EK.SigExp) (ret 0)

-- dec.rs, `ascription_tail`
unfoldable pub ascription_tail : {g : Bool} → Prog Rule g
ascription_tail = marked (from (do
  bump
  sig_must
  close SK.AscriptionTail))

-- dec.rs, `dec_one`: `ascription_tail` where an ascription is next, in its closures for StrBind and FunctorBind
unfoldable pub ascription_opt : {g : Bool} → Prog Rule g
ascription_opt = do
  k ← peek 0
  when (is_ascription k) ascription_tail

-- dec.rs, `dec_one`: its closure for StrBind
unfoldable pub str_bind : Prog Rule true
str_bind = do
  v ← eat SK.Name
  if_none v (ret 0) (do
    ascription_opt
    k ← peek 0
    when (is k SK.Eq) (marked (from (do
      bump
      str_must
      close SK.EqStrExp)))
    ret 1)

-- dec.rs, `dec_one`: its closure for SigBind
unfoldable pub sig_bind : Prog Rule true
sig_bind = do
  v ← eat SK.Name
  if_none v (ret 0) (do
    want SK.Eq
    sig_must
    ret 1)

-- dec.rs, `dec_one`: the parameter of a functor, in its closure for FunctorBind
unfoldable pub functor_arg : Prog Rule true
functor_arg = do
  k ← peek 0
  if_kind k SK.Name (marked (from (do
    bump
    bump_ascription
    sig_must
    close SK.FunctorArgNameSigExp)))
      (do
        call (dec InfixErr.No)
        ret 0)

-- dec.rs, `dec_one`: its closure for FunctorBind
unfoldable pub functor_bind : Prog Rule true
functor_bind = do
  v ← eat SK.Name
  if_none v (ret 0) (do
    want SK.LRound
    functor_arg
    want SK.RRound
    ascription_opt
    want SK.Eq
    str_must
    ret 1)

-- util.rs, `many_sep`: the closure that the kind of its node names, of those whose items hold expressions, structures or signatures.
-- For contracts of code: no rule is made of it.
unfoldable pub many_closure : ℕ → InfixErr → Prog Rule true
many_closure wrap e =
    choose (eqb wrap SK.Arm) arm
    (choose (eqb wrap SK.ValBind) (val_bind e)
    (choose (eqb wrap SK.FunBind) (fun_bind e)
    (choose (eqb wrap SK.FunBindCase) (fun_case e)
    (choose (eqb wrap SK.ExBind) ex_bind
    (choose (eqb wrap SK.StrBind) str_bind
    (choose (eqb wrap SK.SigBind) sig_bind functor_bind))))))

-- dec.rs, `es_import_spec`: the kinds of its name
abbrev pub is_name_or_string : ℕ → Bool
is_name_or_string k = is k SK.Name || is k SK.StringLit

-- dec.rs, `es_import_spec`: its name
unfoldable pub es_import_name : Prog Rule true
es_import_name = do
  k ← peek 0
  branch (is_name_or_string k) bump (expected EK.NameOrString)

-- dec.rs, `es_import_spec`
unfoldable pub es_import_spec : Prog Rule true
es_import_spec = marked (from (do
  es_import_name
  as_pat_tl InfixErr.Yes
  ty_annotation
  close SK.EsImportSpec))

-- dec.rs, `es_import`: one turn of its loop over the names among the attributes
unfoldable pub attr_turn : Prog Rule true
attr_turn = do
  k ← peek 0
  if_kind k SK.Name (do
    bump
    ret 1) (ret 0)

-- dec.rs, `es_import`: the attributes
unfoldable pub es_import_attrs : Prog Rule true
es_import_attrs = do
  k ← peek 0
  when (is k SK.LSquare) (marked (from (do
    bump
    loop attr_turn
    want SK.RSquare
    close SK.EsImportAttrs)))

-- dec.rs, `es_import`: the default import, and the comma between it and the named ones
unfoldable pub es_import_default : Prog Rule true
es_import_default = do
  k ← peek 0
  when (is k SK.Name) (do
    bump
    k ← peek 0
    when (is k SK.Comma) (do
      k1 ← peek 1
      when (is k1 SK.LCurly) bump))

-- dec.rs, `es_import`: the named imports
unfoldable pub es_import_specs : Prog Rule true
es_import_specs = do
  k ← peek 0
  when (is k SK.LCurly) (marked (from (do
    bump
    comma_sep SK.EsImportSpecArg SK.RCurly es_import_spec
    close SK.EsImportSpecs)))

-- dec.rs, `es_import`: the name `from`
unfoldable pub es_import_from : Prog Rule true
es_import_from = do
  k ← peek 0
  if_kind k SK.Name (do
    s ← look (says (ascii "from"))
    if_none s (do
      bump
      expected EK.From) bump)
      (expected (EK.Kind SK.Name))

-- dec.rs, `es_import`, at its keyword
unfoldable pub es_import : Prog Rule true
es_import = do
  bump
  es_import_attrs
  k ← peek 0
  if_kind k SK.StringLit bump (do
    es_import_default
    es_import_specs
    es_import_from
    want SK.StringLit)

-- dec.rs, `dec_one`: the kinds of its case of types
abbrev pub is_type_kw : ℕ → Bool
is_type_kw k = is k SK.TypeKw || is k SK.EqtypeKw

-- dec.rs, `dec_one`: its cases that change fixities, and that of `es_import`
unfoldable pub fix_dec : ℕ → Prog Rule true
fix_dec k =
    if_kind k SK.InfixKw infix_dec
    (if_kind k SK.InfixrKw infixr_dec
    (if_kind k SK.NonfixKw nonfix_dec
    (if_kind k SK.EsimportKw (do
      es_import
      done SK.EsImportDec)
    (ret 0))))

-- dec.rs, `dec_one`: its cases that hold no expression, structure or signature. They come first: no kind is in two cases, and `_` stays the last.
unfoldable pub leaf_dec : ℕ → Prog Rule true
leaf_dec k =
    if_kind k SK.DotDotDot (do
      bump
      done SK.HoleDec)
    (branch (is_type_kw k) (do
      bump
      ty_binds
      done SK.TyDec)
    (if_kind k SK.DatatypeKw datatype
    (if_kind k SK.OpenKw (do
      bump
      loop path
      done SK.OpenDec)
    (fix_dec k))))

-- dec.rs, `dec_one`: the keyword of `val` and `fun`, and the type variables behind it
unfoldable pub bump_vars : Prog Rule true
bump_vars = do
  bump
  ty_var_seq
  ret 0

-- dec.rs, `dec_one`: its case of `abstype`, up to its declarations
unfoldable pub abstype_head : Prog Rule true
abstype_head = do
  bump
  dat_binds
  want SK.WithKw

-- dec.rs, `dec_one`: its cases of `abstype` and `local`, and the last, an expression
unfoldable pub other_dec : ℕ → InfixErr → Prog Rule true
other_dec k e =
    if_kind k SK.AbstypeKw (do
      abstype_head
      call (dec e)
      ended SK.EndKw SK.AbstypeDec)
    (if_kind k SK.LocalKw (local_dec e)
    (do
      v ← exp_opt
      if_none v (ret 0) (done SK.ExpDec)))

-- dec.rs, `dec_one`: its cases of structures, signatures, functors and `include`
unfoldable pub module_dec : ℕ → InfixErr → Prog Rule true
module_dec k e =
    if_kind k SK.StructureKw (do
      bump
      many_sep_node SK.AndKw SK.StrBind SK.StructureDec str_bind
      ret 1)
    (if_kind k SK.SignatureKw (do
      bump
      many_sep_node SK.AndKw SK.SigBind SK.SignatureDec sig_bind
      ret 1)
    (if_kind k SK.FunctorKw (do
      bump
      many_sep_node SK.AndKw SK.FunctorBind SK.FunctorDec functor_bind
      ret 1)
    (if_kind k SK.IncludeKw (do
      bump
      loop (call sig_exp)
      done SK.IncludeDec)
    (other_dec k e))))

-- dec.rs, `dec_one`: its cases of values, functions, exceptions and `do`
unfoldable pub core_dec : ℕ → InfixErr → Prog Rule true
core_dec k e =
    if_kind k SK.ValKw (do
      bump_vars
      many_sep_node SK.AndKw SK.ValBind SK.ValDec (val_bind e)
      ret 1)
    (if_kind k SK.FunKw (do
      bump_vars
      many_sep_node SK.AndKw SK.FunBind SK.FunDec (fun_bind e)
      ret 1)
    (if_kind k SK.ExceptionKw (do
      bump
      many_sep_node SK.AndKw SK.ExBind SK.ExDec ex_bind
      ret 1)
    (if_kind k SK.DoKw (do
      bump
      exp
      done SK.DoDec)
    (module_dec k e))))

-- dec.rs, `dec_one`: its `match`, beneath its mark
unfoldable pub dec_head : ℕ → InfixErr → Prog Rule true
dec_head k e = do
  v ← leaf_dec k
  if_none v (core_dec k e) (ret 1)

-- dec.rs, `dec_one`
unfoldable pub dec_one : {g : Bool} → InfixErr → Prog Rule g
dec_one e = do
  k ← peek 0
  if_none k (ret 0) (marked (from (dec_head k e)))

-- dec.rs, `dec_with_tail`: one turn of its loop, a sharing tail
unfoldable pub sharing_turn : {g : Bool} → Prog Rule g
sharing_turn = do
  k ← peek 0
  if_kind k SK.SharingKw (do
    marked (from (do
      bump
      bump_if SK.TypeKw
      many_sep SK.Eq SK.PathEq path_must
      close SK.SharingTail))
    ret 1) (ret 0)

-- dec.rs, `dec_with_tail`: its sharing tails. 1 where there is one.
unfoldable pub sharings : {g : Bool} → Prog Rule g
sharings = do
  k ← peek 0
  if_kind k SK.SharingKw (do
    loop sharing_turn
    ret 1) (ret 0)

-- dec.rs, `dec_with_tail`: the end where no declaration came. Its node stands also where it is empty.
unfoldable pub bare_tail : {g : Bool} → Prog Rule g
bare_tail = do
  t ← sharings
  close SK.DecWithTail
  ret t

-- dec.rs, `dec_with_tail`: the end behind declarations
unfoldable pub full_tail : {g : Bool} → Prog Rule g
full_tail = do
  sharings
  done SK.DecWithTail

-- dec.rs, `dec_with_tail`
unfoldable pub dec_with_tail : {g : Bool} → InfixErr → Prog Rule g
dec_with_tail e = marked (from (do
  v ← maybe_semi_sep SK.DecInSeq (dec_one e)
  if_none v bare_tail full_tail))

-- util.rs, `maybe_semi_sep`: the closure that the kind of its node names. For contracts of code: no rule is made of it.
unfoldable pub semi_closure : ℕ → InfixErr → Prog Rule true
semi_closure wrap e = choose (eqb wrap SK.Dec) (dec_with_tail e) (dec_one e)

-- dec.rs, `dec`. The scope serves no node.
unfoldable pub decs : {g : Bool} → InfixErr → Prog Rule g
decs e = from (maybe_semi_sep SK.Dec (dec_with_tail e))

-- dec.rs, `str_exp`: the start of a functor application
unfoldable pub app_start : Prog Rule true
app_start = do
  bump
  want SK.LRound

-- dec.rs, `str_exp`: a functor application. Its argument is a structure, or declarations in an environment of their own.
unfoldable pub str_app : Prog Rule true
str_app = do
  app_start
  v ← marked (from (do
    v ← call str_exp
    if_none v (ret 0) (done SK.AppStrExpArgStrExp)))
  if_none v (do
    scoped (call (dec InfixErr.Yes))
    ended SK.RRound SK.AppStrExp) (ended SK.RRound SK.AppStrExp)

-- dec.rs, `str_exp`: its case of a path
unfoldable pub str_path : Prog Rule true
str_path = do
  path_must
  done SK.PathStrExp

-- dec.rs, `str_exp`: what stands in its case of `let` in an environment of its own
unfoldable pub str_let : Prog Rule true
str_let = do
  call (dec InfixErr.Yes)
  want SK.InKw
  str_must

-- dec.rs, `str_exp`: its `match`, beneath its mark
unfoldable pub str_head : ℕ → Prog Rule true
str_head k =
    if_kind k SK.StructKw (do
      bump
      scoped (call (dec InfixErr.Yes))
      ended SK.EndKw SK.StructStrExp)
    (if_kind k SK.LetKw (do
      bump
      scoped str_let
      ended SK.EndKw SK.LetStrExp)
    (if_kind k SK.Name (do
      k1 ← peek 1
      if_kind k1 SK.LRound str_app str_path)
    (ret 0)))

-- dec.rs, `str_exp`: one turn of its loop, an ascription behind a structure
unfoldable pub str_step : Prog Rule false
str_step = do
  k ← peek 0
  branch (is_ascription k) (do
    marked (do
      ascription_tail
      close SK.AscriptionStrExp)
    ret 1) (ret 0)

-- dec.rs, `str_exp`: the whole, in the scope of its own that `body` opens
unfoldable pub str_scope : Prog Rule false
str_scope = do
  k ← peek 0
  if_none k (ret 0) (do
    v ← marked (str_head k)
    if_none v (ret 0) (do
      loop str_step
      ret 1))

-- dec.rs, `sig_exp`: its first `match`, beneath its mark
unfoldable pub sig_head : ℕ → Prog Rule true
sig_head k =
    if_kind k SK.SigKw (do
      bump
      scoped (call (dec InfixErr.No))
      ended SK.EndKw SK.SigSigExp)
    (if_kind k SK.Name (do
      bump
      done SK.NameSigExp)
    (ret 0))

-- dec.rs, `sig_exp`: what stands in its loop behind `where`, or behind an `and` that goes on with it
unfoldable pub where_tail : Prog Rule true
where_tail = do
  k ← peek 0
  if_kind k SK.TypeKw (do
    bump
    ty_var_seq
    path_must
    want SK.Eq
    ty
    close SK.WhereTypeSigExp) (do
      path_must
      want SK.Eq
      path_must
      close SK.WhereSigExp)

-- dec.rs, `sig_exp`: the kinds that its loop goes on at
abbrev pub is_where_and : ℕ → Bool
is_where_and k = is k SK.WhereKw || is k SK.AndKw

-- dec.rs, `sig_exp`: one turn of its loop
unfoldable pub sig_step : Prog Rule false
sig_step = do
  k ← peek 0
  branch (is_where_and k) (do
    marked (do
      bump
      where_tail)
    ret 1) (ret 0)

-- dec.rs, `sig_exp`: its loop. The first `where` must be one, further ones can be `and`.
unfoldable pub wheres : Prog Rule false
wheres = do
  k ← peek 0
  when (is k SK.WhereKw) (loop sig_step)

-- dec.rs, `sig_exp`: the whole, in the scope of its own that `body` opens
unfoldable pub sig_scope : Prog Rule false
sig_scope = do
  k ← peek 0
  if_none k (ret 0) (do
    v ← marked (sig_head k)
    if_none v (ret 0) (do
      wheres
      ret 1))
