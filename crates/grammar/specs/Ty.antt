-- The rules of ty.rs.
use Rattle.std.specs.Prelude.{ℕ, Bool, true, false, ltb}
use Rattle.grammar.specs.Prog.{Prog, ◌>>=◌, ◌>>◌, peek, bump}
use Rattle.grammar.specs.Prog.Prog.{ret, branch, from, close, marked, loop, call}
use Rattle.grammar.specs.Rule.{Rule, Arrow, Star, App}
use Rattle.grammar.specs.Rule.Rule.{ty_prec}
use Rattle.grammar.specs.Util.{if_kind, if_none, done, expected, eat, comma_sep, is_ascription, bump_ascription, path_must, lab}
use Rattle.grammar.specs.SyntaxKind as SK
use Rattle.grammar.specs.ErrorKind as EK

-- ty.rs, `ty_prec`: its call, or the finding that there is none
unfoldable pub ty_must : ℕ → Prog Rule true
ty_must min = do
  v ← call (ty_prec min)
  if_none v (expected EK.Ty) (ret 0)

-- ty.rs, `ty`
abbrev pub ty : Prog Rule true
ty = ty_must Arrow

-- ty.rs, `ty_prec`: a row of a record type, in its closure for `comma_sep`
unfoldable pub ty_row : Prog Rule true
ty_row = do
  lab
  bump_ascription
  ty

-- ty.rs, `ty_prec`: the type behind `(`. 1 where `)` is next.
unfoldable pub ty_arg : Prog Rule true
ty_arg = marked (from (do
  ty
  k ← peek 0
  if_kind k SK.RRound (ret 1) (do
    eat SK.Comma
    close SK.TyArg
    ret 0)))

-- ty.rs, `ty_prec`: `(` and a type; where more follow, the whole sequence. 1 where `)` is next and both marks are abandoned.
unfoldable pub ty_seq : Prog Rule true
ty_seq = marked (from (do
  bump
  v ← ty_arg
  if_none v (do
    comma_sep SK.TyArg SK.RRound ty
    close SK.TySeq
    ret 0) (ret 1)))

-- ty.rs, `ty_prec`: what a type with `(` starts with, by what stands in the parentheses
unfoldable pub ty_round : Prog Rule true
ty_round = do
  v ← ty_seq
  if_none v (do
    path_must
    done SK.ConTy) (do
      bump
      done SK.ParenTy)

-- ty.rs, `ty_prec`: the arms of its first `match` that hold others
unfoldable pub ty_inner : ℕ → Prog Rule true
ty_inner k =
    if_kind k SK.LCurly (do
      bump
      comma_sep SK.TyRow SK.RCurly ty_row
      done SK.RecordTy)
    (if_kind k SK.LRound ty_round
    (if_kind k SK.Name (do
      path_must
      done SK.ConTy)
    (ret 0)))

-- ty.rs, `ty_prec`: its first `match`, what a type starts with
unfoldable pub ty_head : ℕ → Prog Rule true
ty_head k =
    if_kind k SK.DotDotDot (do
      bump
      done SK.HoleTy)
    (if_kind k SK.Underscore (do
      bump
      done SK.WildcardTy)
    (if_kind k SK.TyVar (do
      bump
      done SK.TyVarTy)
    (ty_inner k)))

-- ty.rs, `ty_prec`: one factor of a tuple type
unfoldable pub star_factor : Prog Rule true
star_factor = marked (from (do
  bump
  ty_must App
  close SK.StarTy))

-- ty.rs, `ty_prec`: one turn of the inner loop at `*`
unfoldable pub star_turn : Prog Rule true
star_turn = do
  k ← peek 0
  if_kind k SK.Star (do
    star_factor
    ret 1) (ret 0)

-- ty.rs, `ty_prec`: the arms of its loop, each behind `precede`: an arrow,
unfoldable pub ty_arrow : {g : Bool} → Prog Rule g
ty_arrow = marked (do
  bump
  ty_must Arrow
  close SK.FnTy)

-- the factors of a tuple,
unfoldable pub ty_tuple : {g : Bool} → Prog Rule g
ty_tuple = marked (do
  loop star_turn
  close SK.TupleTy)

-- a constructor
unfoldable pub ty_con : {g : Bool} → Prog Rule g
ty_con = marked (do
  path_must
  close SK.OneArgConTy)

-- ty.rs, `ty_prec`: one turn of its loop
unfoldable pub ty_step : ℕ → Prog Rule false
ty_step min = do
  k ← peek 0
  if_kind k SK.MinusGt (branch (ltb Arrow min) (ret 0) (do
    ty_arrow
    ret 1))
      (if_kind k SK.Star (branch (ltb Star min) (ret 0) (do
        ty_tuple
        ret 1))
      (if_kind k SK.Name (do
        ty_con
        ret 1)
      (ret 0)))

-- ty.rs, `ty_prec`: the whole, in the scope of its own that `body` opens
unfoldable pub ty_scope : ℕ → Prog Rule false
ty_scope min = do
  k ← peek 0
  if_none k (ret 0) (do
    v ← marked (ty_head k)
    if_none v (ret 0) (do
      loop (ty_step min)
      ret 1))

-- ty.rs, `ty_var_seq`: a type variable that stands alone, in the node's scope
unfoldable pub ty_var_one : Prog Rule true
ty_var_one = do
  marked (from (do
    bump
    close SK.TyVarArg))
  done SK.TyVarSeq

-- ty.rs, `ty_var_seq`: several type variables in parentheses, in the node's scope
unfoldable pub ty_var_many : Prog Rule true
ty_var_many = do
  k1 ← peek 1
  if_kind k1 SK.TyVar (do
    bump
    comma_sep SK.TyVarArg SK.RRound (eat SK.TyVar)
    done SK.TyVarSeq) (ret 0)

-- ty.rs, `ty_var_seq`: the one or the other
unfoldable pub ty_vars : Prog Rule true
ty_vars = do
  k ← peek 0
  if_kind k SK.TyVar ty_var_one (if_kind k SK.LRound ty_var_many (ret 0))

-- ty.rs, `ty_var_seq`
unfoldable pub ty_var_seq : {g : Bool} → Prog Rule g
ty_var_seq = marked (from ty_vars)

-- ty.rs, `of_ty`
unfoldable pub of_ty : {g : Bool} → Prog Rule g
of_ty = do
  k ← peek 0
  if_kind k SK.OfKw (marked (from (do
    bump
    ty
    done SK.OfTy))) (ret 0)

-- ty.rs, `ty_annotation`
unfoldable pub ty_annotation : {g : Bool} → Prog Rule g
ty_annotation = do
  k ← peek 0
  branch (is_ascription k) (marked (from (do
    bump
    ty
    done SK.TyAnnotation))) (ret 0)
