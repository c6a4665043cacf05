-- The rules of pat.rs.
use Rattle.std.specs.Prelude.{ℕ, Bool, true, false, ◌||◌, eqb}
use Rattle.grammar.specs.Env as Env
use Rattle.grammar.specs.Prog.{Prog, ◌>>=◌, ◌>>◌, peek, bump, error_at}
use Rattle.grammar.specs.Prog.Prog.{ret, branch, look, lookup, from, close, marked, loop, call}
use Rattle.grammar.specs.Prog.Look.{index}
use Rattle.grammar.specs.Rule.{Rule, PatPrec, InfixErr, reports}
use Rattle.grammar.specs.Rule.Rule.{pat_prec}
use Rattle.grammar.specs.Util.{is, if_kind, if_none, when, done, expected, eat, comma_sep, should_break, is_name_star, is_ascription, eat_name_star, path, path_infix, path_no_infix, lab}
use Rattle.grammar.specs.Ty.{ty, ty_annotation}
use Rattle.grammar.specs.SyntaxKind as SK
use Rattle.grammar.specs.ErrorKind as EK

-- pat.rs, `pat_prec`: its call, or the finding that there is none
unfoldable pub pat_must : PatPrec → InfixErr → Prog Rule true
pat_must min e = do
  v ← call (pat_prec min e)
  if_none v (expected EK.Pat) (ret 0)

-- pat.rs, `pat`
abbrev pub pat : InfixErr → Prog Rule true
pat e = call (pat_prec PatPrec.Min e)

-- pat.rs, `at_pat`: the kinds of its first case, the literals
abbrev pub is_s_con : ℕ → Bool
is_s_con k = is k SK.IntLit || is k SK.RealLit || is k SK.WordLit || is k SK.CharLit || is k SK.StringLit

-- pat.rs, `match infix` in `pat_prec` and in `at_pat`: the path of a constructor that stands without `op`
unfoldable pub con_path : {g : Bool} → InfixErr → Prog Rule g
con_path e = branch (reports e) path_no_infix path

-- pat.rs, `pat_args`
abbrev pub pat_args : {g : Bool} → ℕ → InfixErr → Prog Rule g
pat_args end e = comma_sep SK.PatArg end (pat_must PatPrec.Min e)

-- pat.rs, `as_pat_tl`
unfoldable pub as_pat_tl : {g : Bool} → InfixErr → Prog Rule g
as_pat_tl e = do
  k ← peek 0
  if_kind k SK.AsKw (marked (from (do
    bump
    pat_must PatPrec.Min e
    done SK.AsPatTail))) (ret 0)

-- pat.rs, `at_pat`: a row of a record pattern, in its closure for `comma_sep`
unfoldable pub pat_row : InfixErr → Prog Rule true
pat_row e = marked (from (do
  k ← peek 0
  if_kind k SK.DotDotDot (do
    bump
    close SK.RestPatRow) (do
      k1 ← peek 1
      if_kind k1 SK.Eq (do
        lab
        eat SK.Eq
        pat_must PatPrec.Min e
        close SK.LabAndPatPatRow) (do
          eat_name_star
          ty_annotation
          as_pat_tl e
          close SK.LabPatRow))))

-- pat.rs, `at_pat_l_round`: the pattern behind `(`. 1 where `)` is next and the mark is abandoned.
unfoldable pub pat_arg : InfixErr → Prog Rule true
pat_arg e = marked (from (do
  pat_must PatPrec.Min e
  k ← peek 0
  if_kind k SK.RRound (ret 1) (do
    eat SK.Comma
    close SK.PatArg
    ret 0)))

-- pat.rs, `at_pat_l_round`
unfoldable pub at_pat_l_round : InfixErr → Prog Rule true
at_pat_l_round e = do
  k ← peek 0
  if_kind k SK.RRound (do
    bump
    done SK.TuplePat) (do
      v ← pat_arg e
      if_none v (do
        pat_args SK.RRound e
        done SK.TuplePat) (do
          bump
          done SK.ParenPat))

-- pat.rs, `at_pat`: the list of a vector pattern, behind `#`
unfoldable pub vector : InfixErr → Prog Rule true
vector e = marked (from (do
  eat SK.LSquare
  pat_args SK.RSquare e
  close SK.ListPat))

-- pat.rs, `at_pat`: the rest of its `match`, the arms that hold others
unfoldable pub at_pat_rest : ℕ → InfixErr → Prog Rule true
at_pat_rest k e =
    if_kind k SK.LCurly (do
      bump
      comma_sep SK.PatRow SK.RCurly (pat_row e)
      done SK.RecordPat)
    (if_kind k SK.LRound (do
      bump
      at_pat_l_round e)
    (if_kind k SK.LSquare (do
      bump
      pat_args SK.RSquare e
      done SK.ListPat)
    (if_kind k SK.Hash (do
      bump
      vector e
      done SK.VectorPat)
    (ret 0))))

-- pat.rs, `at_pat`: its `match`, beneath its mark
unfoldable pub at_pat_head : ℕ → InfixErr → Prog Rule true
at_pat_head k e =
    branch (is_s_con k) (do
      bump
      done SK.SConPat)
    (if_kind k SK.Underscore (do
      bump
      done SK.WildcardPat)
    (if_kind k SK.OpKw (do
      path_infix
      done SK.ConPat)
    (branch (is_name_star k) (do
      con_path e
      done SK.ConPat)
    (at_pat_rest k e))))

-- pat.rs, `at_pat`
unfoldable pub at_pat : {g : Bool} → InfixErr → Prog Rule g
at_pat e = do
  k ← peek 0
  if_none k (ret 0) (marked (from (at_pat_head k e)))

-- pat.rs, `at_pat`: its call, or the finding that there is none
unfoldable pub at_pat_must : {g : Bool} → InfixErr → Prog Rule g
at_pat_must e = do
  v ← at_pat e
  if_none v (expected EK.Pat) (ret 0)

-- pat.rs, `pat_prec`: the kinds in its loop that a constructor's argument starts with, names left aside
abbrev pub is_arg : ℕ → Bool
is_arg k = is_s_con k || is k SK.Underscore || is k SK.OpKw || is k SK.LCurly || is k SK.LRound || is k SK.LSquare || is k SK.Hash

-- pat.rs, `pat_prec`: its `match` at an infix name, whether the name ends the climb. 1 where it does.
unfoldable pub should_break_pat : {g : Bool} → Env.Infix → PatPrec → Prog Rule g
should_break_pat op PatPrec.Min = ret 0
should_break_pat op PatPrec.Or = ret 0
should_break_pat op (PatPrec.Infix min) = should_break op min

-- pat.rs, `pat_prec`: how the head of a constructor pattern leaves the first turn of the loop: to go on, to go on at an infix name
-- that was tested already, or to stop
abbrev pub go_on : ℕ
go_on = 1

abbrev pub at_op : ℕ
at_op = 2

abbrev pub stop : ℕ
stop = 3

-- pat.rs, `pat_prec`: the first turn of its loop at an infix name, in the state Entered. The name is tested while the node is open, since
-- the source reports before it exits the node.
unfoldable pub con_op : Env.Infix → PatPrec → Prog Rule true
con_op op min = do
  v ← should_break_pat op min
  close SK.ConPat
  if_none v (ret at_op) (ret stop)

-- pat.rs, `pat_prec`: the first turn of its loop in the state Entered. The mark of the constructor pattern is still open, and ends here in
-- every case.
unfoldable pub con_turn : PatPrec → InfixErr → Prog Rule true
con_turn min e = do
  k ← peek 0
  branch (is_name_star k)
      (lookup 0 (do
        at_pat_must e
        close SK.ConPat
        ret go_on)
      (λ op. con_op op min))
      (branch (is_arg k) (do
        at_pat_must e
        close SK.ConPat
        ret go_on) (do
          close SK.ConPat
          ret go_on))

-- pat.rs, `pat_prec`: the path of a constructor, with `op` or without
unfoldable pub con_name : {g : Bool} → InfixErr → Prog Rule g
con_name e = do
  k ← peek 0
  if_kind k SK.OpKw path_infix (con_path e)

-- pat.rs, `pat_prec`: its start in the state Entered, and the first turn of its loop
unfoldable pub con_head : {g : Bool} → PatPrec → InfixErr → Prog Rule g
con_head min e = marked (do
  con_name e
  con_turn min e)

-- pat.rs, `pat_prec`: its loop at an infix name that does not end the climb, from `precede` on
unfoldable pub infix_pat : {g : Bool} → Env.Infix → InfixErr → Prog Rule g
infix_pat op e = marked (do
  bump
  pat_must (PatPrec.Infix op) e
  close SK.InfixPat)

-- pat.rs, `pat_prec`: its test of min_prec at `|`, which goes on for Min alone
abbrev pub is_min : PatPrec → Bool
is_min PatPrec.Min = true
is_min PatPrec.Or = false
is_min (PatPrec.Infix op) = false

-- pat.rs, `pat_prec`: its test of min_prec at `:`, `:>` and `as`, which end the climb for Infix
abbrev pub is_infix : PatPrec → Bool
is_infix PatPrec.Min = false
is_infix PatPrec.Or = false
is_infix (PatPrec.Infix op) = true

-- pat.rs, `pat_prec`: the arms of its loop in the state Exited, each behind its test of min_prec: at a name,
unfoldable pub op_step : PatPrec → InfixErr → Prog Rule false
op_step min e =
    lookup 0 (do
      i ← look index
      error_at EK.NotInfix i
      ret 0)
    (λ op. do
      v ← should_break_pat op min
      if_none v (do
        infix_pat op e
        ret 1) (ret 0))

-- at `|`,
unfoldable pub or_step : PatPrec → InfixErr → Prog Rule false
or_step min e =
    branch (is_min min) (do
      marked (do
        bump
        pat_must PatPrec.Or e
        close SK.OrPat)
      ret 1)
    (ret 0)

-- at `:` and `:>`,
unfoldable pub typed_step : PatPrec → Prog Rule false
typed_step min =
    branch (is_infix min) (ret 0) (do
      marked (do
        bump
        ty
        close SK.TypedPat)
      ret 1)

-- at `as`
unfoldable pub as_step : PatPrec → InfixErr → Prog Rule false
as_step min e =
    branch (is_infix min) (ret 0) (do
      marked (do
        v ← as_pat_tl e
        if_none v (expected EK.Pat) (ret 0)
        close SK.AsPat)
      ret 1)

-- pat.rs, `pat_prec`: one turn of its loop in the state Exited
unfoldable pub pat_step : PatPrec → InfixErr → Prog Rule false
pat_step min e = do
  k ← peek 0
  branch (is_name_star k) (op_step min e)
      (if_kind k SK.Bar (or_step min e)
      (branch (is_ascription k) (typed_step min)
      (if_kind k SK.AsKw (as_step min e)
      (ret 0))))

-- pat.rs, `pat_prec`: behind a head that left at an infix name, the rest of its turn
unfoldable pub op_tail : InfixErr → Prog Rule false
op_tail e = lookup 0 (ret 0) (λ op. infix_pat op e)

-- pat.rs, `pat_prec`: what follows the head of a constructor pattern, which left by v
unfoldable pub pat_tail : ℕ → PatPrec → InfixErr → Prog Rule false
pat_tail v min e =
    branch (eqb v stop) (ret 1) (do
      when (eqb v at_op) (op_tail e)
      loop (pat_step min e)
      ret 1)

-- pat.rs, `pat_prec`: where it starts in the state Entered, the whole
unfoldable pub con_pat : PatPrec → InfixErr → Prog Rule false
con_pat min e = do
  v ← con_head min e
  if_none v (ret 0) (pat_tail v min e)

-- pat.rs, `pat_prec`: where it starts in the state Exited, the whole
unfoldable pub atom_pat : PatPrec → InfixErr → Prog Rule false
atom_pat min e = do
  v ← at_pat e
  if_none v (ret 0) (do
    loop (pat_step min e)
    ret 1)

-- pat.rs, `pat_prec`: the whole, in the scope of its own that `body` opens
unfoldable pub pat_scope : PatPrec → InfixErr → Prog Rule false
pat_scope min e = do
  k ← peek 0
  branch (is_name_star k) (con_pat min e)
      (if_kind k SK.OpKw (do
        k1 ← peek 1
        branch (is_name_star k1) (con_pat min e) (atom_pat min e))
      (atom_pat min e))
