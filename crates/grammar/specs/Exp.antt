-- The rules of exp.rs.
use Rattle.std.specs.Prelude.{ℕ, Bool, true, false, ◌||◌, eqb}
use Rattle.grammar.specs.Env as Env
use Rattle.grammar.specs.Prog.{Prog, Reason, ◌>>=◌, ◌>>◌, peek, bump, error}
use Rattle.grammar.specs.Prog.Prog.{ret, branch, lookup, act, from, close, marked, loop, scoped, call}
use Rattle.grammar.specs.Prog.Act.{refuse}
use Rattle.grammar.specs.Rule.{Rule, ExpPrec, InfixErr}
use Rattle.grammar.specs.Rule.Rule.{exp_prec, dec}
use Rattle.grammar.specs.Util.{is, if_kind, if_none, when, done, expected, want, choose, bump_if, end_sep, end_sep_node, many_sep_node, should_break, is_name_star_eq, is_ascription, path_infix, path_no_infix, lab}
use Rattle.grammar.specs.Ty.{ty}
use Rattle.grammar.specs.Pat.{pat, is_s_con}
use Rattle.grammar.specs.SyntaxKind as SK
use Rattle.grammar.specs.ErrorKind as EK

-- exp.rs, `exp_prec`: its call, or the finding that there is none
unfoldable pub exp_must : ExpPrec → Prog Rule true
exp_must min = do
  v ← call (exp_prec min)
  if_none v (expected EK.Exp) (ret 0)

-- exp.rs, `exp`; its answer serves no caller
abbrev pub exp : Prog Rule true
exp = exp_must ExpPrec.Min

-- exp.rs, `exp_opt`
abbrev pub exp_opt : Prog Rule true
exp_opt = call (exp_prec ExpPrec.Min)

-- exp.rs, `eq_exp`
unfoldable pub eq_exp : {g : Bool} → Prog Rule g
eq_exp = do
  k ← peek 0
  when (is k SK.Eq) (marked (from (do
    bump
    exp
    close SK.EqExp)))

-- exp.rs, `matcher` and `exp_prec`: a token of the kind k, and an expression
unfoldable pub want_exp : ℕ → Prog Rule true
want_exp k = do
  want k
  exp

-- exp.rs, `matcher`: its closure for `many_sep`, one arm
unfoldable pub arm : Prog Rule true
arm = do
  v ← pat InfixErr.Yes
  if_none v (do
    expected EK.Pat
    ret 0) (do
      want_exp SK.EqGt
      ret 1)

-- exp.rs, `matcher`
unfoldable pub matcher : {g : Bool} → Prog Rule g
matcher = marked (from (do
  bump_if SK.Bar
  many_sep_node SK.Bar SK.Arm SK.Matcher arm))

-- exp.rs, `exp_args`, and the exit of its node in both cases of `at_exp` that call it
abbrev pub exp_args : {g : Bool} → Prog Rule g
exp_args = end_sep_node SK.ExpArg SK.Comma SK.RSquare SK.ListExp exp

-- exp.rs, `at_exp_l_round`: its `sep`, what was read behind the first expression; 0 where it is neither
abbrev pub saw_semicolon : ℕ
saw_semicolon = 1

abbrev pub saw_comma : ℕ
saw_comma = 2

-- exp.rs, `at_exp_l_round`: its end where neither `;` nor `,` is behind the first expression
unfoldable pub paren_end : Prog Rule true
paren_end = do
  k ← peek 0
  if_kind k SK.RRound (do
    bump
    done SK.ParenExp) (do
      expected EK.LRoundExpTail
      done SK.ParenExp)

-- exp.rs, `at_exp_l_round`, behind `(`
unfoldable pub at_exp_l_round : Prog Rule true
at_exp_l_round = do
  k ← peek 0
  if_kind k SK.RRound (do
    bump
    done SK.TupleExp) (do
      v ← marked (from (do
        exp
        k ← peek 0
        if_kind k SK.Semicolon (do
          bump
          close SK.ExpInSeq
          ret saw_semicolon)
            (if_kind k SK.Comma (do
              bump
              close SK.ExpArg
              ret saw_comma) (ret 0))))
      branch (eqb v saw_semicolon) (do
        end_sep_node SK.ExpInSeq SK.Semicolon SK.RRound SK.SeqExp exp
        ret 1)
          (branch (eqb v saw_comma) (do
            end_sep_node SK.ExpArg SK.Comma SK.RRound SK.TupleExp exp
            ret 1)
          paren_end))

-- exp.rs, `at_exp`: its case of `op`
unfoldable pub op_exp : Prog Rule true
op_exp = do
  k1 ← peek 1
  if_kind k1 SK.AndalsoKw (do
    bump
    bump
    done SK.OpAndalsoExp)
      (if_kind k1 SK.OrelseKw (do
        bump
        bump
        done SK.OpOrelseExp) (do
          path_infix
          done SK.PathExp))

-- exp.rs, `at_exp`: the name in the start of a record update
unfoldable pub update_path : Prog Rule true
update_path = marked (from (do
  path_no_infix
  close SK.PathExp))

-- exp.rs, `at_exp`: the start of a record update, in its case of `{`
unfoldable pub record_update : Prog Rule true
record_update = do
  k ← peek 0
  when (is k SK.Name) (do
    k1 ← peek 1
    when (is k1 SK.WhereKw) (marked (from (do
      update_path
      bump
      close SK.RecordUpdate))))

-- exp.rs, `at_exp`: its case of `{`, up to the rows
unfoldable pub record_start : Prog Rule true
record_start = do
  bump
  record_update

-- exp.rs, `at_exp`: a row of a record expression, in its closure for `comma_sep`
unfoldable pub exp_row : Prog Rule true
exp_row = do
  lab
  eq_exp

-- exp.rs, `at_exp`: its case of `#`
unfoldable pub hash_exp : Prog Rule true
hash_exp = do
  bump
  k ← peek 0
  if_kind k SK.LSquare (do
    marked (from (do
      bump
      exp_args))
    done SK.VectorExp) (do
      lab
      done SK.SelectorExp)

-- exp.rs, `at_exp`: what stands in its case of `let` in an environment of its own
unfoldable pub let_body : Prog Rule true
let_body = do
  call (dec InfixErr.Yes)
  want SK.InKw
  end_sep SK.ExpInSeq SK.Semicolon SK.EndKw exp

-- exp.rs, `at_exp`: its case of `let`
unfoldable pub let_exp : Prog Rule true
let_exp = do
  bump
  scoped let_body
  done SK.LetExp

-- exp.rs, `at_exp`: the cases of its `match` that hold no expression
unfoldable pub at_exp_leaf : ℕ → Prog Rule true
at_exp_leaf k =
    if_kind k SK.DotDotDot (do
      bump
      done SK.HoleExp)
    (if_kind k SK.Underscore (do
      bump
      done SK.WildcardExp)
    (branch (is_s_con k) (do
      bump
      done SK.SConExp)
    (if_kind k SK.OpKw op_exp
    (branch (is_name_star_eq k) (do
      path_no_infix
      done SK.PathExp)
    (ret 0)))))

-- exp.rs, `at_exp`: its `match`, beneath its mark. The cases that hold expressions come first: no kind is in two cases.
unfoldable pub at_exp_head : ℕ → Prog Rule true
at_exp_head k =
    if_kind k SK.LCurly (do
      record_start
      end_sep_node SK.ExpRow SK.Comma SK.RCurly SK.RecordExp exp_row
      ret 1)
    (if_kind k SK.Hash hash_exp
    (if_kind k SK.LRound (do
      bump
      at_exp_l_round)
    (if_kind k SK.LSquare (do
      bump
      exp_args
      ret 1)
    (if_kind k SK.LetKw let_exp
    (at_exp_leaf k)))))

-- exp.rs, `at_exp`
unfoldable pub at_exp : {g : Bool} → Prog Rule g
at_exp = do
  k ← peek 0
  if_none k (ret 0) (marked (from (at_exp_head k)))

-- exp.rs, `app_exp`: its call of `at_exp`, or the finding that there is none
unfoldable pub at_exp_must : Prog Rule true
at_exp_must = do
  v ← at_exp
  if_none v (expected EK.Exp) (ret 0)

-- exp.rs, `app_exp`
unfoldable pub app_exp : {g : Bool} → Prog Rule g
app_exp = marked (do
  at_exp_must
  close SK.AppExp)

-- util.rs, `end_sep`: the closure that the kind of its node names, a row of a record or an expression. For contracts of code: no rule is made of it.
unfoldable pub end_closure : ℕ → Prog Rule true
end_closure wrap = choose (eqb wrap SK.ExpRow) exp_row exp

-- exp.rs, `should_break_exp`: that a case cannot happen, that the climb goes on or ends, or that two infix names decide.
-- Verdicts are data, so that a fact about `should_break_exp` has four cases and not thirty-six.
pub data Verdict : Type 0 where
  unreachable goes_on ends : Verdict
  infixes : Env.Infix → Env.Infix → Verdict

-- exp.rs, `should_break_exp`: the cases of its `match`
abbrev pub verdict : ExpPrec → ExpPrec → Verdict
verdict prec ExpPrec.Handle = unreachable
verdict prec ExpPrec.Ascription = unreachable
verdict ExpPrec.Min ExpPrec.Min = unreachable
verdict ExpPrec.Min ExpPrec.Orelse = unreachable
verdict ExpPrec.Min ExpPrec.Andalso = unreachable
verdict ExpPrec.Min (ExpPrec.Infix min) = unreachable
verdict (ExpPrec.Infix op) (ExpPrec.Infix min) = infixes op min
verdict (ExpPrec.Infix op) ExpPrec.Min = goes_on
verdict (ExpPrec.Infix op) ExpPrec.Orelse = goes_on
verdict (ExpPrec.Infix op) ExpPrec.Andalso = goes_on
verdict ExpPrec.Ascription ExpPrec.Min = goes_on
verdict ExpPrec.Ascription ExpPrec.Orelse = goes_on
verdict ExpPrec.Ascription ExpPrec.Andalso = goes_on
verdict ExpPrec.Ascription (ExpPrec.Infix min) = ends
verdict ExpPrec.Andalso ExpPrec.Min = goes_on
verdict ExpPrec.Andalso ExpPrec.Orelse = goes_on
verdict ExpPrec.Andalso ExpPrec.Andalso = ends
verdict ExpPrec.Andalso (ExpPrec.Infix min) = ends
verdict ExpPrec.Orelse ExpPrec.Min = goes_on
verdict ExpPrec.Orelse ExpPrec.Orelse = ends
verdict ExpPrec.Orelse ExpPrec.Andalso = ends
verdict ExpPrec.Orelse (ExpPrec.Infix min) = ends
verdict ExpPrec.Handle ExpPrec.Min = goes_on
verdict ExpPrec.Handle ExpPrec.Orelse = ends
verdict ExpPrec.Handle ExpPrec.Andalso = ends
verdict ExpPrec.Handle (ExpPrec.Infix min) = ends

-- exp.rs, `should_break_exp`: what follows from a verdict, 1 where the climb ends. What cannot happen is answer 10.
unfoldable pub decide : {g : Bool} → Verdict → Prog Rule g
decide unreachable = do
  act (refuse Reason.unreachable)
  ret 0
decide goes_on = ret 0
decide ends = ret 1
decide (infixes op min) = should_break op min

-- exp.rs, `should_break_exp`: 1 where the climb ends
abbrev pub should_break_exp : {g : Bool} → ExpPrec → ExpPrec → Prog Rule g
should_break_exp prec min = decide (verdict prec min)

-- exp.rs, `ExpPrec`: the place of a variant among them
abbrev pub rank : ExpPrec → ℕ
rank ExpPrec.Min = 0
rank ExpPrec.Handle = 1
rank ExpPrec.Orelse = 2
rank ExpPrec.Andalso = 3
rank ExpPrec.Ascription = 4
rank (ExpPrec.Infix op) = 5

-- exp.rs, `ExpPrec`: whether it is this variant
abbrev pub is_handle : ExpPrec → Bool
is_handle p = eqb (rank p) 1

abbrev pub is_ascribed : ExpPrec → Bool
is_ascribed p = eqb (rank p) 4

-- exp.rs, `exp_prec`: its `infix`, whether this is the right side of an infix name
abbrev pub is_infix : ExpPrec → Bool
is_infix p = eqb (rank p) 5

-- exp.rs, `exp_prec_loop`: the node of an operator whose right side is an expression; the others are never asked for
abbrev pub node_of : ExpPrec → ℕ
node_of ExpPrec.Min = SK.InfixExp
node_of ExpPrec.Handle = SK.InfixExp
node_of ExpPrec.Orelse = SK.OrelseExp
node_of ExpPrec.Andalso = SK.AndalsoExp
node_of ExpPrec.Ascription = SK.InfixExp
node_of (ExpPrec.Infix op) = SK.InfixExp

-- exp.rs, `exp_prec_loop`: the right side of an operator of the kind prec, which is not Min, and the exit of the node that `precede` opened
unfoldable pub right_side : ExpPrec → Prog Rule true
right_side prec =
    branch (is_ascribed prec) (do
      ty
      close SK.TypedExp)
    (branch (is_handle prec) (do
      matcher
      close SK.HandleExp)
    (do
      exp_must prec
      close (node_of prec)))

-- exp.rs, `exp_prec_loop`: an operator of the kind prec. Unless it ends the climb, the operator and its right side.
unfoldable pub climb : ExpPrec → ExpPrec → Prog Rule false
climb prec min = do
  v ← should_break_exp prec min
  if_none v (do
    marked (do
      bump
      right_side prec)
    ret 1) (ret 0)

-- exp.rs, `exp_prec_loop`: the kinds that start an argument, names left aside
abbrev pub is_arg : ℕ → Bool
is_arg k = is k SK.DotDotDot || is k SK.Underscore || is_s_con k || is k SK.OpKw || is k SK.LCurly || is k SK.Hash || is k SK.LRound || is k SK.LSquare || is k SK.LetKw

-- exp.rs, `exp_prec_loop`: its case of a name, which is an argument or an infix name
unfoldable pub name_step : ExpPrec → Prog Rule false
name_step min =
    lookup 0 (do
      app_exp
      ret 1)
    (λ op. climb (ExpPrec.Infix op) min)

-- exp.rs, `exp_prec_loop`: one turn of its loop
unfoldable pub exp_step : ExpPrec → Prog Rule false
exp_step min = do
  k ← peek 0
  branch (is_name_star_eq k) (name_step min)
      (branch (is_ascription k) (climb ExpPrec.Ascription min)
      (if_kind k SK.AndalsoKw (climb ExpPrec.Andalso min)
      (if_kind k SK.OrelseKw (climb ExpPrec.Orelse min)
      (if_kind k SK.HandleKw (climb ExpPrec.Handle min)
      (branch (is_arg k) (do
        app_exp
        ret 1) (ret 0))))))

-- exp.rs, `exp_prec`: the keywords of its cases
abbrev pub is_keyword : ℕ → Bool
is_keyword k = is k SK.RaiseKw || is k SK.IfKw || is k SK.WhileKw || is k SK.CaseKw || is k SK.FnKw

-- exp.rs, `exp_prec`: the finding that such a keyword wants parentheses
unfoldable pub need_parens : ℕ → Prog Rule true
need_parens k =
    if_kind k SK.RaiseKw (error EK.NeedParensAroundExpHere EK.Raise)
    (if_kind k SK.IfKw (error EK.NeedParensAroundExpHere EK.If)
    (if_kind k SK.WhileKw (error EK.NeedParensAroundExpHere EK.While)
    (if_kind k SK.CaseKw (error EK.NeedParensAroundExpHere EK.Case)
    (error EK.NeedParensAroundExpHere EK.Fn))))

-- exp.rs, `exp_prec`: a keyword that is read, and that wants parentheses on the right side of an infix name
unfoldable pub keyword : ℕ → ExpPrec → Prog Rule true
keyword k min =
    branch (is_infix min) (do
      need_parens k
      bump) bump

-- exp.rs, `exp_prec`: its cases behind their keywords. All but that of `fn` go on with an expression.
unfoldable pub keyed : ℕ → Prog Rule true
keyed k =
    if_kind k SK.FnKw (do
      matcher
      close SK.FnExp)
    (do
      exp
      if_kind k SK.RaiseKw (close SK.RaiseExp)
          (if_kind k SK.IfKw (do
            want_exp SK.ThenKw
            want_exp SK.ElseKw
            close SK.IfExp)
          (if_kind k SK.WhileKw (do
            want_exp SK.DoKw
            close SK.WhileExp)
          (do
            want SK.OfKw
            matcher
            close SK.CaseExp))))

-- exp.rs, `exp_prec`: its cases that start with a keyword, beneath its mark
unfoldable pub exp_head : ℕ → ExpPrec → Prog Rule true
exp_head k min =
    branch (is_keyword k) (do
      keyword k min
      keyed k
      ret 1) (ret 0)

-- exp.rs, `exp_prec`: its last case, and `exp_prec_loop`
unfoldable pub exp_rest : ExpPrec → Prog Rule false
exp_rest min = do
  v ← at_exp
  if_none v (ret 0) (do
    loop (exp_step min)
    ret 1)

-- exp.rs, `exp_prec`: the whole, in the scope of its own that `body` opens
unfoldable pub exp_scope : ExpPrec → Prog Rule false
exp_scope min = do
  k ← peek 0
  if_none k (ret 0) (do
    v ← marked (exp_head k min)
    if_none v (exp_rest min) (ret 1))
