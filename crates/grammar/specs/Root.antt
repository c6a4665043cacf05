-- The rule of root.rs, and the knot: what each rule's name stands for.
use Rattle.std.specs.Prelude.{ℕ, Bool, true, false, ◌||◌}
use Rattle.grammar.specs.Prog.{Prog, ◌>>=◌, ◌>>◌, peek, bump}
use Rattle.grammar.specs.Prog.Prog.{ret, branch, from, close, marked, loop, call}
use Rattle.grammar.specs.Rule.{Rule, InfixErr}
use Rattle.grammar.specs.Rule.Rule.{ty_prec, pat_prec, exp_prec, dec, str_exp, sig_exp}
use Rattle.grammar.specs.Util.{is, if_none, plain, expected}
use Rattle.grammar.specs.Ty.{ty_scope}
use Rattle.grammar.specs.Pat.{pat_scope}
use Rattle.grammar.specs.Exp.{exp_scope}
use Rattle.grammar.specs.Dec.{decs, str_scope, sig_scope}
use Rattle.grammar.specs.SyntaxKind as SK
use Rattle.grammar.specs.ErrorKind as EK

-- root.rs, `root`: the kinds that are an unmatched closing delimiter where no declaration starts
abbrev pub is_closer : ℕ → Bool
is_closer k = is k SK.RRound || is k SK.RCurly || is k SK.RSquare || is k SK.EndKw

-- root.rs, `root`: one turn of its loop
unfoldable pub root_turn : Prog Rule true
root_turn = do
  k ← peek 0
  if_none k (ret 0) (do
    v ← call (dec InfixErr.Yes)
    if_none v (do
      branch (is_closer k) (plain EK.UnmatchedClosingDelimiter) (expected EK.Item)
      bump
      ret 1) (ret 1))

-- root.rs, `root`
unfoldable pub root : Prog Rule false
root = marked (from (do
  loop root_turn
  close SK.Root))

-- What each rule's name stands for. A function that calls `precede` has a scope of its own (`from`), of which the node is made.
unfoldable pub body : Rule → Prog Rule false
body (ty_prec min) = from (ty_scope min)
body (pat_prec min e) = from (pat_scope min e)
body (exp_prec min) = from (exp_scope min)
body (dec e) = decs e
body str_exp = from str_scope
body sig_exp = from sig_scope
