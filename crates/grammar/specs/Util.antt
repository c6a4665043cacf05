-- The rules of util.rs, and `eat` of event_parse.
use Rattle.std.specs.Prelude.{ℕ, ◌+◌, Bool, true, false, not, ◌&&◌, ◌||◌, eqb, ltb, leb}
use Rattle.grammar.specs.Env.{Infix, Left}
use Rattle.grammar.specs.World.{none?}
use Rattle.grammar.specs.Prog.{Prog, ◌>>=◌, ◌>>◌, peek, bump, error, error_at}
use Rattle.grammar.specs.Prog.Prog.{ret, branch, look, lookup, from, close, marked, loop}
use Rattle.grammar.specs.Prog.Look.{index}
use Rattle.grammar.specs.Rule.{Rule}
use Rattle.grammar.specs.SyntaxKind as SK
use Rattle.grammar.specs.ErrorKind as EK

-- event_parse, `at_n`: whether what a look gave is a token of this kind
abbrev pub is : ℕ → ℕ → Bool
is k want = eqb k (want + 1)

-- event_parse, `at`: the first program where the look gave a token of this kind, and the second otherwise
abbrev pub if_kind : {g : Bool} → ℕ → ℕ → Prog Rule g → Prog Rule g → Prog Rule g
if_kind k want p q = branch (is k want) p q

-- `is_none`: the first program where a look or a rule found nothing, and the second otherwise
abbrev pub if_none : {g : Bool} → ℕ → Prog Rule g → Prog Rule g → Prog Rule g
if_none v p q = branch (none? v) p q

-- `if` without an else; it gives 0 where the test fails
abbrev pub when : {g : Bool} → Bool → Prog Rule g → Prog Rule g
when t p = branch t p (ret 0)

-- event_parse, `exit`, as a function's last call: the node's end, and 1, since something was found
abbrev pub done : {g : Bool} → ℕ → Prog Rule g
done k = do
  close k
  ret 1

-- event_parse, `error`: a finding that carries no detail
abbrev pub plain : {g : Bool} → ℕ → Prog Rule g
plain f = error f 0

-- parser.rs, `ErrorKind::Expected`: the finding with this detail
abbrev pub expected : {g : Bool} → ℕ → Prog Rule g
expected d = error EK.Expected d

-- event_parse, `eat`
unfoldable pub eat : {g : Bool} → ℕ → Prog Rule g
eat want = do
  k ← peek 0
  if_kind k want (do
    bump
    ret 1) (do
      expected (EK.Kind want)
      ret 0)

-- event_parse, `eat`, where its answer serves no one
unfoldable pub want : {g : Bool} → ℕ → Prog Rule g
want k = do
  eat k
  ret 0

-- The first program where the test holds, and the second otherwise. Unlike `branch` it is one of the two, so that at a number that is known
-- it is the program that the number names.
unfoldable pub choose : {g : Bool} → Bool → Prog Rule g → Prog Rule g → Prog Rule g
choose true p q = p
choose false p q = q

-- event_parse, `at` and `bump`: a token of this kind is read, where it is next
unfoldable pub bump_if : {g : Bool} → ℕ → Prog Rule g
bump_if want = do
  k ← peek 0
  when (is k want) bump

-- util.rs, `maybe_semi_sep`: one turn of its loop
unfoldable pub semi_turn : {g : Bool} → ℕ → Prog Rule true → Prog Rule g
semi_turn wrap f = marked (from (do
  v ← f
  if_none v (ret 0) (do
    bump_if SK.Semicolon
    done wrap)))

-- util.rs, `maybe_semi_sep`: whether it advanced is whether its first turn found something
unfoldable pub maybe_semi_sep : {g : Bool} → ℕ → Prog Rule true → Prog Rule g
maybe_semi_sep wrap f = do
  v ← semi_turn wrap f
  if_none v (ret 0) (do
    loop (semi_turn wrap f)
    ret 1)

-- util.rs, `end_sep`: what stands in one turn, and its separator; 1 where there was one
unfoldable pub end_item : {g : Bool} → ℕ → ℕ → Prog Rule true → Prog Rule g
end_item wrap sep f = marked (from (do
  f
  k ← peek 0
  saw ← if_kind k sep (do
    bump
    ret 1) (ret 0)
  close wrap
  ret saw))

-- util.rs, `end_sep`: one turn
unfoldable pub end_turn : {g : Bool} → ℕ → ℕ → ℕ → Prog Rule true → Prog Rule g
end_turn wrap sep end f = do
  k ← peek 0
  if_kind k end (do
    bump
    ret 0) (do
      saw ← end_item wrap sep f
      if_none saw (do
        eat end
        ret 0) (ret 1))

-- util.rs, `end_sep`
unfoldable pub end_sep : {g : Bool} → ℕ → ℕ → ℕ → Prog Rule true → Prog Rule g
end_sep wrap sep end f = loop (end_turn wrap sep end f)

-- util.rs, `end_sep` or `comma_sep`, and the exit of the node around it
unfoldable pub end_sep_node : {g : Bool} → (wrap sep end node : ℕ) → Prog Rule true → Prog Rule g
end_sep_node wrap sep end node f = do
  end_sep wrap sep end f
  close node

-- util.rs, `comma_sep`
abbrev pub comma_sep : {g : Bool} → ℕ → ℕ → Prog Rule true → Prog Rule g
comma_sep wrap end f = end_sep wrap SK.Comma end f

-- util.rs, `many_sep`: one turn of its loop, which goes on where the separator was read
unfoldable pub many_turn : {g : Bool} → ℕ → ℕ → Prog Rule true → Prog Rule g
many_turn sep wrap f = marked (from (do
  v ← f
  if_none v (ret 0) (do
    k ← peek 0
    if_kind k sep (do
      bump
      done wrap) (do
        close wrap
        ret 0))))

-- util.rs, `many_sep`. Its answer serves one caller alone, FunBind, for which it is always true.
unfoldable pub many_sep : {g : Bool} → ℕ → ℕ → Prog Rule true → Prog Rule g
many_sep sep wrap f = loop (many_turn sep wrap f)

-- util.rs, `many_sep`, and the exit of the node around it
unfoldable pub many_sep_node : {g : Bool} → (sep wrap node : ℕ) → Prog Rule true → Prog Rule g
many_sep_node sep wrap node f = do
  many_sep sep wrap f
  close node

-- util.rs, `should_break`: its first test, equal precedence with unlike association
abbrev pub tie : Infix → Infix → Bool
tie op min = eqb op.prec min.prec && not (eqb op.assoc min.assoc)

-- util.rs, `should_break`: its `match`. The next name binds weaker than min, or as strong where min associates to the left.
abbrev pub weaker : Infix → Infix → Bool
weaker op min = elim (eqb min.assoc Left) [ true ↦ leb op.prec min.prec | false ↦ ltb op.prec min.prec ]

-- util.rs, `should_break`: 1 where the climb ends
unfoldable pub should_break : {g : Bool} → Infix → Infix → Prog Rule g
should_break op min =
    branch (tie op min) (do
      plain EK.SameFixityDiffAssoc
      ret 0)
    (branch (weaker op min) (ret 1) (ret 0))

-- util.rs: the kinds of `name_star_eq`, of `name_star` and of `ascription`
abbrev pub is_name_star_eq : ℕ → Bool
is_name_star_eq k = is k SK.Name || is k SK.Star || is k SK.Eq

abbrev pub is_name_star : ℕ → Bool
is_name_star k = is k SK.Name || is k SK.Star

abbrev pub is_ascription : ℕ → Bool
is_ascription k = is k SK.Colon || is k SK.ColonGt

-- util.rs, `eat_name_star`
unfoldable pub eat_name_star : {g : Bool} → Prog Rule g
eat_name_star = do
  k ← peek 0
  branch (is_name_star k) (do
    bump
    ret 1) (do
      expected (EK.Kind SK.Name)
      ret 0)

-- util.rs, `path`: the test in its loop. A part of the path ends; 1 where a dot was read, behind which the next part stands.
unfoldable pub part_end : {g : Bool} → Prog Rule g
part_end = do
  k ← peek 0
  if_kind k SK.Dot (do
    bump
    done SK.NameStarEqDot) (do
      close SK.NameStarEqDot
      ret 0)

-- util.rs, `path`: one turn of its loop behind a dot, the next part of the path
unfoldable pub path_part : {g : Bool} → Prog Rule g
path_part = marked (from (do
  eat_name_star
  part_end))

-- util.rs, `path`: its first part
unfoldable pub path_start : {g : Bool} → Prog Rule g
path_start = marked (from (do
  bump
  part_end))

-- util.rs, `path`: what it reads where a path starts
unfoldable pub path_here : {g : Bool} → Prog Rule g
path_here = marked (from (do
  v ← path_start
  if_none v (ret 0) (loop path_part)
  done SK.Path))

-- util.rs, `path`
unfoldable pub path : {g : Bool} → Prog Rule g
path = do
  k ← peek 0
  branch (is_name_star_eq k) path_here (ret 0)

-- util.rs, `path_must`
unfoldable pub path_must : {g : Bool} → Prog Rule g
path_must = do
  v ← path
  if_none v (do
    expected EK.Path
    ret 0) (ret 1)

-- util.rs, `path_infix`: its finding
unfoldable pub unnecessary_op : {g : Bool} → Prog Rule g
unnecessary_op = do
  k2 ← peek 2
  if_kind k2 SK.Dot (ret 0) (do
    k1 ← peek 1
    when (is_name_star_eq k1) (lookup 1 (plain EK.UnnecessaryOp) (λ _. ret 0)))

-- util.rs, `path_infix`, at an `op`
unfoldable pub path_infix : {g : Bool} → Prog Rule g
path_infix = do
  unnecessary_op
  eat SK.OpKw
  path_must

-- util.rs, `path_no_infix`: its finding
unfoldable pub without_op : {g : Bool} → Prog Rule g
without_op = do
  k1 ← peek 1
  if_kind k1 SK.Dot (ret 0) (do
    k ← peek 0
    when (is_name_star_eq k) (lookup 0 (ret 0) (λ _. do
      i ← look index
      error_at EK.InfixWithoutOp i)))

-- util.rs, `path_no_infix`
unfoldable pub path_no_infix : {g : Bool} → Prog Rule g
path_no_infix = do
  without_op
  path_must

-- ty.rs and dec.rs: `:` or `:>`, where it is next
unfoldable pub bump_ascription : {g : Bool} → Prog Rule g
bump_ascription = do
  k ← peek 0
  when (is_ascription k) bump

-- util.rs, `lab`: its kinds
abbrev pub is_label : ℕ → Bool
is_label k = is_name_star k || is k SK.IntLit

-- util.rs, `lab`
unfoldable pub lab : {g : Bool} → Prog Rule g
lab = do
  k ← peek 0
  branch (is_label k) bump (expected EK.Lab)
