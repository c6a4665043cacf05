-- Progress of the rules: each takes a token or is refused unless it gives 0, and so does each turn of their loops.
use Rattle.std.specs.Prelude.{ℕ, ◌≡◌, refl, Bool, eqb}
use Rattle.std.proofs.Math.Option.{Option}
use Rattle.std.proofs.Math.Bool.{true, false}
use Rattle.grammar.specs.Env as Env
use Rattle.grammar.specs.World.{World, Out}
use Rattle.grammar.specs.Prog.{Prog, ◌>>◌, eval, rule}
use Rattle.grammar.specs.Prog.Prog.{ret, branch, call}
use Rattle.grammar.specs.Rule.{Rule, PatPrec, InfixErr, ExpPrec}
use Rattle.grammar.specs.Rule.Rule.{ty_prec, pat_prec, exp_prec, dec, str_exp, sig_exp}
use Rattle.grammar.specs.Util as U
use Rattle.grammar.specs.Ty as T
use Rattle.grammar.specs.Pat as P
use Rattle.grammar.specs.Exp as E
use Rattle.grammar.specs.Dec as D
use Rattle.grammar.specs.Root as Root
use Rattle.grammar.specs.SyntaxKind as SK
use Rattle.laws.specs.Grows.{Growing, rule_grows}
use Rattle.laws.specs.Moves.{Moves, Idle, Advances, moving, moves_turn, moves_cases, moves_branch, moves_bind, moves_from, Opaque, When, advances, rule_advances}
use Rattle.laws.specs.Moves.Opaque.{opaque}
use Rattle.laws.specs.Moves.Test.{test}

-- Where the rules that are called advance, so do the programs. A lemma for every K is of a part of a larger program:
-- with `K 0` it takes a token unless it gives 0; with a test of the kind k of the next token it takes one where the test holds.
module _ (ρ : ℕ → ℕ → Rule → World → Out) (grows : Growing ρ) (adv : (m c : ℕ) (r : Rule) → Advances (ρ m c r)) where
  path_moves : {g : Bool} (n k : ℕ) (K : ℕ → Type 0) → K 0 → Moves {g = g} ρ n U.path k K
  unfolding U.path U.part_end U.path_part U.eat_name_star U.path_start U.path_here
  path_moves n k K z = search moving depth 14

  path_part_lem : {g : Bool} (n k : ℕ) → Moves {g = g} ρ n U.path_part k Idle
  unfolding U.path_part U.part_end U.eat_name_star
  path_part_lem n k = search moving depth 40

  -- a path takes a token where one of its kinds is next: by cases of the kind, and as the searches use it
  path_when : {g : Bool} (n k : ℕ) (K : ℕ → Type 0) → When (U.is_name_star_eq k) (Moves {g = g} ρ n U.path k K)
  unfolding U.path U.part_end U.path_part U.eat_name_star U.path_start U.path_here
  path_when n k K = search moving depth 16

  path_takes : {g : Bool} (n k : ℕ) (K : ℕ → Type 0) → U.is_name_star_eq k ≡ true → Moves {g = g} ρ n U.path k K
  path_takes n k K = (path_when n k K).holds

  must_takes : {g : Bool} (n k : ℕ) (K : ℕ → Type 0) → U.is_name_star_eq k ≡ true → Moves {g = g} ρ n U.path_must k K
  unfolding U.path_must
  must_takes n k K z = search (moving, path_takes) depth 14

  -- a turn goes on only behind a separator, whatever f does
  end_turn_lem : {g : Bool} (n : ℕ) (wrap sep end : ℕ) (f : Prog Rule true) (k : ℕ) → Moves {g = g} ρ n (U.end_turn wrap sep end f) k Idle
  unfolding U.end_turn U.eat U.end_item
  end_turn_lem n wrap sep end f k = search (moving, opaque f) depth 40 fits 10000

  many_turn_lem : {g : Bool} (n : ℕ) (sep wrap : ℕ) (f : Prog Rule true) (k : ℕ) → Moves {g = g} ρ n (U.many_turn sep wrap f) k Idle
  unfolding U.many_turn
  many_turn_lem n sep wrap f k = search (moving, opaque f) depth 16

  star_turn_lem : (n : ℕ) (k : ℕ) → Moves ρ n T.star_turn k Idle
  unfolding T.star_turn T.ty_must T.star_factor
  star_turn_lem n k = search moving depth 14

  star_takes : (n k : ℕ) (K : ℕ → Type 0) → U.is k SK.Star ≡ true → Moves ρ n T.star_turn k K
  unfolding T.star_turn T.ty_must T.star_factor
  star_takes n k K z = search moving depth 14

  ty_step_lem : (n : ℕ) (k min : ℕ) → Moves ρ n (T.ty_step min) k Idle
  unfolding T.ty_step T.ty_arrow T.ty_tuple T.ty_con
  ty_step_lem n k min = search (moving, moves_turn, star_takes, must_takes) depth 20

  ty_scope_lem : (n : ℕ) (k min : ℕ) → Moves ρ n (T.ty_scope min) k Idle
  unfolding T.ty_scope T.ty_head T.ty_seq T.ty_arg T.ty_inner T.ty_round
  ty_scope_lem n k min = search (moving, must_takes) depth 24

  con_path_lem : {g : Bool} (n k : ℕ) (e : InfixErr) (K : ℕ → Type 0) → U.is_name_star_eq k ≡ true → Moves {g = g} ρ n (P.con_path e) k K
  unfolding P.con_path U.path_no_infix U.without_op
  con_path_lem n k e K z = search (moving, path_takes, must_takes) depth 24

  path_infix_lem : {g : Bool} (n k : ℕ) (K : ℕ → Type 0) → U.is k SK.OpKw ≡ true → Moves {g = g} ρ n U.path_infix k K
  unfolding U.path_infix U.eat U.unnecessary_op
  path_infix_lem n k K z = search moving depth 24

  at_pat_lem : {g : Bool} (n : ℕ) (k : ℕ) (e : InfixErr) (K : ℕ → Type 0) → K 0 → Moves {g = g} ρ n (P.at_pat e) k K
  unfolding P.at_pat P.at_pat_head P.at_pat_rest
  at_pat_lem n k e K z = search (moving, path_infix_lem, con_path_lem) depth 30

  pat_step_lem : (n : ℕ) (k : ℕ) (e : InfixErr) (min : PatPrec) → Moves ρ n (P.pat_step min e) k Idle
  unfolding P.pat_step P.op_step P.or_step P.typed_step P.as_step P.infix_pat P.as_pat_tl P.pat_must
  pat_step_lem n k e min = search (moving, breaks, test (P.is_min min), test (P.is_infix min)) depth 40 fits 10000
    where
      breaks : (op : Env.Infix) → Opaque {g = false} (P.should_break_pat op min)
      breaks op = opaque (P.should_break_pat op min)

  pat_scope_lem : (n : ℕ) (k : ℕ) (e : InfixErr) (min : PatPrec) → Moves ρ n (P.pat_scope min e) k Idle
  unfolding P.pat_scope P.con_pat P.con_head P.con_name P.atom_pat P.pat_tail
  pat_scope_lem n k e min = search (moving, path_infix_lem, con_path_lem, at_pat_lem) depth 24

  path_no_infix_lem : {g : Bool} (n k : ℕ) (K : ℕ → Type 0) → U.is_name_star_eq k ≡ true → Moves {g = g} ρ n U.path_no_infix k K
  unfolding U.path_no_infix U.without_op
  path_no_infix_lem n k K z = search (moving, must_takes) depth 24

  -- an application takes a token where an argument starts, or a name is next: by cases of the kind, and as the searches use it
  app_arg : {g : Bool} (n k : ℕ) (K : ℕ → Type 0) → When (E.is_arg k) (Moves {g = g} ρ n E.app_exp k K)
  unfolding E.app_exp E.at_exp_must E.at_exp E.at_exp_head E.record_start E.at_exp_leaf E.op_exp E.hash_exp E.let_exp
  app_arg n k K = search (moving, path_infix_lem) depth 40 fits 10000

  app_name : {g : Bool} (n k : ℕ) (K : ℕ → Type 0) → When (U.is_name_star_eq k) (Moves {g = g} ρ n E.app_exp k K)
  unfolding E.app_exp E.at_exp_must E.at_exp E.at_exp_head E.record_start E.at_exp_leaf E.op_exp E.hash_exp E.let_exp
  app_name n k K = search (moving, path_infix_lem, path_no_infix_lem) depth 40 fits 10000

  app_takes_arg : {g : Bool} (n k : ℕ) (K : ℕ → Type 0) → E.is_arg k ≡ true → Moves {g = g} ρ n E.app_exp k K
  app_takes_arg n k K = (app_arg n k K).holds

  app_takes_name : {g : Bool} (n k : ℕ) (K : ℕ → Type 0) → U.is_name_star_eq k ≡ true → Moves {g = g} ρ n E.app_exp k K
  app_takes_name n k K = (app_name n k K).holds

  -- the last case of `exp_step`: its test has the cases of `is_arg`, which are taken apart once, in `app_arg`
  arg_step : (n : ℕ) (k : ℕ) → Moves {g = false} ρ n (branch (E.is_arg k) (E.app_exp >> ret 1) (ret 0)) k Idle
  arg_step n k = moves_branch (E.is_arg k) (record { holds = λ e. moves_bind grows (app_takes_arg n k _ e) }) (λ _. search moving)

  exp_step_lem : (n : ℕ) (k : ℕ) (min : ExpPrec) → Moves ρ n (E.exp_step min) k Idle
  unfolding E.exp_step E.name_step E.climb
  exp_step_lem n k min = search (moving, breaks, arg_step, app_takes_name) depth 40 fits 10000
    where
      breaks : (v : E.Verdict) → Opaque {g = false} (E.decide v)
      breaks v = opaque (E.decide v)

  at_exp_lem : {g : Bool} (n k : ℕ) (K : ℕ → Type 0) → K 0 → Moves {g = g} ρ n E.at_exp k K
  unfolding E.at_exp E.at_exp_head E.record_start E.at_exp_leaf E.op_exp E.hash_exp E.let_exp
  at_exp_lem n k K z = search (moving, path_infix_lem, path_no_infix_lem) depth 40 fits 10000

  exp_scope_lem : (n : ℕ) (k : ℕ) (min : ExpPrec) → Moves ρ n (E.exp_scope min) k Idle
  unfolding E.exp_scope E.exp_rest E.exp_head E.keyword E.need_parens
  exp_scope_lem n k min = search (moving, at_exp_lem) depth 40 fits 10000

  -- where what is wrapped takes a token unless it gives 0, so does a turn, and so does the whole
  semi_turn_lem : {g : Bool} (wrap : ℕ) (f : Prog Rule true) → ((n k : ℕ) (K : ℕ → Type 0) → K 0 → Moves ρ n f k K)
      → (n k : ℕ) (K : ℕ → Type 0) → K 0 → Moves {g = g} ρ n (U.semi_turn wrap f) k K
  unfolding U.semi_turn
  semi_turn_lem wrap f h n k K z = search (moving, h) depth 40 fits 10000

  semi_sep : {g : Bool} (wrap : ℕ) (f : Prog Rule true) → ((n k : ℕ) (K : ℕ → Type 0) → K 0 → Moves ρ n f k K)
      → (n k : ℕ) (K : ℕ → Type 0) → K 0 → Moves {g = g} ρ n (U.maybe_semi_sep wrap f) k K
  unfolding U.maybe_semi_sep
  semi_sep {g} wrap f h n k K z = search (moving, semi_turn_lem {g = g} wrap f h) depth 40 fits 10000

  -- the parts of `dec_one`
  fix_dec_lem : (k : ℕ) (K : ℕ → Type 0) (n : ℕ) → K 0 → Moves ρ n (D.fix_dec k) k K
  unfolding D.fix_dec D.infix_dec D.infixr_dec D.nonfix_dec D.es_import
  fix_dec_lem k K n z = search moving depth 40 fits 10000

  leaf_dec_lem : (k : ℕ) (K : ℕ → Type 0) (n : ℕ) → K 0 → Moves ρ n (D.leaf_dec k) k K
  unfolding D.leaf_dec D.datatype
  leaf_dec_lem k K n z = search (moving, fix_dec_lem) depth 40 fits 10000

  other_dec_lem : (k : ℕ) (e : InfixErr) (K : ℕ → Type 0) (n : ℕ) → K 0 → Moves ρ n (D.other_dec k e) k K
  unfolding D.other_dec D.abstype_head D.local_dec
  other_dec_lem k e K n z = search moving depth 40 fits 10000

  module_dec_lem : (k : ℕ) (e : InfixErr) (K : ℕ → Type 0) (n : ℕ) → K 0 → Moves ρ n (D.module_dec k e) k K
  unfolding D.module_dec
  module_dec_lem k e K n z = search (moving, other_dec_lem) depth 40 fits 10000

  core_dec_lem : (k : ℕ) (e : InfixErr) (K : ℕ → Type 0) (n : ℕ) → K 0 → Moves ρ n (D.core_dec k e) k K
  unfolding D.core_dec D.bump_vars
  core_dec_lem k e K n z = search (moving, module_dec_lem) depth 40 fits 10000

  dec_one_lem : {g : Bool} (e : InfixErr) (n k : ℕ) (K : ℕ → Type 0) → K 0 → Moves {g = g} ρ n (D.dec_one e) k K
  unfolding D.dec_one D.dec_head
  dec_one_lem e n k K z = search (moving, core_dec_lem, leaf_dec_lem) depth 40 fits 10000

  share_turn : {g : Bool} (n k : ℕ) → Moves {g = g} ρ n D.sharing_turn k Idle
  unfolding D.sharing_turn
  share_turn n k = search moving depth 40

  share_takes : {g : Bool} (n k : ℕ) (K : ℕ → Type 0) → U.is k SK.SharingKw ≡ true → Moves {g = g} ρ n D.sharing_turn k K
  unfolding D.sharing_turn
  share_takes n k K z = search moving depth 40

  -- where `sharing` is next the tail takes a token, whatever the declarations before it did
  dec_tail : {g : Bool} (e : InfixErr) (n k : ℕ) (K : ℕ → Type 0) → K 0 → Moves {g = g} ρ n (D.dec_with_tail e) k K
  unfolding D.dec_with_tail D.bare_tail D.full_tail D.sharings
  dec_tail e n k K z = moves_cases (U.is k SK.SharingKw)
      (search (moving, semi_sep {g = true} SK.DecInSeq (D.dec_one e) (dec_one_lem e), moves_turn, share_takes) depth 40 fits 10000)
      (λ h. search (moving, semi_sep {g = true} SK.DecInSeq (D.dec_one e) (dec_one_lem e)) depth 40 fits 10000)

  -- what a kind of node names moves, whichever it is
  semi_closure_lem : (wrap : ℕ) (e : InfixErr) (n k : ℕ) (K : ℕ → Type 0) → K 0 → Moves ρ n (D.semi_closure wrap e) k K
  unfolding D.semi_closure U.choose
  semi_closure_lem wrap e n k K z = go (eqb wrap SK.Dec)
    where
      go : (t : Bool) → Moves {g = true} ρ n (U.choose t (D.dec_with_tail e) (D.dec_one e)) k K
      go true = dec_tail e n k K z
      go false = dec_one_lem e n k K z

  decs : (e : InfixErr) (n k : ℕ) → Moves {g = false} ρ n (D.decs e) k Idle
  unfolding D.decs
  decs e n k = moves_from (semi_sep SK.Dec (D.dec_with_tail e) (dec_tail e) n k Idle refl)

  names_turn_lem : (c : Option Env.Infix) (n k : ℕ) → Moves ρ n (D.names_turn c) k Idle
  unfolding D.names_turn
  names_turn_lem c n k = search moving depth 14

  attr_turn_lem : (n k : ℕ) → Moves ρ n D.attr_turn k Idle
  unfolding D.attr_turn
  attr_turn_lem n k = search moving depth 14

  str_step_lem : (n k : ℕ) → Moves ρ n D.str_step k Idle
  unfolding D.str_step D.ascription_tail
  str_step_lem n k = search moving depth 40 fits 10000

  str_scope_lem : (n k : ℕ) → Moves ρ n D.str_scope k Idle
  unfolding D.str_scope D.str_head D.str_app D.app_start D.str_path
  str_scope_lem n k = search (moving, must_takes) depth 40 fits 10000

  sig_step_lem : (n k : ℕ) → Moves ρ n D.sig_step k Idle
  unfolding D.sig_step
  sig_step_lem n k = search moving depth 40 fits 10000

  sig_scope_lem : (n k : ℕ) → Moves ρ n D.sig_scope k Idle
  unfolding D.sig_scope D.sig_head D.wheres
  sig_scope_lem n k = search moving depth 40 fits 10000

  root_turn_lem : (n k : ℕ) → Moves ρ n Root.root_turn k Idle
  unfolding Root.root_turn
  root_turn_lem n k = search moving depth 40 fits 10000

  -- the body of each rule
  body_moves : (n k : ℕ) (r : Rule) → Moves ρ n (Root.body r) k Idle
  unfolding Root.body
  body_moves n k (ty_prec min) = moves_from (ty_scope_lem n k min)
  body_moves n k (pat_prec min e) = moves_from (pat_scope_lem n k e min)
  body_moves n k (exp_prec min) = moves_from (exp_scope_lem n k min)
  body_moves n k (dec e) = decs e n k
  body_moves n k str_exp = moves_from (str_scope_lem n k)
  body_moves n k sig_exp = moves_from (sig_scope_lem n k)

-- each rule takes a token or is refused, unless it gives 0
pub rules_advance : (n b : ℕ) (r : Rule) → Advances (rule Root.body n b r)
rules_advance n b r = rule_advances Root.body (λ _. Unit {0}) (λ ρ grows adv n k r _. body_moves ρ grows (λ m c r. adv m c r tt) n k r) n b r tt

-- A program that moves unless it gives 0, whatever the rules do, advances.
turns : {g : Bool} (p : Prog Rule g)
    → ((ρ : ℕ → ℕ → Rule → World → Out) → Growing ρ → ((m c : ℕ) (r : Rule) → Advances (ρ m c r)) → (n k : ℕ) → Moves ρ n p k Idle)
    → (n b : ℕ) → Advances (eval (rule Root.body) n b p)
turns p h n b = advances (rule_grows Root.body) (h (rule Root.body) (rule_grows Root.body) rules_advance n) b

-- and so do the turns of the loops
module _ (g : Bool) where
  pub path_part_advances : (n b : ℕ) → Advances (eval (rule Root.body) n b (U.path_part {g = g}))
  path_part_advances = turns U.path_part (λ ρ grows adv n k. path_part_lem ρ grows adv n k)

  pub path_advances : (n b : ℕ) → Advances (eval (rule Root.body) n b (U.path {g = g}))
  path_advances = turns U.path (λ ρ grows adv n k. path_moves ρ grows adv n k Idle refl)

  pub end_turn_advances : (wrap sep end : ℕ) (f : Prog Rule true) (n b : ℕ) → Advances (eval (rule Root.body) n b (U.end_turn {g = g} wrap sep end f))
  end_turn_advances wrap sep end f = turns (U.end_turn wrap sep end f) (λ ρ grows adv n. end_turn_lem ρ grows adv n wrap sep end f)

  pub many_turn_advances : (sep wrap : ℕ) (f : Prog Rule true) (n b : ℕ) → Advances (eval (rule Root.body) n b (U.many_turn {g = g} sep wrap f))
  many_turn_advances sep wrap f = turns (U.many_turn sep wrap f) (λ ρ grows adv n. many_turn_lem ρ grows adv n sep wrap f)

  pub at_pat_advances : (e : InfixErr) (n b : ℕ) → Advances (eval (rule Root.body) n b (P.at_pat {g = g} e))
  at_pat_advances e = turns (P.at_pat e) (λ ρ grows adv n k. at_pat_lem ρ grows adv n k e Idle refl)

  pub dec_turn_advances : (e : InfixErr) (n b : ℕ) → Advances (eval (rule Root.body) n b (U.semi_turn {g = g} SK.Dec (D.dec_with_tail e)))
  dec_turn_advances e = turns (U.semi_turn SK.Dec (D.dec_with_tail e)) (λ ρ grows adv n k. semi_turn_lem ρ grows adv SK.Dec (D.dec_with_tail e) (dec_tail ρ grows adv e) n k Idle refl)

  pub dec_one_advances : (e : InfixErr) (n b : ℕ) → Advances (eval (rule Root.body) n b (U.semi_turn {g = g} SK.DecInSeq (D.dec_one e)))
  dec_one_advances e = turns (U.semi_turn SK.DecInSeq (D.dec_one e)) (λ ρ grows adv n k. semi_turn_lem ρ grows adv SK.DecInSeq (D.dec_one e) (dec_one_lem ρ grows adv e) n k Idle refl)

  pub semi_turn_advances : (wrap : ℕ) (e : InfixErr) (n b : ℕ) → Advances (eval (rule Root.body) n b (U.semi_turn {g = g} wrap (D.semi_closure wrap e)))
  semi_turn_advances wrap e = turns (U.semi_turn wrap (D.semi_closure wrap e)) (λ ρ grows adv n k. semi_turn_lem ρ grows adv wrap (D.semi_closure wrap e) (semi_closure_lem ρ grows adv wrap e) n k Idle refl)

  pub sharing_advances : (n b : ℕ) → Advances (eval (rule Root.body) n b (D.sharing_turn {g = g}))
  sharing_advances = turns D.sharing_turn (λ ρ grows adv n k. share_turn ρ grows adv n k)

pub star_advances : (n b : ℕ) → Advances (eval (rule Root.body) n b T.star_turn)
star_advances = turns T.star_turn star_turn_lem

pub ty_step_advances : (min n b : ℕ) → Advances (eval (rule Root.body) n b (T.ty_step min))
ty_step_advances min = turns (T.ty_step min) (λ ρ grows adv n k. ty_step_lem ρ grows adv n k min)

pub pat_step_advances : (min : PatPrec) (e : InfixErr) (n b : ℕ) → Advances (eval (rule Root.body) n b (P.pat_step min e))
pat_step_advances min e = turns (P.pat_step min e) (λ ρ grows adv n k. pat_step_lem ρ grows adv n k e min)

pub exp_step_advances : (min : ExpPrec) (n b : ℕ) → Advances (eval (rule Root.body) n b (E.exp_step min))
exp_step_advances min = turns (E.exp_step min) (λ ρ grows adv n k. exp_step_lem ρ grows adv n k min)

pub names_turn_advances : (c : Option Env.Infix) (n b : ℕ) → Advances (eval (rule Root.body) n b (D.names_turn c))
names_turn_advances c = turns (D.names_turn c) (λ ρ grows adv n k. names_turn_lem ρ grows adv c n k)

pub attr_turn_advances : (n b : ℕ) → Advances (eval (rule Root.body) n b D.attr_turn)
attr_turn_advances = turns D.attr_turn attr_turn_lem

pub str_step_advances : (n b : ℕ) → Advances (eval (rule Root.body) n b D.str_step)
str_step_advances = turns D.str_step str_step_lem

pub sig_step_advances : (n b : ℕ) → Advances (eval (rule Root.body) n b D.sig_step)
sig_step_advances = turns D.sig_step sig_step_lem

pub sig_exp_advances : (n b : ℕ) → Advances (eval (rule Root.body) n b (call sig_exp))
unfolding eval
sig_exp_advances n b = rules_advance n b sig_exp

pub root_turn_advances : (n b : ℕ) → Advances (eval (rule Root.body) n b Root.root_turn)
root_turn_advances = turns Root.root_turn root_turn_lem
