-- That every rule but `dec` keeps the environment.
use Rattle.std.specs.Prelude.{ℕ, Bool, true, false}
use Rattle.grammar.specs.Env as Env
use Rattle.grammar.specs.Prog.{Prog, rule}
use Rattle.grammar.specs.Rule.{Rule, PatPrec, InfixErr, ExpPrec}
use Rattle.grammar.specs.Rule.Rule.{ty_prec, pat_prec, exp_prec, dec, str_exp, sig_exp}
use Rattle.grammar.specs.Util as U
use Rattle.grammar.specs.Ty as T
use Rattle.grammar.specs.Pat as P
use Rattle.grammar.specs.Exp as E
use Rattle.grammar.specs.Dec as D
use Rattle.grammar.specs.Root as Root
use Rattle.laws.specs.Keeps.{Keeps}
use Rattle.laws.specs.Scopes.{Still, SameEnv, stills, rule_env}
use Rattle.laws.specs.Scopes.Still.{still_from}

-- the rules that keep the environment: all but `dec`
abbrev pub Kind : Rule → Type 0
Kind (ty_prec min) = Unit {0}
Kind (pat_prec min e) = Unit {0}
Kind (exp_prec min) = Unit {0}
Kind (dec e) = ⊥
Kind str_exp = Unit {0}
Kind sig_exp = Unit {0}

-- The programs of which the bodies of these rules are made: none makes a fixity change outside of a scope, or calls `dec` there.
eat_still : {g : Bool} (k : ℕ) → Still Kind g (U.eat k)
unfolding U.eat
eat_still k = search stills depth 40

want_still : {g : Bool} (k : ℕ) → Still Kind g (U.want k)
unfolding U.want
want_still k = search (stills, eat_still) depth 40

path_still : {g : Bool} → Still Kind g U.path
unfolding U.path U.part_end U.path_part U.eat_name_star U.path_start U.path_here
path_still = search stills depth 40

must_still : {g : Bool} → Still Kind g U.path_must
unfolding U.path_must
must_still = search (stills, path_still) depth 40

infix_still : {g : Bool} → Still Kind g U.path_infix
unfolding U.path_infix U.unnecessary_op
infix_still = search (stills, must_still, eat_still) depth 40

no_infix_still : {g : Bool} → Still Kind g U.path_no_infix
unfolding U.path_no_infix U.without_op
no_infix_still = search (stills, must_still) depth 40

-- a list is still where what it lists is
end_still : {g : Bool} (wrap sep end : ℕ) (f : Prog Rule true) → Still Kind true f → Still Kind g (U.end_sep wrap sep end f)
unfolding U.end_sep U.end_turn U.end_item
end_still wrap sep end f h = search (stills, eat_still) depth 40

many_still : {g : Bool} (sep wrap : ℕ) (f : Prog Rule true) → Still Kind true f → Still Kind g (U.many_sep sep wrap f)
unfolding U.many_sep U.many_turn
many_still sep wrap f h = search stills depth 40

ty_still : (min : ℕ) → Still Kind true (T.ty_must min)
unfolding T.ty_must
ty_still min = search stills depth 40

ty_scope_still : (min : ℕ) → Still Kind false (T.ty_scope min)
unfolding T.ty_scope T.ty_head T.ty_seq T.ty_step T.star_turn T.ty_row U.lab T.ty_arg U.bump_ascription T.ty_inner T.ty_round T.ty_arrow T.ty_tuple T.ty_con T.star_factor
ty_scope_still min = search (stills, eat_still, must_still, end_still, ty_still) depth 60 fits 10000

pat_still : (min : PatPrec) (e : InfixErr) → Still Kind true (P.pat_must min e)
unfolding P.pat_must
pat_still min e = search stills depth 40

row_still : (e : InfixErr) → Still Kind true (P.pat_row e)
unfolding P.pat_row U.lab U.eat_name_star T.ty_annotation P.as_pat_tl
row_still e = search (stills, eat_still, ty_still, pat_still) depth 40

con_still : {g : Bool} (e : InfixErr) → Still Kind g (P.con_path e)
unfolding P.con_path
con_still e = search (stills, no_infix_still, path_still) depth 40

at_pat_still : {g : Bool} (e : InfixErr) → Still Kind g (P.at_pat e)
unfolding P.at_pat P.at_pat_head P.at_pat_rest P.at_pat_l_round P.pat_arg P.vector
at_pat_still e = search (stills, eat_still, infix_still, con_still, end_still, row_still, pat_still) depth 60 fits 10000

break_still : {g : Bool} (op min : Env.Infix) → Still Kind g (U.should_break op min)
unfolding U.should_break
break_still op min = search stills depth 40

break_pat_still : {g : Bool} (op : Env.Infix) (min : PatPrec) → Still Kind g (P.should_break_pat op min)
unfolding P.should_break_pat
break_pat_still op PatPrec.Min = search stills
break_pat_still op PatPrec.Or = search stills
break_pat_still op (PatPrec.Infix min) = break_still op min

pat_scope_still : (min : PatPrec) (e : InfixErr) → Still Kind false (P.pat_scope min e)
unfolding P.pat_scope P.con_pat P.con_head P.con_name P.con_turn P.con_op P.at_pat_must P.atom_pat P.pat_tail P.op_tail P.infix_pat P.pat_step P.op_step P.or_step P.typed_step P.as_step P.as_pat_tl
pat_scope_still min e = search (stills, infix_still, con_still, at_pat_still, break_pat_still, pat_still, ty_still) depth 60 fits 10000

exp_still : (min : ExpPrec) → Still Kind true (E.exp_must min)
unfolding E.exp_must
exp_still min = search stills depth 40

match_still : {g : Bool} → Still Kind g E.matcher
unfolding E.matcher U.many_sep_node U.bump_if E.arm E.want_exp
match_still = search (stills, many_still, want_still, exp_still) depth 40 fits 10000

at_exp_still : {g : Bool} → Still Kind g E.at_exp
unfolding E.at_exp E.at_exp_head E.at_exp_leaf E.at_exp_l_round E.paren_end E.op_exp E.record_start E.record_update E.update_path E.exp_row E.hash_exp E.let_exp E.let_body E.eq_exp U.end_sep_node U.lab
at_exp_still = search (stills, infix_still, no_infix_still, end_still, exp_still) depth 60 fits 10000

-- one case for each verdict
decide_still : {g : Bool} (v : E.Verdict) → Still Kind g (E.decide v)
unfolding E.decide
decide_still E.unreachable = search stills depth 10
decide_still E.goes_on = search stills
decide_still E.ends = search stills
decide_still (E.infixes op min) = break_still op min

exp_scope_still : (min : ExpPrec) → Still Kind false (E.exp_scope min)
unfolding E.exp_scope E.exp_rest E.exp_head E.keyword E.need_parens E.keyed E.want_exp E.exp_step E.name_step E.climb E.right_side E.app_exp E.at_exp_must
exp_scope_still min = search (stills, at_exp_still, decide_still, exp_still, ty_still, match_still, want_still) depth 60 fits 10000

str_scope_still : Still Kind false D.str_scope
unfolding D.str_scope D.str_head D.str_app D.app_start D.ended D.str_path D.str_let D.str_must D.str_step D.ascription_tail D.sig_must
str_scope_still = search (stills, want_still, must_still) depth 60 fits 10000

var_seq_still : {g : Bool} → Still Kind g T.ty_var_seq
unfolding T.ty_var_seq T.ty_vars T.ty_var_one T.ty_var_many
var_seq_still = search (stills, end_still, eat_still) depth 40

sig_scope_still : Still Kind false D.sig_scope
unfolding D.sig_scope D.sig_head D.ended D.wheres D.sig_step D.where_tail
sig_scope_still = search (stills, want_still, must_still, var_seq_still, ty_still) depth 60 fits 10000

-- the body of each of these rules
body_still : (r : Rule) → Kind r → Still Kind false (Root.body r)
unfolding Root.body
body_still (ty_prec min) _ = still_from (ty_scope_still min)
body_still (pat_prec min e) _ = still_from (pat_scope_still min e)
body_still (exp_prec min) _ = still_from (exp_scope_still min)
body_still (dec e) c = absurd c
body_still str_exp _ = still_from str_scope_still
body_still sig_exp _ = still_from sig_scope_still

-- types, patterns, expressions, structures and signatures keep the environment
pub rules_env : (n b : ℕ) (r : Rule) → Kind r → Keeps SameEnv (rule Root.body n b r)
rules_env = rule_env Kind Root.body body_still
