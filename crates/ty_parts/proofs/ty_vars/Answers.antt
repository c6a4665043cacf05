-- by tools/prove
use Rattle.grammar.specs.Ty as types
use Rattle.parser.specs.Runs.{kind_is, kind_not}
use Rattle.parser.specs.Plans.{plan, choose, chosen, in_steps, s_look, s_true, s_false, s_by, s_end}
use Rattle.ty_parts.proofs.ty_vars.Goals as goal

pub peek-requires : goal.peek-requires
peek-requires c =
    let pre0 = c.requires.0 in
    pre0.reads

pub returns-in_default : goal.returns-in_default
unfolding types.ty_vars plan choose chosen
returns-in_default c =
    let pre0 = c.requires.0 in
    let peek = c.in_default.ensures in
    in_steps pre0 (s_look peek s_end)

pub var_one-requires : goal.var_one-requires
var_one-requires c =
    let pre0 = c.requires.0 in
    let pre1 = c.requires.1 in
    (pre0, pre1)

pub returns-then-k-eq-TY_VAR : goal.returns-then-k-eq-TY_VAR
unfolding types.ty_vars plan choose chosen
returns-then-k-eq-TY_VAR c =
    let pre0 = c.requires.0 in
    let peek = c.in-Some.ensures in
    let if1 = c.if-k-eq-TY_VAR.true in
    let var_one = c.var_one.ensures in
    in_steps pre0 (s_look peek (s_true _ _ (kind_is if1) (s_by _ var_one s_end)))

pub var_many-requires : goal.var_many-requires
var_many-requires c =
    let pre0 = c.requires.0 in
    let pre1 = c.requires.1 in
    (pre0, pre1)

pub returns-then-k-eq-LROUND : goal.returns-then-k-eq-LROUND
unfolding types.ty_vars plan choose chosen
returns-then-k-eq-LROUND c =
    let pre0 = c.requires.0 in
    let peek = c.in-Some.ensures in
    let if1 = c.if-k-eq-TY_VAR.false in
    let if2 = c.if-k-eq-LROUND.true in
    let var_many = c.var_many.ensures in
    in_steps pre0 (s_look peek (s_false _ _ (kind_not if1) (s_true _ _ (kind_is if2) (s_by _ var_many s_end))))

pub returns : goal.returns
unfolding types.ty_vars plan choose chosen
returns c =
    let pre0 = c.requires.0 in
    let peek = c.in-Some.ensures in
    let if1 = c.if-k-eq-TY_VAR.false in
    let if2 = c.if-k-eq-LROUND.false in
    in_steps pre0 (s_look peek (s_false _ _ (kind_not if1) (s_false _ _ (kind_not if2) s_end)))
