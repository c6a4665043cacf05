-- by tools/prove
use Rattle.grammar.specs.Util as util
use Rattle.grammar.specs.Ty as types
use Rattle.parser.specs.Runs.{kind_at, kind_off, ok_bumps}
use Rattle.parser.specs.Plans.{plan, choose, chosen, in_steps, s_kind, s_true, s_false, s_bump, s_close, s_run, s_end}
use Rattle.ty_parts.proofs.var_many.Goals as goal

pub at_n-requires : goal.at_n-requires
at_n-requires c =
    let pre0 = c.requires.0 in
    pre0.reads

pub bump-s1-requires : goal.bump-s1-requires
bump-s1-requires c =
    let pre0 = c.requires.0 in
    (pre0.reads, pre0.logs)

pub var_args-s2-requires : goal.var_args-s2-requires
var_args-s2-requires c =
    let pre0 = c.requires.0 in
    let pre1 = c.requires.1 in
    let bump = c.bump-s1.ensures in
    let bump_ok = ok_bumps bump pre0 in
    (bump_ok, pre1)

pub close_node-requires : goal.close_node-requires
close_node-requires c =
    let pre1 = c.requires.1 in
    let var_args = c.var_args-s2.ensures in
    let var_args_ok = var_args.ok in
    (var_args_ok.logs, pre1)

pub returns-then-at_n : goal.returns-then-at_n
unfolding types.ty_var_many util.end_sep plan choose chosen
returns-then-at_n c =
    let pre0 = c.requires.0 in
    let at_n = c.at_n.ensures in
    let if1 = c.if-at_n.true in
    let bump = c.bump-s1.ensures in
    let var_args = c.var_args-s2.ensures in
    let close_node = c.close_node.ensures in
    in_steps pre0 (s_kind (s_true _ _ (kind_at _ _ _ _ at_n if1) (s_bump bump (s_run var_args (s_close close_node s_end)))))

pub returns : goal.returns
unfolding types.ty_var_many util.end_sep plan choose chosen
returns c =
    let pre0 = c.requires.0 in
    let at_n = c.at_n.ensures in
    let if1 = c.if-at_n.false in
    in_steps pre0 (s_kind (s_false _ _ (kind_off _ _ _ _ at_n if1) s_end))
