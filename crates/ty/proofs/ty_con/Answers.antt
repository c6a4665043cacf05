-- by tools/prove
use Rattle.grammar.specs.Ty as types
use Rattle.parser.specs.Runs.{runs_in, ok_marks, ok_state}
use Rattle.parser.specs.Plans.{plan, choose, chosen, in_steps, s_close, s_mark, s_shut, hushed, s_by, settled, s_end}
use mathlib.Core.Path.{refl}
use Rattle.ty.proofs.ty_con.Goals as goal

pub refuse_for-requires : goal.refuse_for-requires
refuse_for-requires c =
    tt

pub returns-then-left-eq0 : goal.returns-then-left-eq0
unfolding types.ty_con plan choose chosen hushed
returns-then-left-eq0 c =
    let pre0 = c.requires.0 in
    let if1 = c.if-left-eq0.true in
    let refuse_for = c.refuse_for.ensures in
    in_steps pre0 (s_shut if1 refuse_for (λ k l. refl))

pub mark-requires : goal.mark-requires
mark-requires c =
    tt

pub path_must-got-requires : goal.path_must-got-requires
path_must-got-requires c =
    let pre0 = c.requires.0 in
    let mark = c.mark.ensures in
    let mark_ok = ok_marks mark pre0 in
    mark_ok

pub either-s1-requires : goal.either-s1-requires
either-s1-requires c =
    tt

pub close_node-requires : goal.close_node-requires
close_node-requires c =
    let pre1 = c.requires.1 in
    let path_must = c.path_must-got.ensures in
    let path_must_ok = path_must.ok in
    let either = c.either-s1.ensures in
    let either_ok = ok_state either path_must_ok in
    (either_ok.logs, pre1)

pub returns : goal.returns
unfolding types.ty_con plan choose chosen
returns c =
    let pre0 = c.requires.0 in
    let if1 = c.if-left-eq0.false in
    let mark = c.mark.ensures in
    let path_must = c.path_must-got.ensures in
    let either = c.either-s1.ensures in
    let close_node = c.close_node.ensures in
    in_steps pre0 (s_mark if1 mark (s_by _ (settled either (runs_in path_must)) (s_close close_node s_end)))
