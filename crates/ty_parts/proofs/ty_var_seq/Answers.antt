-- by tools/prove
use Rattle.grammar.specs.Ty as types
use Rattle.parser.specs.Runs.{ok_marks, small_len}
use Rattle.parser.specs.Plans.{plan, choose, chosen, by_steps, s_mark, s_shut, hushed, s_by, s_end}
use mathlib.Core.Path.{refl}
use Rattle.ty_parts.proofs.ty_var_seq.Goals as goal

pub refuse_for-requires : goal.refuse_for-requires
refuse_for-requires c =
    tt

pub returns-then-left-eq0 : goal.returns-then-left-eq0
unfolding types.ty_var_seq plan choose chosen hushed
returns-then-left-eq0 c =
    let pre0 = c.requires in
    let if1 = c.if-left-eq0.true in
    let refuse_for = c.refuse_for.ensures in
    by_steps pre0 (λ b. s_shut if1 refuse_for (λ k l. refl))

pub mark-s1-requires : goal.mark-s1-requires
mark-s1-requires c =
    tt

pub ty_vars-requires : goal.ty_vars-requires
ty_vars-requires c =
    let pre0 = c.requires in
    let mark = c.mark-s1.ensures in
    let mark_ok = ok_marks mark pre0 in
    (mark_ok, small_len mark_ok)

pub returns : goal.returns
unfolding types.ty_var_seq plan choose chosen
returns c =
    let pre0 = c.requires in
    let if1 = c.if-left-eq0.false in
    let mark = c.mark-s1.ensures in
    let ty_vars = c.ty_vars.ensures in
    by_steps pre0 (λ b. s_mark if1 mark (s_by _ ty_vars s_end))
