-- by tools/prove
use Rattle.grammar.specs.Pat as pats
use Rattle.grammar.specs.Dec as decl
use Rattle.parser.specs.Runs.{ok_marks, ok_refused, small_len}
use Rattle.parser.specs.Plans.{plan, choose, chosen, by_steps, s_mark, s_deep, s_by, s_run, s_end}
use Rattle.fun_parts.proofs.fun_left.Goals as goal

pub refuse_for-s1-requires : goal.refuse_for-s1-requires
refuse_for-s1-requires c =
    tt

pub at_pats-requires : goal.at_pats-requires
at_pats-requires c =
    let pre0 = c.requires in
    let refuse_for = c.refuse_for-s1.ensures in
    let refuse_for_ok = ok_refused _ refuse_for pre0 in
    refuse_for_ok

pub returns-then-left-eq0 : goal.returns-then-left-eq0
unfolding decl.fun_left plan choose chosen
returns-then-left-eq0 c =
    let pre0 = c.requires in
    let if1 = c.if-left-eq0.true in
    let refuse_for = c.refuse_for-s1.ensures in
    let at_pats = c.at_pats.ensures in
    by_steps pre0 (λ b. s_deep if1 refuse_for (s_run at_pats s_end))

pub mark-s1-requires : goal.mark-s1-requires
mark-s1-requires c =
    tt

pub fun_head-head-requires : goal.fun_head-head-requires
fun_head-head-requires c =
    let pre0 = c.requires in
    let mark = c.mark-s1.ensures in
    let mark_ok = ok_marks mark pre0 in
    (mark_ok, small_len mark_ok)

pub at_pats-requires-in-Err : goal.at_pats-requires-in-Err
at_pats-requires-in-Err c =
    let fun_head = c.in-Err.ensures in
    let fun_head_ok = fun_head.ok in
    fun_head_ok

pub returns-in-Err : goal.returns-in-Err
unfolding decl.fun_left plan choose chosen
returns-in-Err c =
    let pre0 = c.requires in
    let if1 = c.if-left-eq0.false in
    let mark = c.mark-s1.ensures in
    let fun_head = c.in-Err.ensures in
    let at_pats2 = c.at_pats-in-Err.ensures in
    by_steps pre0 (λ b. s_mark if1 mark (s_by _ fun_head (s_run at_pats2 s_end)))

pub returns-in-Ok : goal.returns-in-Ok
unfolding decl.fun_left plan choose chosen
returns-in-Ok c =
    let pre0 = c.requires in
    let if1 = c.if-left-eq0.false in
    let mark = c.mark-s1.ensures in
    let fun_head = c.in-Ok.ensures in
    by_steps pre0 (λ b. s_mark if1 mark (s_by _ fun_head s_end))
