-- by tools/prove
use Rattle.grammar.specs.Util as util
use Rattle.parser.specs.Runs.{runs_in, ok_marks, small_len}
use Rattle.parser.specs.Plans.{plan, choose, chosen, by_steps, s_close, s_mark, s_shut, hushed, s_by, s_run, s_end}
use mathlib.Core.Path.{refl}
use Rattle.util.proofs.path_here.Goals as goal

pub refuse_for-requires : goal.refuse_for-requires
refuse_for-requires c =
    tt

pub returns-then-left-eq0 : goal.returns-then-left-eq0
unfolding util.path_here plan choose chosen hushed
returns-then-left-eq0 c =
    let pre0 = c.requires in
    let if1 = c.if-left-eq0.true in
    let refuse_for = c.refuse_for.ensures in
    by_steps pre0 (λ b. s_shut if1 refuse_for (λ k l. refl))

pub mark-s1-requires : goal.mark-s1-requires
mark-s1-requires c =
    tt

pub path_start-start-requires : goal.path_start-start-requires
path_start-start-requires c =
    let pre0 = c.requires in
    let mark = c.mark-s1.ensures in
    let mark_ok = ok_marks mark pre0 in
    mark_ok

pub path_parts-s3-requires : goal.path_parts-s3-requires
path_parts-s3-requires c =
    let path_start = c.in-Ok.ensures in
    let path_start_ok = path_start.ok in
    path_start_ok

pub close_node-requires : goal.close_node-requires
close_node-requires c =
    let pre0 = c.requires in
    let mark = c.mark-s1.ensures in
    let mark_ok = ok_marks mark pre0 in
    let path_parts = c.path_parts-s3.ensures in
    let path_parts_ok = path_parts.ok in
    (path_parts_ok.logs, small_len mark_ok)

pub close_node-requires-in-Err : goal.close_node-requires-in-Err
close_node-requires-in-Err c =
    let pre0 = c.requires in
    let mark = c.mark-s1.ensures in
    let mark_ok = ok_marks mark pre0 in
    let path_start = c.in-Err.ensures in
    let path_start_ok = path_start.ok in
    (path_start_ok.logs, small_len mark_ok)

pub returns-in-Ok : goal.returns-in-Ok
unfolding util.path_here plan choose chosen
returns-in-Ok c =
    let pre0 = c.requires in
    let if1 = c.if-left-eq0.false in
    let mark = c.mark-s1.ensures in
    let path_start = c.in-Ok.ensures in
    let path_parts = c.path_parts-s3.ensures in
    let close_node = c.close_node.ensures in
    by_steps pre0 (λ b. s_mark if1 mark (s_by _ (runs_in path_start) (s_run path_parts (s_close close_node s_end))))

pub returns-in-Err : goal.returns-in-Err
unfolding util.path_here plan choose chosen
returns-in-Err c =
    let pre0 = c.requires in
    let if1 = c.if-left-eq0.false in
    let mark = c.mark-s1.ensures in
    let path_start = c.in-Err.ensures in
    let close_node2 = c.close_node-in-Err.ensures in
    by_steps pre0 (λ b. s_mark if1 mark (s_by _ (runs_in path_start) (s_close close_node2 s_end)))
