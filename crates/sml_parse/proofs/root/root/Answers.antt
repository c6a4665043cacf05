-- by tools/prove
use Rattle.grammar.specs.Root as root_def
use Rattle.parser.specs.Runs.{ok_marks, small_len}
use Rattle.parser.specs.Plans.{plan, choose, chosen, by_steps, s_close, s_mark, s_shut, hushed, s_run, s_end}
use mathlib.Core.Path.{refl}
use Rattle.sml_parse.proofs.root.root.Goals as goal

pub refuse_for-requires : goal.refuse_for-requires
refuse_for-requires c =
    tt

pub returns-then-left-eq0 : goal.returns-then-left-eq0
unfolding root_def.root plan choose chosen hushed
returns-then-left-eq0 c =
    let pre0 = c.requires in
    let if1 = c.if-left-eq0.true in
    let refuse_for = c.refuse_for.ensures in
    by_steps pre0 (λ b. s_shut if1 refuse_for (λ k l. refl))

pub mark-s1-requires : goal.mark-s1-requires
mark-s1-requires c =
    tt

pub root_turns-s2-requires : goal.root_turns-s2-requires
root_turns-s2-requires c =
    let pre0 = c.requires in
    let mark = c.mark-s1.ensures in
    let mark_ok = ok_marks mark pre0 in
    mark_ok

pub close_node-requires : goal.close_node-requires
close_node-requires c =
    let pre0 = c.requires in
    let mark = c.mark-s1.ensures in
    let mark_ok = ok_marks mark pre0 in
    let root_turns = c.root_turns-s2.ensures in
    let root_turns_ok = root_turns.ok in
    (root_turns_ok.logs, small_len mark_ok)

pub returns : goal.returns
unfolding root_def.root plan choose chosen
returns c =
    let pre0 = c.requires in
    let if1 = c.if-left-eq0.false in
    let mark = c.mark-s1.ensures in
    let root_turns = c.root_turns-s2.ensures in
    let close_node = c.close_node.ensures in
    by_steps pre0 (λ b. s_mark if1 mark (s_run root_turns (s_close close_node s_end)))
