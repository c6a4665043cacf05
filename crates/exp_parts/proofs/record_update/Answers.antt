-- by tools/prove
use Rattle.grammar.specs.Exp as expr
use Rattle.parser.specs.Runs.{runs_in, kind_at, kind_off, ok_bumps, ok_marks, small_len}
use Rattle.parser.specs.Plans.{plan, choose, chosen, by_steps, s_kind, s_true, s_false, s_bump, s_close, s_mark, s_shut, hushed, s_by, s_end}
use mathlib.Core.Path.{refl}
use Rattle.exp_parts.proofs.record_update.Goals as goal

pub at-requires : goal.at-requires
at-requires c =
    let pre0 = c.requires in
    pre0.reads

pub at_n-requires : goal.at_n-requires
at_n-requires c =
    let pre0 = c.requires in
    pre0.reads

pub refuse_for-requires : goal.refuse_for-requires
refuse_for-requires c =
    tt

pub returns-then-left-eq0 : goal.returns-then-left-eq0
unfolding expr.record_update plan choose chosen hushed
returns-then-left-eq0 c =
    let pre0 = c.requires in
    let at = c.at.ensures in
    let if1 = c.if-at.true in
    let at_n = c.at_n.ensures in
    let if2 = c.if-at_n.true in
    let if3 = c.if-left-eq0.true in
    let refuse_for = c.refuse_for.ensures in
    by_steps pre0 (λ b. s_kind (s_true _ _ (kind_at _ _ _ _ at if1) (s_kind (s_true _ _ (kind_at _ _ _ _ at_n if2) (s_shut if3 refuse_for (λ k l. refl))))))

pub mark-s1-requires : goal.mark-s1-requires
mark-s1-requires c =
    tt

pub update_path-s2-requires : goal.update_path-s2-requires
update_path-s2-requires c =
    let pre0 = c.requires in
    let mark = c.mark-s1.ensures in
    let mark_ok = ok_marks mark pre0 in
    mark_ok

pub bump-s3-requires : goal.bump-s3-requires
bump-s3-requires c =
    let update_path = c.update_path-s2.ensures in
    let update_path_ok = update_path.ok in
    (update_path_ok.reads, update_path_ok.logs)

pub close_node-requires : goal.close_node-requires
close_node-requires c =
    let pre0 = c.requires in
    let mark = c.mark-s1.ensures in
    let mark_ok = ok_marks mark pre0 in
    let update_path = c.update_path-s2.ensures in
    let update_path_ok = update_path.ok in
    let bump = c.bump-s3.ensures in
    let bump_ok = ok_bumps bump update_path_ok in
    (bump_ok.logs, small_len mark_ok)

pub returns-then-at_n : goal.returns-then-at_n
unfolding expr.record_update plan choose chosen
returns-then-at_n c =
    let pre0 = c.requires in
    let at = c.at.ensures in
    let if1 = c.if-at.true in
    let at_n = c.at_n.ensures in
    let if2 = c.if-at_n.true in
    let if3 = c.if-left-eq0.false in
    let mark = c.mark-s1.ensures in
    let update_path = c.update_path-s2.ensures in
    let bump = c.bump-s3.ensures in
    let close_node = c.close_node.ensures in
    by_steps pre0 (λ b. s_kind (s_true _ _ (kind_at _ _ _ _ at if1) (s_kind (s_true _ _ (kind_at _ _ _ _ at_n if2) (s_mark if3 mark (s_by _ (runs_in update_path) (s_bump bump (s_close close_node s_end))))))))

pub returns-then-at : goal.returns-then-at
unfolding expr.record_update plan choose chosen
returns-then-at c =
    let pre0 = c.requires in
    let at = c.at.ensures in
    let if1 = c.if-at.true in
    let at_n = c.at_n.ensures in
    let if2 = c.if-at_n.false in
    by_steps pre0 (λ b. s_kind (s_true _ _ (kind_at _ _ _ _ at if1) (s_kind (s_false _ _ (kind_off _ _ _ _ at_n if2) s_end))))

pub returns : goal.returns
unfolding expr.record_update plan choose chosen
returns c =
    let pre0 = c.requires in
    let at = c.at.ensures in
    let if1 = c.if-at.false in
    by_steps pre0 (λ b. s_kind (s_false _ _ (kind_off _ _ _ _ at if1) s_end))
