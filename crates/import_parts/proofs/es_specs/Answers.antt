-- by tools/prove
use Rattle.grammar.specs.Util as util
use Rattle.grammar.specs.Dec as decl
use Rattle.parser.specs.Runs.{kind_at, kind_off, ok_bumps, ok_marks, small_len}
use Rattle.parser.specs.Plans.{plan, choose, chosen, by_steps, s_kind, s_true, s_false, s_bump, s_close, s_mark, s_shut, hushed, s_run, s_end}
use mathlib.Core.Path.{refl}
use Rattle.import_parts.proofs.es_specs.Goals as goal

pub at-requires : goal.at-requires
at-requires c =
    let pre0 = c.requires in
    pre0.reads

pub refuse_for-requires : goal.refuse_for-requires
refuse_for-requires c =
    tt

pub returns-then-left-eq0 : goal.returns-then-left-eq0
unfolding decl.es_import_specs util.end_sep plan choose chosen hushed
returns-then-left-eq0 c =
    let pre0 = c.requires in
    let at = c.at.ensures in
    let if1 = c.if-at.true in
    let if2 = c.if-left-eq0.true in
    let refuse_for = c.refuse_for.ensures in
    by_steps pre0 (λ b. s_kind (s_true _ _ (kind_at _ _ _ _ at if1) (s_shut if2 refuse_for (λ k l. refl))))

pub mark-s1-requires : goal.mark-s1-requires
mark-s1-requires c =
    tt

pub bump-s2-requires : goal.bump-s2-requires
bump-s2-requires c =
    let pre0 = c.requires in
    let mark = c.mark-s1.ensures in
    let mark_ok = ok_marks mark pre0 in
    (mark_ok.reads, mark_ok.logs)

pub es_list-s3-requires : goal.es_list-s3-requires
es_list-s3-requires c =
    let pre0 = c.requires in
    let mark = c.mark-s1.ensures in
    let mark_ok = ok_marks mark pre0 in
    let bump = c.bump-s2.ensures in
    let bump_ok = ok_bumps bump mark_ok in
    bump_ok

pub close_node-requires : goal.close_node-requires
close_node-requires c =
    let pre0 = c.requires in
    let mark = c.mark-s1.ensures in
    let mark_ok = ok_marks mark pre0 in
    let es_list = c.es_list-s3.ensures in
    let es_list_ok = es_list.ok in
    (es_list_ok.logs, small_len mark_ok)

pub returns-then-at : goal.returns-then-at
unfolding decl.es_import_specs util.end_sep plan choose chosen
returns-then-at c =
    let pre0 = c.requires in
    let at = c.at.ensures in
    let if1 = c.if-at.true in
    let if2 = c.if-left-eq0.false in
    let mark = c.mark-s1.ensures in
    let bump = c.bump-s2.ensures in
    let es_list = c.es_list-s3.ensures in
    let close_node = c.close_node.ensures in
    by_steps pre0 (λ b. s_kind (s_true _ _ (kind_at _ _ _ _ at if1) (s_mark if2 mark (s_bump bump (s_run es_list (s_close close_node s_end))))))

pub returns : goal.returns
unfolding decl.es_import_specs util.end_sep plan choose chosen
returns c =
    let pre0 = c.requires in
    let at = c.at.ensures in
    let if1 = c.if-at.false in
    by_steps pre0 (λ b. s_kind (s_false _ _ (kind_off _ _ _ _ at if1) s_end))
