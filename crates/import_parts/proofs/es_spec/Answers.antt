-- by tools/prove
use Rattle.grammar.specs.Dec as decl
use Rattle.parser.specs.Runs.{runs_in, runs_always, ok_marks, ok_state, small_len}
use Rattle.parser.specs.Plans.{plan, choose, chosen, by_steps, s_close, s_mark, s_shut, hushed, s_by, settled, s_end}
use mathlib.Core.Path.{refl}
use Rattle.import_parts.proofs.es_spec.Goals as goal

pub refuse_for-requires : goal.refuse_for-requires
refuse_for-requires c =
    tt

pub returns-then-left-eq0 : goal.returns-then-left-eq0
unfolding decl.es_import_spec plan choose chosen hushed
returns-then-left-eq0 c =
    let pre0 = c.requires in
    let if1 = c.if-left-eq0.true in
    let refuse_for = c.refuse_for.ensures in
    by_steps pre0 (λ b. s_shut if1 refuse_for (λ k l. refl))

pub mark-s1-requires : goal.mark-s1-requires
mark-s1-requires c =
    tt

pub es_name-s2-requires : goal.es_name-s2-requires
es_name-s2-requires c =
    let pre0 = c.requires in
    let mark = c.mark-s1.ensures in
    let mark_ok = ok_marks mark pre0 in
    mark_ok

pub as_pat_tl-got-requires : goal.as_pat_tl-got-requires
as_pat_tl-got-requires c =
    let es_name = c.es_name-s2.ensures in
    let es_name_ok = es_name.ok in
    es_name_ok

pub either-s3-requires : goal.either-s3-requires
either-s3-requires c =
    tt

pub ty_annotation-typed-requires : goal.ty_annotation-typed-requires
ty_annotation-typed-requires c =
    let as_pat_tl = c.as_pat_tl-got.ensures in
    let as_pat_tl_ok = as_pat_tl.ok in
    let either = c.either-s3.ensures in
    let either_ok = ok_state either as_pat_tl_ok in
    either_ok

pub either-s4-requires : goal.either-s4-requires
either-s4-requires c =
    tt

pub close_node-requires : goal.close_node-requires
close_node-requires c =
    let pre0 = c.requires in
    let mark = c.mark-s1.ensures in
    let mark_ok = ok_marks mark pre0 in
    let ty_annotation = c.ty_annotation-typed.ensures in
    let ty_annotation_ok = ty_annotation.ok in
    let either2 = c.either-s4.ensures in
    let either2_ok = ok_state either2 ty_annotation_ok in
    (either2_ok.logs, small_len mark_ok)

pub returns : goal.returns
unfolding decl.es_import_spec plan choose chosen
returns c =
    let pre0 = c.requires in
    let if1 = c.if-left-eq0.false in
    let mark = c.mark-s1.ensures in
    let es_name = c.es_name-s2.ensures in
    let as_pat_tl = c.as_pat_tl-got.ensures in
    let either = c.either-s3.ensures in
    let ty_annotation = c.ty_annotation-typed.ensures in
    let either2 = c.either-s4.ensures in
    let close_node = c.close_node.ensures in
    by_steps pre0 (λ b. s_mark if1 mark (s_by _ (runs_always es_name) (s_by _ (settled either (runs_in as_pat_tl)) (s_by _ (settled either2 (runs_in ty_annotation)) (s_close close_node s_end)))))
