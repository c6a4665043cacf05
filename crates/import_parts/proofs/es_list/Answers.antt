-- by tools/prove
use Rattle.grammar.specs.Util as util
use Rattle.grammar.specs.Dec as decl
use Rattle.grammar.specs.SyntaxKind as SK
use Rattle.laws.specs.Progress.{end_turn_advances}
use Rattle.parser.specs.Runs.{runs_in, kind_at, kind_off, ok_bumps, ok_adds, ok_marks, ok_refused, small_len, loop_starts, loop_goes, loop_falls, loop_ends}
use Rattle.parser.specs.Plans.{plan, choose, chosen, in_steps, s_kind, s_true, s_false, s_bump, s_close, s_mark, s_deep, s_by, s_eats, eats_settled, s_end}
use native.Mathlib.Omega.{arith}
use mathlib.Core.Bool.{true}
use Rattle.import_parts.proofs.es_list.Goals as goal

pub loop-scratch-init : goal.loop-scratch-init
loop-scratch-init c =
    let pre0 = c.requires in
    loop_starts pre0

pub at-requires : goal.at-requires
at-requires c =
    let inv = c.loop-scratch.invariant.ok in
    inv.reads

pub bump-requires : goal.bump-requires
bump-requires c =
    let inv = c.loop-scratch.invariant.ok in
    (inv.reads, inv.logs)

pub returns-then-at : goal.returns-then-at
unfolding util.end_turn util.end_item plan choose chosen
returns-then-at c =
    let inv = c.loop-scratch.invariant in
    let at = c.at.ensures in
    let if1 = c.if-at.true in
    let bump = c.bump.ensures in
    loop_ends (end_turn_advances true SK.EsImportSpecArg SK.Comma SK.RCurly decl.es_import_spec _ _) inv (in_steps inv.ok {n = c.args.left} {b = c.args.b} (s_kind (s_true _ _ (kind_at _ _ _ _ at if1) (s_bump bump s_end))))

pub refuse_for-s2-requires : goal.refuse_for-s2-requires
refuse_for-s2-requires c =
    tt

pub eat-got-requires : goal.eat-got-requires
eat-got-requires c =
    let inv = c.loop-scratch.invariant.ok in
    let refuse_for = c.refuse_for-s2.ensures in
    let refuse_for_ok = ok_refused _ refuse_for inv in
    (refuse_for_ok.reads, refuse_for_ok.logs, refuse_for_ok.holds, omega arith)

pub either-requires : goal.either-requires
either-requires c =
    tt

pub returns-then-left-eq0 : goal.returns-then-left-eq0
unfolding util.end_turn util.end_item plan choose chosen
returns-then-left-eq0 c =
    let inv = c.loop-scratch.invariant in
    let at = c.at.ensures in
    let if1 = c.if-at.false in
    let if2 = c.if-left-eq0.true in
    let refuse_for = c.refuse_for-s2.ensures in
    let eat = c.eat-got.ensures in
    let either = c.either.ensures in
    loop_ends (end_turn_advances true SK.EsImportSpecArg SK.Comma SK.RCurly decl.es_import_spec _ _) inv (in_steps inv.ok {n = c.args.left} {b = c.args.b} (s_kind (s_false _ _ (kind_off _ _ _ _ at if1) (s_deep if2 refuse_for (s_eats _ _ _ (eats_settled either eat) s_end)))))

pub mark-s2-requires : goal.mark-s2-requires
mark-s2-requires c =
    tt

pub es_spec-s3-requires : goal.es_spec-s3-requires
es_spec-s3-requires c =
    let inv = c.loop-scratch.invariant.ok in
    let mark = c.mark-s2.ensures in
    let mark_ok = ok_marks mark inv in
    mark_ok

pub at-requires-in-loop-scratch : goal.at-requires-in-loop-scratch
at-requires-in-loop-scratch c =
    let es_spec = c.es_spec-s3.ensures in
    let es_spec_ok = es_spec.ok in
    es_spec_ok.reads

pub bump-s4-requires : goal.bump-s4-requires
bump-s4-requires c =
    let es_spec = c.es_spec-s3.ensures in
    let es_spec_ok = es_spec.ok in
    (es_spec_ok.reads, es_spec_ok.logs)

pub close_node-s1-requires : goal.close_node-s1-requires
close_node-s1-requires c =
    let inv = c.loop-scratch.invariant.ok in
    let mark = c.mark-s2.ensures in
    let mark_ok = ok_marks mark inv in
    let es_spec = c.es_spec-s3.ensures in
    let es_spec_ok = es_spec.ok in
    let bump2 = c.bump-s4.ensures in
    let bump2_ok = ok_bumps bump2 es_spec_ok in
    (bump2_ok.logs, small_len mark_ok)

pub loop-scratch-smaller : goal.loop-scratch-smaller
unfolding util.end_turn util.end_item plan choose chosen
loop-scratch-smaller c =
    let inv = c.loop-scratch.invariant in
    let at = c.at.ensures in
    let if1 = c.if-at.false in
    let if2 = c.if-left-eq0.false in
    let mark = c.mark-s2.ensures in
    let es_spec = c.es_spec-s3.ensures in
    let at2 = c.at-in-loop-scratch.ensures in
    let if3 = c.if-at-2.true in
    let bump2 = c.bump-s4.ensures in
    let close_node = c.close_node-s1.ensures in
    loop_falls (end_turn_advances true SK.EsImportSpecArg SK.Comma SK.RCurly decl.es_import_spec _ _) (in_steps inv.ok {n = c.args.left} {b = c.args.b} (s_kind (s_false _ _ (kind_off _ _ _ _ at if1) (s_mark if2 mark (s_by _ (runs_in es_spec) (s_kind (s_true _ _ (kind_at _ _ _ _ at2 if3) (s_bump bump2 (s_close close_node s_end)))))))))

pub loop-scratch-preserved : goal.loop-scratch-preserved
unfolding util.end_turn util.end_item plan choose chosen
loop-scratch-preserved c =
    let inv = c.loop-scratch.invariant in
    let at = c.at.ensures in
    let if1 = c.if-at.false in
    let if2 = c.if-left-eq0.false in
    let mark = c.mark-s2.ensures in
    let es_spec = c.es_spec-s3.ensures in
    let at2 = c.at-in-loop-scratch.ensures in
    let if3 = c.if-at-2.true in
    let bump2 = c.bump-s4.ensures in
    let close_node = c.close_node-s1.ensures in
    loop_goes (end_turn_advances true SK.EsImportSpecArg SK.Comma SK.RCurly decl.es_import_spec _ _) inv (in_steps inv.ok {n = c.args.left} {b = c.args.b} (s_kind (s_false _ _ (kind_off _ _ _ _ at if1) (s_mark if2 mark (s_by _ (runs_in es_spec) (s_kind (s_true _ _ (kind_at _ _ _ _ at2 if3) (s_bump bump2 (s_close close_node s_end)))))))))

pub close_node-s4-requires : goal.close_node-s4-requires
close_node-s4-requires c =
    let inv = c.loop-scratch.invariant.ok in
    let mark = c.mark-s2.ensures in
    let mark_ok = ok_marks mark inv in
    let es_spec = c.es_spec-s3.ensures in
    let es_spec_ok = es_spec.ok in
    (es_spec_ok.logs, small_len mark_ok)

pub eat-got-requires-in-loop-scratch : goal.eat-got-requires-in-loop-scratch
eat-got-requires-in-loop-scratch c =
    let es_spec = c.es_spec-s3.ensures in
    let es_spec_ok = es_spec.ok in
    let close_node2 = c.close_node-s4.ensures in
    let close_node2_ok = ok_adds close_node2 es_spec_ok in
    (close_node2_ok.reads, close_node2_ok.logs, close_node2_ok.holds, omega arith)

pub either-requires-in-loop-scratch : goal.either-requires-in-loop-scratch
either-requires-in-loop-scratch c =
    tt

pub returns-in-loop-scratch : goal.returns-in-loop-scratch
unfolding util.end_turn util.end_item plan choose chosen
returns-in-loop-scratch c =
    let inv = c.loop-scratch.invariant in
    let at = c.at.ensures in
    let if1 = c.if-at.false in
    let if2 = c.if-left-eq0.false in
    let mark = c.mark-s2.ensures in
    let es_spec = c.es_spec-s3.ensures in
    let at2 = c.at-in-loop-scratch.ensures in
    let if3 = c.if-at-2.false in
    let close_node2 = c.close_node-s4.ensures in
    let eat2 = c.eat-got-in-loop-scratch.ensures in
    let either2 = c.either-in-loop-scratch.ensures in
    loop_ends (end_turn_advances true SK.EsImportSpecArg SK.Comma SK.RCurly decl.es_import_spec _ _) inv (in_steps inv.ok {n = c.args.left} {b = c.args.b} (s_kind (s_false _ _ (kind_off _ _ _ _ at if1) (s_mark if2 mark (s_by _ (runs_in es_spec) (s_kind (s_false _ _ (kind_off _ _ _ _ at2 if3) (s_close close_node2 (s_eats _ _ _ (eats_settled either2 eat2) s_end)))))))))
