-- by tools/prove
use Rattle.grammar.specs.Util as util
use Rattle.grammar.specs.Dec as decl
use Rattle.grammar.specs.SyntaxKind as SK
use Rattle.laws.specs.Progress.{many_turn_advances}
use Rattle.parser.specs.Runs.{runs_in, kind_at, kind_off, ok_bumps, ok_marks, small_len, loop_starts, loop_goes, loop_falls, loop_ends}
use Rattle.parser.specs.Plans.{plan, choose, chosen, in_steps, s_kind, s_true, s_false, s_bump, s_close, s_mark, s_shut, hushed, s_by, s_end}
use mathlib.Core.Path.{refl}
use mathlib.Core.Bool.{true}
use Rattle.bind_parts.proofs.dat_list.Goals as goal

pub loop-s1-init : goal.loop-s1-init
loop-s1-init c =
    let pre0 = c.requires in
    loop_starts pre0

pub refuse_for-requires : goal.refuse_for-requires
refuse_for-requires c =
    tt

pub returns-then-left-eq0 : goal.returns-then-left-eq0
unfolding util.many_turn plan choose chosen hushed
returns-then-left-eq0 c =
    let inv = c.loop-s1.invariant in
    let if1 = c.if-left-eq0.true in
    let refuse_for = c.refuse_for.ensures in
    loop_ends (many_turn_advances true SK.AndKw SK.DatBind decl.dat_bind _ _) inv (in_steps inv.ok {n = c.args.left} {b = c.args.b} (s_shut if1 refuse_for (λ k l. refl)))

pub mark-s2-requires : goal.mark-s2-requires
mark-s2-requires c =
    tt

pub dat_bind-item-requires : goal.dat_bind-item-requires
dat_bind-item-requires c =
    let inv = c.loop-s1.invariant.ok in
    let mark = c.mark-s2.ensures in
    let mark_ok = ok_marks mark inv in
    mark_ok

pub returns-in-Err : goal.returns-in-Err
unfolding util.many_turn plan choose chosen
returns-in-Err c =
    let inv = c.loop-s1.invariant in
    let if1 = c.if-left-eq0.false in
    let mark = c.mark-s2.ensures in
    let dat_bind = c.in-Err.ensures in
    loop_ends (many_turn_advances true SK.AndKw SK.DatBind decl.dat_bind _ _) inv (in_steps inv.ok {n = c.args.left} {b = c.args.b} (s_mark if1 mark (s_by _ (runs_in dat_bind) s_end)))

pub at-requires : goal.at-requires
at-requires c =
    let dat_bind = c.in-Ok.ensures in
    let dat_bind_ok = dat_bind.ok in
    dat_bind_ok.reads

pub bump-s4-requires : goal.bump-s4-requires
bump-s4-requires c =
    let dat_bind = c.in-Ok.ensures in
    let dat_bind_ok = dat_bind.ok in
    (dat_bind_ok.reads, dat_bind_ok.logs)

pub close_node-s1-requires : goal.close_node-s1-requires
close_node-s1-requires c =
    let inv = c.loop-s1.invariant.ok in
    let mark = c.mark-s2.ensures in
    let mark_ok = ok_marks mark inv in
    let dat_bind = c.in-Ok.ensures in
    let dat_bind_ok = dat_bind.ok in
    let bump = c.bump-s4.ensures in
    let bump_ok = ok_bumps bump dat_bind_ok in
    (bump_ok.logs, small_len mark_ok)

pub loop-s1-smaller : goal.loop-s1-smaller
unfolding util.many_turn plan choose chosen
loop-s1-smaller c =
    let inv = c.loop-s1.invariant in
    let if1 = c.if-left-eq0.false in
    let mark = c.mark-s2.ensures in
    let dat_bind = c.in-Ok.ensures in
    let at = c.at.ensures in
    let if2 = c.if-at.true in
    let bump = c.bump-s4.ensures in
    let close_node = c.close_node-s1.ensures in
    loop_falls (many_turn_advances true SK.AndKw SK.DatBind decl.dat_bind _ _) (in_steps inv.ok {n = c.args.left} {b = c.args.b} (s_mark if1 mark (s_by _ (runs_in dat_bind) (s_kind (s_true _ _ (kind_at _ _ _ _ at if2) (s_bump bump (s_close close_node s_end)))))))

pub loop-s1-preserved : goal.loop-s1-preserved
unfolding util.many_turn plan choose chosen
loop-s1-preserved c =
    let inv = c.loop-s1.invariant in
    let if1 = c.if-left-eq0.false in
    let mark = c.mark-s2.ensures in
    let dat_bind = c.in-Ok.ensures in
    let at = c.at.ensures in
    let if2 = c.if-at.true in
    let bump = c.bump-s4.ensures in
    let close_node = c.close_node-s1.ensures in
    loop_goes (many_turn_advances true SK.AndKw SK.DatBind decl.dat_bind _ _) inv (in_steps inv.ok {n = c.args.left} {b = c.args.b} (s_mark if1 mark (s_by _ (runs_in dat_bind) (s_kind (s_true _ _ (kind_at _ _ _ _ at if2) (s_bump bump (s_close close_node s_end)))))))

pub close_node-requires : goal.close_node-requires
close_node-requires c =
    let inv = c.loop-s1.invariant.ok in
    let mark = c.mark-s2.ensures in
    let mark_ok = ok_marks mark inv in
    let dat_bind = c.in-Ok.ensures in
    let dat_bind_ok = dat_bind.ok in
    (dat_bind_ok.logs, small_len mark_ok)

pub returns-in-Ok : goal.returns-in-Ok
unfolding util.many_turn plan choose chosen
returns-in-Ok c =
    let inv = c.loop-s1.invariant in
    let if1 = c.if-left-eq0.false in
    let mark = c.mark-s2.ensures in
    let dat_bind = c.in-Ok.ensures in
    let at = c.at.ensures in
    let if2 = c.if-at.false in
    let close_node2 = c.close_node.ensures in
    loop_ends (many_turn_advances true SK.AndKw SK.DatBind decl.dat_bind _ _) inv (in_steps inv.ok {n = c.args.left} {b = c.args.b} (s_mark if1 mark (s_by _ (runs_in dat_bind) (s_kind (s_false _ _ (kind_off _ _ _ _ at if2) (s_close close_node2 s_end))))))
