-- by tools/prove
use Rattle.grammar.specs.Dec as decl
use Rattle.laws.specs.Progress.{attr_turn_advances}
use Rattle.parser.specs.Runs.{kind_at, kind_off, loop_starts, loop_goes, loop_falls, loop_ends}
use Rattle.parser.specs.Plans.{plan, choose, chosen, in_steps, s_kind, s_true, s_false, s_bump, s_end}
use Rattle.import_parts.proofs.attrs.Goals as goal

pub loop-scratch-init : goal.loop-scratch-init
loop-scratch-init c =
    let pre0 = c.requires in
    loop_starts pre0

pub at-requires : goal.at-requires
at-requires c =
    let inv = c.loop-scratch.invariant.ok in
    inv.reads

pub bump-s1-requires : goal.bump-s1-requires
bump-s1-requires c =
    let inv = c.loop-scratch.invariant.ok in
    (inv.reads, inv.logs)

pub loop-scratch-smaller : goal.loop-scratch-smaller
unfolding decl.attr_turn plan choose chosen
loop-scratch-smaller c =
    let inv = c.loop-scratch.invariant in
    let at = c.at.ensures in
    let if1 = c.if-at.true in
    let bump = c.bump-s1.ensures in
    loop_falls (attr_turn_advances _ _) (in_steps inv.ok {n = c.args.left} {b = c.args.b} (s_kind (s_true _ _ (kind_at _ _ _ _ at if1) (s_bump bump s_end))))

pub loop-scratch-preserved : goal.loop-scratch-preserved
unfolding decl.attr_turn plan choose chosen
loop-scratch-preserved c =
    let inv = c.loop-scratch.invariant in
    let at = c.at.ensures in
    let if1 = c.if-at.true in
    let bump = c.bump-s1.ensures in
    loop_goes (attr_turn_advances _ _) inv (in_steps inv.ok {n = c.args.left} {b = c.args.b} (s_kind (s_true _ _ (kind_at _ _ _ _ at if1) (s_bump bump s_end))))

pub returns-in-loop-scratch : goal.returns-in-loop-scratch
unfolding decl.attr_turn plan choose chosen
returns-in-loop-scratch c =
    let inv = c.loop-scratch.invariant in
    let at = c.at.ensures in
    let if1 = c.if-at.false in
    loop_ends (attr_turn_advances _ _) inv (in_steps inv.ok {n = c.args.left} {b = c.args.b} (s_kind (s_false _ _ (kind_off _ _ _ _ at if1) s_end)))
