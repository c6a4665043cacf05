-- by tools/prove
use Rattle.grammar.specs.Dec as decl
use Rattle.laws.specs.Progress.{names_turn_advances}
use Rattle.sml_fixity.specs.Fix.{fixity_of}
use Rattle.parser.specs.Runs.{test_true, test_false, loop_starts, loop_goes, loop_falls, loop_ends}
use Rattle.parser.specs.Plans.{plan, choose, chosen, in_steps, s_look, s_true, s_false, s_act, s_end}
use Rattle.fix_parts.proofs.names.Goals as goal

pub loop-k-init : goal.loop-k-init
loop-k-init c =
    let pre0 = c.requires in
    loop_starts pre0

pub peek-requires : goal.peek-requires
peek-requires c =
    let inv = c.loop-k.invariant.ok in
    inv.reads

pub returns-in_default : goal.returns-in_default
unfolding decl.names_turn plan choose chosen
returns-in_default c =
    let inv = c.loop-k.invariant in
    let peek = c.in_default.ensures in
    loop_ends (names_turn_advances _ _ _) inv (in_steps inv.ok {n = c.args.left} {b = c.args.b} (s_look peek s_end))

pub name_star_eq-requires : goal.name_star_eq-requires
name_star_eq-requires c =
    tt

pub take_as-s1-requires : goal.take_as-s1-requires
take_as-s1-requires c =
    let inv = c.loop-k.invariant.ok in
    inv

pub loop-k-smaller : goal.loop-k-smaller
unfolding decl.names_turn plan choose chosen
loop-k-smaller c =
    let inv = c.loop-k.invariant in
    let peek = c.in-Some.ensures in
    let name_star_eq = c.name_star_eq.ensures in
    let if1 = c.if-name_star_eq.true in
    let take_as = c.take_as-s1.ensures in
    loop_falls {p = (decl.names_turn (fixity_of c.args.f))} (names_turn_advances _ _ _) (in_steps inv.ok {n = c.args.left} {b = c.args.b} (s_look peek (s_true _ _ (test_true name_star_eq if1) (s_act take_as s_end))))

pub loop-k-preserved : goal.loop-k-preserved
unfolding decl.names_turn plan choose chosen
loop-k-preserved c =
    let inv = c.loop-k.invariant in
    let peek = c.in-Some.ensures in
    let name_star_eq = c.name_star_eq.ensures in
    let if1 = c.if-name_star_eq.true in
    let take_as = c.take_as-s1.ensures in
    loop_goes (names_turn_advances _ _ _) inv (in_steps inv.ok {n = c.args.left} {b = c.args.b} (s_look peek (s_true _ _ (test_true name_star_eq if1) (s_act take_as s_end))))

pub returns-in-loop-k : goal.returns-in-loop-k
unfolding decl.names_turn plan choose chosen
returns-in-loop-k c =
    let inv = c.loop-k.invariant in
    let peek = c.in-Some.ensures in
    let name_star_eq = c.name_star_eq.ensures in
    let if1 = c.if-name_star_eq.false in
    loop_ends (names_turn_advances _ _ _) inv (in_steps inv.ok {n = c.args.left} {b = c.args.b} (s_look peek (s_false _ _ (test_false name_star_eq if1) s_end)))
