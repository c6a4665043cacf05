-- by tools/prove
use Rattle.grammar.specs.Util as util
use Rattle.parser.specs.Runs.{runs_in, test_true, test_false}
use Rattle.parser.specs.Plans.{plan, choose, chosen, by_steps, s_look, s_true, s_false, s_by, s_end}
use Rattle.util.proofs.path.Goals as goal

pub peek-requires : goal.peek-requires
peek-requires c =
    let pre0 = c.requires in
    pre0.reads

pub returns-in_default : goal.returns-in_default
unfolding util.path plan choose chosen
returns-in_default c =
    let pre0 = c.requires in
    let peek = c.in_default.ensures in
    by_steps pre0 (λ b. s_look peek s_end)

pub name_star_eq-requires : goal.name_star_eq-requires
name_star_eq-requires c =
    tt

pub path_here-requires : goal.path_here-requires
path_here-requires c =
    let pre0 = c.requires in
    pre0

pub returns-then-name_star_eq : goal.returns-then-name_star_eq
unfolding util.path plan choose chosen
returns-then-name_star_eq c =
    let pre0 = c.requires in
    let peek = c.in-Some.ensures in
    let name_star_eq = c.name_star_eq.ensures in
    let if1 = c.if-name_star_eq.true in
    let path_here = c.path_here.ensures in
    by_steps pre0 (λ b. s_look peek (s_true _ _ (test_true name_star_eq if1) (s_by _ (runs_in path_here) s_end)))

pub returns-else-name_star_eq : goal.returns-else-name_star_eq
unfolding util.path plan choose chosen
returns-else-name_star_eq c =
    let pre0 = c.requires in
    let peek = c.in-Some.ensures in
    let name_star_eq = c.name_star_eq.ensures in
    let if1 = c.if-name_star_eq.false in
    by_steps pre0 (λ b. s_look peek (s_false _ _ (test_false name_star_eq if1) s_end))
