-- by tools/prove
use Rattle.grammar.specs.Dec as decl
use Rattle.parser.specs.Runs.{runs_in, runs_always}
use Rattle.parser.specs.Plans.{plan, choose, chosen, by_steps, s_by, s_end}
use Rattle.fun_parts.proofs.infix_head.Goals as goal

pub at_must-s1-requires : goal.at_must-s1-requires
at_must-s1-requires c =
    let pre0 = c.requires in
    pre0

pub infix_name-s2-requires : goal.infix_name-s2-requires
infix_name-s2-requires c =
    let at_must = c.at_must-s1.ensures in
    let at_must_ok = at_must.ok in
    at_must_ok

pub at_must-requires : goal.at_must-requires
at_must-requires c =
    let infix_name = c.infix_name-s2.ensures in
    let infix_name_ok = infix_name.ok in
    infix_name_ok

pub returns : goal.returns
unfolding decl.infix_head plan choose chosen
returns c =
    let pre0 = c.requires in
    let at_must = c.at_must-s1.ensures in
    let infix_name = c.infix_name-s2.ensures in
    let at_must2 = c.at_must.ensures in
    by_steps pre0 (λ b. s_by _ (runs_in at_must) (s_by _ (runs_always infix_name) (s_by _ (runs_in at_must2) s_end)))
