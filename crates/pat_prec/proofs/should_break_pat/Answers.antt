-- by tools/prove
use Rattle.grammar.specs.Pat as pat
use Rattle.parser.specs.Runs.{runs_always}
use Rattle.parser.specs.Plans.{plan, choose, chosen, always, s_by, s_end}
use Rattle.pat_prec.proofs.should_break_pat.Goals as goal

pub should_break-requires : goal.should_break-requires
should_break-requires c =
    let pre0 = c.requires in
    pre0

pub returns-in-Min : goal.returns-in-Min
unfolding pat.should_break_pat plan choose chosen
returns-in-Min c =
    let pre0 = c.requires in
    rw c.in-Min.is (λ g. always pre0 (λ n b. s_end))

pub returns-in-Or : goal.returns-in-Or
unfolding pat.should_break_pat plan choose chosen
returns-in-Or c =
    let pre0 = c.requires in
    rw c.in-Or.is (λ g. always pre0 (λ n b. s_end))

pub returns-in-Infix : goal.returns-in-Infix
unfolding pat.should_break_pat plan choose chosen
returns-in-Infix c =
    let pre0 = c.requires in
    let should_break = c.should_break.ensures in
    rw c.in-Infix.is (λ g. always pre0 (λ n b. s_by _ (runs_always (should_break _)) s_end))
