-- by tools/prove
use Rattle.grammar.specs.Pat as pat
use Rattle.parser.specs.Runs.{runs_in, test_true, test_false}
use Rattle.parser.specs.Plans.{plan, choose, chosen, by_steps, s_true, s_false, s_by, s_end}
use Rattle.pat_parts.proofs.con_path.Goals as goal

pub reports-requires : goal.reports-requires
reports-requires c =
    tt

pub path_no_infix-requires : goal.path_no_infix-requires
path_no_infix-requires c =
    let pre0 = c.requires in
    pre0

pub path-requires : goal.path-requires
path-requires c =
    let pre0 = c.requires in
    pre0

pub returns-then-reports : goal.returns-then-reports
unfolding pat.con_path plan choose chosen
returns-then-reports c =
    let pre0 = c.requires in
    let reports = c.reports.ensures in
    let if1 = c.if-reports.true in
    let path_no_infix = c.path_no_infix.ensures in
    by_steps pre0 (λ b. s_true _ _ (test_true reports if1) (s_by _ (runs_in path_no_infix) s_end))

pub returns-else-reports : goal.returns-else-reports
unfolding pat.con_path plan choose chosen
returns-else-reports c =
    let pre0 = c.requires in
    let reports = c.reports.ensures in
    let if1 = c.if-reports.false in
    let path = c.path.ensures in
    by_steps pre0 (λ b. s_false _ _ (test_false reports if1) (s_by _ (runs_in path) s_end))
