-- by tools/prove
use Rattle.grammar.specs.Util as util
use Rattle.parser.specs.Runs.{runs_in}
use Rattle.parser.specs.Plans.{plan, choose, chosen, by_steps, s_report, s_by, s_end}
use native.Mathlib.Omega.{arith}
use Rattle.util.proofs.path_must.Goals as goal

pub path-got-requires : goal.path-got-requires
path-got-requires c =
    let pre0 = c.requires in
    pre0

pub report_error-requires : goal.report_error-requires
report_error-requires c =
    let path = c.in-Err.ensures in
    let path_ok = path.ok in
    (path_ok.holds, (let few = path_ok.reads.few in let inside = path_ok.reads.inside in omega arith), omega arith)

pub returns-in-Ok : goal.returns-in-Ok
unfolding util.path_must plan choose chosen
returns-in-Ok c =
    let pre0 = c.requires in
    let path = c.in-Ok.ensures in
    by_steps pre0 (λ b. s_by _ (runs_in path) s_end)

pub returns-in-Err : goal.returns-in-Err
unfolding util.path_must plan choose chosen
returns-in-Err c =
    let pre0 = c.requires in
    let path = c.in-Err.ensures in
    let report_error = c.report_error.ensures in
    by_steps pre0 (λ b. s_by _ (runs_in path) (s_report report_error s_end))
