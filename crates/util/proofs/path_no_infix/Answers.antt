-- by tools/prove
use Rattle.grammar.specs.Util as util
use Rattle.parser.specs.Runs.{runs_in, runs_always}
use Rattle.parser.specs.Plans.{plan, choose, chosen, by_steps, s_by, s_end}
use Rattle.util.proofs.path_no_infix.Goals as goal

pub without_op-s1-requires : goal.without_op-s1-requires
without_op-s1-requires c =
    let pre0 = c.requires in
    pre0

pub path_must-requires : goal.path_must-requires
path_must-requires c =
    let without_op = c.without_op-s1.ensures in
    let without_op_ok = without_op.ok in
    without_op_ok

pub returns : goal.returns
unfolding util.path_no_infix plan choose chosen
returns c =
    let pre0 = c.requires in
    let without_op = c.without_op-s1.ensures in
    let path_must = c.path_must.ensures in
    by_steps pre0 (λ b. s_by _ (runs_always without_op) (s_by _ (runs_in path_must) s_end))
