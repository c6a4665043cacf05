-- by tools/prove
use Rattle.grammar.specs.Util as util
use Rattle.parser.specs.Runs.{runs_in, runs_always, ok_eats, ok_state}
use Rattle.parser.specs.Plans.{plan, choose, chosen, by_steps, s_by, s_eats, eats_settled, s_end}
use native.Mathlib.Omega.{arith}
use Rattle.util.proofs.path_infix.Goals as goal

pub unnecessary_op-s1-requires : goal.unnecessary_op-s1-requires
unnecessary_op-s1-requires c =
    let pre0 = c.requires in
    pre0

pub eat-got-requires : goal.eat-got-requires
eat-got-requires c =
    let unnecessary_op = c.unnecessary_op-s1.ensures in
    let unnecessary_op_ok = unnecessary_op.ok in
    (unnecessary_op_ok.reads, unnecessary_op_ok.logs, unnecessary_op_ok.holds, omega arith)

pub either-s2-requires : goal.either-s2-requires
either-s2-requires c =
    tt

pub path_must-requires : goal.path_must-requires
path_must-requires c =
    let unnecessary_op = c.unnecessary_op-s1.ensures in
    let unnecessary_op_ok = unnecessary_op.ok in
    let eat = c.eat-got.ensures in
    let eat_ok = ok_eats eat unnecessary_op_ok in
    let either = c.either-s2.ensures in
    let either_ok = ok_state either eat_ok in
    either_ok

pub returns : goal.returns
unfolding util.path_infix plan choose chosen
returns c =
    let pre0 = c.requires in
    let unnecessary_op = c.unnecessary_op-s1.ensures in
    let eat = c.eat-got.ensures in
    let either = c.either-s2.ensures in
    let path_must = c.path_must.ensures in
    by_steps pre0 (λ b. s_by _ (runs_always unnecessary_op) (s_eats _ _ _ (eats_settled either eat) (s_by _ (runs_in path_must) s_end)))
