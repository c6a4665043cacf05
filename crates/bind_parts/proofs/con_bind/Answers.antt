-- by tools/prove
use Rattle.grammar.specs.Dec as decl
use Rattle.parser.specs.Runs.{runs_in, runs_always}
use Rattle.parser.specs.Plans.{plan, choose, chosen, by_steps, s_by, settled, s_end}
use Rattle.bind_parts.proofs.con_bind.Goals as goal

pub op_name-name-requires : goal.op_name-name-requires
op_name-name-requires c =
    let pre0 = c.requires in
    pre0

pub of_ty-got-requires : goal.of_ty-got-requires
of_ty-got-requires c =
    let op_name = c.in-Ok.ensures in
    let op_name_ok = op_name.ok in
    op_name_ok

pub either-s2-requires : goal.either-s2-requires
either-s2-requires c =
    tt

pub returns-in-Err : goal.returns-in-Err
unfolding decl.con_bind plan choose chosen
returns-in-Err c =
    let pre0 = c.requires in
    let op_name = c.in-Err.ensures in
    by_steps pre0 (λ b. s_by _ (runs_always op_name) s_end)

pub returns-in-Ok : goal.returns-in-Ok
unfolding decl.con_bind plan choose chosen
returns-in-Ok c =
    let pre0 = c.requires in
    let op_name = c.in-Ok.ensures in
    let of_ty = c.of_ty-got.ensures in
    let either = c.either-s2.ensures in
    by_steps pre0 (λ b. s_by _ (runs_always op_name) (s_by _ (settled either (runs_in of_ty)) s_end))
