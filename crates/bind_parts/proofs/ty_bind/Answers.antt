-- by tools/prove
use Rattle.grammar.specs.Dec as decl
use Rattle.parser.specs.Runs.{runs_in}
use Rattle.parser.specs.Plans.{plan, choose, chosen, by_steps, s_by, s_end}
use Rattle.bind_parts.proofs.ty_bind.Goals as goal

pub ty_name-name-requires : goal.ty_name-name-requires
ty_name-name-requires c =
    let pre0 = c.requires in
    pre0

pub eq_ty-s2-requires : goal.eq_ty-s2-requires
eq_ty-s2-requires c =
    let ty_name = c.in-Ok.ensures in
    let ty_name_ok = ty_name.ok in
    ty_name_ok

pub returns-in-Err : goal.returns-in-Err
unfolding decl.ty_bind plan choose chosen
returns-in-Err c =
    let pre0 = c.requires in
    let ty_name = c.in-Err.ensures in
    by_steps pre0 (λ b. s_by _ (runs_in ty_name) s_end)

pub returns-in-Ok : goal.returns-in-Ok
unfolding decl.ty_bind plan choose chosen
returns-in-Ok c =
    let pre0 = c.requires in
    let ty_name = c.in-Ok.ensures in
    let eq_ty = c.eq_ty-s2.ensures in
    by_steps pre0 (λ b. s_by _ (runs_in ty_name) (s_by _ (runs_in eq_ty) s_end))
