-- by tools/prove
use Rattle.grammar.specs.Dec as decl
use Rattle.parser.specs.Runs.{runs_in}
use Rattle.parser.specs.Plans.{plan, choose, chosen, by_steps, s_by, s_eats, eats_settled, s_end}
use native.Mathlib.Omega.{arith}
use Rattle.bind_parts.proofs.ty_name.Goals as goal

pub ty_var_seq-vars-requires : goal.ty_var_seq-vars-requires
ty_var_seq-vars-requires c =
    let pre0 = c.requires in
    pre0

pub eat-requires : goal.eat-requires
eat-requires c =
    let ty_var_seq = c.in-Err.ensures in
    let ty_var_seq_ok = ty_var_seq.ok in
    (ty_var_seq_ok.reads, ty_var_seq_ok.logs, ty_var_seq_ok.holds, omega arith)

pub eat-got-requires : goal.eat-got-requires
eat-got-requires c =
    let ty_var_seq = c.in-Ok.ensures in
    let ty_var_seq_ok = ty_var_seq.ok in
    (ty_var_seq_ok.reads, ty_var_seq_ok.logs, ty_var_seq_ok.holds, omega arith)

pub either-s2-requires : goal.either-s2-requires
either-s2-requires c =
    tt

pub returns-in-Err : goal.returns-in-Err
unfolding decl.ty_name plan choose chosen
returns-in-Err c =
    let pre0 = c.requires in
    let ty_var_seq = c.in-Err.ensures in
    let eat = c.eat.ensures in
    by_steps pre0 (λ b. s_by _ (runs_in ty_var_seq) (s_eats _ _ _ eat s_end))

pub returns-in-Ok : goal.returns-in-Ok
unfolding decl.ty_name plan choose chosen
returns-in-Ok c =
    let pre0 = c.requires in
    let ty_var_seq = c.in-Ok.ensures in
    let eat2 = c.eat-got.ensures in
    let either = c.either-s2.ensures in
    by_steps pre0 (λ b. s_by _ (runs_in ty_var_seq) (s_eats _ _ _ (eats_settled either eat2) s_end))
