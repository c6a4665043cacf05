-- by tools/prove
use Rattle.grammar.specs.Dec as decl
use Rattle.parser.specs.Runs.{runs_in, ok_bumps}
use Rattle.parser.specs.Plans.{plan, choose, chosen, by_steps, s_bump, s_by, settled, s_end}
use Rattle.dec_parts.proofs.bump_vars.Goals as goal

pub bump-s1-requires : goal.bump-s1-requires
bump-s1-requires c =
    let pre0 = c.requires in
    (pre0.reads, pre0.logs)

pub ty_var_seq-vars-requires : goal.ty_var_seq-vars-requires
ty_var_seq-vars-requires c =
    let pre0 = c.requires in
    let bump = c.bump-s1.ensures in
    let bump_ok = ok_bumps bump pre0 in
    bump_ok

pub either-requires : goal.either-requires
either-requires c =
    tt

pub returns : goal.returns
unfolding decl.bump_vars plan choose chosen
returns c =
    let pre0 = c.requires in
    let bump = c.bump-s1.ensures in
    let ty_var_seq = c.ty_var_seq-vars.ensures in
    let either = c.either.ensures in
    by_steps pre0 (λ b. s_bump bump (s_by _ (settled either (runs_in ty_var_seq)) s_end))
