-- by tools/prove
use Rattle.grammar.specs.Util as util
use Rattle.grammar.specs.Dec as decl
use Rattle.parser.specs.Runs.{runs_in}
use Rattle.parser.specs.Plans.{plan, choose, chosen, in_steps, s_by, s_run, s_end}
use Rattle.bind_parts.proofs.dat_binds.Goals as goal

pub dat_list-s1-requires : goal.dat_list-s1-requires
dat_list-s1-requires c =
    let pre0 = c.requires in
    pre0

pub with_type-requires : goal.with_type-requires
with_type-requires c =
    let dat_list = c.dat_list-s1.ensures in
    let dat_list_ok = dat_list.ok in
    dat_list_ok

pub returns : goal.returns
unfolding decl.dat_binds util.many_sep plan choose chosen
returns c =
    let pre0 = c.requires in
    let dat_list = c.dat_list-s1.ensures in
    let with_type = c.with_type.ensures in
    in_steps pre0 (s_run dat_list (s_by _ (runs_in with_type) s_end))
