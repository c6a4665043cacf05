-- by tools/prove
use Rattle.grammar.specs.Dec as decl
use Rattle.parser.specs.Runs.{runs_always, ok_bumps}
use Rattle.parser.specs.Plans.{plan, choose, chosen, in_steps, s_bump, s_close, s_by, s_run, s_end}
use Rattle.fix_parts.proofs.infixr_dec.Goals as goal

pub bump-s1-requires : goal.bump-s1-requires
bump-s1-requires c =
    let pre0 = c.requires.0 in
    (pre0.reads, pre0.logs)

pub fixity-got-requires : goal.fixity-got-requires
fixity-got-requires c =
    let pre0 = c.requires.0 in
    let bump = c.bump-s1.ensures in
    let bump_ok = ok_bumps bump pre0 in
    bump_ok

pub names-s3-requires : goal.names-s3-requires
names-s3-requires c =
    let fixity = c.fixity-got.ensures in
    let fixity_ok = fixity.ok in
    fixity_ok

pub close_node-requires : goal.close_node-requires
close_node-requires c =
    let pre1 = c.requires.1 in
    let names = c.names-s3.ensures in
    let names_ok = names.ok in
    (names_ok.logs, pre1)

pub returns : goal.returns
unfolding decl.infixr_dec plan choose chosen
returns c =
    let pre0 = c.requires.0 in
    let bump = c.bump-s1.ensures in
    let fixity = c.fixity-got.ensures in
    let names = c.names-s3.ensures in
    let close_node = c.close_node.ensures in
    in_steps pre0 (s_bump bump (s_by _ (runs_always fixity) (s_run names (s_close close_node s_end))))
