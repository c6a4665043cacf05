-- by tools/prove
use Rattle.grammar.specs.Dec as decl
use Rattle.parser.specs.Runs.{runs_in}
use Rattle.parser.specs.Plans.{plan, choose, chosen, in_steps, s_close, s_by, s_end}
use Rattle.parser.specs.Backs.{s_attempt, ok_since_lem}
use Rattle.fun_parts.proofs.fun_head.Goals as goal

pub infix_head-s1-requires : goal.infix_head-s1-requires
infix_head-s1-requires c =
    let pre0 = c.requires.0 in
    pre0

pub ok_since-kept-requires : goal.ok_since-kept-requires
ok_since-kept-requires c =
    tt

pub other_head-s3-requires : goal.other_head-s3-requires
other_head-s3-requires c =
    let pre0 = c.requires.0 in
    let pre1 = c.requires.1 in
    let infix_head = c.infix_head-s1.ensures in
    let ok_since = c.in-Err.ensures in
    let ok_since_ok = ok_since_lem (runs_in {b = 0} infix_head) ok_since pre0 in
    (ok_since_ok, pre1)

pub close_node-requires : goal.close_node-requires
close_node-requires c =
    let pre0 = c.requires.0 in
    let pre1 = c.requires.1 in
    let infix_head = c.infix_head-s1.ensures in
    let ok_since = c.in-Ok.ensures in
    let ok_since_ok = ok_since_lem (runs_in {b = 0} infix_head) ok_since pre0 in
    (ok_since_ok.logs, pre1)

pub returns-in-Err : goal.returns-in-Err
unfolding decl.fun_head plan choose chosen
returns-in-Err c =
    let pre0 = c.requires.0 in
    let infix_head = c.infix_head-s1.ensures in
    let ok_since = c.in-Err.ensures in
    let other_head = c.other_head-s3.ensures in
    in_steps pre0 (s_attempt (runs_in infix_head) ok_since (s_by _ other_head s_end))

pub returns-in-Ok : goal.returns-in-Ok
unfolding decl.fun_head plan choose chosen
returns-in-Ok c =
    let pre0 = c.requires.0 in
    let infix_head = c.infix_head-s1.ensures in
    let ok_since = c.in-Ok.ensures in
    let close_node = c.close_node.ensures in
    in_steps pre0 (s_attempt (runs_in infix_head) ok_since (s_close close_node s_end))
