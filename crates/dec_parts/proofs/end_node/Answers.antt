-- by tools/prove
use Rattle.grammar.specs.Dec as decl
use Rattle.parser.specs.Runs.{ok_eats}
use Rattle.parser.specs.Plans.{plan, choose, chosen, in_steps, s_close, s_eats, s_end}
use native.Mathlib.Omega.{arith}
use Rattle.dec_parts.proofs.end_node.Goals as goal

pub want-s1-requires : goal.want-s1-requires
want-s1-requires c =
    let pre0 = c.requires.0 in
    (pre0.reads, pre0.logs, pre0.holds, omega arith)

pub close-requires : goal.close-requires
close-requires c =
    let pre0 = c.requires.0 in
    let pre1 = c.requires.1 in
    let want = c.want-s1.ensures in
    let want_ok = ok_eats want pre0 in
    (want_ok.logs, pre1)

pub returns : goal.returns
unfolding decl.ended plan choose chosen
returns c =
    let pre0 = c.requires.0 in
    let want = c.want-s1.ensures in
    let close = c.close.ensures in
    in_steps pre0 (s_eats _ _ _ want (s_close close s_end))
