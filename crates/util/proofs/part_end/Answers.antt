-- by tools/prove
use Rattle.grammar.specs.Util as util
use Rattle.parser.specs.Runs.{kind_at, kind_off, ok_bumps}
use Rattle.parser.specs.Plans.{plan, choose, chosen, in_steps, s_kind, s_true, s_false, s_bump, s_close, s_end}
use Rattle.util.proofs.part_end.Goals as goal

pub at-requires : goal.at-requires
at-requires c =
    let pre0 = c.requires.0 in
    pre0.reads

pub bump-s1-requires : goal.bump-s1-requires
bump-s1-requires c =
    let pre0 = c.requires.0 in
    (pre0.reads, pre0.logs)

pub close_node-requires : goal.close_node-requires
close_node-requires c =
    let pre0 = c.requires.0 in
    let pre1 = c.requires.1 in
    let bump = c.bump-s1.ensures in
    let bump_ok = ok_bumps bump pre0 in
    (bump_ok.logs, pre1)

pub close_node-requires-else-at : goal.close_node-requires-else-at
close_node-requires-else-at c =
    let pre0 = c.requires.0 in
    let pre1 = c.requires.1 in
    (pre0.logs, pre1)

pub returns-then-at : goal.returns-then-at
unfolding util.part_end plan choose chosen
returns-then-at c =
    let pre0 = c.requires.0 in
    let at = c.at.ensures in
    let if1 = c.if-at.true in
    let bump = c.bump-s1.ensures in
    let close_node = c.close_node.ensures in
    in_steps pre0 (s_kind (s_true _ _ (kind_at _ _ _ _ at if1) (s_bump bump (s_close close_node s_end))))

pub returns-else-at : goal.returns-else-at
unfolding util.part_end plan choose chosen
returns-else-at c =
    let pre0 = c.requires.0 in
    let at = c.at.ensures in
    let if1 = c.if-at.false in
    let close_node2 = c.close_node-else-at.ensures in
    in_steps pre0 (s_kind (s_false _ _ (kind_off _ _ _ _ at if1) (s_close close_node2 s_end)))
