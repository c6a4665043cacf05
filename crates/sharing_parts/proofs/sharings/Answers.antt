-- by tools/prove
use Rattle.grammar.specs.Dec as decl
use Rattle.parser.specs.Runs.{kind_at, kind_off}
use Rattle.parser.specs.Plans.{plan, choose, chosen, in_steps, s_kind, s_true, s_false, s_run, s_end}
use Rattle.sharing_parts.proofs.sharings.Goals as goal

pub at-requires : goal.at-requires
at-requires c =
    let pre0 = c.requires in
    pre0.reads

pub sharing_tails-s1-requires : goal.sharing_tails-s1-requires
sharing_tails-s1-requires c =
    let pre0 = c.requires in
    pre0

pub returns-then-at : goal.returns-then-at
unfolding decl.sharings plan choose chosen
returns-then-at c =
    let pre0 = c.requires in
    let at = c.at.ensures in
    let if1 = c.if-at.true in
    let sharing_tails = c.sharing_tails-s1.ensures in
    in_steps pre0 (s_kind (s_true _ _ (kind_at _ _ _ _ at if1) (s_run sharing_tails s_end)))

pub returns : goal.returns
unfolding decl.sharings plan choose chosen
returns c =
    let pre0 = c.requires in
    let at = c.at.ensures in
    let if1 = c.if-at.false in
    in_steps pre0 (s_kind (s_false _ _ (kind_off _ _ _ _ at if1) s_end))
