-- by tools/prove
use Rattle.grammar.specs.Dec as decl
use Rattle.parser.specs.Runs.{kind_at, kind_off}
use Rattle.parser.specs.Plans.{plan, choose, chosen, in_steps, s_kind, s_true, s_false, s_run, s_end}
use Rattle.where_parts.proofs.wheres.Goals as goal

pub at-requires : goal.at-requires
at-requires c =
    let pre0 = c.requires.0 in
    pre0.reads

pub where_tails-requires : goal.where_tails-requires
where_tails-requires c =
    let pre0 = c.requires.0 in
    let pre1 = c.requires.1 in
    (pre0, pre1)

pub returns-then-at : goal.returns-then-at
unfolding decl.wheres plan choose chosen
returns-then-at c =
    let pre0 = c.requires.0 in
    let at = c.at.ensures in
    let if1 = c.if-at.true in
    let where_tails = c.where_tails.ensures in
    in_steps pre0 (s_kind (s_true _ _ (kind_at _ _ _ _ at if1) (s_run where_tails s_end)))

pub returns : goal.returns
unfolding decl.wheres plan choose chosen
returns c =
    let pre0 = c.requires.0 in
    let at = c.at.ensures in
    let if1 = c.if-at.false in
    in_steps pre0 (s_kind (s_false _ _ (kind_off _ _ _ _ at if1) s_end))
