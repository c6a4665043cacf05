-- by tools/prove
use Rattle.grammar.specs.Pat as pat
use Rattle.parser.specs.Runs.{runs_in, kind_at, kind_off}
use Rattle.parser.specs.Plans.{plan, choose, chosen, by_steps, s_kind, s_true, s_false, s_by, s_end}
use Rattle.pat_parts.proofs.con_name.Goals as goal

pub at-requires : goal.at-requires
at-requires c =
    let pre0 = c.requires in
    pre0.reads

pub path_infix-requires : goal.path_infix-requires
path_infix-requires c =
    let pre0 = c.requires in
    pre0

pub con_path-requires : goal.con_path-requires
con_path-requires c =
    let pre0 = c.requires in
    pre0

pub returns-then-at : goal.returns-then-at
unfolding pat.con_name plan choose chosen
returns-then-at c =
    let pre0 = c.requires in
    let at = c.at.ensures in
    let if1 = c.if-at.true in
    let path_infix = c.path_infix.ensures in
    by_steps pre0 (λ b. s_kind (s_true _ _ (kind_at _ _ _ _ at if1) (s_by _ (runs_in path_infix) s_end)))

pub returns-else-at : goal.returns-else-at
unfolding pat.con_name plan choose chosen
returns-else-at c =
    let pre0 = c.requires in
    let at = c.at.ensures in
    let if1 = c.if-at.false in
    let con_path = c.con_path.ensures in
    by_steps pre0 (λ b. s_kind (s_false _ _ (kind_off _ _ _ _ at if1) (s_by _ (runs_in con_path) s_end)))
