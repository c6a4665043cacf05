-- by tools/prove
use Rattle.grammar.specs.Util as util
use Rattle.parser.specs.Runs.{runs_in, kind_at, kind_off}
use Rattle.parser.specs.Plans.{plan, choose, chosen, by_steps, s_kind, s_true, s_false, s_bump, s_by, s_eats, eats_settled, s_end}
use native.Mathlib.Omega.{arith}
use Rattle.ty_parts.proofs.var_turn.Goals as goal

pub at-requires : goal.at-requires
at-requires c =
    let pre0 = c.requires in
    pre0.reads

pub bump-requires : goal.bump-requires
bump-requires c =
    let pre0 = c.requires in
    (pre0.reads, pre0.logs)

pub returns-then-at : goal.returns-then-at
unfolding util.end_turn plan choose chosen
returns-then-at c =
    let pre0 = c.requires in
    let at = c.at.ensures in
    let if1 = c.if-at.true in
    let bump = c.bump.ensures in
    by_steps pre0 (λ b. s_kind (s_true _ _ (kind_at _ _ _ _ at if1) (s_bump bump s_end)))

pub var_item-item-requires : goal.var_item-item-requires
var_item-item-requires c =
    let pre0 = c.requires in
    pre0

pub eat-got-requires : goal.eat-got-requires
eat-got-requires c =
    let var_item = c.in-Err.ensures in
    let var_item_ok = var_item.ok in
    (var_item_ok.reads, var_item_ok.logs, var_item_ok.holds, omega arith)

pub either-s2-requires : goal.either-s2-requires
either-s2-requires c =
    tt

pub returns-in-Ok : goal.returns-in-Ok
unfolding util.end_turn plan choose chosen
returns-in-Ok c =
    let pre0 = c.requires in
    let at = c.at.ensures in
    let if1 = c.if-at.false in
    let var_item = c.in-Ok.ensures in
    by_steps pre0 (λ b. s_kind (s_false _ _ (kind_off _ _ _ _ at if1) (s_by _ (runs_in var_item) s_end)))

pub returns-in-Err : goal.returns-in-Err
unfolding util.end_turn plan choose chosen
returns-in-Err c =
    let pre0 = c.requires in
    let at = c.at.ensures in
    let if1 = c.if-at.false in
    let var_item = c.in-Err.ensures in
    let eat = c.eat-got.ensures in
    let either = c.either-s2.ensures in
    by_steps pre0 (λ b. s_kind (s_false _ _ (kind_off _ _ _ _ at if1) (s_by _ (runs_in var_item) (s_eats _ _ _ (eats_settled either eat) s_end))))
