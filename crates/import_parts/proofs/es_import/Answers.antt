-- by tools/prove
use Rattle.grammar.specs.Dec as decl
use Rattle.parser.specs.Runs.{runs_in, runs_always, kind_at, kind_off, ok_bumps}
use Rattle.parser.specs.Plans.{plan, choose, chosen, by_steps, s_kind, s_true, s_false, s_bump, s_by, s_eats, s_end}
use native.Mathlib.Omega.{arith}
use Rattle.import_parts.proofs.es_import.Goals as goal

pub bump-s1-requires : goal.bump-s1-requires
bump-s1-requires c =
    let pre0 = c.requires in
    (pre0.reads, pre0.logs)

pub es_attrs-s2-requires : goal.es_attrs-s2-requires
es_attrs-s2-requires c =
    let pre0 = c.requires in
    let bump = c.bump-s1.ensures in
    let bump_ok = ok_bumps bump pre0 in
    bump_ok

pub at-requires : goal.at-requires
at-requires c =
    let es_attrs = c.es_attrs-s2.ensures in
    let es_attrs_ok = es_attrs.ok in
    es_attrs_ok.reads

pub bump-requires : goal.bump-requires
bump-requires c =
    let es_attrs = c.es_attrs-s2.ensures in
    let es_attrs_ok = es_attrs.ok in
    (es_attrs_ok.reads, es_attrs_ok.logs)

pub returns-then-at : goal.returns-then-at
unfolding decl.es_import plan choose chosen
returns-then-at c =
    let pre0 = c.requires in
    let bump = c.bump-s1.ensures in
    let es_attrs = c.es_attrs-s2.ensures in
    let at = c.at.ensures in
    let if1 = c.if-at.true in
    let bump2 = c.bump.ensures in
    by_steps pre0 (λ b. s_bump bump (s_by _ (runs_in es_attrs) (s_kind (s_true _ _ (kind_at _ _ _ _ at if1) (s_bump bump2 s_end)))))

pub es_default-s3-requires : goal.es_default-s3-requires
es_default-s3-requires c =
    let es_attrs = c.es_attrs-s2.ensures in
    let es_attrs_ok = es_attrs.ok in
    es_attrs_ok

pub es_specs-s4-requires : goal.es_specs-s4-requires
es_specs-s4-requires c =
    let es_default = c.es_default-s3.ensures in
    let es_default_ok = es_default.ok in
    es_default_ok

pub es_from-s5-requires : goal.es_from-s5-requires
es_from-s5-requires c =
    let es_specs = c.es_specs-s4.ensures in
    let es_specs_ok = es_specs.ok in
    es_specs_ok

pub want-requires : goal.want-requires
want-requires c =
    let es_from = c.es_from-s5.ensures in
    let es_from_ok = es_from.ok in
    (es_from_ok.reads, es_from_ok.logs, es_from_ok.holds, omega arith)

pub returns : goal.returns
unfolding decl.es_import plan choose chosen
returns c =
    let pre0 = c.requires in
    let bump = c.bump-s1.ensures in
    let es_attrs = c.es_attrs-s2.ensures in
    let at = c.at.ensures in
    let if1 = c.if-at.false in
    let es_default = c.es_default-s3.ensures in
    let es_specs = c.es_specs-s4.ensures in
    let es_from = c.es_from-s5.ensures in
    let want = c.want.ensures in
    by_steps pre0 (λ b. s_bump bump (s_by _ (runs_in es_attrs) (s_kind (s_false _ _ (kind_off _ _ _ _ at if1) (s_by _ (runs_always es_default) (s_by _ (runs_in es_specs) (s_by _ (runs_always es_from) (s_eats _ _ _ want s_end))))))))
