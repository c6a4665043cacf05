-- by tools/prove
use Rattle.grammar.specs.Dec as decl
use Rattle.parser.specs.Runs.{kind_at, kind_off, ok_bumps}
use Rattle.parser.specs.Plans.{plan, choose, chosen, always, s_kind, s_true, s_false, s_bump, s_end}
use Rattle.import_parts.proofs.es_default.Goals as goal

pub at-requires : goal.at-requires
at-requires c =
    let pre0 = c.requires in
    pre0.reads

pub bump-s1-requires : goal.bump-s1-requires
bump-s1-requires c =
    let pre0 = c.requires in
    (pre0.reads, pre0.logs)

pub at-requires-then-at : goal.at-requires-then-at
at-requires-then-at c =
    let pre0 = c.requires in
    let bump = c.bump-s1.ensures in
    let bump_ok = ok_bumps bump pre0 in
    bump_ok.reads

pub at_n-requires : goal.at_n-requires
at_n-requires c =
    let pre0 = c.requires in
    let bump = c.bump-s1.ensures in
    let bump_ok = ok_bumps bump pre0 in
    bump_ok.reads

pub bump-requires : goal.bump-requires
bump-requires c =
    let pre0 = c.requires in
    let bump = c.bump-s1.ensures in
    let bump_ok = ok_bumps bump pre0 in
    (bump_ok.reads, bump_ok.logs)

pub returns-then-at_n : goal.returns-then-at_n
unfolding decl.es_import_default plan choose chosen
returns-then-at_n c =
    let pre0 = c.requires in
    let at = c.at.ensures in
    let if1 = c.if-at.true in
    let bump = c.bump-s1.ensures in
    let at2 = c.at-then-at.ensures in
    let if2 = c.if-at-2.true in
    let at_n = c.at_n.ensures in
    let if3 = c.if-at_n.true in
    let bump2 = c.bump.ensures in
    always pre0 (λ n b. s_kind (s_true _ _ (kind_at _ _ _ _ at if1) (s_bump bump (s_kind (s_true _ _ (kind_at _ _ _ _ at2 if2) (s_kind (s_true _ _ (kind_at _ _ _ _ at_n if3) (s_bump bump2 s_end))))))))

pub returns-then-at-2 : goal.returns-then-at-2
unfolding decl.es_import_default plan choose chosen
returns-then-at-2 c =
    let pre0 = c.requires in
    let at = c.at.ensures in
    let if1 = c.if-at.true in
    let bump = c.bump-s1.ensures in
    let at2 = c.at-then-at.ensures in
    let if2 = c.if-at-2.true in
    let at_n = c.at_n.ensures in
    let if3 = c.if-at_n.false in
    always pre0 (λ n b. s_kind (s_true _ _ (kind_at _ _ _ _ at if1) (s_bump bump (s_kind (s_true _ _ (kind_at _ _ _ _ at2 if2) (s_kind (s_false _ _ (kind_off _ _ _ _ at_n if3) s_end)))))))

pub returns-then-at : goal.returns-then-at
unfolding decl.es_import_default plan choose chosen
returns-then-at c =
    let pre0 = c.requires in
    let at = c.at.ensures in
    let if1 = c.if-at.true in
    let bump = c.bump-s1.ensures in
    let at2 = c.at-then-at.ensures in
    let if2 = c.if-at-2.false in
    always pre0 (λ n b. s_kind (s_true _ _ (kind_at _ _ _ _ at if1) (s_bump bump (s_kind (s_false _ _ (kind_off _ _ _ _ at2 if2) s_end)))))

pub returns : goal.returns
unfolding decl.es_import_default plan choose chosen
returns c =
    let pre0 = c.requires in
    let at = c.at.ensures in
    let if1 = c.if-at.false in
    always pre0 (λ n b. s_kind (s_false _ _ (kind_off _ _ _ _ at if1) s_end))
