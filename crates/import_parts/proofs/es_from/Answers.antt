-- by tools/prove
use Rattle.grammar.specs.Bytes.{ascii}
use Rattle.grammar.specs.Dec as decl
use Rattle.parser.specs.Runs.{kind_at, kind_off, ok_bumps}
use Rattle.parser.specs.Plans.{plan, choose, chosen, always, s_says, s_kind, s_true, s_false, s_bump, s_report, s_end}
use native.Mathlib.Omega.{arith}
use Rattle.import_parts.proofs.es_from.Goals as goal

pub at-requires : goal.at-requires
at-requires c =
    let pre0 = c.requires in
    pre0.reads

pub says-requires : goal.says-requires
says-requires c =
    let pre0 = c.requires in
    (pre0.reads, pre0.names)

pub bump-requires : goal.bump-requires
bump-requires c =
    let pre0 = c.requires in
    (pre0.reads, pre0.logs)

pub returns-then-says : goal.returns-then-says
unfolding decl.es_import_from ascii plan choose chosen
returns-then-says c =
    let pre0 = c.requires in
    let at = c.at.ensures in
    let if1 = c.if-at.true in
    let says = c.says.ensures in
    let if2 = c.if-says.true in
    let bump = c.bump.ensures in
    always pre0 (λ n b. s_kind (s_true _ _ (kind_at _ _ _ _ at if1) (s_says (rw if2 at says) (s_bump bump s_end))))

pub bump-s1-requires : goal.bump-s1-requires
bump-s1-requires c =
    let pre0 = c.requires in
    (pre0.reads, pre0.logs)

pub report_error-requires : goal.report_error-requires
report_error-requires c =
    let pre0 = c.requires in
    let bump2 = c.bump-s1.ensures in
    let bump2_ok = ok_bumps bump2 pre0 in
    (bump2_ok.holds, (let few = bump2_ok.reads.few in let inside = bump2_ok.reads.inside in omega arith), omega arith)

pub returns-then-at : goal.returns-then-at
unfolding decl.es_import_from ascii plan choose chosen
returns-then-at c =
    let pre0 = c.requires in
    let at = c.at.ensures in
    let if1 = c.if-at.true in
    let says = c.says.ensures in
    let if2 = c.if-says.false in
    let bump2 = c.bump-s1.ensures in
    let report_error = c.report_error.ensures in
    always pre0 (λ n b. s_kind (s_true _ _ (kind_at _ _ _ _ at if1) (s_says (rw if2 at says) (s_bump bump2 (s_report report_error s_end)))))

pub report_error-requires-2 : goal.report_error-requires-2
report_error-requires-2 c =
    let pre0 = c.requires in
    (pre0.holds, (let few = pre0.reads.few in let inside = pre0.reads.inside in omega arith), omega arith)

pub returns : goal.returns
unfolding decl.es_import_from ascii plan choose chosen
returns c =
    let pre0 = c.requires in
    let at = c.at.ensures in
    let if1 = c.if-at.false in
    let report_error2 = c.report_error-2.ensures in
    always pre0 (λ n b. s_kind (s_false _ _ (kind_off _ _ _ _ at if1) (s_report report_error2 s_end)))
