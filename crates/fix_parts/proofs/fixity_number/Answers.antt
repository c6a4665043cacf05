-- by hand: tools/prove wrote all but the last answers, whose tests no code makes: the number is taken apart by `match`
use Rattle.grammar.specs.Dec as decl
use Rattle.parser.specs.Runs.{runs_always, ok_tells}
use Rattle.parser.specs.Plans.{plan, choose, chosen, always, s_says, s_false, s_bump, s_report, s_by, s_end}
use Rattle.grammar.specs.World.{negative, invalid, valid}
use Prim.Native.Nat.{ℕ, ◌+◌, ◌-◌}
use mathlib.Core.Bool.{false}
use borrow.Author.Tests.{ne_eqb}
use lib.Dec.{eqb}
use native.Mathlib.Omega.{arith}
use mathlib.Core.Path.{◌≡◌}
use Rattle.fix_parts.proofs.fixity_number.Goals as goal

-- a look gives `valid` more than the number, so neither of the answers that are none
not_negative : (n : ℕ) → eqb (n + valid) negative ≡ false
not_negative n = ne_eqb (n + valid) negative (λ e. omega arith)

not_invalid : (n : ℕ) → eqb (n + valid) invalid ≡ false
not_invalid n = ne_eqb (n + valid) invalid (λ e. omega arith)

itself : (n : ℕ) → n + valid - valid ≡ n
itself n = omega arith

pub bump-s2-requires : goal.bump-s2-requires
bump-s2-requires c =
    let pre0 = c.requires in
    let report_error = c.report_error-s1.ensures in
    let report_error-ok = ok_tells report_error pre0 in
    (report_error-ok.reads, report_error-ok.logs)

pub bump-s2-requires-in-Err-Invalid : goal.bump-s2-requires-in-Err-Invalid
bump-s2-requires-in-Err-Invalid c =
    let pre0 = c.requires in
    let report_error2 = c.report_error-s1-in-Err-Invalid.ensures in
    let report_error2-ok = ok_tells report_error2 pre0 in
    (report_error2-ok.reads, report_error2-ok.logs)

pub returns-in-Err-Negative : goal.returns-in-Err-Negative
unfolding decl.fixity_number plan choose chosen
returns-in-Err-Negative c =
    let pre0 = c.requires in
    let number_at = rw c.in-Err-Negative.field-0-is at c.in-Err-Negative.ensures in
    let report_error = c.report_error-s1.ensures in
    let bump = c.bump-s2.ensures in
    always pre0 (λ n b. s_says number_at (s_report report_error (s_bump bump s_end)))

pub returns-in-Err-Invalid : goal.returns-in-Err-Invalid
unfolding decl.fixity_number plan choose chosen
returns-in-Err-Invalid c =
    let pre0 = c.requires in
    let number_at = rw c.in-Err-Invalid.field-0-is at c.in-Err-Invalid.ensures in
    let report_error2 = c.report_error-s1-in-Err-Invalid.ensures in
    let bump2 = c.bump-s2-in-Err-Invalid.ensures in
    always pre0 (λ n b. s_says number_at (s_report report_error2 (s_bump bump2 s_end)))

pub returns-in-Ok : goal.returns-in-Ok
unfolding decl.fixity_number plan choose chosen
returns-in-Ok c =
    let pre0 = c.requires in
    let number_at = c.in-Ok.ensures in
    let large-fixity = c.large_fixity-s1.ensures in
    let bump3 = c.bump-s2-in-Ok.ensures in
    let k = c.in-Ok.n in
    always pre0 (λ n b. s_says number_at (s_false _ _ (not_negative k) (s_false _ _ (not_invalid k) (rw (itself k) (s_by _ (runs_always large-fixity) (s_bump bump3 s_end))))))
