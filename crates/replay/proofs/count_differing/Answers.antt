-- by hand: one step of the definitions for each case.
use Rattle.std.proofs.Common.{◌≡◌, ◌+◌, ◌-◌, ◌≤◌, true, length, take, drop, arith, sym, ap, ◌∙◌, add-zero}
use Rattle.std.proofs.lemmas.List.{take_rest}
use Rattle.std.proofs.lemmas.Option.{MatchOption-at_some}
use Rattle.answers.specs.Entry.{served}
use Rattle.replay_parts.specs.Case.{Splits, call_in, says}
use Rattle.replay_parts.specs.Form.{first_case, fits_at, ends_at}
use Rattle.replay_parts.specs.Agree.{miss, differing}
use Rattle.replay_parts.specs.Shift.{ends_shift, differing_shift}
use Rattle.replay_parts.specs.Laws.{formed, ends_fits, ends_behind, differing_step, differing_none}
use Rattle.replay.proofs.count_differing.Goals as goal
use Rattle.replay.proofs.count_differing.Goals.{then-not-case_agrees, else-not-case_agrees}

pub number-count-requires : goal.number-count-requires
number-count-requires c = let f = formed _ c.requires in omega arith

pub slice_bounds-rest-count : goal.slice_bounds-rest-count
slice_bounds-rest-count c = let f = formed _ c.requires in omega arith

pub slice_bounds-rest-start : goal.slice_bounds-rest-start
slice_bounds-rest-start c = let f = formed _ c.requires in omega arith

pub loop-init : goal.loop-init
loop-init c =
    let list = c.args.list.now in
    let f = formed list c.requires in
    let n = c.number-count.result in
    let all : n - 0 ≡ n = omega arith in
    let front = take (length list - first_case) (drop first_case list) in
    let rest = take_rest list first_case in
    record {
      few = omega arith;
      ends = ap (λ k. ends_at k front 0) all ∙ ap (λ l. ends_at n l 0) rest ∙ ends_shift first_case list f.counted n 0 ∙ ap (λ k. ends_at k list first_case) c.number-count.ensures ∙ f.ends;
      counted = omega (arith, ap (λ k. differing k front 0) all ∙ ap (λ l. differing n l 0) rest ∙ differing_shift first_case list n 0);
    }

pub unwrap-requires : goal.unwrap-requires
unwrap-requires c =
    let there : fits_at c.loop.rest.now 0 ≡ true = ends_fits c.loop.rest.now 0 (c.number-count.result - c.loop.counter) (omega arith) c.loop.invariant.ends in
    grind (arith, there, c.split_case.ensures)

pub loop-preserved : goal.loop-preserved
loop-preserved c =
    let rest = c.loop.rest.now in
    let case = c.unwrap.result.0 in
    let behind = c.unwrap.result.1.now in
    let s : Splits rest case behind = MatchOption-at_some _ (λ p. Splits rest p.0 p.1.now) _ c.unwrap.ensures c.split_case.ensures in
    let left = c.number-count.result - c.loop.counter in
    let fewer : c.number-count.result - (c.loop.counter + 1) ≡ left - 1 = omega arith in
    let n = c.loop.n in
    let m : c.if-not-case_agrees.n ≡ n + miss (says case (served (call_in case))) = elim c.if-not-case_agrees.branch [
      | then-not-case_agrees w ↦ w.n-is ∙ ap (λ t. n + miss t) (sym w.if-not-case_agrees.true ∙ c.case_agrees.ensures)
      | else-not-case_agrees w ↦ w.n-is ∙ sym (add-zero n) ∙ ap (λ t. n + miss t) (sym w.if-not-case_agrees.false ∙ c.case_agrees.ensures)
    ] in
    let few : c.if-not-case_agrees.n ≤ n + 1 = elim c.if-not-case_agrees.branch [ then-not-case_agrees w ↦ omega arith | else-not-case_agrees w ↦ omega arith ] in
    let step = differing_step rest case behind s left (omega arith) in
    let moved = ap (λ k. differing k behind 0) fewer in
    record {
      few = omega (arith, few, c.loop.invariant.few);
      ends = ap (λ k. ends_at k behind 0) fewer ∙ sym (ends_behind rest case behind s left (omega arith)) ∙ c.loop.invariant.ends;
      counted = omega (arith, m, moved, step, c.loop.invariant.counted);
    }

pub returns : goal.returns
returns c =
    let list = c.args.list.now in
    let none = differing_none c.loop.rest.now 0 (c.number-count.result - c.loop.counter) (omega arith) in
    omega (arith, none, c.loop.invariant.counted, ap (λ k. differing k list first_case) c.number-count.ensures)
