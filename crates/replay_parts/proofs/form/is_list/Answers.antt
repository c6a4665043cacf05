-- by hand: the tests of the definition; the cases stand behind the first two bytes.
use Rattle.std.proofs.Common.{length, arith, ap, ◌∙◌, le-leb}
use Rattle.std.proofs.lemmas.List.{take_rest}
use Rattle.std.proofs.lemmas.Bool.Decides.{nat_tests}
use Rattle.replay_parts.specs.Form.{max_list, first_case, ends_at, is_list}
use Rattle.replay_parts.specs.Shift.{ends_shift}
use Rattle.replay_parts.proofs.form.is_list.Goals as goal

pub returns-then-list-gt-MOST : goal.returns-then-list-gt-MOST
unfolding is_list
returns-then-list-gt-MOST c = grind (arith, nat_tests)

pub returns : goal.returns
unfolding is_list
returns c =
    let list = c.args.list.now in
    let n = c.number.result in
    let ends = c.cases_end.ensures ∙ ap (λ l. ends_at n l 0) (take_rest list first_case) ∙ ends_shift first_case list (omega arith) n 0 in
    simp (le-leb (length list) max_list (omega arith), le-leb first_case (length list) (omega arith)) (ends ∙ ap (λ k. ends_at k list first_case) c.number.ensures)
