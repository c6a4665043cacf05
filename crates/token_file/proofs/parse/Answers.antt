-- by hand: the tests of a file's form, in another order than the definition's; the trailer's bytes are the file's last.
use Rattle.std.proofs.Common.{◌≡◌, ℕ, ◌+◌, ◌*◌, ◌-◌, length, get_or, take, drop, slice_range, arith, sym, ap, ◌∙◌, le-leb, eq-eqb}
use Rattle.std.proofs.lemmas.Bool.Decides.{nat_tests}
use Rattle.std.proofs.lemmas.List.{get_or-drop, take-take}
use Rattle.std.proofs.lemmas.Slice.{between_is}
use Rattle.token_file.specs.File.{is_file, max_file, trailer_size, mark, text_length, token_count}
use Rattle.token_file.proofs.parse.Goals as goal

pub returns-then-file-gt-MOST : goal.returns-then-file-gt-MOST
unfolding is_file
returns-then-file-gt-MOST c = grind (arith, nat_tests)

pub returns-in_err-body : goal.returns-in_err-body
unfolding is_file
returns-in_err-body c = rw c.from_residual.ensures (grind (arith, nat_tests, c.in_err-body.ensures.cases))

pub returns-then-mark-ne-MARK : goal.returns-then-mark-ne-MARK
unfolding is_file
returns-then-mark-ne-MARK c =
    let file = c.args.file.now in
    let e = c.in_ok-body.ensures.cases in
    grind (arith, nat_tests, get_or-drop {A = ℕ}, e)

pub returns : goal.returns
unfolding is_file
returns c =
    let file = c.args.file.now in
    let e = c.in_ok-body.ensures.cases in
    let n = c.from-text_len.result in
    let end = length file - trailer_size in
    let told : n ≡ text_length file = grind (arith, get_or-drop {A = ℕ}, e) in
    let counted : c.from-count.result ≡ token_count file = grind (arith, get_or-drop {A = ℕ}, e) in
    let marked : get_or file (length file - 1) 0 ≡ mark = grind (arith, get_or-drop {A = ℕ}, e) in
    let whole : text_length file + 5 * token_count file + trailer_size ≡ length file = omega (arith, told, counted, e) in
    record {
      formed = simp (le-leb (length file) max_file (omega arith), le-leb trailer_size (length file) (omega arith), eq-eqb (get_or file (length file - 1) 0) mark marked, eq-eqb (text_length file + 5 * token_count file + trailer_size) (length file) whole);
      text = c.split_at.ensures.front ∙ ap (take n) e.0 ∙ take-take n end file (omega (arith, e)) ∙ ap (λ k. take k file) told;
      toks = c.split_at.ensures.back ∙ ap (drop n) e.0 ∙ sym (between_is file n end) ∙ ap (λ k. slice_range file k end) told;
      depth = grind (arith, get_or-drop {A = ℕ}, e);
      mode = grind (arith, get_or-drop {A = ℕ}, e);
    }
