-- What the test of a token file's form says of its lengths.
use Rattle.std.specs.Prelude.{ℕ, ◌+◌, ◌*◌, ◌-◌, ◌≤◌, ◌≡◌, List, true, ◌&&◌, leb, eqb, length, get_or}
use Rattle.std.proofs.Common.{leb-true, eqb-true}
use mathlib.Core.Bool.{and-eq-true_iff}
use Rattle.token_file.specs.File.{is_file, max_file, mark, trailer_size, text_length, token_count}

pub record Formed (file : List ℕ) : Type 0 where
  pub trailer : trailer_size ≤ length file
  pub whole : text_length file + 5 * token_count file + trailer_size ≡ length file

pub formed : (file : List ℕ) → is_file file ≡ true → Formed file
unfolding is_file
formed file e =
    let n = length file in
    let whole = eqb (text_length file + 5 * token_count file + trailer_size) n in
    let marked = eqb (get_or file (n - 1) 0) mark in
    let a = (and-eq-true_iff (leb n max_file && leb trailer_size n && marked) whole).0 e in
    let b = (and-eq-true_iff (leb n max_file && leb trailer_size n) marked).0 a.0 in
    record { trailer = leb-true trailer_size n ((and-eq-true_iff (leb n max_file) (leb trailer_size n)).0 b.0).1; whole = eqb-true _ n a.1 }
