-- What a token file's bytes hold.
use Rattle.std.specs.Prelude.{ℕ, ◌+◌, ◌-◌, ◌≡◌, List, true, length, get_or, take, slice_range}
use Rattle.grammar.specs.Bytes.{pair_at}
use Rattle.token_file.specs.File.{is_file, trailer_size, text_length}
use Rattle.token_file.specs.declared.TokenFile.{TokenFile}

-- The text stands in front, the records stand from there to the trailer, and the trailer has the depth and the mode.
pub record Holds (file : List ℕ) (f : TokenFile) : Type 0 where
  pub formed : is_file file ≡ true
  pub text : f.text.now ≡ take (text_length file) file
  pub toks : f.toks.now ≡ slice_range file (text_length file) (length file - trailer_size)
  pub depth : f.depth ≡ pair_at file (length file - trailer_size + 4)
  pub mode : f.mode ≡ get_or file (length file - trailer_size + 6) 0
