-- by hand: it returns a part of the lent text: where that lies, no program.
-- `tokens::token_text` meets its contract: a record that fits ends within the text, and gives the part that the definition names.
use Prim.Native.Nat.{ℕ, ◌+◌, ◌*◌, ◌-◌, ◌≤◌}
use native.Mathlib.Omega.{arith}
use mathlib.Core.Path.{◌≡◌, refl, sym, ap, ◌∙◌}
use mathlib.Core.List.{List}
use mathlib.Core.Bool.{true, false, ◌&&◌, and-eq-true_iff, and_assoc}
use borrow.Author.Rules.{rules}
use borrow.Author.Tests.{ltb-true}
use lib.Dec.{ltb}
use lib.ListN.{length, take, drop, length-take, length-drop}
use Rattle.grammar.specs.Tokens.{Part, record_size, start_at, length_at, end_at, record_count, lists_fit, record_fits, token_part, token_text}
use Rattle.tokens.specs.Checks.{stands_at, record_fits_lem}
use Rattle.tokens.proofs.token_text.Goals as goal
use Rattle.tokens.proofs.token_text.Goals.{Else-not-has_text}

-- the token i has a text
record Has (text toks : List ℕ) (i : ℕ) : Type 0 where
  pub there : record_size * i + record_size ≤ length toks
  pub within : end_at toks i ≤ length text
  pub part : token_part text toks i ≡ record { start = start_at toks i; len = length_at toks i }

module _ (text toks : List ℕ) (i : ℕ) where
  has : (lists_fit text toks && stands_at (length text) toks i) ≡ true → Has text toks i
  unfolding token_part
  has e =
      let w = (and-eq-true_iff (lists_fit text toks) (stands_at (length text) toks i)).0 e in
      let v = (and-eq-true_iff (ltb i (record_count toks)) (record_fits (length text) toks i)).0 w.1 in
      record {
        there = omega (arith, ltb-true i (record_count toks) v.0);
        within = (record_fits_lem (length text) toks i v.1).within;
        part = rw (and_assoc (lists_fit text toks) (ltb i (record_count toks)) (record_fits (length text) toks i), e, token_part);
      }

  lacks : (lists_fit text toks && stands_at (length text) toks i) ≡ false → token_part text toks i ≡ record { start = 0; len = 0 }
  unfolding token_part
  lacks e = rw (and_assoc (lists_fit text toks) (ltb i (record_count toks)) (record_fits (length text) toks i), e, token_part)

  bytes : (p : Part) → token_part text toks i ≡ p → token_text text toks i ≡ take p.len (drop p.start text)
  unfolding token_text
  bytes p e = ap (λ (p : Part). take p.len (drop p.start text)) e

pub returns-then-not-has_text : goal.returns-then-not-has_text
returns-then-not-has_text c =
    let a = c.args in
    let e = lacks a.text.now a.toks.now a.i (sym c.has_text.ensures ∙ c.if-not-has_text.true) in
    (sym (bytes a.text.now a.toks.now a.i _ e), rw e (record { block = refl; place = omega arith; long = refl }))

-- what the test says
shown : (c : Else-not-has_text) → let a = c.args in Has a.text.now a.toks.now a.i
shown c =
    let a = c.args in
    has a.text.now a.toks.now a.i (sym c.has_text.ensures ∙ c.if-not-has_text.false)

pub slice_bounds-result-end-2 : goal.slice_bounds-result-end-2
slice_bounds-result-end-2 c = let h = shown (goal.at.slice_bounds-result-end-2 c).Else-not-has_text in search rules

pub returns : goal.returns
returns c =
    let a = c.args in
    let h = shown (goal.at.returns c).Else-not-has_text in
    let s : c.pair-start.result ≡ start_at a.toks.now a.i = c.pair-start.ensures in
    let l : c.end_at-end.result - c.pair-start.result ≡ length_at a.toks.now a.i = omega arith in (
      rw (l, s) (sym (bytes a.text.now a.toks.now a.i _ h.part)),
      rw h.part (record { block = refl; place = omega arith; long = simp (length-take, length-drop) (omega arith) }),
    )
