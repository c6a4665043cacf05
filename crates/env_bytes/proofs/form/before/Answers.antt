-- by hand: a loop over the bytes of two names, whose invariant is its own.
use Prim.Native.Nat.{ℕ, ◌+◌, ◌≤◌, ◌<◌, min}
use native.Mathlib.Numerals.{add-one}
use native.Mathlib.Omega.{arith}
use mathlib.Core.Path.{◌≡◌, sym, ◌∙◌}
use mathlib.Core.List.{List}
use mathlib.Core.Logic.{⊎_elim}
use borrow.Author.Tests.{lt-ltb, le-ltb, eq-eqb, ne_eqb}
use lib.Dec.{ltb}
use lib.ListN.{length, get_or, drop, drop_of_length-le}
use lib.Seq.{drop-cons}
use Rattle.grammar.specs.Bytes.{before}
use Rattle.std.proofs.lemmas.Bool.{cases_lt}
use Rattle.env_bytes.proofs.Empty.{empty_first}
use Rattle.env_bytes.proofs.form.before.Goals as goal

module _ (a b : List ℕ) (i : ℕ) where
  other : i < length a → i < length b → (get_or a i 0 ≡ get_or b i 0 → ⊥) → before (drop i a) (drop i b) ≡ ltb (get_or a i 0) (get_or b i 0)
  unfolding before
  other h k f = rw (drop-cons a i 0 h, drop-cons b i 0 k, ne_eqb (get_or a i 0) (get_or b i 0) f, before)

  onward : i < length a → i < length b → get_or a i 0 ≡ get_or b i 0 → before (drop i a) (drop i b) ≡ before (drop (i + 1) a) (drop (i + 1) b)
  unfolding before
  onward h k e = rw (add-one i, drop-cons a i 0 h, drop-cons b i 0 k, eq-eqb (get_or a i 0) (get_or b i 0) e, before)

  ended : i ≡ min (length a) (length b) → before (drop i a) (drop i b) ≡ ltb (length a) (length b)
  unfolding before
  ended e =
      ⊎_elim (λ l. let z : length a ≤ i = omega arith in let y : i < length b = omega arith in rw (drop_of_length-le a z, drop-cons b i 0 y, lt-ltb (length a) (length b) l))
      (λ l. let z : length b ≤ i = omega arith in rw (drop_of_length-le b z, empty_first, le-ltb (length a) (length b) l)) (cases_lt (length a) (length b))

pub returns-then-a-i : goal.returns-then-a-i
returns-then-a-i c = sym (other c.args.a.now c.args.b.now c.loop-i.i (omega arith) (omega arith) c.if-a-i.true) ∙ c.loop-i.invariant

pub loop-i-preserved : goal.loop-i-preserved
loop-i-preserved c = sym (onward c.args.a.now c.args.b.now c.loop-i.i (omega arith) (omega arith) c.if-a-i.false) ∙ c.loop-i.invariant

pub returns : goal.returns
returns c = sym (ended c.args.a.now c.args.b.now c.loop-i.i (omega arith)) ∙ c.loop-i.invariant
