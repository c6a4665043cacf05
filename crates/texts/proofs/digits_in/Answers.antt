-- by hand: a loop over bytes, whose invariant is its own.
use mathlib.Core.Path.{ap, sym, ◌∙◌}
use native.Mathlib.Omega.{arith}
use borrow.Author.Rules.{rules}
use Rattle.grammar.specs.World.{some_digits}
use Rattle.texts.specs.Texts.{value_of}
use Rattle.texts.proofs.Texts.{digits_low, digits_high, digits_next, digits_done, digits_start}
use Rattle.texts.proofs.digits_in.Goals as goal
use Rattle.texts.proofs.digits_in.Goals.{then-d-lt48-via-then-d-lt48, then-d-lt48-via-else-d-lt48+then-d-gt57}

pub returns-then-len-eq0 : goal.returns-then-len-eq0
unfolding some_digits
returns-then-len-eq0 c = rw c.if-len-eq0.true

pub loop-k-init : goal.loop-k-init
loop-k-init c =
    let a = c.args in
    let z = c.if-len-eq0.false in
    (search rules, digits_start a.text.now a.start a.len (omega arith) c.requires)

pub returns-then-d-lt48 : goal.returns-then-d-lt48
returns-then-d-lt48 c =
    let a = c.args in
    elim c.then-d-lt48.branch [
      | then-d-lt48-via-then-d-lt48 w ↦ sym (ap value_of (digits_low a.text.now a.start a.len c.loop-k.k c.loop-k.v (omega arith) (omega arith) w.if-d-lt48.true)) ∙ c.loop-k.invariant.1
      | then-d-lt48-via-else-d-lt48+then-d-gt57 w ↦
          sym (ap value_of (digits_high a.text.now a.start a.len c.loop-k.k c.loop-k.v (omega arith) (omega arith) w.if-d-lt48.false w.if-d-gt57.true)) ∙ c.loop-k.invariant.1
    ]

pub loop-k-preserved : goal.loop-k-preserved
loop-k-preserved c =
    let a = c.args in
    (omega arith, sym (ap value_of (digits_next a.text.now a.start a.len c.loop-k.k c.loop-k.v (omega arith) (omega arith) c.if-d-lt48.false c.if-d-gt57.false)) ∙ c.loop-k.invariant.1)

pub returns : goal.returns
returns c =
    let a = c.args in
    sym (digits_done a.text.now a.start a.len c.loop-k.k c.loop-k.v (omega arith) c.loop-k.invariant.0) ∙ c.loop-k.invariant.1
