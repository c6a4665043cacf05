-- by hand: a loop over tokens, whose invariant is its own.
use Prim.Native.Nat.{◌-◌, ◌+◌}
use native.Mathlib.Numerals.{unary_clauses}
use native.Mathlib.Omega.{arith}
use mathlib.Core.Path.{◌≡◌}
use borrow.Author.Tests.{ltb-true, ltb-false}
use lib.Dec.{ltb}
use Rattle.sml_fixity.specs.Names.{by_test}
use Rattle.parser.proofs.Laws.{ahead_starts, ahead_next, none_off, none_ahead, stood}
use Rattle.parser.proofs.live_at.Goals as goal

pub returns-then-is_refused : goal.returns-then-is_refused
returns-then-is_refused c = none_off c.if-is_refused.ensures

pub loop-init : goal.loop-init
loop-init c = simp unary_clauses (ahead_starts c.requires)

pub loop-preserved : goal.loop-preserved
loop-preserved c =
    let e : c.args.n - (c.loop.counter + 1) ≡ c.args.n - c.loop.counter - 1 = omega arith in
    rw e (ahead_next c.loop.invariant c.if-s-i.false (λ z. omega arith) c.next_live-i.ensures)

pub returns-then-s-i : goal.returns-then-s-i
returns-then-s-i c = none_ahead c.loop.invariant c.if-is_refused.ensures c.if-s-i.true

pub returns : goal.returns
returns c =
    let n = c.args.s.count in
    let i = c.loop.i in
    by_test (ltb i n)
    (λ h. rw (c.then_some.ensures, h) (stood c.loop.invariant (omega arith) c.if-is_refused.ensures (ltb-true i n h)))
    (λ h. rw (c.then_some.ensures, h) (none_ahead c.loop.invariant c.if-is_refused.ensures (ltb-false i n h)))
