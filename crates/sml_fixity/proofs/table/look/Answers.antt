-- by hand: a loop over an environment's entries, whose invariant is its own.
use Prim.Native.Nat.{◌+◌}
use native.Mathlib.Nat.{add-sub_cancel_left}
use native.Mathlib.Omega.{arith}
use mathlib.Core.Path.{◌≡◌, refl, sym, ◌∙◌}
use lib.ListN.{get_or}
use Rattle.grammar.specs.Bytes.{same}
use Rattle.sml_fixity.specs.Table.{part}
use Rattle.sml_fixity.proofs.Scan.{Next, starts, ends, next, hit, miss}
use Rattle.sml_fixity.proofs.table.look.Goals as goal
use Rattle.sml_fixity.proofs.table.look.Goals.{In-loop-at, After-same}

pub loop-at-init : goal.loop-at-init
loop-at-init c = starts (λ x. x ≡ c.args.name.now) c.args.env.now c.requires

-- the entry at `at`
entry : (c : In-loop-at) → Next c.args.env.now c.loop-at.at c.loop-at.invariant.es
entry c = next c.args.env.now c.loop-at.at (omega arith) c.loop-at.invariant

pub slice_bounds-same-end : goal.slice_bounds-same-end
slice_bounds-same-end c = let e = entry (goal.at.slice_bounds-same-end c).In-loop-at in omega arith

pub read-requires : goal.read-requires
read-requires c = let e = entry (goal.at.read-requires c).In-loop-at in omega arith

-- what the comparison says of the entry's name
compared : (c : After-same) → let a = c.args in c.same.result ≡ same a.name.now (part a.env.now (c.loop-at.at + 1) (get_or a.env.now c.loop-at.at 0))
compared c = simp add-sub_cancel_left at c.same.ensures

pub returns-then-same : goal.returns-then-same
returns-then-same c =
    let a = c.args in
    c.read.ensures ∙ sym (hit a.env.now c.loop-at.at (omega arith) c.loop-at.invariant a.name.now refl (sym (compared (goal.at.returns-then-same c).After-same) ∙ c.if-same.true))

pub loop-at-preserved : goal.loop-at-preserved
loop-at-preserved c =
    let a = c.args in
    miss a.env.now c.loop-at.at (omega arith) (λ y. y ≡ a.name.now) c.loop-at.invariant (λ y e. (e, rw e (sym (compared (goal.at.loop-at-preserved c).After-same) ∙ c.if-same.false)))

pub returns : goal.returns
returns c = sym (ends c.loop-at.invariant (omega arith) c.args.name.now refl)
