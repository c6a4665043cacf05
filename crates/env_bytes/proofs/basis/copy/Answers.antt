-- by hand: a loop over bytes, whose invariant is its own.
use native.Mathlib.Nat.{add-zero, add-suc}
use native.Mathlib.Numerals.{add-one}
use native.Mathlib.Omega.{arith}
use mathlib.Core.Path.{refl}
use lib.ListN.{length-set, drop_of_length-le}
use lib.Seq.{drop-cons}
use Rattle.env_bytes.proofs.basis.copy.Goals as goal

pub loop-i-init : goal.loop-i-init
loop-i-init c = (refl, rw (add-zero c.args.at))

pub loop-i-preserved : goal.loop-i-preserved
loop-i-preserved c =
    let name = c.args.name.now in
    let i = c.loop-i.i in
    let more = rw (drop-cons name i 0 (omega arith)) at c.loop-i.invariant.1 in
    (simp length-set c.loop-i.invariant.0, rw (add-one i, add-suc) more)

pub returns : goal.returns
returns c =
    rw (drop_of_length-le c.args.name.now {i = c.loop-i.i} (omega arith)) at c.loop-i.invariant.1
