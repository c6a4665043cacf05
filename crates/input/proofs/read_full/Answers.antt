-- by hand: what a turn read stands behind what was read before it, which is what the reader lost.
use Rattle.std.proofs.Common.{◌≡◌, ℕ, ◌+◌, ◌-◌, ◌≤◌, List, ◌++◌, rules, length, take, sym, ◌∙◌, refl, subst, take_at, drop_at, length-take-le}
use Rattle.std.specs.Io.KnownBytes.{Consumes}
use Rattle.std.proofs.KnownBytes.{Consumes-trans}
use borrow.Rule.Slice.PartMut.{put_mid, post_of}
use lib.Seq.{take-add, take-append-le}
use Rattle.input.proofs.read_full.Goals as goal

-- What was there before `a`, and the first of what was written from there on.
take-put_mid_part : (a k n : ℕ) (xs ys : List ℕ) → a ≤ length xs → n ≤ length ys → take (a + n) (put_mid a k xs ys) ≡ take a xs ++ take n ys
take-put_mid_part a k n xs ys within fits =
    let front = take a xs in
    let back = ys ++ post_of a k xs in
    let len = length-take-le a xs within in
    take-add a n (front ++ back) ∙ rw (take_at front back a len, drop_at front back a len, take-append-le n ys (post_of a k xs) fits) refl

pub loop-done-preserved : goal.loop-done-preserved
loop-done-preserved g c =
    let from = c.loop-done.done in
    let buf = c.loop-done.buf in
    let read = take-put_mid_part from (length buf - from) c.in_ok-n.n buf c.read.new.buf c.loop-done.invariant.1 c.in_ok-n.ensures.bound.0 in
    (search rules, search rules, subst (Consumes _ _) (sym read) (Consumes-trans _ _ _ _ _ c.loop-done.invariant.2 c.in_ok-n.ensures.bytes.0))
