-- by hand: a loop over the findings, whose invariant is its own.
use Rattle.std.proofs.Common.{arith, rules, ◌≡◌, refl, ◌∙◌, ◌+◌, ◌-◌, ◌*◌, [], ◌∷◌, length, take, drop, length-take, length-drop}
use Rattle.std.proofs.lemmas.Slice.{put_mid-paste}
use Rattle.answers.proofs.Finds.{seal_none, seal_next, finds_out}
use Rattle.answers.proofs.hand.finish_finds.Goals as goal

pub loop-i-init : goal.loop-i-init
loop-i-init c = (record { below = λ i. omega (arith, c.type_inv.finds i) }, seal_none c.args.finds.now)

pub loop-i-preserved : goal.loop-i-preserved
loop-i-preserved c =
    let l = c.loop-i in
    let at = 8 * l.i + 6 in
    let n = 8 * l.i + 8 - at in
    let two : length (take n (drop at l.finds)) ≡ 2 = simp (length-take, length-drop) (omega arith) in
    let zeroes : c.fill.new.self ≡ 0 ∷ 0 ∷ [] = c.fill.ensures.after (λ y k. search rules) ∙ rw two refl in
    rw (put_mid-paste at n l.finds _ (0 ∷ 0 ∷ []) 2 zeroes (omega arith) refl) (l.invariant.0, seal_next c.args.finds.now l.finds l.i l.invariant.0 (omega arith) l.invariant.1)

pub returns : goal.returns
returns c =
    let l = c.loop-i in
    let e : l.i ≡ c.args.found = omega arith in
    let s = rw e at l.invariant.1 in
    finds_out c.args.finds.now l.finds (8 * c.args.found) c.requires s.long s.front c.clear.ensures
