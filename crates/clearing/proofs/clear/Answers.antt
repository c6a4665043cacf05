-- by hand: a loop over bytes, whose invariant is its own.
use Rattle.std.proofs.Common.{ℕ, ◌≡◌, ◌+◌, ◌-◌, ◌≤◌, ◌<◌, List, [], ◌∷◌, ◌++◌, arith, sym, ap, ◌∙◌, append-nil, append_assoc, length, set, take, drop, length-set, length-drop}
use Rattle.std.proofs.Math.ListN.{replicate-append-replicate}
use Rattle.std.proofs.lemmas.Grind.{take-set_at}
use Rattle.std.proofs.lemmas.List.{take_all}
use Rattle.grammar.specs.Read.{zeroes}
use Rattle.clearing.proofs.clear.Goals as goal

none : (front : List ℕ) (n : ℕ) → front ≡ front ++ zeroes (n - n)
none front n =
    let z : 0 ≡ n - n = omega arith in
    sym (append-nil front) ∙ ap (λ k. front ++ zeroes k) z

-- one byte more, at an index that is the loop's
one_more : (b front : List ℕ) (kept at i : ℕ) → i ≡ at → kept ≤ at → at < length b → take at b ≡ front ++ zeroes (at - kept)
    → take (at + 1) (set b i 0) ≡ front ++ zeroes (at + 1 - kept)
one_more b front kept at i e k h p =
    let n = at - kept in
    let next : n + 1 ≡ at + 1 - kept = omega arith in
    take-set_at b i (at + 1) 0 (omega arith) (omega arith)
    ∙ ap (λ j. take j b ++ (0 ∷ [])) e
    ∙ ap (λ x. x ++ (0 ∷ [])) p
    ∙ append_assoc front (zeroes n) (0 ∷ [])
    ∙ ap (λ x. front ++ x) (replicate-append-replicate n 1 0)
    ∙ ap (λ j. front ++ zeroes j) next

pub loop-at-init : goal.loop-at-init
loop-at-init c = (omega arith, none (take c.args.kept c.args.b.now) c.args.kept)

pub loop-at-preserved : goal.loop-at-preserved
loop-at-preserved c =
    (simp length-set (omega arith), one_more c.loop-at.b (take c.args.kept c.args.b.now) c.args.kept c.loop-at.at _ (omega arith) (omega arith) (omega arith) c.loop-at.invariant.1)

pub returns : goal.returns
returns c =
    let l = c.loop-at in
    let a = c.args in
    let n : l.at - a.kept ≡ length (drop a.kept a.b.now) = omega (arith, length-drop a.kept a.b.now) in
    sym (take_all l.at l.b (omega arith)) ∙ l.invariant.1 ∙ ap (λ k. take a.kept a.b.now ++ zeroes k) n
