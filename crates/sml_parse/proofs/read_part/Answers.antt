-- by hand: a call over a part of scratch, no program.
use native.Mathlib.Omega.{arith}
use mathlib.Core.Path.{sym, ap, ◌∙◌}
use Prim.Native.Nat.{ℕ}
use lib.Seq.{length-take-le}
use Rattle.grammar.specs.Read.{read}
use Rattle.answers.specs.Entry.{call_of, with_scratch}
use Rattle.sml_parse.proofs.Answers.{part_cleared}
use Rattle.sml_parse.proofs.read_part.Goals as goal

pub slice_bounds-read_short-end-2 : goal.slice_bounds-read_short-end-2
slice_bounds-read_short-end-2 c =
    sym (length-take-le c.args.n c.clear.new.b (omega (arith, c.clear.auto.b)))

pub read_short-requires : goal.read_short-requires
read_short-requires c =
    omega (arith, length-take-le c.args.n c.clear.new.b (omega (arith, c.clear.auto.b)))

pub returns : goal.returns
returns c =
    let a = c.args in
    let k = call_of a.lent.text.now a.lent.toks.now a.lent.env.now a.depth a.mode a.scratch.now a.nodes.now a.finds.now a.last.now in
    let l = length-take-le a.n c.clear.new.b (omega (arith, c.clear.auto.b)) in
    part_cleared k a.n _ c.read_short.result c.requires.0 c.clear.ensures (c.read_short.ensures ∙ ap (λ (n : ℕ). read (with_scratch k n)) l)
