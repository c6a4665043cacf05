-- by hand: a loop over tokens, whose invariant is its own.
use mathlib.Core.Path.{sym, ◌∙◌}
use borrow.Author.Rules.{rules}
use native.Mathlib.Omega.{arith}
use Rattle.parser.proofs.Buffers.{live_trivia}
use Rattle.parser.proofs.next_live.Goals as goal

pub loop-i-preserved : goal.loop-i-preserved
loop-i-preserved c =
    (search rules, search rules, λ text. sym (live_trivia text c.args.toks.now c.args.count c.loop-i.i (omega arith) c.if-toks-i-ne-TRIVIA.false) ∙ c.loop-i.invariant.2 text)
