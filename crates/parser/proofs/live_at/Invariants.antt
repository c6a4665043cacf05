-- by hand: a loop over tokens, whose invariant is its own.
-- `live_at` meets its contract. The loop's invariant: the token still to pass so many ahead of `i` is the one `n` ahead.
use Rattle.std.specs.Prelude.{◌-◌}
use Rattle.parser.proofs.Laws.{Ahead}
use Rattle.parser.proofs.live_at.Given as goal

abbrev pub invariant-loop : goal.invariant-loop
invariant-loop l = Ahead l.toks l.s.count l.s.at l.n l.i (l.n - l.counter)
