-- by hand: a copy to a buffer that is cleared behind it, no program.
use Rattle.answers.proofs.Hands.{held}
use Rattle.answers.proofs.hand.finish_env.Goals as goal

pub returns : goal.returns
returns c =
    held _ _ c.copy_out.new.out c.in_ok-used.ensures c.clear.ensures
