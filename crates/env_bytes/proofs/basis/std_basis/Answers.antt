-- by hand: a constant table, which is the standard environment by computing.
-- `basis::std_basis` meets its contract.
use native.Mathlib.Omega.{arith}
use Rattle.grammar.specs.Computing.{computing}
use Rattle.env_bytes.proofs.basis.std_basis.Goals as goal

pub put_all-requires-clause-room : goal.put_all-requires-clause-room
unfolding computing
put_all-requires-clause-room c = omega arith

pub returns : goal.returns
unfolding computing
returns c = c.put_all.ensures
