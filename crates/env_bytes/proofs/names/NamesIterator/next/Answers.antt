-- by hand: an iterator's step: a split of what is left.
-- `Names::next` meets its contract.
use native.Mathlib.Omega.{arith}
use Rattle.env_bytes.proofs.names.Listed.{names_split, names_none}
use Rattle.env_bytes.proofs.names.NamesIterator.next.Goals as goal

pub returns-in_err-name-clause-steps : goal.returns-in_err-name-clause-steps
returns-in_err-name-clause-steps c =
    let e = names_none c.args.self.now.left.now c.in_err-name.ensures in
    rw c.from_residual.ensures (e, e)

pub returns-clause-steps : goal.returns-clause-steps
returns-clause-steps c = names_split c.args.self.now.left.now c.in_ok-name.name c.in_ok-name.field-0-1 c.in_ok-name.behind c.in_ok-name.ensures

pub returns-clause-goes : goal.returns-clause-goes
returns-clause-goes c =
    let e = names_split c.args.self.now.left.now c.in_ok-name.name c.in_ok-name.field-0-1 c.in_ok-name.behind c.in_ok-name.ensures in
    record { on = λ f. (tt, tt, rw e (omega arith)); keeps = tt; rests = λ f. tt }
