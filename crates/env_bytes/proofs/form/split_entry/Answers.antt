-- by hand: it splits a slice thrice: what is left is a part of a part.
-- `form::split_entry` meets its contract.
use native.Mathlib.Omega.{arith}
use mathlib.Core.Path.{ap, ◌∙◌}
use lib.ListN.{drop}
use lib.Seq.{drop-drop}
use Rattle.env_bytes.proofs.form.split_entry.Goals as goal

pub returns : goal.returns
returns c =
    let a = c.in_ok-n.ensures.cases in
    let b = c.in_ok-name.ensures.cases in
    let d = c.in_ok-fixity.ensures.cases in
    let byte = rw a.0 at (c.type_inv.bytes 0) in
    rw a.0
    record {
      sized = omega arith;
      room = omega arith;
      name-is = b.1;
      fixity-is = rw b.2 at d.0;
      behind-is = d.1 ∙ ap (drop 3) b.2 ∙ drop-drop 3 c.in_ok-n.n.now c.in_ok-n.behind.now;
    }
