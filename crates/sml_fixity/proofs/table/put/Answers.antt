-- by hand: eight bytes that are written at once: the law of `sets`.
-- `table::put` meets its contract.
use Prim.Native.Nat.{◌*◌}
use native.Mathlib.Omega.{arith}
use mathlib.Core.Path.{◌≡◌, refl, sym, ◌∙◌}
use Rattle.std.proofs.lemmas.List.Edits.{sets-eq}
use Rattle.std.proofs.lemmas.Slice.{put_mid-paste}
use Rattle.sml_fixity.specs.Fix.{fixity_of}
use Rattle.sml_fixity.specs.Table.{record_of, put_at}
use Rattle.sml_fixity.proofs.table.put.Goals as goal

pub returns : goal.returns
unfolding put_at
returns c =
    let a = c.args in
    let e : c.copy_from_slice.new.self ≡ record_of a.start a.len (fixity_of a.f) =
    c.copy_from_slice.ensures.after ∙ simp (c.to_le_bytes.ensures, c.to_le_bytes-2.ensures, c.to_le_bytes-3.ensures, c.prec.ensures, c.what.ensures) in
    (put_mid-paste (8 * a.i) _ a.journal.now c.copy_from_slice.new.self (record_of a.start a.len (fixity_of a.f)) 8 e (omega arith) refl ∙ sym (sets-eq (record_of a.start a.len (fixity_of a.f)) a.journal.now (8 * a.i) (omega arith)), omega (arith, c.prec.ensures, c.prec.type_inv))
