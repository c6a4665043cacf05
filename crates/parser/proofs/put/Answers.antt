-- by hand: eight bytes that are written at once: the law of `sets`.
-- `put` meets its contract.
use Prim.Native.Nat.{◌*◌}
use native.Mathlib.Omega.{arith}
use mathlib.Core.Path.{◌≡◌, refl, sym, ◌∙◌}
use Rattle.std.proofs.lemmas.List.Edits.{sets-eq}
use Rattle.std.proofs.lemmas.Slice.{put_mid-paste}
use Rattle.parser.specs.View.{bytes_of, put_at}
use Rattle.parser.proofs.put.Goals as goal

pub returns : goal.returns
unfolding put_at
returns c =
    let a = c.args in
    let e : c.copy_from_slice.new.self ≡ bytes_of a.tag a.kind a.v = c.copy_from_slice.ensures.after ∙ simp c.to_le_bytes.ensures in
    put_mid-paste (8 * a.i) _ a.buffer.now c.copy_from_slice.new.self (bytes_of a.tag a.kind a.v) 8 e (omega arith) refl ∙ sym (sets-eq (bytes_of a.tag a.kind a.v) a.buffer.now (8 * a.i) (omega arith))
