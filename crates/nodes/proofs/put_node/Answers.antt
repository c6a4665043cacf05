-- by hand: a part of a buffer is written, which the search does not see as a paste.
-- `put_node` meets its contract.
use Rattle.std.proofs.Common.{arith, rules, refl, ◌≡◌, ◌∙◌, [], ◌∷◌}
use Rattle.std.proofs.lemmas.Slice.{put_mid-paste}
use Rattle.grammar.specs.Bytes.{low, high}
use Rattle.nodes.specs.Walk.{tag_of}
use Rattle.nodes.proofs.put_node.Goals as goal

pub returns : goal.returns
returns c =
    let a = c.args in
    let bytes : c.copy_from_slice.new.self ≡ tag_of a.tag ∷ a.kind ∷ low a.v ∷ high a.v ∷ [] = c.copy_from_slice.ensures.after ∙ rw c.to_le_bytes.ensures (search rules) in
    put_mid-paste _ _ a.nodes.now _ _ _ bytes (omega arith) refl
