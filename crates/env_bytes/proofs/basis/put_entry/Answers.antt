-- by hand: it stores an entry's bytes: a list of stores.
-- `basis::put_entry` meets its contract: its stores, one behind the other, are those of the entry's bytes.
use Prim.Native.Nat.{ℕ, suc, ◌+◌, ◌-◌, ◌/◌, ◌%◌, ◌≤◌}
use native.Mathlib.Numerals.{towards_suc}
use native.Mathlib.Omega.{arith}
use mathlib.Core.Path.{◌≡◌, refl, sym, ◌∙◌}
use mathlib.Core.List.{List, [], ◌∷◌, ◌++◌, append_assoc}
use lib.ListN.{length, set, length-set}
use lib.Seq.{sets, sets-eq, length-sets, drop-drop}
use denote.Enum.Declared.{tag_of}
use borrow.Rule.Slice.PartMut.{put_mid}
use Rattle.grammar.specs.Env.{env_bytes}
use Rattle.sml_fixity.specs.declared.Assoc.{Assoc}
use Rattle.sml_fixity.specs.declared.Assoc.TheVariants.{Left, Right}
use Rattle.sml_fixity.specs.contracts.Assoc.{the_type}
use Rattle.sml_fixity.specs.Fix.{assoc_of}
use Rattle.env_bytes.proofs.Stores.{sets_append}
use Rattle.env_bytes.proofs.basis.put_entry.Goals as goal

part_stored : (a k : ℕ) (xs ys : List ℕ) → k ≡ length ys → a + k ≤ length xs → put_mid a k xs ys ≡ sets xs a ys
part_stored a k xs ys e h = rw (e, sets-eq ys xs a (omega arith), drop-drop, append_assoc)

stored : (out name : List ℕ) (at n lo hi a : ℕ)
    → set (sets (sets (set out at n) (at + 1) name) (at + 1 + length name) (lo ∷ hi ∷ [])) (at + 1 + length name + 2) a ≡ sets out at (n ∷ (name ++ (lo ∷ hi ∷ a ∷ [])))
stored out name at n lo hi a = simp towards_suc (sym (sets_append name (lo ∷ hi ∷ a ∷ []) (set out at n) (suc at)))

side : (s : Assoc) → tag_of the_type s ≡ assoc_of s
side Left = refl
side Right = refl

pub copy-requires : goal.copy-requires
copy-requires c = simp length-set (omega arith)

pub returns : goal.returns
unfolding env_bytes
returns c =
    let a = c.args in
    let n = length a.name.now in
    let lo = a.i.prec % 256 in
    let hi = a.i.prec / 256 % 256 in
    let first = set a.out.now a.at n in
    let x = c.copy.ensures in
    let y = c.copy_from_slice.ensures.after ∙ c.to_le_bytes.ensures in
    let q = part_stored (a.at + 1 + n) (a.at + 1 + n + 2 - (a.at + 1 + n)) (sets first (a.at + 1) a.name.now) (lo ∷ hi ∷ []) (omega arith) (simp (length-sets, length-set) (omega arith)) in
    rw (x, y, q, side a.i.assoc) (stored a.out.now a.name.now a.at n lo hi (assoc_of a.i.assoc))
