-- The fixity in three bytes, where the third one is an association.
use Prim.Native.Nat.{ℕ, ◌+◌, ◌<◌}
use native.Mathlib.Omega.{arith}
use mathlib.Core.Path.{◌≡◌, ◌∙◌}
use mathlib.Core.List.{List}
use mathlib.Core.Option.{some}
use borrow.Author.Tests.{ne_eqb}
use lib.ListN.{get_or}
use Rattle.grammar.specs.Bytes.{pair_at}
use Rattle.sml_fixity.specs.Table.{fix_by, fix_in, nonfix}

pub fix_some : (bytes : List ℕ) (i p a : ℕ) → pair_at bytes i ≡ p → get_or bytes (i + 2) 0 ≡ a → a < nonfix → fix_in bytes i ≡ some (record { prec = p; assoc = a })
fix_some bytes i p a e f h =
    let q : fix_in bytes i ≡ fix_by p a = cc in
    q ∙ rw (ne_eqb a nonfix (λ q. omega arith), fix_by)
