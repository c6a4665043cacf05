-- A table begins over an environment that was tested; one change more, one that was refused; and the end of the scope.
use Prim.Native.Nat.{ℕ}
use native.Mathlib.Omega.{arith}
use mathlib.Core.Path.{◌≡◌, refl, ◌∙◌}
use mathlib.Core.List.{List, []}
use mathlib.Core.Option.{Option, none, some, get_or}
use lib.ListN.{length}
use Rattle.grammar.specs.Env.{Entry, Infix, env_of}
use Rattle.env_bytes.specs.Form.{count_of}
use Rattle.sml_fixity.specs.Table.{Stands, Made, Refused, Begins, Leaves}
use Rattle.sml_fixity.specs.declared.table.Table.{Table}
use Rattle.fixity_bench.specs.Bench.{Grown}

counted : (o : Option (List Entry)) (n : ℕ) → count_of o ≡ some n → (o ≡ some (get_or o [])) × (length (get_or o []) ≡ n)
counted none n e = let z : ◌≡◌ {A = ℕ} 0 1 = cc in absurd (omega arith)
counted (some es) n e = (refl, cc)

pub begun : {n : ℕ} {t : Table} (text env journal : List ℕ) → Begins n t → count_of (env_of env) ≡ some n → length text ≡ 8200 → length journal ≡ 8192 → Stands text env journal t
begun text env journal b e x j = let k = counted (env_of env) _ e in b.stands text env journal k.0 k.1 (omega arith) (omega arith)

module _ {text env journal j : List ℕ} {t u : Table} (g : Grown text env journal t j u) where
  pub grown_more : {j' x : List ℕ} {c : Option Infix} {u' : Table} → Made text env j u x c j' u' → Grown text env journal t j' u'
  grown_more m = record {
    stands = m.stands;
    counted = let a = g.counted in let b = m.once in omega arith;
    longer = let a = g.longer in let b = m.next in omega arith;
    below = λ i h. m.below i (let a = g.longer in omega arith) ∙ g.below i h;
    long = m.long ∙ g.long;
  }

  pub grown_kept : {j' x : List ℕ} {c : Option Infix} → Refused text env j u x c j' → Grown text env journal t j' u
  grown_kept r = rw r.kept g

  -- the table that it began with, behind the scope
  pub grown_left : {u' : Table} → Leaves t u u' → Stands text env journal t → Stands text env j u'
  grown_left l s = l.stands text env journal j s g.counted g.stands.made g.long g.below
