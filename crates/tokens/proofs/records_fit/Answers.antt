-- by hand: a closure called at each index of a range.
-- `tokens::records_fit` meets its contract: what `all` answers of the indices in their order is what the definition says of as many records.
use Prim.Native.Nat.{ℕ, zero, suc}
use native.Mathlib.Numerals.{add-one}
use native.Mathlib.Omega.{arith}
use mathlib.Core.Path.{◌≡◌, refl, ap, sym, ◌∙◌}
use mathlib.Core.Bool.{Bool, and-true}
use mathlib.Core.List.{List, map}
use borrow.Author.Rules.{rules}
use borrow.Author.Tests.{tests}
use Rattle.std.specs.List.{list_all, range_with_len}
use Rattle.std.proofs.lemmas.Iterator.{YieldsList-from_range}
use Rattle.std.proofs.lemmas.Iterator.Search.{all_from_yields_List}
use Rattle.std.proofs.lemmas.List.Folds.{list_all-append, list_all-map}
use Rattle.std.proofs.lemmas.List.FromFn.{map-range_with_len_more}
use Rattle.grammar.specs.Tokens.{record_count, record_fits, records_fit}
use Rattle.tokens.proofs.records_fit.Goals as goal

module _ (n : ℕ) (toks : List ℕ) where
  listed : (k : ℕ) → list_all (λ (b : Bool). b) (map (record_fits n toks) (range_with_len 0 k)) ≡ records_fit n toks k
  unfolding records_fit
  listed zero = refl
  listed (suc k) =
      let more = ap (list_all (λ (b : Bool). b)) (map-range_with_len_more (record_fits n toks) 0 k k (omega arith)) in
      rw add-one at (simp (list_all-append, listed k, and-true) at more)

pub returns : goal.returns
returns c =
    let fits = record_fits c.args.n c.args.toks.now in
    let count = record_count c.args.toks.now in
    all_from_yields_List fits _ _ _ c.all.ensures.ran (YieldsList-from_range 0 count count refl (omega arith)) (λ x b q k. search (rules, tests))
    ∙ sym (list_all-map (λ (b : Bool). b) fits (range_with_len 0 count)) ∙ listed c.args.n c.args.toks.now count
