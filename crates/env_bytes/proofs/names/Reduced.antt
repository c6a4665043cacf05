-- What `reduce` gives of a chain, where each call of its closure computes one function; and a chain's items where an `Option` is its source.
use mathlib.Core.Path.{◌≡◌, refl, sym, ap, subst, ◌∙◌}
use mathlib.Core.List.{List, [], ◌∷◌, map}
use denote.Param.Members.{Mut, Called}
use Rattle.std.specs.Prelude.{Option, Some, None}
use Rattle.std.specs.List.{FoldsTo, fold, reduce}
use Rattle.std.specs.Option.{option_map, option_to_list}
use Rattle.std.specs.Iterator.{ReducesItems, FoldTurn}
use Rattle.std.specs.Iterator.Adapters.{once_item, once_steps}
use Rattle.std.proofs.lemmas.Iterator.{YieldsList, items_from_drains}
use Rattle.std.proofs.lemmas.Iterator.Consumers.{YieldsList-from_shown}

module _ {A B F : Type 0} {v : A → B} (g : Mut F (A × (A × Unit {0})) A) (h : B → B → B) (f : F) (calls : (b x c : A) (q : F) → Called g f (b, (x, tt)) c q → (q ≡ f) × (v c ≡ h (v b) (v x))) where
  turns : (p : F × A) (xs : List A) (q : F × A) → p.0 ≡ f → FoldsTo (FoldTurn g) p xs q → v q.1 ≡ fold h (v p.1) (map v xs)
  turns p [] q e t = ap (λ (r : F × A). v r.1) (sym t)
  turns p (x ∷ xs) q e t =
      let k = calls p.1 x t.0.1 t.0.0 (rw e at t.1) in
      turns t.0 xs q k.0 t.2 ∙ rw k.1

  pub reduced : {S : Type 0} {steps : S → Option A → S → Type 0} {s : S} {all : List B} (r : Option A) → ReducesItems steps g s f r → YieldsList steps v s all → option_map v r ≡ reduce h all
  reduced None d y = rw (← items_from_drains [] (d.1.0, d.1.1, λ _. (d.0, d.1.2)) y)
  reduced (Some c) d y =
      rw (← items_from_drains (d.0 ∷ d.1) (d.3.1.0, d.3.1.1, λ _. (d.3.0, d.3.1.2)) y) (ap Some (turns (f, d.0) d.1 (d.2, c) refl d.4))

-- the item of an `Option`, read by v
pub YieldsList-from_option : {A B : Type 0} (v : A → B) {s : _} (r : Option A) (o : Option B) → once_item s ≡ r → option_map v r ≡ o → YieldsList once_steps v s (option_to_list o)
YieldsList-from_option v {s} r o e q =
    subst (λ xs. YieldsList once_steps v s xs) (ap (λ t. option_to_list (option_map v t)) e ∙ ap option_to_list q)
    (YieldsList-from_shown once_steps v (λ t. option_to_list (option_map v (once_item t)))
    (λ t u k. rw (← k.0))
    (λ t x u k. rw (← k.0, k.1)) s)
