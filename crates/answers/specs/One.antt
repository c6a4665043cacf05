-- Two outcomes of one call are equal: what the public contracts leave open is nothing.
use Rattle.std.specs.Prelude.{ℕ, ◌≡◌, refl, List, [], ◌∷◌, length, get_or, Option, Some, None, Ok, Err}
use Rattle.std.proofs.Common.{arith, ap, ◌∙◌, sym}
use Rattle.grammar.specs.Read.{Result}
use Rattle.parser.specs.Refusals.{refusal_number}
use Rattle.parser.specs.declared.refusal.Refusal.{Refusal}
use Rattle.parser.specs.declared.refusal.Refusal.TheVariants.{BadSettings, BadRecords, BadEnv, TooDeep, NoScratch, NoNodes, NoFindings, NoFixity, NoFinal, Impossible}
use Rattle.answers.specs.declared.Used.{Used}
use Rattle.answers.specs.Entry.{Answer, answer_number, used_of, result_in, result_of, result_from}

-- the refusal of a number, or none
abbrev refusal_at : ℕ → Option Refusal
refusal_at n =
    get_or (None ∷ Some BadSettings ∷ Some BadRecords ∷ Some BadEnv ∷ Some TooDeep ∷ Some NoScratch ∷ Some NoNodes ∷ Some NoFindings ∷ Some NoFixity ∷ Some NoFinal ∷ Some Impossible ∷ []) n None

at_number : (why : Refusal) → refusal_at (refusal_number why) ≡ Some why
at_number BadSettings = refl
at_number BadRecords = refl
at_number BadEnv = refl
at_number TooDeep = refl
at_number NoScratch = refl
at_number NoNodes = refl
at_number NoFindings = refl
at_number NoFixity = refl
at_number NoFinal = refl
at_number Impossible = refl

abbrev made : (n f l : ℕ) → Used
made n f l = record { nodes = n; finds = f; last = l }

same_fields : {n f l n' f' l' : ℕ} → n ≡ n' → f ≡ f' → l ≡ l' → made n f l ≡ made n' f' l'
same_fields q r t = rw (q, r, t) refl

same_answers : (a a' : Answer) → answer_number a ≡ answer_number a' → used_of a ≡ used_of a' → a ≡ a'
same_answers (Ok u) (Ok u') p q = ap Ok q
same_answers (Ok u) (Err why) p q = absurd (let e : None ≡ Some why = ap refusal_at p ∙ at_number why in cc)
same_answers (Err why) (Ok u) p q = absurd (let e : None ≡ Some why = ap refusal_at (sym p) ∙ at_number why in cc)
same_answers (Err why) (Err why') p q = let e : Some why ≡ Some why' = sym (at_number why) ∙ ap refusal_at p ∙ at_number why' in cc

-- the buffers are the result's
module _ (r : Result) (s n f l s' n' f' l' : List ℕ) where
  pub one_numbered : (k k' : ℕ) (u u' : Used) → result_in k u s n f l ≡ r → result_in k' u' s' n' f' l' ≡ r
      → (k ≡ k') × (u ≡ u') × (s ≡ s') × (n ≡ n') × (f ≡ f') × (l ≡ l')
  one_numbered k k' u u' p q =
      let e = p ∙ sym q in (
        ap (λ (r : Result). r.answer) e,
        same_fields (ap (λ (r : Result). r.nodes_used) e) (ap (λ (r : Result). r.finds_used) e) (ap (λ (r : Result). r.final_used) e),
        ap (λ (r : Result). r.scratch) e,
        ap (λ (r : Result). r.nodes) e,
        ap (λ (r : Result). r.finds) e,
        ap (λ (r : Result). r.final) e,
      )

  -- of what comes back
  pub one_read : (a a' : Answer) → result_of a s n f l ≡ r → result_of a' s' n' f' l' ≡ r → (a ≡ a') × (s ≡ s') × (n ≡ n') × (f ≡ f') × (l ≡ l')
  one_read a a' p q =
      let e = one_numbered (answer_number a) (answer_number a') (used_of a) (used_of a') p q in
      (same_answers a a' e.0 e.1, e.2, e.3, e.4, e.5)

-- a list of three numbers is those
three_are : (u : List ℕ) → length u ≡ 3 → u ≡ get_or u 0 0 ∷ get_or u 1 0 ∷ get_or u 2 0 ∷ []
three_are [] h = absurd (omega arith)
three_are (x ∷ []) h = absurd (omega arith)
three_are (x ∷ y ∷ []) h = absurd (omega arith)
three_are (x ∷ y ∷ z ∷ []) h = refl
three_are (x ∷ y ∷ z ∷ w ∷ u) h = absurd (omega arith)

module _ (r : Result) (s n f l s' n' f' l' : List ℕ) where
  pub one_export : (k k' : ℕ) (u u' : List ℕ) → length u ≡ 3 → length u' ≡ 3 → result_from k u s n f l ≡ r → result_from k' u' s' n' f' l' ≡ r
      → (k ≡ k') × (u ≡ u') × (s ≡ s') × (n ≡ n') × (f ≡ f') × (l ≡ l')
  one_export k k' u u' h h' p q =
      let e = p ∙ sym q in (
        ap (λ (r : Result). r.answer) e,
        three_are u h ∙ cc (ap (λ (r : Result). r.nodes_used) e, ap (λ (r : Result). r.finds_used) e, ap (λ (r : Result). r.final_used) e) ∙ sym (three_are u' h'),
        ap (λ (r : Result). r.scratch) e,
        ap (λ (r : Result). r.nodes) e,
        ap (λ (r : Result). r.finds) e,
        ap (λ (r : Result). r.final) e,
      )
