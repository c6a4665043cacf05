-- The climb and the law of precedence.
use Rattle.std.specs.Prelude.{suc, ◌≡◌, refl, List, [], ◌∷◌, Bool, true, false, ◌⊎◌, ◌↔◌, length}
use Rattle.std.proofs.Common.{◌∙◌, sym, append-nil, inl, inr, arith}
use Rattle.lawful.specs.Terms.{Step, Line, Tree, line, Lawful, Tie, climb}
use Rattle.lawful.specs.Terms.Min.{min}
use Rattle.lawful.specs.Terms.Tree.{leaf}
use Rattle.lawful.specs.Lawful.{same_line, tie_ties, ties_tie}
use Rattle.lawful.proofs.Lawful.{unique, no_ties}
use Rattle.lawful.specs.Climb.{Loop, Stops, keeps_first, keeps_rest, stopped, found, true_false}
use Rattle.lawful.proofs.Climb.{runs, leaf_left, lawful_loop}
use Rattle.lawful.specs.Laws.{Read, Refused}

module _ {A : Type 0} where
  climbs : (l : Line A) → (let o = climb l in Loop min (leaf l.first) l.rest o.tree o.tie o.left_over)
  climbs l = runs (suc (length l.rest)) min (leaf l.first) l.rest (omega arith)

  -- The climb reads the whole line,
  pub climb_all : (l : Line A) → (climb l).left_over ≡ []
  climb_all l = go (climb l).left_over (stopped (climbs l))
    where
      go : (xs : List (Step A)) → Stops min xs → xs ≡ []
      go [] h = refl
      go (s ∷ xs) h = absurd h

  -- and its tree has that line.
  pub climb_line : (l : Line A) → line (climb l).tree ≡ l
  climb_line l = same_line (keeps_first (climbs l)) (sym (append-nil _) ∙ (rw (climb_all l) at (keeps_rest (climbs l))))

  -- Where it reports no tie, its tree is lawful.
  pub climb_lawful : (l : Line A) → (climb l).tie ≡ false → Lawful (climb l).tree
  climb_lawful l e = (lawful_loop (climbs l) e tt tt (leaf_left l.first l.rest)).0

  -- Where it reports a tie, the line has one,
  pub report_tie : (l : Line A) → (climb l).tie ≡ true → Tie l.rest
  report_tie l e = ties_tie l.rest (found (climbs l) e)

  -- A line with a tie has no lawful tree,
  pub tie_unlawful : (t : Tree A) → Tie (line t).rest → Lawful t → ⊥
  tie_unlawful t k h = no_ties t h (tie_ties k)

  -- so the climb reports it.
  pub tie_report : (l : Line A) → Tie l.rest → (climb l).tie ≡ true
  tie_report l k = go (climb l).tie refl
    where
      go : (b : Bool) → (climb l).tie ≡ b → b ≡ true
      go true e = refl
      go false e = absurd (tie_unlawful (climb l).tree (rw (climb_line l) k) (climb_lawful l e))

  pub report_iff : (l : Line A) → ((climb l).tie ≡ true) ↔ Tie l.rest
  report_iff l = (report_tie l, tie_report l)

  no_report : (l : Line A) → (Tie l.rest → ⊥) → (climb l).tie ≡ false
  no_report l n = go (climb l).tie refl
    where
      go : (b : Bool) → (climb l).tie ≡ b → b ≡ false
      go true e = absurd (n (report_tie l e))
      go false e = refl

  -- A line without a tie has one lawful tree, and the climb returns it and reports nothing.
  pub without_tie : (l : Line A) → (Tie l.rest → ⊥) → Read l
  without_tie l n = let q = no_report l n in let h = climb_lawful l q in record
      { quiet = q; whole = climb_line l; lawful = h; only = λ t k e. unique t (climb l).tree k h (cc (climb_line l)) }

  -- A line with a tie has none, and the climb reports it.
  pub with_tie : (l : Line A) → Tie l.rest → Refused l
  with_tie l k = record { told = tie_report l k; none = λ t h e. tie_unlawful t (rw e k) h }

  -- So every line is the one or the other.
  pub each_line : (l : Line A) → Read l ⊎ Refused l
  each_line l = go (climb l).tie refl
    where
      go : (b : Bool) → (climb l).tie ≡ b → Read l ⊎ Refused l
      go true e = inr (with_tie l (report_tie l e))
      go false e = inl (without_tie l (λ k. true_false (sym (tie_report l k) ∙ e)))

  -- Each lawful tree, written as its line, is climbed back to itself, and nothing is reported.
  pub back : (t : Tree A) → Lawful t → climb (line t) ≡ record { tree = t; tie = false; left_over = [] }
  back t h = let r = without_tie (line t) (λ k. tie_unlawful t k h) in
      λ i. record { tree = sym (r.only t h refl) i; tie = r.quiet i; left_over = climb_all (line t) i }
