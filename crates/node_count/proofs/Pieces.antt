-- The records of a log as the pieces that the code counts: what they weigh is how many they are, and one more for each that is no token.
use Rattle.std.specs.Prelude.{ℕ, zero, suc, ◌+◌, ◌*◌, ◌/◌, ◌≤◌, ◌≡◌, refl, List, [], ◌∷◌, ◌++◌, Bool, true, false, not, cond, eqb, Some, None, length, get_or, take, drop, filter}
use Rattle.std.proofs.Common.{arith, ap, ◌∙◌, lit<, add_assoc, length-append}
use Rattle.std.proofs.lemmas.List.{get_or-drop, get_or-take, take_at, drop_at}
use denote.Ref.{Bor}
use Rattle.std.specs.declared.slice.ChunksExact.{ChunksExact}
use Rattle.std.specs.Slice.Iter.{chunks_exact_rest, chunks_exact_size, chunks_exact_steps}
use Rattle.std.proofs.lemmas.Iterator.{YieldsList}
use Rattle.std.proofs.lemmas.Iterator.Splits.{YieldsList-from_shown_while}
use Rattle.grammar.specs.World.{Rec}
use Rattle.grammar.specs.World.Rec.{took, ended}
use Rattle.parser.specs.View.{chunks, chunk_at, chunk_size, rec_of, took_tag}
use Rattle.node_count.specs.Log.{log_in}
use Rattle.node_count.specs.Counts.{weight}

-- the first n records
abbrev pub pieces : ℕ → List ℕ → List (List ℕ)
pieces zero xs = []
pieces (suc n) xs = take chunk_size xs ∷ pieces n (drop chunk_size xs)

-- whether a record is of a node that ended
abbrev pub ends : List ℕ → Bool
ends r = not (eqb (get_or r 0 0) took_tag)

-- the iterator gives them
pub yields : (s : ChunksExact ℕ) (xs : List ℕ) → chunks_exact_rest s ≡ xs → chunks_exact_size s ≡ chunk_size
    → YieldsList chunks_exact_steps (λ x. x.now) s (pieces (length xs / chunk_size) xs)
yields s xs e z =
    rw (← e) (YieldsList-from_shown_while chunks_exact_steps (λ x. x.now) (λ s. pieces (length (chunks_exact_rest s) / chunk_size) (chunks_exact_rest s)) (λ s. chunks_exact_size s ≡ chunk_size) none some s z)
  where
    none : (s t : ChunksExact ℕ) → chunks_exact_size s ≡ chunk_size → chunks_exact_steps s None t → length (pieces (length (chunks_exact_rest s) / chunk_size) (chunks_exact_rest s)) ≡ 0
    none s t z h = let e : length (chunks_exact_rest s) / chunk_size ≡ 0 = omega arith in rw e refl

    some : (s : ChunksExact ℕ) (x : Bor (List ℕ)) (t : ChunksExact ℕ) → chunks_exact_size s ≡ chunk_size → chunks_exact_steps s (Some x) t
        → (chunks_exact_size t ≡ chunk_size)
        × (pieces (length (chunks_exact_rest s) / chunk_size) (chunks_exact_rest s) ≡ x.now ∷ pieces (length (chunks_exact_rest t) / chunk_size) (chunks_exact_rest t))
    some s x t z h =
        let l : length x.now ≡ chunk_size = h.1.1 ∙ z in
        let n : length (x.now ++ chunks_exact_rest t) / chunk_size ≡ suc (length (chunks_exact_rest t) / chunk_size) = omega (arith, length-append x.now (chunks_exact_rest t)) in
        (h.0 ∙ z, rw (h.1.0, n, take_at x.now (chunks_exact_rest t) chunk_size l, drop_at x.now (chunks_exact_rest t) chunk_size l) refl)

-- the records behind the first are those of the bytes behind it
next : (xs : List ℕ) (i : ℕ) → chunk_at rec_of xs (suc i) ≡ chunk_at rec_of (drop chunk_size xs) i
next xs i =
    let e : chunk_size * suc i ≡ chunk_size + chunk_size * i = omega arith in
    rw e (simp (add_assoc, get_or-drop) refl)

front : (xs : List ℕ) (n : ℕ) → log_in xs (suc n) ≡ chunk_at rec_of xs 0 ∷ log_in (drop chunk_size xs) n
unfolding chunks
front xs zero = refl
front xs (suc n) =
    ap (λ (l : List Rec). l ++ (chunk_at rec_of xs (suc n) ∷ [])) (front xs n)
    ∙ ap (λ (r : Rec). chunk_at rec_of xs 0 ∷ (log_in (drop chunk_size xs) n ++ (r ∷ []))) (next xs n)

pub weighs : (n : ℕ) (xs : List ℕ) → weight (log_in xs n) ≡ n + length (filter ends (pieces n xs))
unfolding chunks weight
weighs zero xs = refl
weighs (suc n) xs =
    let ys = drop chunk_size xs in
    ap weight (front xs n)
    ∙ one (eqb (get_or xs 0 0) took_tag) _ _ (take chunk_size xs) (pieces n ys) (log_in ys n) (ap (λ (x : ℕ). not (eqb x took_tag)) (get_or-take chunk_size xs 0 0 (lit< tt))) (weighs n ys)
  where
    one : (t : Bool) (k v : ℕ) (p : List ℕ) (ps : List (List ℕ)) (l : List Rec) → ends p ≡ not t → weight l ≡ n + length (filter ends ps)
        → weight (elim t [ true ↦ took k v | false ↦ ended k v ] ∷ l) ≡ suc n + length (filter ends (p ∷ ps))
    one true k v p ps l e h = rw e (omega arith)
    one false k v p ps l e h = rw e (omega arith)

-- at most so many
pub at_most : (n : ℕ) (xs : List ℕ) → length (filter ends (pieces n xs)) ≤ n
at_most zero xs = omega arith
at_most (suc n) xs = one (ends (take chunk_size xs)) _ _ (at_most n (drop chunk_size xs))
  where
    one : (t : Bool) (p : List ℕ) (ps : List (List ℕ)) → length ps ≤ n → length (cond t (p ∷ ps) ps) ≤ suc n
    one true p ps h = omega arith
    one false p ps h = omega arith
