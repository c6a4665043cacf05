-- A name in force is an entry's or a change's; and fewer names come after a later one of them.
use Prim.Native.Nat.{ℕ, zero, suc, ◌+◌, ◌≤◌, ◌<◌}
use native.Mathlib.Omega.{arith}
use mathlib.Core.Path.{◌≡◌, ◌∙◌}
use mathlib.Core.List.{List, [], ◌∷◌, ◌++◌}
use mathlib.Core.Option.{none, some}
use mathlib.Core.Bool.{true, false}
use borrow.Author.Tests.{le-leb}
use lib.ListN.{length, get_or, take, drop, length-drop}
use Rattle.std.specs.List.{All, Contains, filter}
use Rattle.std.proofs.lemmas.List.Elements.{All-head, All-tail, All-take, All-drop}
use Rattle.std.proofs.lemmas.List.{take_at, drop_at}
use Rattle.std.proofs.lemmas.List.FromFn.{get_or-map-range_with_len, length-map-range_with_len}
use Rattle.grammar.specs.Bytes.{same, before}
use Rattle.grammar.specs.Env.{Entry, find, entry_in, entries_of, env_of, max_entries}
use Rattle.sml_fixity.specs.Names.{by_test, before_irrefl, before_trans}
use Rattle.sml_fixity.specs.Entries.{Sorted, behind}
use Rattle.sml_fixity.specs.EnvBytes.{entered, no_entries}
use Rattle.sml_fixity.specs.Table.{name_at, in_force}
use Rattle.sml_fixity.proofs.Journals.{untouched}
use Rattle.env_bytes.specs.Names.{names_by, names_in, changed_names}

-- ---- names in force

-- a name that no entry of whole bytes has
unnamed : (k j : ℕ) (last bytes : List ℕ) (es : List Entry) → entries_of k last bytes ≡ some es → length bytes ≤ j → (x : List ℕ) → All (λ y. same x y ≡ false) (names_by j bytes) → find x es ≡ none
unfolding names_by find entries_of
unnamed k j last [] es h l x f = rw (no_entries k last es h)
unnamed zero j last (n ∷ bytes) es h l x f = cc
unnamed (suc k) zero last (n ∷ bytes) es h l x f = absurd (omega arith)
unnamed (suc k) (suc j) last (n ∷ bytes) es h l x f =
    let s = entered k last n bytes es h in
    let P = λ (y : List ℕ). same x y ≡ false in
    let rest = names_by j (drop (n + 3) bytes) in
    let g : All P (take n bytes ∷ rest) = rw (le-leb (n + 3) (length bytes) s.whole.room, names_by) at f in
    rw s.is (behind x (entry_in n bytes) s.rest (All-head P (take n bytes) rest g) ∙ unnamed k j (take n bytes) (drop (n + 3) bytes) s.rest s.others (rw length-drop (omega arith)) x (All-tail P (take n bytes) rest g))

module _ (text : List ℕ) (env : List ℕ) (es : List Entry) (journal : List ℕ) (n : ℕ) where
  -- a name that is none of theirs is not in force
  pub not_among : env_of env ≡ some es → Sorted es → (x : List ℕ) → All (λ y. same x y ≡ false) (names_in env ++ changed_names text journal n) → find x (in_force text es journal n) ≡ none
  unfolding env_of names_in
  not_among h sorted x f =
      let P = λ (y : List ℕ). same x y ≡ false in
      let entries = names_in env in
      let changes = changed_names text journal n in
      let a = rw take_at at (All-take P (length entries) (entries ++ changes) f) in
      let b = rw drop_at at (All-drop P (length entries) (entries ++ changes) f) in
      untouched text es journal sorted x n (λ i l. rw (get_or-map-range_with_len (name_at text journal) 0 n i i [] l (omega arith)) at (b i [] (rw length-map-range_with_len l)))
      ∙ unnamed max_entries (length env) [] env es h (omega arith) x a

-- ---- how many come after

module _ (y z : List ℕ) (h : before y z ≡ true) where
  no_more : (xs : List (List ℕ)) → length (filter (before z) xs) ≤ length (filter (before y) xs)
  no_more [] = omega arith
  no_more (x ∷ xs) =
      by_test (before z x) (λ q. rw (q, before_trans y z x h q) (omega (arith, no_more xs)))
      (λ q. by_test (before y x) (λ r. rw (q, r) (omega (arith, no_more xs))) (λ r. rw (q, r) (no_more xs)))

  fewer_at : (xs : List (List ℕ)) (k : ℕ) → k < length xs → get_or xs k z ≡ z → length (filter (before z) xs) < length (filter (before y) xs)
  fewer_at [] k l e = absurd (omega arith)
  fewer_at (x ∷ xs) zero l e = rw (e, before_irrefl z, h) (omega (arith, no_more xs))
  fewer_at (x ∷ xs) (suc k) l e =
      let less = fewer_at xs k (omega arith) e in
      by_test (before z x) (λ q. rw (q, before_trans y z x h q) (omega (arith, less)))
      (λ q. by_test (before y x) (λ r. rw (q, r) (omega (arith, less))) (λ r. rw (q, r) less))

  pub fewer : (xs : List (List ℕ)) → Contains xs z → length (filter (before z) xs) < length (filter (before y) xs)
  fewer xs c = fewer_at xs c.0 c.1 c.2
