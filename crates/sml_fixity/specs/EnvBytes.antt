-- The byte form of an environment, entry by entry, and the order of its entries.
use Rattle.std.specs.Prelude.{ℕ, zero, suc, ◌+◌, ◌≤◌, ◌≡◌, refl, List, [], ◌∷◌, Bool, true, false, ◌&&◌, leb, length, get_or, take, drop}
use Rattle.std.proofs.Common.{arith, leb-true, length-take}
use Rattle.std.proofs.Math.Option.{Option, none, some}
use Rattle.grammar.specs.Bytes.{same, before}
use Rattle.grammar.specs.Env.{Entry, find, entry_in, entry_fits, entries_of, env_of, Right, max_name, max_entries}
use Rattle.sml_fixity.specs.Names.{by_test, same_eq}
use Rattle.sml_fixity.specs.Entries.{Chain, Sorted, chain_sorted}
use Rattle.sml_fixity.specs.Entries.Chain.{end, link}
use Rattle.sml_fixity.specs.Table.{Short}

-- an entry whose name is n bytes long and comes behind `last` is whole at the front of the bytes
pub record Whole (last : List ℕ) (n : ℕ) (bytes : List ℕ) : Type 0 where
  pub sized : n ≤ max_name
  pub room : n + 3 ≤ length bytes
  pub order : before last (take n bytes) ≡ true
  pub kind : get_or bytes (n + 2) 0 ≤ Right

pub both : (a b : Bool) → (a && b) ≡ true → (a ≡ true) × (b ≡ true)
both true b h = (refl, h)
both false b h = let z : ◌≡◌ {A = ℕ} 0 1 = cc in absurd (omega arith)

whole : (last : List ℕ) (n : ℕ) (bytes : List ℕ) → entry_fits last n bytes ≡ true → Whole last n bytes
unfolding entry_fits
whole last n bytes h =
    let sized = leb 1 n && leb n max_name in
    let room = leb (n + 3) (length bytes) in
    let order = before last (take n bytes) in
    let kind = leb (get_or bytes (n + 2) 0) Right in
    let p = both (sized && room && order) kind h in
    let q = both (sized && room) order p.0 in
    record {
      sized = leb-true n max_name (both (leb 1 n) (leb n max_name) (both sized room q.0).0).1;
      room = leb-true (n + 3) (length bytes) (both sized room q.0).1;
      order = q.1;
      kind = leb-true (get_or bytes (n + 2) 0) Right p.1;
    }

-- the first entry and the others
pub record Entered (k : ℕ) (last : List ℕ) (n : ℕ) (bytes : List ℕ) (es : List Entry) : Type 0 where
  pub rest : List Entry
  pub whole : Whole last n bytes
  pub is : es ≡ entry_in n bytes ∷ rest
  pub others : entries_of k (take n bytes) (drop (n + 3) bytes) ≡ some rest

pub entered : (k : ℕ) (last : List ℕ) (n : ℕ) (bytes : List ℕ) (es : List Entry) → entries_of (suc k) last (n ∷ bytes) ≡ some es → Entered k last n bytes es
unfolding entries_of
entered k last n bytes es h =
    by_test (entry_fits last n bytes) (λ f. go f (entries_of k (take n bytes) (drop (n + 3) bytes)) refl)
    (λ f. let q : none ≡ some es = rw (f, entries_of) at h in let z : ◌≡◌ {A = ℕ} 0 1 = cc in absurd (omega arith))
  where
    go : entry_fits last n bytes ≡ true → (o : Option (List Entry)) → entries_of k (take n bytes) (drop (n + 3) bytes) ≡ o → Entered k last n bytes es
    go f none e =
        let q : none ≡ some es = rw (f, e, entries_of) at h in
        let z : ◌≡◌ {A = ℕ} 0 1 = cc in absurd (omega arith)
    go f (some rest) e =
        let q : some (entry_in n bytes ∷ rest) ≡ some es = rw (f, e, entries_of) at h in
        record { rest = rest; whole = whole last n bytes f; is = cc; others = e }

pub no_entries : (k : ℕ) (last : List ℕ) (es : List Entry) → entries_of k last [] ≡ some es → es ≡ []
unfolding entries_of
no_entries zero last es h = cc
no_entries (suc k) last es h = cc

entries_chain : (k : ℕ) (last bytes : List ℕ) (es : List Entry) → entries_of k last bytes ≡ some es → Chain last es
unfolding entries_of
entries_chain zero last [] es h = rw (no_entries zero last es h) end
entries_chain zero last (n ∷ bytes) es h = let z : ◌≡◌ {A = ℕ} 0 1 = cc in absurd (omega arith)
entries_chain (suc k) last [] es h = rw (no_entries (suc k) last es h) end
entries_chain (suc k) last (n ∷ bytes) es h =
    let s = entered k last n bytes es h in
    rw s.is (link s.whole.order (entries_chain k (take n bytes) (drop (n + 3) bytes) s.rest s.others))

pub sorted_env : (env : List ℕ) (es : List Entry) → env_of env ≡ some es → Sorted es
unfolding env_of
sorted_env env es h = chain_sorted (entries_chain max_entries [] env es h)

entries_few : (k : ℕ) (last bytes : List ℕ) (es : List Entry) → entries_of k last bytes ≡ some es → length es ≤ k
unfolding entries_of
entries_few zero last [] es h = rw (no_entries zero last es h) (omega arith)
entries_few zero last (n ∷ bytes) es h = let z : ◌≡◌ {A = ℕ} 0 1 = cc in absurd (omega arith)
entries_few (suc k) last [] es h = rw (no_entries (suc k) last es h) (omega arith)
entries_few (suc k) last (n ∷ bytes) es h =
    let s = entered k last n bytes es h in
    rw s.is (omega (arith, entries_few k (take n bytes) (drop (n + 3) bytes) s.rest s.others))

pub env_few : (env : List ℕ) (es : List Entry) → env_of env ≡ some es → length es ≤ max_entries
unfolding env_of
env_few env es h = entries_few max_entries [] env es h

-- a name that has a fixity in them has a length of one byte
entries_short : (k : ℕ) (last bytes : List ℕ) (es : List Entry) → entries_of k last bytes ≡ some es → (x : List ℕ) → Short x (find x es)
unfolding entries_of find
entries_short zero last [] es h x = rw (no_entries zero last es h) tt
entries_short zero last (n ∷ bytes) es h x = let z : ◌≡◌ {A = ℕ} 0 1 = cc in absurd (omega arith)
entries_short (suc k) last [] es h x = rw (no_entries (suc k) last es h) tt
entries_short (suc k) last (n ∷ bytes) es h x =
    let s = entered k last n bytes es h in
    rw s.is
    (by_test (same x (take n bytes))
    (λ e. rw (e, find) (rw (same_eq x (take n bytes) e) (omega (arith, length-take n bytes, s.whole.sized))))
    (λ e. rw (e, find) (entries_short k (take n bytes) (drop (n + 3) bytes) s.rest s.others x)))

pub env_short : (env : List ℕ) (es : List Entry) → env_of env ≡ some es → (x : List ℕ) → Short x (find x es)
unfolding env_of
env_short env es h x = entries_short max_entries [] env es h x
