-- Lists of entries in the order of their names: what `put` and `remove` do to a look, to the order and to the length.
use Rattle.std.specs.Prelude.{ℕ, ◌+◌, ◌≤◌, ◌≡◌, refl, List, [], ◌∷◌, true, false, length}
use Rattle.std.proofs.Common.{arith}
use Rattle.std.proofs.Math.Option.{Option, none, some}
use Rattle.grammar.specs.Bytes.{same, before}
use Rattle.grammar.specs.Env.{Infix, Entry, find, put, remove}
use Rattle.grammar.specs.World.{changed}
use Rattle.sml_fixity.specs.Names.{by_test, same_refl, same_eq, before_irrefl, before_trans, before_total}

-- the names come one behind the other, the first behind x
pub data Chain : List ℕ → List Entry → Type 0 where
  end : {x : List ℕ} → Chain x []
  link : {x : List ℕ} {e : Entry} {es : List Entry} → before x e.name ≡ true → Chain e.name es → Chain x (e ∷ es)

abbrev pub Sorted : List Entry → Type 0
Sorted [] = Unit
Sorted (e ∷ es) = Chain e.name es

-- how many entries a name has: 1 where it has a fixity
abbrev pub count : Option Infix → ℕ
count none = 0
count (some i) = 1

pub count_small : (c : Option Infix) → count c ≤ 1
count_small none = omega arith
count_small (some i) = omega arith

-- ---- the order

pub chain_sorted : {x : List ℕ} {es : List Entry} → Chain x es → Sorted es
chain_sorted end = tt
chain_sorted (link p c) = c

chain_from : (y : List ℕ) {x : List ℕ} {es : List Entry} → before y x ≡ true → Chain x es → Chain y es
chain_from y h end = end
chain_from y {x} h (link {e = e} p c) = link (before_trans y x e.name h p) c

-- the name that all others are behind is not among them
pub chain_none : (x : List ℕ) (es : List Entry) → Chain x es → find x es ≡ none
unfolding find
chain_none x [] c = refl
chain_none x (e ∷ es) (link p c) =
    by_test (same x e.name) (λ s. let q : before x x ≡ true = rw (← same_eq x e.name s) at p in cc (before_irrefl x))
    (λ s. rw (s, find) (chain_none x es (chain_from x p c)))

chain_put : {x : List ℕ} (y : List ℕ) (i : Infix) {es : List Entry} → before x y ≡ true → Chain x es → Chain x (put y i es)
unfolding put
chain_put y i h end = link h end
chain_put y i h (link {e = e} p c) =
    by_test (same y e.name) (λ s. rw (s, put) (link h (rw (← same_eq y e.name s) at c)))
    (λ s. by_test (before y e.name) (λ b. rw (s, b, put) (link h (link b c)))
    (λ b. rw (s, b, put) (link p (chain_put y i (before_total y e.name s b) c))))

chain_remove : {x : List ℕ} (y : List ℕ) {es : List Entry} → Chain x es → Chain x (remove y es)
unfolding remove
chain_remove y end = end
chain_remove {x} y (link {e = e} p c) =
    by_test (same y e.name) (λ s. rw (s, remove) (chain_from x p c)) (λ s. rw (s, remove) (link p (chain_remove y c)))

sorted_put : (y : List ℕ) (i : Infix) (es : List Entry) → Sorted es → Sorted (put y i es)
unfolding put
sorted_put y i [] h = end
sorted_put y i (e ∷ es) h =
    by_test (same y e.name) (λ s. rw (s, put) (rw (same_eq y e.name s) h))
    (λ s. by_test (before y e.name) (λ b. rw (s, b, put) (link b h))
    (λ b. rw (s, b, put) (chain_put y i (before_total y e.name s b) h)))

sorted_remove : (y : List ℕ) (es : List Entry) → Sorted es → Sorted (remove y es)
unfolding remove
sorted_remove y [] h = tt
sorted_remove y (e ∷ es) h =
    by_test (same y e.name) (λ s. rw (s, remove) (chain_sorted h)) (λ s. rw (s, remove) (chain_remove y h))

pub sorted_changed : (c : Option Infix) (y : List ℕ) (es : List Entry) → Sorted es → Sorted (changed c y es)
sorted_changed none y es h = sorted_remove y es h
sorted_changed (some i) y es h = sorted_put y i es h

-- ---- a look after a change

put_same : (x : List ℕ) (i : Infix) (es : List Entry) → find x (put x i es) ≡ some i
unfolding find put
put_same x i [] = rw (same_refl x, find)
put_same x i (e ∷ es) =
    by_test (same x e.name) (λ s. rw (s, put) (rw (same_refl x, find)))
    (λ s. by_test (before x e.name) (λ b. rw (s, b, put) (rw (same_refl x, find))) (λ b. rw (s, b, put) (rw (s, find) (put_same x i es))))

put_other : (x y : List ℕ) (i : Infix) (es : List Entry) → same x y ≡ false → find x (put y i es) ≡ find x es
unfolding find put
put_other x y i [] h = rw (h, find)
put_other x y i (e ∷ es) h =
    by_test (same y e.name)
    (λ s. let n : same x e.name ≡ false = rw (← same_eq y e.name s) h in rw (s, put) (rw (h, n, find)))
    (λ s. by_test (before y e.name) (λ b. rw (s, b, put) (rw (h, find)))
    (λ b. rw (s, b, put) (by_test (same x e.name) (λ t. rw (t, find)) (λ t. rw (t, find) (put_other x y i es h)))))

remove_same : (x : List ℕ) (es : List Entry) → Sorted es → find x (remove x es) ≡ none
unfolding find remove
remove_same x [] h = refl
remove_same x (e ∷ es) h =
    by_test (same x e.name) (λ s. rw (s, remove) (rw (same_eq x e.name s) (chain_none e.name es h)))
    (λ s. rw (s, remove) (rw (s, find) (remove_same x es (chain_sorted h))))

remove_other : (x y : List ℕ) (es : List Entry) → same x y ≡ false → find x (remove y es) ≡ find x es
unfolding find remove
remove_other x y [] h = refl
remove_other x y (e ∷ es) h =
    by_test (same y e.name)
    (λ s. let n : same x e.name ≡ false = rw (← same_eq y e.name s) h in rw (s, remove) (rw (n, find)))
    (λ s. rw (s, remove) (by_test (same x e.name) (λ t. rw (t, find)) (λ t. rw (t, find) (remove_other x y es h))))

pub changed_same : (c : Option Infix) (x : List ℕ) (es : List Entry) → Sorted es → find x (changed c x es) ≡ c
changed_same none x es h = remove_same x es h
changed_same (some i) x es h = put_same x i es

pub changed_other : (c : Option Infix) (x y : List ℕ) (es : List Entry) → same x y ≡ false → find x (changed c y es) ≡ find x es
changed_other none x y es h = remove_other x y es h
changed_other (some i) x y es h = put_other x y i es h

-- ---- the length after a change

length_put : (x : List ℕ) (i : Infix) (es : List Entry) → Sorted es → length (put x i es) + count (find x es) ≡ length es + 1
unfolding find put
length_put x i [] h = refl
length_put x i (e ∷ es) h =
    by_test (same x e.name) (λ s. rw (s, put, find) (omega arith))
    (λ s. by_test (before x e.name) (λ b. rw (s, b, put, find) (rw (chain_none x es (chain_from x b h)) (omega arith)))
    (λ b. rw (s, b, put, find) (omega (arith, length_put x i es (chain_sorted h)))))

pub length_remove : (x : List ℕ) (es : List Entry) → length (remove x es) + count (find x es) ≡ length es
unfolding find remove
length_remove x [] = refl
length_remove x (e ∷ es) =
    by_test (same x e.name) (λ s. rw (s, remove, find) (omega arith)) (λ s. rw (s, remove, find) (omega (arith, length_remove x es)))

pub length_changed : (c : Option Infix) (x : List ℕ) (es : List Entry) → Sorted es → length (changed c x es) + count (find x es) ≡ length es + count c
length_changed none x es h = omega (arith, length_remove x es)
length_changed (some i) x es h = length_put x i es h

-- ---- the first entry, and those behind it

pub first : (e : Entry) (es : List Entry) → find e.name (e ∷ es) ≡ some e.fixity
unfolding find
first e es = rw (same_refl e.name, find)

pub behind : (x : List ℕ) (e : Entry) (es : List Entry) → same x e.name ≡ false → find x (e ∷ es) ≡ find x es
unfolding find
behind x e es h = rw (h, find)
