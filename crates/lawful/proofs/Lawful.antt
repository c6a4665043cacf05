-- One line has at most one lawful tree, and none where it has a tie.
use Rattle.std.specs.Prelude.{◌≤◌, ◌≡◌, refl, ◌⊎◌}
use Rattle.std.proofs.Common.{ap, sym, inl, inr, arith}
use mathlib.Core.List.Memᴰ
use mathlib.Core.List.{List, [], ◌∷◌, ◌++◌, Memᴰ}
use Rattle.lawful.specs.Terms.{Assoc, Op, Step, Line, Tree, line, Below, Child, Lawful, Tied}
use Rattle.lawful.specs.Terms.Assoc.{left, right}
use Rattle.lawful.specs.Terms.Tree.{leaf, node}
use Rattle.lawful.specs.Terms.Below.{higher, same}
use Rattle.lawful.specs.Lawful.{two_sides, not_both, not_tied, below_same, same_line, Meets, Ties, tied_sym}

below_other : {s t : Assoc} {o p q : Op} → (s ≡ t → ⊥) → Below s o p → Below t p q → Below s o q
below_other n (higher h) (higher k) = higher (omega arith)
below_other n (higher h) (same k a b) = higher (omega arith)
below_other n (same h a b) (higher k) = higher (omega arith)
below_other n (same h a b) (same k c d) = absurd (n (cc))

below_any : {s : Assoc} (t : Assoc) {o p q : Op} → Below s o p → Below t p q → Below s o q
below_any {s = left} left = below_same
below_any {s = left} right = below_other (λ e. two_sides refl e)
below_any {s = right} left = below_other (λ e. two_sides e refl)
below_any {s = right} right = below_same

-- Where a member of a joined list stands.
in_join : {X P : Type 0} {x y : X} (xs : List X) {ys : List X} → Memᴰ x (xs ++ (y ∷ ys))
    → (Memᴰ x xs → P) → (x ≡ y → P) → (Memᴰ x ys → P) → P
in_join {P} {x} {y} xs {ys} m f g h = go (Memᴰ.append_cases xs m)
  where
    behind : (x ≡ y) ⊎ Memᴰ x ys → P
    behind (inl e) = g e
    behind (inr m) = h m

    go : Memᴰ x xs ⊎ Memᴰ x (y ∷ ys) → P
    go (inl m) = f m
    go (inr m) = behind (Memᴰ.cases_cons m)

at_join : {X : Type 0} (xs : List X) {y : X} (ys : List X) {zs : List X} → xs ++ (y ∷ ys) ≡ zs → Memᴰ y zs
at_join xs ys e = rw (← e) (Memᴰ.append_right xs (Memᴰ.head refl))

-- Two ways to join one list: at one place, or each of the two joints stands in a part of the other way.
same_join : {X P : Type 0} (xs xs' : List X) {y y' : X} {ys ys' : List X} → xs ++ (y ∷ ys) ≡ xs' ++ (y' ∷ ys')
    → (xs ≡ xs' → y ≡ y' → ys ≡ ys' → P) → (Memᴰ y xs' → Memᴰ y' ys → P) → (Memᴰ y' xs → Memᴰ y ys' → P) → P
same_join [] [] e f g h = f refl (cc) (cc)
same_join [] (x ∷ xs') {ys' = ys'} e f g h = g (Memᴰ.head (cc)) (at_join xs' ys' (cc))
same_join (x ∷ xs) [] {ys = ys} e f g h = h (Memᴰ.head (cc)) (at_join xs ys (cc))
same_join (x ∷ xs) (x' ∷ xs') e f g h =
    same_join xs xs' (cc) (λ p q r. f (cc) q r) (λ m m'. g (Memᴰ.tail m) m') (λ m m'. h (Memᴰ.tail m) m')

not_nil : {X : Type 0} (xs : List X) (y : X) (ys : List X) → xs ++ (y ∷ ys) ≡ [] → ⊥
not_nil xs y ys e = elim (at_join xs ys e) [ ]

module _ {A : Type 0} where
  abbrev In : Step A → List (Step A) → Type 0
  In x xs = Memᴰ x xs

  -- in a lawful tree that may stand below o, each operator may
  all_below : (s : Assoc) (o : Op) (t : Tree A) → Child s o t → Lawful t → (x : Step A) → In x (line t).rest → Below s o x.op
  all_below s o (leaf a) c h x m = absurd (elim m [ ])
  all_below s o (node l p r) c h x m =
      in_join (line l).rest m
      (λ m. below_any left c (all_below left p l h.0 h.2 x m))
      (λ e. rw e c)
      (λ m. below_any right c (all_below right p r h.1 h.3 x m))

  -- two lawful trees of one line are equal
  pub unique : (t u : Tree A) → Lawful t → Lawful u → line t ≡ line u → t ≡ u
  unique (leaf a) (leaf b) h k e = ap (λ (l : Line A). leaf l.first) e
  unique (leaf a) (node l o r) h k e = absurd (not_nil (line l).rest _ _ (sym (ap (λ (l : Line A). l.rest) e)))
  unique (node l o r) (leaf a) h k e = absurd (not_nil (line l).rest _ _ (ap (λ (l : Line A). l.rest) e))
  unique (node l o r) (node l' o' r') h k e =
      same_join (line l).rest (line l').rest (ap (λ (l : Line A). l.rest) e)
      (λ p q w.
      let l≡ = unique l l' h.2 k.2 (same_line (ap (λ (l : Line A). l.first) e) p) in
      let r≡ = unique r r' h.3 k.3 (same_line (ap (λ (s : Step A). s.operand) q) w) in
      let o≡ = ap (λ (s : Step A). s.op) q in
      cc)
      (λ m m'. absurd (not_both (all_below left o' l' k.0 k.2 _ m) (all_below right o r h.1 h.3 _ m')))
      (λ m m'. absurd (not_both (all_below left o l h.0 h.2 _ m) (all_below right o' r' k.1 k.3 _ m')))

-- Two operators on the two sides of o are not tied, unless o is lower.
across : {o p q : Op} → Below left o p → p.prec ≤ o.prec → Below right o q → Tied p q → ⊥
across (higher h) l k t = omega arith
across (same h a b) l (higher k) t = let e = t.level in omega arith
across (same h a b) l (same k c d) t = two_sides a c

module _ {A : Type 0} where
  meets_in : {P : Type 0} (o : Op) (xs : List (Step A)) → Meets o xs → ((x : Step A) → In x xs → Tied o x.op → P) → P
  meets_in o [] m f = absurd m
  meets_in o (x ∷ xs) (inl h) f = f x (Memᴰ.head refl) h
  meets_in o (x ∷ xs) (inr p) f = meets_in o xs p.1 (λ y m. f y (Memᴰ.tail m))

  meets_join : {P : Type 0} (o : Op) (xs ys : List (Step A)) → Meets o (xs ++ ys) → (Meets o xs → P) → (Meets o ys → P) → P
  meets_join o [] ys m f g = g m
  meets_join o (x ∷ xs) ys (inl h) f g = f (inl h)
  meets_join o (x ∷ xs) ys (inr p) f g = meets_join o xs ys p.1 (λ m. f (inr (p.0, m))) g

  ties_join : {P : Type 0} (xs ys : List (Step A)) → Ties (xs ++ ys)
      → (Ties xs → P) → ((x : Step A) → In x xs → Meets x.op ys → P) → (Ties ys → P) → P
  ties_join [] ys t f g h = h t
  ties_join (x ∷ xs) ys (inl m) f g h = meets_join x.op xs ys m (λ m. f (inl m)) (g x (Memᴰ.head refl))
  ties_join (x ∷ xs) ys (inr t) f g h = ties_join xs ys t (λ t. f (inr t)) (λ y m. g y (Memᴰ.tail m)) h

  -- a lawful tree's line has no tie
  pub no_ties : (t : Tree A) → Lawful t → Ties (line t).rest → ⊥
  no_ties (leaf a) h t = t
  no_ties (node l o r) h t = ties_join (line l).rest (s ∷ (line r).rest) t (no_ties l h.2) cross (behind (no_ties r h.3))
    where
      s : Step A
      s = record { op = o; operand = (line r).first }

      on_left : (x : Step A) → In x (line l).rest → Below left o x.op
      on_left = all_below left o l h.0 h.2

      on_right : (x : Step A) → In x (line r).rest → Below right o x.op
      on_right = all_below right o r h.1 h.3

      cross : (x : Step A) → In x (line l).rest → Meets x.op (s ∷ (line r).rest) → ⊥
      cross x m (inl d) = not_tied left (on_left x m) (tied_sym d)
      cross x m (inr p) = meets_in x.op (line r).rest p.1 (λ y n d. across (on_left x m) p.0 (on_right y n) d)

      behind : (Ties (line r).rest → ⊥) → Ties (s ∷ (line r).rest) → ⊥
      behind f (inl m) = meets_in o (line r).rest m (λ y n d. not_tied right (on_right y n) d)
      behind f (inr t) = f t
