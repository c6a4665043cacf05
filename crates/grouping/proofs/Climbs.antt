-- The rules for expressions run the climb of crate lawful on a line.
use Rattle.std.specs.Prelude.{ℕ, suc, ◌+◌, ◌-◌, ◌≡◌, List, [], ◌∷◌, ◌++◌, Bool, true, false, eqb}
use Rattle.std.proofs.Math.Path.{refl}
use Rattle.grammar.specs.Tokens.{Token}
use Rattle.grammar.specs.Env.{Entry}
use Rattle.grammar.specs.World.{token_in}
use Rattle.grammar.specs.Prog.Prog.{ret, loop}
use Rattle.grammar.specs.Rule.{ExpPrec}
use Rattle.grammar.specs.Util as U
use Rattle.grammar.specs.Exp as X
use Rattle.grammar.specs.Root.{body}
use Rattle.grammar.specs.SyntaxKind as SK
use Rattle.laws.specs.Progress.{exp_step_advances}
use Rattle.laws.specs.Trees.{Forest, join}
use Rattle.laws.specs.Trees.Forest.{leaf, node}
use Rattle.lawful.specs.Terms.{Op, Step, Tree, Below, Min, or}
use Rattle.lawful.specs.Terms.Assoc.{left}
use Rattle.lawful.specs.Terms.Min.{min, infix_of_lem}
use Rattle.lawful.specs.Climb.{Takes, Stops, Loop}
use Rattle.lawful.specs.Climb.Takes.{free, inside, tied}
use Rattle.lawful.specs.Climb.Loop.{stop, turn}
use Rattle.lawful.specs.Apply.{Exp, Operand, apply_all, term}
use Rattle.lawful.specs.Apply.Exp.{atom, apply}
use Rattle.grouping.specs.Runs.{Goes, going, g_ret, g_bind, g_true, g_false, g_on, g_peek, g_from, g_close, g_take, g_marked, g_none, g_some, g_loop, g_call}
use Rattle.grouping.specs.Grouping.{Atom, Sign, Operator, Term, atom_node, nodes}
use Rattle.grouping.specs.Atoms.{NoDot, at_int, at_word}
use Rattle.grouping.specs.Climbs.{fixity_of, bare, tree, step_tokens, Atoms, Stand, min_of, Told, told_none, told_next, inward, breaks, Runs}

-- an operator is no dot
no_dot_sign : (t : Token) (ts : List Token) → Sign t.kind → NoDot (t ∷ ts)
unfolding token_in
no_dot_sign t ts s = go t.kind s
  where
    go : (k : ℕ) → Sign k → eqb (suc k) (SK.Dot + 1) ≡ false
    go k Sign.name = refl
    go k Sign.star = refl
    go k Sign.eq = refl

-- nor is any token of a line
pub no_dot : (E : List Entry) (ts : List Token) → Atoms E ts → (xs : List (Step (Operand Token))) → Stand E xs → NoDot (ts ++ step_tokens xs)
unfolding step_tokens token_in
no_dot E [] a [] v = refl
no_dot E [] a (s ∷ xs) v = no_dot_sign s.op.token [] v.0.sign
no_dot E (t ∷ ts) a xs v = go (ts ++ step_tokens xs) a.0
  where
    go : {E : List Entry} {t : Token} (us : List Token) → Atom E t → NoDot (t ∷ us)
    go us (Atom.literal e) = refl
    go us (Atom.name e) = refl

module _ {E : List Entry} {C n : ℕ} {ts : List Token} {f : Forest} {ps : List ℕ} {Q : ℕ → List Token → Forest → List ℕ → Type 0} {g : Bool} where
  -- at_exp at an atom
  at_atom : {t : Token} → Atom E t → NoDot ts → Q 1 ts (atom_node t f) ps → Goes E C n (t ∷ ts) f ps {g = g} X.at_exp Q
  unfolding atom_node
  at_atom (Atom.literal e) d h = at_int h
  at_atom (Atom.name e) d h = at_word e d h

module _ {E : List Entry} {C n : ℕ} {ts : List Token} {f : Forest} {ps : List ℕ} {Q : ℕ → List Token → Forest → List ℕ → Type 0} {g : Bool} where
  -- app_exp at an atom
  app_atom : {t : Token} → Atom E t → NoDot ts → Q 0 ts (node Forest.none SK.AppExp (atom_node t f)) ps → Goes E C n (t ∷ ts) f ps {g = g} X.app_exp Q
  unfolding X.app_exp X.at_exp_must
  app_atom a d h = g_marked (g_bind (g_bind (at_atom a d (g_false (g_ret (g_close h))))))

module _ {E : List Entry} {C n : ℕ} {ts : List Token} {f : Forest} {ps : List ℕ} {Q : ℕ → List Token → Forest → List ℕ → Type 0} (m : ExpPrec) where
  -- a turn of the loop at an atom
  step_atom : {t : Token} → Atom E t → NoDot ts → Q 1 ts (node Forest.none SK.AppExp (atom_node t f)) ps → Goes E C n (t ∷ ts) f ps (X.exp_step m) Q
  unfolding X.exp_step X.name_step token_in
  step_atom (Atom.literal e) d h = search (going, app_atom, Atom.literal) depth 40
  step_atom (Atom.name e) d h = search (going, g_none, app_atom, Atom.name) depth 40

  -- exp_prec at an atom
  pub scope_atom : {t : Token} → Atom E t → NoDot ts
      → Goes E C n ts (atom_node t f) ps (loop (X.exp_step m)) (λ _ ts' f' ps'. Goes E C n ts' f' ps' {g = false} (ret 1) Q) → Goes E C n (t ∷ ts) f ps (X.exp_scope m) Q
  unfolding X.exp_scope X.exp_rest X.exp_head token_in
  scope_atom (Atom.literal e) d h = search (going, at_atom, Atom.literal) depth 40
  scope_atom (Atom.name e) d h = search (going, at_atom, Atom.name) depth 40

-- a forest, and the nodes of a term behind it
pub join_nodes : (t : Term) (f : Forest) → join f (nodes t Forest.none) ≡ nodes t f
unfolding nodes join atom_node
join_nodes (Term.atom t) f = go (eqb t.kind SK.IntLit)
  where
    a : Forest → Forest
    a f = node f SK.SConExp (leaf Forest.none t.kind t.index)

    b : Forest → Forest
    b f = node f SK.PathExp (node Forest.none SK.Path (node Forest.none SK.NameStarEqDot (leaf Forest.none t.kind t.index)))

    go : (c : Bool) → join f (elim c [ true ↦ a Forest.none | false ↦ b Forest.none ]) ≡ elim c [ true ↦ a f | false ↦ b f ]
    go true = refl
    go false = refl
join_nodes (Term.apply g x) f = refl
join_nodes (Term.oper l t r) f = refl

-- the atoms of an operand are applied, one by one
pub apps : (E : List Entry) (C n : ℕ) (m : ExpPrec) (e : Exp Token) (ts : List Token) → Atoms E ts → (xs : List (Step (Operand Token))) → Stand E xs → (ps : List ℕ) (Q : ℕ → List Token → Forest → List ℕ → Type 0)
    → Goes E C n (step_tokens xs) (tree (apply_all e ts)) ps (loop (X.exp_step m)) Q → Goes E C n (ts ++ step_tokens xs) (tree e) ps (loop (X.exp_step m)) Q
unfolding nodes bare
apps E C n m e [] a xs v ps Q h = h
apps E C n m e (t ∷ ts) a xs v ps Q h =
    g_loop (exp_step_advances m n) (step_atom m a.0 (no_dot E ts a.1 xs v) (apps E C n m (apply e (atom t)) ts a.1 xs v ps Q h))

module _ {E : List Entry} {C n : ℕ} {ts : List Token} {f : Forest} {ps : List ℕ} {Q : ℕ → List Token → Forest → List ℕ → Type 0} where
  -- should_break_exp at an operator that the climb takes
  goes_on_lem : {m : Min} {o : Op} {b : Bool} → Takes m o b → ((ps' : List ℕ) → Told b ps ps' → Q 0 ts f ps') → Goes E C n ts f ps {g = false} (X.decide (X.verdict (ExpPrec.Infix (fixity_of o)) (min_of m))) Q
  unfolding X.decide
  goes_on_lem free h = g_ret (h ps (told_none ps))
  goes_on_lem (inside k) h = inward (inside k) h
  goes_on_lem (tied k) h = inward (tied k) h

-- an operator has one of the kinds that the loop looks up
is_sign : {k : ℕ} → Sign k → U.is_name_star_eq (suc k) ≡ true
is_sign Sign.name = refl
is_sign Sign.star = refl
is_sign Sign.eq = refl

-- what the loop leaves of a line stands as it stood
left_stand : (E : List Entry) {m : Min} {ex t : Tree (Operand Token)} {xs ys : List (Step (Operand Token))} {b : Bool} → Loop m ex xs t b ys → Stand E xs → Stand E ys
left_stand E (stop h) v = v
left_stand E (turn h f g) v = left_stand E g (left_stand E f v.3)

module _ (E : List Entry) (C : ℕ) where
  -- at the end of the line
  stop_end : (m : Min) (ex : Tree (Operand Token)) → Runs E C m ex [] ex false []
  unfolding step_tokens X.exp_step token_in
  stop_end m ex n ps Q h = g_loop (exp_step_advances (min_of m) n) (g_bind (g_peek (g_false (g_false (g_false (g_false (g_false (g_false (g_ret (h ps (told_none ps)))))))))))

  -- at an operator that ends the climb
  stop_at : (m : Op) (ex : Tree (Operand Token)) (s : Step (Operand Token)) (xs : List (Step (Operand Token))) → Operator E s.op.token (fixity_of s.op) → Below left s.op m
      → Runs E C (infix_of_lem m) ex (s ∷ xs) ex false (s ∷ xs)
  unfolding step_tokens X.exp_step X.name_step X.climb X.decide token_in
  stop_at m ex s xs o k n ps Q h =
      g_loop (exp_step_advances (min_of (infix_of_lem m)) n)
      (g_bind (g_peek (g_on (is_sign o.sign) (g_some o.fixity (g_bind (breaks k (g_false (g_ret (h ps (told_none ps))))))))))

  -- the right side of an operator, from the operand's first atom on
  right_at : (o : Op) (a : Operand Token) (r : Tree (Operand Token)) (xs ys : List (Step (Operand Token))) (c : Bool) → Atom E a.fun → Atoms E a.args → Stand E xs
      → Runs E C (infix_of_lem o) (Tree.leaf a) xs r c ys → (n : ℕ) (f : Forest) (ps : List ℕ) (Q : ℕ → List Token → Forest → List ℕ → Type 0)
      → ((ps' : List ℕ) → Told c ps ps' → Q 0 (step_tokens ys) (nodes (bare (term r)) f) ps')
      → Goes E C n (a.fun ∷ (a.args ++ step_tokens xs)) f ps (X.exp_must (ExpPrec.Infix (fixity_of o))) Q
  unfolding X.exp_must body nodes bare
  right_at o a r xs ys c v vs w h n f ps Q q =
      g_bind (g_call (g_from (scope_atom (ExpPrec.Infix (fixity_of o)) v (no_dot E a.args vs xs w)
      (apps E C n (ExpPrec.Infix (fixity_of o)) (atom a.fun) a.args vs xs w ps _
      (h n ps _ (λ ps' t. g_ret (g_false (g_ret (rw (join_nodes (bare (term r)) f) (q ps' t))))))))))

  -- at an operator that it takes
  turn_at : (m : Min) (ex r t : Tree (Operand Token)) (s : Step (Operand Token)) (xs ys zs : List (Step (Operand Token))) (b c d : Bool) → Stand E (s ∷ xs) → Takes m s.op b
      → Runs E C (infix_of_lem s.op) (Tree.leaf s.operand) xs r c ys → Runs E C m (Tree.node ex s.op r) ys t d zs → Runs E C m ex (s ∷ xs) t (or b (or c d)) zs
  unfolding step_tokens X.exp_step X.name_step X.climb X.right_side token_in nodes bare
  turn_at m ex r t s xs ys zs b c d v k f g n ps Q h =
      g_loop (exp_step_advances (min_of m) n)
      (g_bind (g_peek (g_on (is_sign v.0.sign) (g_some v.0.fixity (g_bind (goes_on_lem k (λ ps1 t1.
      g_true (g_bind (g_marked (g_bind (g_take (g_false (g_false (g_bind (right_at s.op s.operand r xs ys c v.1 v.2 v.3 f (n - 1) _ ps1 _ (λ ps2 t2.
      g_close (g_ret (g n ps2 Q (λ ps3 t3. h ps3 (told_next t1 (told_next t2 t3)))))))))))))))))))))

  -- The source's loop does what the climb does.
  pub climbs : {m : Min} {ex t : Tree (Operand Token)} {xs ys : List (Step (Operand Token))} {b : Bool} → Loop m ex xs t b ys → Stand E xs → Runs E C m ex xs t b ys
  climbs (stop {m} {ex} {xs} h) v = ends m ex xs h v
    where
      ends : (m : Min) (ex : Tree (Operand Token)) (xs : List (Step (Operand Token))) → Stops m xs → Stand E xs → Runs E C m ex xs ex false xs
      ends m ex [] h v = stop_end m ex
      ends min ex (s ∷ xs) h v = absurd h
      ends (infix_of_lem m) ex (s ∷ xs) h v = stop_at m ex s xs v.0 h
  climbs (turn {m} {ex} {r} {t} {s} {xs} {ys} {zs} {b} {c} {d} h f g) v =
      turn_at m ex r t s xs ys zs b c d v h (climbs f v.3) (climbs g (left_stand E f v.3))
