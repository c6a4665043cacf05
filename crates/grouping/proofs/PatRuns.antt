-- The rules for patterns run the climb of crate lawful on a pattern's line.
use Rattle.std.specs.Prelude.{ℕ, suc, ◌+◌, ◌-◌, ◌≡◌, Bool, true}
use Rattle.std.proofs.Math.Path.{refl}
use Rattle.std.proofs.Common.{ap, ◌∙◌}
use mathlib.Core.List.{List, [], ◌∷◌, ◌++◌}
use Rattle.std.proofs.Math.Option.{none}
use Rattle.std.proofs.Math.Bool.{false}
use Rattle.std.proofs.Math.Dec.{eqb}
use Rattle.grammar.specs.Tokens.{Token}
use Rattle.grammar.specs.Env.{Entry, find}
use Rattle.grammar.specs.World.{token_in}
use Rattle.grammar.specs.Prog.Prog.{ret, loop}
use Rattle.grammar.specs.Rule.{PatPrec}
use Rattle.grammar.specs.Util as U
use Rattle.grammar.specs.Pat as P
use Rattle.grammar.specs.Root.{body}
use Rattle.grammar.specs.SyntaxKind as SK
use Rattle.laws.specs.Progress.{pat_step_advances}
use Rattle.laws.specs.Trees.{Forest, join}
use Rattle.laws.specs.Trees.Forest.{leaf, node}
use Rattle.lawful.specs.Terms.{Op, Step, Tree, Below, Min, or}
use Rattle.lawful.specs.Terms.Assoc.{left}
use Rattle.lawful.specs.Terms.Min.{min, infix_of_lem}
use Rattle.lawful.specs.Climb.{Takes, Stops, Loop}
use Rattle.lawful.specs.Climb.Takes.{free, inside, tied}
use Rattle.lawful.specs.Climb.Loop.{stop, turn}
use Rattle.lawful.specs.Apply.{Operand, term}
use Rattle.grouping.specs.Grouping.{Atom, Sign, Term}
use Rattle.grouping.specs.Patterns.{con_path, pat_atom, pat_nodes}
use Rattle.grouping.specs.Runs.{Goes, going, g_ret, g_bind, g_true, g_false, g_on, g_peek, g_from, g_close, g_take, g_marked, g_none, g_some, g_loop, g_call}
use Rattle.grouping.specs.Atoms.{int, word, NoDot, no_infix_word}
use Rattle.grouping.specs.Climbs.{fixity_of, bare, step_tokens, Told, told_none, told_next, inward, breaks}
use Rattle.grouping.specs.PatRuns.{Y, PatFit, PatStand, pat_tree, pat_min}

-- a forest, and the nodes of a pattern behind it
pub join_pat : (t : Term) (f : Forest) → join f (pat_nodes t Forest.none) ≡ pat_nodes t f
unfolding pat_nodes join pat_atom
join_pat (Term.atom t) f = go (eqb t.kind SK.IntLit)
  where
    a : Forest → Forest
    a f = node f SK.SConPat (leaf Forest.none t.kind t.index)

    b : Forest → Forest
    b f = node f SK.ConPat (con_path t)

    go : (c : Bool) → join f (elim c [ true ↦ a Forest.none | false ↦ b Forest.none ]) ≡ elim c [ true ↦ a f | false ↦ b f ]
    go true = refl
    go false = refl
join_pat (Term.apply g x) f = refl
join_pat (Term.oper l t r) f = refl

module _ {E : List Entry} {C n : ℕ} {ts : List Token} {f : Forest} {ps : List ℕ} {Q : ℕ → List Token → Forest → List ℕ → Type 0} {g : Bool} where
  -- at_pat at an atom
  at_pat_lem : {t : Token} → Atom E t → NoDot ts → Q 1 ts (pat_atom t f) ps → Goes E C n (t ∷ ts) f ps {g = g} (P.at_pat Y) Q
  unfolding P.at_pat P.at_pat_head P.con_path pat_atom join token_in
  at_pat_lem (Atom.literal e) d h = search going depth 40
  at_pat_lem (Atom.name e) d h =
      g_bind (g_peek (g_false (g_marked (g_from (g_false (g_false (g_false (g_true (g_bind (g_true (no_infix_word e d (g_bind (g_close (g_ret h))))))))))))))

module _ {E : List Entry} {C n : ℕ} {ts : List Token} {f : Forest} {ps : List ℕ} {Q : ℕ → List Token → Forest → List ℕ → Type 0} {g : Bool} where
  -- and where there must be one
  at_pat_must_lem : {t : Token} → Atom E t → NoDot ts → Q 0 ts (pat_atom t f) ps → Goes E C n (t ∷ ts) f ps {g = g} (P.at_pat_must Y) Q
  unfolding P.at_pat_must
  at_pat_must_lem a d h = g_bind (at_pat_lem a d (g_false (g_ret h)))

module _ {E : List Entry} {C n : ℕ} {ts : List Token} {f : Forest} {ps : List ℕ} {Q : ℕ → List Token → Forest → List ℕ → Type 0} where
  -- should_break of patterns
  pat_on : {g : Bool} {m : Min} {o : Op} {b : Bool} → Takes m o b → ((ps' : List ℕ) → Told b ps ps' → Q 0 ts f ps') → Goes E C n ts f ps {g = g} (P.should_break_pat (fixity_of o) (pat_min m)) Q
  unfolding P.should_break_pat
  pat_on free h = g_ret (h ps (told_none ps))
  pat_on (inside k) h = inward (inside k) h
  pat_on (tied k) h = inward (tied k) h

  -- the loop behind a head that goes on
  tail_on : (m : PatPrec) → Goes E C n ts f ps (loop (P.pat_step m Y)) (λ _ ts' f' ps'. Goes E C n ts' f' ps' {g = false} (ret 1) Q)
      → Goes E C n ts f ps (P.pat_tail P.go_on m Y) Q
  unfolding P.pat_tail
  tail_on m h = g_false (g_bind (g_false (g_ret (g_bind h))))

  -- the head at a Name
  con_scope : (m : PatPrec) {i : ℕ} {x : List ℕ} → find x E ≡ none → NoDot ts
      → Goes E C (n - 1) ts (join f (con_path (word i x))) ps (P.con_turn m Y) (λ v ts' f' ps'. Goes E C n ts' f' ps' (U.if_none v (ret 0) (P.pat_tail v m Y)) Q)
      → Goes E C n (word i x ∷ ts) f ps (P.pat_scope m Y) Q
  unfolding P.pat_scope P.con_pat P.con_head P.con_name P.con_path token_in join
  con_scope m e d h = g_bind (g_peek (g_true (g_bind (g_marked (g_bind (g_bind (g_peek (g_false (g_true (no_infix_word e d h))))))))))

module _ {E : List Entry} {C n : ℕ} {ts : List Token} {f : Forest} {ps : List ℕ} {Q : ℕ → List Token → Forest → List ℕ → Type 0} where
  -- behind a Name, its argument
  con_arg : (m : PatPrec) {t : Token} → Atom E t → NoDot ts → Q P.go_on ts (node Forest.none SK.ConPat (pat_atom t f)) ps → Goes E C n (t ∷ ts) f ps (P.con_turn m Y) Q
  unfolding P.con_turn token_in
  con_arg m (Atom.literal e) d h = g_bind (g_peek (g_false (g_true (g_bind (at_pat_must_lem (Atom.literal e) d (g_bind (g_close (g_ret h))))))))
  con_arg m (Atom.name e) d h = g_bind (g_peek (g_true (g_none e (g_bind (at_pat_must_lem (Atom.name e) d (g_bind (g_close (g_ret h))))))))

-- an operator other than Eq has one of the kinds that the loop looks up
is_pat_sign : {k : ℕ} → Sign k → (k ≡ SK.Eq → ⊥) → U.is_name_star (suc k) ≡ true
is_pat_sign Sign.name h = refl
is_pat_sign Sign.star h = refl
is_pat_sign Sign.eq h = absurd (h refl)

-- what the loop leaves of a line stands as it stood
pub pat_left : (E : List Entry) {m : Min} {ex t : Tree (Operand Token)} {xs ys : List (Step (Operand Token))} {b : Bool} → Loop m ex xs t b ys → PatStand E xs → PatStand E ys
pat_left E (stop h) v = v
pat_left E (turn h f g) v = pat_left E g (pat_left E f v.3)

module _ (E : List Entry) (C : ℕ) (j : ℕ) (y : List ℕ) (zs : List Token) where
  -- a line ends before an `=`, behind which zs stands
  abbrev pub tail : List Token
  tail = record { index = j; kind = SK.Eq; text = y } ∷ zs

  -- The loop of the source, from the pattern of ex and the tokens of xs, comes to the pattern of t and leaves the tokens of ys; b says that it tells a tie.
  abbrev pub PatRuns : Min → Tree (Operand Token) → List (Step (Operand Token)) → Tree (Operand Token) → Bool → List (Step (Operand Token)) → Type 1
  PatRuns m ex xs t b ys = (n : ℕ) (ps : List ℕ) (Q : ℕ → List Token → Forest → List ℕ → Type 0)
      → ((ps' : List ℕ) → Told b ps ps' → Q 0 (step_tokens ys ++ tail) (pat_tree (term t)) ps')
      → Goes E C n (step_tokens xs ++ tail) (pat_tree (term ex)) ps (loop (P.pat_step (pat_min m) Y)) Q

  -- The same of the whole rule, from the first token of an operand on.
  abbrev pub PatScope : Min → Operand Token → List (Step (Operand Token)) → Tree (Operand Token) → Bool → List (Step (Operand Token)) → Type 1
  PatScope m a xs t b ys = (n : ℕ) (ps : List ℕ) (Q : ℕ → List Token → Forest → List ℕ → Type 0)
      → ((ps' : List ℕ) → Told b ps ps' → Q 1 (step_tokens ys ++ tail) (pat_tree (term t)) ps')
      → Goes E C n (a.fun ∷ ((a.args ++ step_tokens xs) ++ tail)) Forest.none ps (P.pat_scope (pat_min m) Y) Q

  -- no token of a line is a dot
  no_dot : (xs : List (Step (Operand Token))) → PatStand E xs → NoDot (step_tokens xs ++ tail)
  unfolding step_tokens token_in
  no_dot [] v = refl
  no_dot (s ∷ xs) v = go v.0.sign
    where
      go : {k : ℕ} → Sign k → eqb (suc k) (SK.Dot + 1) ≡ false
      go Sign.name = refl
      go Sign.star = refl
      go Sign.eq = refl

  -- nor is an atom
  no_dot_atom : {t : Token} (ts : List Token) → Atom E t → NoDot (t ∷ ts)
  unfolding token_in
  no_dot_atom ts (Atom.literal e) = refl
  no_dot_atom ts (Atom.name e) = refl

  -- the right side of an operator, and the node
  infix_at : (o : Op) (a : Operand Token) (r : Tree (Operand Token)) (xs ys : List (Step (Operand Token))) (c : Bool) → PatScope (infix_of_lem o) a xs r c ys
      → {g : Bool} (n : ℕ) (f : Forest) (ps : List ℕ) (Q : ℕ → List Token → Forest → List ℕ → Type 0)
      → ((ps' : List ℕ) → Told c ps ps' → Q 0 (step_tokens ys ++ tail) (node Forest.none SK.InfixPat (pat_nodes (bare (term r)) (leaf f o.token.kind o.token.index))) ps')
      → Goes E C n (o.token ∷ a.fun ∷ ((a.args ++ step_tokens xs) ++ tail)) f ps {g = g} (P.infix_pat (fixity_of o) Y) Q
  unfolding P.infix_pat P.pat_must body
  infix_at o a r xs ys c h n f ps Q q =
      g_marked (g_bind (g_take (g_bind (g_bind (g_call (g_from (h (n - 1) ps _ (λ ps' t. g_false (g_ret (rw (join_pat (bare (term r)) (leaf f o.token.kind o.token.index)) (g_close (q ps' t))))))))))))

  -- the loop at the end of the line
  stop_end : (m : Min) (ex : Tree (Operand Token)) → PatRuns m ex [] ex false []
  unfolding step_tokens P.pat_step token_in
  stop_end m ex n ps Q h = g_loop (pat_step_advances (pat_min m) Y n) (g_bind (g_peek (g_false (g_false (g_false (g_false (g_ret (h ps (told_none ps)))))))))

  -- at an operator that ends the climb
  stop_at : (m : Op) (ex : Tree (Operand Token)) (s : Step (Operand Token)) (xs : List (Step (Operand Token))) → PatStand E (s ∷ xs) → Below left s.op m
      → PatRuns (infix_of_lem m) ex (s ∷ xs) ex false (s ∷ xs)
  unfolding step_tokens P.pat_step P.op_step P.should_break_pat token_in
  stop_at m ex s xs v k n ps Q h =
      g_loop (pat_step_advances (pat_min (infix_of_lem m)) Y n)
      (g_bind (g_peek (g_on (is_pat_sign v.0.sign v.1) (g_some v.0.fixity (g_bind (breaks k (g_false (g_ret (h ps (told_none ps))))))))))

  -- at an operator that it takes
  turn_at : (m : Min) (ex r t : Tree (Operand Token)) (s : Step (Operand Token)) (xs ys zs : List (Step (Operand Token))) (b c d : Bool) → PatStand E (s ∷ xs) → Takes m s.op b
      → PatScope (infix_of_lem s.op) s.operand xs r c ys → PatRuns m (Tree.node ex s.op r) ys t d zs → PatRuns m ex (s ∷ xs) t (or b (or c d)) zs
  unfolding step_tokens P.pat_step P.op_step token_in pat_nodes bare
  turn_at m ex r t s xs ys zs b c d v k f g n ps Q h =
      g_loop (pat_step_advances (pat_min m) Y n)
      (g_bind (g_peek (g_on (is_pat_sign v.0.sign v.1) (g_some v.0.fixity (g_bind (pat_on k (λ ps1 t1.
      g_true (g_bind (infix_at s.op s.operand r xs ys c f n _ ps1 _ (λ ps2 t2. g_ret (g n ps2 Q (λ ps3 t3. h ps3 (told_next t1 (told_next t2 t3))))))))))))))

  -- the rule at an IntLit
  scope_literal : (m : Min) (i : ℕ) (x : List ℕ) (t : Tree (Operand Token)) (xs ys : List (Step (Operand Token))) (b : Bool) → find x E ≡ none → PatStand E xs
      → PatRuns m (Tree.leaf (record { fun = int i x; args = [] })) xs t b ys → PatScope m (record { fun = int i x; args = [] }) xs t b ys
  unfolding P.pat_scope P.atom_pat token_in pat_nodes bare
  scope_literal m i x t xs ys b e v r n ps Q h =
      g_bind (g_peek (g_false (g_false (g_bind (at_pat_lem (Atom.literal e) (no_dot xs v) (g_false (g_bind (r n ps _ (λ ps' k. g_ret (h ps' k))))))))))

  -- at a Name that is applied
  scope_applied : (m : Min) (i : ℕ) (x : List ℕ) {u : Token} (t : Tree (Operand Token)) (xs ys : List (Step (Operand Token))) (b : Bool) → find x E ≡ none → Atom E u → PatStand E xs
      → PatRuns m (Tree.leaf (record { fun = word i x; args = u ∷ [] })) xs t b ys → PatScope m (record { fun = word i x; args = u ∷ [] }) xs t b ys
  unfolding pat_nodes bare join
  scope_applied m i x t xs ys b e a v r n ps Q h =
      con_scope (pat_min m) e (no_dot_atom _ a) (con_arg (pat_min m) a (no_dot xs v) (g_false (tail_on (pat_min m) (r n ps _ (λ ps' k. g_ret (h ps' k))))))

  -- at a Name alone, at the end of the line
  name_end : (m : Min) (i : ℕ) (x : List ℕ) → find x E ≡ none
      → PatScope m (record { fun = word i x; args = [] }) [] (Tree.leaf (record { fun = word i x; args = [] })) false []
  unfolding P.con_turn token_in pat_nodes pat_atom bare join step_tokens
  name_end m i x e n ps Q h =
      con_scope (pat_min m) e refl (g_bind (g_peek (g_false (g_false (g_bind (g_close (g_ret (g_false (tail_on (pat_min m)
      (stop_end m (Tree.leaf (record { fun = word i x; args = [] })) n ps _ (λ ps' k. g_ret (h ps' k))))))))))))

  -- before an operator that ends the climb
  name_stop : (m : Op) (i : ℕ) (x : List ℕ) (s : Step (Operand Token)) (xs : List (Step (Operand Token))) → find x E ≡ none → PatStand E (s ∷ xs) → Below left s.op m
      → PatScope (infix_of_lem m) (record { fun = word i x; args = [] }) (s ∷ xs) (Tree.leaf (record { fun = word i x; args = [] })) false (s ∷ xs)
  unfolding P.con_turn P.con_op P.pat_tail P.should_break_pat token_in pat_nodes pat_atom bare join step_tokens
  name_stop m i x s xs e v k n ps Q h =
      con_scope (pat_min (infix_of_lem m)) e (no_dot (s ∷ xs) v) (g_bind (g_peek (g_on (is_pat_sign v.0.sign v.1) (g_some v.0.fixity (g_bind (breaks k
      (g_bind (g_close (g_false (g_ret (g_false (g_true (g_ret (h ps (told_none ps)))))))))))))))

  -- before one that it takes
  name_turn : (m : Min) (i : ℕ) (x : List ℕ) (r t : Tree (Operand Token)) (s : Step (Operand Token)) (xs ys ws : List (Step (Operand Token))) (b c d : Bool) → find x E ≡ none → PatStand E (s ∷ xs) → Takes m s.op b
      → PatScope (infix_of_lem s.op) s.operand xs r c ys → PatRuns m (Tree.node (Tree.leaf (record { fun = word i x; args = [] })) s.op r) ys t d ws
      → PatScope m (record { fun = word i x; args = [] }) (s ∷ xs) t (or b (or c d)) ws
  unfolding P.con_turn P.con_op P.pat_tail P.op_tail token_in pat_nodes pat_atom bare join step_tokens
  name_turn m i x r t s xs ys ws b c d e v k f g n ps Q h =
      con_scope (pat_min m) e (no_dot (s ∷ xs) v) (g_bind (g_peek (g_on (is_pat_sign v.0.sign v.1) (g_some v.0.fixity (g_bind (pat_on k (λ ps1 t1.
      g_bind (g_close (g_true (g_ret (g_false (g_false (g_bind (g_true (g_some v.0.fixity (infix_at s.op s.operand r xs ys c f n _ ps1 _ (λ ps2 t2.
      g_bind (g n ps2 _ (λ ps3 t3. g_ret (h ps3 (told_next t1 (told_next t2 t3))))))))))))))))))))))

  -- The rule's loop does what the climb does, and so does the whole rule, where it starts at an operand.
  pub record Both (m : Min) (ex : Tree (Operand Token)) (xs : List (Step (Operand Token))) (t : Tree (Operand Token)) (b : Bool) (ys : List (Step (Operand Token))) : Type 1 where
    pub runs : PatRuns m ex xs t b ys
    pub scope : (a : Operand Token) → ex ≡ Tree.leaf a → PatFit E a → PatScope m a xs t b ys

  -- at an operand that is no Name alone, the rule does what its loop does
  fit_scope : (m : Min) (a : Operand Token) (t : Tree (Operand Token)) (xs ys : List (Step (Operand Token))) (b : Bool) → PatFit E a → PatStand E xs → PatRuns m (Tree.leaf a) xs t b ys
      → ((i : ℕ) (x : List ℕ) → a ≡ record { fun = word i x; args = [] } → find x E ≡ none → PatScope m a xs t b ys) → PatScope m a xs t b ys
  fit_scope m a t xs ys b (PatFit.alone (Atom.literal {i} {x} e)) v r k = scope_literal m i x t xs ys b e v r
  fit_scope m a t xs ys b (PatFit.alone (Atom.name {i} {x} e)) v r k = k i x refl e
  fit_scope m a t xs ys b (PatFit.applied {i} {x} e u) v r k = scope_applied m i x t xs ys b e u v r

  -- the rule, where the climb ends at once
  stop_scope : (m : Min) (a : Operand Token) (xs : List (Step (Operand Token))) → Stops m xs → PatStand E xs → PatFit E a → PatRuns m (Tree.leaf a) xs (Tree.leaf a) false xs
      → PatScope m a xs (Tree.leaf a) false xs
  stop_scope m a [] h v k r = fit_scope m a (Tree.leaf a) [] [] false k v r (λ i x e f. rw e (name_end m i x f))
  stop_scope min a (s ∷ xs) h v k r = absurd h
  stop_scope (infix_of_lem m) a (s ∷ xs) h v k r = fit_scope (infix_of_lem m) a (Tree.leaf a) (s ∷ xs) (s ∷ xs) false k v r (λ i x e f. rw e (name_stop m i x s xs f v h))

  -- its loop there
  stop_runs : (m : Min) (ex : Tree (Operand Token)) (xs : List (Step (Operand Token))) → Stops m xs → PatStand E xs → PatRuns m ex xs ex false xs
  stop_runs m ex [] h v = stop_end m ex
  stop_runs min ex (s ∷ xs) h v = absurd h
  stop_runs (infix_of_lem m) ex (s ∷ xs) h v = stop_at m ex s xs v h

  -- So it is of every climb.
  pub pats : {m : Min} {ex t : Tree (Operand Token)} {xs ys : List (Step (Operand Token))} {b : Bool} → Loop m ex xs t b ys → PatStand E xs → Both m ex xs t b ys
  pats (stop {m} {ex} {xs} h) v = record {
    runs = stop_runs m ex xs h v;
    scope = λ a e k. rw e (stop_scope m a xs h v k (stop_runs m (Tree.leaf a) xs h v));
  }
  pats (turn {m} {ex} {r} {t} {s} {xs} {ys} {zs = ws} {b} {c} {d} h f g) v =
      let F = (pats f v.3).scope s.operand refl v.2 in
      let G = (pats g (pat_left E f v.3)).runs in
      let R = turn_at m ex r t s xs ys ws b c d v h F G in
      record {
        runs = R;
        scope = λ a e k. fit_scope m a t (s ∷ xs) ws (or b (or c d)) k v (rw e at R)
            (λ i x q z. rw q (name_turn m i x r t s xs ys ws b c d z v h F (rw (e ∙ ap Tree.leaf q) at G)));
      }
