-- The rules for declarations, on `val`, a pattern's line, `=` and an atom.
use Rattle.std.specs.Prelude.{ℕ, suc, ◌-◌, ◌≡◌, refl, List, [], ◌∷◌, ◌++◌, Bool, false}
use Rattle.std.proofs.Common.{◌∙◌, append-nil}
use Rattle.std.proofs.Math.Bool.{true}
use Rattle.grammar.specs.Tokens.{Token}
use Rattle.grammar.specs.Env.{Entry}
use Rattle.grammar.specs.World.{token_in}
use Rattle.grammar.specs.Rule.{InfixErr}
use Rattle.grammar.specs.Util as U
use Rattle.grammar.specs.Ty as T
use Rattle.grammar.specs.Exp as X
use Rattle.grammar.specs.Dec as D
use Rattle.grammar.specs.Root as Root
use Rattle.grammar.specs.SyntaxKind as SK
use Rattle.laws.specs.Progress.{many_turn_advances}
use Rattle.laws.specs.Trees.{Forest, join}
use Rattle.laws.specs.Trees.Forest.{leaf, node}
use Rattle.lawful.specs.Terms.{Line, Tree}
use Rattle.lawful.specs.Terms.Min.{min}
use Rattle.lawful.specs.Climb.{Loop, true_false}
use Rattle.lawful.specs.Climb.Loop.{stop}
use Rattle.lawful.specs.Apply.{Operand, term}
use Rattle.grouping.specs.Grouping.{Atom, Term, atom_node, nodes}
use Rattle.grouping.specs.Patterns.{pat_nodes, val_nodes}
use Rattle.grouping.specs.Runs.{Goes, going, g_ret, g_bind, g_true, g_false, g_off, g_peek, g_from, g_close, g_take, g_marked, g_loop, g_call}
use Rattle.grouping.specs.Climbs.{bare, step_tokens, Told, some?}
use Rattle.grouping.specs.Files.{line_tokens, Reads, One}
use Rattle.grouping.proofs.Files.{reads_line}
use Rattle.grouping.specs.PatRuns.{PatFit, PatStand}
use Rattle.grouping.proofs.PatRuns.{join_pat, tail, pats}
use Rattle.grouping.specs.PatFiles.{PatReads}

-- The rule for patterns reads a line as the climb says.
pub pat_reads : (E : List Entry) (C j : ℕ) (y : List ℕ) (zs : List Token) (l : Line (Operand Token)) → PatFit E l.first → PatStand E l.rest
    → (t : Tree (Operand Token)) (b : Bool) → Loop min (Tree.leaf l.first) l.rest t b [] → PatReads E C (line_tokens l) (tail E C j y zs) (bare (term t)) b
unfolding Root.body step_tokens
pat_reads E C j y zs l a v t b h n f ps Q q =
    g_call (g_from ((pats E C j y zs h v).scope l.first refl a n ps _ (λ ps' k. rw (join_pat (bare (term t)) f) (q ps' k))))

-- an atom is an expression
atom_reads : (E : List Entry) (C : ℕ) {x : Token} → Atom E x → Reads E C (x ∷ []) (Term.atom x) false
unfolding bare step_tokens
atom_reads E C {x} a = reads_line E C (record { first = record { fun = x; args = [] }; rest = [] }) a tt tt (Tree.leaf (record { fun = x; args = [] })) false (stop tt)

-- no tie told is nothing told
told_quiet : {ps ps' : List ℕ} → Told false ps ps' → ps' ≡ ps
told_quiet {ps} {ps'} k = go k.more k.all k.tells
  where
    go : (more : List ℕ) → ps' ≡ ps ++ more → some? more ≡ false → ps' ≡ ps
    go [] e h = e ∙ append-nil ps
    go (p ∷ more) e h = absurd (true_false h)

module _ {E : List Entry} {C n : ℕ} {ts : List Token} {f : Forest} {ps : List ℕ} {Q : ℕ → List Token → Forest → List ℕ → Type 0} {g : Bool} where
  -- no type variables stand before an atom
  no_vars : {t : Token} → Atom E t → Q 0 (t ∷ ts) f ps → Goes E C n (t ∷ ts) f ps {g = g} T.ty_var_seq Q
  unfolding T.ty_var_seq T.ty_vars T.ty_var_one T.ty_var_many token_in join
  no_vars (Atom.literal e) h = search going depth 20
  no_vars (Atom.name e) h = search going depth 20

-- an atom is no `rec`
not_rec : {E : List Entry} {t : Token} → Atom E t → U.is (suc t.kind) SK.RecKw ≡ false
not_rec (Atom.literal e) = refl
not_rec (Atom.name e) = refl

module _ {E : List Entry} {C n j : ℕ} {y : List ℕ} {f : Forest} {ps : List ℕ} {Q : ℕ → List Token → Forest → List ℕ → Type 0} where
  -- `=` and an atom
  eq_atom : {x : Token} → Atom E x → Q 0 [] (node f SK.EqExp (atom_node x (leaf Forest.none SK.Eq j))) ps
      → Goes E C n (record { index = j; kind = SK.Eq; text = y } ∷ x ∷ []) f ps {g = true} X.eq_exp Q
  unfolding X.eq_exp X.exp_must token_in join nodes
  eq_atom {x} a h =
      g_bind (g_peek (g_true (g_marked (g_from (g_bind (g_take (g_bind (g_bind (atom_reads E C a (n - 1) (leaf Forest.none SK.Eq j) ps _ (λ ps' k.
      rw (told_quiet k) (g_false (g_ret (g_close h)))))))))))))

module _ (E : List Entry) (C : ℕ) {t : Token} (us : List Token) (T : Term) (b : Bool) (j : ℕ) (y : List ℕ) {x : Token} (a : Atom E t) (r : Atom E x)
    (h : PatReads E C (t ∷ us) (record { index = j; kind = SK.Eq; text = y } ∷ x ∷ []) T b) where
  -- the binding behind `val`
  bind_val : (n : ℕ) (f : Forest) (ps : List ℕ) (Q : ℕ → List Token → Forest → List ℕ → Type 0)
      → ((ps' : List ℕ) → Told b ps ps' → Q 1 [] (node (pat_nodes T f) SK.EqExp (atom_node x (leaf Forest.none SK.Eq j))) ps')
      → Goes E C n (t ∷ (us ++ (record { index = j; kind = SK.Eq; text = y } ∷ x ∷ []))) f ps (D.val_bind InfixErr.Yes) Q
  unfolding D.val_bind D.rec_pat token_in
  bind_val n f ps Q q =
      g_bind (g_bind (g_peek (g_off (not_rec a) (g_bind (h n f ps _ (λ ps' k. g_false (g_ret (g_false (g_bind (eq_atom r (g_ret (q ps' k))))))))))))

  -- the declaration
  pub one_val : (i : ℕ) (z : List ℕ) → One E C (record { index = i; kind = SK.ValKw; text = z } ∷ t ∷ (us ++ (record { index = j; kind = SK.Eq; text = y } ∷ x ∷ []))) SK.ValDec
      (val_nodes (record { index = i; kind = SK.ValKw; text = z }) T (record { index = j; kind = SK.Eq; text = y }) x) b
  unfolding D.dec_one D.dec_head D.leaf_dec D.fix_dec D.core_dec D.bump_vars U.many_sep_node U.many_sep U.many_turn token_in join val_nodes
  one_val i z n f ps Q q =
      g_bind (g_peek (g_false (g_marked (g_from (g_bind (g_false (g_false (g_false (g_false (g_false (g_false (g_false (g_false (g_ret (g_true (g_true (g_bind (g_bind (g_take (g_bind (no_vars a (g_ret (g_bind (g_bind (g_loop (many_turn_advances true SK.AndKw SK.ValBind (D.val_bind InfixErr.Yes) (n - 1))
      (g_marked (g_from (g_bind (bind_val (n - 1 - 1) Forest.none ps _ (λ ps' k. g_false (g_bind (g_peek (g_false (g_bind (g_close (g_ret (g_close (g_ret (q ps' k)))))))))))))))))))))))))))))))))))))))
