-- The rules for declarations and files, on a file that is one line.
use Rattle.std.specs.Prelude.{ℕ, ◌-◌, List, [], ◌∷◌, Bool}
use Rattle.std.proofs.Math.Bool.{true, false}
use Rattle.grammar.specs.Tokens.{Token}
use Rattle.grammar.specs.Env.{Entry}
use Rattle.grammar.specs.World.{token_in}
use Rattle.grammar.specs.Prog.Prog.{ret, call}
use Rattle.grammar.specs.Rule.{InfixErr, ExpPrec}
use Rattle.grammar.specs.Rule.Rule.{exp_prec, dec}
use Rattle.grammar.specs.Util as U
use Rattle.grammar.specs.Dec as D
use Rattle.grammar.specs.Root as Root
use Rattle.grammar.specs.SyntaxKind as SK
use Rattle.laws.specs.Progress.{dec_turn_advances, dec_one_advances, root_turn_advances}
use Rattle.laws.specs.Trees.{Forest, join}
use Rattle.laws.specs.Trees.Forest.{node}
use Rattle.lawful.specs.Terms.{Line, Tree}
use Rattle.lawful.specs.Terms.Min.{min}
use Rattle.lawful.specs.Climb.{Loop}
use Rattle.lawful.specs.Apply.{Operand, term}
use Rattle.lawful.specs.Apply.Exp.{atom}
use Rattle.grouping.specs.Runs.{Goes, going, g_ret, g_bind, g_true, g_false, g_peek, g_from, g_close, g_marked, g_loop, g_call}
use Rattle.grouping.specs.Grouping.{Atom, Term, nodes, file_of}
use Rattle.grouping.specs.Climbs.{Atoms, Stand, bare, step_tokens, Told}
use Rattle.grouping.proofs.Climbs.{climbs, no_dot, scope_atom, apps, join_nodes}
use Rattle.grouping.specs.Files.{line_tokens, Reads, One}

-- The rule for expressions reads a line as the climb says.
pub reads_line : (E : List Entry) (C : ℕ) (l : Line (Operand Token)) → Atom E l.first.fun → Atoms E l.first.args → Stand E l.rest
    → (t : Tree (Operand Token)) (b : Bool) → Loop min (Tree.leaf l.first) l.rest t b [] → Reads E C (line_tokens l) (bare (term t)) b
unfolding Root.body nodes bare step_tokens
reads_line E C l a w v t b h n f ps Q q =
    g_call (g_from (scope_atom ExpPrec.Min a (no_dot E l.first.args w l.rest v)
    (apps E C n ExpPrec.Min (atom l.first.fun) l.first.args w l.rest v ps _
    (climbs E C h v n ps _ (λ ps' k. g_ret (rw (join_nodes (bare (term t)) f) (q ps' k)))))))

module _ {E : List Entry} {C n : ℕ} {f : Forest} {ps : List ℕ} {Q : ℕ → List Token → Forest → List ℕ → Type 0} {g : Bool} where
  -- at the end of the tokens there is no declaration
  one_end : Q 0 [] f ps → Goes E C n [] f ps {g = g} (D.dec_one InfixErr.Yes) Q
  unfolding D.dec_one token_in
  one_end h = search going depth 10

module _ {E : List Entry} {C n : ℕ} {f : Forest} {ps : List ℕ} {Q : ℕ → List Token → Forest → List ℕ → Type 0} {g : Bool} where
  -- so a turn of the declarations' loop ends there
  turn_end : Q 0 [] f ps → Goes E C n [] f ps {g = g} (U.semi_turn SK.DecInSeq (D.dec_one InfixErr.Yes)) Q
  unfolding U.semi_turn join
  turn_end h = g_marked (g_from (g_bind (one_end (g_true (g_ret h)))))

module _ {E : List Entry} {C n : ℕ} {f : Forest} {ps : List ℕ} {Q : ℕ → List Token → Forest → List ℕ → Type 0} {g : Bool} where
  -- and no sharing
  share_end : Q 0 [] f ps → Goes E C n [] f ps {g = g} D.sharings Q
  unfolding D.sharings token_in
  share_end h = search going depth 10

module _ {E : List Entry} {C n : ℕ} {f : Forest} {ps : List ℕ} {Q : ℕ → List Token → Forest → List ℕ → Type 0} {g : Bool} where
  -- an empty DecWithTail
  tail_end : Q 0 [] (node f SK.DecWithTail Forest.none) ps → Goes E C n [] f ps {g = g} (D.dec_with_tail InfixErr.Yes) Q
  unfolding D.dec_with_tail D.bare_tail D.full_tail U.maybe_semi_sep token_in join
  tail_end h =
      g_marked (g_from (g_bind (g_bind (turn_end (g_true (g_ret (g_true (g_bind (share_end (g_bind (g_close (g_ret h))))))))))))

module _ {E : List Entry} {C n : ℕ} {f : Forest} {ps : List ℕ} {Q : ℕ → List Token → Forest → List ℕ → Type 0} {g : Bool} where
  -- with which the turn of the outer loop ends
  decs_end : Q 0 [] (node f SK.DecWithTail Forest.none) ps → Goes E C n [] f ps {g = g} (U.semi_turn SK.Dec (D.dec_with_tail InfixErr.Yes)) Q
  unfolding U.semi_turn join
  decs_end h = g_marked (g_from (g_bind (tail_end (g_true (g_ret h)))))

module _ (E : List Entry) (C : ℕ) where
  -- at an atom it comes to the rule for expressions
  one_atom : {t : Token} → Atom E t → (ts : List Token) (n : ℕ) (f : Forest) (ps : List ℕ) (Q : ℕ → List Token → Forest → List ℕ → Type 0)
      → Goes E C (n - 1) (t ∷ ts) Forest.none ps (call (exp_prec ExpPrec.Min)) (λ v ts' f' ps'. Goes E C (n - 1) ts' f' ps' {g = true} (U.if_none v (ret 0) (U.done SK.ExpDec)) (λ v ts' f' ps'. Q v ts' (join f f') ps'))
      → Goes E C n (t ∷ ts) f ps {g = true} (D.dec_one InfixErr.Yes) Q
  unfolding D.dec_one D.dec_head D.leaf_dec D.fix_dec D.core_dec D.module_dec D.other_dec token_in
  one_atom (Atom.literal x) ts n f ps Q h = search going depth 80
  one_atom (Atom.name x) ts n f ps Q h = search going depth 80

  -- so a line is a declaration
  pub one_line : {t : Token} (ts : List Token) → Atom E t → (T : Term) (b : Bool) → Reads E C (t ∷ ts) T b → One E C (t ∷ ts) SK.ExpDec (nodes T Forest.none) b
  unfolding join
  one_line ts a T b h n f ps Q q = one_atom a ts n f ps Q (h (n - 1) Forest.none ps _ (λ ps' k. g_false (g_bind (g_close (g_ret (q ps' k))))))

module _ (E : List Entry) (C : ℕ) (t : Token) (ts : List Token) (k : ℕ) (c : Forest) (b : Bool) (h : One E C (t ∷ ts) k c b) where
  -- A file of one declaration: the declaration in its DecInSeq,
  seq_file : (n : ℕ) (f : Forest) (ps : List ℕ) (Q : ℕ → List Token → Forest → List ℕ → Type 0) → ((ps' : List ℕ) → Told b ps ps' → Q 1 [] (node f SK.DecInSeq (node Forest.none k c)) ps')
      → Goes E C n (t ∷ ts) f ps {g = true} (U.semi_turn SK.DecInSeq (D.dec_one InfixErr.Yes)) Q
  unfolding U.semi_turn U.bump_if join token_in
  seq_file n f ps Q q = g_marked (g_from (g_bind (h (n - 1) Forest.none ps _
      (λ ps' k. g_false (g_bind (g_bind (g_peek (g_false (g_ret (g_bind (g_close (g_ret (q ps' k)))))))))))))

  -- that in DecWithTail,
  tail_file : (n : ℕ) (f : Forest) (ps : List ℕ) (Q : ℕ → List Token → Forest → List ℕ → Type 0)
      → ((ps' : List ℕ) → Told b ps ps' → Q 1 [] (node f SK.DecWithTail (node Forest.none SK.DecInSeq (node Forest.none k c))) ps')
      → Goes E C n (t ∷ ts) f ps {g = true} (D.dec_with_tail InfixErr.Yes) Q
  unfolding D.dec_with_tail D.bare_tail D.full_tail U.maybe_semi_sep join token_in
  tail_file n f ps Q q = g_marked (g_from (g_bind (g_bind (seq_file (n - 1) Forest.none ps _
      (λ ps' k. g_false (g_bind (g_loop (dec_one_advances true InfixErr.Yes (n - 1)) (turn_end (g_ret
      (g_false (g_bind (share_end (g_bind (g_close (g_ret (q ps' k))))))))))))))))

  -- that in Dec,
  turn_file : (n : ℕ) (f : Forest) (ps : List ℕ) (Q : ℕ → List Token → Forest → List ℕ → Type 0)
      → ((ps' : List ℕ) → Told b ps ps' → Q 1 [] (node f SK.Dec (node Forest.none SK.DecWithTail (node Forest.none SK.DecInSeq (node Forest.none k c)))) ps')
      → Goes E C n (t ∷ ts) f ps {g = false} (U.semi_turn SK.Dec (D.dec_with_tail InfixErr.Yes)) Q
  unfolding U.semi_turn U.bump_if join token_in
  turn_file n f ps Q q = g_marked (g_from (g_bind (tail_file (n - 1) Forest.none ps _
      (λ ps' k. g_false (g_bind (g_bind (g_peek (g_false (g_ret (g_bind (g_close (g_ret (q ps' k)))))))))))))

  -- the empty DecWithTail behind it,
  dec_file : (n : ℕ) (f : Forest) (ps : List ℕ) (Q : ℕ → List Token → Forest → List ℕ → Type 0)
      → ((ps' : List ℕ) → Told b ps ps' → Q 1 [] (node (node f SK.Dec (node Forest.none SK.DecWithTail (node Forest.none SK.DecInSeq (node Forest.none k c)))) SK.DecWithTail Forest.none) ps')
      → Goes E C n (t ∷ ts) f ps (call (dec InfixErr.Yes)) Q
  unfolding Root.body D.decs U.maybe_semi_sep join
  dec_file n f ps Q q = g_call (g_from (g_bind (turn_file n Forest.none ps _ (λ ps' k. g_false (g_bind (g_loop (dec_turn_advances false InfixErr.Yes n) (decs_end (g_ret (q ps' k)))))))))

  -- and Root around all.
  pub root_file : (n : ℕ) (ps : List ℕ) (Q : ℕ → List Token → Forest → List ℕ → Type 0) → ((ps' : List ℕ) → Told b ps ps' → Q 0 [] (file_of k c) ps')
      → Goes E C n (t ∷ ts) Forest.none ps Root.root Q
  unfolding Root.root Root.root_turn join token_in file_of
  root_file n ps Q q =
      g_marked (g_from (g_bind (g_loop (root_turn_advances (n - 1)) (g_bind (g_peek (g_false (g_bind (dec_file (n - 1) Forest.none ps _ (λ ps' k. g_false (g_ret
      (g_loop (root_turn_advances (n - 1)) (g_bind (g_peek (g_true (g_ret (g_close (q ps' k)))))))))))))))))
