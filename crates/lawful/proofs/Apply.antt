-- That each line without a tie has one lawful term with application, the climb's, and one with a tie has none.
use Rattle.std.specs.Prelude.{◌≡◌, refl, List, [], ◌∷◌, ◌++◌}
use Rattle.std.proofs.Common.{ap, ◌∙◌, sym}
use Rattle.lawful.specs.Terms.{Assoc, Op, Line, Tree, line, Child, Lawful, Tie, Out, climb}
use Rattle.lawful.specs.Terms.Assoc.{left, right}
use Rattle.lawful.specs.Terms.Tree.{leaf, node}
use Rattle.lawful.proofs.Lawful.{unique}
use Rattle.lawful.proofs.Laws.{tie_unlawful, without_tie, back}
use Rattle.lawful.specs.Apply.{Exp, toks, NoOper, ChildE, LawfulE, Operand, apply_all, term, flat, same_flat, toks_term, Grown, Means, Climbed}
use Rattle.lawful.specs.Apply.Exp.{atom, apply, oper}

module _ {B : Type 0} where
  -- The term of a tree is lawful where the tree is.
  no_oper_all : (f : Exp B) (cs : List B) → NoOper f → NoOper (apply_all f cs)
  no_oper_all f [] h = h
  no_oper_all f (b ∷ bs) h = no_oper_all (apply f (atom b)) bs tt

  lawful_all : (f : Exp B) (cs : List B) → NoOper f → LawfulE f → LawfulE (apply_all f cs)
  lawful_all f [] n h = h
  lawful_all f (b ∷ bs) n h = lawful_all (apply f (atom b)) bs tt (n, tt, h)

  no_oper_child : (s : Assoc) (o : Op) (e : Exp B) → NoOper e → ChildE s o e
  no_oper_child s o (atom b) h = tt
  no_oper_child s o (apply f x) h = tt
  no_oper_child s o (oper l p r) h = absurd h

  child_term : (s : Assoc) (o : Op) (t : Tree (Operand B)) → Child s o t → ChildE s o (term t)
  child_term s o (leaf a) h = no_oper_child s o (term (leaf a)) (no_oper_all (atom a.fun) a.args tt)
  child_term s o (node l p r) h = h

  term_child : (s : Assoc) (o : Op) (t : Tree (Operand B)) → ChildE s o (term t) → Child s o t
  term_child s o (leaf a) h = tt
  term_child s o (node l p r) h = h

  pub lawful_term : (t : Tree (Operand B)) → Lawful t → LawfulE (term t)
  lawful_term (leaf a) h = lawful_all (atom a.fun) a.args tt tt
  lawful_term (node l o r) h = (child_term left o l h.0, child_term right o r h.1, lawful_term l h.2, lawful_term r h.3)

  -- Each lawful term is the term of a lawful tree.
  record Spine (e : Exp B) : Type 0 where
    op : Operand B
    same : term (leaf op) ≡ e

  all_snoc : (f : Exp B) (cs : List B) (b : B) → apply_all f (cs ++ (b ∷ [])) ≡ apply (apply_all f cs) (atom b)
  all_snoc f [] b = refl
  all_snoc f (a ∷ cs) b = all_snoc (apply f (atom a)) cs b

  spine : (e : Exp B) → NoOper e → LawfulE e → Spine e
  spine (atom b) n h = record { op = record { fun = b; args = [] }; same = refl }
  spine (apply f (atom b)) n h = let r = spine f h.0 h.2 in record {
    op = record { fun = r.op.fun; args = r.op.args ++ (b ∷ []) };
    same = all_snoc (atom r.op.fun) r.op.args b ∙ ap (λ (f : Exp B). apply f (atom b)) r.same;
  }
  spine (apply f (apply g x)) n h = absurd h.1
  spine (apply f (oper l o r)) n h = absurd h.1
  spine (oper l o r) n h = absurd n

  pub grown : (e : Exp B) → LawfulE e → Grown e
  grown (atom b) h = record { tree = leaf (record { fun = b; args = [] }); lawful = tt; same = refl }
  grown (apply f x) h = let r = spine (apply f x) tt h in record { tree = leaf r.op; lawful = tt; same = r.same }
  grown (oper l o r) h = let a = grown l h.2 in let b = grown r h.3 in record {
    tree = node a.tree o b.tree;
    lawful = (term_child left o a.tree (rw a.same h.0), term_child right o b.tree (rw b.same h.1), a.lawful, b.lawful);
    same = cc (a.same, b.same);
  }

  -- Two lawful terms with the same tokens are equal.
  pub unique_term : (e f : Exp B) → LawfulE e → LawfulE f → toks e ≡ toks f → e ≡ f
  unique_term e f h k p =
      let a = grown e h in let b = grown f k in
      let q : flat (line a.tree) ≡ flat (line b.tree) =
      sym (toks_term a.tree) ∙ ap toks a.same ∙ p ∙ sym (ap toks b.same) ∙ toks_term b.tree in
      let w = unique a.tree b.tree a.lawful b.lawful (same_flat _ _ q) in
      sym a.same ∙ ap term w ∙ b.same

  -- A line with a tie has no lawful term,
  pub tie_no_term : (l : Line (Operand B)) → Tie l.rest → (e : Exp B) → LawfulE e → toks e ≡ flat l → ⊥
  tie_no_term l k e h p =
      let a = grown e h in
      let q : line a.tree ≡ l = same_flat (line a.tree) l (sym (toks_term a.tree) ∙ ap toks a.same ∙ p) in
      tie_unlawful a.tree (rw q k) a.lawful

  -- one without has one, that of the climb's tree,
  pub climb_term : (l : Line (Operand B)) → (Tie l.rest → ⊥) → Means l (term (climb l).tree)
  climb_term l n =
      let r = without_tie l n in
      let h = lawful_term (climb l).tree r.lawful in
      let w = toks_term (climb l).tree ∙ ap flat r.whole in
      record { lawful = h; whole = w; only = λ f k p. unique_term f (term (climb l).tree) k h (p ∙ sym w) }

  -- and each lawful term is the climb's of a line with its tokens.
  pub climb_back : (e : Exp B) → LawfulE e → Climbed e
  climb_back e h = let a = grown e h in let b = back a.tree a.lawful in record {
    of = line a.tree;
    tokens = sym (toks_term a.tree) ∙ ap toks a.same;
    quiet = ap (λ (o : Out (Operand B)). o.tie) b;
    same = ap (λ (o : Out (Operand B)). term o.tree) b ∙ a.same;
  }
