-- Lines, lawful trees and ties of tokens, as those of crate lawful.
use Rattle.std.specs.Prelude.{ℕ, zero, suc, ◌≤◌, ◌≡◌}
use Rattle.std.proofs.Math.Path.{refl, ap}
use Rattle.std.proofs.Common.{◌∙◌, sym, arith}
use mathlib.Core.List.{List, [], ◌∷◌, ◌++◌, append-nil}
use Rattle.std.proofs.Math.Option.{Option, none, some}
use Rattle.grammar.specs.Tokens.{Token}
use Rattle.grammar.specs.Env.{Infix, Entry, Right, find}
use Rattle.lawful.specs.Terms.{Assoc, Op, Step}
use Rattle.lawful.specs.Terms as Terms
use Rattle.lawful.specs.Terms.Assoc.{left, right}
use Rattle.lawful.specs.Apply.{Exp, Tok, toks, NoOper, ChildE, LawfulE, names, steps, flat}
use Rattle.lawful.specs.Apply as Apply
use Rattle.lawful.specs.Apply.Tok.{name, sign}
use Rattle.grouping.specs.Grouping.{Atom, Operator, Operand, Line, Term, Below, Child, Tight, Lawful, operators, At, Tie}
use Rattle.grouping.specs.Grouping.Lawful.{lawful_atom, lawful_apply, lawful_oper}
use Rattle.grouping.specs.Climbs.{assoc_no, fixity_of, bare, step_tokens, Atoms, Stand}
use Rattle.grouping.specs.Meanings.{Fair, assoc_of, op_of, Signs, words, All, Formed, fixities}

-- The operator that a token of a fixity is has that fixity.
fixity_back : (t : Token) (o : Infix) → o.assoc ≤ Right → fixity_of (op_of t o) ≡ o
unfolding assoc_of
fixity_back t o h = go o.assoc h
  where
    same : (a : ℕ) → a ≤ Right → assoc_no (assoc_of a) ≡ a
    same zero h = refl
    same (suc zero) h = refl
    same (suc (suc a)) h = absurd (omega arith)

    go : (a : ℕ) → a ≤ Right → ◌≡◌ {A = Infix} (record { prec = o.prec; assoc = assoc_no (assoc_of a) }) (record { prec = o.prec; assoc = a })
    go a h = λ i. record { prec = o.prec; assoc = same a h i }

-- a token that is an operator under E is such an operator
pub signs : {E : List Entry} → Fair E → {t : Token} {o : Infix} → Operator E t o → Signs E (op_of t o)
signs fair {t} {o} h = record { sign = h.sign; fixity = h.fixity ∙ ap some (sym (fixity_back t o (fair t.text o h.fixity))) }

-- the number tells the association
assoc_same : (a b : Assoc) → assoc_no a ≡ assoc_no b → a ≡ b
assoc_same left left e = refl
assoc_same left right e = absurd (omega arith)
assoc_same right left e = absurd (omega arith)
assoc_same right right e = refl

-- a token is one operator
one_op : (E : List Entry) (o p : Op) → Signs E o → Signs E p → o.token ≡ p.token → o ≡ p
one_op E o p h k e =
    let q : some (fixity_of o) ≡ some (fixity_of p) = sym h.fixity ∙ ap (λ (t : Token). find t.text E) e ∙ k.fixity in
    let r : fixity_of o ≡ fixity_of p = cc in
    let s = ap (λ (i : Infix). i.prec) r in
    let a = assoc_same o.assoc p.assoc (ap (λ (i : Infix). i.assoc) r) in
    λ i. record { token = e i; prec = s i; assoc = a i }

module _ (E : List Entry) where
  -- each part of a list stands so
  all_left : (xs ys : List (Tok Token)) → All E (xs ++ ys) → All E xs
  all_left [] ys h = tt
  all_left (name t ∷ xs) ys h = (h.0, all_left xs ys h.1)
  all_left (sign o ∷ xs) ys h = (h.0, all_left xs ys h.1)

  -- and so does the other
  all_right : (xs ys : List (Tok Token)) → All E (xs ++ ys) → All E ys
  all_right [] ys h = h
  all_right (name t ∷ xs) ys h = all_right xs ys h.1
  all_right (sign o ∷ xs) ys h = all_right xs ys h.1

  -- and two lists one behind the other do
  all_append : (xs ys : List (Tok Token)) → All E xs → All E ys → All E (xs ++ ys)
  all_append [] ys h k = k
  all_append (name t ∷ xs) ys h k = (h.0, all_append xs ys h.1 k)
  all_append (sign o ∷ xs) ys h k = (h.0, all_append xs ys h.1 k)

  -- an atom has no fixity
  atom_none : {t : Token} → Atom E t → find t.text E ≡ none
  atom_none (Atom.literal e) = e
  atom_none (Atom.name e) = e

  -- so it is no operator
  no_both : {t : Token} (o : Op) → Atom E t → Signs E o → t ≡ o.token → ⊥
  no_both {t} o a h e =
      let q : ◌≡◌ {A = Option Infix} none (some (fixity_of o)) = sym (atom_none a) ∙ ap (λ (t : Token). find t.text E) e ∙ h.fixity in
      let z : ◌≡◌ {A = ℕ} 0 1 = cc in omega arith

  -- what stands under E is told by its tokens
  pub same_words : (xs ys : List (Tok Token)) → All E xs → All E ys → words xs ≡ words ys → xs ≡ ys
  same_words [] [] h k e = refl
  same_words [] (name t ∷ ys) h k e = cc
  same_words [] (sign o ∷ ys) h k e = cc
  same_words (name t ∷ xs) [] h k e = cc
  same_words (name t ∷ xs) (name u ∷ ys) h k e = cc (same_words xs ys h.1 k.1 (cc))
  same_words (name t ∷ xs) (sign o ∷ ys) h k e = absurd (no_both o h.0 k.0 (cc))
  same_words (sign o ∷ xs) [] h k e = cc
  same_words (sign o ∷ xs) (name t ∷ ys) h k e = absurd (no_both o k.0 h.0 (cc))
  same_words (sign o ∷ xs) (sign p ∷ ys) h k e = cc (one_op E o p h.0 k.0 (cc), same_words xs ys h.1 k.1 (cc))

-- what may stand below an operator, there and here
below_here : (s : Assoc) (o p : Op) → Terms.Below s o p → Below (assoc_no s) (fixity_of o) (fixity_of p)
below_here s o p (Terms.Below.higher h) = Below.higher h
below_here s o p (Terms.Below.same h a b) = Below.same h (ap assoc_no a) (ap assoc_no b)

-- and back
below_there : (s : Assoc) (o p : Op) → Below (assoc_no s) (fixity_of o) (fixity_of p) → Terms.Below s o p
below_there s o p (Below.higher h) = Terms.Below.higher h
below_there s o p (Below.same h a b) = Terms.Below.same h (assoc_same o.assoc s a) (assoc_same p.assoc s b)

module _ (E : List Entry) where
  -- a token has one fixity
  one_fixity : {t : Token} {o p : Infix} → Operator E t o → Operator E t p → o ≡ p
  one_fixity {t} {o} {p} h k = let q : some o ≡ some p = sym h.fixity ∙ k.fixity in cc

  -- a child, there and here
  child_here : (s : Assoc) (o : Op) (e : Exp Token) → All E (toks e) → ChildE s o e → Child E (assoc_no s) (fixity_of o) (bare e)
  unfolding bare
  child_here s o (Exp.atom t) a h = tt
  child_here s o (Exp.apply f x) a h = tt
  child_here s o (Exp.oper l p r) a h = λ q k.
      let z = one_fixity (all_right E (toks l) (sign p ∷ toks r) a).0 k in rw (← z) (below_here s o p h)

  -- a term without an operator at its top, there and here
  tight_here : (e : Exp Token) → NoOper e → Tight (bare e)
  unfolding bare
  tight_here (Exp.atom t) h = tt
  tight_here (Exp.apply f x) h = tt
  tight_here (Exp.oper l p r) h = h

  -- a lawful term, whose tokens stand so under E, is lawful under E
  pub lawful_here : (e : Exp Token) → All E (toks e) → LawfulE e → Lawful E (bare e)
  unfolding bare
  lawful_here (Exp.atom t) a h = lawful_atom a.0
  lawful_here (Exp.apply f (Exp.atom t)) a h =
      lawful_apply (tight_here f h.0) (lawful_here f (all_left E (toks f) (name t ∷ []) a) h.2) (all_right E (toks f) (name t ∷ []) a).0
  lawful_here (Exp.apply f (Exp.apply g x)) a h = absurd h.1
  lawful_here (Exp.apply f (Exp.oper l o r)) a h = absurd h.1
  lawful_here (Exp.oper l o r) a h =
      let b = all_left E (toks l) (sign o ∷ toks r) a in
      let c = all_right E (toks l) (sign o ∷ toks r) a in
      lawful_oper c.0 (child_here left o l b h.0) (child_here right o r c.1 h.1) (lawful_here l b h.2) (lawful_here r c.1 h.3)

  -- A tree that is lawful under E, as crate lawful has it.
  pub record There (t : Term) : Type 0 where
    pub exp : Exp Token
    pub same : bare exp ≡ t
    pub stands : All E (toks exp)
    pub lawful : LawfulE exp

  module _ (fair : Fair E) where
    -- and back: a child
    child_there : (s : Assoc) (o : Op) (e : Exp Token) → All E (toks e) → Child E (assoc_no s) (fixity_of o) (bare e) → ChildE s o e
    unfolding bare
    child_there s o (Exp.atom t) a h = tt
    child_there s o (Exp.apply f x) a h = tt
    child_there s o (Exp.oper l p r) a h = below_there s o p (h (fixity_of p) (all_right E (toks l) (sign p ∷ toks r) a).0)

    -- a term without an operator at its top
    tight_there : (e : Exp Token) → Tight (bare e) → NoOper e
    unfolding bare
    tight_there (Exp.atom t) h = tt
    tight_there (Exp.apply f x) h = tt
    tight_there (Exp.oper l p r) h = h

    -- each tree that is lawful under E is one there
    pub there : {t : Term} → Lawful E t → There t
    unfolding bare
    there (lawful_atom {t} a) = record { exp = Exp.atom t; same = refl; stands = (a, tt); lawful = tt }
    there (lawful_apply {f} {t} k h a) = let r = there h in record {
      exp = Exp.apply r.exp (Exp.atom t);
      same = cc r.same;
      stands = all_append E (toks r.exp) (name t ∷ []) r.stands (a, tt);
      lawful = (tight_there r.exp (rw r.same k), tt, r.lawful);
    }
    there (lawful_oper {l} {r} {t} {o} k cl cr hl hr) =
        let a = there hl in
        let b = there hr in
        let q = fixity_back t o (fair t.text o k.fixity) in
        record {
          exp = Exp.oper a.exp (op_of t o) b.exp;
          same = cc (a.same, b.same);
          stands = all_append E (toks a.exp) (sign (op_of t o) ∷ toks b.exp) a.stands (signs fair k, b.stands);
          lawful = (child_there left (op_of t o) a.exp a.stands (rw (q, a.same) cl), child_there right (op_of t o) b.exp b.stands (rw (q, b.same) cr), a.lawful, b.lawful);
        }

-- An operand, as crate lawful has it.
record Applied (E : List Entry) (ts : List Token) : Type 0 where
  operand : Apply.Operand Token
  fun : Atom E operand.fun
  args : Atoms E operand.args
  same : operand.fun ∷ operand.args ≡ ts

-- each operand is one there
applied : {E : List Entry} {ts : List Token} → Operand E ts → Applied E ts
applied (Operand.one {t} a) = record { operand = record { fun = t; args = [] }; fun = a; args = tt; same = refl }
applied {E} (Operand.more {t} a h) = let r = applied h in record { operand = record { fun = t; args = r.operand.fun ∷ r.operand.args }; fun = a; args = (r.fun, r.args); same = ap (λ (l : List Token). t ∷ l) r.same }

-- each line is one of crate lawful
pub formed : {E : List Entry} {ts : List Token} → Fair E → Line E ts → Formed E ts
unfolding step_tokens
formed fair (Line.last h) = let r = applied h in record {
  line = record { first = r.operand; rest = [] };
  fun = r.fun;
  args = r.args;
  rest = tt;
  same = rw append-nil r.same;
}
formed fair (Line.then {t} {o} {ts} {us} h k l) =
    let r = applied h in
    let q = formed fair l in
    record {
      line = record { first = r.operand; rest = record { op = op_of t o; operand = q.line.first } ∷ q.line.rest };
      fun = r.fun;
      args = r.args;
      rest = (signs fair k, q.fun, q.args, q.rest);
      same = ap (λ (l : List Token). r.operand.fun ∷ (r.operand.args ++ (t ∷ l))) q.same ∙ ap (λ (l : List Token). l ++ (t ∷ us)) r.same;
    }

module _ (E : List Entry) where
  -- The tokens of a line stand so under E: those of atoms,
  names_all : (ts : List Token) (xs : List (Tok Token)) → Atoms E ts → All E xs → All E (names ts ++ xs)
  names_all [] xs a h = h
  names_all (t ∷ ts) xs a h = (a.0, names_all ts xs a.1 h)

  -- of steps,
  steps_all : (xs : List (Step (Apply.Operand Token))) → Stand E xs → All E (steps xs)
  steps_all [] h = tt
  steps_all (s ∷ xs) h = (h.0, (h.1, names_all s.operand.args (steps xs) h.2 (steps_all xs h.3)))

  -- and of the whole line.
  pub flat_all : {ts : List Token} (f : Formed E ts) → All E (flat f.line)
  flat_all f = (f.fun, names_all f.line.first.args (steps f.line.rest) f.args (steps_all f.line.rest f.rest))

module _ (E : List Entry) where
  -- a token without a fixity adds none
  none_operator : (t : Token) (ts : List Token) → find t.text E ≡ none → operators E (t ∷ ts) ≡ operators E ts
  unfolding operators
  none_operator t ts e = rw (e, operators)

  -- an operator adds its fixity
  some_operator : (t : Token) (o : Infix) (ts : List Token) → find t.text E ≡ some o → operators E (t ∷ ts) ≡ o ∷ operators E ts
  unfolding operators
  some_operator t o ts e = rw (e, operators)

  -- atoms add none
  atoms_operators : (ts us : List Token) → Atoms E ts → operators E (ts ++ us) ≡ operators E us
  atoms_operators [] us a = refl
  atoms_operators (t ∷ ts) us a = none_operator t (ts ++ us) (atom_none E a.0) ∙ atoms_operators ts us a.1

  -- so the fixities of steps are theirs
  steps_operators : (xs : List (Step (Apply.Operand Token))) → Stand E xs → operators E (step_tokens xs) ≡ fixities xs
  unfolding step_tokens operators
  steps_operators [] h = refl
  steps_operators (s ∷ xs) h =
      let us = s.operand.args ++ step_tokens xs in
      some_operator s.op.token (fixity_of s.op) (s.operand.fun ∷ us) h.0.fixity
      ∙ ap (λ (l : List Infix). fixity_of s.op ∷ l) (none_operator s.operand.fun us (atom_none E h.1) ∙ atoms_operators s.operand.args (step_tokens xs) h.2 ∙ steps_operators xs h.3)

  -- and so are those of the line
  pub line_operators : {ts : List Token} (f : Formed E ts) → operators E ts ≡ fixities f.line.rest
  line_operators f = ap (operators E) (sym f.same)
      ∙ none_operator f.line.first.fun _ (atom_none E f.fun) ∙ atoms_operators f.line.first.args (step_tokens f.line.rest) f.args ∙ steps_operators f.line.rest f.rest

-- what a list of fixities holds at a place
record Held (xs : List (Step (Apply.Operand Token))) (i : ℕ) (o : Infix) : Type 0 where
  step : Step (Apply.Operand Token)
  at : Terms.At xs i step
  is : fixity_of step.op ≡ o

-- it is that of the step there
held : (xs : List (Step (Apply.Operand Token))) (i : ℕ) (o : Infix) → At (fixities xs) i o → Held xs i o
held [] i o h = absurd h
held (s ∷ xs) zero o h = record { step = s; at = refl; is = h }
held (s ∷ xs) (suc i) o h = let r = held xs i o h in record { step = r.step; at = r.at; is = r.is }

-- and that of a step is held at its place
holds : (xs : List (Step (Apply.Operand Token))) (i : ℕ) (s : Step (Apply.Operand Token)) → Terms.At xs i s → At (fixities xs) i (fixity_of s.op)
holds [] i s h = absurd h
holds (x ∷ xs) zero s h = ap (λ (s : Step (Apply.Operand Token)). fixity_of s.op) h
holds (x ∷ xs) (suc i) s h = holds xs i s h

-- ties, here and there
pub tie_there : (xs : List (Step (Apply.Operand Token))) → Tie (fixities xs) → Terms.Tie xs
tie_there xs t =
    let a = held xs t.i t.o t.at_i in
    let b = held xs t.j t.p t.at_j in
    let ap1 = ap (λ (o : Infix). o.prec) a.is in
    let bp1 = ap (λ (o : Infix). o.prec) b.is in
    record {
      i = t.i;
      j = t.j;
      s = a.step;
      t = b.step;
      order = t.order;
      at_i = a.at;
      at_j = b.at;
      tied = record { level = ap1 ∙ t.level ∙ sym bp1; unlike = λ e. t.unlike (ap (λ (o : Infix). o.assoc) (sym a.is) ∙ ap assoc_no e ∙ ap (λ (o : Infix). o.assoc) b.is) };
      between = λ k u l m h. rw ap1 (t.between k (fixity_of u.op) l m (holds xs k u h));
    }

-- and back
pub tie_here : (xs : List (Step (Apply.Operand Token))) → Terms.Tie xs → Tie (fixities xs)
tie_here xs t = record {
  i = t.i;
  j = t.j;
  o = fixity_of t.s.op;
  p = fixity_of t.t.op;
  order = t.order;
  at_i = holds xs t.i t.s t.at_i;
  at_j = holds xs t.j t.t t.at_j;
  level = t.tied.level;
  unlike = λ e. t.tied.unlike (assoc_same _ _ e);
  between = λ k q l m h. let r = held xs k q h in rw (← r.is) (t.between k r.step l m r.at);
}
