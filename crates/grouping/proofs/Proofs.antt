-- The claims of Grouping, proved.
use Rattle.std.specs.Prelude.{suc, ◌≡◌, refl, List, [], ◌∷◌, ◌++◌, Bool, true, false, ◌⊎◌, length}
use Rattle.std.proofs.Common.{ap, ◌∙◌, sym, append_assoc, inl, inr, arith}
use Rattle.std.proofs.Math.Option.{some}
use Rattle.grammar.specs.Tokens.{Token}
use Rattle.grammar.specs.Env.{Infix, Entry, env_of}
use Rattle.grammar.specs.Read.{Call, was_read, read}
use Rattle.grammar.specs.SyntaxKind as SK
use Rattle.lawful.specs.Terms.{climb}
use Rattle.lawful.specs.Terms as Terms
use Rattle.lawful.specs.Terms.Min.{min}
use Rattle.lawful.specs.Climb.{true_false}
use Rattle.lawful.proofs.Climb.{runs}
use Rattle.lawful.proofs.Laws.{climb_all, tie_report, report_tie}
use Rattle.lawful.specs.Apply.{toks, Means, term, flat}
use Rattle.lawful.proofs.Apply.{tie_no_term, climb_term, unique_term}
use Rattle.grouping.specs.Grouping.{Atom, Operator, Operand, Line, Term, tokens, Tight, Lawful, file_nodes, tokens_in, Given, Tied, Grouped, hands_out, WithTie, WithoutTie, EachLine, ReadBack, Apart}
use Rattle.grouping.specs.Grouping.Lawful.{lawful_atom, lawful_apply, lawful_oper}
use Rattle.grouping.specs.Climbs.{bare, tree}
use Rattle.grouping.specs.Readings.{Handed}
use Rattle.grouping.proofs.Readings.{line_read, handed_tied, handed_quiet}
use Rattle.grouping.specs.Meanings.{Fair, env_fair, words, tokens_bare, Formed, flat_words}
use Rattle.grouping.proofs.Meanings.{same_words, lawful_here, There, there, formed, flat_all, line_operators, tie_there, tie_here}

module _ (E : List Entry) {ts : List Token} (fair : Fair E) (f : Formed E ts) where
  -- a lawful tree of the line is, there, a term of it
  same_line : {t : Term} (h : There E t) → tokens t ≡ ts → toks h.exp ≡ flat f.line
  same_line {t} h e = same_words E (toks h.exp) (flat f.line) h.stands (flat_all E f)
      (sym (tokens_bare h.exp) ∙ ap tokens h.same ∙ e ∙ sym f.same ∙ sym (flat_words E f.line))

  -- a line with a tie has none
  pub no_tree : Terms.Tie f.line.rest → (t : Term) → Lawful E t → tokens t ≡ ts → ⊥
  no_tree k t h e = let r = there E fair h in tie_no_term f.line k r.exp r.lawful (same_line r e)

  -- the climb's tree
  abbrev pub climbed : Term
  climbed = bare (term (climb f.line).tree)

  module _ (m : Means f.line (term (climb f.line).tree)) where
    -- a line without a tie has that one,
    pub climbed_lawful : Lawful E climbed
    climbed_lawful = lawful_here E _ (rw m.whole (flat_all E f)) m.lawful

    -- with its tokens,
    pub climbed_line : tokens climbed ≡ ts
    climbed_line = tokens_bare _ ∙ ap words m.whole ∙ flat_words E f.line ∙ f.same

    -- and no other
    pub climbed_only : (t : Term) → Lawful E t → tokens t ≡ ts → t ≡ climbed
    climbed_only t h e = let r = there E fair h in sym r.same ∙ ap bare (m.only r.exp r.lawful (same_line r e))

-- What `read` hands out for the line is the climb's.
climb_read : (c : Call) (E : List Entry) → env_of c.env ≡ some E → (read c).answer ≡ was_read → (f : Formed E (tokens_in c))
    → Handed c E SK.ExpDec (tree (term (climb f.line).tree)) (climb f.line).tie
climb_read c E e h f = line_read c E e h f.line f.fun f.args f.rest (sym f.same) (climb f.line).tree (climb f.line).tie
    (rw (climb_all f.line) at (runs (suc (length f.line.rest)) min (Terms.Tree.leaf f.line.first) f.line.rest (omega arith)))

-- a line whose climb reports
told : (c : Call) (E : List Entry) → Given c E → (f : Formed E (tokens_in c)) → (climb f.line).tie ≡ true → Tied c E (tokens_in c)
told c E g f k = handed_tied c E _ _ _ _ (climb_read c E g.env g.answer f) k (no_tree E (env_fair c.env E g.env) f (report_tie f.line k))

-- and one whose climb does not
quiet : (c : Call) (E : List Entry) → Given c E → (f : Formed E (tokens_in c)) → (climb f.line).tie ≡ false → Grouped c E
quiet c E g f k =
    let fair = env_fair c.env E g.env in
    let m = climb_term f.line (λ t. true_false (sym (tie_report f.line t) ∙ k)) in
    record {
      tree = climbed E fair f;
      lawful = climbed_lawful E fair f m;
      line = climbed_line E fair f m;
      only = climbed_only E fair f m;
      reads = handed_quiet c E _ _ _ (climb_read c E g.env g.answer f) k;
    }

-- Claim 1.
pub with_tie : WithTie
with_tie c E g t =
    let f = formed (env_fair c.env E g.env) g.line in
    told c E g f (tie_report f.line (tie_there f.line.rest (rw (line_operators E f) at t)))

-- Claim 2.
pub without : WithoutTie
without c E g n = let f = formed (env_fair c.env E g.env) g.line in go f (climb f.line).tie refl
  where
    go : (f : Formed E (tokens_in c)) (b : Bool) → (climb f.line).tie ≡ b → Grouped c E
    go f true e = absurd (n (rw (line_operators E f) (tie_here f.line.rest (report_tie f.line e))))
    go f false e = quiet c E g f e

-- Each line is the one or the other.
pub each_line : EachLine
each_line c E g = let f = formed (env_fair c.env E g.env) g.line in go f (climb f.line).tie refl
  where
    go : (f : Formed E (tokens_in c)) (b : Bool) → (climb f.line).tie ≡ b → Tied c E (tokens_in c) ⊎ Grouped c E
    go f true e = inl (told c E g f e)
    go f false e = inr (quiet c E g f e)

-- two lines around an operator are a line
line_join : {E : List Entry} {t : Token} {o : Infix} {ts us : List Token} → Line E ts → Operator E t o → Line E us → Line E (ts ++ (t ∷ us))
line_join (Line.last h) k l = Line.then h k l
line_join {t} {us} (Line.then {t = u} {ts = ts} {us = vs} h p m) k l = rw append_assoc (Line.then h p (line_join m k l))

-- an operand and an atom behind it
operand_snoc : {E : List Entry} {t : Token} {ts : List Token} → Operand E ts → Atom E t → Operand E (ts ++ (t ∷ []))
operand_snoc (Operand.one a) b = Operand.more a (Operand.one b)
operand_snoc (Operand.more a h) b = Operand.more a (operand_snoc h b)

-- a lawful tree without an operator at its top is an operand
lawful_operand : {E : List Entry} {t : Term} → Lawful E t → Tight t → Operand E (tokens t)
unfolding tokens
lawful_operand (lawful_atom a) k = Operand.one a
lawful_operand (lawful_apply k h a) _ = operand_snoc (lawful_operand h k) a
lawful_operand (lawful_oper p cl cr hl hr) k = absurd k

-- a lawful tree is written as a line
lawful_line : {E : List Entry} {t : Term} → Lawful E t → Line E (tokens t)
unfolding tokens
lawful_line (lawful_atom a) = Line.last (Operand.one a)
lawful_line (lawful_apply k h a) = Line.last (operand_snoc (lawful_operand h k) a)
lawful_line (lawful_oper p cl cr hl hr) = line_join (lawful_line hl) p (lawful_line hr)

-- Claim 3: a lawful tree is read back as itself,
pub read_back : ReadBack
read_back c E e a t h q =
    let g : Given c E = record { env = e; line = rw (← q) (lawful_line h); answer = a } in go (each_line c E g)
  where
    go : Tied c E (tokens_in c) ⊎ Grouped c E → read c ≡ hands_out c E (file_nodes t)
    go (inl k) = absurd (k.none t h q)
    go (inr k) = k.reads ∙ ap (λ (t : Term). hands_out c E (file_nodes t)) (sym (k.only t h q))

-- and two never share a line.
pub apart : Apart
apart bytes E e t u h k q =
    let fair = env_fair bytes E e in
    let a = there E fair h in
    let b = there E fair k in
    let w : toks a.exp ≡ toks b.exp = same_words E _ _ a.stands b.stands
    (sym (tokens_bare a.exp) ∙ ap tokens a.same ∙ q ∙ ap tokens (sym b.same) ∙ tokens_bare b.exp) in
    sym a.same ∙ ap bare (unique_term a.exp b.exp a.lawful b.lawful w) ∙ b.same
