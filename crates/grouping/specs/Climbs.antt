-- Terms and lines of crate lawful as nodes and tokens, and what `should_break` of the source does where the climb goes on and where it ends.
use Rattle.std.specs.Prelude.{ℕ, ◌<◌, ◌≡◌, List, [], ◌∷◌, ◌++◌, Bool, true, false, not, ◌&&◌, eqb, leb, ltb}
use Rattle.std.proofs.Math.Path.{refl}
use Rattle.std.proofs.Common.{◌∙◌, sym, append_assoc, append-nil, arith, eq-eqb, ne_eqb, le-leb, lt-ltb, le-ltb}
use Rattle.std.proofs.lemmas.Bool.{lt-leb}
use Rattle.grammar.specs.Tokens.{Token}
use Rattle.grammar.specs.Env.{Infix, Entry}
use Rattle.grammar.specs.World.{place_in}
use Rattle.grammar.specs.Prog.Prog.{loop}
use Rattle.grammar.specs.Rule.{ExpPrec}
use Rattle.grammar.specs.Util as U
use Rattle.grammar.specs.Exp as X
use Rattle.laws.specs.Trees.{Forest}
use Rattle.lawful.specs.Terms.{Assoc, Op, Step, Tree, Below, Min, or}
use Rattle.lawful.specs.Terms.Assoc.{left, right}
use Rattle.lawful.specs.Terms.Below.{higher, same}
use Rattle.lawful.specs.Terms.Min.{min, infix_of_lem}
use Rattle.lawful.specs.Climb.{Takes}
use Rattle.lawful.specs.Climb.Takes.{inside, tied}
use Rattle.lawful.specs.Apply.{Exp, Operand, term}
use Rattle.lawful.specs.Apply.Exp.{atom, apply, oper}
use Rattle.grouping.specs.Runs.{Goes, g_ret, g_bind, g_on, g_off, g_tie}
use Rattle.grouping.specs.Grouping.{Atom, Operator, Term, nodes}

-- the association's number
abbrev pub assoc_no : Assoc → ℕ
assoc_no left = 0
assoc_no right = 1

-- the fixity of an operator
abbrev pub fixity_of : Op → Infix
fixity_of o = record { prec = o.prec; assoc = assoc_no o.assoc }

-- the term without the fixities
unfoldable pub bare : Exp Token → Term
bare (atom t) = Term.atom t
bare (apply f x) = Term.apply (bare f) (bare x)
bare (oper l o r) = Term.oper (bare l) o.token (bare r)

-- the nodes of a term alone
abbrev pub tree : Exp Token → Forest
tree e = nodes (bare e) Forest.none

-- the tokens of steps
unfoldable pub step_tokens : List (Step (Operand Token)) → List Token
step_tokens [] = []
step_tokens (s ∷ xs) = s.op.token ∷ s.operand.fun ∷ (s.operand.args ++ step_tokens xs)

-- each token is an atom under E
abbrev pub Atoms : List Entry → List Token → Type 0
Atoms E [] = Unit {0}
Atoms E (t ∷ ts) = Atom E t × Atoms E ts

-- each step is an operator and an operand under E
abbrev pub Stand : List Entry → List (Step (Operand Token)) → Type 0
Stand E [] = Unit {0}
Stand E (s ∷ xs) = Operator E s.op.token (fixity_of s.op) × Atom E s.operand.fun × Atoms E s.operand.args × Stand E xs

-- the operator to whose right the climb reads
abbrev pub min_of : Min → ExpPrec
min_of min = ExpPrec.Min
min_of (infix_of_lem o) = ExpPrec.Infix (fixity_of o)

-- whether there is any place
abbrev pub some? : List ℕ → Bool
some? [] = false
some? (p ∷ ps) = true

-- The places ps became ps', more of them exactly where b says so.
pub record Told (b : Bool) (ps ps' : List ℕ) : Type 0 where
  pub more : List ℕ
  pub all : ps' ≡ ps ++ more
  pub tells : some? more ≡ b

-- of two lists, one behind the other
some_append : (ps qs : List ℕ) → some? (ps ++ qs) ≡ or (some? ps) (some? qs)
some_append [] qs = refl
some_append (p ∷ ps) qs = refl

-- nothing told
pub told_none : (ps : List ℕ) → Told false ps ps
told_none ps = record { more = []; all = sym (append-nil ps); tells = refl }

-- told, and told again
pub told_next : {a b : Bool} {ps qs rs : List ℕ} → Told a ps qs → Told b qs rs → Told (or a b) ps rs
told_next {ps} h k = record { more = h.more ++ k.more; all = k.all ∙ rw h.all (append_assoc ps h.more k.more); tells = some_append h.more k.more ∙ rw (h.tells, k.tells) }

-- The tests of should_break. One precedence and unlike associations are a tie,
tie_level : (p q : ℕ) (a b : Assoc) → p ≡ q → (a ≡ b → ⊥) → (eqb p q && not (eqb (assoc_no a) (assoc_no b))) ≡ true
tie_level p q left left e n = absurd (n refl)
tie_level p q left right e n = rw (eq-eqb p q e)
tie_level p q right left e n = rw (eq-eqb p q e)
tie_level p q right right e n = absurd (n refl)

-- other precedences are none,
tie_apart : (p q : ℕ) (b : Bool) → (p ≡ q → ⊥) → (eqb p q && b) ≡ false
tie_apart p q b n = rw (ne_eqb p q n)

-- and like associations are none.
tie_like : (p q : ℕ) (a b : Assoc) → a ≡ b → (eqb p q && not (eqb (assoc_no a) (assoc_no b))) ≡ false
tie_like p q a b e = rw e (go (eqb p q) b)
  where
    go : (c : Bool) (b : Assoc) → (c && not (eqb (assoc_no b) (assoc_no b))) ≡ false
    go true left = refl
    go true right = refl
    go false b = refl

-- A higher operator is not weaker,
weaker_not : (p q : ℕ) (b : Assoc) → q < p → ◌≡◌ {A = Bool} (elim (eqb (assoc_no b) 0) [ true ↦ leb p q | false ↦ ltb p q ]) false
weaker_not p q left h = lt-leb p q h
weaker_not p q right h = le-ltb p q (omega arith)

-- a lower one is,
weaker_so : (p q : ℕ) (b : Assoc) → p < q → ◌≡◌ {A = Bool} (elim (eqb (assoc_no b) 0) [ true ↦ leb p q | false ↦ ltb p q ]) true
weaker_so p q left h = le-leb p q (omega arith)
weaker_so p q right h = lt-ltb p q h

-- an equal one is behind a left one,
weaker_left : (p q : ℕ) (b : Assoc) → p ≡ q → b ≡ left → ◌≡◌ {A = Bool} (elim (eqb (assoc_no b) 0) [ true ↦ leb p q | false ↦ ltb p q ]) true
weaker_left p q b h e = rw e (le-leb p q (omega arith))

-- and is not behind a right one.
weaker_right : (p q : ℕ) (b : Assoc) → p ≡ q → b ≡ right → ◌≡◌ {A = Bool} (elim (eqb (assoc_no b) 0) [ true ↦ leb p q | false ↦ ltb p q ]) false
weaker_right p q b h e = rw e (le-ltb p q (omega arith))

module _ {E : List Entry} {C n : ℕ} {ts : List Token} {f : Forest} {ps : List ℕ} {Q : ℕ → List Token → Forest → List ℕ → Type 0} {g : Bool} where
  -- should_break goes on at an operator that the climb takes, and tells a tie
  pub inward : {m o : Op} {b : Bool} → Takes (infix_of_lem m) o b → ((ps' : List ℕ) → Told b ps ps' → Q 0 ts f ps') → Goes E C n ts f ps {g = g} (U.should_break (fixity_of o) (fixity_of m)) Q
  unfolding U.should_break
  inward (inside {m} {o} (higher k)) h =
      g_off (tie_apart o.prec m.prec _ (omega arith)) (g_off (weaker_not o.prec m.prec m.assoc k) (g_ret (h ps (told_none ps))))
  inward (inside {m} {o} (same k d e)) h =
      g_off (tie_like o.prec m.prec o.assoc m.assoc (cc)) (g_off (weaker_right o.prec m.prec m.assoc (sym k) d) (g_ret (h ps (told_none ps))))
  inward (tied {m} {o} t) h =
      g_on (tie_level o.prec m.prec o.assoc m.assoc (sym t.level) (λ e. t.unlike (sym e)))
      (g_bind (g_tie (g_ret (h _ (record { more = place_in C ts ∷ []; all = refl; tells = refl })))))

  -- and ends at one that it does not take
  pub breaks : {m o : Op} → Below left o m → Q 1 ts f ps → Goes E C n ts f ps {g = g} (U.should_break (fixity_of o) (fixity_of m)) Q
  unfolding U.should_break
  breaks {m} {o} (higher k) h =
      g_off (tie_apart o.prec m.prec _ (omega arith)) (g_on (weaker_so o.prec m.prec m.assoc k) (g_ret h))
  breaks {m} {o} (same k d e) h =
      g_off (tie_like o.prec m.prec o.assoc m.assoc (cc)) (g_on (weaker_left o.prec m.prec m.assoc k e) (g_ret h))

-- The loop of the source, from the term of ex and the tokens of xs, comes to the term of t and leaves the tokens of ys; b says that it tells a tie.
abbrev pub Runs : List Entry → ℕ → Min → Tree (Operand Token) → List (Step (Operand Token)) → Tree (Operand Token) → Bool → List (Step (Operand Token)) → Type 1
Runs E C m ex xs t b ys = (n : ℕ) (ps : List ℕ) (Q : ℕ → List Token → Forest → List ℕ → Type 0)
    → ((ps' : List ℕ) → Told b ps ps' → Q 0 (step_tokens ys) (tree (term t)) ps')
    → Goes E C n (step_tokens xs) (tree (term ex)) ps (loop (X.exp_step (min_of m))) Q
