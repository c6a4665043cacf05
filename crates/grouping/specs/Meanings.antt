-- Lines, operators and fixities of tokens, as those of crate lawful.
use Rattle.std.specs.Prelude.{ℕ, zero, suc, ◌+◌, ◌≤◌, ◌≡◌, Bool, true, false, ◌&&◌, leb, get_or, length, take, drop}
use Rattle.std.proofs.Math.Path.{refl, ap}
use Rattle.std.proofs.Common.{◌∙◌, sym, arith, leb-true}
use mathlib.Core.List.{List, [], ◌∷◌, ◌++◌, map}
use Rattle.std.proofs.Math.Option.{Option, none, some}
use Rattle.grammar.specs.Bytes as Bytes
use Rattle.grammar.specs.Tokens.{Token}
use Rattle.grammar.specs.Env.{Infix, Entry, Right, find, env_of, entries_of, entry_fits, entry_in, max_name}
use Rattle.laws.specs.Choice.{if_both}
use Rattle.lawful.specs.Terms.{Assoc, Op, Step}
use Rattle.lawful.specs.Terms as Terms
use Rattle.lawful.specs.Terms.Assoc.{left, right}
use Rattle.lawful.specs.Apply.{Exp, Tok, toks, NoOper, ChildE, LawfulE, names, steps, flat}
use Rattle.lawful.specs.Apply as Apply
use Rattle.lawful.specs.Apply.Tok.{name, sign}
use Rattle.grouping.specs.Grouping.{Atom, Operator, tokens}
use Rattle.grouping.specs.Climbs.{fixity_of, bare, step_tokens, Atoms, Stand}
use Rattle.grouping.specs.Files.{line_tokens}

-- every fixity of E associates to the left or to the right
abbrev pub Fair : List Entry → Type 0
Fair E = (x : List ℕ) (o : Infix) → find x E ≡ some o → o.assoc ≤ Right

-- each entry of an environment does
abbrev Entries : List Entry → Type 0
Entries [] = Unit {0}
Entries (e ∷ es) = (e.fixity.assoc ≤ Right) × Entries es

-- so every fixity that is found does
entries_fair : (E : List Entry) → Entries E → Fair E
unfolding find
entries_fair [] h x o e = absurd (let z : ◌≡◌ {A = ℕ} 0 1 = cc in omega arith)
entries_fair (y ∷ E) h x o e = if_both (λ (r : Option Infix). r ≡ some o → o.assoc ≤ Right) (Bytes.same x y.name)
    (λ _ e. let q : y.fixity ≡ o = cc in rw (← q) h.0) (λ _. entries_fair E h.1 x o) e

-- of a test of two things, the second
and_right : (a b : Bool) → (a && b) ≡ true → b ≡ true
and_right true b e = e
and_right false b e = absurd (let z : ◌≡◌ {A = ℕ} 0 1 = cc in omega arith)

-- the association of an entry that fits
fits_assoc : (last : List ℕ) (n : ℕ) (bytes : List ℕ) → entry_fits last n bytes ≡ true → get_or bytes (n + 2) 0 ≤ Right
unfolding entry_fits
fits_assoc last n bytes t = leb-true (get_or bytes (n + 2) 0) Right (and_right (leb 1 n && leb n max_name && leb (n + 3) (length bytes) && Bytes.before last (take n bytes)) _ t)

-- entries that were read fit
entries_of_lem : (k : ℕ) (last bytes : List ℕ) (E : List Entry) → entries_of k last bytes ≡ some E → Entries E
unfolding entries_of
entries_of_lem zero last [] E e = let q : [] ≡ E = cc in rw (← q) tt
entries_of_lem zero last (n ∷ bytes) E e = absurd (let z : ◌≡◌ {A = ℕ} 0 1 = cc in omega arith)
entries_of_lem (suc k) last [] E e = let q : [] ≡ E = cc in rw (← q) tt
entries_of_lem (suc k) last (n ∷ bytes) E e = if_both (λ (r : Option (List Entry)). r ≡ some E → Entries E) (entry_fits last n bytes)
    (λ t. go t (entries_of k (take n bytes) (drop (n + 3) bytes)) (entries_of_lem k (take n bytes) (drop (n + 3) bytes)))
    (λ _ e. absurd (let z : ◌≡◌ {A = ℕ} 0 1 = cc in omega arith)) e
  where
    go : entry_fits last n bytes ≡ true → (r : Option (List Entry)) → ((es : List Entry) → r ≡ some es → Entries es)
        → ◌≡◌ {A = Option (List Entry)} (elim r [ none ↦ none | some es ↦ some (entry_in n bytes ∷ es) ]) (some E) → Entries E
    go t none ih e = absurd (let z : ◌≡◌ {A = ℕ} 0 1 = cc in omega arith)
    go t (some es) ih e = let q : entry_in n bytes ∷ es ≡ E = cc in rw (← q) (fits_assoc last n bytes t, ih es refl)

-- of an environment of document 01's form
pub env_fair : (bytes : List ℕ) (E : List Entry) → env_of bytes ≡ some E → Fair E
unfolding env_of
env_fair bytes E e = entries_fair E (entries_of_lem _ _ bytes E e)

-- the association of a number
unfoldable pub assoc_of : ℕ → Assoc
assoc_of zero = left
assoc_of (suc n) = right

-- the operator that a token of that fixity is
abbrev pub op_of : Token → Infix → Op
op_of t o = record { token = t; prec = o.prec; assoc = assoc_of o.assoc }

-- An operator under E, as crate lawful has it.
abbrev pub Signs : List Entry → Op → Type 0
Signs E o = Operator E o.token (fixity_of o)

-- the tokens of crate lawful's tokens
abbrev pub words : List (Tok Token) → List Token
words [] = []
words (name t ∷ xs) = t ∷ words xs
words (sign o ∷ xs) = o.token ∷ words xs

-- they stand so under E
abbrev pub All : List Entry → List (Tok Token) → Type 0
All E [] = Unit {0}
All E (name t ∷ xs) = Atom E t × All E xs
All E (sign o ∷ xs) = Signs E o × All E xs

-- of two lists, one behind the other
words_append : (xs ys : List (Tok Token)) → words (xs ++ ys) ≡ words xs ++ words ys
words_append [] ys = refl
words_append (name t ∷ xs) ys = ap (λ (l : List Token). t ∷ l) (words_append xs ys)
words_append (sign o ∷ xs) ys = ap (λ (l : List Token). o.token ∷ l) (words_append xs ys)

-- the tokens of a term
pub tokens_bare : (e : Exp Token) → tokens (bare e) ≡ words (toks e)
unfolding tokens bare
tokens_bare (Exp.atom t) = refl
tokens_bare (Exp.apply f x) = rw (tokens_bare f, tokens_bare x) (sym (words_append (toks f) (toks x)))
tokens_bare (Exp.oper l o r) = rw (tokens_bare l, tokens_bare r) (sym (words_append (toks l) (sign o ∷ toks r)))

-- A line, as crate lawful has it.
pub record Formed (E : List Entry) (ts : List Token) : Type 0 where
  pub line : Terms.Line (Apply.Operand Token)
  pub fun : Atom E line.first.fun
  pub args : Atoms E line.first.args
  pub rest : Stand E line.rest
  pub same : line_tokens line ≡ ts

module _ (E : List Entry) where
  -- the tokens of a line, there and here: of atoms
  names_words : (ts : List Token) (xs : List (Tok Token)) → words (names ts ++ xs) ≡ ts ++ words xs
  names_words [] xs = refl
  names_words (t ∷ ts) xs = ap (λ (l : List Token). t ∷ l) (names_words ts xs)

  -- of steps
  steps_words : (xs : List (Step (Apply.Operand Token))) → words (steps xs) ≡ step_tokens xs
  unfolding step_tokens
  steps_words [] = refl
  steps_words (s ∷ xs) = ap (λ (l : List Token). s.op.token ∷ s.operand.fun ∷ l)
      (names_words s.operand.args (steps xs) ∙ ap (λ (l : List Token). s.operand.args ++ l) (steps_words xs))

  -- and of the whole line
  pub flat_words : (l : Terms.Line (Apply.Operand Token)) → words (flat l) ≡ line_tokens l
  flat_words l = ap (λ (ts : List Token). l.first.fun ∷ ts)
      (names_words l.first.args (steps l.rest) ∙ ap (λ (ts : List Token). l.first.args ++ ts) (steps_words l.rest))

-- the fixities of a line
abbrev pub fixities : List (Step (Apply.Operand Token)) → List Infix
fixities xs = map (λ s. fixity_of s.op) xs
