-- The same for patterns: what a pattern's line is, the nodes that a lawful tree has there, and the claims about `read` of `val LINE = ATOM`. They are proved in proofs/PatProofs.antt.
use Rattle.std.specs.Prelude.{ℕ, ◌≡◌, List, [], ◌∷◌, ◌++◌, true, false, eqb}
use Rattle.std.proofs.Math.Option.{none, some}
use Rattle.grammar.specs.Tokens.{Token}
use Rattle.grammar.specs.Env.{Infix, Entry, find, env_of}
use Rattle.grammar.specs.Read.{Call, was_read, read}
use Rattle.grammar.specs.SyntaxKind as SK
use Rattle.laws.specs.Trees.{Forest}
use Rattle.laws.specs.Trees.Forest.{leaf, node}
use Rattle.grouping.specs.Grouping.{Atom, Operator, Term, tokens, Lawful, operators, Tie, atom_node, file_of, tokens_in, Tied, hands_out}
use Rattle.grouping.specs.Grouping.Term.{atom, apply, oper}

-- An operand of a pattern is an atom, or a Name that is applied to an atom.
pub data PatOperand (E : List Entry) : List Token → Type 0 where
  alone : {t : Token} → Atom E t → PatOperand E (t ∷ [])
  applied : {i : ℕ} {x : List ℕ} {t : Token} → find x E ≡ none → Atom E t → PatOperand E (record { index = i; kind = SK.Name; text = x } ∷ t ∷ [])

-- A pattern's line is an operand, or an operand, an operator other than Eq and a line.
pub data PatLine (E : List Entry) : List Token → Type 0 where
  last : {ts : List Token} → PatOperand E ts → PatLine E ts
  then : {t : Token} {o : Infix} {ts us : List Token} → PatOperand E ts → Operator E t o → (t.kind ≡ SK.Eq → ⊥) → PatLine E us → PatLine E (ts ++ (t ∷ us))

-- a term that is a Name
abbrev pub IsName : Term → Type 0
IsName (atom t) = t.kind ≡ SK.Name
IsName (apply f x) = ⊥
IsName (oper l t r) = ⊥

-- A term is a pattern: its applications are of a Name, and no operator is an Eq.
abbrev pub Pattern : Term → Type 0
Pattern (atom t) = Unit {0}
Pattern (apply f x) = IsName f
Pattern (oper l t r) = (t.kind ≡ SK.Eq → ⊥) × Pattern l × Pattern r

-- the Path of a constructor
abbrev pub con_path : Token → Forest
con_path t = node Forest.none SK.Path (node Forest.none SK.NameStarEqDot (leaf Forest.none t.kind t.index))

-- of what is applied
abbrev pub head_path : Term → Forest
head_path (atom t) = con_path t
head_path (apply f x) = Forest.none
head_path (oper l t r) = Forest.none

-- the node of an atom behind the forest f: SConPat of an IntLit, ConPat of a Name
unfoldable pub pat_atom : Token → Forest → Forest
pat_atom t f =
    elim (eqb t.kind SK.IntLit) [
      | true ↦ node f SK.SConPat (leaf Forest.none t.kind t.index)
      | false ↦ node f SK.ConPat (con_path t)
    ]

-- the nodes of a pattern behind the forest f: ConPat holds a constructor and its argument, InfixPat an operator between its patterns
unfoldable pub pat_nodes : Term → Forest → Forest
pat_nodes (atom t) f = pat_atom t f
pat_nodes (apply g x) f = node f SK.ConPat (pat_nodes x (head_path g))
pat_nodes (oper l t r) f = node f SK.InfixPat (pat_nodes r (leaf (pat_nodes l Forest.none) t.kind t.index))

-- the nodes of `val`, the pattern t, `=` and the atom x, beneath ValDec
unfoldable pub val_nodes : Token → Term → Token → Token → Forest
val_nodes v t e x =
    node (leaf Forest.none v.kind v.index) SK.ValBind (node (pat_nodes t Forest.none) SK.EqExp (atom_node x (leaf Forest.none e.kind e.index)))

-- a token of the kind k
pub data Is (k : ℕ) : Token → Type 0 where
  is : {i : ℕ} {x : List ℕ} → Is k (record { index = i; kind = k; text = x })

-- The call starts in the environment E, its tokens are `val`, a pattern's line under E, `=` and an atom, and it is read: whatever the mode, the depth and the rooms.
pub record Given (c : Call) (E : List Entry) (v : Token) (ts : List Token) (e x : Token) : Type 0 where
  pub env : env_of c.env ≡ some E
  pub val : Is SK.ValKw v
  pub line : PatLine E ts
  pub eq : Is SK.Eq e
  pub right : Atom E x
  pub all : tokens_in c ≡ v ∷ (ts ++ (e ∷ x ∷ []))
  pub answer : (read c).answer ≡ was_read

-- the nodes of the file
abbrev pub file_nodes : Token → Term → Token → Token → Forest
file_nodes v t e x = file_of SK.ValDec (val_nodes v t e x)

-- Exactly one lawful tree has the line; it is a pattern, and it is handed out.
pub record Grouped (c : Call) (E : List Entry) (v : Token) (ts : List Token) (e x : Token) : Type 0 where
  pub tree : Term
  pub lawful : Lawful E tree
  pub pattern : Pattern tree
  pub line : tokens tree ≡ ts
  pub only : (t : Term) → Lawful E t → tokens t ≡ ts → t ≡ tree
  pub reads : read c ≡ hands_out c E (file_nodes v tree e x)

-- Claim 1: a pattern's line with a tie has no lawful tree, and SameFixityDiffAssoc is among the findings.
abbrev pub WithTie : Type 0
WithTie = (c : Call) (E : List Entry) (v : Token) (ts : List Token) (e x : Token) → Given c E v ts e x → Tie (operators E ts) → Tied c E ts

-- Claim 2: one without has exactly one lawful tree; the nodes before EqExp are that tree, and there is no finding.
abbrev pub WithoutTie : Type 0
WithoutTie = (c : Call) (E : List Entry) (v : Token) (ts : List Token) (e x : Token) → Given c E v ts e x → (Tie (operators E ts) → ⊥) → Grouped c E v ts e x

-- Claim 3: each lawful tree that is a pattern, written so and not refused, is read back as itself. (That two never share a line is Grouping's.)
abbrev pub ReadBack : Type 0
ReadBack = (c : Call) (E : List Entry) → env_of c.env ≡ some E → (read c).answer ≡ was_read → (v e x : Token) → Is SK.ValKw v → Is SK.Eq e → Atom E x
    → (t : Term) → Lawful E t → Pattern t → tokens_in c ≡ v ∷ (tokens t ++ (e ∷ x ∷ [])) → read c ≡ hands_out c E (file_nodes v t e x)
