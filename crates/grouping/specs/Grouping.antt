-- One lawful grouping of a line: what a line, an operator, a lawful tree and a tie are, and the three claims about `read`. They are proved in proofs/Proofs.antt.
use Rattle.std.specs.Prelude.{ℕ, zero, suc, ◌<◌, ◌≤◌, ◌≡◌, List, [], ◌∷◌, ◌++◌, map, true, false, ◌⊎◌, eqb, length}
use Rattle.std.proofs.Math.Option.{none, some}
use Rattle.grammar.specs.Tokens.{Token, record_count, live}
use Rattle.grammar.specs.Env.{Infix, Entry, Left, Right, find, env_of, env_bytes}
use Rattle.grammar.specs.World.{Find, no_name}
use Rattle.grammar.specs.Nodes.{nodes_bytes, find_bytes}
use Rattle.grammar.specs.Read.{Call, Result, was_read, pad, handed, read}
use Rattle.grammar.specs.SyntaxKind as SK
use Rattle.grammar.specs.ErrorKind as EK
use Rattle.laws.specs.Trees.{Forest}
use Rattle.laws.specs.Trees.Forest.{leaf, node}
use Rattle.laws.specs.Flat.{flat}

-- Lines. An atom under the environment E is an IntLit or a Name whose text has no fixity in E.
pub data Atom (E : List Entry) : Token → Type 0 where
  literal : {i : ℕ} {x : List ℕ} → find x E ≡ none → Atom E (record { index = i; kind = SK.IntLit; text = x })
  name : {i : ℕ} {x : List ℕ} → find x E ≡ none → Atom E (record { index = i; kind = SK.Name; text = x })

-- the kinds that an operator may have
pub data Sign : ℕ → Type 0 where
  name : Sign SK.Name
  star : Sign SK.Star
  eq : Sign SK.Eq

-- An operator under E is a Name, Star or Eq whose text has a fixity in E, here o.
pub record Operator (E : List Entry) (t : Token) (o : Infix) : Type 0 where
  pub sign : Sign t.kind
  pub fixity : find t.text E ≡ some o

-- An operand is one atom or more.
pub data Operand (E : List Entry) : List Token → Type 0 where
  one : {t : Token} → Atom E t → Operand E (t ∷ [])
  more : {t : Token} {ts : List Token} → Atom E t → Operand E ts → Operand E (t ∷ ts)

-- A line is an operand, or an operand, an operator and a line.
pub data Line (E : List Entry) : List Token → Type 0 where
  last : {ts : List Token} → Operand E ts → Line E ts
  then : {t : Token} {o : Infix} {ts us : List Token} → Operand E ts → Operator E t o → Line E us → Line E (ts ++ (t ∷ us))

-- Trees. A term is an atom, a term applied to another, or two terms around an operator.
pub data Term : Type 0 where
  atom : Token → Term
  apply : Term → Term → Term
  oper : Term → Token → Term → Term

-- the tokens of a term, in order: nothing marks an application, and there are no parentheses
unfoldable pub tokens : Term → List Token
tokens (atom t) = t ∷ []
tokens (apply f x) = tokens f ++ tokens x
tokens (oper l t r) = tokens l ++ (t ∷ tokens r)

-- Lawful trees. p may stand right below o on the side s: it has the higher precedence, or they have one precedence and both associate to s.
pub data Below (s : ℕ) (o p : Infix) : Type 0 where
  higher : o.prec < p.prec → Below s o p
  same : o.prec ≡ p.prec → o.assoc ≡ s → p.assoc ≡ s → Below s o p

-- A term may be the child on the side s of the operator o: an operator at its top may stand there.
abbrev pub Child : List Entry → ℕ → Infix → Term → Type 0
Child E s o (atom t) = Unit {0}
Child E s o (apply f x) = Unit {0}
Child E s o (oper l t r) = (p : Infix) → Operator E t p → Below s o p

-- what is applied has no operator at its top
abbrev pub Tight : Term → Type 0
Tight (atom t) = Unit {0}
Tight (apply f x) = Unit {0}
Tight (oper l t r) = ⊥

-- A lawful tree under E: each application is of a term without an operator at its top, and to an atom; the two children of each operator may stand on their sides.
pub data Lawful (E : List Entry) : Term → Type 0 where
  lawful_atom : {t : Token} → Atom E t → Lawful E (atom t)
  lawful_apply : {f : Term} {t : Token} → Tight f → Lawful E f → Atom E t → Lawful E (apply f (atom t))
  lawful_oper : {l r : Term} {t : Token} {o : Infix} → Operator E t o → Child E Left o l → Child E Right o r → Lawful E l → Lawful E r → Lawful E (oper l t r)

-- Ties. The fixities of the operators among tokens, in order.
unfoldable pub operators : List Entry → List Token → List Infix
operators E [] = []
operators E (t ∷ ts) = elim (find t.text E) [ none ↦ operators E ts | some o ↦ o ∷ operators E ts ]

-- the place i of the list holds x
abbrev pub At : List Infix → ℕ → Infix → Type 0
At [] i x = ⊥
At (y ∷ ys) zero x = y ≡ x
At (y ∷ ys) (suc i) x = At ys i x

-- A tie: two operators of equal precedence and unlike association, with none of lower precedence between.
pub record Tie (os : List Infix) : Type 0 where
  pub i : ℕ
  pub j : ℕ
  pub o : Infix
  pub p : Infix
  pub order : i < j
  pub at_i : At os i o
  pub at_j : At os j p
  pub level : o.prec ≡ p.prec
  pub unlike : o.assoc ≡ p.assoc → ⊥
  pub between : (k : ℕ) (q : Infix) → i < k → k < j → At os k q → o.prec ≤ q.prec

-- Nodes. The node of an atom behind the forest f: SConExp of an IntLit, PathExp of a Name.
unfoldable pub atom_node : Token → Forest → Forest
atom_node t f =
    elim (eqb t.kind SK.IntLit) [
      | true ↦ node f SK.SConExp (leaf Forest.none t.kind t.index)
      | false ↦ node f SK.PathExp (node Forest.none SK.Path (node Forest.none SK.NameStarEqDot (leaf Forest.none t.kind t.index)))
    ]

-- the nodes of a term behind the forest f: AppExp is an application, InfixExp an operator between its terms
unfoldable pub nodes : Term → Forest → Forest
nodes (atom t) f = atom_node t f
nodes (apply g x) f = node f SK.AppExp (nodes x (nodes g Forest.none))
nodes (oper l t r) f = node f SK.InfixExp (nodes r (leaf (nodes l Forest.none) t.kind t.index))

-- the nodes of a file of one declaration, a node of the kind k that holds c: behind the declaration stands an empty DecWithTail
unfoldable pub file_of : ℕ → Forest → Forest
file_of k c =
    node Forest.none SK.Root (node (node Forest.none SK.Dec (node Forest.none SK.DecWithTail (node Forest.none SK.DecInSeq
    (node Forest.none k c)))) SK.DecWithTail Forest.none)

-- the nodes of a file that is one term: it stands beneath ExpDec
abbrev pub file_nodes : Term → Forest
file_nodes t = file_of SK.ExpDec (nodes t Forest.none)

-- the finding of a tie, at its place
abbrev pub tie_at : ℕ → Find
tie_at p = record { number = EK.SameFixityDiffAssoc; detail = 0; place = p; name = no_name }

-- Calls. The tokens of a call that are no trivia, in order.
abbrev pub tokens_in : Call → List Token
tokens_in c = live c.text c.toks (record_count c.toks) 0

-- The call starts in the environment E, its tokens are a line under E, and it is read: whatever the mode, the depth and the rooms.
pub record Given (c : Call) (E : List Entry) : Type 0 where
  pub env : env_of c.env ≡ some E
  pub line : Line E (tokens_in c)
  pub answer : (read c).answer ≡ was_read

-- No lawful tree has the tokens ts, and the findings are SameFixityDiffAssoc, once or more, and nothing else.
pub record Tied (c : Call) (E : List Entry) (ts : List Token) : Type 0 where
  pub none : (t : Term) → Lawful E t → tokens t ≡ ts → ⊥
  pub place : ℕ
  pub places : List ℕ
  pub finds : (read c).finds ≡ pad c.finds (find_bytes (map tie_at (place ∷ places)))
  pub used : (read c).finds_used ≡ length (find_bytes (map tie_at (place ∷ places)))

-- What `read` hands out where it finds nothing and the file's nodes are f: those, and the environment as it was.
abbrev pub hands_out : Call → List Entry → Forest → Result
hands_out c E f = handed c (nodes_bytes (flat f)) [] (env_bytes E)

-- Exactly one lawful tree has the line, and it is handed out.
pub record Grouped (c : Call) (E : List Entry) : Type 0 where
  pub tree : Term
  pub lawful : Lawful E tree
  pub line : tokens tree ≡ tokens_in c
  pub only : (t : Term) → Lawful E t → tokens t ≡ tokens_in c → t ≡ tree
  pub reads : read c ≡ hands_out c E (file_nodes tree)

-- Claim 1: a line with a tie has no lawful tree, and SameFixityDiffAssoc is among the findings.
abbrev pub WithTie : Type 0
WithTie = (c : Call) (E : List Entry) → Given c E → Tie (operators E (tokens_in c)) → Tied c E (tokens_in c)

-- Claim 2: a line without a tie has exactly one lawful tree; the nodes beneath ExpDec are that tree, and there is no finding.
abbrev pub WithoutTie : Type 0
WithoutTie = (c : Call) (E : List Entry) → Given c E → (Tie (operators E (tokens_in c)) → ⊥) → Grouped c E

-- and each line is the one or the other
abbrev pub EachLine : Type 0
EachLine = (c : Call) (E : List Entry) → Given c E → Tied c E (tokens_in c) ⊎ Grouped c E

-- Claim 3: each lawful tree, written as a line that is not refused, is read back as itself;
abbrev pub ReadBack : Type 0
ReadBack = (c : Call) (E : List Entry) → env_of c.env ≡ some E → (read c).answer ≡ was_read → (t : Term) → Lawful E t → tokens t ≡ tokens_in c → read c ≡ hands_out c E (file_nodes t)

-- and under one environment two lawful trees never share a line.
abbrev pub Apart : Type 0
Apart = (bytes : List ℕ) (E : List Entry) → env_of bytes ≡ some E → (t u : Term) → Lawful E t → Lawful E u → tokens t ≡ tokens u → t ≡ u
