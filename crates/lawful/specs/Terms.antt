-- Lines of operands and operators, the trees that they may mean, and the climb that reads them.
-- A is the type of operands.
use Rattle.std.specs.Prelude.{ℕ, zero, suc, ◌<◌, ◌≤◌, ◌≡◌, List, [], ◌∷◌, ◌++◌, Bool, true, false, eqb, leb, ltb, length}
use Rattle.grammar.specs.Tokens.{Token}

pub data Assoc : Type 0 where
  left right : Assoc

-- an operator: the token that it is, its precedence and association
pub record Op : Type 0 where
  pub token : Token
  pub prec : ℕ
  pub assoc : Assoc

-- an operator and the operand behind it
pub record Step (A : Type 0) : Type 0 where
  pub op : Op
  pub operand : A

-- an operand, then operators and operands
pub record Line (A : Type 0) : Type 0 where
  pub first : A
  pub rest : List (Step A)

pub data Tree (A : Type 0) : Type 0 where
  leaf : A → Tree A
  node : Tree A → Op → Tree A → Tree A

-- The line of a tree: its operands and operators in order.
abbrev pub join : {A : Type 0} → Line A → Op → Line A → Line A
join l o r = record { first = l.first; rest = l.rest ++ (record { op = o; operand = r.first } ∷ r.rest) }

abbrev pub line : {A : Type 0} → Tree A → Line A
line (leaf a) = record { first = a; rest = [] }
line (node l o r) = join (line l) o (line r)

-- p may stand right below o on the side s: it has the higher precedence, or they have one precedence and both associate to s.
pub data Below (s : Assoc) (o p : Op) : Type 0 where
  higher : o.prec < p.prec → Below s o p
  same : o.prec ≡ p.prec → o.assoc ≡ s → p.assoc ≡ s → Below s o p

abbrev pub Child : {A : Type 0} → Assoc → Op → Tree A → Type 0
Child s o (leaf a) = Unit {0}
Child s o (node l p r) = Below s o p

abbrev pub Lawful : {A : Type 0} → Tree A → Type 0
Lawful (leaf a) = Unit {0}
Lawful (node l o r) = Child left o l × Child right o r × Lawful l × Lawful r

-- the place i of the list holds x
abbrev pub At : {X : Type 0} → List X → ℕ → X → Type 0
At [] i x = ⊥
At (y ∷ ys) zero x = y ≡ x
At (y ∷ ys) (suc i) x = At ys i x

-- one precedence and unlike associations
pub record Tied (o p : Op) : Type 0 where
  pub level : o.prec ≡ p.prec
  pub unlike : o.assoc ≡ p.assoc → ⊥

-- Two operators of the line are tied, and none between them has a lower precedence.
pub record Tie {A : Type 0} (xs : List (Step A)) : Type 0 where
  pub i : ℕ
  pub j : ℕ
  pub s : Step A
  pub t : Step A
  pub order : i < j
  pub at_i : At xs i s
  pub at_j : At xs j t
  pub tied : Tied s.op t.op
  pub between : (k : ℕ) (u : Step A) → i < k → k < j → At xs k u → s.op.prec ≤ u.op.prec

-- The climb. The operator to whose right it reads, if there is one:
pub data Min : Type 0 where
  min : Min
  infix_of_lem : Op → Min

abbrev pub pick {ℓ} : {X : Type ℓ} → Bool → X → X → X
pick true a b = a
pick false a b = b

abbrev pub or : Bool → Bool → Bool
or true b = true
or false b = b

abbrev pub unlike : Assoc → Assoc → Bool
unlike left left = false
unlike left right = true
unlike right left = true
unlike right right = false

abbrev pub by_assoc : {X : Type 0} → Assoc → X → X → X
by_assoc left x y = x
by_assoc right x y = y

-- whether `should_break` reports, and what it returns
abbrev pub reports : Op → Min → Bool
reports op min = false
reports op (infix_of_lem m) = pick (eqb op.prec m.prec) (unlike op.assoc m.assoc) false

abbrev pub breaks : Op → Min → Bool
breaks op min = false
breaks op (infix_of_lem m) = pick (reports op (infix_of_lem m)) false (by_assoc m.assoc (leb op.prec m.prec) (ltb op.prec m.prec))

-- the tree, whether a tie was reported, and what is left of the line
pub record Out (A : Type 0) : Type 0 where
  pub tree : Tree A
  pub tie : Bool
  pub left_over : List (Step A)

-- `exp_prec_loop`, in which `exp_prec` starts the loop at an operand; n bounds the turns
unfoldable pub loop : {A : Type 0} → ℕ → Min → Tree A → List (Step A) → Out A
loop zero m ex xs = record { tree = ex; tie = false; left_over = xs }
loop (suc n) m ex [] = record { tree = ex; tie = false; left_over = [] }
loop (suc n) m ex (s ∷ xs) =
    let r = loop n (infix_of_lem s.op) (leaf s.operand) xs in
    let e = loop n m (node ex s.op r.tree) r.left_over in
    pick (breaks s.op m)
    (record { tree = ex; tie = reports s.op m; left_over = s ∷ xs })
    (record { tree = e.tree; tie = or (reports s.op m) (or r.tie e.tie); left_over = e.left_over })

abbrev pub climb : {A : Type 0} → Line A → Out A
climb l = loop (suc (length l.rest)) min (leaf l.first) l.rest
