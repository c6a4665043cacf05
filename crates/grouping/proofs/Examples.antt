-- The claims at work: the definitions hold of lines, with ties and without, and `read` reads them so.
use Rattle.std.specs.Prelude.{ℕ, ◌≡◌, refl, List, [], ◌∷◌}
use Prim.Native.String.{String}
use Rattle.std.proofs.Math.Option.{some}
use Rattle.std.proofs.Common.{arith}
use Rattle.grammar.specs.Bytes.{ascii}
use Rattle.grammar.specs.Tokens.{Token}
use Rattle.grammar.specs.Env.{Infix, Entry, Right, std, put, left, right, env_bytes}
use Rattle.grammar.specs.Read.{Call, read}
use Rattle.grammar.specs.Computing.{computing}
use Rattle.grammar.specs.Lines.{Word, lit, name, word, spelled, records}
use Rattle.grammar.specs.SyntaxKind as SK
use Rattle.grouping.specs.Grouping.{Atom, Sign, Operator, Operand, Line, Term, tokens, Below, Lawful, operators, file_nodes, tokens_in, Given, Tied, hands_out}
use Rattle.grouping.specs.Grouping.Lawful.{lawful_atom, lawful_apply, lawful_oper}
use Rattle.grouping.specs.Grouping.Term.{atom, apply, oper}
use Rattle.grouping.proofs.Proofs.{with_tie, read_back}
use Rattle.grouping.specs.Patterns
use Rattle.grouping.proofs.PatProofs

-- a call in plain mode, with room enough
unfoldable call_of : List Entry → List Word → Call
unfolding spelled records env_bytes std
call_of E ws = record {
  text = spelled ws;
  toks = records 0 ws;
  env = env_bytes E;
  depth = 100;
  mode = 1;
  scratch = 1000;
  nodes = 300;
  finds = 16;
  final = 120;
}

-- the token of that index, kind and spelling
abbrev token : ℕ → ℕ → String → Token
token i k s = record { index = i; kind = k; text = ascii s }

-- an IntLit
abbrev int : ℕ → String → Token
int i s = token i SK.IntLit s

-- f 1 + 2 * 3 is (f 1) + (2 * 3)
abbrev sum_words : List Word
sum_words = name "f" ∷ lit "1" ∷ name "+" ∷ lit "2" ∷ word SK.Star "*" ∷ lit "3" ∷ []

-- its tree
abbrev sum_tree : Term
sum_tree = oper (apply (atom (token 0 SK.Name "f")) (atom (int 1 "1"))) (token 2 SK.Name "+") (oper (atom (int 3 "2")) (token 4 SK.Star "*") (atom (int 5 "3")))

-- the product may stand to the right of the sum
higher : (p : Infix) → Operator std (token 4 SK.Star "*") p → Below Right (left 6) p
unfolding computing
higher p k =
    let e : some (left 7) ≡ some p = k.fixity in
    let q : left 7 ≡ p = cc in
    rw (← q) (Below.higher (omega arith))

-- it is lawful
sum_lawful : Lawful std sum_tree
unfolding computing
sum_lawful = lawful_oper {o = left 6} (record { sign = Sign.name; fixity = refl }) tt higher
    (lawful_apply tt (lawful_atom (Atom.name refl)) (Atom.literal refl))
    (lawful_oper {o = left 7} (record { sign = Sign.star; fixity = refl }) tt tt (lawful_atom (Atom.literal refl)) (lawful_atom (Atom.literal refl)))

-- so it is read back as itself
sum : read (call_of std sum_words) ≡ hands_out (call_of std sum_words) std (file_nodes sum_tree)
unfolding computing call_of tokens
sum = read_back (call_of std sum_words) std refl refl sum_tree sum_lawful refl

-- 1 :: 2 %% 3, where %% is left 5, has a tie
abbrev tie_env : List Entry
tie_env = put (ascii "%%") (left 5) std

-- the line
abbrev tie_words : List Word
tie_words = lit "1" ∷ name "::" ∷ lit "2" ∷ name "%%" ∷ lit "3" ∷ []

-- it is a line, and is read
tie_given : Given (call_of tie_env tie_words) tie_env
unfolding computing call_of
tie_given = record {
  env = refl;
  line = Line.then {t = token 1 SK.Name "::"} {o = right 5} (Operand.one (Atom.literal refl)) (record { sign = Sign.name; fixity = refl })
      (Line.then {t = token 3 SK.Name "%%"} {o = left 5} (Operand.one (Atom.literal refl)) (record { sign = Sign.name; fixity = refl })
      (Line.last (Operand.one (Atom.literal refl))));
  answer = refl;
}

-- so no lawful tree has it, and it is reported
tie : Tied (call_of tie_env tie_words) tie_env (tokens_in (call_of tie_env tie_words))
unfolding computing call_of operators
tie = with_tie (call_of tie_env tie_words) tie_env tie_given (record {
  i = 0;
  j = 1;
  o = right 5;
  p = left 5;
  order = omega arith;
  at_i = refl;
  at_j = refl;
  level = refl;
  unlike = λ e. omega arith;
  between = λ k q l m h. absurd (omega arith);
})

-- val x :: y = z
abbrev cons_words : List Word
cons_words = word SK.ValKw "val" ∷ name "x" ∷ name "::" ∷ name "y" ∷ word SK.Eq "=" ∷ name "z" ∷ []

-- the tree of its pattern
abbrev cons_tree : Term
cons_tree = oper (atom (token 1 SK.Name "x")) (token 2 SK.Name "::") (atom (token 3 SK.Name "y"))

-- it is read back as itself
cons : read (call_of std cons_words) ≡ hands_out (call_of std cons_words) std (Patterns.file_nodes (token 0 SK.ValKw "val") cons_tree (token 4 SK.Eq "=") (token 5 SK.Name "z"))
unfolding computing call_of tokens
cons = PatProofs.read_back (call_of std cons_words) std refl refl (token 0 SK.ValKw "val") (token 4 SK.Eq "=") (token 5 SK.Name "z") Patterns.is Patterns.is (Atom.name refl) cons_tree
    (lawful_oper {o = right 5} (record { sign = Sign.name; fixity = refl }) tt tt (lawful_atom (Atom.name refl)) (lawful_atom (Atom.name refl)))
    (λ e. omega arith, tt, tt) refl
