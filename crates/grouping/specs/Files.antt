-- What the rules for expressions and for declarations come to, on a line and on a file that is one line.
use Rattle.std.specs.Prelude.{ℕ, List, [], ◌∷◌, ◌++◌, Bool}
use Rattle.std.proofs.Math.Bool.{true}
use Rattle.grammar.specs.Tokens.{Token}
use Rattle.grammar.specs.Env.{Entry}
use Rattle.grammar.specs.Prog.Prog.{call}
use Rattle.grammar.specs.Rule.{InfixErr, ExpPrec}
use Rattle.grammar.specs.Rule.Rule.{exp_prec}
use Rattle.grammar.specs.Dec as D
use Rattle.laws.specs.Trees.{Forest}
use Rattle.laws.specs.Trees.Forest.{node}
use Rattle.lawful.specs.Terms.{Line}
use Rattle.lawful.specs.Apply.{Operand}
use Rattle.grouping.specs.Runs.{Goes}
use Rattle.grouping.specs.Grouping.{Term, nodes}
use Rattle.grouping.specs.Climbs.{step_tokens, Told}

-- the tokens of a line
abbrev pub line_tokens : Line (Operand Token) → List Token
line_tokens l = l.first.fun ∷ (l.first.args ++ step_tokens l.rest)

-- The rule for expressions, at these tokens, reads them all and makes the nodes of T; b says that it tells a tie.
abbrev pub Reads : List Entry → ℕ → List Token → Term → Bool → Type 1
Reads E C ts T b = (n : ℕ) (f : Forest) (ps : List ℕ) (Q : ℕ → List Token → Forest → List ℕ → Type 0)
    → ((ps' : List ℕ) → Told b ps ps' → Q 1 [] (nodes T f) ps') → Goes E C n ts f ps (call (exp_prec ExpPrec.Min)) Q

-- The rule for one declaration, at these tokens, reads them all and makes a node of the kind k that holds c; b says that it tells a tie.
abbrev pub One : List Entry → ℕ → List Token → ℕ → Forest → Bool → Type 1
One E C ts k c b = (n : ℕ) (f : Forest) (ps : List ℕ) (Q : ℕ → List Token → Forest → List ℕ → Type 0)
    → ((ps' : List ℕ) → Told b ps ps' → Q 1 [] (node f k c) ps') → Goes E C n ts f ps {g = true} (D.dec_one InfixErr.Yes) Q
