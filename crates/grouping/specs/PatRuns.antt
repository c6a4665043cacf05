-- Operands and steps of crate lawful that are a pattern's, and the nodes of a pattern.
use Rattle.std.specs.Prelude.{ℕ, ◌≡◌}
use mathlib.Core.List.{List, [], ◌∷◌}
use Rattle.std.proofs.Math.Option.{none}
use Rattle.grammar.specs.Tokens.{Token}
use Rattle.grammar.specs.Env.{Entry, find}
use Rattle.grammar.specs.Rule.{PatPrec, InfixErr}
use Rattle.grammar.specs.SyntaxKind as SK
use Rattle.laws.specs.Trees.{Forest}
use Rattle.lawful.specs.Terms.{Step, Min}
use Rattle.lawful.specs.Terms.Min.{min, infix_of_lem}
use Rattle.lawful.specs.Apply.{Exp, Operand}
use Rattle.grouping.specs.Grouping.{Atom, Operator}
use Rattle.grouping.specs.Patterns.{pat_nodes}
use Rattle.grouping.specs.Climbs.{fixity_of, bare}

-- the rules for `val` report infix names that stand without `op`
abbrev pub Y : InfixErr
Y = InfixErr.Yes

-- An operand of crate lawful is a pattern's.
pub data PatFit (E : List Entry) : Operand Token → Type 0 where
  alone : {t : Token} → Atom E t → PatFit E (record { fun = t; args = [] })
  applied : {i : ℕ} {x : List ℕ} {t : Token} → find x E ≡ none → Atom E t → PatFit E (record { fun = record { index = i; kind = SK.Name; text = x }; args = t ∷ [] })

-- the steps of a pattern's line stand so under E
abbrev pub PatStand : List Entry → List (Step (Operand Token)) → Type 0
PatStand E [] = Unit {0}
PatStand E (s ∷ xs) = Operator E s.op.token (fixity_of s.op) × (s.op.token.kind ≡ SK.Eq → ⊥) × PatFit E s.operand × PatStand E xs

-- the nodes of a term alone
abbrev pub pat_tree : Exp Token → Forest
pat_tree e = pat_nodes (bare e) Forest.none

-- the operator to whose right the climb reads
abbrev pub pat_min : Min → PatPrec
pat_min min = PatPrec.Min
pat_min (infix_of_lem o) = PatPrec.Infix (fixity_of o)
