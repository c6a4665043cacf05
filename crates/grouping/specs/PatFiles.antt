-- What the rule for patterns comes to, on a pattern before `=`.
use Rattle.std.specs.Prelude.{ℕ, List, ◌++◌, Bool}
use Rattle.grammar.specs.Tokens.{Token}
use Rattle.grammar.specs.Env.{Entry}
use Rattle.grammar.specs.Prog.Prog.{call}
use Rattle.grammar.specs.Rule.{PatPrec, InfixErr}
use Rattle.grammar.specs.Rule.Rule.{pat_prec}
use Rattle.laws.specs.Trees.{Forest}
use Rattle.grouping.specs.Grouping.{Term}
use Rattle.grouping.specs.Patterns.{pat_nodes}
use Rattle.grouping.specs.Runs.{Goes}
use Rattle.grouping.specs.Climbs.{Told}

-- The rule for patterns, at the tokens ts before `=`, reads them and makes the nodes of T; b says that it tells a tie.
abbrev pub PatReads : List Entry → ℕ → List Token → List Token → Term → Bool → Type 1
PatReads E C ts us T b = (n : ℕ) (f : Forest) (ps : List ℕ) (Q : ℕ → List Token → Forest → List ℕ → Type 0)
    → ((ps' : List ℕ) → Told b ps ps' → Q 1 us (pat_nodes T f) ps') → Goes E C n (ts ++ us) f ps (call (pat_prec PatPrec.Min InfixErr.Yes)) Q
