-- The fixities that are in force behind a let expression and behind a local's first part: document 01, scopes.
use Rattle.std.specs.Prelude.{ℕ, true, false, eqb}
use Rattle.grammar.specs.SyntaxKind as SK
use Rattle.parser.specs.declared.State.{State}
use Rattle.parser.specs.View.{back_of}

-- exp.rs, `at_exp`: `let` gives back those of its start; dec.rs, `dec_one`: `local` keeps those of its first part
abbrev pub left_by : ℕ → State → State → State
left_by k s s' = elim (eqb k SK.LetExp) [ true ↦ back_of s s' | false ↦ s' ]
