-- The climb at work. `+` and `-` are left at 6, `*` left at 7, `^` right at 8, `∷` right at 6.
use Rattle.std.specs.Prelude.{ℕ, ◌≡◌, refl, [], ◌∷◌, true, false}
use Rattle.grammar.specs.Tokens.{Token}
use Rattle.lawful.specs.Terms.{Op, Step, Tree, Out, loop, climb, Tie}
use Rattle.lawful.specs.Terms.Assoc.{left, right}
use Rattle.lawful.specs.Terms.Tree.{leaf, node}
use Rattle.lawful.proofs.Laws.{report_tie}

-- The climb does not look at the token.
abbrev sign : Token
sign = record { index = 0; kind = 0; text = [] }

abbrev plus : Op
plus = record { token = sign; prec = 6; assoc = left }

abbrev times : Op
times = record { token = sign; prec = 7; assoc = left }

abbrev power : Op
power = record { token = sign; prec = 8; assoc = right }

abbrev cons : Op
cons = record { token = sign; prec = 6; assoc = right }

abbrev step : Op → ℕ → Step ℕ
step o a = record { op = o; operand = a }

abbrev read : Tree ℕ → Out ℕ
read t = record { tree = t; tie = false; left_over = [] }

-- 1 + 2 * 3 + 4 is (1 + (2 * 3)) + 4
sum : climb (record { first = 1; rest = step plus 2 ∷ (step times 3 ∷ (step plus 4 ∷ [])) })
    ≡ read (node (node (leaf 1) plus (node (leaf 2) times (leaf 3))) plus (leaf 4))
unfolding loop
sum = refl

-- 1 ^ 2 ^ 3 * 4 is (1 ^ (2 ^ 3)) * 4
powers : climb (record { first = 1; rest = step power 2 ∷ (step power 3 ∷ (step times 4 ∷ [])) })
    ≡ read (node (node (leaf 1) power (node (leaf 2) power (leaf 3))) times (leaf 4))
unfolding loop
powers = refl

-- 1 + 2 * 3 ∷ 4 is reported
clash : (climb (record { first = 1; rest = step plus 2 ∷ (step times 3 ∷ (step cons 4 ∷ [])) })).tie ≡ true
unfolding loop
clash = refl

clash_tie : Tie (step plus 2 ∷ (step times 3 ∷ (step cons 4 ∷ [])))
clash_tie = report_tie (record { first = 1; rest = step plus 2 ∷ (step times 3 ∷ (step cons 4 ∷ [])) }) clash

-- and 1 * 2 + 3 ^ 4, whose operators are all apart, is not
apart : (climb (record { first = 1; rest = step times 2 ∷ (step plus 3 ∷ (step power 4 ∷ [])) })).tie ≡ false
unfolding loop
apart = refl
