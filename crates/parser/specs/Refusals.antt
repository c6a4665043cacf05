-- The numbers of the answers that refuse a call: document 01's table.
use Rattle.std.specs.Prelude.{ℕ, Option, Some, None, ◌≡◌}
use Rattle.std.proofs.Common.{arith}
use Rattle.parser.specs.declared.refusal.Refusal.{Refusal}
use Rattle.parser.specs.declared.refusal.Refusal.TheVariants.{BadSettings, BadRecords, BadEnv, TooDeep, NoScratch, NoNodes, NoFindings, NoFixity, NoFinal, Impossible}

abbrev pub refusal_number : Refusal → ℕ
refusal_number BadSettings = 1
refusal_number BadRecords = 2
refusal_number BadEnv = 3
refusal_number TooDeep = 4
refusal_number NoScratch = 5
refusal_number NoNodes = 6
refusal_number NoFindings = 7
refusal_number NoFixity = 8
refusal_number NoFinal = 9
refusal_number Impossible = 10

-- the number of a refusal, or 0
abbrev pub number_of : Option Refusal → ℕ
number_of (Some r) = refusal_number r
number_of None = 0

-- no refusal has the number 0
pub not_zero : (r : Refusal) → refusal_number r ≡ 0 → ⊥
not_zero BadSettings z = omega arith
not_zero BadRecords z = omega arith
not_zero BadEnv z = omega arith
not_zero TooDeep z = omega arith
not_zero NoScratch z = omega arith
not_zero NoNodes z = omega arith
not_zero NoFindings z = omega arith
not_zero NoFixity z = omega arith
not_zero NoFinal z = omega arith
not_zero Impossible z = omega arith
