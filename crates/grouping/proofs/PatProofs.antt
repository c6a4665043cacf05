-- The claims of Patterns, proved.
use Rattle.std.specs.Prelude.{suc, ◌≡◌, refl, List, [], ◌∷◌, ◌++◌, Bool, true, false, length}
use Rattle.std.proofs.Common.{ap, ◌∙◌, sym, append_assoc, append-nil, arith}
use Rattle.grammar.specs.Tokens.{Token, record_count}
use Rattle.grammar.specs.Env.{Infix, Entry}
use Rattle.grammar.specs.Read.{Call, read}
use Rattle.grammar.specs.SyntaxKind as SK
use Rattle.lawful.specs.Terms.{Step, Tree, climb}
use Rattle.lawful.specs.Terms as Terms
use Rattle.lawful.specs.Terms.Min.{min}
use Rattle.lawful.specs.Climb.{Loop, true_false}
use Rattle.lawful.proofs.Climb.{runs}
use Rattle.lawful.specs.Climb.Loop.{stop, turn}
use Rattle.lawful.proofs.Laws.{climb_all, tie_report, report_tie}
use Rattle.lawful.specs.Apply.{term}
use Rattle.lawful.proofs.Apply.{climb_term}
use Rattle.lawful.specs.Apply as Apply
use Rattle.grouping.specs.Grouping.{Atom, Operator, Term, tokens, Lawful, tokens_in, Tied, hands_out}
use Rattle.grouping.specs.Grouping.Lawful.{lawful_atom, lawful_apply, lawful_oper}
use Rattle.grouping.specs.Patterns.{PatOperand, PatLine, IsName, Pattern, val_nodes, file_nodes, Is, Given, Grouped, WithTie, WithoutTie, ReadBack}
use Rattle.grouping.specs.Patterns.Is.{is}
use Rattle.grouping.specs.Climbs.{bare, step_tokens, Atoms, Stand}
use Rattle.grouping.specs.Files.{line_tokens}
use Rattle.grouping.specs.Readings.{Handed}
use Rattle.grouping.proofs.Readings.{file_read, handed_tied, handed_quiet}
use Rattle.grouping.specs.Meanings.{Fair, env_fair, op_of, Formed}
use Rattle.grouping.proofs.Meanings.{signs, line_operators, tie_there, tie_here}
use Rattle.grouping.proofs.Proofs.{no_tree, climbed, climbed_lawful, climbed_line, climbed_only}
use Rattle.grouping.specs.PatRuns.{PatFit, PatStand}
use Rattle.grouping.proofs.PatRuns.{pat_left}
use Rattle.grouping.proofs.PatFiles.{pat_reads, one_val}

-- A pattern's line, as crate lawful has it.
record PatFormed (E : List Entry) (ts : List Token) : Type 0 where
  line : Terms.Line (Apply.Operand Token)
  fit : PatFit E line.first
  rest : PatStand E line.rest
  same : line_tokens line ≡ ts

-- An operand of a pattern, as crate lawful has it.
record Fitted (E : List Entry) (ts : List Token) : Type 0 where
  operand : Apply.Operand Token
  fit : PatFit E operand
  same : operand.fun ∷ operand.args ≡ ts

-- each operand is one there
fitted : {E : List Entry} {ts : List Token} → PatOperand E ts → Fitted E ts
fitted (PatOperand.alone {t} a) = record { operand = record { fun = t; args = [] }; fit = PatFit.alone a; same = refl }
fitted (PatOperand.applied {i} {x} {t} e a) =
    record { operand = record { fun = record { index = i; kind = SK.Name; text = x }; args = t ∷ [] }; fit = PatFit.applied e a; same = refl }

-- each pattern's line is one there
pat_formed : {E : List Entry} {ts : List Token} → Fair E → PatLine E ts → PatFormed E ts
unfolding step_tokens
pat_formed fair (PatLine.last h) = let r = fitted h in record { line = record { first = r.operand; rest = [] }; fit = r.fit; rest = tt; same = rw append-nil r.same }
pat_formed fair (PatLine.then {t} {o} {ts} {us} h k n l) =
    let r = fitted h in
    let q = pat_formed fair l in
    record {
      line = record { first = r.operand; rest = record { op = op_of t o; operand = q.line.first } ∷ q.line.rest };
      fit = r.fit;
      rest = (signs fair k, n, q.fit, q.rest);
      same = ap (λ (l : List Token). r.operand.fun ∷ (r.operand.args ++ (t ∷ l))) q.same ∙ ap (λ (l : List Token). l ++ (t ∷ us)) r.same;
    }

-- its first token is an atom
fit_fun : {E : List Entry} {a : Apply.Operand Token} → PatFit E a → Atom E a.fun
fit_fun (PatFit.alone a) = a
fit_fun (PatFit.applied e a) = Atom.name e

-- its arguments are atoms
fit_args : {E : List Entry} {a : Apply.Operand Token} → PatFit E a → Atoms E a.args
fit_args (PatFit.alone a) = tt
fit_args (PatFit.applied e a) = (a, tt)

-- its steps stand so under E
pat_stand : (E : List Entry) (xs : List (Step (Apply.Operand Token))) → PatStand E xs → Stand E xs
pat_stand E [] h = tt
pat_stand E (s ∷ xs) h = (h.0, fit_fun h.2, fit_args h.2, pat_stand E xs h.3)

-- and the whole is a line
abbrev form : {E : List Entry} {ts : List Token} → PatFormed E ts → Formed E ts
form {E} f = record { line = f.line; fun = fit_fun f.fit; args = fit_args f.fit; rest = pat_stand E f.line.rest f.rest; same = f.same }

-- a tree whose operands are those of a pattern, and whose operators are no Eq
abbrev Fits : List Entry → Tree (Apply.Operand Token) → Type 0
Fits E (Tree.leaf a) = PatFit E a
Fits E (Tree.node l o r) = (o.token.kind ≡ SK.Eq → ⊥) × Fits E l × Fits E r

-- the loop keeps to that
loop_fits : (E : List Entry) {m : Terms.Min} {ex t : Tree (Apply.Operand Token)} {xs ys : List (Step (Apply.Operand Token))} {b : Bool} → Loop m ex xs t b ys → Fits E ex → PatStand E xs → Fits E t
loop_fits E (stop h) f v = f
loop_fits E (turn h k g) f v = loop_fits E g (v.1, f, loop_fits E k v.2 v.3) (pat_left E k v.3)

-- and such a tree is a pattern
fits_pattern : (E : List Entry) (t : Tree (Apply.Operand Token)) → Fits E t → Pattern (bare (term t))
unfolding bare
fits_pattern E (Tree.leaf a) h = go h
  where
    go : {a : Apply.Operand Token} → PatFit E a → Pattern (bare (term (Tree.leaf a)))
    go (PatFit.alone a) = tt
    go (PatFit.applied e a) = refl
fits_pattern E (Tree.node l o r) h = (h.0, fits_pattern E l h.1, fits_pattern E r h.2)

-- the climb reads the line whole
climbs : {E : List Entry} {ts : List Token} (f : PatFormed E ts) → Loop min (Tree.leaf f.line.first) f.line.rest (climb f.line).tree (climb f.line).tie []
climbs f = rw (climb_all f.line) at (runs (suc (length f.line.rest)) min (Tree.leaf f.line.first) f.line.rest (omega arith))

-- what `read` hands out for it is the climb's
pat_read : (c : Call) (E : List Entry) (v : Token) (ts : List Token) (e x : Token) → Given c E v ts e x → (f : PatFormed E ts)
    → Handed c E SK.ValDec (val_nodes v (bare (term (climb f.line).tree)) e x) (climb f.line).tie
pat_read c E v ts e x g f = go g.val g.eq (g.all ∙ ap (λ (us : List Token). v ∷ (us ++ (e ∷ x ∷ []))) (sym f.same))
  where
    go : {v e : Token} → Is SK.ValKw v → Is SK.Eq e → tokens_in c ≡ v ∷ (line_tokens f.line ++ (e ∷ x ∷ []))
        → Handed c E SK.ValDec (val_nodes v (bare (term (climb f.line).tree)) e x) (climb f.line).tie
    go (is {i} {x = z}) (is {i = j} {x = y}) q =
        let C = record_count c.toks in
        let T = bare (term (climb f.line).tree) in
        file_read c E g.env g.answer _ _ q SK.ValDec _ (climb f.line).tie
        (one_val E C (f.line.first.args ++ step_tokens f.line.rest) T (climb f.line).tie j y (fit_fun f.fit) g.right
        (pat_reads E C j y (x ∷ []) f.line f.fit f.rest (climb f.line).tree (climb f.line).tie (climbs f)) i z)

-- a line whose climb reports
told : (c : Call) (E : List Entry) (v : Token) (ts : List Token) (e x : Token) → Given c E v ts e x → (f : PatFormed E ts) → (climb f.line).tie ≡ true → Tied c E ts
told c E v ts e x g f k = handed_tied c E _ _ _ ts (pat_read c E v ts e x g f) k (no_tree E (env_fair c.env E g.env) (form f) (report_tie f.line k))

-- and one whose climb does not
quiet : (c : Call) (E : List Entry) (v : Token) (ts : List Token) (e x : Token) → Given c E v ts e x → (f : PatFormed E ts) → (climb f.line).tie ≡ false → Grouped c E v ts e x
quiet c E v ts e x g f k =
    let fair = env_fair c.env E g.env in
    let m = climb_term f.line (λ t. true_false (sym (tie_report f.line t) ∙ k)) in
    record {
      tree = climbed E fair (form f);
      lawful = climbed_lawful E fair (form f) m;
      pattern = fits_pattern E (climb f.line).tree (loop_fits E (climbs f) f.fit f.rest);
      line = climbed_line E fair (form f) m;
      only = climbed_only E fair (form f) m;
      reads = handed_quiet c E _ _ _ (pat_read c E v ts e x g f) k;
    }

-- Claim 1.
pub with_tie : WithTie
with_tie c E v ts e x g t =
    let f = pat_formed (env_fair c.env E g.env) g.line in
    told c E v ts e x g f (tie_report f.line (tie_there f.line.rest (rw (line_operators E (form f)) at t)))

-- Claim 2.
pub without : WithoutTie
without c E v ts e x g n = let f = pat_formed (env_fair c.env E g.env) g.line in go f (climb f.line).tie refl
  where
    go : (f : PatFormed E ts) (b : Bool) → (climb f.line).tie ≡ b → Grouped c E v ts e x
    go f true k = absurd (n (rw (line_operators E (form f)) (tie_here f.line.rest (report_tie f.line k))))
    go f false k = quiet c E v ts e x g f k

-- two lines around an operator are a line
line_join : {E : List Entry} {t : Token} {o : Infix} {ts us : List Token} → PatLine E ts → Operator E t o → (t.kind ≡ SK.Eq → ⊥) → PatLine E us → PatLine E (ts ++ (t ∷ us))
line_join (PatLine.last h) k n l = PatLine.then h k n l
line_join {t} {us} (PatLine.then {t = u} {ts = ts} {us = vs} h p q m) k n l = rw append_assoc (PatLine.then h p q (line_join m k n l))

-- a Name applied to an atom is an operand
con_operand : {E : List Entry} {t : Token} {f : Term} → Lawful E f → IsName f → Atom E t → PatOperand E (tokens f ++ (t ∷ []))
unfolding tokens
con_operand (lawful_atom (Atom.literal e)) n a = absurd (omega arith)
con_operand (lawful_atom (Atom.name e)) n a = PatOperand.applied e a
con_operand (lawful_apply k h b) n a = absurd n
con_operand (lawful_oper p cl cr hl hr) n a = absurd n

-- a lawful tree that is a pattern is written as a pattern's line
pattern_line : {E : List Entry} {t : Term} → Lawful E t → Pattern t → PatLine E (tokens t)
unfolding tokens
pattern_line (lawful_atom a) p = PatLine.last (PatOperand.alone a)
pattern_line (lawful_apply k h a) p = PatLine.last (con_operand h p a)
pattern_line (lawful_oper k cl cr hl hr) p = line_join (pattern_line hl p.1) k p.0 (pattern_line hr p.2)

-- Claim 3.
pub read_back : ReadBack
read_back c E d a v e x iv ie ax t h p q =
    let g : Given c E v (tokens t) e x = record { env = d; val = iv; line = pattern_line h p; eq = ie; right = ax; all = q; answer = a } in
    go (without c E v (tokens t) e x g (λ k. (with_tie c E v (tokens t) e x g k).none t h refl))
  where
    go : Grouped c E v (tokens t) e x → read c ≡ hands_out c E (file_nodes v t e x)
    go k = k.reads ∙ ap (λ (t : Term). hands_out c E (file_nodes v t e x)) (sym (k.only t h refl))
