-- That a reading is made of the source's calls, and that the records used count them.
use Rattle.std.specs.Prelude.{ℕ, zero, suc, ◌+◌, ◌-◌, ◌≡◌, refl, List, [], ◌∷◌, ◌++◌, Bool, false, ◌&&◌, ltb, length}
use Rattle.std.proofs.Common.{ap, ◌∙◌, arith}
use Rattle.std.proofs.Math.Option.{Option}
use Rattle.grammar.specs.Tokens.{Token}
use Rattle.grammar.specs.Env.{Infix, Entry}
use Rattle.grammar.specs.World.{World, Now, Out, Rec, mark, take1, take_in, take_change, take_change_in, change, change_in, in_env, may_change, max_changes, with_record, end, give_back}
use Rattle.grammar.specs.World.World.{refused, on}
use Rattle.grammar.specs.World as world
use Rattle.grammar.specs.Prog.{Prog, Act, does, eval, rule}
use Rattle.grammar.specs.Prog.Act.{take, take_as, report, refuse}
use Rattle.laws.specs.Choice.{if_both}
use Rattle.laws.specs.Keeps.{Kept, Keeps, eval_keeps, rule_keeps}

-- A call of the source: enter or precede; bump, error, a fixity change behind a bump, an answer that ends the reading; exit;
-- the end of a scope, by which the environment is this one again.
pub data Call : Type 0 where
  entered : Call
  did : Act → Call
  exited : ℕ → ℕ → Call
  back_to : List Entry → Call

-- what a call does to a reading
unfoldable pub step : Call → World → World
step entered w = mark w
step (did a) w = does a w
step (exited k b) w = end k b w
step (back_to es) (refused k l) = refused k l
step (back_to es) (on s) = on (in_env s es s.changes)

-- what calls do, one after the other
unfoldable pub run : List Call → World → World
run [] w = w
run (c ∷ cs) w = run cs (step c w)

-- calls, and calls after them
run_append : (cs ds : List Call) (w : World) → run (cs ++ ds) w ≡ run ds (run cs w)
unfolding run
run_append [] ds w = refl
run_append (c ∷ cs) ds w = run_append cs ds (step c w)

-- Some calls lead from one reading to the other.
pub record Made (w w' : World) : Type 0 where
  pub calls : List Call
  pub runs : run calls w ≡ w'

-- every operation is such a call, and what is taken back is none
pub made : Kept Made
unfolding run step give_back does
made = record { same = same; next = next; marks = one entered; acts = λ a w. one (did a) w; ends = λ k b w. one (exited k b) w; backs = backs }
  where
    same : (w : World) → Made w w
    same w = record { calls = []; runs = refl }

    next : (a b c : World) → Made a b → Made b c → Made a c
    next a b c p q = record { calls = p.calls ++ q.calls; runs = run_append p.calls q.calls a ∙ ap (run q.calls) p.runs ∙ q.runs }

    one : (c : Call) (w : World) → Made w (step c w)
    one c w = record { calls = c ∷ []; runs = refl }

    backs : (a c : World) → Made a c → Made a (give_back a c)
    backs (refused k l) c h = h
    backs (on s) (refused k l) h = h
    backs (on s) (on s') h = next (on s) (on s') _ h (one (back_to s.env) (on s'))

-- one where a token is left, and none where none is
abbrev pub bumped : ℕ → ℕ
bumped zero = 0
bumped (suc m) = 1

-- the tokens that a call takes, where m are left
abbrev pub takes : ℕ → Call → ℕ
takes m entered = 0
takes m (did take) = bumped m
takes m (did (take_as c)) = bumped m
takes m (did (report f d x)) = 0
takes m (did (refuse k)) = 0
takes m (exited k b) = 0
takes m (back_to es) = 0

-- the records that a call takes: one for each enter, precede and exit, and for each bump that takes a token
abbrev pub costs : ℕ → Call → ℕ
costs m entered = 1
costs m (did a) = takes m (did a)
costs m (exited k b) = 1
costs m (back_to es) = 0

-- the records that calls take, where m tokens are left
unfoldable pub records : ℕ → List Call → ℕ
records m [] = 0
records m (c ∷ cs) = costs m c + records (m - takes m c) cs

-- A reading is refused, or has used r records more than s and is m tokens shorter.
abbrev Cost : ℕ → ℕ → Now → World → Type 0
Cost r m s (refused k l) = Unit {0}
Cost r m s (on s') = (s'.used ≡ s.used + r) × (length s'.rest ≡ length s.rest - m)

-- one record more
with_cost : (m : ℕ) (s : Now) (ts : List Token) (l : List Rec) → length ts ≡ length s.rest - m → Cost 1 m s (with_record s ts l)
unfolding with_record
with_cost m s ts l q = if_both (Cost 1 m s) (ltb s.used s.room) (λ _. (refl, q)) (λ _. tt)

-- a bump
take_cost : (s : Now) (ts : List Token) → s.rest ≡ ts → Cost (bumped (length ts)) (bumped (length ts)) s (take_in s ts)
unfolding take_in
take_cost s [] e = (omega arith, omega arith)
take_cost s (t ∷ ts) e = with_cost 1 s ts _ (omega (arith, ap length e))

-- a fixity change takes neither records nor tokens
change_cost : (d : Option Infix) (x : List ℕ) (r m : ℕ) (s : Now) (w : World) → Cost r m s w → Cost r m s (change d x w)
unfolding change change_in
change_cost d x r m s (refused k l) h = tt
change_cost d x r m s (on s') h =
    if_both (Cost r m s) (ltb s'.changes max_changes && may_change d x s'.env) (λ _. (h.0, h.1)) (λ _. tt)

-- a bump and the change behind it
take_as_cost : (d : Option Infix) (s : Now) (ts : List Token) → s.rest ≡ ts → Cost (bumped (length ts)) (bumped (length ts)) s (take_change_in d s ts)
unfolding take_change_in
take_as_cost d s [] e = (omega arith, omega arith)
take_as_cost d s (t ∷ ts) e = change_cost d t.text 1 1 s (take_in s (t ∷ ts)) (take_cost s (t ∷ ts) e)

-- a call takes its records and its tokens, or the reading is refused
step_cost : (c : Call) (s : Now) → Cost (costs (length s.rest) c) (takes (length s.rest) c) s (step c (on s))
unfolding step does mark end take1 take_change world.report world.refuse
step_cost entered s = with_cost 0 s s.rest s.log (omega arith)
step_cost (did take) s = take_cost s s.rest refl
step_cost (did (take_as d)) s = take_as_cost d s s.rest refl
step_cost (did (report f d x)) s = if_both (Cost 0 0 s) (ltb (length s.finds) s.kept) (λ _. (omega arith, omega arith)) (λ _. tt)
step_cost (did (refuse k)) s = tt
step_cost (exited k b) s = with_cost 0 s s.rest _ (omega arith)
step_cost (back_to es) s = (omega arith, omega arith)

-- a refused reading stays as it is
run_refused : (cs : List Call) (k l : ℕ) → run cs (refused k l) ≡ refused k l
unfolding run step does mark end take1 take_change world.report world.refuse
run_refused [] k l = refl
run_refused (entered ∷ cs) k l = run_refused cs k l
run_refused (did take ∷ cs) k l = run_refused cs k l
run_refused (did (take_as d) ∷ cs) k l = run_refused cs k l
run_refused (did (report f d x) ∷ cs) k l = run_refused cs k l
run_refused (did (refuse j) ∷ cs) k l = run_refused cs k l
run_refused (exited j b ∷ cs) k l = run_refused cs k l
run_refused (back_to es ∷ cs) k l = run_refused cs k l

-- the records used count the calls
pub run_used : (cs : List Call) (s s' : Now) → run cs (on s) ≡ on s' → s'.used ≡ s.used + records (length s.rest) cs
unfolding run records
run_used [] s s' e = let q : s ≡ s' = cc in omega (arith, ap (λ (x : Now). x.used) q)
run_used (c ∷ cs) s s' e = go (step c (on s)) (step_cost c s) e (λ t. run_used cs t s')
  where
    go : (w : World) → Cost (costs (length s.rest) c) (takes (length s.rest) c) s w → run cs w ≡ on s'
        → ((t : Now) → run cs (on t) ≡ on s' → s'.used ≡ t.used + records (length t.rest) cs)
        → s'.used ≡ s.used + (costs (length s.rest) c + records (length s.rest - takes (length s.rest) c) cs)
    go (refused k l) h q ih = absurd (let z : ◌≡◌ {A = ℕ} 0 1 = cc (run_refused cs k l) in omega arith)
    go (on t) h q ih = omega (arith, ih t q, h.0, ap (λ (m : ℕ). records m cs) h.1)

-- From s to s' these calls were made, and the records used count them.
pub record Called (s s' : Now) : Type 0 where
  pub calls : List Call
  pub runs : run calls (on s) ≡ on s'
  pub used : s'.used ≡ s.used + records (length s.rest) calls

-- every program is made of calls, where the rules are
pub eval_made : {R : Type 0} {g : Bool} (ρ : ℕ → ℕ → R → World → Out) → ((m c : ℕ) (r : R) → Keeps Made (ρ m c r)) → (n b : ℕ) (p : Prog R g) → Keeps Made (eval ρ n b p)
eval_made = eval_keeps Made made

-- every rule is made of calls
pub rule_made : {R : Type 0} (body : R → Prog R false) (n b : ℕ) (r : R) → Keeps Made (rule body n b r)
rule_made = rule_keeps Made made

-- and where it goes on, the records that it used count them
pub rule_called : {R : Type 0} (body : R → Prog R false) (n b : ℕ) (r : R) (s s' : Now) → (rule body n b r (on s)).world ≡ on s' → Called s s'
rule_called body n b r s s' e =
    let m = rule_made body n b r (on s) in
    record { calls = m.calls; runs = m.runs ∙ e; used = run_used m.calls s s' (m.runs ∙ e) }
