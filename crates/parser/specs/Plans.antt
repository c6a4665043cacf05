-- What a program comes to, operation by operation: the calls of a function make it up, one step for each.
use Rattle.std.specs.Prelude.{ℕ, ◌-◌, ◌≡◌, List, Bool, eqb, length}
use Rattle.std.specs.Prelude as std
use Rattle.std.proofs.Math.Path.{refl, ap}
use Rattle.std.proofs.Common.{◌∙◌, sym, arith, eq-eqb, ne_eqb}
use Rattle.std.proofs.Math.Option.{Option, none, some}
use Rattle.std.proofs.Math.Bool.{true, false}
use Rattle.grammar.specs.Env as Env
use Rattle.grammar.specs.World.{World, Out, out, ahead, fixity_ahead, refuse, length_of, too_deep, no_name, invalid}
use Rattle.grammar.specs.World.World.{refused}
use Rattle.grammar.specs.World as world
use Rattle.grammar.specs.Prog.{Prog, Look as Ask, Act, Reason, answer_of, seen, does, eval, rule}
use Rattle.grammar.specs.Prog.Look.{kind, index, says, number, mode}
use Rattle.grammar.specs.Prog.Act.{take, report, refuse as refuses}
use Rattle.grammar.specs.Prog.Prog.{ret, bind, branch, look, lookup, act, from, close, marked, loop, scoped, attempt, call}
use Rattle.grammar.specs.Rule.{Rule}
use Rattle.grammar.specs.Util as Util
use Rattle.grammar.specs.Root.{body}
use Rattle.laws.specs.Laws.{unfold_rule}
use Rattle.laws.specs.Grows.{rule_grows, eval_refused}
use Rattle.sml_fixity.specs.Fix.{fixity_of}
use Rattle.sml_fixity.specs.declared.Infix.{Infix}
use Rattle.parser.specs.View.{Mem, mem, Sound, seen_in, Kept, Did, Saw, Says, Spells, Fixed, Marks, Adds, Bumps, Tells, refused_by}
use Rattle.parser.specs.Runs.{RunsIn, Runs, Always, Eats, Takes, runs_always, kept_same, kept_next, len_is, refused_same, ok_refused}
use Rattle.parser.specs.declared.State.{State}

-- An operation and what follows it, which is told the value that the operation gave, where there is one, and then the log's length.
-- `marks`: what follows where no mark may be opened, and where one may. `runs`: a program that another function does.
pub data Plan : Type 0 where
  ends : ℕ → Plan
  sees : Ask → (ℕ → Plan) → Plan
  finds : ℕ → Plan → (Env.Infix → Plan) → Plan
  acts : Act → (ℕ → Plan) → Plan
  closes : ℕ → ℕ → (ℕ → Plan) → Plan
  marks : ℕ → (ℕ → Plan) → (ℕ → Plan) → Plan
  runs : {g : Bool} → ℕ → ℕ → Prog Rule g → (ℕ → ℕ → Plan) → Plan

-- what a plan does to a reading
unfoldable pub means : Plan → World → Out
means (ends v) w = out v w
means (sees q f) w = means (f (seen q w)) w
means (finds k p f) w = elim (fixity_ahead k w) [ none ↦ means p w | some i ↦ means (f i) w ]
means (acts a f) w = means (f (length_of (does a w))) (does a w)
means (closes k b f) w = means (f (length_of (world.end k b w))) (world.end k b w)
means (marks n f h) w = elim (eqb n 0) [ true ↦ means (f (length_of (refuse too_deep w))) (refuse too_deep w) | false ↦ means (h (length_of (world.mark w))) (world.mark w) ]
means (runs n b p f) w = let o = eval (rule body) n b p w in means (f o.val (length_of o.world)) o.world

-- the first where the test holds
unfoldable pub choose : Bool → Plan → Plan → Plan
choose true p q = p
choose false p q = q

-- The plan of a program, where n marks may be opened, the node around it started at b, and the log's length is l; and then f.
unfoldable pub plan : {g : Bool} → ℕ → ℕ → ℕ → Prog Rule g → (ℕ → ℕ → Plan) → Plan
unfolding choose
plan n b l (ret v) f = f v l
plan n b l (bind p h) f = plan n b l p (λ v m. plan n b m (h v) f)
plan n b l (branch t p q) f = choose t (plan n b l p f) (plan n b l q f)
plan n b l (look q) f = sees q (λ v. f v l)
plan n b l (lookup k p h) f = finds k (plan n b l p f) (λ i. plan n b l (h i) f)
plan n b l (act a) f = acts a (λ m. f 0 m)
plan n b l (from p) f = plan n l l p f
plan n b l (close k) f = closes k b (λ m. f 0 m)
plan n b l (marked p) f = marks n (λ m. f 0 m) (λ m. plan (n - 1) b m p f)
plan n b l (loop p) f = runs n b (loop p) f
plan n b l (scoped p) f = runs n b (scoped p) f
plan n b l (attempt p) f = runs n b (attempt p) f
plan n b l (call r) f = runs n b (call r) f

-- a plan does what its program does, and then f
plan_means : {g : Bool} (n b : ℕ) (p : Prog Rule g) (f : ℕ → ℕ → Plan) (w : World)
    → means (plan n b (length_of w) p f) w ≡ (let o = eval (rule body) n b p w in means (f o.val (length_of o.world)) o.world)
unfolding means eval plan choose
plan_means n b (ret v) f w = refl
plan_means n b (bind p h) f w = plan_means n b p (λ v m. plan n b m (h v) f) w ∙ (let o = eval (rule body) n b p w in plan_means n b (h o.val) f o.world)
plan_means n b (branch true p q) f w = plan_means n b p f w
plan_means n b (branch false p q) f w = plan_means n b q f w
plan_means n b (look q) f w = refl
plan_means n b (lookup k p h) f w = go (fixity_ahead k w) (plan_means n b p f w) (λ i. plan_means n b (h i) f w)
  where
    after : Out → Out
    after o = means (f o.val (length_of o.world)) o.world

    go : (o : Option Env.Infix) → means (plan n b (length_of w) p f) w ≡ after (eval (rule body) n b p w)
        → ((i : Env.Infix) → means (plan n b (length_of w) (h i) f) w ≡ after (eval (rule body) n b (h i) w))
        → ◌≡◌ {A = Out} (elim o [ none ↦ means (plan n b (length_of w) p f) w | some i ↦ means (plan n b (length_of w) (h i) f) w ])
        (after (elim o [ none ↦ eval (rule body) n b p w | some i ↦ eval (rule body) n b (h i) w ]))
    go none q r = q
    go (some i) q r = r i
plan_means n b (act a) f w = refl
plan_means n b (from p) f w = plan_means n (length_of w) p f w
plan_means n b (close k) f w = refl
plan_means n b (marked p) f w = go (eqb n 0) (plan_means (n - 1) b p f (world.mark w))
  where
    after : Out → Out
    after o = means (f o.val (length_of o.world)) o.world

    go : (t : Bool) → means (plan (n - 1) b (length_of (world.mark w)) p f) (world.mark w) ≡ after (eval (rule body) (n - 1) b p (world.mark w))
        → ◌≡◌ {A = Out} (elim t [ true ↦ means (f 0 (length_of (refuse too_deep w))) (refuse too_deep w) | false ↦ means (plan (n - 1) b (length_of (world.mark w)) p f) (world.mark w) ])
        (after (elim t [ true ↦ out 0 (refuse too_deep w) | false ↦ eval (rule body) (n - 1) b p (world.mark w) ]))
    go true q = refl
    go false q = q
plan_means n b (loop p) f w = refl
plan_means n b (scoped p) f w = refl
plan_means n b (attempt p) f w = refl
plan_means n b (call r) f w = refl

-- ---- steps

-- From m to m', with the value v, as a plan does.
pub record Goes (p : Plan) (m m' : Mem) (v : ℕ) : Type 0 where
  pub ok : Sound m'
  pub same : out v (seen_in m') ≡ means p (seen_in m)
  pub kept : Kept m m'

-- The same where the buffers are in order at m.
pub record Steps (p : Plan) (m m' : Mem) (v : ℕ) : Type 0 where
  pub go : Sound m → Goes p m m' v

-- the plan of a program from m on
abbrev pub from_here : {g : Bool} → ℕ → ℕ → Prog Rule g → (ℕ → ℕ → Plan) → Mem → Plan
from_here n b p f m = plan n b m.state.len p f

-- a whole program ends in its value
abbrev pub whole : ℕ → ℕ → Plan
whole v l = ends v

planned : {g : Bool} (n b : ℕ) (p : Prog Rule g) (m : Mem) → means (from_here n b p whole m) (seen_in m) ≡ eval (rule body) n b p (seen_in m)
unfolding means
planned n b p m = ap (λ (l : ℕ). means (plan n b l p whole) (seen_in m)) (len_is m) ∙ plan_means n b p whole (seen_in m)

module _ {g : Bool} {p : Prog Rule g} {m m' : Mem} {v : ℕ} (o : Sound m) where
  -- a function does what its program does, step by step
  pub in_steps : {n b : ℕ} → Steps (from_here n b p whole m) m m' v → RunsIn n b p m m' v
  in_steps {n} {b} s = let r = s.go o in record { ok = r.ok; same = r.same ∙ planned n b p m; kept = r.kept }

  pub by_steps : {n : ℕ} → ((b : ℕ) → Steps (from_here n b p whole m) m m' v) → Runs n p m m' v
  by_steps {n} f = record { ok = ((f 0).go o).ok; same = λ b. ((f b).go o).same ∙ planned n b p m; kept = ((f 0).go o).kept }

  pub always : ((n b : ℕ) → Steps (from_here n b p whole m) m m' v) → Always p m m' v
  always f = record { ok = ((f 0 0).go o).ok; same = λ n b. ((f n b).go o).same ∙ planned n b p m; kept = ((f 0 0).go o).kept }

-- and so whatever the rest is
pub eats : {g : Bool} {p : Prog Rule g} {t l h l' h' : List ℕ} {s s' : State} {v : ℕ}
    → ((x e j : List ℕ) (n b : ℕ) → Steps (from_here n b p whole (mem x t e j l h s)) (mem x t e j l h s) (mem x t e j l' h' s') v) → Eats p t l h s l' h' s' v
eats f = record { does = λ x e j o. always o (f x e j) }

pub takes : {g : Bool} {p : Prog Rule g} {t l l' : List ℕ} {s s' : State} {v : ℕ}
    → ((x e j h : List ℕ) (n b : ℕ) → Steps (from_here n b p whole (mem x t e j l h s)) (mem x t e j l h s) (mem x t e j l' h s') v) → Takes p t l s l' s' v
takes f = record { does = λ x e j h o. always o (f x e j h) }

-- what was done before the rest
next : {p q : Plan} {m c e : Mem} {v : ℕ} → Sound c → Kept m c → means q (seen_in c) ≡ means p (seen_in m) → Steps q c e v → Goes p m e v
next o k q s = let r = s.go o in record { ok = r.ok; same = r.same ∙ q; kept = kept_next k r.kept }

-- what follows is told the log's length
told : (f : ℕ → Plan) (c : Mem) (w : World) → seen_in c ≡ w → means (f c.state.len) (seen_in c) ≡ means (f (length_of w)) w
told f c w q = ap (λ (l : ℕ). means (f l) (seen_in c)) (len_is c) ∙ ap (λ (w : World). means (f (length_of w)) w) q

-- the value at the end
pub s_end : {a : Mem} {v : ℕ} → Steps (ends v) a a v
unfolding means
s_end = record { go = λ o. record { ok = o; same = refl; kept = kept_same refl } }

module _ {a e : Mem} {v : ℕ} {t : Bool} (p q : Plan) where
  -- a test that holds, and one that does not
  pub s_true : t ≡ true → Steps p a e v → Steps (choose t p q) a e v
  unfolding choose
  s_true h s = rw h s

  pub s_false : t ≡ false → Steps q a e v → Steps (choose t p q) a e v
  unfolding choose
  s_false h s = rw h s

-- a test of the number that names a program
module _ {g : Bool} {a e : Mem} {v : ℕ} {t : Bool} (n b l : ℕ) (p q : Prog Rule g) (f : ℕ → ℕ → Plan) where
  pub s_first : t ≡ true → Steps (plan n b l p f) a e v → Steps (plan n b l (Util.choose t p q) f) a e v
  unfolding Util.choose
  s_first h s = rw h s

  pub s_second : t ≡ false → Steps (plan n b l q f) a e v → Steps (plan n b l (Util.choose t p q) f) a e v
  unfolding Util.choose
  s_second h s = rw h s

module _ {a e : Mem} {v : ℕ} {f : ℕ → Plan} where
  seen_so : {x : Ask} {u : ℕ} → u ≡ seen x (seen_in a) → Steps (f u) a e v → Steps (sees x f) a e v
  unfolding means
  seen_so q s = record { go = λ o. next o (kept_same refl) (ap (λ (u : ℕ). means (f u) (seen_in a)) q) s }

  -- a look, whatever else there is
  pub s_look : {x : Ask} {u : ℕ} → Saw x a.toks a.state u → Steps (f u) a e v → Steps (sees x f) a e v
  s_look r s = seen_so (r.same a.text a.env a.table a.scratch a.finds) s

  -- a look at a text
  pub s_says : {x : Ask} {u : ℕ} → Says x a.text a.toks a.state u → Steps (f u) a e v → Steps (sees x f) a e v
  s_says r s = seen_so (r.same a.env a.table a.scratch a.finds) s

  -- the next token's index
  pub s_index : {u : ℕ} → Spells a.state u → Steps (f u) a e v → Steps (sees index f) a e v
  s_index r s = record { go = λ o. (seen_so (r.same a.text a.toks a.env a.table a.scratch a.finds o) s).go o }

  -- a look for one kind: what it found is not told
  pub s_kind : {x : ℕ} → Steps (f (ahead x (seen_in a))) a e v → Steps (sees (kind x) f) a e v
  unfolding seen
  s_kind s = seen_so refl s

-- the choice by a fixity that was found
unfoldable pub chosen : std.Option Infix → Plan → (Env.Infix → Plan) → Plan
chosen r p f = elim (fixity_of r) [ none ↦ p | some i ↦ f i ]

pub s_fixed : {a e : Mem} {v x : ℕ} {p : Plan} {f : Env.Infix → Plan} {r : std.Option Infix} → Fixed x a.text a.toks a.env a.table a.state r
    → Steps (chosen r p f) a e v → Steps (finds x p f) a e v
unfolding means chosen
s_fixed {a} {p = p} {f = f} {r = r} q s = record {
  go = λ o. next o (kept_same refl) (by (fixity_of r) ∙ ap (λ (i : Option Env.Infix). elim i [ none ↦ means p (seen_in a) | some j ↦ means (f j) (seen_in a) ]) (q.same a.scratch a.finds)) s;
}
  where
    by : (i : Option Env.Infix) → means (elim i [ none ↦ p | some j ↦ f j ]) (seen_in a) ≡ elim i [ none ↦ means p (seen_in a) | some j ↦ means (f j) (seen_in a) ]
    by none = refl
    by (some j) = refl

-- ---- the operations

module _ {f : ℕ → Plan} {e : Mem} {v : ℕ} where
  did : {x : Act} {a c : Mem} → Sound a → Did (does x) a c → Steps (f c.state.len) c e v → Goes (acts x f) a e v
  unfolding means
  did {x} {a} {c} o d s = next d.ok d.kept (told f c (does x (seen_in a)) d.same) s

  -- a fixity change
  pub s_act : {x : Act} {a c : Mem} → Did (does x) a c → Steps (f c.state.len) c e v → Steps (acts x f) a e v
  s_act d s = record { go = λ o. did o d s }

  module _ {x t n j l h : List ℕ} {s s' : State} where
    pub s_bump : {l' : List ℕ} → Bumps t l s l' s' → Steps (f s'.len) (mem x t n j l' h s') e v → Steps (acts take f) (mem x t n j l h s) e v
    unfolding does
    s_bump d r = record { go = λ o. did o (d.does x n j h o) r }

    pub s_report : {y z u : ℕ} {h' : List ℕ} → Tells (world.report y z u) h s h' s' → Steps (f s'.len) (mem x t n j l h' s') e v → Steps (acts (report y z u) f) (mem x t n j l h s) e v
    unfolding does
    s_report d r = record { go = λ o. did o (d.does x t n j l o) r }

    pub s_close : {k b : ℕ} {l' : List ℕ} → Adds (world.end k b) l s l' s' → Steps (f s'.len) (mem x t n j l' h s') e v → Steps (closes k b f) (mem x t n j l h s) e v
    unfolding means
    s_close {k} {b} {l'} d r = record {
      go = λ o. let q = d.does x t n j h o in next q.ok q.kept (told f (mem x t n j l' h s') (world.end k b (seen_in (mem x t n j l h s))) q.same) r;
    }

    -- a mark that may be opened
    pub s_mark : {m : ℕ} {g : ℕ → Plan} → (m ≡ 0 → ⊥) → Marks s s' → Steps (f s'.len) (mem x t n j l h s') e v → Steps (marks m g f) (mem x t n j l h s) e v
    unfolding means
    s_mark {m} {g} z d r = record {
      go = λ o.
          let a = mem x t n j l h s in
          let q = d.does x t n j l h o in
          next q.ok q.kept (told f (mem x t n j l h s') (world.mark (seen_in a)) q.same ∙ ap (λ (t : Bool).
          elim t [ true ↦ means (g (length_of (refuse too_deep (seen_in a)))) (refuse too_deep (seen_in a)) | false ↦ means (f (length_of (world.mark (seen_in a)))) (world.mark (seen_in a)) ]) (sym (ne_eqb m 0 z))) r;
    }

    -- one that may not
    pub s_deep : {m : ℕ} {g : ℕ → Plan} → m ≡ 0 → s' ≡ refused_by too_deep s → Steps (f s'.len) (mem x t n j l h s') e v → Steps (marks m f g) (mem x t n j l h s) e v
    unfolding means
    s_deep {m} {g} z q r = record {
      go = λ o.
          let a = mem x t n j l h s in
          next (ok_refused too_deep q o) (kept_same (ap (λ (s : State). s.fixes.len) q)) (told f (mem x t n j l h s') (refuse too_deep (seen_in a)) (rw q (refused_same too_deep a (λ z. omega arith))) ∙ ap (λ (t : Bool).
          elim t [ true ↦ means (f (length_of (refuse too_deep (seen_in a)))) (refuse too_deep (seen_in a)) | false ↦ means (g (length_of (world.mark (seen_in a)))) (world.mark (seen_in a)) ]) (sym (eq-eqb m 0 z))) r;
    }

-- what a look at a refused reading gives
abbrev nothing : Ask → ℕ
nothing (kind n) = 0
nothing index = no_name
nothing (says x) = 0
nothing number = invalid
nothing mode = 0

-- The value that a plan gives where the reading was refused by k with l records logged: nothing is seen, and nothing is done.
unfoldable pub hushed : ℕ → ℕ → Plan → ℕ
hushed k l (ends v) = v
hushed k l (sees q f) = hushed k l (f (nothing q))
hushed k l (finds n p f) = hushed k l p
hushed k l (acts a f) = hushed k l (f l)
hushed k l (closes n b f) = hushed k l (f l)
hushed k l (marks n f h) = elim (eqb n 0) [ true ↦ hushed k l (f l) | false ↦ hushed k l (h l) ]
hushed k l (runs n b p f) = hushed k l (f (eval (rule body) n b p (refused k l)).val l)

hushed_means : (p : Plan) (k l : ℕ) → means p (refused k l) ≡ out (hushed k l p) (refused k l)
unfolding means hushed seen does ahead world.index_ahead world.says_ahead world.number_ahead world.mode_of world.token_ahead fixity_ahead length_of refuse world.mark world.end world.take1 world.take_change world.report
hushed_means (ends v) k l = refl
hushed_means (sees (kind n) f) k l = hushed_means (f 0) k l
hushed_means (sees index f) k l = hushed_means (f no_name) k l
hushed_means (sees (says x) f) k l = hushed_means (f 0) k l
hushed_means (sees number f) k l = hushed_means (f invalid) k l
hushed_means (sees mode f) k l = hushed_means (f 0) k l
hushed_means (finds n p f) k l = hushed_means p k l
hushed_means (acts take f) k l = hushed_means (f l) k l
hushed_means (acts (Act.take_as c) f) k l = hushed_means (f l) k l
hushed_means (acts (report x d i) f) k l = hushed_means (f l) k l
hushed_means (acts (refuses y) f) k l = hushed_means (f l) k l
hushed_means (closes n b f) k l = hushed_means (f l) k l
hushed_means (marks n f h) k l = go (eqb n 0) (hushed_means (f l) k l) (hushed_means (h l) k l)
  where
    go : (t : Bool) → means (f l) (refused k l) ≡ out (hushed k l (f l)) (refused k l) → means (h l) (refused k l) ≡ out (hushed k l (h l)) (refused k l)
        → ◌≡◌ {A = Out} (elim t [ true ↦ means (f l) (refused k l) | false ↦ means (h l) (refused k l) ]) (out (elim t [ true ↦ hushed k l (f l) | false ↦ hushed k l (h l) ]) (refused k l))
    go true p q = p
    go false p q = q
hushed_means (runs n b p f) k l =
    let v = (eval (rule body) n b p (refused k l)).val in
    ap (λ (w : World). means (f v (length_of w)) w) (eval_refused (rule body) (rule_grows body) n b p k l) ∙ hushed_means (f v l) k l

-- a mark that may not be opened, behind which the code returns, whatever the program still has
pub s_shut : {m : ℕ} {f g : ℕ → Plan} {x t n j l h : List ℕ} {s s' : State} {v : ℕ} → m ≡ 0 → s' ≡ refused_by too_deep s → ((k l : ℕ) → hushed k l (f l) ≡ v)
    → Steps (marks m f g) (mem x t n j l h s) (mem x t n j l h s') v
unfolding means refuse length_of
s_shut {m} {f} {g} {x} {t} {n} {j} {l} {h} {s} {s'} {v} z q r = record {
  go = λ o. record {
    ok = ok_refused too_deep q o;
    same = ap (out v) (rw q (refused_same too_deep a (λ z. omega arith))) ∙ by (seen_in a) ∙ ap (λ (t : Bool).
        elim t [ true ↦ means (f (length_of (refuse too_deep (seen_in a)))) (refuse too_deep (seen_in a)) | false ↦ means (g (length_of (world.mark (seen_in a)))) (world.mark (seen_in a)) ]) (sym (eq-eqb m 0 z));
    kept = kept_same (ap (λ (s : State). s.fixes.len) q);
  };
}
  where
    a : Mem
    a = mem x t n j l h s

    by : (w : World) → out v (refuse too_deep w) ≡ means (f (length_of (refuse too_deep w))) (refuse too_deep w)
    by (refused k l) = sym (hushed_means (f l) k l ∙ ap (λ (u : ℕ). out u (refused k l)) (r k l))
    by (World.on s) = let k = length s.log in sym (hushed_means (f k) too_deep k ∙ ap (λ (u : ℕ). out u (refused too_deep k)) (r too_deep k))

-- a refusal of a case that cannot happen
pub s_refuse : {y : Reason} {f : ℕ → Plan} {x t n j l h : List ℕ} {s s' : State} {e : Mem} {v : ℕ} → s' ≡ refused_by (answer_of y) s
    → Steps (f s'.len) (mem x t n j l h s') e v → Steps (acts (refuses y) f) (mem x t n j l h s) e v
unfolding does
s_refuse {y} {f} {x} {t} {n} {j} {l} {h} {s} {s'} q r = record {
  go = λ o. did o (record { ok = ok_refused (answer_of y) q o; same = rw q (refused_same (answer_of y) (mem x t n j l h s) (not_zero y)); kept = kept_same (ap (λ (s : State). s.fixes.len) q) }) r;
}
  where
    not_zero : (y : Reason) → answer_of y ≡ 0 → ⊥
    not_zero Reason.deep z = omega arith
    not_zero Reason.unreachable z = omega arith

-- ---- calls

-- a rule is its body
pub s_rule : {n b : ℕ} {r : Rule} {f : ℕ → ℕ → Plan} {a e : Mem} {v : ℕ} → Steps (from_here n b (body r) f a) a e v → Steps (runs n b (call r) f) a e v
unfolding means eval
s_rule {n} {b} {r} {f} {a} s = record {
  go = λ o. next o (kept_same refl) (ap (λ (l : ℕ). means (plan n b l (body r) f) (seen_in a)) (len_is a) ∙ plan_means n b (body r) f (seen_in a)
      ∙ ap (λ (o : Out). means (f o.val (length_of o.world)) o.world) (sym (unfold_rule body n b r (seen_in a)))) s;
}

after_run : {g : Bool} {n b : ℕ} {p : Prog Rule g} {a c : Mem} {u : ℕ} (f : ℕ → ℕ → Plan) → RunsIn n b p a c u
    → means (f u c.state.len) (seen_in c) ≡ (let o = eval (rule body) n b p (seen_in a) in means (f o.val (length_of o.world)) o.world)
after_run {c = c} {u = u} f r = ap (λ (l : ℕ). means (f u l) (seen_in c)) (len_is c) ∙ ap (λ (o : Out). means (f o.val (length_of o.world)) o.world) r.same

-- a function that does a part with a name
pub s_by : {g : Bool} {n b : ℕ} {p : Prog Rule g} {a c e : Mem} {u v : ℕ} (f : ℕ → ℕ → Plan) → RunsIn n b p a c u → Steps (f u c.state.len) c e v → Steps (from_here n b p f a) a e v
s_by {n = n} {b = b} {p = p} {a = a} f r s = record {
  go = λ o. next r.ok r.kept (after_run f r ∙ sym (ap (λ (l : ℕ). means (plan n b l p f) (seen_in a)) (len_is a) ∙ plan_means n b p f (seen_in a))) s;
}

-- one that is lent no more than it reads and writes
module _ {g : Bool} (m b : ℕ) {p : Prog Rule g} {x t n j l h l' : List ℕ} {s s' : State} {e : Mem} {u v : ℕ} (f : ℕ → ℕ → Plan) where
  pub s_eats : {h' : List ℕ} → Eats p t l h s l' h' s' u → Steps (f u s'.len) (mem x t n j l' h' s') e v → Steps (from_here m b p f (mem x t n j l h s)) (mem x t n j l h s) e v
  s_eats d r = record { go = λ o. (s_by f (runs_always (d.does x n j o)) r).go o }

  pub s_takes : Takes p t l s l' s' u → Steps (f u s'.len) (mem x t n j l' h s') e v → Steps (from_here m b p f (mem x t n j l h s)) (mem x t n j l h s) e v
  s_takes d r = record { go = λ o. (s_by f (runs_always (d.does x n j h o)) r).go o }

-- a function that does a rule or a loop
pub s_run : {g : Bool} {n b : ℕ} {p : Prog Rule g} {f : ℕ → ℕ → Plan} {a c e : Mem} {u v : ℕ} → RunsIn n b p a c u → Steps (f u c.state.len) c e v → Steps (runs n b p f) a e v
unfolding means
s_run {f = f} r s = record { go = λ o. next r.ok r.kept (after_run f r) s }

-- the state of an answer that was taken without its value
pub settled : {g : Bool} {n b : ℕ} {p : Prog Rule g} {a : Mem} {x t e j l h : List ℕ} {s s' : State} {u : ℕ} → s' ≡ s → RunsIn n b p a (mem x t e j l h s) u → RunsIn n b p a (mem x t e j l h s') u
settled q r = rw q r

pub eats_settled : {g : Bool} {p : Prog Rule g} {t l h l' h' : List ℕ} {a s s' : State} {u : ℕ} → s' ≡ s → Eats p t l h a l' h' s u → Eats p t l h a l' h' s' u
eats_settled q r = rw q r
