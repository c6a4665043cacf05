-- By which numbers a reading is refused: not by 0, the answer of a call that was read, and by none over 10.
use Rattle.std.specs.Prelude.{ℕ, ◌≤◌, ◌≡◌, List, [], ◌∷◌, Bool, false, ◌&&◌, ltb, length}
use Rattle.std.proofs.Math.Option.{Option}
use Rattle.std.proofs.Common.{arith}
use Rattle.grammar.specs.Tokens.{Token}
use Rattle.grammar.specs.Env.{Infix}
use Rattle.grammar.specs.World.{World, Now, Rec, too_deep, impossible, no_scratch, no_findings, no_fixity, mark, take1, take_in, take_change, take_change_in, change, change_in, may_change, max_changes, with_record, end, give_back}
use Rattle.grammar.specs.World.World.{refused, on}
use Rattle.grammar.specs.World as world
use Rattle.grammar.specs.Prog.{Prog, Act, Reason, answer_of, does, eval, rule}
use Rattle.grammar.specs.Prog.Act.{take, take_as, report, refuse}
use Rattle.grammar.specs.Prog.Reason.{deep, unreachable}
use Rattle.laws.specs.Choice.{if_both}
use Rattle.laws.specs.Keeps.{Kept, eval_keeps, rule_keeps}

-- The reading goes on, or was refused by a number of which P holds.
abbrev pub Refuses : (ℕ → Type 0) → World → Type 0
Refuses P (refused k l) = P k
Refuses P (on s) = Unit {0}

-- from one reading to another, what is known of the first is of the second
pub record Knows (P : ℕ → Type 0) (w w' : World) : Type 0 where
  pub known : Refuses P w → Refuses P w'

-- What holds of the numbers by which a program refuses holds of that by which its reading was refused.
module _ (P : ℕ → Type 0) (deep_is : P too_deep) (impossible_is : P impossible) (scratch_is : P no_scratch) (finds_is : P no_findings) (fixity_is : P no_fixity) where
  -- a record more
  with_known : (s : Now) (ts : List Token) (l : List Rec) → Refuses P (with_record s ts l)
  unfolding with_record
  with_known s ts l = if_both (Refuses P) (ltb s.used s.room) (λ _. tt) (λ _. scratch_is)

  -- a bump
  take_in_known : (s : Now) (ts : List Token) → Refuses P (take_in s ts)
  unfolding take_in
  take_in_known s [] = tt
  take_in_known s (t ∷ ts) = with_known s ts _

  -- a fixity change
  change_known : (c : Option Infix) (x : List ℕ) (w : World) → Refuses P w → Refuses P (change c x w)
  unfolding change change_in
  change_known c x (refused k l) h = h
  change_known c x (on s) h = if_both (Refuses P) (ltb s.changes max_changes && may_change c x s.env) (λ _. tt) (λ _. fixity_is)

  -- a bump and the change behind it
  take_change_in_known : (c : Option Infix) (s : Now) (ts : List Token) → Refuses P (take_change_in c s ts)
  unfolding take_change_in
  take_change_in_known c s [] = tt
  take_change_in_known c s (t ∷ ts) = change_known c t.text (take_in s (t ∷ ts)) (take_in_known s (t ∷ ts))

  -- the reasons of programs
  reason_known : (y : Reason) → P (answer_of y)
  reason_known deep = deep_is
  reason_known unreachable = impossible_is

  -- every operation
  knows_so : Kept (Knows P)
  unfolding mark end does take1 take_change world.report world.refuse give_back
  knows_so = record { same = λ w. record { known = λ h. h }; next = next; marks = marks; acts = acts; ends = ends; backs = backs }
    where
      next : (a b c : World) → Knows P a b → Knows P b c → Knows P a c
      next a b c p q = record { known = λ h. q.known (p.known h) }

      marks : (w : World) → Knows P w (mark w)
      marks (refused k l) = record { known = λ h. h }
      marks (on s) = record { known = λ _. with_known s s.rest s.log }

      acts : (a : Act) (w : World) → Knows P w (does a w)
      acts take (refused k l) = record { known = λ h. h }
      acts take (on s) = record { known = λ _. take_in_known s s.rest }
      acts (take_as c) (refused k l) = record { known = λ h. h }
      acts (take_as c) (on s) = record { known = λ _. take_change_in_known c s s.rest }
      acts (report f d x) (refused k l) = record { known = λ h. h }
      acts (report f d x) (on s) = record { known = λ _. if_both (Refuses P) (ltb (length s.finds) s.kept) (λ _. tt) (λ _. finds_is) }
      acts (refuse y) (refused k l) = record { known = λ h. h }
      acts (refuse y) (on s) = record { known = λ _. reason_known y }

      ends : (k b : ℕ) (w : World) → Knows P w (end k b w)
      ends k b (refused j l) = record { known = λ h. h }
      ends k b (on s) = record { known = λ _. with_known s s.rest _ }

      backs : (a c : World) → Knows P a c → Knows P a (give_back a c)
      backs (refused k l) c h = h
      backs (on s) (refused k l) h = h
      backs (on s) (on s') h = record { known = λ _. tt }

  pub eval_refuses : {R : Type 0} {g : Bool} (body : R → Prog R false) (n b : ℕ) (p : Prog R g) (s : Now) → Refuses P (eval (rule body) n b p (on s)).world
  eval_refuses body n b p s = (eval_keeps (Knows P) knows_so (rule body) (λ m c r. rule_keeps (Knows P) knows_so body m c r) n b p (on s)).known tt

-- The reading goes on, or was refused by another number than 0.
abbrev pub Known : World → Type 0
Known w = Refuses (λ (k : ℕ). k ≡ 0 → ⊥) w

pub knows : Kept (Knows (λ (k : ℕ). k ≡ 0 → ⊥))
knows = knows_so (λ (k : ℕ). k ≡ 0 → ⊥) (λ e. omega arith) (λ e. omega arith) (λ e. omega arith) (λ e. omega arith) (λ e. omega arith)

-- no program refuses by 0
pub eval_known : {R : Type 0} {g : Bool} (body : R → Prog R false) (n b : ℕ) (p : Prog R g) (s : Now) → Known (eval (rule body) n b p (on s)).world
eval_known = eval_refuses (λ (k : ℕ). k ≡ 0 → ⊥) (λ e. omega arith) (λ e. omega arith) (λ e. omega arith) (λ e. omega arith) (λ e. omega arith)

-- nor by a number over 10, document 01's last
pub eval_few : {R : Type 0} {g : Bool} (body : R → Prog R false) (n b : ℕ) (p : Prog R g) (s : Now) → Refuses (λ (k : ℕ). k ≤ 10) (eval (rule body) n b p (on s)).world
eval_few = eval_refuses (λ (k : ℕ). k ≤ 10) (omega arith) (omega arith) (omega arith) (omega arith) (omega arith)
