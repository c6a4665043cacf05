-- Reading rules as programs over the parser's operations, and what a program does to a reading.
use Rattle.std.specs.Prelude.{ℕ, zero, suc, ◌+◌, ◌-◌, List, Bool, true, false, eqb}
use Rattle.std.proofs.Math.Option.{Option, none, some}
use Rattle.grammar.specs.Env.{Infix}
use Rattle.grammar.specs.World.{World, Out, out, ahead, index_ahead, says_ahead, number_ahead, mode_of, fixity_ahead, length_of, left_of, mark, take1, take_change, end, give_back, ok_since, too_deep, impossible, no_name}
use Rattle.grammar.specs.World as world

infixl 10 ◌>>=◌
infixl 10 ◌>>◌
-- What a program may ask of a reading; it answers by a number.
pub data Look : Type 0 where
  kind : ℕ → Look
  index : Look
  says : List ℕ → Look
  number : Look
  mode : Look

-- Why a program refuses: no mark may be opened any more, or a case that the source calls unreachable.
pub data Reason : Type 0 where
  deep unreachable : Reason

abbrev pub answer_of : Reason → ℕ
answer_of deep = too_deep
answer_of unreachable = impossible

-- What a program may do to a reading, wherever it stands.
pub data Act : Type 0 where
  take : Act
  take_as : Option Infix → Act
  report : ℕ → ℕ → ℕ → Act
  refuse : Reason → Act

-- A program, whose calls of rules stand beneath a mark (`Prog R false`), or may stand anywhere (`Prog R true`).
-- `lookup n p f` is p where the text of the token n ahead has no fixity, where there is no such token or the reading was refused, and f of the fixity otherwise: `fe.get` and `fe.contains_key`.
-- `from p` is a scope: in it, `close k` makes a node of all that the scope has logged so far.
-- `marked p`: a mark is open while p runs. `loop p`: p until it gives 0. `scoped p`: p in an environment of its own.
-- `attempt p`: p between save and ok_since.
pub data Prog (R : Type 0) : Bool → Type 0 where
  ret : {g : Bool} → ℕ → Prog R g
  bind : {g : Bool} → Prog R g → (ℕ → Prog R g) → Prog R g
  branch : {g : Bool} → Bool → Prog R g → Prog R g → Prog R g
  look : {g : Bool} → Look → Prog R g
  lookup : {g : Bool} → ℕ → Prog R g → (Infix → Prog R g) → Prog R g
  act : {g : Bool} → Act → Prog R g
  from : {g : Bool} → Prog R g → Prog R g
  close : {g : Bool} → ℕ → Prog R g
  marked : {g : Bool} → Prog R true → Prog R g
  loop : {g : Bool} → Prog R g → Prog R g
  scoped : {g : Bool} → Prog R g → Prog R g
  attempt : {g : Bool} → Prog R g → Prog R g
  call : R → Prog R true

-- what `do` stands for
abbrev pub ◌>>=◌ : {R : Type 0} {g : Bool} → Prog R g → (ℕ → Prog R g) → Prog R g
p >>= f = bind p f

abbrev pub ◌>>◌ : {R : Type 0} {g : Bool} → Prog R g → Prog R g → Prog R g
p >> q = bind p (λ _. q)

-- event_parse, `peek_n`: the kind of the token n ahead, plus one, or 0
abbrev pub peek : {R : Type 0} {g : Bool} → ℕ → Prog R g
peek n = look (kind n)

-- event_parse, `bump`
abbrev pub bump : {R : Type 0} {g : Bool} → Prog R g
bump = act take

-- event_parse, `error`: a finding without a name, and one with the name of the token of that index
abbrev pub error : {R : Type 0} {g : Bool} → ℕ → ℕ → Prog R g
error f d = act (report f d no_name)

abbrev pub error_at : {R : Type 0} {g : Bool} → ℕ → ℕ → Prog R g
error_at f i = act (report f 0 i)

-- the number that answers a look
unfoldable pub seen : Look → World → ℕ
seen (kind n) w = ahead n w
seen index w = index_ahead w
seen (says x) w = says_ahead x w
seen number w = number_ahead w
seen mode w = mode_of w

-- the reading after an act
unfoldable pub does : Act → World → World
does take w = take1 w
does (take_as c) w = take_change c w
does (report f d x) w = world.report f d x w
does (refuse y) w = world.refuse (answer_of y) w

-- f again and again, at most n times, until it gives 0
unfoldable pub iter : ℕ → (World → Out) → World → Out
iter zero f w = out 0 w
iter (suc n) f w = let o = f w in elim (eqb o.val 0) [ true ↦ out 0 o.world | false ↦ iter n f o.world ]

-- What a program does where n marks may still be opened and the scope started at b in the log, ρ being what a rule does.
-- A loop runs at most once more than there are tokens left: each turn that goes on reads one (crate laws, file Loops).
unfoldable pub eval : {R : Type 0} {g : Bool} → (ℕ → ℕ → R → World → Out) → ℕ → ℕ → Prog R g → World → Out
unfolding iter seen does
eval ρ n b (ret v) w = out v w
eval ρ n b (bind p f) w = let o = eval ρ n b p w in eval ρ n b (f o.val) o.world
eval ρ n b (branch t p q) w = elim t [ true ↦ eval ρ n b p w | false ↦ eval ρ n b q w ]
eval ρ n b (look q) w = out (seen q w) w
eval ρ n b (lookup k p f) w = elim (fixity_ahead k w) [ none ↦ eval ρ n b p w | some i ↦ eval ρ n b (f i) w ]
eval ρ n b (act a) w = out 0 (does a w)
eval ρ n b (from p) w = eval ρ n (length_of w) p w
eval ρ n b (close k) w = out 0 (end k b w)
eval ρ n b (marked p) w = elim (eqb n 0) [ true ↦ out 0 (does (refuse deep) w) | false ↦ eval ρ (n - 1) b p (mark w) ]
eval ρ n b (loop p) w = iter (left_of w + 1) (eval ρ n b p) w
eval ρ n b (scoped p) w = let o = eval ρ n b p w in out o.val (give_back w o.world)
eval ρ n b (attempt p) w = ok_since w (eval ρ n b p w).world
eval ρ n b (call r) w = ρ n b r w

module _ {R : Type 0} (body : R → Prog R false) where
  -- The rules' meaning, for calls at most k deep. From `rule`, `upto zero` is never reached:
  -- a call stands beneath a mark, so the level n falls at each call (crate laws, file Laws, `stable`).
  unfoldable pub upto : ℕ → ℕ → ℕ → R → World → Out
  upto zero n b r w = out 0 w
  upto (suc k) n b r w = eval (upto k) n b (body r) w

  -- what a rule does where n marks may still be opened and the scope started at b
  unfoldable pub rule : ℕ → ℕ → R → World → Out
  unfolding upto
  rule n b r w = upto (suc n) n b r w
