-- What every rule does to a reading: it takes tokens off the front, and logs what it took.
use Prim.Native.Nat.{ℕ, zero, suc, ◌+◌, ◌≤◌}
use Rattle.std.specs.Prelude.{◌≡◌, refl, List, [], ◌∷◌, ◌++◌, map, Bool, false, ◌&&◌, ltb, length}
use Rattle.std.proofs.Common.{ap, ◌∙◌, sym, append_assoc, append-nil, arith, length-append}
use Rattle.std.proofs.Math.Option.{Option}
use Rattle.grammar.specs.Tokens.{Token}
use Rattle.grammar.specs.Env.{Infix, Entry}
use Rattle.grammar.specs.World.{World, Now, Out, out, Rec, Find, mark, take1, take_in, take_change, take_change_in, change, change_in, in_env, may_change, max_changes, with_record, end, give_back}
use Rattle.grammar.specs.World.World.{refused, on}
use Rattle.grammar.specs.World.Rec.{took, ended}
use Rattle.grammar.specs.World as world
use Rattle.grammar.specs.Prog.{Prog, Act, does, eval, upto, rule}
use Rattle.grammar.specs.Prog.Act.{take, take_as, report, refuse}
use Rattle.laws.specs.Choice.{if_both}
use Rattle.laws.specs.Keeps.{Kept, Keeps, eval_keeps, upto_keeps, rule_keeps}

-- the records of tokens among the log's
abbrev pub taken : List Rec → List Rec
taken [] = []
taken (took k i ∷ l) = took k i ∷ taken l
taken (ended k b ∷ l) = taken l

-- the record of a token that was read
abbrev pub took_of : Token → Rec
took_of t = took t.kind t.index

-- From s to s' the tokens `gone` were read, the log got `new` and the findings `more`.
pub record Longer (s s' : Now) : Type 0 where
  pub gone : List Token
  pub new : List Rec
  pub more : List Find
  pub rest : s.rest ≡ gone ++ s'.rest
  pub log : s'.log ≡ s.log ++ new
  pub finds : s'.finds ≡ s.finds ++ more
  pub taken_gone : taken new ≡ map took_of gone
  pub used : s.used + length new ≤ s'.used
  pub changes : s.changes ≤ s'.changes
  pub count : s'.count ≡ s.count
  pub room : s'.room ≡ s.room
  pub kept : s'.kept ≡ s.kept
  pub mode : s'.mode ≡ s.mode

-- A refused reading stays as it is; one that goes on is refused or gets longer.
abbrev pub Grew : World → World → Type 0
Grew (refused k l) w' = w' ≡ refused k l
Grew (on s) (refused k l) = Unit {0}
Grew (on s) (on s') = Longer s s'

-- the tokens' records of two logs, one behind the other
pub taken_append : (a b : List Rec) → taken (a ++ b) ≡ taken a ++ taken b
taken_append [] b = refl
taken_append (took k i ∷ a) b = ap (λ (l : List Rec). took k i ∷ l) (taken_append a b)
taken_append (ended k i ∷ a) b = taken_append a b

-- the records of two lists of tokens, one behind the other
map_append : (a b : List Token) → map took_of (a ++ b) ≡ map took_of a ++ map took_of b
map_append [] b = refl
map_append (t ∷ a) b = ap (λ (l : List Rec). took_of t ∷ l) (map_append a b)

-- longer, and longer again
pub longer_next : (a b c : Now) → Longer a b → Longer b c → Longer a c
longer_next a b c p q = record {
  gone = p.gone ++ q.gone;
  new = p.new ++ q.new;
  more = p.more ++ q.more;
  rest = simp append_assoc (cc);
  log = cc (append_assoc a.log p.new q.new);
  finds = cc (append_assoc a.finds p.more q.more);
  taken_gone = simp (taken_append, map_append) (cc);
  used = simp length-append (omega arith);
  changes = omega arith;
  count = cc;
  room = cc;
  kept = cc;
  mode = cc;
}

-- one record more used: the tokens `gone` read, and the records `new` logged
longer_log : (s : Now) (gone ts : List Token) (new l : List Rec)
    → s.rest ≡ gone ++ ts → l ≡ s.log ++ new → taken new ≡ map took_of gone → length new ≤ 1
    → Grew (on s) (with_record s ts l)
unfolding with_record
longer_log s gone ts new l e e' t h = if_both (Grew (on s)) (ltb s.used s.room)
    (λ _. record {
      gone = gone;
      new = new;
      more = [];
      rest = e;
      log = e';
      finds = sym (append-nil s.finds);
      taken_gone = t;
      used = omega arith;
      changes = omega arith;
      count = refl;
      room = refl;
      kept = refl;
      mode = refl;
    })
    (λ _. tt)

-- some findings more, and another environment
longer_finds : (s : Now) (more : List Find) (es : List Entry) (c : ℕ) → s.changes ≤ c
    → Longer s (record { rest = s.rest; count = s.count; log = s.log; used = s.used; room = s.room; finds = s.finds ++ more; kept = s.kept; env = es; changes = c; mode = s.mode })
longer_finds s more es c h = record {
  gone = [];
  new = [];
  more = more;
  rest = refl;
  log = sym (append-nil s.log);
  finds = refl;
  taken_gone = refl;
  used = omega arith;
  changes = h;
  count = refl;
  room = refl;
  kept = refl;
  mode = refl;
}

-- another environment
longer_env : (s : Now) (es : List Entry) (c : ℕ) → s.changes ≤ c → Longer s (in_env s es c)
longer_env s es c h = rw append-nil at (longer_finds s [] es c h)

-- nothing done is nothing grown
grew_same : (w : World) → Grew w w
grew_same (refused k l) = refl
grew_same (on s) = longer_env s s.env s.changes (omega arith)

-- grown, and grown again
grew_next : (a b c : World) → Grew a b → Grew b c → Grew a c
grew_next (refused k l) (refused k' l') c p q = q ∙ p
grew_next (refused k l) (on s) c p q = absurd (let z : ◌≡◌ {A = ℕ} 0 1 = cc in omega arith)
grew_next (on s) (refused k l) (refused k' l') p q = tt
grew_next (on s) (refused k l) (on s') p q = absurd (let z : ◌≡◌ {A = ℕ} 0 1 = cc in omega arith)
grew_next (on s) (on s') (refused k l) p q = tt
grew_next (on s) (on s') (on s'') p q = longer_next s s' s'' p q

-- a bump
grew_take_in : (s : Now) (ts : List Token) → s.rest ≡ ts → Grew (on s) (take_in s ts)
unfolding take_in
grew_take_in s [] e = grew_same (on s)
grew_take_in s (t ∷ ts) e = longer_log s (t ∷ []) ts (took_of t ∷ []) _ e refl refl (omega arith)

-- a fixity change is refused, or takes nothing
pub grew_change : (c : Option Infix) (x : List ℕ) (w : World) → Grew w (change c x w)
unfolding change change_in
grew_change c x (refused k l) = refl
grew_change c x (on s) =
    if_both (Grew (on s)) (ltb s.changes max_changes && may_change c x s.env) (λ _. longer_env s _ (s.changes + 1) (omega arith)) (λ _. tt)

-- a bump and the fixity change behind it
grew_take_change_in : (c : Option Infix) (s : Now) (ts : List Token) → s.rest ≡ ts → Grew (on s) (take_change_in c s ts)
unfolding take_change_in
grew_take_change_in c s [] e = grew_same (on s)
grew_take_change_in c s (t ∷ ts) e =
    grew_next (on s) (take_in s (t ∷ ts)) _ (grew_take_in s (t ∷ ts) e) (grew_change c t.text (take_in s (t ∷ ts)))

-- every operation is refused, or makes the reading longer
pub grew : Kept Grew
unfolding world.refuse mark take1 take_change end world.report does give_back
grew = record { same = grew_same; next = grew_next; marks = marks; acts = acts; ends = ends; backs = backs }
  where
    marks : (w : World) → Grew w (mark w)
    marks (refused k l) = refl
    marks (on s) = longer_log s [] s.rest [] s.log refl (sym (append-nil s.log)) refl (omega arith)

    acts : (a : Act) (w : World) → Grew w (does a w)
    acts take (refused k l) = refl
    acts take (on s) = grew_take_in s s.rest refl
    acts (take_as c) (refused k l) = refl
    acts (take_as c) (on s) = grew_take_change_in c s s.rest refl
    acts (report f d x) (refused k l) = refl
    acts (report f d x) (on s) =
        if_both (Grew (on s)) (ltb (length s.finds) s.kept) (λ _. longer_finds s _ s.env s.changes (omega arith)) (λ _. tt)
    acts (refuse y) (refused k l) = refl
    acts (refuse y) (on s) = tt

    ends : (k b : ℕ) (w : World) → Grew w (end k b w)
    ends k b (refused k' l) = refl
    ends k b (on s) = longer_log s [] s.rest (ended k b ∷ []) _ refl refl refl (omega arith)

    backs : (a c : World) → Grew a c → Grew a (give_back a c)
    backs (refused k l) c h = h
    backs (on s) (refused k l) h = tt
    backs (on s) (on s') h = longer_next s s' _ h (longer_env s' s.env s'.changes (omega arith))

-- the tokens left to read, and one more where the reading goes on
abbrev pub after : World → ℕ
after (refused k l) = 0
after (on s) = suc (length s.rest)

-- no more are left than before, and a refused reading has none
pub grew_after : (w w' : World) → Grew w w' → after w' ≤ after w
grew_after (refused k l) w' h = rw h (omega arith)
grew_after (on s) (refused k l) h = omega arith
grew_after (on s) (on s') h = omega (arith, simp length-append at (ap length h.rest))

-- rules all of which only grow
abbrev pub Growing : {R : Type 0} → (ℕ → ℕ → R → World → Out) → Type 0
Growing {R} ρ = (m c : ℕ) (r : R) → Keeps Grew (ρ m c r)

module _ {R : Type 0} {g : Bool} (ρ : ℕ → ℕ → R → World → Out) (h : Growing ρ) (n b : ℕ) (p : Prog R g) where
  -- a program only grows
  pub eval_grows : (w : World) → Grew w (eval ρ n b p w).world
  eval_grows = eval_keeps Grew grew ρ h n b p

  -- a refused reading stays as it is
  pub eval_refused : (k l : ℕ) → (eval ρ n b p (refused k l)).world ≡ refused k l
  eval_refused k l = eval_grows (refused k l)

  -- and it is no further from the end, a refusal being the end
  pub eval_after : (w : World) → after (eval ρ n b p w).world ≤ after w
  eval_after w = grew_after w _ (eval_grows w)

  -- where it goes on, the reading got longer
  pub eval_longer : (s s' : Now) → (eval ρ n b p (on s)).world ≡ on s' → Longer s s'
  eval_longer s s' e = rw e at (eval_grows (on s))

module _ {R : Type 0} (body : R → Prog R false) where
  -- the rules only grow, for calls at most k deep
  pub upto_grows : (k : ℕ) → Growing (upto body k)
  upto_grows k = upto_keeps Grew grew body k

  -- every rule only grows
  pub rule_grows : Growing (rule body)
  rule_grows n b r = rule_keeps Grew grew body n b r

  -- what holds of every rule whose calls it holds of
  pub rule_has : (P : R → (World → Out) → Type 0) → ((r : R) → P r (λ w. out 0 w))
      → ((ρ : ℕ → ℕ → R → World → Out) → Growing ρ → ((m c : ℕ) (r : R) → P r (ρ m c r)) → (n b : ℕ) (r : R) → P r (eval ρ n b (body r)))
      → (n b : ℕ) (r : R) → P r (rule body n b r)
  unfolding rule upto
  rule_has P base step n b r = go (suc n) n b r
    where
      go : (k m c : ℕ) (r : R) → P r (upto body k m c r)
      go zero m c r = base r
      go (suc k) m c r = step (upto body k) (upto_grows k) (go k) m c r
