-- What the rules log is a forest, each node behind what is in it.
use Prim.Native.Nat.{ℕ, zero, suc, ◌+◌, ◌-◌}
use Rattle.std.specs.Prelude.{◌≡◌, refl, List, [], ◌∷◌, ◌++◌, map, Bool, false, ◌&&◌, eqb, ltb, length}
use Rattle.std.proofs.Common.{ap, ◌∙◌, sym, append_assoc, append-nil, add-zero, add_assoc, arith, length-append}
use Rattle.std.proofs.lemmas.List.{append_cancel_left}
use Rattle.std.proofs.Math.Option.{Option}
use Rattle.grammar.specs.Tokens.{Token}
use Rattle.grammar.specs.Env.{Infix}
use Rattle.grammar.specs.World.{World, Now, Out, Rec, fixity_ahead, length_of, left_of, mark, take1, take_in, take_change, take_change_in, change, change_in, may_change, max_changes, with_record, end, give_back, ok_since}
use Rattle.grammar.specs.World.World.{refused, on}
use Rattle.grammar.specs.World.Rec.{took, ended}
use Rattle.grammar.specs.World as world
use Rattle.grammar.specs.Prog.{Prog, Act, does, iter, eval, upto, rule}
use Rattle.grammar.specs.Prog.Prog.{ret, bind, branch, look, lookup, act, from, close, marked, loop, scoped, attempt, call}
use Rattle.grammar.specs.Prog.Act.{take, take_as, report, refuse}
use Rattle.grammar.specs.Prog.Reason.{deep}
use Rattle.laws.specs.Choice.{if_both, option_both}
use Rattle.laws.specs.Grows.{Growing, Longer, eval_refused, upto_grows, rule_grows, eval_longer, taken, took_of, taken_append}

-- A forest: none, or a forest and behind it a token (its kind and index) or a node (its kind, and what is in it).
pub data Forest : Type 0 where
  none : Forest
  leaf : Forest → ℕ → ℕ → Forest
  node : Forest → ℕ → Forest → Forest

-- the log of a forest that starts at b
unfoldable pub posts : ℕ → Forest → List Rec
posts b none = []
posts b (leaf f k i) = posts b f ++ (took k i ∷ [])
posts b (node f k c) = let m = b + length (posts b f) in posts b f ++ (posts m c ++ (ended k m ∷ []))

-- the tokens of a forest, from left to right
unfoldable pub leaves : Forest → List Rec
leaves none = []
leaves (leaf f k i) = leaves f ++ (took k i ∷ [])
leaves (node f k c) = leaves f ++ leaves c

-- a forest, and another behind it
unfoldable pub join : Forest → Forest → Forest
join f none = f
join f (leaf g k i) = leaf (join f g) k i
join f (node g k c) = node (join f g) k c

-- its log is the one's and then the other's
pub posts_join : (b : ℕ) (f g : Forest) → posts b (join f g) ≡ posts b f ++ posts (b + length (posts b f)) g
unfolding posts join
posts_join b f none = sym (append-nil (posts b f))
posts_join b f (leaf g k i) = rw (posts_join b f g) (simp append_assoc)
posts_join b f (node g k c) = rw (posts_join b f g) (simp (append_assoc, length-append, add_assoc))

-- the tokens in the log of a forest are its leaves
pub taken_posts : (b : ℕ) (f : Forest) → taken (posts b f) ≡ leaves f
unfolding posts leaves
taken_posts b none = refl
taken_posts b (leaf f k i) = rw (taken_append, taken_posts b f)
taken_posts b (node f k c) = simp (taken_append, append-nil, taken_posts b f, taken_posts (b + length (posts b f)) c)

-- two lists cut at one length
cut : (a b c d : List Rec) → a ++ c ≡ b ++ d → length a ≡ length b → (a ≡ b) × (c ≡ d)
cut [] [] c d e h = (refl, e)
cut [] (y ∷ b) c d e h = absurd (omega arith)
cut (x ∷ a) [] c d e h = absurd (omega arith)
cut (x ∷ a) (y ∷ b) c d e h = let r = cut a b c d (cc) (omega arith) in (cc, r.1)

-- two lists cut before their last records
cut1 : (a b : List Rec) (x y : Rec) → a ++ (x ∷ []) ≡ b ++ (y ∷ []) → (a ≡ b) × (x ≡ y)
cut1 a b x y e = let r = cut a b (x ∷ []) (y ∷ []) e (omega (arith, simp length-append at (ap length e))) in (r.0, cc)

-- the log of a forest tells the forest
pub posts_tell : (b : ℕ) (f g : Forest) → posts b f ≡ posts b g → f ≡ g
unfolding posts
posts_tell b none none e = refl
posts_tell b none (leaf g k i) e = absurd (omega (arith, simp length-append at (ap length e)))
posts_tell b none (node g k c) e = absurd (omega (arith, simp length-append at (ap length e)))
posts_tell b (leaf f k i) none e = absurd (omega (arith, simp length-append at (ap length e)))
posts_tell b (leaf f k i) (leaf g k' i') e =
    let r = cut1 (posts b f) (posts b g) (took k i) (took k' i') e in cc (posts_tell b f g r.0)
posts_tell b (leaf f k i) (node g k' c') e =
    let m = b + length (posts b g) in
    let r = cut1 (posts b f) (posts b g ++ posts m c') (took k i) (ended k' m) (e ∙ sym (append_assoc (posts b g) (posts m c') _)) in
    cc
posts_tell b (node f k c) none e = absurd (omega (arith, simp length-append at (ap length e)))
posts_tell b (node f k c) (leaf g k' i') e =
    let m = b + length (posts b f) in
    let r = cut1 (posts b f ++ posts m c) (posts b g) (ended k m) (took k' i') (append_assoc (posts b f) (posts m c) _ ∙ e) in
    cc
posts_tell b (node f k c) (node g k' c') e =
    let m = b + length (posts b f) in
    let m' = b + length (posts b g) in
    let r = cut1 (posts b f ++ posts m c) (posts b g ++ posts m' c') (ended k m) (ended k' m')
    (append_assoc (posts b f) (posts m c) _ ∙ e ∙ sym (append_assoc (posts b g) (posts m' c') _)) in
    let n : m ≡ m' = cc in
    let q = cut (posts b f) (posts b g) (posts m c) (posts m' c') r.0 (omega arith) in
    cc (posts_tell b f g q.0, posts_tell m c c' (q.1 ∙ ap (λ (x : ℕ). posts x c') (sym n)))

-- Above the log L stands a forest.
pub record Above (L : List Rec) (s : Now) : Type 0 where
  pub forest : Forest
  pub log : s.log ≡ L ++ posts (length L) forest

-- the same of a reading that goes on
abbrev pub Stands : List Rec → World → Type 0
Stands L (refused k l) = Unit {0}
Stands L (on s) = Above L s

-- a record more, by which the log stays a forest above L
with_stands : (L : List Rec) (s : Now) (ts : List Token) (l : List Rec) (f : Forest) → l ≡ L ++ posts (length L) f → Stands L (with_record s ts l)
unfolding with_record
with_stands L s ts l f e = if_both (Stands L) (ltb s.used s.room) (λ _. record { forest = f; log = e }) (λ _. tt)

-- a mark
mark_stands : (L : List Rec) (w : World) → Stands L w → Stands L (mark w)
unfolding mark
mark_stands L (refused k l) a = tt
mark_stands L (on s) a = with_stands L s s.rest s.log a.forest a.log

-- a bump
take_in_stands : (L : List Rec) (s : Now) (ts : List Token) → Above L s → Stands L (take_in s ts)
unfolding posts take_in
take_in_stands L s [] a = a
take_in_stands L s (t ∷ ts) a = with_stands L s ts _ (leaf a.forest t.kind t.index) (rw a.log (simp append_assoc))

-- a fixity change
change_stands : (c : Option Infix) (x : List ℕ) (L : List Rec) (w : World) → Stands L w → Stands L (change c x w)
unfolding change change_in
change_stands c x L (refused k l) a = tt
change_stands c x L (on s) a =
    if_both (Stands L) (ltb s.changes max_changes && may_change c x s.env) (λ _. record { forest = a.forest; log = a.log }) (λ _. tt)

-- a bump and the fixity change behind it
take_change_in_stands : (c : Option Infix) (L : List Rec) (s : Now) (ts : List Token) → Above L s → Stands L (take_change_in c s ts)
unfolding take_change_in
take_change_in_stands c L s [] a = a
take_change_in_stands c L s (t ∷ ts) a = change_stands c t.text L (take_in s (t ∷ ts)) (take_in_stands L s (t ∷ ts) a)

-- every operation
act_stands : (c : Act) (L : List Rec) (w : World) → Stands L w → Stands L (does c w)
unfolding does take1 take_change world.report world.refuse
act_stands take L (refused k l) a = tt
act_stands take L (on s) a = take_in_stands L s s.rest a
act_stands (take_as c) L (refused k l) a = tt
act_stands (take_as c) L (on s) a = take_change_in_stands c L s s.rest a
act_stands (report f d x) L (refused k l) a = tt
act_stands (report f d x) L (on s) a =
    if_both (Stands L) (ltb (length s.finds) s.kept) (λ _. record { forest = a.forest; log = a.log }) (λ _. tt)
act_stands (refuse j) L (refused k l) a = tt
act_stands (refuse j) L (on s) a = tt

-- the end of a node, which started where the scope did
end_stands : (k : ℕ) (L : List Rec) (w : World) → Stands L w → Stands L (end k (length L) w)
unfolding posts end
end_stands k L (refused n l) a = tt
end_stands k L (on s) a = with_stands L s s.rest _ (node none k a.forest) (rw a.log (simp (append_assoc, add-zero)))

-- the environment is given back
back_stands : (L : List Rec) (w w' : World) → Stands L w' → Stands L (give_back w w')
unfolding give_back
back_stands L (refused k l) w' a = a
back_stands L (on s) (refused k l) a = tt
back_stands L (on s) (on s') a = record { forest = a.forest; log = a.log }

-- what was tried stays, or the reading is as before
since_stands : (L : List Rec) (w w' : World) → Stands L w → Stands L w' → Stands L (ok_since w w').world
unfolding ok_since
since_stands L (refused k l) w' a a' = a'
since_stands L (on s) (refused k l) a a' = tt
since_stands L (on s) (on s') a a' =
    if_both (λ (o : Out). Stands L o.world) (eqb (length s'.finds) (length s.finds)) (λ _. a') (λ _. a)

-- at the start of a scope nothing stands above the log
start : (s : Now) → Above s.log s
unfolding posts
start s = record { forest = none; log = sym (append-nil s.log) }

-- what a scope made stands behind what stood there
scope_stands : (L : List Rec) (s : Now) → Above L s → (w : World) → Stands s.log w → Stands L w
scope_stands L s a (refused k l) c = tt
scope_stands L s a (on s') c = record { forest = join a.forest c.forest; log = rw (c.log, a.log, posts_join (length L) a.forest c.forest) (simp (append_assoc, length-append)) }

-- a step or a rule that builds a forest, above whatever log L its scope started with
abbrev pub Builds : (ℕ → World → Out) → Type 0
Builds f = (L : List Rec) (w : World) → Stands L w → Stands L (f (length L) w).world

-- a loop, where its turn does
iter_stands : (L : List Rec) (n : ℕ) (f : World → Out) → ((w : World) → Stands L w → Stands L (f w).world)
    → (w : World) → Stands L w → Stands L (iter n f w).world
unfolding iter
iter_stands L zero f h w a = a
iter_stands L (suc n) f h w a =
    if_both (λ (o : Out). Stands L o.world) (eqb (f w).val 0) (λ _. h w a) (λ _. iter_stands L n f h (f w).world (h w a))

module _ {R : Type 0} (ρ : ℕ → ℕ → R → World → Out) (grows : Growing ρ) (builds : (m : ℕ) (r : R) → Builds (λ b. ρ m b r)) where
  -- a program builds a forest, where the rules do
  pub eval_builds : {g : Bool} (n : ℕ) (p : Prog R g) → Builds (λ b. eval ρ n b p)
  unfolding eval does length_of
  eval_builds n (ret v) L w a = a
  eval_builds n (bind p f) L w a =
      let o = eval ρ n (length L) p w in eval_builds n (f o.val) L o.world (eval_builds n p L w a)
  eval_builds n (branch t p q) L w a = if_both (λ (o : Out). Stands L o.world) t (λ _. eval_builds n p L w a) (λ _. eval_builds n q L w a)
  eval_builds n (look q) L w a = a
  eval_builds n (lookup k p f) L w a =
      option_both (λ (o : Out). Stands L o.world) (fixity_ahead k w) {f = λ i. eval ρ n (length L) (f i) w} (λ _. eval_builds n p L w a) (λ i _. eval_builds n (f i) L w a)
  eval_builds n (act c) L w a = act_stands c L w a
  eval_builds n (from p) L (refused k l) a = rw (eval_refused ρ grows n l p k l) tt
  eval_builds n (from p) L (on s) a = scope_stands L s a (eval ρ n (length s.log) p (on s)).world (eval_builds n p s.log (on s) (start s))
  eval_builds n (close k) L w a = end_stands k L w a
  eval_builds n (marked p) L w a =
      if_both (λ (o : Out). Stands L o.world) (eqb n 0) (λ _. act_stands (refuse deep) L w a)
      (λ _. eval_builds (n - 1) p L (mark w) (mark_stands L w a))
  eval_builds n (loop p) L w a = iter_stands L (left_of w + 1) (eval ρ n (length L) p) (eval_builds n p L) w a
  eval_builds n (scoped p) L w a = back_stands L w (eval ρ n (length L) p w).world (eval_builds n p L w a)
  eval_builds n (attempt p) L w a = since_stands L w (eval ρ n (length L) p w).world a (eval_builds n p L w a)
  eval_builds n (call r) L w a = builds n r L w a

-- From s to s' a forest was built, of the tokens that were read.
pub record Built (s s' : Now) : Type 0 where
  pub longer : Longer s s'
  pub forest : Forest
  pub log : s'.log ≡ s.log ++ posts (length s.log) forest
  pub read : leaves forest ≡ map took_of longer.gone

-- a longer reading above whose log a forest stands
built : (s s' : Now) → Longer s s' → Above s.log s' → Built s s'
built s s' g a = record { longer = g; forest = a.forest; log = a.log; read = cc (taken_posts (length s.log) a.forest, same) }
  where
    same : posts (length s.log) a.forest ≡ g.new
    same = append_cancel_left s.log _ _ (cc)

module _ {R : Type 0} (body : R → Prog R false) where
  -- the rules build forests, for calls at most k deep
  upto_builds : (k m : ℕ) (r : R) → Builds (λ b. upto body k m b r)
  unfolding upto
  upto_builds zero m r L w a = a
  upto_builds (suc k) m r L w a = eval_builds (upto body k) (upto_grows body k) (upto_builds k) m (body r) L w a

  -- a rule keeps a forest above the log that its scope started with
  pub rule_builds : (n : ℕ) (r : R) → Builds (λ b. rule body n b r)
  unfolding rule
  rule_builds n r = upto_builds (suc n) n r

  -- a program in a scope of its own appends a forest, whose tokens are those that it read
  pub eval_built : {g : Bool} (n : ℕ) (p : Prog R g) (s s' : Now) → (eval (rule body) n (length s.log) p (on s)).world ≡ on s' → Built s s'
  eval_built n p s s' e =
      built s s' (eval_longer (rule body) (rule_grows body) n (length s.log) p s s' e)
      (rw e at (eval_builds (rule body) (rule_grows body) rule_builds n p s.log (on s) (start s)))
