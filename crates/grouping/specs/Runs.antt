-- What a program does to the tokens ahead, the forest of its scope and the findings, refusals set apart: a law for each form of program.
use Rattle.std.specs.Prelude.{ℕ, zero, suc, ◌-◌, refl, Bool, true, false, eqb, ltb, length}
use Rattle.std.proofs.Math.Path.{◌≡◌, sym}
use Rattle.std.proofs.Common.{◌∙◌, add-zero, arith, eqb-true, length-append}
use mathlib.Core.List.{List, [], ◌∷◌, ◌++◌, append_assoc, append-nil, map, map-append}
use Rattle.std.proofs.Math.Option.{Option, none, some}
use Rattle.grammar.specs.Tokens.{Token}
use Rattle.grammar.specs.Env.{Infix, Entry, find}
use Rattle.grammar.specs.World.{World, Now, Out, out, Rec, no_name, token_in, token_ahead, ahead, fixity_ahead, length_of, mark, take1, take_in, with_record, end, place_in}
use Rattle.grammar.specs.World.World.{refused, on}
use Rattle.grammar.specs.World as world
use Rattle.grammar.specs.Prog.{Prog, seen, does, eval, rule}
use Rattle.grammar.specs.Prog.Prog.{ret, bind, branch, look, lookup, act, from, close, marked, loop, call}
use Rattle.grammar.specs.Prog.Look.{kind}
use Rattle.grammar.specs.Prog.Act.{take, report}
use Rattle.grammar.specs.Rule.{Rule}
use Rattle.grammar.specs.Root.{body}
use Rattle.grammar.specs.ErrorKind as EK
use Rattle.laws.specs.Choice.{if_both, option_both}
use Rattle.laws.specs.Laws.{unfold_rule}
use Rattle.laws.specs.Grows.{eval_refused, rule_grows}
use Rattle.laws.specs.Loops.{loop_law}
use Rattle.laws.specs.Moves.{Advances, advancing}
use Rattle.laws.specs.Trees.{Forest, posts, join, posts_join}
use Rattle.laws.specs.Trees.Forest.{leaf, node}
use Rattle.grouping.specs.Grouping.{tie_at}

-- A reading in the environment E, of C records: the tokens ts are ahead, above the log L stands the forest f, and the findings are ties at the places ps.
pub record Is (E : List Entry) (C : ℕ) (L : List Rec) (ts : List Token) (f : Forest) (ps : List ℕ) (s : Now) : Type 0 where
  pub env : s.env ≡ E
  pub count : s.count ≡ C
  pub rest : s.rest ≡ ts
  pub log : s.log ≡ L ++ posts (length L) f
  pub finds : s.finds ≡ map tie_at ps

-- such a reading, of which Q holds
pub record Left (E : List Entry) (C : ℕ) (L : List Rec) (Q : List Token → Forest → List ℕ → Type 0) (s : Now) : Type 0 where
  pub rest : List Token
  pub forest : Forest
  pub ties : List ℕ
  pub stands : Is E C L rest forest ties s
  pub holds : Q rest forest ties

-- the same of a reading that was not refused
abbrev pub Ends : List Entry → ℕ → List Rec → (List Token → Forest → List ℕ → Type 0) → World → Type 0
Ends E C L Q (refused k l) = Unit {0}
Ends E C L Q (on s) = Left E C L Q s

-- The program, where n marks may still be opened and the reading is such, is refused, or Q holds of its value and of what is ahead and stands afterwards.
pub record Goes (E : List Entry) (C n : ℕ) (ts : List Token) (f : Forest) (ps : List ℕ) {g : Bool} (p : Prog Rule g) (Q : ℕ → List Token → Forest → List ℕ → Type 0) : Type 0 where
  pub run : (L : List Rec) (s : Now) → Is E C L ts f ps s
      → (let o = eval (rule body) n (length L) p (on s) in Ends E C L (Q o.val) o.world)

-- what a look at the kind of the next token, or of the one n behind it, gives
abbrev pub kind_of : Option Token → ℕ
kind_of none = 0
kind_of (some t) = suc t.kind

-- The turn of a loop gave this value: A holds where it is the last, B where it is not.
abbrev pub Again : ℕ → Type 0 → Type 0 → Type 0
Again zero A B = A
Again (suc v) A B = B

-- one record more: the tokens and the forest are those
with_ends : (E : List Entry) (C : ℕ) (L : List Rec) (Q : List Token → Forest → List ℕ → Type 0) (s : Now) (ts : List Token) (f : Forest) (ps : List ℕ) (l : List Rec)
    → s.env ≡ E → s.count ≡ C → l ≡ L ++ posts (length L) f → s.finds ≡ map tie_at ps → Q ts f ps → Ends E C L Q (with_record s ts l)
unfolding with_record
with_ends E C L Q s ts f ps l e c h d q =
    if_both (Ends E C L Q) (ltb s.used s.room)
    (λ _. record { rest = ts; forest = f; ties = ps; stands = record { env = e; count = c; rest = refl; log = h; finds = d }; holds = q })
    (λ _. tt)

-- where a reading that goes on is such that the program comes to Q, it comes to Q from there
resume : (E : List Entry) (C n : ℕ) (Q : ℕ → List Token → Forest → List ℕ → Type 0) {g : Bool} (p : Prog Rule g) (L : List Rec) (w : World)
    → Ends E C L (λ ts f ps. Goes E C n ts f ps p Q) w → (let o = eval (rule body) n (length L) p w in Ends E C L (Q o.val) o.world)
resume E C n Q p L (refused k l) h = rw (eval_refused (rule body) (rule_grows body) n (length L) p k l) tt
resume E C n Q p L (on s) h = h.holds.run L s h.stands

module _ {E : List Entry} {C n : ℕ} {ts : List Token} {f : Forest} {ps : List ℕ} {Q : ℕ → List Token → Forest → List ℕ → Type 0} {g : Bool} where
  -- a value
  pub g_ret : {v : ℕ} → Q v ts f ps → Goes E C n ts f ps {g = g} (ret v) Q
  unfolding eval
  g_ret h = record { run = λ L s i. record { rest = ts; forest = f; ties = ps; stands = i; holds = h } }

  -- a program, and what follows it: the first comes to a place from which the second comes to Q
  pub g_bind : {p : Prog Rule g} {q : ℕ → Prog Rule g} → Goes E C n ts f ps p (λ v ts' f' ps'. Goes E C n ts' f' ps' (q v) Q) → Goes E C n ts f ps (bind p q) Q
  unfolding eval
  g_bind {p} {q} h = record { run = λ L s i. let o = eval (rule body) n (length L) p (on s) in resume E C n Q (q o.val) L o.world (h.run L s i) }

  -- a test that has been computed
  pub g_true : {p q : Prog Rule g} → Goes E C n ts f ps p Q → Goes E C n ts f ps (branch true p q) Q
  unfolding eval
  g_true h = record { run = h.run }

  pub g_false : {p q : Prog Rule g} → Goes E C n ts f ps q Q → Goes E C n ts f ps (branch false p q) Q
  unfolding eval
  g_false h = record { run = h.run }

  -- a test that is known to hold, or to fail
  pub g_on : {t : Bool} {p q : Prog Rule g} → t ≡ true → Goes E C n ts f ps p Q → Goes E C n ts f ps (branch t p q) Q
  unfolding eval
  g_on {p} {q} e h = record { run = rw e h.run }

  pub g_off : {t : Bool} {p q : Prog Rule g} → t ≡ false → Goes E C n ts f ps q Q → Goes E C n ts f ps (branch t p q) Q
  unfolding eval
  g_off {p} {q} e h = record { run = rw e h.run }

  -- a look at the kind of a token ahead
  pub g_peek : {k : ℕ} → Q (kind_of (token_in k ts)) ts f ps → Goes E C n ts f ps {g = g} (look (kind k)) Q
  unfolding eval seen ahead token_ahead
  g_peek {k} h = record { run = λ L s i. record { rest = ts; forest = f; ties = ps; stands = i; holds = rw i.rest h } }

  -- a scope: what it makes stands behind what stood there
  pub g_from : {p : Prog Rule g} → Goes E C n ts Forest.none ps p (λ v ts' f' ps'. Q v ts' (join f f') ps') → Goes E C n ts f ps (from p) Q
  unfolding eval length_of posts
  g_from {p} h = record {
    run = λ L s i. let o = eval (rule body) n (length s.log) p (on s) in
        go L s i o.val o.world (h.run s.log s (record { env = i.env; count = i.count; rest = i.rest; log = sym (append-nil s.log); finds = i.finds }));
  }
    where
      go : (L : List Rec) (s : Now) → Is E C L ts f ps s → (v : ℕ) (w : World) → Ends E C s.log (λ ts' f' ps'. Q v ts' (join f f') ps') w → Ends E C L (Q v) w
      go L s i v (refused k l) h = tt
      go L s i v (on s') h =
          let j = h.stands in
          record {
            rest = h.rest;
            forest = join f h.forest;
            ties = h.ties;
            stands = record { env = j.env; count = j.count; rest = j.rest; log = j.log ∙ rw (i.log, posts_join (length L) f h.forest) (simp (append_assoc, length-append)); finds = j.finds };
            holds = h.holds;
          }

  -- the end of a node of all that stands in the scope
  pub g_close : {k : ℕ} → Q 0 ts (node Forest.none k f) ps → Goes E C n ts f ps {g = g} (close k) Q
  unfolding eval end posts
  g_close {k} h = record {
    run = λ L s i. with_ends E C L (Q 0) s s.rest (node Forest.none k f) ps _ i.env i.count (rw i.log (simp (append_assoc, add-zero))) i.finds (rw i.rest h);
  }

  -- a bump
  pub g_take : {t : Token} → Q 0 ts (leaf f t.kind t.index) ps → Goes E C n (t ∷ ts) f ps {g = g} (act take) Q
  unfolding eval does take1 take_in posts with_record
  g_take {t} h = record {
    run = λ L s i. rw i.rest (with_ends E C L (Q 0) s ts (leaf f t.kind t.index) ps _ i.env i.count (rw i.log (simp append_assoc)) i.finds h);
  }

  -- the report of a tie
  pub g_tie : Q 0 ts f (ps ++ (place_in C ts ∷ [])) → Goes E C n ts f ps {g = g} (act (report EK.SameFixityDiffAssoc 0 no_name)) Q
  unfolding eval does world.report
  g_tie h = record {
    run = λ L s i. if_both (Ends E C L (Q 0)) (ltb (length s.finds) s.kept)
        (λ _. record {
          rest = ts;
          forest = f;
          ties = ps ++ (place_in C ts ∷ []);
          stands = record { env = i.env; count = i.count; rest = i.rest; log = i.log; finds = rw (i.finds, i.count, i.rest) (simp map-append) };
          holds = h;
        })
        (λ _. tt);
  }

  -- a mark, where one more may be opened: otherwise the reading is refused
  pub g_marked : {p : Prog Rule true} → Goes E C (n - 1) ts f ps p Q → Goes E C n ts f ps {g = g} (marked p) Q
  unfolding eval does world.refuse mark with_record
  g_marked {p} h = record {
    run = λ L s i. if_both (λ (o : Out). Ends E C L (Q o.val) o.world) (eqb n 0) (λ _. tt) (λ _. resume E C (n - 1) Q p L (mark (on s)) (marks L s i));
  }
    where
      marks : (L : List Rec) (s : Now) → Is E C L ts f ps s → Ends E C L (λ ts' f' ps'. Goes E C (n - 1) ts' f' ps' p Q) (mark (on s))
      marks L s i = with_ends E C L (λ ts' f' ps'. Goes E C (n - 1) ts' f' ps' p Q) s s.rest f ps s.log i.env i.count i.log i.finds (rw i.rest h)

  -- the fixity of the next token's text: there is none, or one
  pub g_none : {t : Token} {p : Prog Rule g} {q : Infix → Prog Rule g} → find t.text E ≡ none → Goes E C n (t ∷ ts) f ps p Q → Goes E C n (t ∷ ts) f ps (lookup 0 p q) Q
  unfolding eval fixity_ahead token_in
  g_none {t} {p} {q} e h = record {
    run = λ L s i.
        let d : fixity_ahead 0 (on s) ≡ none = rw (i.rest, i.env) e in
        option_both (λ (o : Out). Ends E C L (Q o.val) o.world) (fixity_ahead 0 (on s)) {f = λ o. eval (rule body) n (length L) (q o) (on s)}
        (λ _. h.run L s i) (λ a z. absurd (let y : ◌≡◌ {A = ℕ} 0 1 = cc in omega arith));
  }

  pub g_some : {t : Token} {o : Infix} {p : Prog Rule g} {q : Infix → Prog Rule g} → find t.text E ≡ some o → Goes E C n (t ∷ ts) f ps (q o) Q → Goes E C n (t ∷ ts) f ps (lookup 0 p q) Q
  unfolding eval fixity_ahead token_in
  g_some {t} {o} {p} {q} e h = record {
    run = λ L s i.
        let d : fixity_ahead 0 (on s) ≡ some o = rw (i.rest, i.env) e in
        option_both (λ (o : Out). Ends E C L (Q o.val) o.world) (fixity_ahead 0 (on s)) {f = λ o. eval (rule body) n (length L) (q o) (on s)}
        (λ z. absurd (let y : ◌≡◌ {A = ℕ} 0 1 = cc in omega arith)) (λ a z. let y : a ≡ o = cc in rw y (h.run L s i));
  }

  -- a loop whose turn takes a token or is refused, unless it is the last
  pub g_loop : {p : Prog Rule g} → ((b : ℕ) → Advances (eval (rule body) n b p))
      → Goes E C n ts f ps p (λ v ts' f' ps'. Again v (Q 0 ts' f' ps') (Goes E C n ts' f' ps' (loop p) Q)) → Goes E C n ts f ps (loop p) Q
  g_loop {p} adv h = record { run = λ L s i. rw (loop_law (rule body) (rule_grows body) n (length L) p (advancing _ (adv (length L))) (on s)) (let o = eval (rule body) n (length L) p (on s) in go L o.val o.world (h.run L s i)) }
    where
      go : (L : List Rec) (v : ℕ) (w : World) → Ends E C L (λ ts' f' ps'. Again v (Q 0 ts' f' ps') (Goes E C n ts' f' ps' (loop p) Q)) w
          → (let o : Out = elim (eqb v 0) [ true ↦ out 0 w | false ↦ eval (rule body) n (length L) (loop p) w ] in Ends E C L (Q o.val) o.world)
      go L zero w h = h
      go L (suc v) w h = if_both (λ (o : Out). Ends E C L (Q o.val) o.world) (eqb (suc v) 0) (λ t. absurd (omega (arith, eqb-true (suc v) 0 t)))
          (λ _. resume E C n Q (loop p) L w h)

-- a rule does what its body does
pub g_call : {E : List Entry} {C n : ℕ} {ts : List Token} {f : Forest} {ps : List ℕ} {Q : ℕ → List Token → Forest → List ℕ → Type 0} {r : Rule}
    → Goes E C n ts f ps (body r) Q → Goes E C n ts f ps (call r) Q
unfolding eval
g_call {n} {r} h = record { run = λ L s i. rw (unfold_rule body n (length L) r (on s)) (h.run L s i) }

-- What runs a program whose tests have been computed: `search going`, with the definitions that it names opened by `unfolding`.
pub ruleset going = (g_ret, g_bind, g_true, g_false, g_peek, g_from, g_close, g_take, g_tie, g_marked, g_call)
