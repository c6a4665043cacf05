-- That a call is read whole, or refused: see specs/Pairs.antt for what that says.
use Rattle.std.specs.Prelude.{ℕ, suc, ◌-◌, ◌≡◌, refl, List, [], ◌∷◌, map, true, eqb, ltb, leb, length}
use Rattle.std.proofs.Common.{ap, ◌∙◌, sym, append-nil, arith}
use Rattle.std.proofs.Math.Option.{Option, none, some}
use Rattle.grammar.specs.Tokens.{Token, records_fit, record_count}
use Rattle.grammar.specs.Env.{Entry, env_of, env_bytes}
use Rattle.grammar.specs.World.{World, Now, Out, Rec, none?, ahead, token_ahead, token_in, length_of, with_record, mark, end}
use Rattle.grammar.specs.World.World.{refused, on}
use Rattle.grammar.specs.World as world
use Rattle.grammar.specs.Prog.{Prog, ◌>>=◌, ◌>>◌, peek, eval, rule, seen}
use Rattle.grammar.specs.Prog.Prog.{ret, branch, from, close, loop}
use Rattle.grammar.specs.Rule.{Rule}
use Rattle.grammar.specs.Root.{root, root_turn, body}
use Rattle.grammar.specs.Nodes.{nodes_of, nodes_bytes}
use Rattle.grammar.specs.Read.{Call, Result, was_read, bad_settings, bad_records, bad_env, no_nodes, no_final, settings_fit, start, reading, refusal, handed, finish, read_with, read}
use Rattle.grammar.specs.SyntaxKind as SK
use Rattle.laws.specs.Choice.{if_both}
use Rattle.laws.specs.Grows.{took_of, rule_grows, eval_refused}
use Rattle.laws.specs.Loops.{loop_last}
use Rattle.laws.specs.Moves.{advancing}
use Rattle.laws.specs.Trees.{Forest, posts, leaves, Built, eval_built}
use Rattle.laws.specs.Flat.{flat}
use Rattle.laws.proofs.Flat.{held_flat, nodes_posts}
use Rattle.laws.specs.Refusals.{Known, eval_known}
use Rattle.laws.specs.Progress.{root_turn_advances}
use Rattle.laws.specs.Pairs.{root_of, Whole, Outcome}
use Rattle.laws.specs.Pairs.Outcome.{whole, refuse}

-- a look at the next token finds none only where none is left
none_left : (s : Now) → none? (ahead 0 (on s)) ≡ true → s.rest ≡ []
unfolding ahead token_ahead token_in
none_left s = go s.rest
  where
    go : (ts : List Token) → none? (elim (token_in 0 ts) [ none ↦ 0 | some t ↦ suc t.kind ]) ≡ true → ts ≡ []
    go [] h = refl
    go (t ∷ ts) h = absurd (let z : ◌≡◌ {A = ℕ} 0 1 = cc in omega arith)

-- what a turn of the loop of `root` does where a token is left gives 1
gives_one : (n b : ℕ) (p q q' : Prog Rule true) (w : World) → (eval (rule body) n b (p >>= (λ v. branch (none? v) (q >> (q' >> ret 1)) (ret 1))) w).val ≡ 1
unfolding eval
gives_one n b p q q' w = if_both (λ (o : Out). o.val ≡ 1) (none? (eval (rule body) n b p w).val) (λ _. refl) (λ _. refl)

-- so the turn gives 0 only where none is left
turn_ends : (n b : ℕ) (q : ℕ → Prog Rule true) (s s' : Now) → ((k : ℕ) (w : World) → (eval (rule body) n b (q k) w).val ≡ 1)
    → let o = eval (rule body) n b (peek 0 >>= (λ k. branch (none? k) (ret 0) (q k))) (on s) in o.val ≡ 0 → o.world ≡ on s' → s'.rest ≡ []
unfolding eval seen
turn_ends n b q s s' h = if_both (λ (o : Out). o.val ≡ 0 → o.world ≡ on s' → s'.rest ≡ []) (none? (ahead 0 (on s)))
    (λ t _ e. cc (none_left s t)) (λ _ v. absurd (omega (arith, h (ahead 0 (on s)) (on s))))

-- The log of s' is that of `Root`, which holds the tokens ts.
record Rooted (ts : List Token) (s' : Now) : Type 0 where
  inside : Forest
  log : s'.log ≡ posts 0 (root_of inside)
  tokens : leaves inside ≡ map took_of ts

-- a record more
with_log : (s s' : Now) (ts : List Token) (l : List Rec) → with_record s ts l ≡ on s' → s'.log ≡ l
unfolding with_record
with_log s s' ts l = if_both (λ (w : World). w ≡ on s' → s'.log ≡ l) (ltb s.used s.room) (λ _ e. cc)
    (λ _ e. absurd (let z : ◌≡◌ {A = ℕ} 0 1 = cc in omega arith))

-- the loop of `root`: it goes on only where all tokens were read
loop_reads : (n : ℕ) (s s' : Now) → (eval (rule body) n (length s.log) (loop root_turn) (on s)).world ≡ on s' → s'.rest ≡ []
unfolding root_turn
loop_reads n s s' e =
    let b = length s.log in
    let last = loop_last (rule body) (rule_grows body) n b root_turn (advancing _ (root_turn_advances n b)) (on s) s' e in
    turn_ends n b _ last.now s' (λ k w. gives_one n b _ _ _ w) last.gave last.led

-- the node `Root` ends behind a forest of all the tokens
end_rooted : (s s2 s' : Now) → s.log ≡ [] → Built s s2 → s2.rest ≡ [] → end SK.Root (length s.log) (on s2) ≡ on s' → Rooted s.rest s'
unfolding end posts
end_rooted s s2 s' z t h e = record {
  inside = t.forest;
  log = with_log s2 s' _ _ e ∙ rw (t.log, z);
  tokens = cc (t.longer.rest, append-nil t.longer.gone);
}

-- what stands in the scope of `root`
scope_rooted : (n b : ℕ) (s s' : Now) → s.log ≡ [] → (eval (rule body) n b (from (loop root_turn >> close SK.Root)) (on s)).world ≡ on s' → Rooted s.rest s'
unfolding eval length_of end
scope_rooted n b s s' z = go (eval (rule body) n (length s.log) (loop root_turn) (on s)).world refl
  where
    go : (w : World) → (eval (rule body) n (length s.log) (loop root_turn) (on s)).world ≡ w → end SK.Root (length s.log) w ≡ on s' → Rooted s.rest s'
    go (refused k l) q e = absurd (let z : ◌≡◌ {A = ℕ} 0 1 = cc in omega arith)
    go (on s2) q e = end_rooted s s2 s' z (eval_built body n (loop root_turn) s s2 q) (loop_reads n s s2 q) e

-- where the reading of a whole file goes on to s', its log is that of `Root`, which holds all the tokens
root_rooted : (n : ℕ) (s s' : Now) → s.log ≡ [] → (eval (rule body) n 0 root (on s)).world ≡ on s' → Rooted s.rest s'
unfolding eval root world.refuse mark with_record
root_rooted n s s' z = if_both (λ (o : Out). o.world ≡ on s' → Rooted s.rest s') (eqb n 0)
    (λ _ e. absurd (let z : ◌≡◌ {A = ℕ} 0 1 = cc in omega arith))
    (λ _. if_both (λ (w : World). (eval (rule body) (n - 1) 0 (from (loop root_turn >> close SK.Root)) w).world ≡ on s' → Rooted s.rest s')
    (ltb s.used s.room)
    (λ _ e. scope_rooted (n - 1) 0 _ s' z e)
    (λ _ e. absurd (let z : ◌≡◌ {A = ℕ} 0 1 = cc (eval_refused (rule body) (rule_grows body) (n - 1) 0 (from (loop root_turn >> close SK.Root)) _ _) in omega arith)))

-- what is handed out, where the nodes and the environment fit
finish_cases : (c : Call) (es : List Entry) (w : World) → reading c es ≡ w → Known w → Outcome c (finish c w)
unfolding reading start finish handed leaves
finish_cases c es (refused k l) e h = refuse k h refl
finish_cases c es (on s) e h =
    let t = root_rooted c.depth (start c es) s refl e in
    let n : nodes_of s.log ≡ flat (root_of t.inside) = ap nodes_of t.log ∙ nodes_posts (root_of t.inside) in
    if_both (Outcome c) (leb (length (nodes_bytes (nodes_of s.log))) c.nodes)
    (λ _. if_both (Outcome c) (leb (length (env_bytes s.env)) c.final)
    (λ _. whole (record { answer = refl; inside = t.inside; nodes = rw n; used = rw n; tokens = t.tokens; holds = held_flat (root_of t.inside) ∙ t.tokens }))
    (λ _. refuse no_final (λ e. omega arith) refl))
    (λ _. refuse no_nodes (λ e. omega arith) refl)

-- Every call is read whole, or is refused.
pub read_cases : (c : Call) → Outcome c (read c)
unfolding read read_with reading
read_cases c = if_both (Outcome c) (settings_fit c)
    (λ _. if_both (Outcome c) (records_fit (length c.text) c.toks (record_count c.toks)) (λ _. go (env_of c.env)) (λ _. refuse bad_records (λ e. omega arith) refl))
    (λ _. refuse bad_settings (λ e. omega arith) refl)
  where
    go : (o : Option (List Entry)) → Outcome c (read_with c o)
    go none = refuse bad_env (λ e. omega arith) refl
    go (some es) = finish_cases c es (reading c es) refl (eval_known body c.depth 0 root (start c es))

-- Where the answer is 0, the call was read whole.
pub read_whole : (c : Call) → (read c).answer ≡ was_read → Whole c (read c)
unfolding refusal
read_whole c e = go (read_cases c)
  where
    go : Outcome c (read c) → Whole c (read c)
    go (whole w) = w
    go (refuse k h q) = absurd (h (ap (λ (r : Result). r.answer) (sym q) ∙ e))
