-- What a call hands out has the lengths of what was lent to write: no reading holds more findings than fit.
use Rattle.std.specs.Prelude.{ℕ, ◌*◌, ◌/◌, ◌≤◌, ◌≡◌, refl, List, [], ◌∷◌, ◌&&◌, leb, ltb, length}
use Rattle.std.proofs.Common.{arith, ltb-true, leb-true, length-append}
use Rattle.std.proofs.Math.Option.{Option, none, some}
use Rattle.std.proofs.lemmas.List.{length-replicate}
use Rattle.grammar.specs.Tokens.{Token, records_fit, record_count}
use Rattle.grammar.specs.Env.{Infix, Entry, env_of, env_bytes}
use Rattle.grammar.specs.Nodes.{nodes_of, nodes_bytes, find_bytes}
use Rattle.grammar.specs.World.{World, Now, Rec, Find, mark, take1, take_in, take_change, take_change_in, change, change_in, may_change, max_changes, with_record, end, give_back}
use Rattle.grammar.specs.World.World.{refused, on}
use Rattle.grammar.specs.World as world
use Rattle.grammar.specs.Prog.{Act, does, rule}
use Rattle.grammar.specs.Prog.Act.{take, take_as, report, refuse}
use Rattle.grammar.specs.Root.{root, body}
use Rattle.grammar.specs.Read.{Call, Result, pad, refusal, handed, finish, no_final, no_nodes, bad_env, bad_records, bad_settings, find_size, start, reading, read_with, settings_fit, read}
use Rattle.laws.specs.Choice.{if_both}
use Rattle.laws.specs.Keeps.{Kept, eval_keeps, rule_keeps}
use Rattle.answers.specs.Entry.{served, with_scratch, most_scratch}

-- ---- findings

-- at most k findings are held, and that is how many fit
abbrev Fit : ℕ → World → Type 0
Fit k (refused n l) = Unit {0}
Fit k (on s) = (s.kept ≡ k) × (length s.finds ≤ k)

-- from one reading to another
record Fits (w w' : World) : Type 0 where
  fit : (k : ℕ) → Fit k w → Fit k w'

with_fit : (k : ℕ) (s : Now) (ts : List Token) (l : List Rec) → Fit k (on s) → Fit k (with_record s ts l)
unfolding with_record
with_fit k s ts l h = if_both (Fit k) (ltb s.used s.room) (λ _. h) (λ _. tt)

take_fit : (k : ℕ) (s : Now) (ts : List Token) → Fit k (on s) → Fit k (take_in s ts)
unfolding take_in
take_fit k s [] h = h
take_fit k s (t ∷ ts) h = with_fit k s ts _ h

change_fit : (k : ℕ) (c : Option Infix) (x : List ℕ) (w : World) → Fit k w → Fit k (change c x w)
unfolding change change_in
change_fit k c x (refused n l) h = h
change_fit k c x (on s) h = if_both (Fit k) (ltb s.changes max_changes && may_change c x s.env) (λ _. h) (λ _. tt)

take_change_fit : (k : ℕ) (c : Option Infix) (s : Now) (ts : List Token) → Fit k (on s) → Fit k (take_change_in c s ts)
unfolding take_change_in
take_change_fit k c s [] h = h
take_change_fit k c s (t ∷ ts) h = change_fit k c t.text (take_in s (t ∷ ts)) (take_fit k s (t ∷ ts) h)

-- every operation
fits : Kept Fits
unfolding mark end does take1 take_change world.report world.refuse give_back
fits = record { same = λ w. record { fit = λ k h. h }; next = next; marks = marks; acts = acts; ends = ends; backs = backs }
  where
    next : (a b c : World) → Fits a b → Fits b c → Fits a c
    next a b c p q = record { fit = λ k h. q.fit k (p.fit k h) }

    marks : (w : World) → Fits w (mark w)
    marks (refused n l) = record { fit = λ k h. h }
    marks (on s) = record { fit = λ k h. with_fit k s s.rest s.log h }

    acts : (a : Act) (w : World) → Fits w (does a w)
    acts take (refused n l) = record { fit = λ k h. h }
    acts take (on s) = record { fit = λ k h. take_fit k s s.rest h }
    acts (take_as c) (refused n l) = record { fit = λ k h. h }
    acts (take_as c) (on s) = record { fit = λ k h. take_change_fit k c s s.rest h }
    acts (report f d x) (refused n l) = record { fit = λ k h. h }
    acts (report f d x) (on s) =
        record {
          fit = λ k h. if_both (Fit k) (ltb (length s.finds) s.kept)
              (λ e. let few = ltb-true (length s.finds) s.kept e in (h.0, simp length-append (omega (arith, few, h.0))))
              (λ _. tt);
        }
    acts (refuse y) (refused n l) = record { fit = λ k h. h }
    acts (refuse y) (on s) = record { fit = λ k h. tt }

    ends : (n b : ℕ) (w : World) → Fits w (end n b w)
    ends n b (refused j l) = record { fit = λ k h. h }
    ends n b (on s) = record { fit = λ k h. with_fit k s s.rest _ h }

    backs : (a c : World) → Fits a c → Fits a (give_back a c)
    backs (refused n l) c h = h
    backs (on s) (refused n l) h = h
    backs (on s) (on s') h = record { fit = λ k g. h.fit k g }

reading_fit : (c : Call) (es : List Entry) → Fit (c.finds / find_size) (reading c es)
unfolding reading start
reading_fit c es =
    (eval_keeps Fits fits (rule body) (λ m d r. rule_keeps Fits fits body m d r) c.depth 0 root (on (start c es))).fit (c.finds / find_size) (refl, omega arith)

finds_length : (fs : List Find) → length (find_bytes fs) ≡ find_size * length fs
unfolding find_bytes
finds_length [] = refl
finds_length (f ∷ fs) = omega (arith, finds_length fs)

-- ---- results

-- The buffers of a result have the lengths that the call says.
pub record Sized (c : Call) (r : Result) : Type 0 where
  pub scratch : length r.scratch ≡ c.scratch
  pub nodes : length r.nodes ≡ c.nodes
  pub finds : length r.finds ≡ c.finds
  pub final : length r.final ≡ c.final

padded : (n : ℕ) (l : List ℕ) → length l ≤ n → length (pad n l) ≡ n
unfolding pad
padded n l h = simp (length-append, length-replicate) (omega arith)

refused_sized : (c : Call) (k : ℕ) → Sized c (refusal c k)
unfolding refusal
refused_sized c k =
    record { scratch = length-replicate c.scratch 0; nodes = length-replicate c.nodes 0; finds = length-replicate c.finds 0; final = length-replicate c.final 0 }

handed_sized : (c : Call) (ns fs es : List ℕ) → length ns ≤ c.nodes → length fs ≤ c.finds → length es ≤ c.final → Sized c (handed c ns fs es)
unfolding handed
handed_sized c ns fs es p q r =
    record { scratch = length-replicate c.scratch 0; nodes = padded c.nodes ns p; finds = padded c.finds fs q; final = padded c.final es r }

finished_sized : (c : Call) (w : World) → Fit (c.finds / find_size) w → Sized c (finish c w)
unfolding finish
finished_sized c (refused k l) h = refused_sized c k
finished_sized c (on s) h =
    let ns = nodes_bytes (nodes_of s.log) in
    let es = env_bytes s.env in
    let few : length (find_bytes s.finds) ≤ c.finds = omega (arith, finds_length s.finds, h.1) in
    if_both (Sized c) (leb (length ns) c.nodes)
    (λ e. if_both (Sized c) (leb (length es) c.final)
    (λ e'. handed_sized c ns (find_bytes s.finds) es (leb-true (length ns) c.nodes e) few (leb-true (length es) c.final e')) (λ _. refused_sized c no_final))
    (λ _. refused_sized c no_nodes)

begun_sized : (c : Call) (o : Option (List Entry)) → Sized c (read_with c o)
unfolding read_with
begun_sized c none = refused_sized c bad_env
begun_sized c (some es) = finished_sized c (reading c es) (reading_fit c es)

read_sized : (c : Call) → Sized c (read c)
unfolding read
read_sized c =
    if_both (Sized c)
    (settings_fit c)
    (λ _. if_both (Sized c) (records_fit (length c.text) c.toks (record_count c.toks)) (λ _. begun_sized c (env_of c.env)) (λ _. refused_sized c bad_records))
    (λ _. refused_sized c bad_settings)

-- of every call
pub served_sized : (c : Call) → Sized c (served c)
unfolding served
served_sized c =
    let w = read_sized (with_scratch c most_scratch) in
    if_both (Sized c) (leb c.scratch most_scratch) (λ _. read_sized c)
    (λ _. record { scratch = length-replicate c.scratch 0; nodes = w.nodes; finds = w.finds; final = w.final })
