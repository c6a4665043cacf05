-- What `read` hands out for a line: the nodes of the climb's tree, and its ties.
use Rattle.std.specs.Prelude.{ℕ, ◌≡◌, refl, List, [], ◌∷◌, map, Bool, true, false, leb, length}
use Rattle.std.proofs.Common.{ap, ◌∙◌, sym, arith}
use Rattle.std.proofs.Math.Option.{some}
use Rattle.grammar.specs.Tokens.{Token, records_fit, record_count}
use Rattle.grammar.specs.Env.{Entry, env_of, env_bytes}
use Rattle.grammar.specs.World.{World, Now}
use Rattle.grammar.specs.World.World.{refused, on}
use Rattle.grammar.specs.Root.{root, body}
use Rattle.grammar.specs.Nodes.{nodes_of, nodes_bytes, find_bytes}
use Rattle.grammar.specs.Read.{Call, Result, was_read, settings_fit, start, reading, refusal, handed, finish, read_with, read}
use Rattle.grammar.specs.SyntaxKind as SK
use Rattle.laws.specs.Choice.{if_both}
use Rattle.laws.specs.Trees.{Forest, posts}
use Rattle.laws.specs.Flat.{flat}
use Rattle.laws.proofs.Flat.{nodes_posts}
use Rattle.laws.specs.Refusals.{Known, eval_known}
use Rattle.lawful.specs.Terms.{Line, Tree}
use Rattle.lawful.specs.Terms.Min.{min}
use Rattle.lawful.specs.Climb.{Loop, true_false}
use Rattle.lawful.specs.Apply.{Operand, term}
use Rattle.grouping.specs.Grouping.{Atom, Term, tokens, Lawful, file_of, tie_at, tokens_in, Tied, hands_out}
use Rattle.grouping.specs.Runs.{Left}
use Rattle.grouping.specs.Climbs.{Atoms, Stand, bare, tree, Told, some?}
use Rattle.grouping.specs.Files.{line_tokens, One}
use Rattle.grouping.proofs.Files.{reads_line, one_line, root_file}
use Rattle.grouping.specs.Readings.{Handed}

-- The reading went on to the end, and r is what is handed out of it.
record Went (c : Call) (E : List Entry) (r : Result) : Type 0 where
  now : Now
  went : reading c E ≡ on now
  gives : r ≡ handed c (nodes_bytes (nodes_of now.log)) (find_bytes now.finds) (env_bytes now.env)

-- a refused call is not read
not_read : {X : Type 0} (c : Call) (k : ℕ) → (k ≡ 0 → ⊥) → (refusal c k).answer ≡ was_read → X
unfolding refusal
not_read c k h e = absurd (h e)

-- what is handed out where the reading went on
finish_went : (c : Call) (E : List Entry) (w : World) → reading c E ≡ w → Known w → (finish c w).answer ≡ was_read → Went c E (finish c w)
unfolding finish
finish_went c E (refused k l) e h = not_read c k h
finish_went c E (on s) e h =
    if_both (λ (r : Result). r.answer ≡ was_read → Went c E r) (leb (length (nodes_bytes (nodes_of s.log))) c.nodes)
    (λ _. if_both (λ (r : Result). r.answer ≡ was_read → Went c E r) (leb (length (env_bytes s.env)) c.final)
    (λ _ _. record { now = s; went = e; gives = refl }) (λ _. not_read c _ (λ z. omega arith)))
    (λ _. not_read c _ (λ z. omega arith))

-- a call that is read went to the end
read_went : (c : Call) (E : List Entry) → env_of c.env ≡ some E → (read c).answer ≡ was_read → Went c E (read c)
unfolding read read_with reading
read_went c E e =
    if_both (λ (r : Result). r.answer ≡ was_read → Went c E r) (settings_fit c)
    (λ _. if_both (λ (r : Result). r.answer ≡ was_read → Went c E r) (records_fit (length c.text) c.toks (record_count c.toks))
    (λ _. rw e (finish_went c E (reading c E) refl (eval_known body c.depth 0 root (start c E))))
    (λ _. not_read c _ (λ z. omega arith)))
    (λ _. not_read c _ (λ z. omega arith))

-- The call hands out the file of a declaration whose rule makes that node,
pub file_read : (c : Call) (E : List Entry) → env_of c.env ≡ some E → (read c).answer ≡ was_read
    → (t : Token) (ts : List Token) → tokens_in c ≡ t ∷ ts → (k : ℕ) (f : Forest) (b : Bool) → One E (record_count c.toks) (t ∷ ts) k f b → Handed c E k f b
unfolding reading start posts
file_read c E e h t ts q k f b o =
    let r = read_went c E e h in
    let g = root_file E (record_count c.toks) t ts k f b o c.depth [] (λ _ _ x ps. (x ≡ file_of k f) × Told b [] ps) (λ ps k. (refl, k)) in
    go r (rw r.went at (g.run [] (start c E) (record { env = refl; count = refl; rest = q; log = refl; finds = refl })))
  where
    go : (r : Went c E (read c)) → Left E (record_count c.toks) [] (λ _ x ps. (x ≡ file_of k f) × Told b [] ps) r.now → Handed c E k f b
    go r z =
        let s = z.stands in
        let k = z.holds.1 in
        record { ps = z.ties; tells = ap some? k.all ∙ k.tells; result = r.gives ∙ rw (s.log, s.finds, s.env, nodes_posts z.forest, z.holds.0) }

-- and of a line, as the climb says
pub line_read : (c : Call) (E : List Entry) → env_of c.env ≡ some E → (read c).answer ≡ was_read
    → (l : Line (Operand Token)) → Atom E l.first.fun → Atoms E l.first.args → Stand E l.rest → tokens_in c ≡ line_tokens l
    → (t : Tree (Operand Token)) (b : Bool) → Loop min (Tree.leaf l.first) l.rest t b [] → Handed c E SK.ExpDec (tree (term t)) b
line_read c E e h l a w v q t b k =
    let C = record_count c.toks in
    file_read c E e h _ _ q SK.ExpDec (tree (term t)) b (one_line E C _ a (bare (term t)) b (reads_line E C l a w v t b k))

-- where it tells ties, they are the findings
pub handed_tied : (c : Call) (E : List Entry) (k : ℕ) (f : Forest) (b : Bool) (ts : List Token) → Handed c E k f b → b ≡ true
    → ((t : Term) → Lawful E t → tokens t ≡ ts → ⊥) → Tied c E ts
unfolding handed
handed_tied c E k f b ts h e n = go h.ps (h.tells ∙ e) h.result
  where
    go : (ps : List ℕ) → some? ps ≡ true → read c ≡ handed c (nodes_bytes (flat (file_of k f))) (find_bytes (map tie_at ps)) (env_bytes E) → Tied c E ts
    go [] t r = absurd (true_false (sym t))
    go (p ∷ ps) t r = record { none = n; place = p; places = ps; finds = ap (λ (r : Result). r.finds) r; used = ap (λ (r : Result). r.finds_used) r }

-- where it tells none, there is no finding
pub handed_quiet : (c : Call) (E : List Entry) (k : ℕ) (f : Forest) (b : Bool) → Handed c E k f b → b ≡ false → read c ≡ hands_out c E (file_of k f)
unfolding find_bytes
handed_quiet c E k f b h e = go h.ps (h.tells ∙ e) h.result
  where
    go : (ps : List ℕ) → some? ps ≡ false → read c ≡ handed c (nodes_bytes (flat (file_of k f))) (find_bytes (map tie_at ps)) (env_bytes E) → read c ≡ hands_out c E (file_of k f)
    go [] t r = r
    go (p ∷ ps) t r = absurd (true_false t)
