-- Laws of the walk: what tells its next step, and that each of its three steps keeps the bytes that it ends in.
use Prim.Native.Nat.{ℕ, suc, ◌+◌, ◌-◌, ◌*◌, ◌≤◌, ◌<◌}
use native.Mathlib.Omega.{arith}
use mathlib.Core.Path.{◌≡◌, refl, ap, sym, ◌∙◌}
use mathlib.Core.List.{List, [], ◌∷◌, ◌++◌, append_assoc, append-nil}
use mathlib.Core.Bool.{Bool, true, false, ◌&&◌}
use borrow.Author.Tests.{eq-eqb, lt-ltb, ltb-true, eqb-true}
use lib.Dec.{eqb, ltb}
use lib.ListN.{length, get_or, drop, length-append}
use Rattle.grammar.specs.World.{Rec}
use Rattle.grammar.specs.World.Rec.{took, ended}
use Rattle.grammar.specs.Nodes.{Node, nodes_bytes, node_record}
use Rattle.grammar.specs.Nodes.Node.{opens, token, closes}
use Rattle.laws.specs.Trees.{Forest, posts}
use Rattle.laws.specs.Trees.Forest.{none, leaf, node}
use Rattle.laws.specs.Flat.{flat}
use Rattle.parser.specs.View.{chunks, chunk_size, chunk_at, rec_of, took_tag}
use Rattle.parser.specs.Runs.{length_chunks}
use Rattle.node_count.specs.Log.{node_size, kind_at, number_at, log_in}
use Rattle.nodes.specs.Walk.{Way, before, ahead, Stack, Stands, Walks, starts_at, put_node}
use Rattle.nodes.specs.Walk.Way.{outside, inside}
use Rattle.node_count.specs.Counts.{rec_took, rec_ended}
use Rattle.nodes.proofs.Records.{log_same, cut_last, Copied, copied_kind, copied_number, put_room, written}

-- ---- whether the innermost node starts here

module _ (scratch : List ℕ) (len top i : ℕ) where
  pub starts_yes : starts_at scratch len top i ≡ true → (top < len) × (number_at scratch top ≡ i)
  starts_yes = go (ltb top len) (eqb (number_at scratch top) i) refl refl
    where
      go : (a b : Bool) → ltb top len ≡ a → eqb (number_at scratch top) i ≡ b → a && b ≡ true → (top < len) × (number_at scratch top ≡ i)
      go true true e f h = (ltb-true top len e, eqb-true (number_at scratch top) i f)
      go true false e f h = absurd (let z : ◌≡◌ {A = Bool} true false = sym h in let y : ◌≡◌ {A = ℕ} 0 1 = cc in omega arith)
      go false b e f h = absurd (let z : ◌≡◌ {A = Bool} true false = sym h in let y : ◌≡◌ {A = ℕ} 0 1 = cc in omega arith)

  pub starts_no : starts_at scratch len top i ≡ false → top < len → number_at scratch top ≡ i → ⊥
  starts_no h l e =
      let t : starts_at scratch len top i ≡ true = rw (lt-ltb top len l, eq-eqb (number_at scratch top) i e) in
      let y : ◌≡◌ {A = ℕ} 0 1 = cc in
      omega arith

-- ---- the log's last record, and the stack

last_record : (scratch : List ℕ) (left : ℕ) (a : List Rec) (x : Rec) → 0 < left → log_in scratch left ≡ a ++ (x ∷ [])
    → (log_in scratch (left - 1) ≡ a) × (chunk_at rec_of scratch (left - 1) ≡ x)
unfolding chunks
last_record scratch left a x h e =
    let n : left ≡ suc (left - 1) = omega arith in
    cut_last (log_in scratch (left - 1)) a (chunk_at rec_of scratch (left - 1)) x (ap (log_in scratch) (sym n) ∙ e)

stack_same : (xs ys : List ℕ) (len top : ℕ) (w : Way) → ((i : ℕ) → chunk_size * top ≤ i → get_or ys i 0 ≡ get_or xs i 0) → Stack xs len top w → Stack ys len top w
stack_same xs ys len top outside h s = s
stack_same xs ys len top (inside w f k) h s = (
  s.0,
  h (chunk_size * top + 1) (omega arith) ∙ s.1,
  cc (s.2, h (chunk_size * top + 2) (omega arith), h (chunk_size * top + 3) (omega arith), h (chunk_size * top + 4) (omega arith), h (chunk_size * top + 5) (omega arith)),
  stack_same xs ys len (top + 1) w (λ i p. h i (omega arith)) s.3,
)

-- ---- the steps

module _ {all scratch nodes : List ℕ} {len left top : ℕ} (at : ℕ) where
  left_is : (w : Way) (f : Forest) → Stands all scratch len nodes (at + 1) left top w f → left ≡ length (before w) + length (posts (length (before w)) f)
  left_is w f p = sym (length_chunks rec_of scratch left) ∙ ap length p.log ∙ length-append (before w) _

  -- the innermost node opens
  pub opens_step : (w : Way) (f : Forest) → Stands all scratch len nodes (at + 1) left top w f → top < len → number_at scratch top ≡ left
      → Walks all scratch len (put_node nodes at (node_record (opens (kind_at scratch top)) [])) at left (top + 1)
  unfolding before ahead posts flat
  opens_step outside f p h e = absurd (omega (arith, p.stack))
  opens_step (inside w g k) none p h e =
      let q : (ahead w ++ flat g) ++ (opens k ∷ []) ++ [] ≡ (ahead w ++ flat g) ++ (opens k ∷ []) = append-nil _ in
      let n : length ((ahead w ++ flat g) ++ (opens k ∷ [])) ≡ at + 1 = sym (ap length q) ∙ p.count in
      record {
        way = w;
        here = g;
        stands = record {
          log = p.log ∙ append-nil _;
          stack = p.stack.3;
          apart = omega (arith, p.apart);
          inner = omega arith;
          fits = p.fits;
          count = omega (arith, length-append (ahead w ++ flat g) (opens k ∷ []));
          room = put_room (opens (kind_at scratch top)) nodes at p.room;
          ends = written (ahead w ++ flat g) (opens k) _ nodes all at (ap opens p.stack.1) n p.room (ap (λ (l : List Node). nodes_bytes l ++ drop (node_size * (at + 1)) nodes) (sym q) ∙ p.ends);
        };
      }
  opens_step (inside w g k) (leaf f x i) p h e =
      absurd (omega (arith, left_is _ _ p, p.stack.2, length-append (posts (length (before (inside w g k))) f) (took x i ∷ [])))
  opens_step (inside w g k) (node f x c) p h e = let b = length (before (inside w g k)) in let m = b + length (posts b f) in
      absurd (omega (arith, left_is _ _ p, p.stack.2, length-append (posts b f) (posts m c ++ (ended x m ∷ [])), length-append (posts m c) (ended x m ∷ [])))

  -- Where none opens, the log has a record to be read.
  module _ (no : top < len → number_at scratch top ≡ left → ⊥) where
    none_here : (w : Way) → Stands all scratch len nodes (at + 1) left top w none → ⊥
    unfolding before ahead posts flat
    none_here outside p = omega (arith, p.count)
    none_here (inside w g k) p = no p.stack.0 (omega (arith, left_is _ _ p, p.stack.2))

    pub more_left : (w : Way) (f : Forest) → Stands all scratch len nodes (at + 1) left top w f → 0 < left
    unfolding posts
    more_left w none p = absurd (none_here w p)
    more_left w (leaf f x i) p = omega (arith, left_is _ _ p, length-append (posts (length (before w)) f) (took x i ∷ []))
    more_left w (node f x c) p = let b = length (before w) in let m = b + length (posts b f) in
        omega (arith, left_is _ _ p, length-append (posts b f) (posts m c ++ (ended x m ∷ [])), length-append (posts m c) (ended x m ∷ []))

    -- a token
    pub token_step : (w : Way) (f : Forest) → Stands all scratch len nodes (at + 1) left top w f → get_or scratch (chunk_size * (left - 1)) 0 ≡ took_tag
        → Walks all scratch len (put_node nodes at (node_record (token (kind_at scratch (left - 1)) (number_at scratch (left - 1))) [])) at (left - 1) top
    unfolding posts flat
    token_step w none p e = absurd (none_here w p)
    token_step w (leaf f k x) p e =
        let b = length (before w) in
        let i = left - 1 in
        let r = last_record scratch left (before w ++ posts b f) (took k x) (more_left w (leaf f k x) p) (p.log ∙ sym (append_assoc (before w) (posts b f) _)) in
        let t : token (kind_at scratch i) (number_at scratch i) ≡ token k x = cc (rec_took scratch i e) in
        let q : (ahead w ++ flat f) ++ (token k x ∷ []) ≡ ahead w ++ flat (leaf f k x) = append_assoc (ahead w) (flat f) _ in
        let n : length ((ahead w ++ flat f) ++ (token k x ∷ [])) ≡ at + 1 = ap length q ∙ p.count in
        record {
          way = w;
          here = f;
          stands = record {
            log = r.0;
            stack = p.stack;
            apart = omega (arith, p.apart);
            inner = p.inner;
            fits = p.fits;
            count = omega (arith, length-append (ahead w ++ flat f) (token k x ∷ []));
            room = put_room (token (kind_at scratch (left - 1)) (number_at scratch (left - 1))) nodes at p.room;
            ends = written (ahead w ++ flat f) (token k x) _ nodes all at t n p.room (ap (λ (l : List Node). nodes_bytes l ++ drop (node_size * (at + 1)) nodes) q ∙ p.ends);
          };
        }
    token_step w (node f k c) p e = absurd
        (let b = length (before w) in
        let m = b + length (posts b f) in
        let r = last_record scratch left (before w ++ (posts b f ++ posts m c)) (ended k m) (more_left w (node f k c) p) (p.log ∙ simp append_assoc) in
        let z : ◌≡◌ {A = ℕ} 0 1 = cc (rec_took scratch (left - 1) e) in
        omega arith)

    -- a node closes, and goes on the stack
    pub closes_step : (w : Way) (f : Forest) → Stands all scratch len nodes (at + 1) left top w f → (get_or scratch (chunk_size * (left - 1)) 0 ≡ took_tag → ⊥)
        → (scratch' : List ℕ) → Copied scratch (left - 1) (top - 1) scratch' → Walks all scratch' len (put_node nodes at (node_record (closes (kind_at scratch (left - 1))) [])) at (left - 1) (top - 1)
    unfolding before ahead posts flat
    closes_step w none p e scratch' k = absurd (none_here w p)
    closes_step w (leaf f k x) p e scratch' u = absurd
        (let b = length (before w) in
        let r = last_record scratch left (before w ++ posts b f) (took k x) (more_left w (leaf f k x) p) (p.log ∙ sym (append_assoc (before w) (posts b f) _)) in
        let z : ◌≡◌ {A = ℕ} 0 1 = cc (rec_ended scratch (left - 1) e) in
        omega arith)
    closes_step w (node f k c) p e scratch' u =
        let b = length (before w) in
        let m = b + length (posts b f) in
        let i = left - 1 in
        let j = top - 1 in
        let l : 0 < left = more_left w (node f k c) p in
        let r = last_record scratch left (before w ++ (posts b f ++ posts m c)) (ended k m) l (p.log ∙ simp append_assoc) in
        let t : ended (kind_at scratch i) (number_at scratch i) ≡ ended k m = sym (rec_ended scratch i e) ∙ r.1 in
        let rest = ((ahead w ++ flat f) ++ (opens k ∷ [])) ++ flat c in
        let q : rest ++ (closes k ∷ []) ≡ ahead w ++ flat (node f k c) = simp append_assoc in
        let n : length (rest ++ (closes k ∷ [])) ≡ at + 1 = ap length q ∙ p.count in
        let s : length (before w ++ posts b f) ≡ m = length-append (before w) (posts b f) in
        let up : j + 1 ≡ top = omega (arith, p.apart) in
        record {
          way = inside w f k;
          here = c;
          stands = record {
            log = log_same scratch' scratch i (λ x h. u.below x 0 (omega (arith, p.apart))) ∙ r.0 ∙ rw s (sym (append_assoc (before w) (posts b f) (posts m c)));
            stack = (
              omega (arith, p.apart, p.inner),
              copied_kind u ∙ cc,
              copied_number u ∙ cc,
              stack_same scratch scratch' len (j + 1) w (λ n h. u.above n 0 (omega arith)) (rw up p.stack),
            );
            apart = omega (arith, p.apart);
            inner = omega (arith, p.inner);
            fits = rw u.long p.fits;
            count = omega (arith, length-append rest (closes k ∷ []));
            room = put_room (closes (kind_at scratch (left - 1))) nodes at p.room;
            ends = written rest (closes k) (closes (kind_at scratch i)) nodes all at (cc) n p.room (ap (λ (l : List Node). nodes_bytes l ++ drop (node_size * (at + 1)) nodes) q ∙ p.ends);
          };
        }
