-- What is handed out, by the cases of `finish`: the nodes do not fit, the environment does not, or all does.
use Prim.Native.Nat.{ℕ, ◌*◌, ◌/◌, ◌≤◌, ◌<◌}
use native.Mathlib.Omega.{arith}
use mathlib.Core.Path.{◌≡◌, refl, ap, ◌∙◌, sym}
use mathlib.Core.List.{List, ◌++◌}
use mathlib.Core.Bool.{Bool, true, false}
use borrow.Author.Tests.{le-leb, lt-leb}
use lib.Dec.{leb}
use lib.ListN.{length, take, drop}
use Rattle.std.proofs.lemmas.List.{get_or-take, length-take-le, length-drop, take_at, drop_at}
use Rattle.std.specs.Prelude.{Ok, Err}
use Rattle.grammar.specs.World.{Now, Rec}
use Rattle.grammar.specs.World.World.{on}
use Rattle.grammar.specs.Env.{env_bytes}
use Rattle.grammar.specs.Nodes.{nodes_of, nodes_bytes, find_bytes}
use Rattle.grammar.specs.Read.{Call, Result, finish, refusal, handed, pad, zeroes, no_nodes, no_final}
use Rattle.env_bytes.specs.Out.{Fitted}
use Rattle.sml_fixity.specs.Table.{table_of}
use Rattle.parser.specs.View.{mem, now_of, table_in, chunks, find_of}
use Rattle.parser.specs.Refusals.{refusal_number}
use Rattle.parser.specs.declared.State.{State}
use Rattle.parser.specs.declared.refusal.Refusal.{Refusal}
use Rattle.node_count.specs.Log.{log_in, nodes_in, Counted}
use Rattle.nodes.specs.Grown.{Grown, Ready}
use Rattle.nodes.proofs.Records.{log_same}
use Rattle.answers.specs.Entry.{room_of, result_of, Held}
use Rattle.answers.proofs.Finds.{found_length}

-- everything cleared is a refusal
pub refused_all : (why : Refusal) (s n f l : List ℕ) {s' n' f' l' : List ℕ} → s' ≡ zeroes (length s) → n' ≡ zeroes (length n) → f' ≡ zeroes (length f) → l' ≡ zeroes (length l)
    → result_of (Err why) s' n' f' l' ≡ refusal (room_of s n f l) (refusal_number why)
unfolding refusal
refused_all why s n f l p q r t = rw (p, q, r, t) refl

-- bytes that were copied, with the buffer cleared behind them
pub held : (bytes last copied : List ℕ) {cleared : List ℕ} {n : ℕ} → Fitted bytes last copied n → cleared ≡ take n copied ++ zeroes (length (drop n copied)) → Held bytes last cleared n
unfolding pad
held bytes last copied {n = n} f e =
    let h : length bytes ≡ n = sym f.all in
    record {
      all = f.all;
      room = f.room;
      now = e ∙ rw (f.now, take_at bytes (drop n last) n h, drop_at bytes (drop n last) n h, length-drop n last, f.all) refl;
    }

-- the log alone, cut from its buffer
pub log_cut : (xs : List ℕ) (n : ℕ) → 8 * n ≤ length xs → log_in (take (8 * n) xs) (length (take (8 * n) xs) / 8) ≡ log_in xs n
log_cut xs n h =
    let l : length (take (8 * n) xs) / 8 ≡ n = omega (arith, length-take-le (8 * n) xs h) in
    rw l (log_same (take (8 * n) xs) xs n (λ i p. get_or-take (8 * n) xs i 0 p))

-- the two tests of `finish`
abbrev pub chosen : Call → Now → Bool → Bool → Result
chosen c s n e = elim n [
  | true ↦ elim e [ true ↦ handed c (nodes_bytes (nodes_of s.log)) (find_bytes s.finds) (env_bytes s.env) | false ↦ refusal c no_final ]
  | false ↦ refusal c no_nodes
]

module _ (c : Call) (s : Now) where
  pub tests : finish c (on s) ≡ chosen c s (leb (length (nodes_bytes (nodes_of s.log))) c.nodes) (leb (length (env_bytes s.env)) c.final)
  unfolding finish
  tests = refl

  pub no_nodes_lem : c.nodes < length (nodes_bytes (nodes_of s.log)) → finish c (on s) ≡ refusal c no_nodes
  no_nodes_lem h = tests ∙ ap (λ (t : Bool). chosen c s t (leb (length (env_bytes s.env)) c.final)) (lt-leb _ _ h)

  module _ (fits : length (nodes_bytes (nodes_of s.log)) ≤ c.nodes) where
    pub no_final_lem : c.final < length (env_bytes s.env) → finish c (on s) ≡ refusal c no_final
    no_final_lem h = tests ∙ ap (λ (t : Bool). chosen c s t (leb (length (env_bytes s.env)) c.final)) (le-leb _ _ fits) ∙ ap (λ (t : Bool). chosen c s true t) (lt-leb _ _ h)

    pub all_fit : length (env_bytes s.env) ≤ c.final → finish c (on s) ≡ handed c (nodes_bytes (nodes_of s.log)) (find_bytes s.finds) (env_bytes s.env)
    all_fit h = tests ∙ ap (λ (t : Bool). chosen c s t (leb (length (env_bytes s.env)) c.final)) (le-leb _ _ fits) ∙ ap (λ (t : Bool). chosen c s true t) (le-leb _ _ h)

-- a refusal depends on the lengths alone
pub refused_same : (k : ℕ) (s n f l l' : List ℕ) → length l' ≡ length l → refusal (room_of s n f l') k ≡ refusal (room_of s n f l) k
unfolding refusal
refused_same k s n f l l' e = rw e refl

module _ (text toks env table scratch nodes finds last : List ℕ) (s : State) where
  abbrev room : Call
  room = room_of scratch nodes finds last

  abbrev reading : Now
  reading = now_of (mem text toks env table scratch finds s)

  module _ (count : ℕ) (logged : 8 * s.len ≤ length scratch) (counted : Counted (take (8 * s.len) scratch) (length (take (8 * s.len) scratch) / 8) count) where
    bytes : length (nodes_in scratch s.len) ≡ 4 * count
    bytes = ap (λ (l : List Rec). length (nodes_bytes (nodes_of l))) (sym (log_cut scratch s.len logged)) ∙ counted.bytes

    -- what the writing of the nodes requires
    pub ready : Grown (log_in scratch s.len) → 4 * count ≤ length nodes → Ready (take (8 * s.len) scratch) nodes count
    ready g fits = record { grown = rw (log_cut scratch s.len logged) g; counted = counted.bytes; room = fits }

    pub over_nodes : length nodes < 4 * count → finish room (on reading) ≡ refusal room no_nodes
    unfolding now_of
    over_nodes h = no_nodes_lem room reading (omega (arith, bytes))

    module _ (fits : 4 * count ≤ length nodes) where
      pub over_final : length last < length (env_bytes (table_of text env table (table_in s))) → finish room (on reading) ≡ refusal room no_final
      unfolding now_of
      over_final h = no_final_lem room reading (omega (arith, bytes)) h

      pub all_handed : {s' n' f' l' : List ℕ} (used : ℕ) → Held (env_bytes (table_of text env table (table_in s))) last l' used → s' ≡ zeroes (length scratch)
          → n' ≡ pad (length nodes) (nodes_in (take (8 * s.len) scratch) (length (take (8 * s.len) scratch) / 8)) → f' ≡ pad (length finds) (find_bytes (chunks find_of finds s.found))
          → result_of (Ok (record { nodes = 4 * count; finds = 8 * s.found; last = used })) s' n' f' l' ≡ finish room (on reading)
      unfolding now_of handed
      all_handed used h p q r =
          rw (p, q, log_cut scratch s.len logged, r, h.now, h.all, ← bytes, ← found_length finds s.found) (sym (all_fit room reading (omega (arith, bytes)) h.room))
