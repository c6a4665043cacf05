-- A whole reading: what `root` leaves is the reading of the call, and what is handed out is its result.
use Prim.Native.Nat.{ℕ, ◌≤◌}
use mathlib.Core.Path.{◌≡◌, refl, ap, ◌∙◌, sym}
use mathlib.Core.List.{List, []}
use mathlib.Core.Bool.{Bool, true, false}
use native.Mathlib.Omega.{arith}
use borrow.Author.Tests.{eq-eqb, ne_eqb, eqb-true}
use lib.Dec.{leb, eqb}
use Rattle.sml_fixity.specs.Names.{by_test}
use Rattle.laws.specs.Refusals.{Refuses, eval_few}
use lib.ListN.{length}
use Rattle.grammar.specs.World.{World, Now, Out}
use Rattle.grammar.specs.World.World.{refused, on}
use Rattle.grammar.specs.Env.{env_bytes}
use Rattle.grammar.specs.Nodes.{nodes_of, nodes_bytes}
use Rattle.grammar.specs.Prog.{eval, rule}
use Rattle.grammar.specs.Root.{root, body}
use Rattle.grammar.specs.Read.{Call, start, reading, finish, refusal, handed}
use Rattle.sml_fixity.specs.Table.{entries_in}
use Rattle.parser.specs.View.{Mem, seen_in, now_of}
use Rattle.parser.specs.Runs.{Runs, shut}
use Rattle.parser.specs.Backs.{opened}
use Rattle.node_count.specs.Log.{log_in}
use Rattle.nodes.specs.Grown.{Grown, reading_grown}
use Rattle.answers.specs.Entry.{call_of, room_of}
use Rattle.answers.proofs.Hands.{chosen, tests}

module _ (text toks env : List ℕ) (depth mode : ℕ) (scratch nodes finds last : List ℕ) where
  abbrev call : Call
  call = call_of text toks env depth mode scratch nodes finds last

  -- what a result is made of: the room, whatever the buffers hold by then
  module _ (scratch' finds' : List ℕ) (p : length scratch' ≡ length scratch) (q : length finds' ≡ length finds) where
    abbrev room : Call
    room = room_of scratch' nodes finds' last

    room_refusal : (k : ℕ) → refusal room k ≡ refusal call k
    unfolding refusal
    room_refusal k = rw (p, q) refl

    room_chosen : (s : Now) (n e : Bool) → chosen room s n e ≡ chosen call s n e
    unfolding handed
    room_chosen s true true = rw (p, q) refl
    room_chosen s true false = room_refusal 9
    room_chosen s false e = room_refusal 6

    room_finish : (w : World) → finish room w ≡ finish call w
    unfolding finish
    room_finish (refused k l) = room_refusal k
    room_finish (on s) = tests room s ∙ room_chosen s (leb (length (nodes_bytes (nodes_of s.log))) (length nodes)) (leb (length (env_bytes s.env)) (length last)) ∙ sym (tests call s)

  module _ (m m' : Mem) (began : seen_in m ≡ on (start (call_of text toks env 0 mode scratch [] finds []) (entries_in env))) (r : Runs depth root m m' 0) where
    -- root does the reading
    was_read_lem : seen_in m' ≡ reading call (entries_in env)
    unfolding reading start
    was_read_lem = ap (λ (o : Out). o.world) (r.same 0) ∙ ap (λ (w : World). (eval (rule body) depth 0 root w).world) began

    was_read_few : Refuses (λ (k : ℕ). k ≤ 10) (seen_in m')
    unfolding reading start
    was_read_few = rw was_read_lem (eval_few body depth 0 root (start call (entries_in env)))

    goes_on_lem : m'.state.stop ≡ 0 → reading call (entries_in env) ≡ on (now_of m')
    goes_on_lem e = sym was_read_lem ∙ opened m' (eq-eqb m'.state.stop 0 e)

    -- document 01 has no answer over 10
    pub few : m'.state.stop ≤ 10
    unfolding seen_in
    few =
        by_test (eqb m'.state.stop 0)
        (λ t. let z = eqb-true m'.state.stop 0 t in omega arith)
        (λ f. let k = was_read_few in rw (f, seen_in) at k)

    -- how a caller meets what `hand_out` requires
    pub was_grown : m'.state.stop ≡ 0 → Grown (log_in m'.scratch m'.state.len)
    unfolding now_of
    was_grown e = reading_grown call (entries_in env) (now_of m') (goes_on_lem e)

    module _ (p : length m'.scratch ≡ length scratch) (q : length m'.finds ≡ length finds) where
      pub was_refused : (m'.state.stop ≡ 0 → ⊥) → refusal (room_of m'.scratch nodes m'.finds last) m'.state.stop ≡ finish call (reading call (entries_in env))
      unfolding finish
      was_refused z = room_refusal m'.scratch m'.finds p q m'.state.stop ∙ sym (ap (finish call) (sym was_read_lem ∙ shut m' (ne_eqb m'.state.stop 0 z)))

      pub was_handed : m'.state.stop ≡ 0 → finish (room_of m'.scratch nodes m'.finds last) (on (now_of m')) ≡ finish call (reading call (entries_in env))
      was_handed e = room_finish m'.scratch m'.finds p q (on (now_of m')) ∙ sym (ap (finish call) (goes_on_lem e))
