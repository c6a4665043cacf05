-- What a call came to, held to what a case says, and how many cases of a list differ.
use Rattle.std.specs.Prelude.{ℕ, zero, suc, ◌+◌, List, Bool, true, false, ◌&&◌, ◌==◌, eqb, take, drop}
use Rattle.std.specs.List.{list_all}
use Rattle.grammar.specs.Bytes.{same}
use Rattle.grammar.specs.Read.{Call, Result}
use Rattle.sml_fixity.specs.Table.{part}
use Rattle.answers.specs.Entry.{served}
use Rattle.replay_parts.specs.Form.{text_from, toks_from, env_from, env_end, finds_from, last_from, case_end, text_size, toks_size, env_size, nodes_used, finds_used, last_used, scratch_room, nodes_room, finds_room, last_room, depth_at, mode_at, answer_at}

-- every byte is 0
abbrev pub is_zero : List ℕ → Bool
is_zero b = list_all (λ x. x == 0) b

-- A buffer has so many bytes of the list from there on, and zeroes behind them.
unfoldable pub holds : List ℕ → ℕ → List ℕ → ℕ → Bool
holds b used list from = same (take used b) (part list from used) && is_zero (drop used b)

-- The answer and the used lengths are those of the case.
unfoldable pub numbers_agree : (answer nodes finds last : ℕ) → List ℕ → ℕ → Bool
numbers_agree answer nodes finds last list at =
    eqb answer (answer_at list at) && eqb nodes (nodes_used list at) && eqb finds (finds_used list at) && eqb last (last_used list at)

-- The lent bytes are those of the case; scratch is zero.
unfoldable pub bytes_agree : (scratch nodes finds last : List ℕ) → List ℕ → ℕ → Bool
bytes_agree scratch nodes finds last list at =
    is_zero scratch
    && holds nodes (nodes_used list at) list (env_end list at)
    && holds finds (finds_used list at) list (finds_from list at)
    && holds last (last_used list at) list (last_from list at)

-- A result is the one that the case says.
unfoldable pub agrees : Result → List ℕ → ℕ → Bool
agrees r list at =
    numbers_agree r.answer r.nodes_used r.finds_used r.final_used list at && bytes_agree r.scratch r.nodes r.finds r.final list at

-- the call that a case says
abbrev pub call_at : List ℕ → ℕ → Call
call_at list at = record {
  text = part list (text_from at) (text_size list at);
  toks = part list (toks_from list at) (toks_size list at);
  env = part list (env_from list at) (env_size list at);
  depth = depth_at list at;
  mode = mode_at list at;
  scratch = scratch_room list at;
  nodes = nodes_room list at;
  finds = finds_room list at;
  final = last_room list at;
}

-- The parser's answer to a case is the one that the case says.
unfoldable pub agrees_at : List ℕ → ℕ → Bool
agrees_at list at = agrees (served (call_at list at)) list at

-- 1 where it is another
abbrev pub miss : Bool → ℕ
miss true = 0
miss false = 1

-- How many of so many cases from there on are answered otherwise than the list says.
unfoldable pub differing : ℕ → List ℕ → ℕ → ℕ
differing zero list at = 0
differing (suc n) list at = miss (agrees_at list at) + differing n list (case_end list at)
