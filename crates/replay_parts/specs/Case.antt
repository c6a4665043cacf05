-- A case as the code has it, cut from the front of a list's bytes, and what it says of a result.
use Rattle.std.specs.Prelude.{ℕ, ◌≡◌, List, Bool, true, ◌&&◌, eqb, length, take, drop}
use Rattle.grammar.specs.Bytes.{same}
use Rattle.grammar.specs.Read.{Call, Result}
use Rattle.sml_fixity.specs.Table.{part}
use Rattle.replay_parts.specs.Form.{fits_at, text_from, toks_from, env_from, env_end, finds_from, last_from, case_end, text_size, toks_size, env_size, nodes_used, finds_used, last_used, scratch_room, nodes_room, finds_room, last_room, depth_at, mode_at, answer_at}
use Rattle.replay_parts.specs.Agree.{is_zero}
use Rattle.replay_parts.specs.declared.Case.{Case}

-- The case holds what stands in front of these bytes.
pub record Cut (list : List ℕ) (c : Case) : Type 0 where
  pub text : c.text.now ≡ part list (text_from 0) (text_size list 0)
  pub toks : c.toks.now ≡ part list (toks_from list 0) (toks_size list 0)
  pub env : c.env.now ≡ part list (env_from list 0) (env_size list 0)
  pub depth : c.depth ≡ depth_at list 0
  pub mode : c.mode ≡ mode_at list 0
  pub scratch_room : c.scratch_room ≡ scratch_room list 0
  pub nodes_room : c.nodes_room ≡ nodes_room list 0
  pub finds_room : c.finds_room ≡ finds_room list 0
  pub last_room : c.last_room ≡ last_room list 0
  pub answer : c.answer ≡ answer_at list 0
  pub nodes : c.nodes.now ≡ part list (env_end list 0) (nodes_used list 0)
  pub finds : c.finds.now ≡ part list (finds_from list 0) (finds_used list 0)
  pub last : c.last.now ≡ part list (last_from list 0) (last_used list 0)
  pub nodes_used : length c.nodes.now ≡ nodes_used list 0
  pub finds_used : length c.finds.now ≡ finds_used list 0
  pub last_used : length c.last.now ≡ last_used list 0

-- A whole case stands there, and the rest is what stands behind it.
pub record Splits (list : List ℕ) (c : Case) (rest : List ℕ) : Type 0 where
  pub fits : fits_at list 0 ≡ true
  pub cut : Cut list c
  pub behind : rest ≡ drop (case_end list 0) list

-- the call of a case
abbrev pub call_in : Case → Call
call_in c = record {
  text = c.text.now;
  toks = c.toks.now;
  env = c.env.now;
  depth = c.depth;
  mode = c.mode;
  scratch = c.scratch_room;
  nodes = c.nodes_room;
  finds = c.finds_room;
  final = c.last_room;
}

-- A buffer has these bytes in front, and zeroes behind them.
abbrev pub padded : List ℕ → List ℕ → Bool
padded b said = same (take (length said) b) said && is_zero (drop (length said) b)

-- The answer and the used lengths are those of the case.
abbrev pub numbers_said : Case → (answer nodes finds last : ℕ) → Bool
numbers_said c answer nodes finds last =
    eqb answer c.answer && eqb nodes (length c.nodes.now) && eqb finds (length c.finds.now) && eqb last (length c.last.now)

-- The lent bytes are those of the case; scratch is zero.
abbrev pub bytes_said : Case → (scratch nodes finds last : List ℕ) → Bool
bytes_said c scratch nodes finds last = is_zero scratch && padded nodes c.nodes.now && padded finds c.finds.now && padded last c.last.now

-- A result is the one that the case says.
abbrev pub says : Case → Result → Bool
says c r = numbers_said c r.answer r.nodes_used r.finds_used r.final_used && bytes_said c r.scratch r.nodes r.finds r.final
