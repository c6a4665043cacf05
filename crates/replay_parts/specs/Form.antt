-- The form of a list of answers: two bytes with the number of cases, and the cases. A case is a head of 37 bytes, then the text, the records and the
-- starting environment that are lent, then the nodes, the findings and the final environment that must be handed out.
use Rattle.std.specs.Prelude.{ℕ, zero, suc, ◌+◌, ◌*◌, ◌≤◌, List, ◌≡◌, Bool, ◌&&◌, leb, eqb, length, get_or}
use Rattle.grammar.specs.Bytes.{pair_at}

-- the most bytes of a list
abbrev pub max_list : ℕ
max_list = 131072

-- where the first case stands
abbrev pub first_case : ℕ
first_case = 2

-- the bytes of a case's head
abbrev pub head_size : ℕ
head_size = 37

-- the number of cases
abbrev pub case_count : List ℕ → ℕ
case_count list = pair_at list 0

-- the number in eight bytes, the lowest first
abbrev pub long_at : List ℕ → ℕ → ℕ
long_at list i = pair_at list i + 65536 * (pair_at list (i + 2) + 65536 * (pair_at list (i + 4) + 65536 * pair_at list (i + 6)))

-- the length of the text that is lent
abbrev pub text_size : List ℕ → ℕ → ℕ
text_size list at = pair_at list at

-- the length of the token records
abbrev pub toks_size : List ℕ → ℕ → ℕ
toks_size list at = pair_at list (at + 2)

-- the length of the starting environment
abbrev pub env_size : List ℕ → ℕ → ℕ
env_size list at = pair_at list (at + 4)

-- the used length of the nodes that must be answered
abbrev pub nodes_used : List ℕ → ℕ → ℕ
nodes_used list at = pair_at list (at + 6)

-- that of the findings
abbrev pub finds_used : List ℕ → ℕ → ℕ
finds_used list at = pair_at list (at + 8)

-- that of the final environment
abbrev pub last_used : List ℕ → ℕ → ℕ
last_used list at = pair_at list (at + 10)

-- the length of the scratch that is lent
abbrev pub scratch_room : List ℕ → ℕ → ℕ
scratch_room list at = pair_at list (at + 12)

-- the length of the room for nodes
abbrev pub nodes_room : List ℕ → ℕ → ℕ
nodes_room list at = pair_at list (at + 14)

-- the length of the room for findings
abbrev pub finds_room : List ℕ → ℕ → ℕ
finds_room list at = pair_at list (at + 16)

-- the length of the room for the final environment
abbrev pub last_room : List ℕ → ℕ → ℕ
last_room list at = pair_at list (at + 18)

-- the depth that is set
abbrev pub depth_at : List ℕ → ℕ → ℕ
depth_at list at = long_at list (at + 20)

-- the mode that is set
abbrev pub mode_at : List ℕ → ℕ → ℕ
mode_at list at = long_at list (at + 28)

-- the number that must be answered
abbrev pub answer_at : List ℕ → ℕ → ℕ
answer_at list at = get_or list (at + 36) 0

-- where the text starts, behind the head
abbrev pub text_from : ℕ → ℕ
text_from at = at + head_size

-- where the records start
abbrev pub toks_from : List ℕ → ℕ → ℕ
toks_from list at = text_from at + text_size list at

-- where the starting environment starts
abbrev pub env_from : List ℕ → ℕ → ℕ
env_from list at = toks_from list at + toks_size list at

-- where it ends, and the nodes start
abbrev pub env_end : List ℕ → ℕ → ℕ
env_end list at = env_from list at + env_size list at

-- where the findings start
abbrev pub finds_from : List ℕ → ℕ → ℕ
finds_from list at = env_end list at + nodes_used list at

-- where the final environment starts
abbrev pub last_from : List ℕ → ℕ → ℕ
last_from list at = finds_from list at + finds_used list at

-- where the case ends
abbrev pub case_end : List ℕ → ℕ → ℕ
case_end list at = last_from list at + last_used list at

-- What must be handed out has the room that is lent.
unfoldable pub rooms_hold : List ℕ → ℕ → Bool
rooms_hold list at =
    leb (nodes_used list at) (nodes_room list at) && leb (finds_used list at) (finds_room list at) && leb (last_used list at) (last_room list at)

-- A case stands there, whole.
unfoldable pub fits_at : List ℕ → ℕ → Bool
fits_at list at = leb (at + head_size) (length list) && leb (case_end list at) (length list) && rooms_hold list at

-- So many cases stand there, and nothing behind them.
unfoldable pub ends_at : ℕ → List ℕ → ℕ → Bool
ends_at zero list at = eqb at (length list)
ends_at (suc n) list at = fits_at list at && ends_at n list (case_end list at)

-- The bytes are a list.
unfoldable pub is_list : List ℕ → Bool
is_list list = leb (length list) max_list && leb first_case (length list) && ends_at (case_count list) list first_case

-- What the test of the form leaves of one case.
pub record Stands (list : List ℕ) (at : ℕ) : Type 0 where
  pub small : length list ≤ max_list
  pub head : at + head_size ≤ length list
  pub whole : case_end list at ≤ length list
  pub nodes : nodes_used list at ≤ nodes_room list at
  pub finds : finds_used list at ≤ finds_room list at
  pub last : last_used list at ≤ last_room list at

-- Buffers of the lengths that a case says.
pub record Lent (list : List ℕ) (at : ℕ) (ss ns fs ls : List ℕ) : Type 0 where
  pub scratch : length ss ≡ scratch_room list at
  pub nodes : length ns ≡ nodes_room list at
  pub finds : length fs ≡ finds_room list at
  pub last : length ls ≡ last_room list at
