-- What the entry is lent and hands back, as document 01's call and result.
use Rattle.std.specs.Prelude.{ℕ, ◌≤◌, ◌<◌, ◌≡◌, List, [], Bool, true, false, leb, length, get_or, Ok, Err}
use Rattle.std.specs.Prelude as std
use Rattle.std.proofs.Common.{ap, le-leb}
use Rattle.std.proofs.Math.Option.{some}
use Rattle.std.proofs.lemmas.Bool.{lt-leb}
use Rattle.grammar.specs.Env.{env_of}
use Rattle.grammar.specs.Tokens.{lists_fit, records_fit, record_count}
use Rattle.grammar.specs.Read.{Call, Result, read, pad, zeroes}
use Rattle.env_bytes.specs.Form.{count_of}
use Rattle.env_bytes.specs.declared.out.TooLong.{TooLong}
use Rattle.parser.specs.Refusals.{refusal_number}
use Rattle.parser.specs.declared.refusal.Refusal.{Refusal}
use Rattle.answers.specs.declared.Used.{Used}

-- the call of these settings over what is lent, before it
abbrev pub call_of : (text toks env : List ℕ) (depth mode : ℕ) (scratch nodes finds last : List ℕ) → Call
call_of text toks env depth mode scratch nodes finds last = record {
  text = text;
  toks = toks;
  env = env;
  depth = depth;
  mode = mode;
  scratch = length scratch;
  nodes = length nodes;
  finds = length finds;
  final = length last;
}

-- a call that lends nothing to read, where only the room to write matters
abbrev pub room_of : (scratch nodes finds last : List ℕ) → Call
room_of scratch nodes finds last = call_of [] [] [] 0 0 scratch nodes finds last

-- what comes back: the used lengths, or why the call is refused
abbrev pub Answer : Type 0
Answer = std.Result Used Refusal

-- its number, and the used lengths, which are 0 where the call is refused
abbrev pub answer_number : Answer → ℕ
answer_number (Ok u) = 0
answer_number (Err why) = refusal_number why

abbrev pub used_of : Answer → Used
used_of (Ok u) = u
used_of (Err why) = record { nodes = 0; finds = 0; last = 0 }

-- the result: a number, the used lengths, and what was lent, after the call
abbrev pub result_in : ℕ → Used → (scratch nodes finds last : List ℕ) → Result
result_in k u scratch nodes finds last = record {
  answer = k;
  nodes_used = u.nodes;
  finds_used = u.finds;
  final_used = u.last;
  scratch = scratch;
  nodes = nodes;
  finds = finds;
  final = last;
}

-- the same of what comes back
abbrev pub result_of : Answer → (scratch nodes finds last : List ℕ) → Result
result_of a scratch nodes finds last = result_in (answer_number a) (used_of a) scratch nodes finds last

-- the same where the number comes back by itself, and the three lengths in a list
abbrev pub result_from : ℕ → (used scratch nodes finds last : List ℕ) → Result
result_from k used scratch nodes finds last = record {
  answer = k;
  nodes_used = get_or used 0 0;
  finds_used = get_or used 1 0;
  final_used = get_or used 2 0;
  scratch = scratch;
  nodes = nodes;
  finds = finds;
  final = last;
}

-- The bytes of the scratch records whose number fits four bytes. No reading of 13,107 tokens comes near them.
abbrev pub most_scratch : ℕ
most_scratch = 2147483640

-- the same call with less scratch
abbrev pub with_scratch : Call → ℕ → Call
with_scratch c n = record {
  text = c.text;
  toks = c.toks;
  env = c.env;
  depth = c.depth;
  mode = c.mode;
  scratch = n;
  nodes = c.nodes;
  finds = c.finds;
  final = c.final;
}

-- the same result with another scratch buffer
abbrev pub cleared_to : Result → ℕ → Result
cleared_to r n = record {
  answer = r.answer;
  nodes_used = r.nodes_used;
  finds_used = r.finds_used;
  final_used = r.final_used;
  scratch = zeroes n;
  nodes = r.nodes;
  finds = r.finds;
  final = r.final;
}

-- The call as it is served: of a longer scratch buffer the rest is only cleared.
abbrev served_by : Call → Bool → Result
served_by c t = elim t [ true ↦ read c | false ↦ cleared_to (read (with_scratch c most_scratch)) c.scratch ]

unfoldable pub served : Call → Result
served c = served_by c (leb c.scratch most_scratch)

-- A call with at most so much scratch is document 01's.
pub served_short : (c : Call) → c.scratch ≤ most_scratch → served c ≡ read c
unfolding served
served_short c h = ap (served_by c) (le-leb c.scratch most_scratch h)

pub served_long : (c : Call) → most_scratch < c.scratch → served c ≡ cleared_to (read (with_scratch c most_scratch)) c.scratch
unfolding served
served_long c h = ap (served_by c) (lt-leb c.scratch most_scratch h)

-- What the tests of the answers 1 to 3 leave: the lists fit, each record does, and the environment has so many entries.
pub record Tested (text toks env : List ℕ) (entries : ℕ) : Type 0 where
  pub lists : lists_fit text toks ≡ true
  pub records : records_fit (length text) toks (record_count toks) ≡ true
  pub form : count_of (env_of env) ≡ some entries

-- The final environment, or that it does not fit.
pub record Held (bytes last last' : List ℕ) (n : ℕ) : Type 0 where
  pub all : n ≡ length bytes
  pub room : length bytes ≤ length last
  pub now : last' ≡ pad (length last) bytes

abbrev pub Holds : List ℕ → List ℕ → List ℕ → std.Result ℕ TooLong → Type 0
Holds bytes last last' (Ok n) = Held bytes last last' n
Holds bytes last last' (Err e) = length last < length bytes
