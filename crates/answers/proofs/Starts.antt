-- The state that a reading starts with: what the tests of the answers 1 to 3 give.
use Prim.Native.Nat.{ℕ, ◌-◌, ◌*◌, ◌/◌, ◌%◌, ◌≤◌}
use native.Mathlib.Omega.{arith}
use mathlib.Core.Path.{◌≡◌, refl, ap, ◌∙◌}
use mathlib.Core.List.{List, []}
use mathlib.Core.Option.{Option, none, some, get_or}
use mathlib.Core.Bool.{true, ◌&&◌, and-eq-true_iff}
use borrow.Author.Tests.{leb-true, eqb-true}
use lib.Dec.{leb, eqb}
use lib.ListN.{length}
use Rattle.std.specs.Prelude.{None}
use Rattle.grammar.specs.Env.{Entry, env_of}
use Rattle.grammar.specs.Tokens.{live, lists_fit, record_count}
use Rattle.grammar.specs.World.World.{on}
use Rattle.grammar.specs.Read.{start}
use Rattle.env_bytes.specs.Form.{count_of}
use Rattle.sml_fixity.specs.Table.{Stands, entries_in}
use Rattle.sml_fixity.proofs.Scopes.{begins}
use Rattle.parser.specs.View.{Mem, mem, Sound, Next, seen_in, now_of, rest_of, chunks, table_in}
use Rattle.tokens.specs.Checks.{records_fit_lem}
use Rattle.parser.specs.declared.State.{State}
use Rattle.answers.specs.Entry.{call_of, Tested}

-- the entries, where there are so many
pub counted : (o : Option (List Entry)) (n : ℕ) → count_of o ≡ some n → (o ≡ some (get_or o [])) × (length (get_or o []) ≡ n)
counted none n e = let z : ◌≡◌ {A = ℕ} 0 1 = cc in absurd (omega arith)
counted (some es) n e = (refl, cc)

-- what answer 1's test says of the lists
pub record Lists (text toks : List ℕ) : Type 0 where
  pub short : length text ≤ 65535
  pub whole : length toks ≡ 5 * record_count toks
  pub few : record_count toks ≤ 13107

pub lists_fit_lem : (text toks : List ℕ) → lists_fit text toks ≡ true → Lists text toks
unfolding lists_fit
lists_fit_lem text toks e =
    let n = length toks in
    let w = (and-eq-true_iff (leb (length text) 65535 && leb n 65535) (eqb (n % 5) 0)).0 e in
    let a = (and-eq-true_iff (leb (length text) 65535) (leb n 65535)).0 w.0 in
    let m : n % 5 ≡ 0 = eqb-true (n % 5) 0 w.1 in
    let l : n ≤ 65535 = leb-true n 65535 a.1 in
    record { short = leb-true (length text) 65535 a.0; whole = omega arith; few = omega arith }

abbrev start_state : (toks scratch finds : List ℕ) (entries mode at : ℕ) → State
start_state toks scratch finds entries mode at = record {
  at = at;
  count = record_count toks;
  len = 0;
  used = 0;
  room = length scratch / 8;
  found = 0;
  kept = length finds / 8;
  fixes = record { len = 0; entries = entries; changes = 0 };
  mode = mode;
  stop = 0;
}

module _ (text toks env table scratch finds : List ℕ) (entries mode at : ℕ) (t : Tested text toks env entries)
    (room : 8192 ≤ length table) (small : length scratch ≤ 2147483640) (next : Next toks (record_count toks) 0 at) where
  abbrev m : Mem
  m = mem text toks env table scratch finds (start_state toks scratch finds entries mode at)

  start_stands : Stands text env table (table_in m.state)
  start_stands = let k = counted (env_of env) entries t.form in (begins entries).stands text env table k.0 k.1 (lists_fit_lem text toks t.lists).short (omega arith)

  pub started : Sound m
  started =
      let l = lists_fit_lem text toks t.lists in
      record {
        reads = record { whole = l.whole; few = l.few; inside = next.inside; ready = next.ready };
        names = record { within = λ i h. (records_fit_lem (length text) toks (record_count toks) i t.records h).within };
        logs = record { logged = omega arith; within = omega arith; fits = omega arith; small = omega arith };
        holds = record { held = omega arith; fits = omega arith };
        stands = start_stands;
      }

  pub start_seen : seen_in m ≡ on (start (call_of text toks env 0 mode scratch [] finds []) (entries_in env))
  unfolding seen_in now_of rest_of chunks start
  start_seen =
      let n : record_count toks - 0 ≡ record_count toks = omega arith in
      let r : live text toks (record_count toks - at) at ≡ live text toks (record_count toks) 0 = next.same text ∙ ap (λ (k : ℕ). live text toks k 0) n in
      rw (r, (begins entries).means text env table) refl
