-- The call by its tests: the answers 1, 2 and 3, or the reading.
use Prim.Native.Nat.{ℕ, ◌+◌, ◌-◌, ◌≤◌}
use native.Mathlib.Omega.{arith}
use mathlib.Core.Path.{◌≡◌, refl, ap, ◌∙◌}
use mathlib.Core.List.{List, ◌++◌}
use mathlib.Core.Option.{Option, none, some}
use mathlib.Core.Bool.{Bool, true, false, ◌&&◌, and-eq-true_iff}
use lib.Dec.{leb}
use lib.ListN.{length, drop, replicate-append-replicate}
use Rattle.grammar.specs.Env.{Entry, env_of, env_bytes}
use Rattle.grammar.specs.Nodes.{nodes_of, nodes_bytes}
use Rattle.grammar.specs.World.{World}
use Rattle.grammar.specs.World.World.{refused, on}
use Rattle.laws.specs.Choice.{if_both}
use Rattle.grammar.specs.Tokens.{lists_fit, records_fit, record_count}
use Rattle.grammar.specs.Read.{Call, Result, settings_fit, reading, finish, refusal, handed, read_with, read, zeroes, bad_settings, bad_records, bad_env}
use Rattle.env_bytes.specs.Form.{count_of}
use Rattle.sml_fixity.specs.Table.{entries_in}
use Rattle.answers.specs.Entry.{Answer, result_of, with_scratch, cleared_to, Tested}
use Rattle.std.proofs.lemmas.List.{drop-replicate}
use Rattle.answers.proofs.Starts.{counted}

-- the tests of `read`
abbrev asked : Call → Bool → Bool → Option (List Entry) → Result
asked c s r es = elim s [ true ↦ elim r [ true ↦ read_with c es | false ↦ refusal c bad_records ] | false ↦ refusal c bad_settings ]

none_of : (o : Option (List Entry)) → count_of o ≡ none → o ≡ none
none_of none e = refl
none_of (some es) e = let z : ◌≡◌ {A = ℕ} 0 1 = cc in absurd (omega arith)

module _ (c : Call) where
  tests : read c ≡ asked c (settings_fit c) (records_fit (length c.text) c.toks (record_count c.toks)) (env_of c.env)
  unfolding read
  tests = refl

  pub bad_settings_lem : settings_fit c ≡ false → read c ≡ refusal c bad_settings
  bad_settings_lem e = tests ∙ ap (λ (t : Bool). asked c t (records_fit (length c.text) c.toks (record_count c.toks)) (env_of c.env)) e

  module _ (s : settings_fit c ≡ true) where
    pub bad_records_lem : records_fit (length c.text) c.toks (record_count c.toks) ≡ false → read c ≡ refusal c bad_records
    bad_records_lem e =
        tests ∙ ap (λ (t : Bool). asked c t (records_fit (length c.text) c.toks (record_count c.toks)) (env_of c.env)) s
        ∙ ap (λ (t : Bool). asked c true t (env_of c.env)) e

    module _ (r : records_fit (length c.text) c.toks (record_count c.toks) ≡ true) where
      all_tested : read c ≡ read_with c (env_of c.env)
      all_tested =
          tests ∙ ap (λ (t : Bool). asked c t (records_fit (length c.text) c.toks (record_count c.toks)) (env_of c.env)) s
          ∙ ap (λ (t : Bool). asked c true t (env_of c.env)) r

      pub bad_env_lem : count_of (env_of c.env) ≡ none → read c ≡ refusal c bad_env
      unfolding read_with
      bad_env_lem e = all_tested ∙ ap (read_with c) (none_of (env_of c.env) e)

      pub was_good : (n : ℕ) → count_of (env_of c.env) ≡ some n → read c ≡ finish c (reading c (entries_in c.env))
      unfolding read_with
      was_good n e = all_tested ∙ ap (read_with c) (counted (env_of c.env) n e).0

      -- what the tests leave to the reading
      pub was_tested : (n : ℕ) → count_of (env_of c.env) ≡ some n → Tested c.text c.toks c.env n
      unfolding settings_fit
      was_tested n e = record { lists = ((and-eq-true_iff (leb 1 c.depth && leb c.depth 1000 && leb c.mode 2) (lists_fit c.text c.toks)).0 s).1; records = r; form = e }

-- every call leaves scratch cleared
read_cleared : (c : Call) → (read c).scratch ≡ zeroes c.scratch
unfolding read read_with finish refusal handed
read_cleared c = if_both Clear (settings_fit c) (λ _. if_both Clear (records_fit (length c.text) c.toks (record_count c.toks)) (λ _. by_env (env_of c.env)) (λ _. refl)) (λ _. refl)
  where
    Clear : Result → Type 0
    Clear r = r.scratch ≡ zeroes c.scratch

    by_world : (w : World) → Clear (finish c w)
    by_world (refused k l) = refl
    by_world (on s) = if_both Clear (leb (length (nodes_bytes (nodes_of s.log))) c.nodes) (λ _. if_both Clear (leb (length (env_bytes s.env)) c.final) (λ _. refl) (λ _. refl)) (λ _. refl)

    by_env : (o : Option (List Entry)) → Clear (read_with c o)
    by_env none = refl
    by_env (some es) = by_world (reading c es)

-- a call over a part of scratch, the rest of which was cleared before
pub part_cleared : (c : Call) (n m : ℕ) (a : Answer) {s s' n' f' l' : List ℕ} → n ≤ m → s ≡ zeroes m → result_of a s' n' f' l' ≡ read (with_scratch c n)
    → result_of a (s' ++ drop n s) n' f' l' ≡ cleared_to (read (with_scratch c n)) m
part_cleared c n m a {s} {s'} {n'} {f'} {l'} h e q =
    let k : n + (m - n) ≡ m = omega arith in
    let z : s' ++ drop n s ≡ zeroes m =
    cc (ap (λ (r : Result). r.scratch) q, read_cleared (with_scratch c n), ap (drop n) e, drop-replicate {X = ℕ} n m 0, replicate-append-replicate {A = ℕ} n (m - n) 0, ap zeroes k) in
    ap (λ (x : List ℕ). result_of a x n' f' l') z ∙ ap (λ (r : Result). cleared_to r m) q
