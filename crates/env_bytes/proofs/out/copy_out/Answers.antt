-- by hand: a loop over names in their order, whose invariant and measure are its own.
use Prim.Native.Nat.{ℕ, ◌+◌, ◌<◌}
use native.Mathlib.Omega.{arith}
use mathlib.Core.Path.{◌≡◌, ap, ◌∙◌}
use mathlib.Core.List.{List, ◌++◌}
use mathlib.Core.Option.{none}
use mathlib.Core.Bool.{true, false}
use lib.ListN.{length}
use Rattle.std.specs.Prelude.{Option, Some, None, Result, Ok, Err}
use Rattle.std.specs.Result.{IsErr}
use Rattle.std.specs.Borrow.{Bor}
use Rattle.std.specs.List.{All, filter}
use Rattle.std.proofs.lemmas.List.Elements.{All-weaker}
use Rattle.grammar.specs.Bytes.{same, before}
use Rattle.grammar.specs.Env.{find, env_bytes}
use Rattle.sml_fixity.specs.declared.table.Table.{Table}
use Rattle.sml_fixity.specs.Names.{by_test, same_eq}
use Rattle.sml_fixity.specs.Entries.{Sorted}
use Rattle.sml_fixity.specs.EnvBytes.{sorted_env, env_short}
use Rattle.sml_fixity.specs.Table.{Short, entries_in, table_of, Stands}
use Rattle.sml_fixity.proofs.Journals.{sorted_force, short_force}
use Rattle.env_bytes.specs.Names.{names_in, changed_names, NextName}
use Rattle.env_bytes.specs.declared.out.TooLong.{TooLong}
use Rattle.env_bytes.specs.Out.{here, Over, Copies}
use Rattle.env_bytes.proofs.names.Among.{not_among, fewer}
use Rattle.env_bytes.proofs.out.Froms.{froms, afters, froms_all, froms_split, afters_next, afters_none}
use Rattle.env_bytes.proofs.Writes.{begun, goes, over, finished, bytes_split}
use Rattle.env_bytes.proofs.out.copy_out.Invariants.{from, still}
use Rattle.env_bytes.proofs.out.copy_out.Goals as goal

module _ (text env journal : List ℕ) (t : Table) (st : Stands text env journal t) where
  sorted : Sorted (table_of text env journal t)
  sorted = sorted_force text (entries_in env) journal (sorted_env env (entries_in env) st.form) t.len

  short : (x : List ℕ) → Short x (find x (table_of text env journal t))
  short = let es = entries_in env in short_force text es journal (sorted_env env es st.form) (env_short env es st.form) t.len st.records.named

  split : (x : List ℕ) → env_bytes (froms x (table_of text env journal t)) ≡ env_bytes (here x (find x (table_of text env journal t))) ++ env_bytes (afters x (table_of text env journal t))
  split x =
      let es = table_of text env journal t in
      ap env_bytes (froms_split x es sorted) ∙ bytes_split x (find x es) (afters x es)

  -- a name of which each entry's and change's name differs
  absent : (z : List ℕ) (P : List ℕ → Type 0) → ((y : List ℕ) → P y → z ≡ y → ⊥) → All P (names_in env ++ changed_names text journal t.len) → find z (table_of text env journal t) ≡ none
  absent z P f h =
      let names = names_in env ++ changed_names text journal t.len in
      not_among text env (entries_in env) journal t.len st.form (sorted_env env (entries_in env) st.form) z
      (All-weaker P (λ y. same z y ≡ false) (λ y p. by_test (same z y) (λ s. absurd (f y p (same_eq z y s))) (λ s. s)) names h)

  module _ (x : List ℕ) where
    next : (r : Option (Bor (List ℕ))) → NextName (names_in env ++ changed_names text journal t.len) x r → afters x (table_of text env journal t) ≡ from r (table_of text env journal t)
    next None h = afters_none x (table_of text env journal t) (λ z p. absent z (λ y. before x y ≡ false) (λ y q e. let b = rw e at p in cc) h)
    next (Some b) h =
        afters_next x b.now h.1 (table_of text env journal t)
        (λ z p q. absent z (λ y. before x y ≡ true → before y b.now ≡ false) (λ y g e. let u = g (rw e at p) in let v = rw e at q in cc) h.2)

    smaller : (r : Option (Bor (List ℕ))) → NextName (names_in env ++ changed_names text journal t.len) x r → still r (names_in env ++ changed_names text journal t.len) < length (filter (before x) (names_in env ++ changed_names text journal t.len)) + 1
    smaller None h = omega arith
    smaller (Some b) h = omega (arith, fewer x b.now h.1 (names_in env ++ changed_names text journal t.len) h.0)

pub loop-name-init : goal.loop-name-init
loop-name-init c =
    let a = c.args in
    let es = table_of a.text.now a.env.now a.journal.now a.t in
    rw (froms_all es) (begun (env_bytes es) a.out.now)

pub put-requires : goal.put-requires
put-requires c =
    let a = c.args in
    (c.loop-name.invariant.room, rw c.find_name-f.ensures (short a.text.now a.env.now a.journal.now a.t c.requires c.in-Some.x.now))

refused : (bytes out out' : List ℕ) (r : Result ℕ TooLong) → IsErr r → Over bytes out out' → Copies bytes out out' r
refused bytes out out' (Ok n) h o = cc
refused bytes out out' (Err e) h o = o

pub returns-in_err-at : goal.returns-in_err-at
returns-in_err-at c =
    let a = c.args in
    let l = c.loop-name in
    let x = c.in-Some.x.now in
    let es = table_of a.text.now a.env.now a.journal.now a.t in
    let left = rw (c.in-Some.is, split a.text.now a.env.now a.journal.now a.t c.requires x) at l.invariant in
    refused (env_bytes es) a.out.now c.put.new.out c.from_residual.result c.from_residual.ensures.0
    (record {
      long = over (env_bytes es) a.out.now l.out (env_bytes (here x (find x es))) (env_bytes (afters x es)) l.at left (rw c.find_name-f.ensures at c.in_err-at.ensures);
      kept = c.put.auto.out ∙ l.invariant.kept;
    })

pub loop-name-smaller : goal.loop-name-smaller
loop-name-smaller c =
    let a = c.args in
    rw c.in-Some.is (smaller a.text.now a.env.now a.journal.now a.t c.requires c.in-Some.x.now c.next_name-name.result c.next_name-name.ensures)

pub loop-name-preserved : goal.loop-name-preserved
loop-name-preserved c =
    let a = c.args in
    let l = c.loop-name in
    let x = c.in-Some.x.now in
    let es = table_of a.text.now a.env.now a.journal.now a.t in
    let left = rw (c.in-Some.is, split a.text.now a.env.now a.journal.now a.t c.requires x) at l.invariant in
    rw (← next a.text.now a.env.now a.journal.now a.t c.requires x c.next_name-name.result c.next_name-name.ensures)
    (goes (env_bytes es) a.out.now l.out (env_bytes (here x (find x es))) (env_bytes (afters x es)) l.at left c.put.new.out c.in_ok-at.at (rw c.find_name-f.ensures at c.in_ok-at.ensures))

pub returns : goal.returns
unfolding env_bytes
returns c =
    let a = c.args in
    finished (env_bytes (table_of a.text.now a.env.now a.journal.now a.t)) a.out.now c.loop-name.out c.loop-name.at (rw c.in_default.is at c.loop-name.invariant)
