-- A change of the table: when it may be made, and that a record more in the journal makes it.
use Prim.Native.Nat.{ℕ, ◌+◌, ◌*◌, ◌≤◌, ◌<◌}
use native.Mathlib.Numerals.{add-one}
use native.Mathlib.Omega.{arith}
use mathlib.Core.Path.{◌≡◌, refl, sym, ◌∙◌}
use mathlib.Core.List.{List}
use mathlib.Core.Option.{Option, none, some}
use mathlib.Core.Bool.{true, false}
use borrow.Author.Count.{below_more}
use borrow.Author.Tests.{lt-ltb, leb-true}
use lib.Dec.{leb, lit≤}
use lib.ListN.{length}
use Rattle.grammar.specs.Env.{Infix, Entry, find, max_name, max_entries}
use Rattle.grammar.specs.World.{changed, may_change, max_changes}
use Rattle.sml_fixity.specs.declared.Assoc.{Assoc}
use Rattle.sml_fixity.specs.declared.Assoc.TheVariants.{Left, Right}
use Rattle.std.specs.Prelude as std
use Rattle.std.specs.Prelude.{Some, None}
use Rattle.sml_fixity.specs.declared.Infix as code
use Rattle.sml_fixity.specs.declared.table.Table.{Table}
use Rattle.sml_fixity.specs.Entries.{Sorted, count, length_remove, length_changed}
use Rattle.sml_fixity.specs.EnvBytes.{both, sorted_env}
use Rattle.sml_fixity.specs.Fix.{assoc_of, fixity_of}
use Rattle.sml_fixity.specs.Table.{change_size, nonfix, part, start_at, length_at, what_at, name_at, fix_by, fix_at, in_force, Short, Journal, entries_in, table_of, Stands, fits_in, what_of, prec_of, put_at, allowed, Made, Refused}
use Rattle.sml_fixity.proofs.Parts.{part_length}
use Rattle.sml_fixity.proofs.Journals.{sorted_force, force_kept, journal_kept}
use Rattle.sml_fixity.proofs.Stores.{put_length, put_below, put_start, put_len, put_prec, put_what}

-- ---- a fixity by its two numbers

assoc_back : (p : ℕ) (a : Assoc) → fix_by p (assoc_of a) ≡ some (record { prec = p; assoc = assoc_of a })
assoc_back p Left = refl
assoc_back p Right = refl

fix_back : (f : std.Option code.Infix) → fix_by (prec_of (fixity_of f)) (what_of (fixity_of f)) ≡ fixity_of f
fix_back None = refl
fix_back (Some i) = assoc_back i.prec i.assoc

assoc_small : (a : Assoc) → assoc_of a ≤ nonfix
assoc_small Left = lit≤ tt
assoc_small Right = lit≤ tt

what_small : (f : std.Option code.Infix) → what_of (fixity_of f) ≤ nonfix
what_small None = lit≤ tt
what_small (Some i) = assoc_small i.assoc

-- ---- whether it may be made

may_fits : (c : Option Infix) (x : List ℕ) (es : List Entry) (n k : ℕ) → length x ≡ n → length (changed c x es) ≡ k → may_change c x es ≡ fits_in c n k
may_fits none x es n k e f = refl
may_fits (some i) x es n k e f = cc

-- a change that fits leaves few entries
few : (c : Option Infix) (x : List ℕ) (es : List Entry) (n k : ℕ) → length es ≤ max_entries → length (changed c x es) ≡ k → fits_in c n k ≡ true → k ≤ max_entries
few none x es n k h e f = omega (arith, length_remove x es)
few (some i) x es n k h e f = leb-true k max_entries (both (leb n max_name) (leb k max_entries) f).1

-- and its name is short
short : (c : Option Infix) (x : List ℕ) (n k : ℕ) → length x ≡ n → fits_in c n k ≡ true → Short x c
short none x n k e f = tt
short (some i) x n k e f = rw e (leb-true n max_name (both (leb n max_name) (leb k max_entries) f).0)

module _ (text env journal : List ℕ) (t : Table) (start len : ℕ) (f : std.Option code.Infix) (st : Stands text env journal t) (inside : start + len ≤ length text) where
  sorted : Sorted (table_of text env journal t)
  sorted = sorted_force text (entries_in env) journal (sorted_env env (entries_in env) st.form) t.len

  -- the entries there are and those that there will be: `k` are those of the fixity that the name had, `m` those of the one that it gets
  pub balance : (m k : ℕ) (was : Option Infix) → m ≡ count (fixity_of f) → k ≡ count was → was ≡ find (part text start len) (table_of text env journal t)
      → length (changed (fixity_of f) (part text start len) (table_of text env journal t)) + k ≡ t.entries + m
  balance m k was p q e = rw (p, q, e, st.counted) (length_changed (fixity_of f) (part text start len) (table_of text env journal t) sorted)

  module _ (k : ℕ) (less : t.changes < max_changes) (k-is : length (changed (fixity_of f) (part text start len) (table_of text env journal t)) ≡ k) where
    may_is : allowed text env journal t (part text start len) (fixity_of f) ≡ fits_in (fixity_of f) len k
    may_is =
        rw (lt-ltb t.changes max_changes less)
        (may_fits (fixity_of f) (part text start len) (table_of text env journal t) len k (part_length text start len inside) k-is)

    pub large : fits_in (fixity_of f) len k ≡ false → Refused text env journal t (part text start len) (fixity_of f) journal
    large h = record { may = may_is ∙ h; kept = refl }

    room : change_size * t.len + 8 ≤ length journal
    room = omega arith

    -- the new record's name and fixity
    name_is : name_at text (put_at journal t.len start len (fixity_of f)) t.len ≡ part text start len
    name_is = cc (put_start journal t.len start len (fixity_of f) room (omega arith), put_len journal t.len start len (fixity_of f) room (omega arith))

    fix_is : prec_of (fixity_of f) ≤ 65535 → fix_at (put_at journal t.len start len (fixity_of f)) t.len ≡ fixity_of f
    fix_is p = cc (put_prec journal t.len start len (fixity_of f) room p, put_what journal t.len start len (fixity_of f) room, fix_back f)

    records : fits_in (fixity_of f) len k ≡ true → prec_of (fixity_of f) ≤ 65535 → Journal text (put_at journal t.len start len (fixity_of f)) (t.len + 1)
    records e p =
        let n = t.len in
        let j = put_at journal n start len (fixity_of f) in
        let l = put_length journal n start len (fixity_of f) in
        let r = journal_kept text journal j n (put_below journal n start len (fixity_of f)) (let f = st.records.fits in omega arith) st.records in
        record {
          fits = omega (arith, l, room);
          few = omega (arith, st.begun);
          inside = below_more (λ i. start_at j i + length_at j i ≤ length text) n r.inside
              (rw (put_start journal n start len (fixity_of f) room (omega arith), put_len journal n start len (fixity_of f) room (omega arith)) inside);
          kinds = below_more (λ i. what_at j i ≤ nonfix) n r.kinds (rw (put_what journal n start len (fixity_of f) room) (what_small f));
          named = below_more (λ i. Short (name_at text j i) (fix_at j i)) n r.named
              (rw (name_is, fix_is p) (short (fixity_of f) (part text start len) len k (part_length text start len inside) e));
        }

    means : prec_of (fixity_of f) ≤ 65535 → in_force text (entries_in env) (put_at journal t.len start len (fixity_of f)) (t.len + 1) ≡ changed (fixity_of f) (part text start len) (table_of text env journal t)
    unfolding in_force
    means p =
        let n = t.len in
        let j = put_at journal n start len (fixity_of f) in
        rw (add-one n)
        (cc (name_is, fix_is p, force_kept text journal j n (put_below journal n start len (fixity_of f)) (entries_in env) n (omega arith)))

    pub made : {j : List ℕ} → fits_in (fixity_of f) len k ≡ true → prec_of (fixity_of f) ≤ 65535 → j ≡ put_at journal t.len start len (fixity_of f) → Made text env journal t (part text start len) (fixity_of f) j (record { len = t.len + 1; entries = k; changes = t.changes + 1 })
    made h p e =
        let l = put_length journal t.len start len (fixity_of f) in
        rw e record {
          may = may_is ∙ h;
          stands = record {
            form = st.form;
            records = records h p;
            counted = sym k-is ∙ rw (means p);
            few = few (fixity_of f) (part text start len) (table_of text env journal t) len k (omega (arith, st.counted, st.few)) k-is h;
            begun = omega (arith, st.begun);
            made = omega arith;
            short = st.short;
            room = omega (arith, l, st.room);
          };
          means = means p;
          once = refl;
          next = refl;
          below = put_below journal t.len start len (fixity_of f);
          long = l;
        }
