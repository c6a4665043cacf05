-- The table at its beginning, and as a scope is left.
use Prim.Native.Nat.{ℕ}
use native.Mathlib.Nat.{le_refl}
use native.Mathlib.Omega.{arith}
use mathlib.Core.Path.{refl, sym, ◌∙◌}
use Rattle.sml_fixity.specs.declared.table.Table.{Table}
use Rattle.sml_fixity.specs.EnvBytes.{env_few}
use Rattle.sml_fixity.specs.Table.{in_force, entries_in, Begins, Leaves}
use Rattle.sml_fixity.proofs.Journals.{force_kept, journal_kept}

pub begins : (k : ℕ) → Begins k (record { len = 0; entries = k; changes = 0 })
unfolding in_force
begins k = record {
  stands = λ text env journal form e short room. record {
    form = form;
    records = record { fits = omega arith; few = omega arith; inside = λ i h. absurd (omega arith); kinds = λ i h. absurd (omega arith); named = λ i h. absurd (omega arith) };
    counted = sym e;
    few = omega (arith, env_few env (entries_in env) form);
    begun = omega arith;
    made = omega arith;
    short = short;
    room = room;
  };
  means = λ text env journal. refl;
}

pub leaves : (old now : Table) → Leaves old now (record { len = old.len; entries = old.entries; changes = now.changes })
leaves old now = record {
  stands = λ text env j j' st more few long agree. record {
    form = st.form;
    records = journal_kept text j j' old.len agree (let f = st.records.fits in omega arith) st.records;
    counted = st.counted ∙ rw (force_kept text j j' old.len agree (entries_in env) old.len (le_refl old.len));
    few = st.few;
    begun = omega (arith, st.begun);
    made = few;
    short = st.short;
    room = omega (arith, st.room);
  };
  means = λ text env j j' agree. force_kept text j j' old.len agree (entries_in env) old.len (le_refl old.len);
}
