-- by hand: a loop over a table, whose invariant is its own.
use Prim.Native.Nat.{ℕ, suc, ◌+◌, ◌<◌, ◌≤◌}
use native.Mathlib.Numerals.{add-one}
use native.Mathlib.Omega.{arith}
use mathlib.Core.Path.{◌≡◌, ap, ◌∙◌}
use mathlib.Core.List.{List, [], ◌∷◌, ◌++◌, append-nil}
use mathlib.Core.Option.{some}
use lib.ListN.{length, length-append, get_or, drop, drop_of_length-le}
use lib.Seq.{sets, drop-cons}
use Rattle.std.proofs.lemmas.List.Elements.{All-get_or}
use Rattle.grammar.specs.Env.{env_bytes}
use Rattle.env_bytes.specs.Basis.{Row, entry_of, entries_of, rank_of, entry_bytes}
use Rattle.env_bytes.proofs.Writes.{Left, begun, goes, finished, bytes_split, bytes_size}
use Rattle.env_bytes.proofs.basis.put_all.Goals as goal

-- the row k of a table, where the entries from it on are left
module _ (rows : List Row) (d : Row) (k : ℕ) (h : k < length rows) where
  next : env_bytes (entries_of (drop k rows)) ≡ env_bytes (entry_of (get_or rows k d) ∷ []) ++ env_bytes (entries_of (drop (k + 1) rows))
  next =
      let r = get_or rows k d in
      rw (drop-cons rows k d h, add-one) (bytes_split r.0.now (some (rank_of r.1 r.2)) (entries_of (drop (suc k) rows)))

  module _ (out₀ out : List ℕ) (at : ℕ) (l : Left (env_bytes (entries_of rows)) out₀ out (env_bytes (entries_of (drop k rows))) at) where
    size : length (env_bytes (entry_of (get_or rows k d) ∷ [])) ≡ length (get_or rows k d).0.now + 4
    size = let r = get_or rows k d in bytes_size r.0.now (rank_of r.1 r.2)

    fits : length (env_bytes (entries_of rows)) ≡ length out₀ → at + length (get_or rows k d).0.now + 4 ≤ length out
    fits e =
        let z = simp length-append at (ap length next) in
        omega (arith, l.size, l.kept, size)

    stored : length (env_bytes (entries_of rows)) ≡ length out₀ → (out' : List ℕ) → out' ≡ sets out at (entry_bytes (get_or rows k d).0.now (rank_of (get_or rows k d).1 (get_or rows k d).2)) → Left (env_bytes (entries_of rows)) out₀ out' (env_bytes (entries_of (drop (k + 1) rows))) (at + (length (get_or rows k d).0.now + 4))
    stored e out' w =
        let r = get_or rows k d in
        goes (env_bytes (entries_of rows)) out₀ out (env_bytes (entry_of r ∷ [])) (env_bytes (entries_of (drop (k + 1) rows))) at (rw next at l) out' (at + (length r.0.now + 4)) (record { end = omega (arith, size); room = omega (arith, fits e); now = w })

pub loop-name-init : goal.loop-name-init
loop-name-init c = begun (env_bytes (entries_of c.args.entries.now)) c.args.out.now

pub put_entry-requires : goal.put_entry-requires
put_entry-requires c =
    let rows = c.args.entries.now in
    let k = c.loop-name.name-index in
    let h = c.loop-name-test.true in
    (All-get_or (λ (r : Row). length r.0.now < 256) rows k _ h c.requires.short, fits rows _ k h c.args.out.now c.loop-name.out c.loop-name.at c.loop-name.invariant c.requires.room)

pub loop-name-preserved : goal.loop-name-preserved
loop-name-preserved c =
    stored c.args.entries.now _ c.loop-name.name-index c.loop-name-test.true c.args.out.now c.loop-name.out c.loop-name.at c.loop-name.invariant c.requires.room c.put_entry.new.out (rw c.rank.ensures at c.put_entry.ensures)

pub returns : goal.returns
unfolding env_bytes
returns c =
    let rows = c.args.entries.now in
    let all = env_bytes (entries_of rows) in
    let none = drop_of_length-le rows {i = c.loop-name.name-index} c.loop-name-test.false in
    let f = finished all c.args.out.now c.loop-name.out c.loop-name.at (rw none at c.loop-name.invariant) in
    f.now ∙ rw (drop_of_length-le c.args.out.now {i = c.loop-name.at} (omega (arith, f.all, c.requires.room)), append-nil)
