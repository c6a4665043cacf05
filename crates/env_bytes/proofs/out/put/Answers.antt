-- by hand: it stores an entry, if that fits: by what the fixity is.
-- `out::put` meets its contract: an entry takes four bytes and its name.
use Prim.Native.Nat.{ℕ, ◌+◌, ◌≤◌}
use native.Mathlib.Omega.{arith}
use mathlib.Core.Path.{◌≡◌, refl}
use mathlib.Core.List.{List}
use mathlib.Core.Option.{none, some}
use lib.ListN.{length}
use lib.Seq.{sets}
use Rattle.grammar.specs.Env.{Infix, env_bytes, max_name}
use Rattle.env_bytes.specs.Out.{here, Put}
use Rattle.env_bytes.proofs.Writes.{bytes_size}
use Rattle.env_bytes.proofs.out.put.Goals as goal

module _ (at : ℕ) (x out : List ℕ) where
  nothing : at ≤ length out → Put at (env_bytes (here x none)) out out at
  unfolding env_bytes
  nothing h = record { end = omega arith; room = h; now = refl }

  written : (i : Infix) (out' : List ℕ) → at + length x + 4 ≤ length out → out' ≡ sets out at (env_bytes (here x (some i))) → Put at (env_bytes (here x (some i))) out out' (at + length x + 4)
  written i out' h e = record { end = omega (arith, bytes_size x i); room = h; now = e }

pub returns-then-out-at : goal.returns-then-out-at
returns-then-out-at c = rw (c.in-Some.is, bytes_size) (omega arith)

pub put_entry-requires : goal.put_entry-requires
put_entry-requires c =
    let h : length c.args.x.now ≤ max_name = rw c.in-Some.is at c.requires.1 in
    (omega arith, omega arith)

pub returns-in_default : goal.returns-in_default
returns-in_default c =
    rw c.in_default.is (nothing c.args.at c.args.x.now c.args.out.now c.requires.0)

pub returns : goal.returns
returns c =
    let a = c.args in
    rw c.in-Some.is (written a.at a.x.now a.out.now _ c.put_entry.new.out (omega arith) c.put_entry.ensures)
