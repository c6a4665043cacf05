-- Bytes that are written part by part from the front of a list.
use Prim.Native.Nat.{ℕ, ◌+◌, ◌≤◌, ◌<◌}
use native.Mathlib.Nat.{zero-add}
use native.Mathlib.Omega.{arith}
use mathlib.Core.Path.{◌≡◌, refl, ◌∙◌, ap}
use mathlib.Core.List.{List, [], ◌++◌, append_assoc}
use mathlib.Core.Option.{Option, none, some}
use lib.ListN.{length, length-append}
use lib.Seq.{sets, sets-eq, length-sets}
use Rattle.grammar.specs.Env.{Infix, Entry, env_bytes}
use Rattle.env_bytes.specs.Out.{here, Put, Fitted}
use Rattle.env_bytes.proofs.Stores.{sets_append}

-- Of the bytes `all`, which go to the front of `out₀`, those that are left go to `at` of `out`.
pub record Left (all out₀ out bytes : List ℕ) (at : ℕ) : Type 0 where
  pub kept : length out ≡ length out₀
  pub room : at ≤ length out
  pub size : at + length bytes ≡ length all
  pub ends : sets out at bytes ≡ sets out₀ 0 all

module _ (all out₀ : List ℕ) where
  pub begun : Left all out₀ out₀ all 0
  begun = record { kept = refl; room = omega arith; size = zero-add (length all); ends = refl }

  module _ (out b c : List ℕ) (at : ℕ) (l : Left all out₀ out (b ++ c) at) where
    -- the first part was written
    pub goes : (out' : List ℕ) (n : ℕ) → Put at b out out' n → Left all out₀ out' c n
    goes out' n p =
        let k : length out' ≡ length out = ap length p.now ∙ length-sets out at b in
        record {
          kept = k ∙ l.kept;
          room = omega (arith, p.room);
          size = omega (arith, p.end, length-append b c, l.size);
          ends = rw (p.now, p.end, ← sets_append b c out at) l.ends;
        }

    -- or does not fit
    pub over : length out < at + length b → length out₀ < length all
    over h = omega (arith, length-append b c, l.size, l.kept)

  pub finished : (out : List ℕ) (at : ℕ) → Left all out₀ out [] at → Fitted all out₀ out at
  finished out at l =
      let e : at ≡ length all = omega (arith, l.size) in
      let r : length all ≤ length out₀ = omega (arith, l.kept, l.room) in
      let q : 0 + length all ≡ at = omega arith in
      record { all = e; room = r; now = rw q at (l.ends ∙ sets-eq all out₀ 0 (omega arith)) }

-- the bytes of a name's entry, and those of others behind it
pub bytes_size : (x : List ℕ) (i : Infix) → length (env_bytes (here x (some i))) ≡ length x + 4
unfolding env_bytes
bytes_size x i = simp length-append (omega arith)

pub bytes_split : (x : List ℕ) (o : Option Infix) (es : List Entry) → env_bytes (here x o ++ es) ≡ env_bytes (here x o) ++ env_bytes es
unfolding env_bytes
bytes_split x none es = refl
bytes_split x (some i) es = rw append_assoc
