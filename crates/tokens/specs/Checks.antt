-- What the tests of the lent text and token records give: the settings of a call, each record that fits, and where a part of the text lies.
use Prim.Native.Nat.{ℕ, zero, suc, ◌+◌, ◌≤◌, ◌<◌}
use Rattle.std.proofs.Common.{eq-or-lt_of_le}
use native.Mathlib.Omega.{arith}
use Rattle.std.specs.Prelude.{◌≡◌, refl, List, [], Bool, true, ◌&&◌, ltb, length}
use Rattle.std.proofs.Math.Bool.{and-eq-true_iff}
use Rattle.std.proofs.Math.Logic.{⊎_elim}
use borrow.Author.Tests.{leb-true}
use Rattle.std.specs.Borrow.{Bor}
use Rattle.std.proofs.Math.Dec.{leb}
use Rattle.grammar.specs.SyntaxKind as SK
use Rattle.grammar.specs.Tokens.{Part, kind_at, start_at, length_at, end_at, end_before, record_count, record_fits, records_fit}
use Rattle.grammar.specs.Read.{Call, settings_fit}

-- a call with these settings, which lends nothing else
abbrev pub settings : List ℕ → List ℕ → ℕ → ℕ → Call
settings text toks depth mode = record { text = text; toks = toks; env = []; depth = depth; mode = mode; scratch = 0; nodes = 0; finds = 0; final = 0 }

-- answer 1 does not depend on what else is lent
pub settings_alone : (c : Call) → settings_fit (settings c.text c.toks c.depth c.mode) ≡ settings_fit c
unfolding settings_fit
settings_alone c = refl

-- whether there is a record i, and it fits
abbrev pub stands_at : ℕ → List ℕ → ℕ → Bool
stands_at n toks i = ltb i (record_count toks) && record_fits n toks i

-- What answer 2's test says of a record.
pub record Fits (n : ℕ) (toks : List ℕ) (i : ℕ) : Type 0 where
  pub kind : kind_at toks i ≤ SK.Other
  pub long : 1 ≤ length_at toks i
  pub later : end_before toks i ≤ start_at toks i
  pub within : end_at toks i ≤ n

module _ (n : ℕ) (toks : List ℕ) where
  pub record_fits_lem : (i : ℕ) → record_fits n toks i ≡ true → Fits n toks i
  unfolding record_fits
  record_fits_lem i e =
      let k = leb (kind_at toks i) SK.Other in
      let l = leb 1 (length_at toks i) in
      let s = leb (end_before toks i) (start_at toks i) in
      let w = (and-eq-true_iff (k && l && s) (leb (end_at toks i) n)).0 e in
      let a = (and-eq-true_iff (k && l) s).0 w.0 in
      let b = (and-eq-true_iff k l).0 a.0 in
      record {
        kind = leb-true (kind_at toks i) SK.Other b.0;
        long = leb-true 1 (length_at toks i) b.1;
        later = leb-true (end_before toks i) (start_at toks i) a.1;
        within = leb-true (end_at toks i) n w.1;
      }

  -- where the first k records fit, each of them does
  each : (k i : ℕ) → records_fit n toks k ≡ true → i < k → record_fits n toks i ≡ true
  unfolding records_fit
  each zero i e h = absurd (omega arith)
  each (suc k) i e h =
      let w = (and-eq-true_iff (records_fit n toks k) (record_fits n toks k)).0 e in
      let l : i ≤ k = omega arith in
      ⊎_elim (λ q. rw q w.1) (each k i w.0) (eq-or-lt_of_le l)

  pub records_fit_lem : (k i : ℕ) → records_fit n toks k ≡ true → i < k → Fits n toks i
  records_fit_lem k i e h = record_fits_lem i (each k i e h)

-- The slice r is the part p of the text: it lies in the same block, p's start behind it, and is as long as p.
pub record Lies (text r : Bor (List ℕ)) (p : Part) : Type 0 where
  pub block : r.ref_ptr.0 ≡ text.ref_ptr.0
  pub place : r.ref_ptr.1 ≡ text.ref_ptr.1 + p.start
  pub long : length r.now ≡ p.len
