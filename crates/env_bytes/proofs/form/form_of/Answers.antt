-- by hand: a loop over an environment's entries, whose invariant is its own.
use Prim.Native.Nat.{ℕ, zero, suc, ◌+◌, ◌-◌, ◌≤◌, ◌<◌}
use native.Mathlib.Nat.{add-zero, zero-add}
use native.Mathlib.Omega.{arith}
use mathlib.Core.Path.{◌≡◌, refl, ap, sym, ◌∙◌}
use mathlib.Core.Bool.{true, false, ◌&&◌, and-false}
use mathlib.Core.Option.{Option, none, some}
use mathlib.Core.List.{List, [], ◌∷◌}
use mathlib.Core.Logic.{⊎_elim}
use lib.Dec.{eqb, leb}
use lib.ListN.{length, get_or, take, drop}
use Rattle.std.proofs.lemmas.List.{get_or-take, get_or-drop, nil_from_length}
use Rattle.std.proofs.lemmas.Bool.{cases_lt}
use Rattle.std.proofs.lemmas.Bool.Decides.{nat_tests}
use Rattle.grammar.specs.Bytes.{before}
use Rattle.grammar.specs.Env.{Entry, entry_fits, entry_in, entries_of, env_of, max_entries, max_name, Right}
use Rattle.std.specs.Prelude.{Some, None}
use Rattle.std.specs.Borrow.{Bor}
use borrow.Author.Tests.{eqb-true, le-leb, lt-leb}
use Rattle.env_bytes.specs.Form.{count_of, Split, Splits}
use Rattle.env_bytes.proofs.Empty.{empty_first}
use Rattle.env_bytes.proofs.form.form_of.Goals.{then-count-eq256-via-then-count-eq256, then-count-eq256-via-else-count-eq256+then-not-before, then-count-eq256-via-else-count-eq256+else-not-before+then-fixity-gt1}
use Rattle.env_bytes.proofs.form.form_of.Invariants.{behind}
use Rattle.env_bytes.proofs.form.form_of.Goals as goal

behind-none : (o : Option (List Entry)) → behind 0 o ≡ count_of o
behind-none none = refl
behind-none (some es) = ap some (zero-add (length es))

behind-one : (k : ℕ) (e : Entry) (o : Option (List Entry)) → behind k (elim o [ none ↦ none | some es ↦ some (e ∷ es) ]) ≡ behind (k + 1) o
behind-one k e none = refl
behind-one k e (some es) = ap some (omega arith)

module _ (last : List ℕ) where
  ends : (k : ℕ) → entries_of k last [] ≡ some []
  unfolding entries_of
  ends zero = refl
  ends (suc k) = refl

  module _ (n : ℕ) (bytes : List ℕ) where
    cut : length bytes < n + 3 → entry_fits last n bytes ≡ false
    unfolding entry_fits
    cut h = grind (arith, nat_tests)

    nameless : n ≡ 0 → entry_fits last n bytes ≡ (before last (take n bytes) && leb (get_or bytes (n + 2) 0) Right)
    unfolding entry_fits
    nameless e = rw (e, empty_first last)

    named : 1 ≤ n → n ≤ max_name → n + 3 ≤ length bytes → entry_fits last n bytes ≡ (before last (take n bytes) && leb (get_or bytes (n + 2) 0) Right)
    unfolding entry_fits
    named o h l = rw (le-leb 1 n o, le-leb n max_name h, le-leb (n + 3) (length bytes) l)

    whole : n ≤ max_name → n + 3 ≤ length bytes → entry_fits last n bytes ≡ (before last (take n bytes) && leb (get_or bytes (n + 2) 0) Right)
    whole h l = ⊎_elim (λ o. named o h l) (λ z. nameless (omega arith)) (cases_lt 0 n)

    refused : (k : ℕ) → entry_fits last n bytes ≡ false → entries_of k last (n ∷ bytes) ≡ none
    unfolding entries_of
    refused zero e = refl
    refused (suc k) e = rw (e, entries_of)

    goes : (count k : ℕ) → entry_fits last n bytes ≡ true → behind count (entries_of (suc k) last (n ∷ bytes)) ≡ behind (count + 1) (entries_of k (take n bytes) (drop (n + 3) bytes))
    unfolding entries_of
    goes count k e = rw (e, entries_of) (behind-one count (entry_in n bytes) (entries_of k (take n bytes) (drop (n + 3) bytes)))

-- the count of the environment's entries, where `count` were passed, the last one's name is `last`, and `left` is behind it
abbrev counted : List ℕ → List ℕ → ℕ → Option ℕ
counted last left count = behind count (entries_of (max_entries - count) last left)

module _ (last : List ℕ) (count : ℕ) where
  broken : (left : List ℕ) → eqb (length left) 0 ≡ false → Splits left None → counted last left count ≡ none
  broken [] l h = cc
  broken (n ∷ bytes) l h = rw (refused last n bytes (max_entries - count) (cut last n bytes h))

  full : (left : List ℕ) → eqb (length left) 0 ≡ false → count ≡ max_entries → counted last left count ≡ none
  unfolding entries_of
  full [] l h = cc
  full (n ∷ bytes) l h = let z : max_entries - count ≡ 0 = omega arith in rw z

  module _ (name fixity rest : Bor (List ℕ)) where
    fits : (n : ℕ) (bytes : List ℕ) → Split n bytes name.now fixity.now rest.now → entry_fits last n bytes ≡ (before last name.now && leb (get_or fixity.now 2 0) Right)
    fits n bytes s =
        let a : get_or (take 3 (drop n bytes)) 2 0 ≡ get_or bytes (n + 2) 0 = get_or-take 3 (drop n bytes) 2 0 (omega arith) ∙ get_or-drop n bytes 2 0 in
        rw (s.name-is, s.fixity-is, a) (whole last n bytes s.sized s.room)

    bad : (left : List ℕ) → Splits left (Some (name, fixity, rest)) → (before last name.now && leb (get_or fixity.now 2 0) Right) ≡ false → counted last left count ≡ none
    bad [] h e = cc
    bad (n ∷ bytes) h e = rw (refused last n bytes (max_entries - count) (fits n bytes h ∙ e))

    good : (left : List ℕ) → Splits left (Some (name, fixity, rest)) → count < max_entries → (before last name.now && leb (get_or fixity.now 2 0) Right) ≡ true → counted last left count ≡ counted name.now rest.now (count + 1)
    good [] h few e = cc
    good (n ∷ bytes) h few e =
        let z : max_entries - count ≡ suc (max_entries - (count + 1)) = omega arith in
        rw (z, h.name-is, h.behind-is) (goes last n bytes count (max_entries - (count + 1)) (fits n bytes h ∙ e))

pub loop-last-init : goal.loop-last-init
unfolding env_of
loop-last-init c = (omega arith, behind-none (env_of c.args.env.now))

pub returns-in_err-name : goal.returns-in_err-name
returns-in_err-name c =
    let l = c.loop-last in
    rw c.from_residual.ensures (sym l.invariant.1 ∙ broken l.last.now l.count l.left.now (sym c.is_empty.ensures ∙ c.loop-last-test.true) c.in_err-name.ensures)

pub returns-then-count-eq256 : goal.returns-then-count-eq256
returns-then-count-eq256 c =
    let l = c.loop-last in
    let e = c.in_ok-name in
    let p = before l.last.now e.name.now in
    sym l.invariant.1
    ∙ elim c.then-count-eq256.branch [
      | then-count-eq256-via-then-count-eq256 w ↦ full l.last.now l.count l.left.now (sym c.is_empty.ensures ∙ c.loop-last-test.true) w.if-count-eq256.true
      | then-count-eq256-via-else-count-eq256+then-not-before w ↦
          let f : p ≡ false = sym w.before-else-count-eq256.ensures ∙ w.if-not-before.true in
          bad l.last.now l.count e.name e.fixity e.behind l.left.now e.ensures (rw f)
      | then-count-eq256-via-else-count-eq256+else-not-before+then-fixity-gt1 w ↦
          let f = lt-leb (get_or e.fixity.now 2 0) Right w.if-fixity-gt1.true in
          bad l.last.now l.count e.name e.fixity e.behind l.left.now e.ensures (rw f (and-false p))
    ]

pub loop-last-preserved : goal.loop-last-preserved
loop-last-preserved c =
    let l = c.loop-last in
    let e = c.in_ok-name in
    let few : l.count < max_entries = omega arith in
    let p : before l.last.now e.name.now ≡ true = sym c.before-else-count-eq256.ensures ∙ c.if-not-before.false in
    let k = le-leb (get_or e.fixity.now 2 0) Right c.if-fixity-gt1.false in
    (omega arith, sym (good l.last.now l.count e.name e.fixity e.behind l.left.now e.ensures few (rw (p, k))) ∙ l.invariant.1)

pub returns : goal.returns
returns c =
    let l = c.loop-last in
    let e = nil_from_length l.left.now (eqb-true (length l.left.now) 0 (sym c.is_empty.ensures ∙ c.loop-last-test.false)) in
    sym l.invariant.1 ∙ rw (e, ends) (ap some (add-zero l.count))
