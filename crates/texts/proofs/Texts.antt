-- Laws of the tokens ahead and of their texts.
use Prim.Native.Nat.{ℕ, ◌+◌, ◌-◌, ◌*◌, ◌≤◌, ◌<◌}
use native.Mathlib.Nat.{add-zero, sub-zero}
use native.Mathlib.Omega.{arith}
use mathlib.Core.Path.{◌≡◌, refl, ap, sym, ◌∙◌}
use mathlib.Core.List.{List, [], ◌∷◌}
use mathlib.Core.Option.{Option, none, some}
use mathlib.Core.Bool.{Bool, true, false, ◌&&◌}
use borrow.Author.Tests.{eq-eqb, ne_eqb, le-leb, lt-leb}
use lib.Dec.{leb}
use lib.ListN.{length, get_or}
use lib.Seq.{take-length}
use Rattle.std.specs.Prelude.{Some, None}
use Rattle.std.specs.Prelude as std
use Rattle.grammar.specs.Bytes.{same}
use Rattle.grammar.specs.Tokens.{text_at}
use Rattle.grammar.specs.Env.{find}
use Rattle.grammar.specs.World.World.{refused, on}
use Rattle.grammar.specs.World.{World, token_ahead, says_ahead, number_ahead, fixity_ahead, digits, some_digits, signed_digits, parse_u16, number_of, max_u16, digit0, digit9, plus, tilde, radix, negative, invalid, valid}
use Rattle.grammar.specs.Prog.{seen}
use Rattle.grammar.specs.Prog.Look.{says, number}
use Rattle.laws.specs.Choice.{if_both}
use Rattle.sml_fixity.specs.Fix.{fixity_of}
use Rattle.sml_fixity.specs.Table.{part, table_of}
use Rattle.sml_fixity.specs.declared.Infix.{Infix}
use Rattle.sml_fixity.proofs.Parts.{part_cons}
use Rattle.parser.specs.View.{NoneAhead, Stood, token_at, mem, Says, Fixed, seen_in, now_of, table_in}
use Rattle.texts.specs.Texts.{Absent, Present, bit, value_of}
use Rattle.parser.specs.declared.State.{State}

-- ---- the token ahead in a reading, and its text

module _ {n : ℕ} {t : List ℕ} {s : State} (x : List ℕ) where
  pub absent : NoneAhead n t s → Absent n x t s
  absent a = record { is = λ e j l f. a.is x e j l f }

  pub present : {i : ℕ} {y : List ℕ} → Stood n t s i → text_at x t i ≡ y → Present n x t s y
  present {i} a q = record { goes = λ e j l f. a.goes x e j l f; token = token_at x t i; is = λ e j l f. a.is x e j l f; text_is = q }

-- its fixity
none_ahead : (n : ℕ) (w : World) → token_ahead n w ≡ none → fixity_ahead n w ≡ none
unfolding token_ahead fixity_ahead
none_ahead n (refused k l) h = refl
none_ahead n (on s) h = rw (h, fixity_ahead) refl

module _ {n : ℕ} {x t : List ℕ} {s : State} (e j : List ℕ) where
  pub no_fixity : Absent n x t s → Fixed n x t e j s None
  no_fixity a = record { same = λ l f. sym (none_ahead n (seen_in (mem x t e j l f s)) (a.is e j l f)) }

  pub is_fixity : {y : List ℕ} {r : std.Option Infix} → Present n x t s y → fixity_of r ≡ find y (table_of x e j (table_in s)) → Fixed n x t e j s r
  unfolding token_ahead fixity_ahead now_of
  is_fixity a q = record {
    same = λ l f. let h = rw (a.goes e j l f) at (a.is e j l f) in rw (a.goes e j l f) (rw (h, fixity_ahead) (rw a.text_is q));
  }

-- its word and its number
module _ {x t : List ℕ} {s : State} where
  pub no_word : (w : List ℕ) → Absent 0 x t s → Says (says w) x t s 0
  unfolding seen says_ahead
  no_word w a = record { same = λ e j l f. rw (a.is e j l f, says_ahead) refl }

  pub is_word : (w : List ℕ) {y : List ℕ} {r : Bool} → Present 0 x t s y → r ≡ same y w → Says (says w) x t s (bit r)
  unfolding seen says_ahead
  is_word w a q = record { same = λ e j l f. rw (a.is e j l f, says_ahead) (rw (a.text_is, ← q) refl) }

  pub no_number : Absent 0 x t s → Says number x t s invalid
  unfolding seen number_ahead
  no_number a = record { same = λ e j l f. rw (a.is e j l f, number_ahead) refl }

  pub is_number : {y : List ℕ} {u : ℕ} → Present 0 x t s y → u ≡ number_of y → Says number x t s u
  unfolding seen number_ahead
  is_number a q = record { same = λ e j l f. rw (a.is e j l f, number_ahead) (rw a.text_is q) }

-- ---- fixity numbers

-- a number that is too large stays so
pub digits_over : (v : ℕ) (ds : List ℕ) → max_u16 < v → value_of (digits v ds) ≡ invalid
unfolding digits
digits_over v [] h = rw (lt-leb v max_u16 h, value_of) refl
digits_over v (d ∷ ds) h = if_both (λ (o : Option ℕ). value_of o ≡ invalid) (leb digit0 d && leb d digit9) (λ _. digits_over (radix * v + (d - digit0)) ds (omega arith)) (λ _. refl)

module _ (text : List ℕ) (start len k v : ℕ) (inside : k < len) (fits : start + len ≤ length text) where
  pub digits_low : get_or text (start + k) 0 < digit0 → digits v (part text (start + k) (len - k)) ≡ none
  unfolding digits
  digits_low h = rw (part_cons text start len k inside fits) (rw (lt-leb digit0 (get_or text (start + k) 0) h, digits) refl)

  pub digits_high : digit0 ≤ get_or text (start + k) 0 → digit9 < get_or text (start + k) 0 → digits v (part text (start + k) (len - k)) ≡ none
  unfolding digits
  digits_high g h = rw (part_cons text start len k inside fits) (rw (le-leb digit0 (get_or text (start + k) 0) g, lt-leb (get_or text (start + k) 0) digit9 h, digits) refl)

  pub digits_next : digit0 ≤ get_or text (start + k) 0 → get_or text (start + k) 0 ≤ digit9 → digits v (part text (start + k) (len - k)) ≡ digits (radix * v + (get_or text (start + k) 0 - digit0)) (part text (start + (k + 1)) (len - (k + 1)))
  unfolding digits
  digits_next g h = rw (part_cons text start len k inside fits) (rw (le-leb digit0 (get_or text (start + k) 0) g, le-leb (get_or text (start + k) 0) digit9 h, digits) refl)

-- a byte that makes the value too large ends what is asked
pub digits_large : (text : List ℕ) (start len k v : ℕ) → value_of (digits v (part text (start + k) (len - k))) ≡ value_of (some_digits (part text start len)) → k < len → start + len ≤ length text
    → digit0 ≤ get_or text (start + k) 0 → get_or text (start + k) 0 ≤ digit9 → max_u16 < radix * v + (get_or text (start + k) 0 - digit0) → invalid ≡ value_of (some_digits (part text start len))
digits_large text start len k v e inside fits g h l =
    sym (ap value_of (digits_next text start len k v inside fits g h) ∙ digits_over _ _ l) ∙ e

pub digits_done : (text : List ℕ) (start len k v : ℕ) → len ≤ k → v ≤ max_u16 → value_of (digits v (part text (start + k) (len - k))) ≡ v + valid
unfolding digits
digits_done text start len k v h p = let z : len - k ≡ 0 = omega arith in rw z (rw (le-leb v max_u16 p, value_of) refl)

-- a number that fits is given, and none else
abbrev small : Option ℕ → Option ℕ
small o = elim o [ none ↦ none | some n ↦ elim (leb n max_u16) [ true ↦ some n | false ↦ none ] ]

small_value : (o : Option ℕ) → ◌≡◌ {A = ℕ} (elim (small o) [ none ↦ invalid | some n ↦ n + valid ]) (value_of o)
small_value none = refl
small_value (some n) = go (leb n max_u16) refl
  where
    go : (t : Bool) → leb n max_u16 ≡ t → ◌≡◌ {A = ℕ} (elim (small (some n)) [ none ↦ invalid | some n ↦ n + valid ]) (value_of (some n))
    go true e = rw (e, small, value_of) refl
    go false e = rw (e, small, value_of) refl

-- a number that is parsed, by what its digits are
parse_value : (x : List ℕ) → ◌≡◌ {A = ℕ} (elim (parse_u16 x) [ none ↦ invalid | some n ↦ n + valid ]) (value_of (signed_digits x))
unfolding parse_u16
parse_value x = small_value (signed_digits x)

module _ (text : List ℕ) (start len : ℕ) (inside : 0 < len) (fits : start + len ≤ length text) where
  front : part text start len ≡ get_or text start 0 ∷ part text (start + 1) (len - 1)
  front = simp (add-zero, sub-zero) at (part_cons text start len 0 inside fits)

  pub digits_start : value_of (digits 0 (part text (start + 0) (len - 0))) ≡ value_of (some_digits (part text start len))
  unfolding some_digits
  digits_start = rw (add-zero start, sub-zero len, front) refl

  pub number_tilde : get_or text start 0 ≡ tilde → number_of (part text start len) ≡ negative
  unfolding number_of
  number_tilde h = rw front (rw (eq-eqb (get_or text start 0) tilde h, number_of) refl)

  parsed : (get_or text start 0 ≡ tilde → ⊥) → number_of (part text start len) ≡ value_of (signed_digits (part text start len))
  unfolding number_of parse_u16
  parsed h = rw front (rw (ne_eqb (get_or text start 0) tilde h, number_of) (parse_value (get_or text start 0 ∷ part text (start + 1) (len - 1))))

  pub number_plus : get_or text start 0 ≡ plus → number_of (part text start len) ≡ value_of (some_digits (part text (start + 1) (len - 1)))
  unfolding signed_digits
  number_plus h = parsed (λ e. omega arith) ∙ rw front (rw (eq-eqb (get_or text start 0) plus h, signed_digits) refl)

  pub number_plain : (get_or text start 0 ≡ tilde → ⊥) → (get_or text start 0 ≡ plus → ⊥) → number_of (part text start len) ≡ value_of (some_digits (part text start len))
  unfolding signed_digits
  number_plain h p = parsed h ∙ rw front (rw (ne_eqb (get_or text start 0) plus p, signed_digits) refl)

-- all of a text, as a part of it
pub whole : (x : List ℕ) → part x 0 (length x) ≡ x
whole x = take-length x
