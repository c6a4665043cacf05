-- What stands in a list from a place on stands in front of the bytes that are left there.
use Rattle.std.specs.Prelude.{ℕ, zero, suc, ◌+◌, ◌≤◌, List, ◌≡◌, Bool, ◌&&◌, leb, eqb, length, get_or, take, drop}
use Rattle.std.proofs.Common.{arith, ◌∙◌, ap, refl, length-drop}
use Rattle.std.proofs.lemmas.Bool.Decides.{nat_tests}
use Rattle.std.proofs.lemmas.List.{get_or-drop, drop-drop}
use Rattle.grammar.specs.Bytes.{pair_at}
use Rattle.sml_fixity.specs.Table.{part}
use Rattle.grammar.specs.Read.{Call, Result}
use Rattle.answers.specs.Entry.{served}
use Rattle.replay_parts.specs.Form.{text_from, toks_from, env_from, env_end, finds_from, last_from, long_at, case_end, rooms_hold, fits_at, ends_at}
use Rattle.replay_parts.specs.Agree.{is_zero, holds, numbers_agree, bytes_agree, agrees, call_at, agrees_at, differing}

-- a call by its fields
abbrev made : (text toks env : List ℕ) (d m s n f e : ℕ) → Call
made text toks env d m s n f e = record { text = text; toks = toks; env = env; depth = d; mode = m; scratch = s; nodes = n; finds = f; final = e }

leb_shift : (k a b c d : ℕ) → k + a ≡ b → k + c ≡ d → leb a c ≡ leb b d
leb_shift k a b c d p q = grind (arith, nat_tests)

eqb_shift : (k a b c d : ℕ) → k + a ≡ b → k + c ≡ d → eqb a c ≡ eqb b d
eqb_shift k a b c d p q = grind (arith, nat_tests)

call_same : {text text' toks toks' env env' : List ℕ} {d d' m m' s s' n n' f f' e e' : ℕ} → text ≡ text' → toks ≡ toks' → env ≡ env' → d ≡ d' → m ≡ m' → s ≡ s'
    → n ≡ n' → f ≡ f' → e ≡ e' → made text toks env d m s n f e ≡ made text' toks' env' d' m' s' n' f' e'
call_same p q r s t u v w x = rw (p, q, r, s, t, u, v, w, x) refl

-- two rows of four tests
pub all_eight : {a a' b b' c c' d d' f f' g g' h h' : Bool} → a ≡ a' → b ≡ b' → c ≡ c' → d ≡ d' → (e : Bool) → f ≡ f' → g ≡ g' → h ≡ h'
    → ((a && b && c && d) && (e && f && g && h)) ≡ ((a' && b' && c' && d') && (e && f' && g' && h'))
all_eight p q r s e t u v = rw (p, q, r, s, t, u, v) refl

module _ (k : ℕ) (l : List ℕ) where
  byte_shift : (i j : ℕ) → k + i ≡ j → get_or (drop k l) i 0 ≡ get_or l j 0
  byte_shift i j e = get_or-drop k l i 0 ∙ ap (λ n. get_or l n 0) e

  pair_shift : (i j : ℕ) → k + i ≡ j → pair_at (drop k l) i ≡ pair_at l j
  pair_shift i j e = omega (arith, byte_shift i j e, byte_shift (i + 1) (j + 1) (omega arith))

  -- the number in a head so far behind its start
  field_shift : (j c : ℕ) → pair_at (drop k l) (j + c) ≡ pair_at l (k + j + c)
  field_shift j c = pair_shift (j + c) (k + j + c) (omega arith)

  end_shift : (j : ℕ) → k + case_end (drop k l) j ≡ case_end l (k + j)
  end_shift j =
      omega (arith, pair_shift j (k + j) refl, field_shift j 2, field_shift j 4, field_shift j 6, field_shift j 8, field_shift j 10)

  rooms_shift : (j : ℕ) → rooms_hold (drop k l) j ≡ rooms_hold l (k + j)
  unfolding rooms_hold
  rooms_shift j = rw (field_shift j 6, field_shift j 8, field_shift j 10, field_shift j 14, field_shift j 16, field_shift j 18) refl

  -- ---- calls and results

  long_shift : (j c : ℕ) → long_at (drop k l) (j + c) ≡ long_at l (k + j + c)
  long_shift j c =
      let a = field_shift j c in
      let b = pair_shift (j + c + 2) (k + j + c + 2) (omega arith) in
      let d = pair_shift (j + c + 4) (k + j + c + 4) (omega arith) in
      let e = pair_shift (j + c + 6) (k + j + c + 6) (omega arith) in
      omega (arith, a, b, d, e)

  part_shift : (a b n m : ℕ) → k + a ≡ b → n ≡ m → part (drop k l) a n ≡ part l b m
  part_shift a b n m p q = ap (take n) (drop-drop a k l) ∙ rw (p, q) refl

  holds_shift : (b : List ℕ) (a c n m : ℕ) → k + a ≡ c → n ≡ m → holds b n (drop k l) a ≡ holds b m l c
  unfolding holds
  holds_shift b a c n m p q = rw (part_shift a c n m p q, q) refl

  module _ (j : ℕ) where
    text : pair_at (drop k l) j ≡ pair_at l (k + j)
    text = pair_shift j (k + j) refl

    call_shift : call_at (drop k l) j ≡ call_at l (k + j)
    call_shift =
        call_same
        (part_shift (text_from j) (text_from (k + j)) _ _ (omega arith) text)
        (part_shift (toks_from (drop k l) j) (toks_from l (k + j)) _ _ (omega (arith, text)) (field_shift j 2))
        (part_shift (env_from (drop k l) j) (env_from l (k + j)) _ _ (omega (arith, text, field_shift j 2)) (field_shift j 4))
        (long_shift j 20) (long_shift j 28) (field_shift j 12) (field_shift j 14) (field_shift j 16) (field_shift j 18)

    agrees_shift : (r : Result) → agrees r (drop k l) j ≡ agrees r l (k + j)
    unfolding agrees numbers_agree bytes_agree
    agrees_shift r =
        let ends : k + env_end (drop k l) j ≡ env_end l (k + j) = omega (arith, text, field_shift j 2, field_shift j 4) in
        let finds : k + finds_from (drop k l) j ≡ finds_from l (k + j) = omega (arith, ends, field_shift j 6) in
        let last : k + last_from (drop k l) j ≡ last_from l (k + j) = omega (arith, finds, field_shift j 8) in
        let answer = byte_shift (j + 36) (k + j + 36) (omega arith) in
        all_eight
        (ap (eqb r.answer) answer)
        (ap (eqb r.nodes_used) (field_shift j 6)) (ap (eqb r.finds_used) (field_shift j 8)) (ap (eqb r.final_used) (field_shift j 10))
        (is_zero r.scratch)
        (holds_shift r.nodes _ _ _ _ ends (field_shift j 6)) (holds_shift r.finds _ _ _ _ finds (field_shift j 8)) (holds_shift r.final _ _ _ _ last (field_shift j 10))

  pub differing_shift : (n j : ℕ) → differing n (drop k l) j ≡ differing n l (k + j)
  unfolding differing agrees_at
  differing_shift zero j = refl
  differing_shift (suc n) j =
      let here : agrees (served (call_at (drop k l) j)) (drop k l) j ≡ agrees (served (call_at l (k + j))) l (k + j) =
      ap (λ c. agrees (served c) (drop k l) j) (call_shift j) ∙ agrees_shift j (served (call_at l (k + j))) in
      rw (here, differing_shift n (case_end (drop k l) j), end_shift j) refl

  -- ---- the form

  module _ (h : k ≤ length l) where
    whole : k + length (drop k l) ≡ length l
    whole = omega (arith, length-drop k l)

    fits_shift : (j : ℕ) → fits_at (drop k l) j ≡ fits_at l (k + j)
    unfolding fits_at
    fits_shift j =
        rw (
          leb_shift k (j + 37) (k + j + 37) (length (drop k l)) (length l) (omega arith) whole,
          leb_shift k (case_end (drop k l) j) (case_end l (k + j)) (length (drop k l)) (length l) (end_shift j) whole,
          rooms_shift j,
        ) refl

    pub ends_shift : (n j : ℕ) → ends_at n (drop k l) j ≡ ends_at n l (k + j)
    unfolding ends_at
    ends_shift zero j = eqb_shift k j (k + j) (length (drop k l)) (length l) refl whole
    ends_shift (suc n) j = rw (fits_shift j, ends_shift n (case_end (drop k l) j), end_shift j) refl
