-- Laws on the definitions of a list: one step of each that goes over bytes or cases, and what the test of the form leaves.
use Rattle.std.specs.Prelude.{ℕ, zero, suc, ◌+◌, ◌-◌, ◌≤◌, ◌<◌, List, ◌≡◌, Bool, true, false, ◌&&◌, leb, eqb, length, get_or, take, drop}
use Rattle.std.proofs.Common.{add-zero, add-one, arith, refl, ap, sym, ◌∙◌, leb-true, eq-eqb, ne_eqb, drop-cons}
use Rattle.std.proofs.lemmas.Bool.Decides.{nat_tests}
use Rattle.std.proofs.lemmas.List.{drop-drop}
use Rattle.std.proofs.Math.Seq.{drop-length}
use Rattle.grammar.specs.Read.{Result}
use Rattle.answers.specs.Entry.{served, call_of}
use Rattle.sml_fixity.specs.EnvBytes.{both}
use Rattle.sml_fixity.specs.Table.{part}
use Rattle.replay_parts.specs.declared.Case.{Case}
use Rattle.replay_parts.specs.Case.{Cut, Splits, call_in, padded, says}
use Rattle.replay_parts.specs.Agree.{is_zero, holds, numbers_agree, bytes_agree, agrees, call_at, agrees_at, miss, differing}
use Rattle.replay_parts.specs.Shift.{all_eight, ends_shift, differing_shift}
use Rattle.replay_parts.specs.Form.{text_from, toks_from, env_from, env_end, finds_from, last_from, text_size, toks_size, env_size, depth_at, mode_at, Lent, max_list, first_case, head_size, case_count, case_end, nodes_used, finds_used, last_used, nodes_room, finds_room, last_room, rooms_hold, fits_at, ends_at, is_list, Stands}

-- ---- zeroes

module _ (b : List ℕ) (i : ℕ) (h : i < length b) where
  pub zero_next : get_or b i 0 ≡ 0 → is_zero (drop i b) ≡ is_zero (drop (i + 1) b)
  zero_next e = ap is_zero (drop-cons b i 0 h) ∙ rw (add-one i, eq-eqb (get_or b i 0) 0 e) refl

  pub zero_differs : (get_or b i 0 ≡ 0 → ⊥) → is_zero (drop i b) ≡ false
  zero_differs n = ap is_zero (drop-cons b i 0 h) ∙ rw (ne_eqb (get_or b i 0) 0 n) refl

pub zero_none : (b : List ℕ) (i : ℕ) → i ≡ length b → is_zero (drop i b) ≡ true
zero_none b i e = ap (λ (n : ℕ). is_zero (drop n b)) e ∙ ap is_zero (drop-length b)

-- ---- tests in a row

pub all_two : {a b a' b' : Bool} → a ≡ a' → b ≡ b' → (a && b) ≡ (a' && b')
all_two p q = rw (p, q) refl

pub all_four : {a b c d a' b' c' d' : Bool} → a ≡ a' → b ≡ b' → c ≡ c' → d ≡ d' → (a && b && c && d) ≡ (a' && b' && c' && d')
all_four p q r s = rw (p, q, r, s) refl

-- the same bytes of the list, where they are told by equal numbers
pub held : (b list : List ℕ) {u u' f f' : ℕ} → u ≡ u' → f ≡ f' → holds b u list f ≡ holds b u' list f'
held b list p q = rw (p, q) refl

-- ---- calls

-- settings that are equal
pub settings : (text toks env scratch nodes finds last : List ℕ) {d d' m m' : ℕ} → d ≡ d' → m ≡ m'
    → call_of text toks env d m scratch nodes finds last ≡ call_of text toks env d' m' scratch nodes finds last
settings text toks env scratch nodes finds last p q = rw (p, q) refl

pub part_same : (list : List ℕ) {a a' n n' : ℕ} → a ≡ a' → n ≡ n' → part list a n ≡ part list a' n'
part_same list p q = rw (p, q) refl

-- the call over the parts of a case and buffers of the lengths that it says is the one that it says
pub called : (list : List ℕ) (at : ℕ) {text toks env scratch nodes finds last : List ℕ} → text ≡ part list (text_from at) (text_size list at) → toks ≡ part list (toks_from list at) (toks_size list at)
    → env ≡ part list (env_from list at) (env_size list at) → Lent list at scratch nodes finds last
    → call_of text toks env (depth_at list at) (mode_at list at) scratch nodes finds last ≡ call_at list at
called list at p q r h = rw (p, q, r, h.scratch, h.nodes, h.finds, h.last) refl

-- ---- one case

-- a list that ends before its first case does
pub cut_off : (list : List ℕ) → length list < case_end list 0 → fits_at list 0 ≡ false
unfolding fits_at
cut_off list h = grind (arith, nat_tests)

-- what is left behind the parts that were taken so far, and the next part of it
pub behind : (list rest : List ℕ) (at n k : ℕ) → rest ≡ drop at list → n ≡ k → drop n rest ≡ drop (at + k) list
behind list rest at n k p q = rw (p, q) (drop-drop k at list)

pub next : (list rest : List ℕ) (at n k : ℕ) → rest ≡ drop at list → n ≡ k → take n rest ≡ part list at k
next list rest at n k p q = rw (p, q) refl

-- the test of the rooms by the lengths of the parts
pub rooms : (list : List ℕ) {n f l n' f' l' : ℕ} → n ≡ nodes_used list 0 → f ≡ finds_used list 0 → l ≡ last_used list 0 → n' ≡ nodes_room list 0
    → f' ≡ finds_room list 0 → l' ≡ last_room list 0 → (leb n n' && leb f f' && leb l l') ≡ rooms_hold list 0
unfolding rooms_hold
rooms list p q r s t u = rw (p, q, r, s, t, u) refl

case_within : (list : List ℕ) → fits_at list 0 ≡ true → case_end list 0 ≤ length list
unfolding fits_at
case_within list e = grind (arith, nat_tests)

pub no_room : (list : List ℕ) → rooms_hold list 0 ≡ false → fits_at list 0 ≡ false
unfolding fits_at
no_room list e = rw e (grind (arith, nat_tests))

pub whole_case : (list : List ℕ) → case_end list 0 ≤ length list → rooms_hold list 0 ≡ true → fits_at list 0 ≡ true
unfolding fits_at
whole_case list h e = rw e (grind (arith, nat_tests))

-- ---- cases

one_less : (k : ℕ) → suc k - 1 ≡ k
one_less k = omega arith

module _ (list : List ℕ) (at : ℕ) where
  -- one case and those behind it
  ends_next : (k : ℕ) → 0 < k → ends_at k list at ≡ (fits_at list at && ends_at (k - 1) list (case_end list at))
  unfolding ends_at
  ends_next zero h = absurd (omega arith)
  ends_next (suc k) h = rw (one_less k) refl

  pub ends_stop : fits_at list at ≡ false → (k : ℕ) → 0 < k → ends_at k list at ≡ false
  ends_stop e k h = ends_next k h ∙ ap (λ (t : Bool). t && ends_at (k - 1) list (case_end list at)) e

  pub ends_step : fits_at list at ≡ true → (k : ℕ) → 0 < k → ends_at k list at ≡ ends_at (k - 1) list (case_end list at)
  ends_step e k h = ends_next k h ∙ ap (λ (t : Bool). t && ends_at (k - 1) list (case_end list at)) e

  -- where cases stand, the first of them fits
  pub ends_fits : (k : ℕ) → 0 < k → ends_at k list at ≡ true → fits_at list at ≡ true
  ends_fits k h e = (both (fits_at list at) (ends_at (k - 1) list (case_end list at)) (sym (ends_next k h) ∙ e)).0

  pub ends_none : (k : ℕ) → k ≡ 0 → ends_at k list at ≡ eqb at (length list)
  unfolding ends_at
  ends_none k e = rw e refl

  pub differing_next : (k : ℕ) → 0 < k → differing k list at ≡ miss (agrees_at list at) + differing (k - 1) list (case_end list at)
  unfolding differing
  differing_next zero h = absurd (omega arith)
  differing_next (suc k) h = rw (one_less k) refl

  pub differing_none : (k : ℕ) → k ≡ 0 → differing k list at ≡ 0
  unfolding differing
  differing_none k e = rw e refl

-- ---- cases in front of what is left

-- where a case is split off, the others stand behind it
pub ends_behind : (list : List ℕ) (c : Case) (rest : List ℕ) → Splits list c rest → (k : ℕ) → 0 < k → ends_at k list 0 ≡ ends_at (k - 1) rest 0
ends_behind list c rest s k h =
    let e = case_end list 0 in
    ends_step list 0 s.fits k h
    ∙ ap (λ n. ends_at (k - 1) list n) (sym (add-zero e))
    ∙ sym (ends_shift e list (case_within list s.fits) (k - 1) 0)
    ∙ ap (λ l. ends_at (k - 1) l 0) (sym s.behind)

-- no case is left where no byte is
pub ends_empty : (list : List ℕ) (k : ℕ) → k ≡ 0 → ends_at k list 0 ≡ eqb (length list) 0
ends_empty list k e = ends_none list 0 k e ∙ grind (arith, nat_tests)

-- ---- a case's call and results

-- the call of a case is the one that its bytes say
case_called : (list : List ℕ) (c : Case) → Cut list c → call_in c ≡ call_at list 0
case_called list c h = rw (h.text, h.toks, h.env, h.depth, h.mode, h.scratch_room, h.nodes_room, h.finds_room, h.last_room) refl

-- the same bytes, where the list has them
part_held : (b said list : List ℕ) (n from : ℕ) → length said ≡ n → said ≡ part list from n → padded b said ≡ holds b n list from
unfolding holds
part_held b said list n from p q = rw (p, q) refl

-- and so is what it says of a result
said : (list : List ℕ) (c : Case) → Cut list c → (r : Result) → says c r ≡ agrees r list 0
unfolding agrees numbers_agree bytes_agree
said list c h r =
    all_eight
    (ap (eqb r.answer) h.answer) (ap (eqb r.nodes_used) h.nodes_used) (ap (eqb r.finds_used) h.finds_used) (ap (eqb r.final_used) h.last_used)
    (is_zero r.scratch)
    (part_held r.nodes c.nodes.now list _ (env_end list 0) h.nodes_used h.nodes)
    (part_held r.finds c.finds.now list _ (finds_from list 0) h.finds_used h.finds)
    (part_held r.final c.last.now list _ (last_from list 0) h.last_used h.last)

pub differing_step : (list : List ℕ) (c : Case) (rest : List ℕ) → Splits list c rest → (k : ℕ) → 0 < k
    → differing k list 0 ≡ miss (says c (served (call_in c))) + differing (k - 1) rest 0
unfolding agrees_at
differing_step list c rest s k h =
    let e = case_end list 0 in
    let here : agrees (served (call_at list 0)) list 0 ≡ says c (served (call_in c)) =
    ap (λ d. agrees (served d) list 0) (sym (case_called list c s.cut)) ∙ sym (said list c s.cut (served (call_in c))) in
    let there : differing (k - 1) list e ≡ differing (k - 1) rest 0 =
    ap (λ n. differing (k - 1) list n) (sym (add-zero e)) ∙ sym (differing_shift e list (k - 1) 0) ∙ ap (λ l. differing (k - 1) l 0) (sym s.behind) in
    differing_next list 0 k h ∙ rw (here, there) refl

-- ---- the form

pub stands : (list : List ℕ) (at : ℕ) → length list ≤ max_list → fits_at list at ≡ true → Stands list at
unfolding fits_at rooms_hold
stands list at small e =
    let head = leb (at + head_size) (length list) in
    let whole = leb (case_end list at) (length list) in
    let nodes = leb (nodes_used list at) (nodes_room list at) in
    let finds = leb (finds_used list at) (finds_room list at) in
    let last = leb (last_used list at) (last_room list at) in
    let a = both (head && whole) (nodes && finds && last) e in
    let b = both head whole a.0 in
    let r = both (nodes && finds) last a.1 in
    let s = both nodes finds r.0 in
    record {
      small = small;
      head = leb-true (at + head_size) (length list) b.0;
      whole = leb-true (case_end list at) (length list) b.1;
      nodes = leb-true (nodes_used list at) (nodes_room list at) s.0;
      finds = leb-true (finds_used list at) (finds_room list at) s.1;
      last = leb-true (last_used list at) (last_room list at) r.1;
    }

-- What the test of the form leaves of the list.
pub record Formed (list : List ℕ) : Type 0 where
  pub small : length list ≤ max_list
  pub counted : first_case ≤ length list
  pub ends : ends_at (case_count list) list first_case ≡ true

pub formed : (list : List ℕ) → is_list list ≡ true → Formed list
unfolding is_list
formed list e =
    let small = leb (length list) max_list in
    let counted = leb first_case (length list) in
    let a = both (small && counted) (ends_at (case_count list) list first_case) e in
    let b = both small counted a.0 in
    record { small = leb-true (length list) max_list b.0; counted = leb-true first_case (length list) b.1; ends = a.1 }
