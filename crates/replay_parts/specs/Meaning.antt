-- What the definitions come to: where none of a list's cases differs, the result of each call is the one that the list says, to the last byte.
use Rattle.std.specs.Prelude.{ℕ, zero, suc, ◌+◌, ◌-◌, ◌≤◌, ◌≡◌, refl, List, [], ◌∷◌, ◌++◌, Bool, true, false, ◌&&◌, length, take, drop}
use Rattle.std.proofs.Common.{arith, sym, ◌∙◌, eqb-true, length-take, length-drop, take-append-drop}
use Rattle.std.proofs.Math.Path.{ap}
use Rattle.std.proofs.Math.Dec.{eqb}
use Rattle.grammar.specs.Bytes.{same}
use Rattle.grammar.specs.Read.{Result, zeroes, pad}
use Rattle.sml_fixity.specs.Names.{same_eq}
use Rattle.sml_fixity.specs.EnvBytes.{both}
use Rattle.sml_fixity.specs.Table.{part}
use Rattle.answers.specs.Entry.{served}
use Rattle.replay_parts.specs.Form.{Stands, Lent, max_list, first_case, case_count, fits_at, ends_at, is_list, env_end, finds_from, last_from, case_end, answer_at, nodes_used, finds_used, last_used, scratch_room, nodes_room, finds_room, last_room}
use Rattle.replay_parts.specs.Agree.{is_zero, holds, numbers_agree, bytes_agree, agrees, call_at, agrees_at, miss, differing}
use Rattle.replay_parts.specs.Laws.{stands, formed}
use Rattle.replay_parts.specs.Lengths.{served_sized}

-- a result by its fields
abbrev made : (a n f l : ℕ) (ss ns fs ls : List ℕ) → Result
made a n f l ss ns fs ls = record { answer = a; nodes_used = n; finds_used = f; final_used = l; scratch = ss; nodes = ns; finds = fs; final = ls }

-- The result that a case says: its numbers, its bytes, and zeroes behind them and in scratch.
abbrev pub said_at : List ℕ → ℕ → Result
said_at list at =
    made (answer_at list at) (nodes_used list at) (finds_used list at) (last_used list at) (zeroes (scratch_room list at))
    (pad (nodes_room list at) (part list (env_end list at) (nodes_used list at)))
    (pad (finds_room list at) (part list (finds_from list at) (finds_used list at)))
    (pad (last_room list at) (part list (last_from list at) (last_used list at)))

-- ---- bytes

zero_all : (b : List ℕ) → is_zero b ≡ true → b ≡ zeroes (length b)
zero_all [] h = refl
zero_all (x ∷ xs) h =
    let t = both (eqb x 0) (is_zero xs) h in
    ap (λ (y : ℕ). y ∷ xs) (eqb-true x 0 t.0) ∙ ap (λ (l : List ℕ). 0 ∷ l) (zero_all xs t.1)

held_all : (b : List ℕ) (used : ℕ) (list : List ℕ) (from : ℕ) → from + used ≤ length list → holds b used list from ≡ true → b ≡ pad (length b) (part list from used)
unfolding holds pad
held_all b used list from g e =
    let t = both (same (take used b) (part list from used)) (is_zero (drop used b)) e in
    let s : take used b ≡ part list from used = same_eq (take used b) (part list from used) t.0 in
    let k : length (part list from used) ≡ used = simp (length-take, length-drop) (omega arith) in
    let n : length (drop used b) ≡ length b - length (part list from used) = simp length-drop (omega (arith, k)) in
    sym (take-append-drop used b)
    ∙ ap (λ (l : List ℕ). l ++ drop used b) s
    ∙ ap (λ (l : List ℕ). part list from used ++ l) (zero_all (drop used b) t.1 ∙ ap zeroes n)

-- ---- results

same_fields : {a n f l a' n' f' l' : ℕ} {ss ns fs ls ss' ns' fs' ls' : List ℕ} → a ≡ a' → n ≡ n' → f ≡ f' → l ≡ l' → ss ≡ ss' → ns ≡ ns' → fs ≡ fs' → ls ≡ ls'
    → made a n f l ss ns fs ls ≡ made a' n' f' l' ss' ns' fs' ls'
same_fields p q r s t u v w = rw (p, q, r, s, t, u, v, w) refl

module _ (list : List ℕ) (at : ℕ) (there : Stands list at) where
  -- what agrees, over buffers of the lengths that the case says, is what the case says
  pub agreed : (r : Result) → Lent list at r.scratch r.nodes r.finds r.final → agrees r list at ≡ true → r ≡ said_at list at
  unfolding agrees numbers_agree bytes_agree
  agreed r lent e =
      let answer = eqb r.answer (answer_at list at) in
      let nodes = eqb r.nodes_used (nodes_used list at) in
      let finds = eqb r.finds_used (finds_used list at) in
      let last = eqb r.final_used (last_used list at) in
      let zs = is_zero r.scratch in
      let ns = holds r.nodes (nodes_used list at) list (env_end list at) in
      let fs = holds r.finds (finds_used list at) list (finds_from list at) in
      let ls = holds r.final (last_used list at) list (last_from list at) in
      let a = both (answer && nodes && finds && last) (zs && ns && fs && ls) e in
      let b = both (answer && nodes && finds) last a.0 in
      let c = both (answer && nodes) finds b.0 in
      let d = both answer nodes c.0 in
      let f = both (zs && ns && fs) ls a.1 in
      let g = both (zs && ns) fs f.0 in
      let h = both zs ns g.0 in
      same_fields (eqb-true r.answer (answer_at list at) d.0) (eqb-true r.nodes_used (nodes_used list at) d.1) (eqb-true r.finds_used (finds_used list at) c.1)
      (eqb-true r.final_used (last_used list at) b.1)
      (zero_all r.scratch h.0 ∙ ap zeroes lent.scratch)
      (held_all r.nodes (nodes_used list at) list (env_end list at) (omega (arith, there.whole)) h.1 ∙ ap (λ (n : ℕ). pad n (part list (env_end list at) (nodes_used list at))) lent.nodes)
      (held_all r.finds (finds_used list at) list (finds_from list at) (omega (arith, there.whole)) g.1 ∙ ap (λ (n : ℕ). pad n (part list (finds_from list at) (finds_used list at))) lent.finds)
      (held_all r.final (last_used list at) list (last_from list at) (omega (arith, there.whole)) f.1 ∙ ap (λ (n : ℕ). pad n (part list (last_from list at) (last_used list at))) lent.last)

-- ---- lists

-- Each of so many cases from there on is answered as it says: the result of its call is, to the last byte, the one that stands in the list.
abbrev pub Said : ℕ → List ℕ → ℕ → Type 0
Said zero list at = Unit {0}
Said (suc n) list at = (served (call_at list at) ≡ said_at list at) × Said n list (case_end list at)

missed_none : (t : Bool) (n : ℕ) → miss t + n ≡ 0 → t ≡ true
missed_none true n e = refl
missed_none false n e = absurd (omega arith)

missed_rest : (t : Bool) (n : ℕ) → miss t + n ≡ 0 → n ≡ 0
missed_rest true n e = omega arith
missed_rest false n e = absurd (omega arith)

case_said : (list : List ℕ) (at : ℕ) → Stands list at → agrees_at list at ≡ true → served (call_at list at) ≡ said_at list at
unfolding agrees_at
case_said list at s e =
    let z = served_sized (call_at list at) in
    agreed list at s (served (call_at list at)) (record { scratch = z.scratch; nodes = z.nodes; finds = z.finds; last = z.final }) e

cases_said : (n : ℕ) (list : List ℕ) (at : ℕ) → length list ≤ max_list → ends_at n list at ≡ true → differing n list at ≡ 0 → Said n list at
unfolding ends_at differing
cases_said zero list at small ends e = tt
cases_said (suc n) list at small ends e =
    let f = both (fits_at list at) (ends_at n list (case_end list at)) ends in
    let rest = differing n list (case_end list at) in (
      case_said list at (stands list at small f.0) (missed_none (agrees_at list at) rest e),
      cases_said n list (case_end list at) small f.1 (missed_rest (agrees_at list at) rest e),
    )

-- Where a list is one, and none of its cases differs, each of them is answered as it says.
pub none_differs : (list : List ℕ) → is_list list ≡ true → differing (case_count list) list first_case ≡ 0 → Said (case_count list) list first_case
none_differs list e d = let f = formed list e in cases_said (case_count list) list first_case f.small f.ends d
