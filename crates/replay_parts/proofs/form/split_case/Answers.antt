-- by hand: each part stands behind those before it, so a list is too short for the case where it is too short for a part.
use Rattle.std.proofs.Common.{◌≡◌, ◌≤◌, length, drop, arith, refl, sym, ◌∙◌, le_refl}
use Rattle.std.proofs.lemmas.Slice.{between_to_end}
use Rattle.replay_parts.specs.Form.{text_from, toks_from, env_from, env_end, finds_from, last_from, case_end}
use Rattle.replay_parts.specs.Laws.{cut_off, behind, next, rooms, no_room, whole_case}
use Rattle.replay_parts.proofs.form.split_case.Goals as goal

pub returns-in_err-rest : goal.returns-in_err-rest
returns-in_err-rest c = rw c.from_residual.ensures (cut_off _ (omega (arith, c.in_err-rest.ensures.lookup)))

pub returns-in_err-text : goal.returns-in_err-text
returns-in_err-text c = rw c.from_residual-in_err-text.ensures (cut_off _ (omega (arith, c.in_ok-rest.ensures.lookup, c.in_err-text.ensures)))

pub returns-in_err-toks : goal.returns-in_err-toks
returns-in_err-toks c =
    rw c.from_residual-in_err-toks.ensures (cut_off _ (omega (arith, c.in_ok-rest.ensures.lookup, c.in_ok-text.ensures, c.in_err-toks.ensures)))

pub returns-in_err-env : goal.returns-in_err-env
returns-in_err-env c =
    rw c.from_residual-in_err-env.ensures (cut_off _ (omega (arith, c.in_ok-rest.ensures.lookup, c.in_ok-text.ensures, c.in_ok-toks.ensures, c.in_err-env.ensures)))

pub returns-in_err-nodes : goal.returns-in_err-nodes
returns-in_err-nodes c =
    rw c.from_residual-in_err-nodes.ensures (cut_off _ (omega (arith, c.in_ok-rest.ensures.lookup, c.in_ok-text.ensures, c.in_ok-toks.ensures, c.in_ok-env.ensures, c.in_err-nodes.ensures)))

pub returns-in_err-finds : goal.returns-in_err-finds
returns-in_err-finds c =
    rw c.from_residual-in_err-finds.ensures (cut_off _ (omega (arith, c.in_ok-rest.ensures.lookup, c.in_ok-text.ensures, c.in_ok-toks.ensures, c.in_ok-env.ensures, c.in_ok-nodes.ensures, c.in_err-finds.ensures)))

pub returns-in_err-last : goal.returns-in_err-last
returns-in_err-last c =
    rw c.from_residual-in_err-last.ensures (cut_off _ (omega (arith, c.in_ok-rest.ensures.lookup, c.in_ok-text.ensures, c.in_ok-toks.ensures, c.in_ok-env.ensures, c.in_ok-nodes.ensures, c.in_ok-finds.ensures, c.in_err-last.ensures)))

pub returns-then-not-has_room : goal.returns-then-not-has_room
returns-then-not-has_room c =
    let list = c.args.list.now in
    let held = rooms list (c.in_ok-nodes.ensures.2 ∙ c.number-4.ensures) (c.in_ok-finds.ensures.2 ∙ c.number-5.ensures) (c.in_ok-last.ensures.2 ∙ c.number-6.ensures) c.number-8.ensures c.number-9.ensures c.number-10.ensures in
    no_room list (sym held ∙ sym c.has_room.ensures ∙ c.if-not-has_room.true)

pub returns : goal.returns
returns c =
    let list = c.args.list.now in
    let d0 : c.in_ok-rest.rest.now ≡ drop (text_from 0) list = c.in_ok-rest.ensures.lookup.0.2 ∙ between_to_end list (text_from 0) (length list) (le_refl _) in
    let d1 : c.in_ok-text.rest.now ≡ drop (toks_from list 0) list = c.in_ok-text.ensures.1 ∙ behind list _ _ _ _ d0 c.number.ensures in
    let d2 : c.in_ok-toks.rest.now ≡ drop (env_from list 0) list = c.in_ok-toks.ensures.1 ∙ behind list _ _ _ _ d1 c.number-2.ensures in
    let d3 : c.in_ok-env.rest.now ≡ drop (env_end list 0) list = c.in_ok-env.ensures.1 ∙ behind list _ _ _ _ d2 c.number-3.ensures in
    let d4 : c.in_ok-nodes.rest.now ≡ drop (finds_from list 0) list = c.in_ok-nodes.ensures.1 ∙ behind list _ _ _ _ d3 c.number-4.ensures in
    let d5 : c.in_ok-finds.rest.now ≡ drop (last_from list 0) list = c.in_ok-finds.ensures.1 ∙ behind list _ _ _ _ d4 c.number-5.ensures in
    let d6 : c.in_ok-last.rest.now ≡ drop (case_end list 0) list = c.in_ok-last.ensures.1 ∙ behind list _ _ _ _ d5 c.number-6.ensures in
    let nodes = c.in_ok-nodes.ensures.2 ∙ c.number-4.ensures in
    let finds = c.in_ok-finds.ensures.2 ∙ c.number-5.ensures in
    let last = c.in_ok-last.ensures.2 ∙ c.number-6.ensures in
    let held = rooms list nodes finds last c.number-8.ensures c.number-9.ensures c.number-10.ensures in
    let there : case_end list 0 ≤ length list = omega (arith, c.in_ok-rest.ensures.lookup, c.in_ok-text.ensures, c.in_ok-toks.ensures, c.in_ok-env.ensures, c.in_ok-nodes.ensures, c.in_ok-finds.ensures, c.in_ok-last.ensures) in
    record {
      fits = whole_case list there (sym held ∙ sym c.has_room.ensures ∙ c.if-not-has_room.false);
      cut = record {
        text = c.in_ok-text.ensures.0 ∙ next list _ (text_from 0) _ _ d0 c.number.ensures;
        toks = c.in_ok-toks.ensures.0 ∙ next list _ _ _ _ d1 c.number-2.ensures;
        env = c.in_ok-env.ensures.0 ∙ next list _ _ _ _ d2 c.number-3.ensures;
        depth = c.long.ensures;
        mode = c.long-2.ensures;
        scratch_room = c.number-7.ensures;
        nodes_room = c.number-8.ensures;
        finds_room = c.number-9.ensures;
        last_room = c.number-10.ensures;
        answer = refl;
        nodes = c.in_ok-nodes.ensures.0 ∙ next list _ _ _ _ d3 c.number-4.ensures;
        finds = c.in_ok-finds.ensures.0 ∙ next list _ _ _ _ d4 c.number-5.ensures;
        last = c.in_ok-last.ensures.0 ∙ next list _ _ _ _ d5 c.number-6.ensures;
        nodes_used = nodes;
        finds_used = finds;
        last_used = last;
      };
      behind = d6;
    }
