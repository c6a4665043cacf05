-- by hand: the tests of what is handed out, no program.
use native.Mathlib.Omega.{arith}
use mathlib.Core.Path.{sym, ap, ◌∙◌}
use Rattle.answers.proofs.Hands.{ready, over_nodes, over_final, all_handed, refused_same}
use Rattle.std.proofs.lemmas.Slice.{overwrites}
use Rattle.std.proofs.Common.{rules, length, ◌*◌, ◌≤◌}
use Rattle.parser.specs.View.{Mem, Sound}
use Rattle.grammar.specs.Read.{zeroes}
use Rattle.answers.proofs.hand.hand_out.Goals as goal

-- the log is within scratch
logged : {m : Mem} → Sound m → 8 * m.state.len ≤ length m.scratch
logged o = let l = o.logs in omega arith

pub returns-then-nodes-count : goal.returns-then-nodes-count
returns-then-nodes-count c =
    let a = c.args in
    let n = c.node_count-count in
    c.refuse_all.ensures
    ∙ sym (over_nodes a.lent.text.now a.lent.toks.now a.lent.env.now a.table.now a.scratch.now a.nodes.now a.finds.now a.last.now a.s n.result (logged c.requires.0) n.ensures c.if-nodes-count.true)

pub returns-in_default : goal.returns-in_default
returns-in_default c =
    let a = c.args in
    let n = c.node_count-count in
    let e = c.finish_env in
    let over = rw c.in_default.is at e.ensures in
    c.refuse_all-in_default.ensures
    ∙ refused_same 9 a.scratch.now a.nodes.now a.finds.now a.last.now e.new.last e.auto.last
    ∙ sym (over_final a.lent.text.now a.lent.toks.now a.lent.env.now a.table.now a.scratch.now a.nodes.now a.finds.now a.last.now a.s n.result (logged c.requires.0) n.ensures c.if-nodes-count.false over)

pub write_nodes-requires : goal.write_nodes-requires
write_nodes-requires c =
    let a = c.args in
    let n = c.node_count-count in
    ready a.lent.text.now a.lent.toks.now a.lent.env.now a.table.now a.scratch.now a.nodes.now a.finds.now a.last.now a.s n.result (logged c.requires.0) n.ensures c.requires.1 c.if-nodes-count.false

pub returns : goal.returns
returns c =
    let a = c.args in
    let n = c.node_count-count in
    let e = c.finish_env in
    let held = rw c.in-Ok.is at e.ensures in
    let w = c.write_nodes in
    all_handed a.lent.text.now a.lent.toks.now a.lent.env.now a.table.now a.scratch.now a.nodes.now a.finds.now a.last.now a.s n.result (logged c.requires.0) n.ensures c.if-nodes-count.false _ held (c.clear.ensures ∙ ap zeroes (search (rules, overwrites, logged c.requires.0, w.auto.log))) w.ensures c.finish_finds.ensures
