-- by hand: a record made of what was tested, no program.
use native.Mathlib.Omega.{arith}
use Rattle.answers.proofs.Starts.{lists_fit_lem, started, start_seen}
use Rattle.answers.proofs.start.start_state.Goals as goal

pub next_live-requires : goal.next_live-requires
next_live-requires c =
    let l = lists_fit_lem c.args.lent.text.now c.args.lent.toks.now c.requires.0.lists in
    (l.whole, l.few, omega arith)

pub returns : goal.returns
returns c =
    let a = c.args in (
      started a.lent.text.now a.lent.toks.now a.lent.env.now a.table.now a.scratch.now a.finds.now a.entries a.mode c.next_live.result c.requires.0 c.requires.1 c.requires.2 c.next_live.ensures,
      start_seen a.lent.text.now a.lent.toks.now a.lent.env.now a.table.now a.scratch.now a.finds.now a.entries a.mode c.next_live.result c.requires.0 c.requires.1 c.requires.2 c.next_live.ensures,
    )
