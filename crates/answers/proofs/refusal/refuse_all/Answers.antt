-- by hand: four calls and a record, no program.
use Rattle.answers.proofs.Hands.{refused_all}
use Rattle.answers.proofs.refusal.refuse_all.Goals as goal

pub returns : goal.returns
returns c =
    let a = c.args in
    refused_all a.why a.scratch.now a.nodes.now a.finds.now a.last.now c.clear.ensures c.clear-2.ensures c.clear-3.ensures c.clear-4.ensures
