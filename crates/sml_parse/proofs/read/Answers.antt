-- by hand: two cases of the room, no program.
use mathlib.Core.Path.{sym, ◌∙◌}
use Rattle.answers.specs.Entry.{call_of, served_short, served_long}
use Rattle.sml_parse.proofs.read.Goals as goal

pub returns-then-scratch-le-MOST_SCRATCH : goal.returns-then-scratch-le-MOST_SCRATCH
returns-then-scratch-le-MOST_SCRATCH c =
    let a = c.args in
    c.read_short.ensures ∙ sym (served_short (call_of a.text.now a.toks.now a.env.now a.depth a.mode a.scratch.now a.nodes.now a.finds.now a.last.now) c.if-scratch-le-MOST_SCRATCH.true)

pub returns : goal.returns
returns c =
    let a = c.args in
    c.read_part.ensures ∙ sym (served_long (call_of a.text.now a.toks.now a.env.now a.depth a.mode a.scratch.now a.nodes.now a.finds.now a.last.now) c.if-scratch-le-MOST_SCRATCH.false)
