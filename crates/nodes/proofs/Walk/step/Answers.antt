-- by hand: three ways of a walk, each a law of its own.
-- `step` meets its contract: where the walk stands tells that a record is left to be read, and each way is a step of the walk.
use Rattle.std.proofs.Common.{arith, sym, ◌∙◌, length, ◌-◌, ◌/◌, ◌≤◌}
use Rattle.parser.specs.View.{chunk_size}
use Rattle.nodes.proofs.Records.{Copied}
use Rattle.nodes.proofs.Steps.{starts_yes, starts_no, opens_step, more_left, token_step, closes_step}
use Rattle.nodes.proofs.Walk.step.Goals as goal
use Rattle.nodes.proofs.Walk.step.Goals.{Else-starts_here}

pub returns-then-starts_here : goal.returns-then-starts_here
returns-then-starts_here c =
    let a = c.args in
    let y = starts_yes a.log.now (length a.log.now / chunk_size) a.self.top a.self.left (sym c.starts_here.ensures ∙ c.if-starts_here.true) in
    record { does = λ all q. rw c.put_node.ensures (opens_step a.at q.way q.here q.stands y.0 y.1) }

-- where no node starts, a record is left
more : (c : Else-starts_here) → 1 ≤ c.args.self.left
more c =
    let a = c.args in
    let n = starts_no a.log.now (length a.log.now / chunk_size) a.self.top a.self.left (sym c.starts_here.ensures ∙ c.if-starts_here.false) in
    let q = c.requires.walks in
    more_left a.at n q.way q.here q.stands

pub overflow_sub-left : goal.overflow_sub-left
overflow_sub-left c = more (goal.at.overflow_sub-left c).Else-starts_here

pub bounds-log-left : goal.bounds-log-left
bounds-log-left c = omega (arith, more (goal.at.bounds-log-left c).Else-starts_here, c.requires.walks.stands)

pub bounds-log-left-2 : goal.bounds-log-left-2
bounds-log-left-2 c = omega (arith, more (goal.at.bounds-log-left-2 c).Else-starts_here, c.requires.walks.stands)

pub number-requires : goal.number-requires
number-requires c = omega (arith, more (goal.at.number-requires c).Else-starts_here)

pub returns-then-log-left-eq-TOOK : goal.returns-then-log-left-eq-TOOK
returns-then-log-left-eq-TOOK c =
    let a = c.args in
    let n = starts_no a.log.now (length a.log.now / chunk_size) a.self.top a.self.left (sym c.starts_here.ensures ∙ c.if-starts_here.false) in
    record { does = λ all q. rw (c.put_node-then-log-left-eq-TOOK.ensures, c.number.ensures) (token_step a.at n q.way q.here q.stands c.if-log-left-eq-TOOK.true) }

pub overflow_sub-top : goal.overflow_sub-top
overflow_sub-top c = omega (arith, more (goal.at.overflow_sub-top c).Else-starts_here)

pub copy_within-requires-clause-in_bounds : goal.copy_within-requires-clause-in_bounds
copy_within-requires-clause-in_bounds c = omega (arith, more (goal.at.copy_within-requires-clause-in_bounds c).Else-starts_here)

pub copy_within-requires-clause-dest_in_bounds : goal.copy_within-requires-clause-dest_in_bounds
copy_within-requires-clause-dest_in_bounds c = omega (arith, more (goal.at.copy_within-requires-clause-dest_in_bounds c).Else-starts_here)

pub returns : goal.returns
returns c =
    let a = c.args in
    let n = starts_no a.log.now (length a.log.now / chunk_size) a.self.top a.self.left (sym c.starts_here.ensures ∙ c.if-starts_here.false) in
    let e = c.copy_within.ensures in
    let u : Copied a.log.now (a.self.left - 1) (a.self.top - 1) c.copy_within.new.self = record {
      long = e.len;
      there = λ k d p q. e.by_index.0 k d p (omega arith);
      below = e.by_index.1;
      above = λ k d p. e.by_index.2 k d (omega arith);
    } in
    record { does = λ all q. rw c.put_node-2.ensures (closes_step a.at n q.way q.here q.stands c.if-log-left-eq-TOOK.false _ u) }
