-- by hand: a loop over the steps of a walk, whose invariant is its own.
use Rattle.std.proofs.Common.{arith, ℕ, ◌+◌, ◌-◌, ◌/◌, ◌≡◌, ◌∙◌, ap, length}
use Rattle.grammar.specs.Read.{pad}
use Rattle.parser.specs.View.{chunk_size}
use Rattle.node_count.specs.Log.{nodes_in}
use Rattle.nodes.proofs.Ends.{begins, ended}
use Rattle.nodes.proofs.write_nodes.Goals as goal

pub loop-at-init : goal.loop-at-init
loop-at-init c =
    let a = c.args in
    rw c.clear.auto.b (begins a.log.now a.nodes.now c.clear.new.b a.count c.requires c.clear.ensures)

pub step-walk-requires : goal.step-walk-requires
step-walk-requires c =
    let e : c.loop-at.at - 1 + 1 ≡ c.loop-at.at = omega arith in
    record { all = pad (length c.clear.new.b) (nodes_in c.args.log.now (length c.args.log.now / chunk_size)); walks = rw e c.loop-at.invariant }

pub loop-at-preserved : goal.loop-at-preserved
loop-at-preserved c =
    let e : c.loop-at.at - 1 + 1 ≡ c.loop-at.at = omega arith in
    rw c.step-walk.auto.log (c.step-walk.ensures.does _ (rw e c.loop-at.invariant))

pub returns : goal.returns
returns c =
    let z : c.loop-at.at ≡ 0 = omega arith in
    ended (rw z at c.loop-at.invariant) ∙ ap (λ (n : ℕ). pad n (nodes_in c.args.log.now (length c.args.log.now / chunk_size))) c.clear.auto.b
