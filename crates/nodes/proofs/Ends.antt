-- Where the walk begins, over a buffer of zeroes, and where it ends.
use Prim.Native.Nat.{ℕ, ◌-◌, ◌*◌, ◌/◌}
use native.Mathlib.Omega.{arith}
use mathlib.Core.Path.{◌≡◌, refl, ap, ◌∙◌}
use mathlib.Core.List.{List, [], ◌∷◌, ◌++◌}
use lib.ListN.{length, take, drop, length-append, length-drop}
use lib.Seq.{drop_at, length-take-le}
use Rattle.grammar.specs.World.{Rec}
use Rattle.grammar.specs.Nodes.{Node, nodes_of, nodes_bytes}
use Rattle.grammar.specs.Read.{zeroes, pad}
use Rattle.laws.specs.Flat.{flat}
use Rattle.laws.proofs.Flat.{nodes_posts}
use Rattle.parser.specs.View.{chunk_size}
use Rattle.node_count.specs.Log.{node_size, nodes_in}
use Rattle.nodes.specs.Grown.{Ready}
use Rattle.nodes.specs.Walk.{before, ahead, Walks}
use Rattle.nodes.specs.Walk.Way.{outside}
use Rattle.node_count.specs.Counts.{bytes_length}

-- The walk begins outside of all nodes, before the whole forest, over a buffer that is cleared behind the nodes.
pub begins : (log nodes cleared : List ℕ) (count : ℕ) → Ready log nodes count → cleared ≡ take (node_size * count) nodes ++ zeroes (length (drop (node_size * count) nodes))
    → let len = length log / chunk_size in Walks (pad (length nodes) (nodes_in log len)) log len cleared count len len
unfolding before ahead pad
begins log nodes cleared count r z =
    let f = r.grown.forest in
    let b = node_size * count in
    let bytes : nodes_in log (length log / chunk_size) ≡ nodes_bytes (flat f) = ap (λ (l : List Rec). nodes_bytes (nodes_of l)) r.grown.same ∙ ap nodes_bytes (nodes_posts f) in
    let front : length (take b nodes) ≡ b = length-take-le b nodes r.room in
    let left : length (drop b nodes) ≡ length nodes - b = length-drop b nodes in
    record {
      way = outside;
      here = f;
      stands = record {
        log = r.grown.same;
        stack = refl;
        apart = omega arith;
        inner = omega arith;
        fits = omega arith;
        count = omega (arith, r.counted, ap length bytes, bytes_length (flat f));
        room = omega (arith, ap length z, length-append (take b nodes) (zeroes (length (drop b nodes))));
        ends = rw (z, drop_at (take b nodes) (zeroes (length (drop b nodes))) b front, left, ← r.counted, bytes);
      };
    }

-- It ends where no node is to be written.
pub ended : {all log nodes : List ℕ} {len left top : ℕ} → Walks all log len nodes 0 left top → nodes ≡ all
unfolding nodes_bytes
ended {nodes = nodes} w = go (ahead w.way ++ flat w.here) w.stands.count w.stands.ends
  where
    go : {all : List ℕ} (ns : List Node) → length ns ≡ 0 → nodes_bytes ns ++ drop (node_size * 0) nodes ≡ all → nodes ≡ all
    go [] e h = h
    go (n ∷ ns) e h = absurd (omega arith)
