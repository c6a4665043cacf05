-- What an answer says was used lies within what was lent.
use Rattle.std.specs.Prelude.{ℕ, ◌≤◌, ◌≡◌, List, leb, length}
use Rattle.std.proofs.Common.{arith, length-append}
use Rattle.std.proofs.Math.Option.{Option, none, some}
use Rattle.grammar.specs.Env.{Entry, env_of, env_bytes}
use Rattle.grammar.specs.Tokens.{records_fit, record_count}
use Rattle.grammar.specs.Nodes.{nodes_of, nodes_bytes}
use Rattle.grammar.specs.World.{World}
use Rattle.grammar.specs.World.World.{refused, on}
use Rattle.grammar.specs.Read.{Call, Result, pad, refusal, handed, finish, no_final, no_nodes, bad_env, bad_records, bad_settings, reading, read_with, settings_fit, read}
use Rattle.laws.specs.Choice.{if_both}
use Rattle.answers.specs.Entry.{Answer, used_of, result_of, served, with_scratch, most_scratch}
use Rattle.answers.specs.declared.Used.{Used}

pub record Within (u : Used) (ns fs es : List ℕ) : Type 0 where
  pub nodes : u.nodes ≤ length ns
  pub finds : u.finds ≤ length fs
  pub last : u.last ≤ length es

record Fits (r : Result) : Type 0 where
  nodes : r.nodes_used ≤ length r.nodes
  finds : r.finds_used ≤ length r.finds
  last : r.final_used ≤ length r.final

padded : (n : ℕ) (l : List ℕ) → length l ≤ length (pad n l)
unfolding pad
padded n l = simp length-append (omega arith)

refused_fits : (c : Call) (k : ℕ) → Fits (refusal c k)
unfolding refusal
refused_fits c k = record { nodes = omega arith; finds = omega arith; last = omega arith }

handed_fits : (c : Call) (ns fs es : List ℕ) → Fits (handed c ns fs es)
unfolding handed
handed_fits c ns fs es = record { nodes = padded c.nodes ns; finds = padded c.finds fs; last = padded c.final es }

finished_fits : (c : Call) (w : World) → Fits (finish c w)
unfolding finish
finished_fits c (refused k l) = refused_fits c k
finished_fits c (on s) =
    let es = env_bytes s.env in
    if_both Fits
    (leb (length (nodes_bytes (nodes_of s.log))) c.nodes)
    (λ _. if_both Fits (leb (length es) c.final) (λ _. handed_fits c _ _ _) (λ _. refused_fits c no_final))
    (λ _. refused_fits c no_nodes)

begun_fits : (c : Call) (o : Option (List Entry)) → Fits (read_with c o)
unfolding read_with
begun_fits c none = refused_fits c bad_env
begun_fits c (some es) = finished_fits c (reading c es)

read_fits : (c : Call) → Fits (read c)
unfolding read
read_fits c =
    if_both Fits
    (settings_fit c)
    (λ _. if_both Fits (records_fit (length c.text) c.toks (record_count c.toks)) (λ _. begun_fits c (env_of c.env)) (λ _. refused_fits c bad_records))
    (λ _. refused_fits c bad_settings)

served_fits : (c : Call) → Fits (served c)
unfolding served
served_fits c =
    let w = read_fits (with_scratch c most_scratch) in
    if_both Fits (leb c.scratch most_scratch) (λ _. read_fits c) (λ _. record { nodes = w.nodes; finds = w.finds; last = w.last })

-- of what a call of the code hands back
pub used : (a : Answer) {scratch nodes finds last : List ℕ} (c : Call) → result_of a scratch nodes finds last ≡ served c → Within (used_of a) nodes finds last
used a {scratch} {nodes} {finds} {last} c e =
    let w : Fits (result_of a scratch nodes finds last) = rw e (served_fits c) in
    record { nodes = w.nodes; finds = w.finds; last = w.last }
