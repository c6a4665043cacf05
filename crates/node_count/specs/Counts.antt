-- How many nodes the records of a log come to, and how many bytes they take.
use Rattle.std.specs.Prelude.{ℕ, suc, ◌+◌, ◌*◌, ◌≡◌, refl, List, [], ◌∷◌, ◌++◌, leb, length, get_or}
use Rattle.std.proofs.Common.{add-one, arith, ap, ◌∙◌, ne_eqb, length-append}
use Rattle.std.proofs.lemmas.List.{length-map}
use Rattle.grammar.specs.World.{Rec}
use Rattle.grammar.specs.World.Rec.{took, ended}
use Rattle.grammar.specs.Nodes.{Node, Placed, insert, place, nodes_of, nodes_bytes}
use Rattle.grammar.specs.Nodes.Node.{opens, token, closes}
use Rattle.laws.specs.Choice.{if_both}
use Rattle.parser.specs.View.{chunks, chunk_at, chunk_size, rec_of, took_tag}
use Rattle.node_count.specs.Log.{node_size, kind_at, number_at, log_in, nodes_in}

-- the nodes of records
unfoldable pub weight : List Rec → ℕ
weight [] = 0
weight (took k x ∷ l) = suc (weight l)
weight (ended k b ∷ l) = suc (suc (weight l))

pub weight_append : (a b : List Rec) → weight (a ++ b) ≡ weight a + weight b
unfolding weight
weight_append [] b = omega arith
weight_append (took k x ∷ a) b = omega (arith, weight_append a b)
weight_append (ended k x ∷ a) b = omega (arith, weight_append a b)

insert_length : (b : ℕ) (x : Node) (ys : List Placed) → length (insert b x ys) ≡ suc (length ys)
unfolding insert
insert_length b x [] = refl
insert_length b x (y ∷ ys) =
    if_both (λ (l : List Placed). length l ≡ suc (suc (length ys))) (leb b y.at) (λ _. refl) (λ _. ap suc (insert_length b x ys))

place_length : (out : List Placed) (i : ℕ) (l : List Rec) → length (place out i l) ≡ length out + weight l
unfolding place weight
place_length out i [] = omega arith
place_length out i (took k x ∷ l) = place_length (out ++ (record { at = i; node = token k x } ∷ [])) (suc i) l ∙ simp length-append (omega arith)
place_length out i (ended k b ∷ l) = place_length (insert b (opens k) out ++ (record { at = i; node = closes k } ∷ [])) (suc i) l ∙ simp (length-append, insert_length) (omega arith)

nodes_length : (log : List Rec) → length (nodes_of log) ≡ weight log
unfolding nodes_of
nodes_length log = length-map (place [] 0 log) (λ x. x.node) ∙ omega (arith, place_length [] 0 log)

pub bytes_length : (ns : List Node) → length (nodes_bytes ns) ≡ node_size * length ns
unfolding nodes_bytes
bytes_length [] = refl
bytes_length (opens k ∷ ns) = omega (arith, bytes_length ns)
bytes_length (token k i ∷ ns) = omega (arith, bytes_length ns)
bytes_length (closes k ∷ ns) = omega (arith, bytes_length ns)

-- how many nodes a log comes to is how many bytes they take
pub counted : (scratch : List ℕ) (len n : ℕ) → n ≡ weight (log_in scratch len) → length (nodes_in scratch len) ≡ node_size * n
counted scratch len n e = bytes_length (nodes_of (log_in scratch len)) ∙ omega (arith, nodes_length (log_in scratch len))

-- a record more
module _ (scratch : List ℕ) (i : ℕ) where
  pub rec_took : get_or scratch (chunk_size * i) 0 ≡ took_tag → chunk_at rec_of scratch i ≡ took (kind_at scratch i) (number_at scratch i)
  rec_took e = rw e

  pub rec_ended : (get_or scratch (chunk_size * i) 0 ≡ took_tag → ⊥) → chunk_at rec_of scratch i ≡ ended (kind_at scratch i) (number_at scratch i)
  rec_ended h = rw (ne_eqb (get_or scratch (chunk_size * i) 0) took_tag h, rec_of)

  pub weight_took : get_or scratch (chunk_size * i) 0 ≡ took_tag → weight (log_in scratch (i + 1)) ≡ weight (log_in scratch i) + 1
  unfolding chunks weight
  weight_took e = rw (add-one i, chunks, weight_append) (ap (λ (r : Rec). weight (log_in scratch i) + weight (r ∷ [])) (rec_took e))

  pub weight_ended : (get_or scratch (chunk_size * i) 0 ≡ took_tag → ⊥) → weight (log_in scratch (i + 1)) ≡ weight (log_in scratch i) + 2
  unfolding chunks weight
  weight_ended h = rw (add-one i, chunks, weight_append) (ap (λ (r : Rec). weight (log_in scratch i) + weight (r ∷ [])) (rec_ended h))
