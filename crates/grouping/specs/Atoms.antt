-- What the rules for expressions do at an atom.
use Rattle.std.specs.Prelude.{ℕ, ◌≡◌, List, ◌∷◌, Bool, false}
use Rattle.std.proofs.Math.Option.{none}
use Rattle.grammar.specs.Tokens.{Token}
use Rattle.grammar.specs.Env.{Entry, find}
use Rattle.grammar.specs.World.{token_in}
use Rattle.grammar.specs.Util as U
use Rattle.grammar.specs.Exp as X
use Rattle.grammar.specs.SyntaxKind as SK
use Rattle.laws.specs.Trees.{Forest, join}
use Rattle.laws.specs.Trees.Forest.{leaf, node}
use Rattle.grouping.specs.Runs.{Goes, kind_of, going, g_ret, g_bind, g_true, g_false, g_off, g_peek, g_from, g_close, g_marked, g_none}

-- an IntLit and a Name, of that index and text
abbrev pub int : ℕ → List ℕ → Token
int i x = record { index = i; kind = SK.IntLit; text = x }

abbrev pub word : ℕ → List ℕ → Token
word i x = record { index = i; kind = SK.Name; text = x }

-- the next token is no dot
abbrev pub NoDot : List Token → Type 0
NoDot ts = U.is (kind_of (token_in 0 ts)) SK.Dot ≡ false

module _ {E : List Entry} {C n : ℕ} {ts : List Token} {f : Forest} {ps : List ℕ} {Q : ℕ → List Token → Forest → List ℕ → Type 0} {g : Bool} {i : ℕ} {x : List ℕ} where
  -- at_exp at an IntLit
  pub at_int : Q 1 ts (node f SK.SConExp (leaf Forest.none SK.IntLit i)) ps → Goes E C n (int i x ∷ ts) f ps {g = g} X.at_exp Q
  unfolding X.at_exp X.at_exp_head X.at_exp_leaf join token_in
  at_int h = search going depth 40

  -- path at a Name
  path_word : NoDot ts → Q 1 ts (node f SK.Path (node Forest.none SK.NameStarEqDot (leaf Forest.none SK.Name i))) ps → Goes E C n (word i x ∷ ts) f ps {g = g} U.path Q
  unfolding U.path U.path_here U.path_start U.part_end join token_in
  path_word d h = search (going, g_off) depth 40

module _ {E : List Entry} {C n : ℕ} {ts : List Token} {f : Forest} {ps : List ℕ} {Q : ℕ → List Token → Forest → List ℕ → Type 0} {g : Bool} {i : ℕ} {x : List ℕ} where
  -- path_no_infix at a Name that has no fixity
  pub no_infix_word : find x E ≡ none → NoDot ts → Q 1 ts (node f SK.Path (node Forest.none SK.NameStarEqDot (leaf Forest.none SK.Name i))) ps
      → Goes E C n (word i x ∷ ts) f ps {g = g} U.path_no_infix Q
  unfolding U.path_no_infix U.without_op U.path_must token_in
  no_infix_word e d h = g_bind (g_bind (g_peek (g_off d (g_bind (g_peek (g_true (g_none e (g_ret (g_bind (path_word d (search going)))))))))))

module _ {E : List Entry} {C n : ℕ} {ts : List Token} {f : Forest} {ps : List ℕ} {Q : ℕ → List Token → Forest → List ℕ → Type 0} {g : Bool} {i : ℕ} {x : List ℕ} where
  -- at_exp there
  pub at_word : find x E ≡ none → NoDot ts → Q 1 ts (node f SK.PathExp (node Forest.none SK.Path (node Forest.none SK.NameStarEqDot (leaf Forest.none SK.Name i)))) ps
      → Goes E C n (word i x ∷ ts) f ps {g = g} X.at_exp Q
  unfolding X.at_exp X.at_exp_head X.at_exp_leaf join token_in
  at_word e d h =
      g_bind (g_peek (g_false (g_marked (g_from (g_false (g_false (g_false (g_false (g_false (g_false (g_false (g_false (g_false (g_true (g_bind (no_infix_word e d (g_bind (g_close (g_ret h)))))))))))))))))))
