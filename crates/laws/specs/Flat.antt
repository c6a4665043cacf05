-- The nodes of a forest, opened and closed in pairs, are what its log is handed out as.
use Rattle.std.specs.Prelude.{List, [], ◌∷◌, ◌++◌}
use Rattle.grammar.specs.World.{Rec}
use Rattle.grammar.specs.World.Rec.{took}
use Rattle.grammar.specs.Nodes.{Node}
use Rattle.grammar.specs.Nodes.Node.{opens, token, closes}
use Rattle.laws.specs.Trees.{Forest}
use Rattle.laws.specs.Trees.Forest.{none, leaf, node}

-- the nodes of a forest: each opens, holds what is in it, and closes
unfoldable pub flat : Forest → List Node
flat none = []
flat (leaf f k i) = flat f ++ (token k i ∷ [])
flat (node f k c) = flat f ++ (opens k ∷ (flat c ++ (closes k ∷ [])))

-- the tokens among nodes, in order
abbrev pub held : List Node → List Rec
held [] = []
held (opens k ∷ ns) = held ns
held (token k i ∷ ns) = took k i ∷ held ns
held (closes k ∷ ns) = held ns
