-- Nodes in postfix order with runs of other nodes put for the dimension variables. Assumes nothing.
use Rattle.std.specs.Prelude.{List, [], ◌∷◌, ◌++◌, ℕ, ◌+◌}
use Rattle.expression.specs.declared.Node.{Node}
use Rattle.expression.specs.declared.Node.TheVariants as N
use Rattle.expression.specs.declared.Leaf.TheVariants.{Dim, Range, Constant}
use Rattle.indexing.specs.declared.IndexingMap.{IndexingMap}
use Rattle.encoding.specs.Postfix.{postfix}
use Rattle.encoding.specs.Trees.{expr_at}

-- the nodes that stand for one: run n for dimension n, range variables numbered from r on
abbrev pub splice_node : (ℕ → List Node) → ℕ → Node → List Node
splice_node run r (N.Leaf (Dim n)) = run n
splice_node run r (N.Leaf (Range n)) = N.Leaf (Range (r + n)) ∷ []
splice_node run r (N.Leaf (Constant z)) = N.Leaf (Constant z) ∷ []
splice_node run r (N.One o) = N.One o ∷ []
splice_node run r N.Sum = N.Sum ∷ []
splice_node run r N.Bad = N.Bad ∷ []

abbrev pub splice : (ℕ → List Node) → ℕ → List Node → List Node
splice run r [] = []
splice run r (n ∷ ns) = splice_node run r n ++ splice run r ns

-- the nodes of f's results
abbrev pub result_nodes : IndexingMap → ℕ → List Node
result_nodes f n = postfix (expr_at f n)
