-- Decoding: the tree that a run of nodes in postfix order is. Assumes nothing.
use Rattle.std.specs.Prelude.{Bool, true, false, List, [], ◌∷◌, ℕ, zero, suc, nat_abs}
use Rattle.expression.specs.Expression.{d, s, floordiv, modulo, Expr}
use Rattle.expression.specs.Machine.{Out, broken, passed, stack, Alg, walk}
use Rattle.expression.specs.declared.Node.{Node}
use Rattle.expression.specs.declared.Node.TheVariants as N
use Rattle.expression.specs.declared.Leaf.{Leaf}
use Rattle.expression.specs.declared.Leaf.TheVariants.{Dim, Range, Constant}
use Rattle.expression.specs.declared.One.{One}
use Rattle.expression.specs.declared.One.TheVariants.{Product, Floordiv, Mod}

abbrev pub leaf_expr : Leaf → Expr
leaf_expr (Dim n) = Expr.var d n
leaf_expr (Range n) = Expr.var s n
leaf_expr (Constant z) = Expr.const z

abbrev pub one_expr : One → Expr → Expr
one_expr (Product z) e = Expr.mul z e
one_expr (Floordiv c) e = Expr.op floordiv e (nat_abs c)
one_expr (Mod c) e = Expr.op modulo e (nat_abs c)

-- the machine that puts trees together
abbrev pub expr_alg : Alg Expr
expr_alg =
    record {
      leaf = λ (l : Leaf). leaf_expr l;
      one = λ (o : One) (e : Expr). one_expr o e;
      sum = λ (a b : Expr). Expr.add a b;
      keep = λ (e : Expr). true;
    }

-- one tree, or none
pub data Tree : Type 0 where
  none : Tree
  tree : Expr → Tree

abbrev pub tree_of : Out Expr → Tree
tree_of broken = none
tree_of passed = none
tree_of (stack []) = none
tree_of (stack (e ∷ [])) = tree e
tree_of (stack (e ∷ (f ∷ st))) = none

unfoldable pub decode : List Node → Tree
decode ns = tree_of (walk expr_alg ns [])

abbrev pub is_tree : Tree → Bool
is_tree none = false
is_tree (tree e) = true

-- how many trees stand on the stack after a node, and one more; 0 where the node does not fit there
abbrev pub depth_step : Node → ℕ → ℕ
depth_step (N.Leaf l) k = suc (suc k)
depth_step (N.One o) zero = 0
depth_step (N.One o) (suc k) = suc (suc k)
depth_step N.Sum zero = 0
depth_step N.Sum (suc zero) = 0
depth_step N.Sum (suc (suc k)) = suc (suc k)
depth_step N.Bad k = 0
