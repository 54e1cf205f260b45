-- The value of a tree at a point, and the machine that finds it. Assumes nothing.
use Rattle.std.specs.Prelude.{List, ℕ, ℤ, pos, nat_abs, ◌+ℤ◌, ◌*ℤ◌, get_or, drop}
use Rattle.integer.specs.Floor.{floor_div, floor_mod}
use Rattle.expression.specs.Expression.{Kind, d, s, rt, Range, span, eval, is_small}
use Rattle.expression.specs.Node.{max_variables}
use Rattle.expression.specs.Machine.{Alg}
use Rattle.expression.specs.Decode.{Tree, none, tree}
use Rattle.expression.specs.declared.Leaf.{Leaf}
use Rattle.expression.specs.declared.Leaf.TheVariants as L
use Rattle.expression.specs.declared.One.{One}
use Rattle.expression.specs.declared.One.TheVariants.{Product, Floordiv, Mod}

-- the values of the dimensions ds and of the range variables ss; of runtime variables there are none
unfoldable pub point_of : List ℤ → List ℤ → Kind → ℕ → ℤ
point_of ds ss d n = get_or ds n (pos 0)
point_of ds ss s n = get_or ss n (pos 0)
point_of ds ss rt n = pos 0

-- what stands at a variable's place: dimensions from place 0, range variables from 8
abbrev pub placed : List ℤ → Kind → ℕ → ℤ
placed l = point_of l (drop max_variables l)

-- the bounds of a variable
unfoldable pub bounds : List ℤ → List ℤ → Kind → ℕ → Range
bounds lower upper k n = span (placed lower k n) (placed upper k n)

-- a tree's value at a point; no tree has 0
abbrev pub tree_value : List ℤ → List ℤ → Tree → ℤ
tree_value ds ss none = pos 0
tree_value ds ss (tree e) = eval (point_of ds ss) e

abbrev pub leaf_value : List ℤ → List ℤ → Leaf → ℤ
leaf_value ds ss (L.Dim n) = get_or ds n (pos 0)
leaf_value ds ss (L.Range n) = get_or ss n (pos 0)
leaf_value ds ss (L.Constant z) = z

abbrev pub one_value : One → ℤ → ℤ
one_value (Product z) a = z *ℤ a
one_value (Floordiv c) a = floor_div a (nat_abs c)
one_value (Mod c) a = floor_mod a (nat_abs c)

-- the machine that works out values
abbrev pub value_alg : List ℤ → List ℤ → Alg ℤ
value_alg ds ss =
    record {
      leaf = λ (l : Leaf). leaf_value ds ss l;
      one = λ (o : One) (a : ℤ). one_value o a;
      sum = λ (a b : ℤ). a +ℤ b;
      keep = λ (a : ℤ). is_small a;
    }
