-- A tree as nodes in postfix order, and a node as a kind and a value. Assumes nothing.
use Rattle.std.specs.Prelude.{cond, List, [], ◌∷◌, ◌++◌, ℕ, ◌+◌, ◌*◌, ◌<◌, ◌≤◌, ltb, ℤ, pos, nat_abs}
use Rattle.integer.specs.Exact.{limit}
use Rattle.expression.specs.Expression.{Kind, d, s, rt, Op, floordiv, modulo, Expr}
use Rattle.expression.specs.Node.{max_variables, max_divisor}
use Rattle.expression.specs.declared.Node.{Node}
use Rattle.expression.specs.declared.Node.TheVariants as N
use Rattle.expression.specs.declared.Leaf.TheVariants.{Dim, Range, Constant}
use Rattle.expression.specs.declared.One.TheVariants.{Product, Floordiv, Mod}
use Rattle.folding.specs.Sum.{Atom, Sum}

-- ---- a tree as nodes: what stands under a node first, the left one before the right one

-- of runtime variables there are none
abbrev pub variable_of : Kind → ℕ → Node
variable_of d n = N.Leaf (Dim n)
variable_of s n = N.Leaf (Range n)
variable_of rt n = N.Bad

abbrev pub op_node : Op → ℕ → Node
op_node floordiv c = N.One (Floordiv (pos c))
op_node modulo c = N.One (Mod (pos c))

unfoldable pub postfix : Expr → List Node
postfix (Expr.var k n) = variable_of k n ∷ []
postfix (Expr.const z) = N.Leaf (Constant z) ∷ []
postfix (Expr.add a b) = postfix a ++ (postfix b ++ (N.Sum ∷ []))
postfix (Expr.mul z a) = postfix a ++ (N.One (Product z) ∷ [])
postfix (Expr.op o a c) = postfix a ++ (op_node o c ∷ [])

-- ---- a node as a kind and a value

-- the first place at which there is no variable
abbrev pub no_place : ℕ
no_place = 2 * max_variables

-- the place of variable n of the kind that stands from a place on
abbrev pub place_from : ℕ → ℕ → ℕ
place_from start n = cond (ltb n max_variables) (start + n) no_place

-- kinds 0 variable, 1 constant, 2 sum, 3 product, 4 floordiv, 5 mod; a bad node is a variable at no place
abbrev pub kind_of : Node → ℕ
kind_of (N.Leaf (Dim n)) = 0
kind_of (N.Leaf (Range n)) = 0
kind_of (N.Leaf (Constant z)) = 1
kind_of N.Sum = 2
kind_of (N.One (Product z)) = 3
kind_of (N.One (Floordiv z)) = 4
kind_of (N.One (Mod z)) = 5
kind_of N.Bad = 0

-- a variable's place, a constant, a factor or a divisor; 0 for a sum
abbrev pub value_of : Node → ℤ
value_of (N.Leaf (Dim n)) = pos (place_from 0 n)
value_of (N.Leaf (Range n)) = pos (place_from max_variables n)
value_of (N.Leaf (Constant z)) = z
value_of N.Sum = pos 0
value_of (N.One (Product z)) = z
value_of (N.One (Floordiv z)) = z
value_of (N.One (Mod z)) = z
value_of N.Bad = pos no_place

-- ---- a tree that its nodes give back: variables below their counts, constants and factors within +-2^62, divisors from 1 to 2^40

unfoldable pub Encodable : ℕ → ℕ → Expr → Type 0
Encodable dims ranges (Expr.var d n) = n < dims
Encodable dims ranges (Expr.var s n) = n < ranges
Encodable dims ranges (Expr.var rt n) = ⊥
Encodable dims ranges (Expr.const z) = nat_abs z ≤ limit
Encodable dims ranges (Expr.add a b) = Encodable dims ranges a × Encodable dims ranges b
Encodable dims ranges (Expr.mul z a) = (nat_abs z ≤ limit) × Encodable dims ranges a
Encodable dims ranges (Expr.op o a c) = (0 < c) × ((c ≤ max_divisor) × Encodable dims ranges a)

-- the same of an atom and of a folded sum
unfoldable mutual
  pub EncodableAtom : ℕ → ℕ → Atom → Type 0
  EncodableAtom dims ranges (Atom.var k n) = Encodable dims ranges (Expr.var k n)
  EncodableAtom dims ranges (Atom.op o t c) = (0 < c) × ((c ≤ max_divisor) × EncodableSum dims ranges t)

  pub EncodableSum : ℕ → ℕ → Sum → Type 0
  EncodableSum dims ranges (Sum.const k) = nat_abs k ≤ limit
  EncodableSum dims ranges (Sum.term c a t) = (nat_abs c ≤ limit) × (EncodableAtom dims ranges a × EncodableSum dims ranges t)
