-- Nodes: what a kind and a value say, and the run of nodes that stands from a place on. Assumes nothing.
use Rattle.std.specs.Prelude.{Bool, true, false, cond, ◌&&◌, List, [], ◌∷◌, ℕ, zero, suc, ◌+◌, ◌-◌, ◌*◌, ◌<◌, ◌≤◌, ◌^◌, leb, ltb, eqb, ℤ, pos, negsuc, nat_abs, get_or, ◌<ℤ◌}
use Rattle.integer.specs.Exact.{limit}
use Rattle.expression.specs.Expression.{is_small}
use Rattle.expression.specs.declared.Node.{Node}
use Rattle.expression.specs.declared.Node.TheVariants as N
use Rattle.expression.specs.declared.Leaf.{Leaf}
use Rattle.expression.specs.declared.Leaf.TheVariants.{Dim, Range, Constant}
use Rattle.expression.specs.declared.One.{One}
use Rattle.expression.specs.declared.One.TheVariants.{Product, Floordiv, Mod}

-- the most variables of a kind, and the places of all kinds: dimensions, range variables, runtime variables
abbrev pub max_variables : ℕ
max_variables = 8

abbrev pub max_places : ℕ
max_places = 3 * max_variables

-- the most nodes of a map
abbrev pub max_nodes : ℕ
max_nodes = 256

-- the largest divisor
abbrev pub max_divisor : ℕ
max_divisor = 2 ^ 40

-- a divisor is from 1 to 2^40
abbrev pub is_divisor : ℤ → Bool
is_divisor (pos c) = ltb 0 c && leb c max_divisor
is_divisor (negsuc c) = false

abbrev pub or_bad : Bool → Node → Node
or_bad true a = a
or_bad false a = N.Bad

-- the variable at a place, below its count: dimensions from place 0, range variables from 8; of runtime variables there are none
abbrev pub place_node : ℕ → ℕ → ℕ → Node
place_node dims ranges p =
    cond (ltb p max_variables)
    (or_bad (ltb p dims) (N.Leaf (Dim p)))
    (cond (ltb p (2 * max_variables)) (or_bad (ltb (p - max_variables) ranges) (N.Leaf (Range (p - max_variables)))) N.Bad)

abbrev pub variable_node : ℕ → ℕ → ℤ → Node
variable_node dims ranges (pos p) = place_node dims ranges p
variable_node dims ranges (negsuc p) = N.Bad

-- kinds 3 product, 4 floordiv, 5 mod
abbrev pub one_node : ℕ → ℤ → Node
one_node kind z =
    cond (eqb kind 3) (or_bad (is_small z) (N.One (Product z)))
    (cond (eqb kind 4) (or_bad (is_divisor z) (N.One (Floordiv z)))
    (cond (eqb kind 5) (or_bad (is_divisor z) (N.One (Mod z)))
    N.Bad))

-- kinds 0 variable, 1 constant, 2 sum, and those over one tree; a node is bad where its kind is another or its value breaks its rule
unfoldable pub node_of : ℕ → ℕ → ℕ → ℤ → Node
node_of dims ranges kind z =
    cond (eqb kind 0) (variable_node dims ranges z)
    (cond (eqb kind 1) (or_bad (is_small z) (N.Leaf (Constant z)))
    (cond (eqb kind 2) N.Sum
    (one_node kind z)))

-- the n nodes that stand from place i on
unfoldable pub nodes_at : ℕ → ℕ → List ℕ → List ℤ → ℕ → ℕ → List Node
nodes_at dims ranges kinds values i zero = []
nodes_at dims ranges kinds values i (suc n) =
    node_of dims ranges (get_or kinds i 0) (get_or values i (pos 0)) ∷ nodes_at dims ranges kinds values (i + 1) n

-- a node that the walks take: a variable below the counts, a constant within the limit, a divisor in its range
abbrev pub SoundLeaf : ℕ → ℕ → Leaf → Type 0
SoundLeaf dims ranges (Dim n) = n < dims
SoundLeaf dims ranges (Range n) = n < ranges
SoundLeaf dims ranges (Constant z) = nat_abs z ≤ limit

abbrev pub Divisor : ℤ → Type 0
Divisor c = (pos 0 <ℤ c) × (nat_abs c ≤ max_divisor)

abbrev pub SoundOne : One → Type 0
SoundOne (Product z) = nat_abs z ≤ limit
SoundOne (Floordiv c) = Divisor c
SoundOne (Mod c) = Divisor c

abbrev pub Sound : ℕ → ℕ → Node → Type 0
Sound dims ranges (N.Leaf l) = SoundLeaf dims ranges l
Sound dims ranges (N.One o) = SoundOne o
Sound dims ranges N.Sum = Unit {0}
Sound dims ranges N.Bad = Unit {0}
