-- Expressions: trees of variables, constants, sums, products, floordivs and mods, with their values and reckoned ranges. Assumes nothing.
use Rattle.std.specs.Prelude.{Bool, false, cond, ◌&&◌, ℕ, suc, ◌+◌, ◌-◌, leb, eqb, ℤ, pos, negsuc, nat_abs, ◌+ℤ◌, ◌*ℤ◌, ◌≤ℤ◌}
use Rattle.integer.specs.Floor.{floor_div, floor_mod}
use Rattle.integer.specs.Exact.{limit}

-- a variable's kind: dimension, range, runtime
pub data Kind : Type 0 where
  d s rt : Kind

-- floordiv or mod
pub data Op : Type 0 where
  floordiv modulo : Op

-- variable, constant, sum of two, product by a held constant, floordiv or mod by a held constant
pub data Expr : Type 0 where
  var : Kind → ℕ → Expr
  const : ℤ → Expr
  add : Expr → Expr → Expr
  mul : ℤ → Expr → Expr
  op : Op → Expr → ℕ → Expr

-- x is a node of a tree: the tree itself, or a node of what stands under it
pub data NodeOf (x : Expr) : Expr → Type 0 where
  here : NodeOf x x
  left : {a b : Expr} → NodeOf x a → NodeOf x (Expr.add a b)
  right : {a b : Expr} → NodeOf x b → NodeOf x (Expr.add a b)
  times : {z : ℤ} {a : Expr} → NodeOf x a → NodeOf x (Expr.mul z a)
  under : {o : Op} {a : Expr} {c : ℕ} → NodeOf x a → NodeOf x (Expr.op o a c)

-- how many nodes a tree has
unfoldable pub node_count : Expr → ℕ
node_count (Expr.var k n) = 1
node_count (Expr.const z) = 1
node_count (Expr.add a b) = suc (node_count a + node_count b)
node_count (Expr.mul z a) = suc (node_count a)
node_count (Expr.op o a c) = suc (node_count a)

-- ---- values

-- floordiv rounds towards minus infinity, and mod is what is left
unfoldable pub op_of : Op → ℤ → ℕ → ℤ
op_of floordiv z c = floor_div z c
op_of modulo z c = floor_mod z c

-- the value, where each variable has the value that ρ gives it
unfoldable pub eval : (Kind → ℕ → ℤ) → Expr → ℤ
eval ρ (Expr.var k n) = ρ k n
eval ρ (Expr.const z) = z
eval ρ (Expr.add a b) = eval ρ a +ℤ eval ρ b
eval ρ (Expr.mul z a) = z *ℤ eval ρ a
eval ρ (Expr.op o a c) = op_of o (eval ρ a) c

-- ---- reckoned ranges

-- from lo to hi, both included
pub record Range : Type 0 where
  pub lo : ℤ
  pub hi : ℤ

abbrev pub span : ℤ → ℤ → Range
span a b = record { lo = a; hi = b }

-- z lies in r
pub record In (z : ℤ) (r : Range) : Type 0 where
  pub low : r.lo ≤ℤ z
  pub high : z ≤ℤ r.hi

unfoldable pub eqℤ : ℤ → ℤ → Bool
eqℤ (pos a) (pos b) = eqb a b
eqℤ (pos a) (negsuc b) = false
eqℤ (negsuc a) (pos b) = false
eqℤ (negsuc a) (negsuc b) = eqb a b

-- sums add ends
unfoldable pub add_range : Range → Range → Range
add_range x y = span (x.lo +ℤ y.lo) (x.hi +ℤ y.hi)

-- a product multiplies ends, swapped if the constant is negative
unfoldable pub mul_range : ℤ → Range → Range
mul_range (pos n) x = span (pos n *ℤ x.lo) (pos n *ℤ x.hi)
mul_range (negsuc n) x = span (negsuc n *ℤ x.hi) (negsuc n *ℤ x.lo)

-- floordiv takes the floor of both ends; mod c gives [lo mod c, hi mod c] when both ends have one quotient, else [0, c - 1]
unfoldable pub op_range : Op → Range → ℕ → Range
op_range floordiv x c = span (floor_div x.lo c) (floor_div x.hi c)
op_range modulo x c =
    cond (eqℤ (floor_div x.lo c) (floor_div x.hi c))
    (span (floor_mod x.lo c) (floor_mod x.hi c))
    (span (pos 0) (pos (c - 1)))

-- the reckoned range, where each variable has the bounds that β gives it
unfoldable pub range_of : (Kind → ℕ → Range) → Expr → Range
range_of β (Expr.var k n) = β k n
range_of β (Expr.const z) = span z z
range_of β (Expr.add a b) = add_range (range_of β a) (range_of β b)
range_of β (Expr.mul z a) = mul_range z (range_of β a)
range_of β (Expr.op o a c) = op_range o (range_of β a) c

-- ---- the limit of exact working

-- a number within +-2^62
abbrev pub is_small : ℤ → Bool
is_small z = leb (nat_abs z) limit

-- a range within +-2^62
abbrev pub small_range : Range → Bool
small_range r = is_small r.lo && is_small r.hi

-- the test p holds at every node
unfoldable pub every_node : (Expr → Bool) → Expr → Bool
every_node p (Expr.var k n) = p (Expr.var k n)
every_node p (Expr.const z) = p (Expr.const z)
every_node p (Expr.add a b) = (every_node p a && every_node p b) && p (Expr.add a b)
every_node p (Expr.mul z a) = every_node p a && p (Expr.mul z a)
every_node p (Expr.op o a c) = every_node p a && p (Expr.op o a c)

-- every node's range lies within +-2^62
unfoldable pub small_ranges : (Kind → ℕ → Range) → Expr → Bool
small_ranges β e = every_node (λ (x : Expr). small_range (range_of β x)) e
