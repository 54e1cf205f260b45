-- The reckoned range of a tree by the bounds of its variables, and the machine that finds it. Assumes nothing.
use Rattle.std.specs.Prelude.{Bool, true, false, cond, List, [], ◌∷◌, ℕ, ◌+◌, ◌≤◌, ℤ, pos, nat_abs, drop, Option, Some, None}
use Rattle.expression.specs.Expression.{floordiv, modulo, Range, span, add_range, mul_range, op_range, range_of, small_range, small_ranges}
use Rattle.expression.specs.Node.{max_variables, max_nodes}
use Rattle.expression.specs.Machine.{Out, passed, stack, Alg}
use Rattle.expression.specs.Decode.{Tree, none, tree}
use Rattle.expression.specs.Value.{bounds, leaf_value}
use Rattle.expression.specs.declared.Leaf.{Leaf}
use Rattle.expression.specs.declared.One.{One}
use Rattle.expression.specs.declared.One.TheVariants.{Product, Floordiv, Mod}

-- a range that is kept within the limit
unfoldable pub reckon : Range → Option (ℤ × ℤ)
reckon r = cond (small_range r) (Some (r.lo, r.hi)) None

-- the range of a tree, where every node's range lies within the limit
abbrev pub range_in : List ℤ → List ℤ → Tree → Option (ℤ × ℤ)
range_in lower upper none = None
range_in lower upper (tree e) =
    let r = range_of (bounds lower upper) e in
    cond (small_ranges (bounds lower upper) e) (Some (r.lo, r.hi)) None

abbrev pub is_kept : Option (ℤ × ℤ) → Bool
is_kept (Some (a, b)) = true
is_kept None = false

abbrev pub low_end : Option (ℤ × ℤ) → ℤ
low_end (Some (a, b)) = a
low_end None = pos 0

abbrev pub high_end : Option (ℤ × ℤ) → ℤ
high_end (Some (a, b)) = b
high_end None = pos 0

abbrev pub one_range : One → Range → Range
one_range (Product z) r = mul_range z r
one_range (Floordiv c) r = op_range floordiv r (nat_abs c)
one_range (Mod c) r = op_range modulo r (nat_abs c)

-- what stands at a leaf's place
abbrev pub placed_leaf : List ℤ → Leaf → ℤ
placed_leaf l x = leaf_value l (drop max_variables l) x

-- the machine that works out ranges
abbrev pub range_alg : List ℤ → List ℤ → Alg Range
range_alg lower upper =
    record {
      leaf = λ (l : Leaf). span (placed_leaf lower l) (placed_leaf upper l);
      one = λ (o : One) (r : Range). one_range o r;
      sum = λ (a b : Range). add_range a b;
      keep = λ (r : Range). small_range r;
    }

-- two stacks of ends as one of ranges
abbrev pub zip_ranges : List ℤ → List ℤ → List Range
zip_ranges [] ys = []
zip_ranges (x ∷ xs) [] = []
zip_ranges (x ∷ xs) (y ∷ ys) = span x y ∷ zip_ranges xs ys

-- where the two stacks start, or past the limit
abbrev pub out_of : Option ℕ → List ℤ → List ℤ → Out Range
out_of (Some t) lows highs = stack (drop t (zip_ranges lows highs))
out_of None lows highs = passed

abbrev pub Near : Option ℕ → ℕ → Type 0
Near (Some t) top = (t ≤ max_nodes) × (top ≤ t + 1)
Near None top = Unit {0}
