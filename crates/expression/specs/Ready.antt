-- What the walks over nodes require: a run inside its lists, ends within the limit, and stacks that are whole. Assumes nothing.
use Rattle.std.specs.Prelude.{◌≡◌, true, List, [], ℕ, ◌+◌, ◌≤◌, ◌<◌, ℤ, pos, nat_abs, length, get_or, drop}
use Rattle.integer.specs.Exact.{limit}
use Rattle.expression.specs.Node.{max_variables, max_places, max_nodes, nodes_at, Sound}
use Rattle.expression.specs.Machine.{step, walk, Ready, NotBroken, Whole}
use Rattle.expression.specs.Decode.{decode, is_tree}
use Rattle.expression.specs.Value.{value_alg}
use Rattle.expression.specs.Reckon.{placed_leaf, range_alg, zip_ranges}
use Rattle.expression.specs.declared.Node.{Node}
use Rattle.expression.specs.declared.Node.TheVariants as N

-- a run of count nodes from a place on, inside both lists and no longer than a stack
pub record RunIn (kinds : List ℕ) (values : List ℤ) (from count : ℕ) : Type 0 where
  pub in-kinds : from + count ≤ length kinds
  pub in-values : from + count ≤ length values
  pub few : count ≤ max_nodes

-- ---- values

-- one node of the walk that finds a value
pub record ValueStep (ds ss : List ℤ) (node : Node) (items : List ℤ) (top : ℕ) : Type 0 where
  pub sound : Sound (length ds) (length ss) node
  pub room : 0 < top
  pub within : top ≤ max_nodes
  pub long : length items ≡ max_nodes
  pub ready : Ready (step (value_alg ds ss) node (drop top items))

-- the walk, which ends with one value
pub record ValueRun (kinds : List ℕ) (values ds ss : List ℤ) (from count : ℕ) : Type 0 where
  pub run : RunIn kinds values from count
  pub whole : Whole (walk (value_alg ds ss) (nodes_at (length ds) (length ss) kinds values from count) [])

-- ---- ranges

-- every entry is within the limit
abbrev pub Small : List ℤ → Type 0
Small l = (k : ℕ) → nat_abs (get_or l k (pos 0)) ≤ limit

-- the entries of the variables below their counts are
pub record SmallTo (dims ranges : ℕ) (l : List ℤ) : Type 0 where
  pub dimension : (k : ℕ) → k < dims → nat_abs (get_or l k (pos 0)) ≤ limit
  pub range : (k : ℕ) → k < ranges → nat_abs (get_or (drop max_variables l) k (pos 0)) ≤ limit

-- the entry that a leaf reads is
abbrev pub LeafSmall : List ℤ → Node → Type 0
LeafSmall l (N.Leaf x) = nat_abs (placed_leaf l x) ≤ limit
LeafSmall l (N.One o) = Unit {0}
LeafSmall l N.Sum = Unit {0}
LeafSmall l N.Bad = Unit {0}

-- the two stacks are whole, and hold nothing past the limit
pub record Stacks (lows highs : List ℤ) : Type 0 where
  pub long-lows : length lows ≡ max_nodes
  pub long-highs : length highs ≡ max_nodes
  pub small-lows : Small lows
  pub small-highs : Small highs

-- one node of the walk that finds a range
pub record RangeStep (lower upper : List ℤ) (node : Node) (lows highs : List ℤ) (top : ℕ) : Type 0 where
  pub long-lower : length lower ≡ max_places
  pub long-upper : length upper ≡ max_places
  pub sound : Sound max_variables max_variables node
  pub room : 0 < top
  pub within : top ≤ max_nodes
  pub stacks : Stacks lows highs
  pub small-lower : LeafSmall lower node
  pub small-upper : LeafSmall upper node
  pub fed : NotBroken (step (range_alg lower upper) node (drop top (zip_ranges lows highs)))

-- the walk over one tree
pub record RangeRun (kinds : List ℕ) (values lower upper : List ℤ) (dims ranges from count : ℕ) : Type 0 where
  pub run : RunIn kinds values from count
  pub long-lower : length lower ≡ max_places
  pub long-upper : length upper ≡ max_places
  pub small-lower : SmallTo dims ranges lower
  pub small-upper : SmallTo dims ranges upper
  pub whole : is_tree (decode (nodes_at dims ranges kinds values from count)) ≡ true
