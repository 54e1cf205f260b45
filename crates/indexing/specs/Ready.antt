-- What the inner functions require of a map and a point, and where a run stands. Assumes nothing.
use Rattle.std.specs.Prelude.{◌≡◌, true, cond, List, ℕ, ◌+◌, ◌≤◌, ℤ, length, Option, Some, None}
use Rattle.indexing.specs.Map.{start_of, count_of, is_held, good_parts, good_counts, good_ranges, in_bounds}
use Rattle.indexing.specs.declared.IndexingMap.{IndexingMap}

-- run i, of n results and of constraints, has its number of nodes
pub record Counted (results constraints : List ℕ) (n i : ℕ) : Type 0 where
  pub held : n ≤ length results
  pub below : i ≤ n + length constraints

-- where run i stands and how many nodes it has, or that it is cut off
abbrev pub run_of : IndexingMap → ℕ → Option (ℕ × ℕ)
run_of m i = cond (is_held m i) (Some (start_of (count_of m) i, count_of m i)) None

-- numbers 2 and 7 do not apply
pub record Formed (m : IndexingMap) : Type 0 where
  pub parts : good_parts m ≡ true
  pub counts : good_counts m ≡ true

-- nor does 8
pub record Accepted (m : IndexingMap) : Type 0 where
  pub formed : Formed m
  pub ranges : good_ranges m ≡ true

-- an accepted map, and a point of the right length
pub record Measured (m : IndexingMap) (ds ss : List ℤ) : Type 0 where
  pub accepted : Accepted m
  pub long-dims : length ds ≡ m.dims
  pub long-ranges : length ss ≡ m.ranges

-- and inside the bounds
pub record Bounded (m : IndexingMap) (ds ss : List ℤ) : Type 0 where
  pub measured : Measured m ds ss
  pub inside : in_bounds m ds ss ≡ true
