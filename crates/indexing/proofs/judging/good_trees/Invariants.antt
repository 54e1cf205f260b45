-- What the loop of `good_trees` keeps.
use mathlib.Core.Path.{◌≡◌}
use mathlib.Core.Bool.{true}
use Prim.Native.Nat.{ℕ, ◌<◌}
use Rattle.indexing.specs.Map.{good_tree}
use Rattle.indexing.proofs.judging.good_trees.Given as goal

abbrev pub invariant-loop-i : goal.invariant-loop-i
invariant-loop-i l = (j : ℕ) → j < l.i → good_tree l.m j ≡ true
