-- What the loop of `is_tree` keeps.
use mathlib.Core.Path.{◌≡◌}
use Prim.Native.Nat.{◌-◌, ◌≤◌}
use Rattle.expression.specs.Node.{nodes_at}
use Rattle.expression.proofs.Depth.{depth_walk}
use Rattle.expression.proofs.trees.is_tree.Given as goal

abbrev pub invariant-loop-i : goal.invariant-loop-i
invariant-loop-i l =
    (l.from ≤ l.i) × (l.i ≤ l.i-end) × (l.depth ≤ l.i - l.from)
    × (depth_walk (nodes_at l.dims l.ranges l.kinds l.values l.i (l.i-end - l.i)) l.depth ≡ depth_walk (nodes_at l.dims l.ranges l.kinds l.values l.from l.count) 0)
