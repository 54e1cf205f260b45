-- What the loop of `range_of` keeps.
use mathlib.Core.Path.{◌≡◌}
use mathlib.Core.List.{[]}
use Prim.Native.Nat.{◌+◌, ◌-◌, ◌≤◌}
use lib.ListN.{drop}
use Rattle.expression.specs.Node.{max_nodes, nodes_at}
use Rattle.expression.specs.Machine.{walk}
use Rattle.expression.specs.Reckon.{range_alg, zip_ranges}
use Rattle.expression.specs.Ready.{Stacks}
use Rattle.expression.proofs.reckoning.range_of.Given as goal

abbrev pub invariant-loop-i : goal.invariant-loop-i
invariant-loop-i l =
    (l.from ≤ l.i) × (l.i ≤ l.i-end) × (l.top ≤ max_nodes) × (max_nodes ≤ l.top + (l.i - l.from)) × Stacks l.los l.his
    × (walk (range_alg l.lower l.upper) (nodes_at l.dims l.ranges l.kinds l.values l.i (l.i-end - l.i)) (drop l.top (zip_ranges l.los l.his)) ≡ walk (range_alg l.lower l.upper) (nodes_at l.dims l.ranges l.kinds l.values l.from l.count) [])
