-- What the loop of `value_of` keeps.
use mathlib.Core.Path.{◌≡◌}
use mathlib.Core.List.{[]}
use Prim.Native.Nat.{◌+◌, ◌-◌, ◌≤◌}
use lib.ListN.{length, drop}
use Rattle.expression.specs.Node.{max_nodes, nodes_at}
use Rattle.expression.specs.Machine.{walk}
use Rattle.expression.specs.Value.{value_alg}
use Rattle.expression.proofs.values.value_of.Given as goal

abbrev pub invariant-loop-i : goal.invariant-loop-i
invariant-loop-i l =
    (l.from ≤ l.i) × (l.i ≤ l.i-end) × (l.top ≤ max_nodes) × (max_nodes ≤ l.top + (l.i - l.from)) × (length l.items ≡ max_nodes)
    × (walk (value_alg l.ds l.ss) (nodes_at (length l.ds) (length l.ss) l.kinds l.values l.i (l.i-end - l.i)) (drop l.top l.items) ≡ walk (value_alg l.ds l.ss) (nodes_at (length l.ds) (length l.ss) l.kinds l.values l.from l.count) [])
