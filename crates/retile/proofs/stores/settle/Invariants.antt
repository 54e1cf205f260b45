-- The invariant: after k steps the memory is what the first k stores leave.
use Rattle.std.proofs.Common.{length}
use Rattle.retile.specs.Stores.{memory}
use Rattle.retile.specs.Steps.{listed}
use Rattle.retile.proofs.Running.{Running}
use Rattle.retile.proofs.stores.settle.Given as goal

abbrev pub invariant-loop-k : goal.invariant-loop-k
invariant-loop-k l = Running (listed l.values l.fn.mark) (memory l.fn.cells l.fn.mark) (length l.values) l._k (memory l.cells l.mark) l.phase
