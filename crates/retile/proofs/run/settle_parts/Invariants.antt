-- The invariant: the run has come as far as the mark.
use Rattle.std.proofs.Common.{◌≡◌, ◌≤◌, ◌-◌, length}
use Rattle.retile.specs.Stores.{memory}
use Rattle.retile.specs.Retiling.{value_between}
use Rattle.retile.proofs.Parts.{Come}
use Rattle.retile.proofs.run.settle_parts.Given as goal

abbrev pub invariant-loop-mark : goal.invariant-loop-mark
invariant-loop-mark l =
    (length l.ahead ≡ 256) × (l.mark ≤ l.end)
    × Come (value_between l.s l.source) (memory l.fn.cells l.fn.mark) (memory l.cells l.mark)

abbrev pub decreases-loop-mark : goal.decreases-loop-mark
decreases-loop-mark l = l.end - l.mark
