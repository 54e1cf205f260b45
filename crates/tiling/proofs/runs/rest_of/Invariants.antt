-- The invariant: the digits of k from i on are 0.
use Rattle.std.proofs.Common.{◌≡◌, ◌/◌, ◌%◌, drop}
use Rattle.radix.specs.Radix.{prod}
use Rattle.tiling.proofs.runs.rest_of.Given as goal

abbrev pub invariant-loop-i : goal.invariant-loop-i
invariant-loop-i l = (l.span ≡ prod (drop l.i l.dims)) × (l.q ≡ l.k / prod (drop l.i l.dims)) × (l.k % prod (drop l.i l.dims) ≡ 0)
