-- The span is the product of the sizes from k on. Assumes nothing.
use Rattle.std.proofs.Common.{◌≡◌, ◌<◌, ◌≤◌, drop}
use Rattle.radix.specs.Radix.{prod}
use Rattle.pack.proofs.cut.cut_dimension.Given as goal

abbrev pub invariant-loop-k : goal.invariant-loop-k
invariant-loop-k l = (0 < l.k) × (l.span ≤ l.most) × (l.span ≡ prod (drop l.k l.sizes))
