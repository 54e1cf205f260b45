use Rattle.std.proofs.Common.{◌≡◌, ◌*◌, ◌≤◌, drop}
use Rattle.radix.specs.Radix.{max_count, prod}
use Rattle.radix.proofs.product.Given as goal

abbrev pub invariant-loop-d : goal.invariant-loop-d
invariant-loop-d l = (l.acc ≤ max_count) × (l.acc * prod (drop l.d-index l.ds) ≡ prod l.ds)
