-- The cuts before k are good.
use Rattle.std.proofs.Common.{◌≡◌, ℕ, ◌<◌, true, get_or}
use Rattle.operation_maps.specs.Operation.{good_cut}
use Rattle.operations.proofs.judging.good_cuts.Given as goal

abbrev pub invariant-loop-k : goal.invariant-loop-k
invariant-loop-k l = (i : ℕ) → i < l.k → good_cut (get_or l.sizes i 0) (get_or l.starts i 0) (get_or l.limits i 0) (get_or l.strides i 0) ≡ true
