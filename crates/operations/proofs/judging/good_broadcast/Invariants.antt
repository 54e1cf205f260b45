-- The dimensions listed before k agree.
use Rattle.std.proofs.Common.{◌≡◌, ℕ, ◌<◌, true, eqb, get_or}
use Rattle.operations.proofs.judging.good_broadcast.Given as goal

abbrev pub invariant-loop-k : goal.invariant-loop-k
invariant-loop-k l = (i : ℕ) → i < l.k → eqb (get_or l.inner i 0) (get_or l.outer (get_or l.list i 0) 0) ≡ true
