-- The dimensions before k are alike.
use Rattle.std.proofs.Common.{◌≡◌, ℕ, ◌<◌, true, ◌||◌, eqb, get_or}
use Rattle.operations.proofs.joining.alike_sizes.Given as goal

abbrev pub invariant-loop-k : goal.invariant-loop-k
invariant-loop-k l = (i : ℕ) → i < l.k → (eqb i l.dimension || eqb (get_or l.a i 0) (get_or l.b i 0)) ≡ true
