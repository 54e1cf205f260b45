-- No place before the later one repeats, and nothing before the earlier one holds the same as the later one.
use Rattle.std.proofs.Common.{◌≡◌, ℕ, ◌<◌, None, false}
use Rattle.shape.specs.Dimensions.{repeats, same_dimension}
use Rattle.shape.proofs.dimensions.first_pair.Given as goal

abbrev pub invariant-loop-earlier : goal.invariant-loop-earlier
invariant-loop-earlier l =
    (l.pair ≡ None) × ((k : ℕ) → k < l.later → repeats l.list k ≡ false)
    × ((i : ℕ) → i < l.earlier → same_dimension l.list i l.later ≡ false)

abbrev pub invariant-search : goal.invariant-search
invariant-search l = (l.pair ≡ None) × ((k : ℕ) → k < l.later → repeats l.list k ≡ false)
