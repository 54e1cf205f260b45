-- `fold::parts::fold_constraints` meets its contract. Assumes nothing.
use Rattle.std.proofs.Common.{◌≡◌, length}
use Rattle.fold.proofs.Constraints.{Keeping}
use Rattle.fold.proofs.parts.fold_constraints.Given as goal

abbrev pub invariant-loop-k : goal.invariant-loop-k
invariant-loop-k l =
    Keeping l.m l.initial.kinds l.initial.values l.start l.k l.counts l.lower l.upper l.kinds l.values l.at l.count
    × (length l.words ≡ length l.initial.words) × (length l.scratch ≡ length l.initial.scratch) × (length l.counts ≡ length l.initial.counts)
    × (length l.lower ≡ length l.initial.lower) × (length l.upper ≡ length l.initial.upper) × (length l.kinds ≡ length l.initial.kinds)
    × (length l.values ≡ length l.initial.values)
