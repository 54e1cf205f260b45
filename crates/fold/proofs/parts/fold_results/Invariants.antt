-- `fold::parts::fold_results` meets its contract. Assumes nothing.
use Rattle.std.proofs.Common.{◌≡◌, length}
use Rattle.fold.proofs.Results.{Folding}
use Rattle.fold.proofs.parts.fold_results.Given as goal

abbrev pub invariant-loop-i : goal.invariant-loop-i
invariant-loop-i l =
    Folding l.m l.i l.counts l.kinds l.values l.at × (length l.words ≡ length l.initial.words) × (length l.scratch ≡ length l.initial.scratch)
    × (length l.counts ≡ length l.initial.counts) × (length l.kinds ≡ length l.initial.kinds) × (length l.values ≡ length l.initial.values)
