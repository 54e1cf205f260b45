use Rattle.std.specs.Iterator.Adapters.{zip_first, zip_second}
use Rattle.std.specs.Slice.Iter.{iter_rest}
use Rattle.radix.specs.Radix.{row_major}
use Rattle.radix.proofs.Loops.{Left}
use Rattle.radix.proofs.row_major.Given as goal

abbrev pub invariant-loop-d : goal.invariant-loop-d
invariant-loop-d l = Left (iter_rest (zip_first l.d-iterator)) (iter_rest (zip_second l.d-iterator)) l.acc (row_major l.ds l.es)
