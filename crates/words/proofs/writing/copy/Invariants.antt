-- The words before the index are written.
use Rattle.std.proofs.Common.{take}
use Rattle.words.specs.Promises.{Puts}
use Rattle.words.proofs.writing.copy.Given as goal

abbrev pub invariant-loop-v : goal.invariant-loop-v
invariant-loop-v l = Puts l.initial.out l.out l.at l.e (take l.v-index l.v-items)
