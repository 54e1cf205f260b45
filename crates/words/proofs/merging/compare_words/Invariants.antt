-- What stands before i is alike in both.
use Rattle.std.proofs.Common.{◌≡◌, drop}
use Rattle.words.specs.Words.{word_order}
use Rattle.words.proofs.merging.compare_words.Given as goal

abbrev pub invariant-loop-i : goal.invariant-loop-i
invariant-loop-i l = word_order l.a l.b ≡ word_order (drop l.i l.a) (drop l.i l.b)
