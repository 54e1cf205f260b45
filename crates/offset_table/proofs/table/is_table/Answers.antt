-- `offset_table::table::is_table` meets its contract. Assumes nothing.
use Rattle.std.proofs.Common.{arith}
use Rattle.std.proofs.lemmas.Bool.Decides.{nat_tests}
use Rattle.offset_table.specs.Answers.{is_table}
use Rattle.offset_table.proofs.table.is_table.Goals as goal

pub returns-then-n-le-MAX_ELEMENTS : goal.returns-then-n-le-MAX_ELEMENTS
unfolding is_table
returns-then-n-le-MAX_ELEMENTS c = grind (arith, nat_tests)

pub returns-else-n-le-MAX_ELEMENTS : goal.returns-else-n-le-MAX_ELEMENTS
unfolding is_table
returns-else-n-le-MAX_ELEMENTS c = grind (arith, nat_tests)
