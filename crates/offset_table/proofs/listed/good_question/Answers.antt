-- `offset_table::listed::good_question` meets its contract. Assumes nothing.
use Rattle.std.proofs.Common.{arith}
use Rattle.std.proofs.lemmas.Bool.Decides.{nat_tests}
use Rattle.offset_table.specs.Answers.{good_question}
use Rattle.offset_table.proofs.listed.good_question.Goals as goal

pub returns-then-count-le-MAX_LISTED : goal.returns-then-count-le-MAX_LISTED
unfolding good_question
returns-then-count-le-MAX_LISTED c = grind (arith, nat_tests)

pub returns-else-count-le-MAX_LISTED : goal.returns-else-count-le-MAX_LISTED
unfolding good_question
returns-else-count-le-MAX_LISTED c = grind (arith, nat_tests)
