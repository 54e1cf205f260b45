-- `rules::rewriting::is_small_sum` meets its contract. Assumes nothing.
use borrow.Author.Rules.{rules}
use Rattle.rules.proofs.Settled.{judges}
use Rattle.rules.proofs.rewriting.is_small_sum.Statement.{statement}
use Rattle.rules.proofs.rewriting.is_small_sum.Tie as tie

reckon-requires : tie.Need-reckon-r-requires
reckon-requires c κs = search rules

returns : tie.Need-returns
returns c = judges _ _ _ _ _ _ c.reckon-r.ensures

pub is_small_sum_spec : {M : Type 1} → statement M
is_small_sum_spec = tie.close (tie.spec reckon-requires returns)
