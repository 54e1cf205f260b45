-- `pack_bench::plain::by_table` is safe. Assumes nothing.
use Rattle.reciprocal.proofs.Dividing.{multipliers-lent}
use Rattle.pack_bench.proofs.plain.by_table.Goals as goal

pub plain_all-requires-clause-are_multipliers : goal.plain_all-requires-clause-are_multipliers
plain_all-requires-clause-are_multipliers c = multipliers-lent _ c.multipliers-m.ensures
