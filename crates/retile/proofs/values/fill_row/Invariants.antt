-- The invariant: the first places of the row are filled, one for each pair of the tables.
use Rattle.std.proofs.Common.{◌≡◌, ◌<◌, length, get_or}
use Rattle.retile.proofs.Filling.{Filled, IsRowOf}
use Rattle.retile.proofs.values.fill_row.Given as goal

abbrev pub invariant-loop-from : goal.invariant-loop-from
invariant-loop-from l =
    Filled (IsRowOf l.source l.k l.ptable l.qtable l.i) l.fn.values l.fn.filled l.values l.filled × (0 < length l.yielded → get_or l.filled l.i 0 ≡ 1)
