-- The elements of the first q steps are carried. Assumes nothing.
use Rattle.std.proofs.Common.{◌≤◌, ◌-◌, ◌*◌}
use Rattle.tiling.specs.Tiled.{tiles_in}
use Rattle.pack.specs.Rows.{CarriedTo}
use Rattle.pack.proofs.rows.carry_rows.Given as goal

abbrev pub invariant-loop-q : goal.invariant-loop-q
invariant-loop-q l = (l.q ≤ l.g.steps) × CarriedTo l.packs l.t.sizes.now l.t.order.now (tiles_in l.t) l.from (l.q * l.g.span) l.fn.to l.to

abbrev pub decreases-loop-q : goal.decreases-loop-q
decreases-loop-q l = l.g.steps - l.q
