-- `tree_planner::start_station` meets its contract. Assumes nothing.
use Rattle.std.proofs.Common.{arith, refl}
use Rattle.tree_planner.proofs.Filling.{rows_start, rows_next, rows_end}
use Rattle.tree_planner.proofs.start_station.Goals as goal

pub loop-b-init : goal.loop-b-init
loop-b-init c = rows_start _ _ _ _ c.requires.sizes_len.2.sound

pub own_of-requires : goal.own_of-requires
own_of-requires c = (c.requires.sizes_len.0, c.requires.sizes_len.1, c.requires.i_bound.0, omega (arith, c.requires.i_bound))

pub start_row-requires : goal.start_row-requires
start_row-requires c =
    let i = c.loop-b.invariant in (
      i.sound,
      omega (arith, c.requires.i_bound),
      omega (arith, i.long, c.requires.i_bound, c.requires.sizes_len.2.long),
      c.own_of.ensures.1,
      c.requires.i_bound.2,
    )

pub loop-b-preserved : goal.loop-b-preserved
loop-b-preserved c =
    rows_next _ _ _ _ _ _ _ _ _ c.requires.i_bound.2 refl (λ x l. c.own_of.ensures.0) c.loop-b.invariant c.start_row.ensures

pub returns : goal.returns
returns c = rows_end _ _ _ _ _ _ _ (omega arith) (omega arith) c.loop-b.invariant
