-- `tree_planner::lower_row` meets its contract. Assumes nothing.
use Rattle.std.proofs.Common.{arith, refl}
use Rattle.tree_planner.proofs.Filling.{good-at, row-start, row_next, row-end, lowered-start, lowered-next}
use Rattle.tree_planner.proofs.lower_row.Goals as goal

pub loop-k-init : goal.loop-k-init
loop-k-init c = row-start _ _ _ _ c.requires.space.0.sound (λ x l. lowered-start _ _ _ _ _ _ _ l)

pub load-x-requires : goal.load-x-requires
load-x-requires c = (omega (arith, c.requires.to_bound), omega (arith, c.requires.to_bound, c.requires.space.1.long))

pub lower-requires : goal.lower-requires
lower-requires c =
    let i = c.loop-k.invariant in (
      i.sound,
      omega (arith, c.requires.to_bound),
      omega (arith, i.long, c.requires.to_bound, c.requires.space.0.long),
      good-at _ _ _ c.requires.space.1.sound c.load-x.ensures,
      c.requires.space.2,
    )

pub loop-k-preserved : goal.loop-k-preserved
loop-k-preserved c =
    let i = c.loop-k.invariant in
    row_next _ _ _ _ _ _ _ (omega (arith, c.requires.to_bound)) i
    (lowered-next _ _ _ _ _ _ _ _ _ _ (omega arith) (omega (arith, c.requires.to_bound)) i c.load-x.ensures refl)
    c.lower.ensures

pub returns : goal.returns
returns c = row-end _ _ _ _ _ _ (omega (arith, c.requires.to_bound)) (omega arith) c.loop-k.invariant
