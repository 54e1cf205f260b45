-- `tree_planner::join_first` meets its contract. Assumes nothing.
use Rattle.std.proofs.Common.{arith, refl, ap, ◌+◌, ◌∙◌}
use Rattle.tree_planner.specs.Words.{value_of}
use Rattle.tree_planner.proofs.Comparing.{least-of}
use Rattle.tree_planner.proofs.Filling.{good-at, entry-stored, row-none, row_next, row-end, scan-first, scan-next, scan-row}
use Rattle.tree_planner.proofs.join_first.Goals as goal

pub loop-k-init : goal.loop-k-init
loop-k-init c = (row-none _ _ _ c.requires.space.0.sound, scan-first _ _ c.far-best.ensures.0, c.far-best.ensures.1)

pub load-requires : goal.load-requires
load-requires c = (omega (arith, c.requires.row_bound), omega (arith, c.requires.row_bound, c.requires.space.1.long))

pub sum-requires : goal.sum-requires
sum-requires c = (c.requires.space.2, good-at _ _ _ c.requires.space.1.sound c.load.ensures)

pub store-requires : goal.store-requires
store-requires c = (
  omega (arith, c.requires.row_bound),
  omega (arith, c.loop-k.invariant.0.long, c.requires.row_bound, c.requires.space.0.long),
)

pub loop-k-preserved : goal.loop-k-preserved
loop-k-preserved c =
    let i = c.loop-k.invariant in
    let m = least-of _ _ _ i.2 c.sum.ensures.1 c.min-best.ensures in
    let lowered =
    scan-next _ _ _ _ _ i.1 (c.sum.ensures.0 ∙ ap (λ w. value_of c.args.own + value_of w) c.load.ensures) m.0 in (
      row_next _ _ _ _ _ _ _ (omega (arith, c.requires.row_bound)) i.0 (scan-row _ _ _ _ _ lowered)
          (entry-stored _ _ _ _ _ i.0.sound m.1 refl c.store.ensures),
      lowered,
      m.1,
    )

pub returns : goal.returns
returns c = row-end _ _ _ _ _ _ (omega arith) (omega arith) c.loop-k.invariant.0
