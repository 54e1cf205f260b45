-- `tree_planner::join_further` meets its contract. Assumes nothing.
use Rattle.std.proofs.Common.{arith, ◌∙◌}
use Rattle.tree_planner.proofs.Filling.{good-at, lowest_start, lowest-next, lowest-end, split-is, split-row, split-kept}
use Rattle.tree_planner.proofs.join_further.Goals as goal

pub start_row-requires : goal.start_row-requires
start_row-requires c = (
  c.requires.space.1.sound,
  omega arith,
  omega (arith, c.requires.space.1.long),
  c.far.ensures.1,
  c.requires.row_bound.2,
)

pub loop-j-init : goal.loop-j-init
loop-j-init c = lowest_start _ _ _ _ _ _ c.far.ensures.0 c.start_row.ensures

pub load-extra-requires : goal.load-extra-requires
load-extra-requires c = (
  omega (arith, c.requires.row_bound),
  omega (arith, c.loop-j.invariant.long, c.start_row.ensures.long, c.requires.space.1.long, c.requires.row_bound),
)

pub lower_row-requires : goal.lower_row-requires
lower_row-requires c =
    let i = c.loop-j.invariant in
    record {
      space = (
        record { sound = i.sound; long = i.long ∙ c.start_row.ensures.long ∙ c.requires.space.1.long },
        c.requires.space.0,
        good-at _ _ _ i.sound c.load-extra.ensures,
      );
      to_bound = (omega arith, c.requires.row_bound.0, omega arith, c.requires.row_bound.2);
    }

pub loop-j-preserved : goal.loop-j-preserved
loop-j-preserved c =
    let i = c.loop-j.invariant in
    lowest-next _ _ _ _ _ _ _ _ _ _ _
    (λ x l. split-is _ _ _ _ _ _ _ _ _ x c.requires.row_bound.1 (omega (arith, c.requires.row_bound)) i c.load-extra.ensures)
    i
    c.lower_row.ensures

pub copy_row-requires : goal.copy_row-requires
copy_row-requires c =
    let i = c.loop-j.invariant in (
      c.requires.space.0,
      record { sound = i.sound; long = i.long ∙ c.start_row.ensures.long ∙ c.requires.space.1.long },
      c.requires.row_bound.0,
      c.requires.row_bound.2,
    )

pub returns : goal.returns
returns c =
    let all = lowest-end _ _ _ _ _ _ _ (omega arith) (omega arith) c.loop-j.invariant in (
      split-row _ _ _ _ _ _ _ c.requires.row_bound.1 c.requires.row_bound.2 _ c.start_row.ensures all _ c.copy_row.ensures,
      split-kept _ _ _ _ _ _ _ c.requires.row_bound.1 c.requires.row_bound.2 _ c.start_row.ensures all,
    )
