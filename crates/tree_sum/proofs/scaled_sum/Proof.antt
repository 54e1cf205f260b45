-- `tree_sum::scaled_sum` meets its contract. Assumes nothing.
use borrow.Author.Rules.{rules}
use mir.Facts.{to_z-of_z}
use Rattle.tree_sum.proofs.Moved.{scale-moved}
use Rattle.tree_sum.proofs.scaled_sum.Statement.{statement}
use Rattle.tree_sum.proofs.scaled_sum.Tie as tie

scale-requires : tie.Need-scale-m-requires
scale-requires c κs = search rules

kept-sum-requires : tie.Need-kept_sum-requires
kept-sum-requires c κs = search rules

same_length : tie.Need-shape_of-x
same_length c = search rules

same-length-2 : tie.Need-shape_of-y
same-length-2 c = search rules

returns : tie.Need-returns
returns c =
    scale-moved c.args.z c.args.a c.args.x.now _ _ _ c.args.p _ _ _ c.requires.0 (rw (to_z-of_z c.ranges.z) at c.scale-m.ensures) c.kept_sum.ensures

pub scaled_sum_spec : {M : Type 1} → statement M
scaled_sum_spec =
    tie.close (tie.spec scale-requires kept-sum-requires same_length same-length-2 returns)
