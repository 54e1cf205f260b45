-- `tree_sum::divided_sum` meets its contract. Assumes nothing.
use borrow.Author.Rules.{rules}
use mir.Facts.{to_z-of_z}
use Rattle.tree_sum.proofs.Moved.{divide-moved}
use Rattle.tree_sum.proofs.divided_sum.Statement.{statement}
use Rattle.tree_sum.proofs.divided_sum.Tie as tie

apply-rules-requires : tie.Need-apply_rules-r-requires
apply-rules-requires c κs = search rules

same_length : tie.Need-shape_of-x
same_length c = search rules

same-length-2 : tie.Need-shape_of-y
same-length-2 c = search rules

returns : tie.Need-returns
returns c =
    let r = c.before.before in
    let s = r.before.before.before in
    divide-moved s.args.op s.args.c s.args.a s.args.x.now _ s.args.y.now _ s.args.p _ _ _ s.requires.1 s.requires.2 s.requires.3 (same-length-2 c) (rw (to_z-of_z s.ranges.c) at r.apply_rules-r.ensures)

pub divided_sum_spec : {M : Type 1} → statement M
divided_sum_spec = tie.close (tie.spec apply-rules-requires same_length same-length-2 returns)
