-- `tree_sum::added_sum` meets its contract. Assumes nothing.
use borrow.Author.Rules.{rules}
use Rattle.tree_sum.proofs.Moved.{add-moved, add-not}
use Rattle.tree_sum.proofs.added_sum.Statement.{statement}
use Rattle.tree_sum.proofs.added_sum.Tie as tie

blend-requires : tie.Need-blend-m-requires
blend-requires c κs = search rules

no-sum-requires : tie.Need-no_sum-requires
no-sum-requires c κs = search rules

same_length : tie.Need-shape_of-x-then-m-gt-MAX_TERMS
same_length c = search rules

same-length-2 : tie.Need-shape_of-y-then-m-gt-MAX_TERMS
same-length-2 c = search rules

returns : tie.Need-returns-then-m-gt-MAX_TERMS
returns c =
    rw c.no_sum.ensures (add-not c.args.b c.args.a c.args.x.now c.args.y.now _ c.args.p _ _ c.requires.0 c.requires.1 c.requires.2 c.blend-m.ensures c.if-m-gt-MAX_TERMS.true)

kept-sum-requires : tie.Need-kept_sum-requires
kept-sum-requires c κs = search rules

same-length-3 : tie.Need-shape_of-x
same-length-3 c = search rules

same-length-4 : tie.Need-shape_of-y
same-length-4 c = search rules

returns-2 : tie.Need-returns
returns-2 c =
    add-moved c.args.b c.args.a c.args.x.now c.args.y.now _ c.args.p _ _ c.requires.0 c.requires.1 c.requires.2 c.blend-m.ensures _ _ c.kept_sum.ensures

pub added_sum_spec : {M : Type 1} → statement M
added_sum_spec =
    tie.close
    (tie.spec
    blend-requires
    no-sum-requires
    same_length
    same-length-2
    returns
    kept-sum-requires
    same-length-3
    same-length-4
    returns-2)
