-- `tree_sum::joined_sum` meets its contract. Assumes nothing.
use borrow.Author.Rules.{rules}
use mathlib.Core.Path.{sym, ◌∙◌}
use Rattle.words.proofs.Tests.{clash}
use Rattle.tree_sum.proofs.Nodes.{sum_added, sum_over}
use Rattle.tree_sum.proofs.joined_sum.Statement.{statement}
use Rattle.tree_sum.proofs.joined_sum.Tie as tie

added-sum-requires : tie.Need-added_sum-requires
added-sum-requires c κs = search rules

same_length : tie.Need-shape_of-x-then-a
same_length c = search rules

same-length-2 : tie.Need-shape_of-y-then-a
same-length-2 c = search rules

returns : tie.Need-returns-then-a
returns c =
    sum_added c.args.b c.args.a c.args.x.now c.args.p _ _ _ _ c.if-b.true c.if-a.true c.added_sum.ensures

no-sum-requires : tie.Need-no_sum-requires
no-sum-requires c κs = search rules

returns-2 : tie.Need-returns-then-b
returns-2 c =
    rw c.no_sum.ensures (sum_over c.args.b c.args.a c.args.x.now c.args.p c.args.y.now c.requires.2.place (λ h. c.if-a.false))

no-sum-requires-2 : tie.Need-no_sum-requires-2
no-sum-requires-2 c κs = search rules

returns-3 : tie.Need-returns
returns-3 c =
    rw c.no_sum-2.ensures (sum_over c.args.b c.args.a c.args.x.now c.args.p c.args.y.now c.requires.2.place (λ h. clash (sym c.if-b.false ∙ h)))

pub joined_sum_spec : {M : Type 1} → statement M
joined_sum_spec =
    tie.close (tie.spec added-sum-requires same_length same-length-2 returns no-sum-requires returns-2 no-sum-requires-2 returns-3)
