use Rattle.std.proofs.Common.{ltb, ◌∙◌, rules, tests}
use Rattle.std.proofs.lemmas.Iterator.{YieldsList-from_slice}
use Rattle.std.proofs.lemmas.Iterator.Search.{all_from_yields_List}
use Rattle.radix.proofs.Tests.{all-every}
use Rattle.shape.specs.Dimensions.{in_range}
use Rattle.shape.proofs.dimensions.in_range.Goals as goal

pub returns : goal.returns
unfolding in_range
returns c =
    let xs = c.args.list.now in
    all_from_yields_List (λ x. ltb x c.args.n) _ _ _ c.all.ensures.ran (YieldsList-from_slice xs cc) (λ x b q k. search (rules, tests))
    ∙ all-every (λ x. ltb x c.args.n) xs
