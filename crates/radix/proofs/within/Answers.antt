use Rattle.std.proofs.Common.{◌&&◌, leb, rules, tests, ◌∙◌}
use Rattle.std.proofs.lemmas.Iterator.{YieldsList-from_slice}
use Rattle.std.proofs.lemmas.Iterator.Search.{all_from_yields_List}
use Rattle.radix.specs.Radix.{is_within}
use Rattle.radix.proofs.Tests.{all-every}
use Rattle.radix.proofs.within.Goals as goal

pub returns : goal.returns
unfolding is_within
returns c =
    let xs = c.args.xs.now in
    all_from_yields_List (λ x. leb 1 x && leb x c.args.most) _ _ _ c.all.ensures.ran (YieldsList-from_slice xs cc) (λ x b q k. search (rules, tests))
    ∙ all-every (λ x. leb 1 x && leb x c.args.most) xs
