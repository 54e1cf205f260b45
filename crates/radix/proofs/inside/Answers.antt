use Rattle.std.proofs.Common.{ltb, rules, tests, ◌∙◌}
use Rattle.std.proofs.lemmas.Iterator.{YieldsList-from_slice, YieldsList-from_zip}
use Rattle.std.proofs.lemmas.Iterator.Search.{all_from_yields_List}
use Rattle.radix.proofs.Tests.{all-inside}
use Rattle.radix.proofs.inside.Goals as goal

pub returns : goal.returns
returns c =
    let es = c.args.es.now in
    let ds = c.args.ds.now in
    all_from_yields_List (λ p. ltb p.0 p.1) c.all.new.self _ _ c.all.ensures.ran (YieldsList-from_zip (YieldsList-from_slice es cc) (YieldsList-from_slice ds cc)) (λ x b q k. search (rules, tests))
    ∙ all-inside es ds c.requires
