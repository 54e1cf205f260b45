use Rattle.std.proofs.Common.{ℕ, eqb, length, ap, ◌∙◌, rules, tests}
use Rattle.std.specs.Prelude.{Option}
use Rattle.std.specs.Option.{unwrap_or}
use Rattle.std.proofs.lemmas.Iterator.{YieldsList-from_slice}
use Rattle.std.proofs.lemmas.Iterator.Search.{position_from_yields_List}
use Rattle.radix.proofs.Tests.{position-first}
use Rattle.shape.specs.Dimensions.{place}
use Rattle.shape.proofs.dimensions.place_of.Goals as goal

pub returns : goal.returns
unfolding place
returns c =
    let xs = c.args.list.now in
    let p = position_from_yields_List (λ x. eqb x c.args.dimension) c.position.new.self _ c.position.result c.position.ensures.ran (YieldsList-from_slice xs cc) (λ x b q k. search (rules, tests)) in
    c.unwrap_or.ensures ∙ ap (λ (o : Option ℕ). unwrap_or o (length xs)) p ∙ position-first (λ x. eqb x c.args.dimension) xs
