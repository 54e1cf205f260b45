-- `route::load::good_layouts` meets its contract. Assumes nothing.
use Rattle.std.proofs.Common.{◌≡◌, ◌∙◌, take, length, rules, arith}
use Rattle.std.specs.List.{list_all}
use Rattle.std.proofs.lemmas.Iterator.{YieldsList-from_slice}
use Rattle.std.proofs.lemmas.Iterator.Search.{all_from_yields_List}
use Rattle.layout.specs.Layout.{good_layout}
use Rattle.route.specs.Stations.{blank_layout}
use Rattle.route.proofs.Tables.{all-every}
use Rattle.route.proofs.load.good_layouts.Goals as goal

pub returns : goal.returns
returns c =
    let xs = take c.args.station.count c.args.station.layouts in
    let h : c.all.result ≡ list_all (good_layout c.args.rank) xs =
    all_from_yields_List (good_layout c.args.rank) _ _ _ c.all.ensures.ran (YieldsList-from_slice xs cc) (λ x b q k. search rules) in
    let long : length c.args.station.layouts ≡ 8 = search rules in
    h ∙ all-every _ blank_layout _ c.args.station.count (omega arith)
