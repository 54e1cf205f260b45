-- `offset_table::listed::layouts_kept` meets its contract. Assumes nothing.
use Rattle.std.proofs.Common.{◌≡◌, ◌≤◌, ◌∙◌, length, take, rules, arith}
use borrow.Author.Tests.{tests}
use Rattle.std.specs.List.{list_all}
use Rattle.std.proofs.lemmas.Iterator.{YieldsList-from_slice}
use Rattle.std.proofs.lemmas.Iterator.Search.{all_from_yields_List}
use Rattle.layout.specs.Layout.{blank_layout, good_layout}
use Rattle.offset_table.specs.Answers.{layouts_kept}
use Rattle.offset_table.proofs.Walks.{all-taken}
use Rattle.offset_table.proofs.listed.layouts_kept.Goals as goal

pub returns : goal.returns
unfolding layouts_kept
returns c =
    let few : c.args.count ≤ length c.args.layouts = omega arith in
    let h : c.all.result ≡ list_all (good_layout c.args.shape.rank) (take c.args.count c.args.layouts) =
    all_from_yields_List (good_layout c.args.shape.rank) _ _ _ c.all.ensures.ran (YieldsList-from_slice (take c.args.count c.args.layouts) cc) (λ x b q k. search (rules, tests))
    in
    h ∙ all-taken (good_layout c.args.shape.rank) blank_layout c.args.count c.args.layouts few
