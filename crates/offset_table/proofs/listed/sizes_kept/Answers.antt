-- `offset_table::listed::sizes_kept` meets its contract. Assumes nothing.
use Rattle.std.proofs.Common.{◌≡◌, ◌≤◌, ◌∙◌, ◌+◌, min, length, take, rules, arith}
use borrow.Author.Tests.{tests}
use lib.Dec.{leb}
use lib.ListN.{get_or}
use Rattle.std.specs.List.{list_all}
use Rattle.std.proofs.lemmas.Iterator.{YieldsList-from_slice}
use Rattle.std.proofs.lemmas.Iterator.Adapters.{serves_from_places}
use Rattle.std.proofs.lemmas.Iterator.Search.{all_from_yields_List}
use Rattle.radix.specs.Radix.{max_count}
use Rattle.radix.proofs.Tests.{every-agree, every-at, capped}
use Rattle.layout.specs.Layout.{blank_layout, padded_of}
use Rattle.layout.specs.declared.Layout.{Layout}
use Rattle.offset_table.specs.Answers.{layouts_kept, sizes_kept}
use Rattle.offset_table.proofs.Walks.{all-taken, taken-at}
use Rattle.offset_table.proofs.listed.sizes_kept.Goals as goal

pub all-requires-clause-callable : goal.all-requires-clause-callable
unfolding layouts_kept
all-requires-clause-callable c =
    let few : c.args.count ≤ length c.args.layouts = omega arith in
    serves_from_places (YieldsList-from_slice (take c.args.count c.args.layouts) cc) (λ x q k. search (rules, tests))
    (λ x k l e.
    let t = taken-at c.args.count k c.args.layouts x.now blank_layout few l e in
    λ _ _ _ _ _ _ _. (c.requires.1, rw t.1 (every-at _ _ c.requires.2 k t.0)))

pub returns : goal.returns
unfolding sizes_kept
returns c =
    let few : c.args.count ≤ length c.args.layouts = omega arith in
    let test = λ (l : Layout). leb (min (padded_of c.args.shape l) (max_count + 1)) max_count in
    let h : c.all.result ≡ list_all test (take c.args.count c.args.layouts) =
    all_from_yields_List test _ _ _ c.all.ensures.ran (YieldsList-from_slice (take c.args.count c.args.layouts) cc) (λ x b q k. search (rules, tests))
    in
    h ∙ all-taken test blank_layout c.args.count c.args.layouts few
    ∙ every-agree _ _ c.args.count (λ k l. capped (padded_of c.args.shape (get_or c.args.layouts k blank_layout)))
