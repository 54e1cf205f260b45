-- `fold::parts::run_sum` meets its contract. Assumes nothing.
use Rattle.std.proofs.Common.{◌≡◌, ◌+◌, ◌≤◌, length, arith, rules}
use Rattle.expression.specs.Node.{max_nodes}
use Rattle.indexing.proofs.Formed.{never-cut}
use Rattle.fold.proofs.Runs.{run_end, run-folded}
use Rattle.fold.proofs.parts.run_sum.Goals as goal

pub overflow_add-from : goal.overflow_add-from
overflow_add-from c =
    let long-kinds : length c.args.m.kinds ≡ max_nodes = search rules in
    let long-values : length c.args.m.values ≡ max_nodes = search rules in
    let end : c.in-Some.from + c.in-Some.count ≤ max_nodes =
    run_end c.args.m c.requires.0.formed c.args.i c.requires.1 _ _ c.in-Some.ensures long-kinds long-values in
    record { fits = omega arith }

pub tree_sum-requires : goal.tree_sum-requires
tree_sum-requires c =
    let long-kinds : length c.args.m.kinds ≡ max_nodes = search rules in
    let long-values : length c.args.m.values ≡ max_nodes = search rules in
    let end : c.in-Some.from + c.in-Some.count ≤ max_nodes =
    run_end c.args.m c.requires.0.formed c.args.i c.requires.1 _ _ c.in-Some.ensures long-kinds long-values in (
      record { in-kinds = omega arith; in-values = omega arith },
      record { place = omega arith; few = c.requires.2.few_words; few-scratch = c.requires.2.few-scratch },
    )

pub returns-in-Some : goal.returns-in-Some
returns-in-Some c =
    let long-kinds : length c.args.m.kinds ≡ max_nodes = search rules in
    let long-values : length c.args.m.values ≡ max_nodes = search rules in
    run-folded c.args.m c.requires.0.formed c.args.i c.requires.1 _ _ c.in-Some.ensures long-kinds long-values _ _ _ _ _ c.requires.2 c.tree_sum.ensures

pub returns-in-None : goal.returns-in-None
returns-in-None c = absurd (never-cut c.args.m c.args.i c.requires.0.formed c.requires.1 c.in-None.ensures)
