-- `indexing::judging::range_at` meets its contract. Assumes nothing.
use borrow.Author.Rules.{rules}
use mathlib.Core.Path.{ap, ◌∙◌}
use Rattle.expression.specs.Decode.{is_tree}
use Rattle.expression.specs.Reckon.{range_in}
use Rattle.indexing.proofs.Formed.{tree-at, small-lower, small-upper, run-here, tree-here, never-cut}
use Rattle.indexing.proofs.judging.range_at.Goals as goal

pub returns-in_err-from : goal.returns-in_err-from
returns-in_err-from c = absurd (never-cut c.args.m c.args.i c.requires.0 c.requires.1 c.in_err-from.ensures)

pub range_of-requires : goal.range_of-requires
range_of-requires c =
    let m = c.args.m in
    let h = c.in_ok-from.ensures in
    record {
      run = run-here m c.args.i _ _ h (search rules) (search rules);
      long-lower = search rules;
      long-upper = search rules;
      small-lower = small-lower m c.requires.0;
      small-upper = small-upper m c.requires.0;
      whole = ap is_tree (tree-here m c.args.i _ _ h) ∙ tree-at m c.requires.0 c.args.i c.requires.1;
    }

pub returns : goal.returns
returns c = c.range_of.ensures ∙ ap (range_in c.args.m.lower c.args.m.upper) (tree-here c.args.m c.args.i _ _ c.in_ok-from.ensures)
