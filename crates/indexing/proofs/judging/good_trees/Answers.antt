-- `indexing::judging::good_trees` meets its contract. Assumes nothing.
use borrow.Author.Rules.{rules}
use mathlib.Core.Path.{◌≡◌, sym}
use mathlib.Core.Bool.{false}
use native.Mathlib.Omega.{arith}
use Rattle.radix.proofs.Tests.{every-all, every-not}
use Rattle.indexing.specs.Map.{runs, good_tree, good_trees}
use Rattle.indexing.proofs.judging.good_trees.Goals as goal

pub returns-then-not-good_tree : goal.returns-then-not-good_tree
unfolding good_trees
returns-then-not-good_tree c =
    let h : (good_tree c.args.m) c.loop-i.i ≡ false = search rules in
    sym (every-not (good_tree c.args.m) (runs c.args.m) c.loop-i.i (omega arith) h)

pub returns : goal.returns
unfolding good_trees
returns c = sym (every-all (good_tree c.args.m) (runs c.args.m) (λ k h. c.loop-i.invariant k (omega arith)))
