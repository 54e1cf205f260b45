-- `indexing::points::in_bounds` meets its contract. Assumes nothing.
use borrow.Author.Rules.{rules}
use native.Mathlib.Omega.{arith}
use Rattle.indexing.specs.Map.{in_bounds}
use Rattle.indexing.proofs.Formed.{counts-of}
use Rattle.indexing.proofs.points.in_bounds.Goals as goal

pub are_in-requires : goal.are_in-requires
are_in-requires c = let w = counts-of c.args.m c.requires.accepted.formed.counts in (omega arith, omega arith)

pub are_in-requires-then-are_in : goal.are_in-requires-then-are_in
are_in-requires-then-are_in c = let w = counts-of c.args.m c.requires.accepted.formed.counts in (omega arith, omega arith)

pub returns-then-are_in : goal.returns-then-are_in
unfolding in_bounds
returns-then-are_in c = search rules

pub returns-else-are_in : goal.returns-else-are_in
unfolding in_bounds
returns-else-are_in c = search rules
