-- `indexing::judging::good_ranges` meets its contract. Assumes nothing.
use borrow.Author.Rules.{rules}
use mathlib.Core.Path.{◌≡◌, sym}
use mathlib.Core.Bool.{false}
use native.Mathlib.Omega.{arith}
use Rattle.radix.proofs.Tests.{every-all, every-not}
use Rattle.indexing.specs.Map.{runs, kept_at, good_ranges}
use Rattle.indexing.proofs.judging.good_ranges.Goals as goal

pub returns-then-is_none : goal.returns-then-is_none
unfolding good_ranges
returns-then-is_none c =
    let h : (kept_at c.args.m) c.loop-i.i ≡ false = search rules in
    sym (every-not (kept_at c.args.m) (runs c.args.m) c.loop-i.i (omega arith) h)

pub returns : goal.returns
unfolding good_ranges
returns c = sym (every-all (kept_at c.args.m) (runs c.args.m) (λ k h. c.loop-i.invariant k (omega arith)))
