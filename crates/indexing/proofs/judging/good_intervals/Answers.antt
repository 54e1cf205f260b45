-- `indexing::judging::good_intervals` meets its contract. Assumes nothing.
use borrow.Author.Rules.{rules}
use mathlib.Core.Path.{◌≡◌, sym}
use mathlib.Core.Bool.{false}
use Prim.Native.Nat.{ℕ, ◌+◌}
use native.Mathlib.Omega.{arith}
use Rattle.radix.proofs.Tests.{every-all, every-not}
use Rattle.indexing.specs.Map.{good_ends_at, good_intervals}
use Rattle.indexing.proofs.judging.good_intervals.Goals as goal

pub returns-then-not-good_interval : goal.returns-then-not-good_interval
unfolding good_intervals
returns-then-not-good_interval c =
    let h : (λ (k : ℕ). good_ends_at c.args.most c.args.los.now c.args.his.now (c.args.from + k)) c.loop-k.k ≡ false = search rules in
    sym (every-not (λ (k : ℕ). good_ends_at c.args.most c.args.los.now c.args.his.now (c.args.from + k)) (c.args.count) c.loop-k.k (omega arith) h)

pub returns : goal.returns
unfolding good_intervals
returns c = sym (every-all (λ (k : ℕ). good_ends_at c.args.most c.args.los.now c.args.his.now (c.args.from + k)) (c.args.count) (λ k h. c.loop-k.invariant k (omega arith)))
