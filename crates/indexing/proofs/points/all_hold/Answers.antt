-- `indexing::points::all_hold` meets its contract. Assumes nothing.
use borrow.Author.Count.{below_more}
use borrow.Author.Rules.{rules}
use mathlib.Core.Path.{◌≡◌, sym}
use mathlib.Core.Bool.{true, false}
use native.Mathlib.Omega.{arith}
use Rattle.radix.proofs.Tests.{every-all, every-not}
use Rattle.indexing.specs.Map.{holds_at, all_hold}
use Rattle.indexing.proofs.Formed.{counts-of}
use Rattle.indexing.proofs.points.all_hold.Goals as goal

pub overflow_add-m : goal.overflow_add-m
overflow_add-m c = let w = counts-of c.args.m c.requires.measured.accepted.formed.counts in record { fits = omega arith }

pub value_at-z-requires : goal.value_at-z-requires
value_at-z-requires c = let w = counts-of c.args.m c.requires.measured.accepted.formed.counts in (c.requires, omega arith)

pub offset_bounds-m-k : goal.offset_bounds-m-k
offset_bounds-m-k c = let w = counts-of c.args.m c.requires.measured.accepted.formed.counts in record { fits = omega arith }

pub bounds-m-k : goal.bounds-m-k
bounds-m-k c = let w = counts-of c.args.m c.requires.measured.accepted.formed.counts in omega arith

pub offset_bounds-m-k-in-loop-k : goal.offset_bounds-m-k-in-loop-k
offset_bounds-m-k-in-loop-k c = let w = counts-of c.args.m c.requires.measured.accepted.formed.counts in record { fits = omega arith }

pub bounds-m-k-in-loop-k : goal.bounds-m-k-in-loop-k
bounds-m-k-in-loop-k c = let w = counts-of c.args.m c.requires.measured.accepted.formed.counts in omega arith

pub returns-then-not-is_in : goal.returns-then-not-is_in
unfolding all_hold
returns-then-not-is_in c =
    let p = holds_at c.args.m c.args.ds.now c.args.ss.now in
    let h : holds_at c.args.m c.args.ds.now c.args.ss.now c.loop-k.k ≡ false = search rules in
    sym (every-not p c.args.m.constraints c.loop-k.k (omega arith) h)

pub loop-k-preserved : goal.loop-k-preserved
loop-k-preserved c =
    let h : holds_at c.args.m c.args.ds.now c.args.ss.now c.loop-k.k ≡ true = search rules in below_more _ _ c.loop-k.invariant h

pub returns : goal.returns
unfolding all_hold
returns c = sym (every-all (holds_at c.args.m c.args.ds.now c.args.ss.now) c.args.m.constraints (λ k h. c.loop-k.invariant k (omega arith)))
