-- `indexing::points::are_in` meets its contract. Assumes nothing.
use borrow.Author.Rules.{rules}
use mathlib.Core.Path.{◌≡◌, sym}
use mathlib.Core.Bool.{false}
use native.Mathlib.Omega.{arith}
use lib.ListN.{length}
use Rattle.radix.proofs.Tests.{every-all, every-not}
use Rattle.indexing.specs.Map.{in_at, are_in}
use Rattle.indexing.proofs.points.are_in.Goals as goal

pub returns-then-not-is_in : goal.returns-then-not-is_in
unfolding are_in
returns-then-not-is_in c =
    let h : (in_at c.args.zs.now c.args.los.now c.args.his.now c.args.from) c.loop-k.k ≡ false = search rules in
    sym (every-not (in_at c.args.zs.now c.args.los.now c.args.his.now c.args.from) (length c.args.zs.now) c.loop-k.k (omega arith) h)

pub returns : goal.returns
unfolding are_in
returns c = sym (every-all (in_at c.args.zs.now c.args.los.now c.args.his.now c.args.from) (length c.args.zs.now) (λ k h. c.loop-k.invariant k (omega arith)))
