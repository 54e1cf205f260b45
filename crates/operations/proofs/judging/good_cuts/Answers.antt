-- What the search leaves of `operations::judging::good_cuts`. Assumes nothing.
use Rattle.std.proofs.Common.{ℕ, sym, ◌∙◌, ◌&&◌, eqb, length, get_or, arith}
use borrow.Author.Tests.{eq-eqb}
use Rattle.radix.proofs.Tests.{and-false, every-all, every-not}
use Rattle.operation_maps.specs.Operation.{good_cut}
use Rattle.operations.proofs.judging.good_cuts.Goals as goal

pub returns-then-not-good_cut : goal.returns-then-not-good_cut
returns-then-not-good_cut c =
    let n = length c.args.sizes.now in
    sym (and-false (eqb (length c.args.starts.now) n && (eqb (length c.args.limits.now) n && eqb (length c.args.strides.now) n))
    (every-not (λ (i : ℕ). good_cut (get_or c.args.sizes.now i 0) (get_or c.args.starts.now i 0) (get_or c.args.limits.now i 0) (get_or c.args.strides.now i 0))
    n c.loop-k.k c.loop-k-test.true (sym c.good_cut.ensures ∙ c.if-not-good_cut.true)))

pub returns : goal.returns
returns c =
    let n = length c.args.sizes.now in
    rw (eq-eqb (length c.args.starts.now) n c.if-starts-sizes.false, eq-eqb (length c.args.limits.now) n c.if-limits-sizes.false, eq-eqb (length c.args.strides.now) n c.if-strides-sizes.false)
    (sym (every-all (λ (i : ℕ). good_cut (get_or c.args.sizes.now i 0) (get_or c.args.starts.now i 0) (get_or c.args.limits.now i 0) (get_or c.args.strides.now i 0))
    n (λ k q. c.loop-k.invariant k (omega arith))))
