-- What the search leaves of `operations::joining::alike_sizes`. Assumes nothing.
use Rattle.std.proofs.Common.{ℕ, sym, ◌∙◌, ◌||◌, eqb, length, get_or, arith}
use borrow.Author.Tests.{eq-eqb}
use Rattle.radix.proofs.Tests.{and-false, every-all, every-not}
use Rattle.operations.proofs.joining.alike_sizes.Goals as goal

pub returns-then-not-same_at : goal.returns-then-not-same_at
returns-then-not-same_at c =
    let a = c.args.a.now in
    let b = c.args.b.now in
    sym (and-false (eqb (length a) (length b))
    (every-not (λ (i : ℕ). eqb i c.args.dimension || eqb (get_or a i 0) (get_or b i 0)) (length a) c.loop-k.k c.loop-k-test.true (sym c.same_at.ensures ∙ c.if-not-same_at.true)))

pub returns : goal.returns
returns c =
    let a = c.args.a.now in
    let b = c.args.b.now in
    rw (eq-eqb (length a) (length b) c.if-a-b.false)
    (sym (every-all (λ (i : ℕ). eqb i c.args.dimension || eqb (get_or a i 0) (get_or b i 0)) (length a) (λ k q. c.loop-k.invariant k (omega arith))))
