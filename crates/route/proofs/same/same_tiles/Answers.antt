-- `route::same::same_tiles` meets its contract. Assumes nothing.
use Rattle.std.proofs.Common.{refl, sym, ◌∙◌, true, false, arith}
use borrow.Author.Tests.{not-true, not-false}
use Rattle.radix.specs.Radix.{Upto}
use Rattle.route.proofs.Written.{other-tiles, same-pair, last-tile}
use Rattle.route.proofs.same.same_tiles.Goals as goal

pub returns-then-lens-lens2 : goal.returns-then-lens-lens2
returns-then-lens-lens2 c = sym (other-tiles c.args.lens.now c.args.flat.now c.args.lens2.now c.args.flat2.now c.if-lens-lens2.true)

pub loop-l-init : goal.loop-l-init
loop-l-init c = refl

pub overflow_add-e : goal.overflow_add-e
unfolding Upto
overflow_add-e c = omega (arith, c.requires.lens_len_bound, c.requires.upto c.loop-l.l)

pub overflow_add-o : goal.overflow_add-o
unfolding Upto
overflow_add-o c = omega (arith, c.requires.lens_len_bound, c.requires.upto_2 c.loop-l.l)

pub slice_bounds-ne-end : goal.slice_bounds-ne-end
unfolding Upto
slice_bounds-ne-end c = omega (arith, c.requires.lens_len_bound, c.requires.upto c.loop-l.l)

pub slice_bounds-ne-end-in-loop-l : goal.slice_bounds-ne-end-in-loop-l
unfolding Upto
slice_bounds-ne-end-in-loop-l c = omega (arith, c.requires.lens_len_bound, c.requires.upto_2 c.loop-l.l)

pub returns-then-ne : goal.returns-then-ne
returns-then-ne c =
    sym (same-pair _ c.args.flat.now _ c.args.flat2.now c.loop-l.l false (omega arith) (omega arith) (sym (not-true _ (sym c.ne.ensures ∙ c.if-ne.true)))) ∙ c.loop-l.invariant

pub loop-l-preserved : goal.loop-l-preserved
loop-l-preserved c =
    sym (same-pair _ c.args.flat.now _ c.args.flat2.now c.loop-l.l true (omega arith) (omega arith) (sym (not-false _ (sym c.ne.ensures ∙ c.if-ne.false)))) ∙ c.loop-l.invariant

pub returns : goal.returns
returns c =
    sym (last-tile c.args.lens.now c.args.flat.now c.args.lens2.now c.args.flat2.now c.loop-l.l (omega arith) (omega arith))
    ∙ c.loop-l.invariant
