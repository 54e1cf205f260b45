-- What the search leaves of `operation_builder::digits::add_digits`. Assumes nothing.
use Rattle.std.proofs.Common.{◌+◌, refl, sym, ◌∙◌, eqb, get_or, arith}
use Rattle.expression.specs.Node.{max_variables}
use Rattle.map_builder.proofs.Linear.{rest-product, part-bounded, part-product}
use Rattle.map_builder.proofs.Steps.{sized-at}
use Rattle.operation_builder.proofs.ReshapeSteps.{digits-next, digits-end, digit-grown}
use Rattle.operation_builder.proofs.digits.add_digits.Goals as goal

pub product-after-requires : goal.product-after-requires
product-after-requires c = part-bounded c.args.others.now (c.loop-i.i + 1) c.requires.shapes.sized-dst

pub add_digit-out-requires : goal.add_digit-out-requires
add_digit-out-requires c =
    let w = c.requires.shapes in
    let i = c.loop-i.invariant in
    let after = part-product c.args.others.now (c.loop-i.i + 1) c.product-after.result w.sized-dst w.counted-dst c.product-after.ensures in
    record {
      nodes = omega (arith, i.1, w.few-dst);
      under = omega (arith, i.2);
      results = omega (arith, i.3, w.few-dst);
      few = w.few-src;
      sized = w.sized-src;
      counted = w.counted-src;
      after_small = omega (arith, after, rest-product c.args.others.now (c.loop-i.i + 1) w.sized-dst, w.counted-dst);
      size_small = (sized-at c.args.others.now c.loop-i.i w.sized-dst c.loop-i-test.true).1;
    }

pub loop-i-preserved : goal.loop-i-preserved
loop-i-preserved c =
    let w = c.requires.shapes in
    let i = c.loop-i.invariant in
    let e = c.add_digit-out.ensures in
    let after = part-product c.args.others.now (c.loop-i.i + 1) c.product-after.result w.sized-dst w.counted-dst c.product-after.ensures in
    let g =
    digit-grown c.args.sizes.now (eqb c.loop-i.i 0) c.product-after.result (get_or c.args.others.now c.loop-i.i 0) c.loop-i.out c.add_digit-out.result max_variables w.few-src (omega arith) e in (
      digits-next c.args.sizes.now c.args.others.now c.loop-i.i c.loop-i.out c.add_digit-out.result _ (eqb c.loop-i.i 0) c.product-after.result (get_or c.args.others.now c.loop-i.i 0)
          c.loop-i-test.true e refl after refl i.0,
      omega (arith, g.0, i.1),
      g.1.0,
      omega (arith, g.1.1, i.3),
    )

pub returns : goal.returns
returns c = sym (digits-end c.args.sizes.now c.args.others.now c.loop-i.i c.loop-i.out c.loop-i-test.false) ∙ c.loop-i.invariant.0
