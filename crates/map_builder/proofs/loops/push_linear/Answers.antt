-- What the search leaves of `map_builder::loops::push_linear`. Assumes nothing.
use Rattle.std.proofs.Common.{◌≡◌, ◌+◌, sym, ◌∙◌, subst, arith, length}
use Rattle.std.proofs.lemmas.Bool.Decides.{nat_tests}
use Rattle.map_builder.specs.declared.Draft.{Draft}
use Rattle.map_builder.proofs.Steps.{Grown}
use Rattle.map_builder.proofs.Linear.{terms-next, terms-end, term-grown, linear-some, rest-product, part-bounded, part-product}
use Rattle.map_builder.proofs.loops.push_linear.Goals as goal

pub product-requires : goal.product-requires
product-requires c = part-bounded c.args.sizes.now (c.loop-i.i + 1) c.requires.sized

pub push_term-out-requires : goal.push_term-out-requires
push_term-out-requires c =
    let factor = part-product c.args.sizes.now (c.loop-i.i + 1) c.product.result c.requires.sized c.requires.counted c.product.ensures in
    record {
      nodes = omega (arith, c.loop-i.invariant.1);
      under = c.loop-i.invariant.2;
      variable = omega arith;
      small = omega (arith, factor, rest-product c.args.sizes.now (c.loop-i.i + 1) c.requires.sized);
    }

pub loop-i-preserved : goal.loop-i-preserved
loop-i-preserved c =
    let factor = part-product c.args.sizes.now (c.loop-i.i + 1) c.product.result c.requires.sized c.requires.counted c.product.ensures in
    let g = subst (λ (u : Draft). Grown c.loop-i.out u 3) (sym c.push_term-out.ensures) (term-grown c.loop-i.out c.loop-i.i c.product.result) in (
      terms-next c.args.sizes.now c.loop-i.i c.loop-i.out c.push_term-out.result _ c.product.result c.loop-i-test.true c.push_term-out.ensures factor c.loop-i.invariant.0,
      omega (arith, g.nodes, c.loop-i.invariant.1),
      g.under c.loop-i.invariant.2,
    )

pub returns : goal.returns
returns c =
    let some : length c.args.sizes.now ≡ 0 → ⊥ = grind (arith, nat_tests, c.if-is_empty.ensures) in
    sym (terms-end c.args.sizes.now c.loop-i.i c.loop-i.out c.loop-i-test.false) ∙ c.loop-i.invariant.0 ∙ linear-some c.args.sizes.now c.args.d some
