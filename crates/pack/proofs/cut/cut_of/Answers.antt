-- `pack::cut::cut_of` meets its contract. Assumes nothing.
use Rattle.std.proofs.Common.{arith, ◌+◌, ◌<◌, ◌≤◌, length, get_or, sym, subst}
use Rattle.radix.specs.Radix.{Sizes, Bounded}
use Rattle.pack.proofs.Cuts.{sizes-front, sizes-rest, rest-whole, span-is, steps-is, span-few, wide-is, cut-is}
use Rattle.pack.proofs.cut.cut_of.Goals as goal

pub product-span-requires : goal.product-span-requires
product-span-requires c =
    let k = c.cut_dimension-dimension.result in
    let ds = c.args.sizes.now in
    let h : k + 1 ≤ length ds = omega arith in
    subst Sizes (sym (rest-whole (k + 1) ds)) (sizes-rest (k + 1) ds h c.requires.sizes.0)

pub product-steps-requires : goal.product-steps-requires
product-steps-requires c =
    let k = c.cut_dimension-dimension.result in
    let ds = c.args.sizes.now in
    let h : k + 1 ≤ length ds = omega arith in
    sizes-front (k + 1) ds h c.requires.sizes.0

pub nonzero_div-most : goal.nonzero_div-most
nonzero_div-most c =
    let k = c.cut_dimension-dimension in
    let is = span-is c.args.sizes.now k.result c.product-span.result k.ensures.0 c.requires.sizes.0 c.requires.sizes.1 c.product-span.ensures in
    (span-few c.args.sizes.now k.result c.product-span.result c.width_of-most.result c.requires.sizes.0 is k.ensures.1).0

pub returns : goal.returns
unfolding Bounded
returns c =
    let ds = c.args.sizes.now in
    let k = c.cut_dimension-dimension in
    let span = c.product-span in
    let is = span-is ds k.result span.result k.ensures.0 c.requires.sizes.0 c.requires.sizes.1 span.ensures in
    let few = span-few ds k.result span.result c.width_of-most.result c.requires.sizes.0 is k.ensures.1 in
    let some : 0 < get_or ds k.result 0 = (c.requires.sizes.0 k.result k.ensures.0).0 in
    let wide = wide-is (get_or ds k.result 0) c.width_of-most.result span.result c.min-wide.result some few.0 few.1 c.min-wide.ensures in (
      cut-is ds c.args.p.now c.requires.permutation c.requires.p_len.0 c.requires.sizes.0 k.result c.place_of-place.result span.result c.product-steps.result c.min-wide.result k.ensures.0
          c.place_of-place.ensures is (steps-is ds k.result c.product-steps.result c.requires.sizes.0 c.requires.sizes.1 c.product-steps.ensures) wide.0 wide.1,
      omega (arith, wide.2, c.width_of-most.ensures.1),
    )
