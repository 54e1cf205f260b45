-- `layout::parts::lay_out` meets its contract. Assumes nothing.
use Rattle.std.proofs.Common.{◌≡◌, ◌∙◌, ◌+◌, ℕ, List, refl, sym, ap, subst, min, arith, length}
use native.Mathlib.Nat.{min-eq_left}
use lib.Seq.{length-take-le}
use Rattle.radix.proofs.Radix.{length-tab}
use Rattle.radix.specs.Radix.{max_count, prod, Sizes}
use Rattle.tiling.proofs.Shaped.{shaped-under, shaped-small}
use Rattle.tiling.specs.Ready.{Under}
use Rattle.tiling.specs.Tile.{tiles_from, reversed, physical, padded}
use Rattle.layout.proofs.parts.lay_out.Goals as goal

pub reverse_into-requires : goal.reverse_into-requires
reverse_into-requires c =
    let n : length (reversed c.args.m.now) ≡ length c.args.m.now = length-tab _ (length c.args.m.now) in
    omega arith

pub slice_bounds-dims_into-end : goal.slice_bounds-dims_into-end
slice_bounds-dims_into-end c =
    let n : length (reversed c.args.m.now) ≡ length c.args.m.now = length-tab _ (length c.args.m.now) in
    omega arith

pub slice_bounds-dims_into-end-2 : goal.slice_bounds-dims_into-end-2
slice_bounds-dims_into-end-2 c =
    let n : length (reversed c.args.m.now) ≡ length c.args.m.now = length-tab _ (length c.args.m.now) in
    sym (length-take-le (length c.args.m.now) c.reverse_into.new.out (omega arith))

pub dims_into-len-requires-clause-under : goal.dims_into-len-requires-clause-under
dims_into-len-requires-clause-under c = subst (Under (length c.args.sizes.now)) (sym c.reverse_into.ensures) (shaped-under c.requires.shaped _ refl)

pub product-requires-2 : goal.product-requires-2
product-requires-2 c =
    let a = c.args in
    let same = c.dims_into-len.ensures.1 ∙ ap (λ (p : List ℕ). physical a.sizes.now p (tiles_from a.lens.now a.flat.now)) c.reverse_into.ensures in
    subst Sizes (sym same) (shaped-small c.requires.shaped)

pub returns : goal.returns
unfolding padded
returns c =
    let a = c.args in
    let same = c.dims_into-len.ensures.1 ∙ ap (λ (p : List ℕ). physical a.sizes.now p (tiles_from a.lens.now a.flat.now)) c.reverse_into.ensures in
    record {
      order = c.reverse_into.ensures;
      fits = c.dims_into-len.ensures.0;
      same = same;
      count = c.product.ensures ∙ min-eq_left (omega (arith, c.requires.shaped.count));
      padded = c.product-2.ensures ∙ ap (λ (l : List ℕ). min (prod l) (max_count + 1)) same;
    }
