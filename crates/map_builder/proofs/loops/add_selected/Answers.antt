-- What the search leaves of `map_builder::loops::add_selected`. Assumes nothing.
use Rattle.std.proofs.Common.{ℕ, ap, get_or, arith}
use Rattle.map_builder.specs.declared.Draft.{Draft}
use Rattle.map_builder.specs.Raw.{up_to}
use Rattle.map_builder.specs.Draft.{add_selected}
use Rattle.map_builder.proofs.Steps.{steps-none, steps_next, steps-grow, bounds-grow, sized-at}
use Rattle.map_builder.proofs.loops.add_selected.Goals as goal

pub loop-k-init : goal.loop-k-init
loop-k-init c = steps-none (add_selected c.args.sizes.now c.args.list.now) c.args.d

pub overflow_sub-sizes : goal.overflow_sub-sizes
overflow_sub-sizes c = omega (arith, (sized-at c.args.sizes.now _ c.requires.sized (c.requires.inside c.loop-k.k-index c.loop-k-test.true)).0)

pub add_bound-out-requires : goal.add_bound-out-requires
add_bound-out-requires c =
    let ns = c.args.sizes.now in
    let l = c.args.list.now in
    let g = steps-grow (add_selected ns l) (bounds-grow (λ (k : ℕ). up_to (get_or ns (get_or l k 0) 0))) c.loop-k.k-index c.args.d in
    record {
      dims = omega (arith, ap (λ (u : Draft). u.map.dims) c.loop-k.invariant, g.dims);
      small_low = omega arith;
      small-high = omega (arith, (sized-at ns _ c.requires.sized (c.requires.inside c.loop-k.k-index c.loop-k-test.true)).1);
    }

pub loop-k-preserved : goal.loop-k-preserved
loop-k-preserved c =
    steps_next (add_selected c.args.sizes.now c.args.list.now) c.loop-k.k-index c.args.d c.loop-k.out c.add_bound-out.result c.loop-k.invariant c.add_bound-out.ensures
