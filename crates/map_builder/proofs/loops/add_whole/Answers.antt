-- What the search leaves of `map_builder::loops::add_whole`. Assumes nothing.
use Rattle.std.proofs.Common.{ℕ, ap, get_or, arith}
use Rattle.map_builder.specs.declared.Draft.{Draft}
use Rattle.map_builder.specs.Raw.{up_to}
use Rattle.map_builder.specs.Draft.{add_size}
use Rattle.map_builder.proofs.Steps.{steps-none, steps_next, steps-grow, bounds-grow, sized-at}
use Rattle.map_builder.proofs.loops.add_whole.Goals as goal

pub loop-size-init : goal.loop-size-init
loop-size-init c = steps-none (add_size c.args.sizes.now) c.args.d

pub overflow_sub-size : goal.overflow_sub-size
overflow_sub-size c = omega (arith, (sized-at c.args.sizes.now c.loop-size.size-index c.requires.sized c.loop-size-test.true).0)

pub add_bound-out-requires : goal.add_bound-out-requires
add_bound-out-requires c =
    let ns = c.args.sizes.now in
    let g = steps-grow (add_size ns) (bounds-grow (λ (k : ℕ). up_to (get_or ns k 0))) c.loop-size.size-index c.args.d in
    record {
      dims = omega (arith, ap (λ (u : Draft). u.map.dims) c.loop-size.invariant, g.dims);
      small_low = omega arith;
      small-high = omega (arith, (sized-at ns c.loop-size.size-index c.requires.sized c.loop-size-test.true).1);
    }

pub loop-size-preserved : goal.loop-size-preserved
loop-size-preserved c =
    steps_next (add_size c.args.sizes.now) c.loop-size.size-index c.args.d c.loop-size.out c.add_bound-out.result c.loop-size.invariant c.add_bound-out.ensures
