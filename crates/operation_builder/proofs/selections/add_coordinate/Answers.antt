-- What the search leaves of `operation_builder::selections::add_coordinate`. Assumes nothing.
use Rattle.std.proofs.Common.{arith}
use Rattle.map_builder.proofs.Steps.{sized-at}
use Rattle.operation_builder.proofs.SelectionSteps.{short}
use Rattle.operation_builder.proofs.selections.add_coordinate.Goals as goal

pub push_variable-requires : goal.push_variable-requires
push_variable-requires c =
    record { nodes = c.requires.nodes; under = omega (arith, c.requires.under); small = omega (arith, c.if-p-list.true, short _ _ c.requires.ready) }

pub overflow_sub-sizes : goal.overflow_sub-sizes
overflow_sub-sizes c = omega (arith, (sized-at c.args.sizes.now c.args.j c.requires.ready.sized c.requires.inside).0)

pub add_range_to-e-requires : goal.add_range_to-e-requires
add_range_to-e-requires c =
    record { ranges = c.requires.ranges; small-high = omega (arith, (sized-at c.args.sizes.now c.args.j c.requires.ready.sized c.requires.inside).1) }
