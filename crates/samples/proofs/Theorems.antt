-- The theorem on the samples of documents 01 and 02. Assumes nothing.
use mathlib.Core.Path.{◌≡◌, refl}
use mathlib.Core.List.{map}
use Rattle.radix.specs.Radix.{is_within}
use Rattle.shape.specs.Shape.{good_shape}
use Rattle.shape.specs.Repeats.{later_in, earlier_in}
use Rattle.shape.specs.Dimensions.{place, in_range, is_permutation}
use Rattle.shape.specs.Answers.{element_count}
use Rattle.reciprocal.specs.Answers.{multiplier_entry}
use Rattle.tiling.specs.Tile.{tile_dims, tile_index, physical, padded, offset_at, offset}
use Rattle.tiling.specs.Cell.{untile, candidate, cell}
use Rattle.layout.specs.Layout.{good_layout}
use Rattle.layout.specs.Answers.{padded_size, point_offset, element_held}
use Rattle.plan.specs.Net.{price}
use Rattle.tree_plan.specs.Tree.{sum_to, plan_cost}
use Rattle.tree_plan.specs.Merge.{lowest, via_place, reach, joined, merge, merged, least_in}
use Rattle.tree_plan.specs.Weight.{scale, unit, far_weight, own, least_weight, place_in}
use Rattle.route.specs.Same.{same_by, same_layout}
use Rattle.route.specs.Stations.{blank, counts_kept, parents_kept, layouts_kept, sizes_kept}
use Rattle.route.specs.LayoutRepeats.{repeat_station}
use Rattle.route.specs.Route.{good_limits, numbers_kept, route_of}
use Rattle.operation_maps.proofs.Samples.{makes-maps}
use Rattle.samples.specs.Samples.{Sample, samples}

-- Every sample comes out as its document says.
pub all-samples : map (λ (s : Sample). s.asked) samples ≡ map (λ (s : Sample). s.expected) samples
unfolding samples multiplier_entry element_count padded_size point_offset element_held good_shape good_layout is_within is_permutation in_range later_in earlier_in place padded physical offset_at offset tile_dims tile_index untile candidate cell route_of good_limits numbers_kept counts_kept parents_kept layouts_kept sizes_kept repeat_station blank same_by same_layout price sum_to plan_cost lowest via_place reach joined merge merged least_in scale unit far_weight own least_weight place_in makes-maps
all-samples = refl
