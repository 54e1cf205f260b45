-- Worked examples of the definitions: maps beside the numbers that judge them, and that the two agree. Assumes nothing.
use mathlib.Core.Path.{refl}
use mathlib.Core.List.{List, [], ◌∷◌, ◌++◌}
use Prim.Native.Nat.{ℕ, ◌^◌}
use lib.IntN.{ℤ, pos, neg_ℤ}
use lib.ListN.{take, replicate}
use Rattle.integer.proofs.Samples.{Agree}
use Rattle.expression.specs.Expression.{eval, op_of, eqℤ, add_range, mul_range, op_range, range_of, every_node, small_ranges}
use Rattle.expression.specs.Node.{max_places, max_nodes, node_of, nodes_at}
use Rattle.expression.specs.Machine.{walk}
use Rattle.expression.specs.Decode.{decode}
use Rattle.expression.specs.Value.{point_of, bounds}
use Rattle.indexing.specs.Map.{max_constraints, good_intervals, start_of, count_in, tree_at, good_bounds, good_ends, good_trees, good_parts, good_counts, good_ranges, are_in, in_bounds, all_hold, in_domain}
use Rattle.indexing.specs.Answers.{front, judged_map, result_values}
use Rattle.indexing.specs.declared.IndexingMap.{IndexingMap}

-- xs, and zeros up to n entries
abbrev pub pad : ℕ → List ℤ → List ℤ
pad n xs = take n (xs ++ replicate n (pos 0))

-- the slice [3:20:7] of a dimension, input to output: (d0 - 3) floordiv c with (d0 - 3) mod 7 in [0, 0], d0 in [3, upper];
-- shift is the constant -3, and last the kind of the constraint's last node
abbrev pub slice : ℕ → ℤ → ℤ → ℤ → ℕ → IndexingMap
slice dims upper shift c last =
    record {
      dims = dims;
      ranges = 0;
      lower = pad max_places (pos 3 ∷ []);
      upper = pad max_places (upper ∷ []);
      results = 1;
      result_nodes = 4 ∷ replicate 7 0;
      constraints = 1;
      constraint_nodes = 4 ∷ replicate 31 0;
      constraint_lower = pad max_constraints [];
      constraint_upper = pad max_constraints [];
      kinds = 0 ∷ 1 ∷ 2 ∷ 4 ∷ 0 ∷ 1 ∷ 2 ∷ last ∷ replicate 248 0;
      values = pad max_nodes (pos 0 ∷ shift ∷ pos 0 ∷ c ∷ pos 0 ∷ shift ∷ pos 0 ∷ pos 7 ∷ []);
    }

-- accepted; a bound out of order; a divisor 0; a kind that is none; a range past the limit
abbrev pub judged_samples : List (ℕ × ℕ)
judged_samples =
    ((judged_map (slice 1 (pos 17) (neg_ℤ (pos 3)) (pos 7) 5)).number, 0)
    ∷ ((judged_map (slice 1 (pos 2) (neg_ℤ (pos 3)) (pos 7) 5)).number, 2)
    ∷ ((judged_map (slice 1 (pos 17) (neg_ℤ (pos 3)) (pos 0) 5)).number, 2)
    ∷ ((judged_map (slice 1 (pos 17) (neg_ℤ (pos 3)) (pos 7) 6)).number, 2)
    ∷ ((judged_map (slice 1 (pos 17) (pos (2 ^ 62)) (pos 7) 5)).number, 8)
    ∷ []

pub judged-samples : Agree judged_samples
unfolding judged_map good_parts good_bounds good_ends good_trees good_counts good_ranges good_intervals start_of count_in tree_at decode walk nodes_at node_of small_ranges every_node range_of add_range mul_range op_range eqℤ bounds point_of
judged-samples = refl

-- the number and the values of the slice at a point
abbrev pub at : List ℤ → ℕ × List ℤ
at ds = let r = result_values (slice 1 (pos 17) (neg_ℤ (pos 3)) (pos 7) 5) ds [] in (r.number, r.values)

-- values at 10; at 9, which the stride passes over; at 18, past the bound; at two values for one variable
abbrev pub values_samples : List ((ℕ × List ℤ) × (ℕ × List ℤ))
values_samples =
    (at (pos 10 ∷ []), (0, pos 1 ∷ pos 1 ∷ replicate 7 (pos 0)))
    ∷ (at (pos 9 ∷ []), (5, replicate 9 (pos 0)))
    ∷ (at (pos 18 ∷ []), (5, replicate 9 (pos 0)))
    ∷ (at (pos 10 ∷ pos 10 ∷ []), (6, replicate 9 (pos 0)))
    ∷ []

pub values-samples : Agree values_samples
unfolding result_values good_parts good_bounds good_ends good_trees good_counts good_ranges good_intervals start_of count_in tree_at decode walk nodes_at node_of small_ranges every_node range_of add_range mul_range op_range eqℤ bounds point_of eval op_of in_domain in_bounds are_in all_hold front
values-samples = refl
