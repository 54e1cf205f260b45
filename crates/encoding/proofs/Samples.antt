-- Worked examples of the definitions: what is computed beside what it is, and that the two agree. Assumes nothing.
use mathlib.Core.Path.{refl}
use mathlib.Core.List.{List, [], ◌∷◌, map}
use Prim.Native.Nat.{ℕ}
use lib.IntN.{ℤ, pos, neg_ℤ}
use Rattle.integer.proofs.Samples.{Agree}
use Rattle.expression.specs.Expression.{d, s, Op, floordiv, modulo, Expr, node_count, span, eqℤ, add_range, mul_range, op_range, range_of, every_node, small_ranges}
use Rattle.expression.specs.Node.{node_of, nodes_at}
use Rattle.expression.specs.Machine.{walk}
use Rattle.expression.specs.Decode.{decode}
use Rattle.expression.specs.Value.{point_of, bounds}
use Rattle.indexing.specs.Map.{good_intervals, start_of, count_in, tree_at, good_bounds, good_ends, good_trees, good_parts, good_counts, good_ranges}
use Rattle.folding.specs.Sum.{Atom, Sum}
use Rattle.folding.specs.Fold.{term_tree, constant_tree, sum_tree}
use Rattle.indexing.specs.declared.IndexingMap.{IndexingMap}
use Rattle.indexing.proofs.Samples.{slice}
use Rattle.encoding.specs.Postfix.{postfix, kind_of, value_of}
use Rattle.encoding.specs.Encode.{encode_map}
use Rattle.encoding.specs.Trees.{listed}

-- the line `unfolding reads-maps` opens all that making, judging and reading a record computes with
unfoldable reads : Unit {0}
unfolding good_parts good_bounds good_ends good_trees good_counts good_ranges good_intervals start_of count_in tree_at decode walk nodes_at node_of listed
reads = tt

unfoldable pub reads-maps : Unit {0}
unfolding reads range_of small_ranges every_node add_range mul_range op_range eqℤ bounds point_of postfix node_count encode_map
reads-maps = tt

-- d0 + -2 * s1 + 5, d0, 0, and (3 * d0) floordiv 4
abbrev pub sums : List Sum
sums =
    Sum.term (pos 1) (Atom.var d 0) (Sum.term (neg_ℤ (pos 2)) (Atom.var s 1) (Sum.const (pos 5)))
    ∷ Sum.term (pos 1) (Atom.var d 0) (Sum.const (pos 0))
    ∷ Sum.const (pos 0)
    ∷ Sum.term (pos 1) (Atom.op floordiv (Sum.term (pos 3) (Atom.var d 0) (Sum.const (pos 0))) 4) (Sum.const (pos 0))
    ∷ []

-- their kinds and their values
abbrev pub kind_samples : List (List (List ℕ) × List (List ℕ))
kind_samples =
    (map (λ (t : Sum). map kind_of (postfix (sum_tree t))) sums, (0 ∷ 0 ∷ 3 ∷ 2 ∷ 1 ∷ 2 ∷ []) ∷ (0 ∷ []) ∷ (1 ∷ []) ∷ (0 ∷ 3 ∷ 4 ∷ []) ∷ []) ∷ []

abbrev pub value_samples : List (List (List ℤ) × List (List ℤ))
value_samples = (
  map (λ (t : Sum). map value_of (postfix (sum_tree t))) sums,
  (pos 0 ∷ pos 9 ∷ neg_ℤ (pos 2) ∷ pos 0 ∷ pos 5 ∷ pos 0 ∷ []) ∷ (pos 0 ∷ []) ∷ (pos 0 ∷ []) ∷ (pos 0 ∷ pos 3 ∷ pos 4 ∷ []) ∷ [],
)
    ∷ []

pub kind-samples : Agree kind_samples
unfolding postfix sum_tree term_tree constant_tree eqℤ
kind-samples = refl

pub value-samples : Agree value_samples
unfolding postfix sum_tree term_tree constant_tree eqℤ
value-samples = refl

-- (d0 - 3) floordiv 7 or (d0 - 3) mod 7
abbrev pub stepped : Op → Expr
stepped o = Expr.op o (Expr.add (Expr.var d 0) (Expr.const (neg_ℤ (pos 3)))) 7

-- the slice [3:20:7] of a dimension, made of its trees; a bound past the count is not kept
abbrev pub map_samples : List (IndexingMap × IndexingMap)
map_samples = (
  encode_map 1 0 (pos 3 ∷ pos 1 ∷ []) (pos 19 ∷ pos 2 ∷ []) (stepped floordiv ∷ [])
      (record { expr = stepped modulo; interval = span (pos 0) (pos 0) } ∷ []),
  slice 1 (pos 19) (neg_ℤ (pos 3)) (pos 7) 5,
)
    ∷ []

pub map-samples : Agree map_samples
unfolding encode_map postfix node_count
map-samples = refl
