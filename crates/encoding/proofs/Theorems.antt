-- What the crate's definitions mean, one theorem under each sentence. Assumes nothing.
use mathlib.Core.Path.{◌≡◌}
use mathlib.Core.Bool.{true, ◌&&◌}
use mathlib.Core.List.{List, ◌++◌, map}
use Prim.Native.Nat.{ℕ, ◌<◌, ◌≤◌}
use lib.IntN.{ℤ}
use lib.ListN.{length, get_or, drop}
use Rattle.expression.specs.Expression.{Expr, node_count}
use Rattle.expression.specs.Node.{max_variables, nodes_at}
use Rattle.expression.specs.Decode.{tree, decode}
use Rattle.expression.specs.Value.{bounds}
use Rattle.expression.specs.declared.Node.{Node}
use Rattle.expression.proofs.Within.{SoundAll}
use Rattle.indexing.specs.Map.{max_bound, good_intervals, tree_at, good_parts, good_counts, good_ranges}
use Rattle.indexing.specs.declared.IndexingMap.{IndexingMap}
use Rattle.folding.specs.Map.{Constraint}
use Rattle.encoding.specs.Postfix.{postfix, kind_of, value_of, Encodable}
use Rattle.encoding.specs.Encode.{trees_of, encode_map, Fitting, intervals_good, all_small}
use Rattle.encoding.proofs.Reading.{decode-postfix, tree-stands}
use Rattle.encoding.proofs.Unique.{nodes-unique, run-encodable}
use Rattle.encoding.proofs.Encoded.{encoded-tree, encoded-counts, encoded-parts, encoded-ranges}

-- ---- nodes

-- The nodes of a tree in postfix order are decoded to the tree.
pub postfix-decoded : (dims ranges : ℕ) (e : Expr) → Encodable dims ranges e → decode (postfix e) ≡ tree e
postfix-decoded dims ranges e h = decode-postfix dims ranges e h

-- Nodes that are decoded to a tree are its nodes in postfix order.
pub decoded-postfix : (dims ranges : ℕ) (ns : List Node) (e : Expr) → SoundAll dims ranges ns → decode ns ≡ tree e → ns ≡ postfix e
decoded-postfix dims ranges ns e h q = nodes-unique dims ranges ns e h q

-- A tree is read again from a place at which the kinds and the values of its nodes stand.
pub tree-read : (dims ranges : ℕ) → dims ≤ max_variables → ranges ≤ max_variables → (e : Expr) (ks : List ℕ) (vs : List ℤ) (i : ℕ) (x : List ℕ) (y : List ℤ)
    → Encodable dims ranges e → drop i ks ≡ map kind_of (postfix e) ++ x → drop i vs ≡ map value_of (postfix e) ++ y
    → decode (nodes_at dims ranges ks vs i (node_count e)) ≡ tree e
tree-read dims ranges a b e ks vs i x y h f g = tree-stands dims ranges a b e ks vs i x y h f g

-- A tree that is read from a record is one that its nodes give back.
pub read-encodable : (m : IndexingMap) (i : ℕ) (e : Expr) → tree_at m i ≡ tree e → Encodable m.dims m.ranges e
read-encodable m i e q = run-encodable m i e q

-- ---- records made of trees
module _ (dims ranges : ℕ) (lower upper : List ℤ) (results : List Expr) (constraints : List Constraint) (w : Fitting dims ranges results constraints) where
  -- Run i of a record made of trees is tree i: first the results, then the constraints.
  pub tree-given : (i : ℕ) (z : Expr) → i < length (trees_of results constraints)
      → tree_at (encode_map dims ranges lower upper results constraints) i ≡ tree (get_or (trees_of results constraints) i z)
  tree-given i z h = encoded-tree dims ranges lower upper results constraints w i z h

  -- The record is not refused with 7.
  pub counts-given : good_counts (encode_map dims ranges lower upper results constraints) ≡ true
  counts-given = encoded-counts dims ranges lower upper results constraints w

  -- The record is refused with 2 where a bound or an interval breaks its rule, and in no other case.
  pub parts-given : good_parts (encode_map dims ranges lower upper results constraints)
      ≡ ((good_intervals max_bound lower upper 0 dims && good_intervals max_bound lower upper max_variables ranges) && intervals_good constraints)
  parts-given = encoded-parts dims ranges lower upper results constraints w

  -- Its ranges are within +-2^62 where the range of every node is, by the bounds given.
  pub ranges-given : good_ranges (encode_map dims ranges lower upper results constraints) ≡ all_small (bounds lower upper) (trees_of results constraints)
  ranges-given = encoded-ranges dims ranges lower upper results constraints w
