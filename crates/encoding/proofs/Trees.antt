-- The trees of a map that is formed, and of a record made of trees. Assumes nothing.
use mathlib.Core.Path.{◌≡◌, refl, ap, ap₂, ◌∙◌}
use mathlib.Core.Bool.{true}
use mathlib.Core.List.{List}
use Prim.Native.Nat.{ℕ, ◌+◌, ◌<◌}
use native.Mathlib.Omega.{arith}
use lib.IntN.{ℤ, pos}
use lib.ListN.{length, get_or, length-append, length-map, get_or-append}
use lib.Seq.{get_or-append-add}
use Rattle.expression.specs.Expression.{Expr, Range, span}
use Rattle.expression.specs.Decode.{Tree, none, tree, is_tree}
use Rattle.expression.proofs.Within.{Proper, tree-ok}
use Rattle.indexing.specs.Map.{start_of, count_of, runs, tree_at}
use Rattle.indexing.specs.Ready.{Formed}
use Rattle.indexing.specs.declared.IndexingMap.{IndexingMap}
use Rattle.indexing.proofs.Formed.{counts, tree-at}
use Rattle.folding.specs.Map.{Constraint, constraint_trees}
use Rattle.folding.proofs.Map.{AllTrees}
use Rattle.folding.proofs.Theorems.{GoodTree, read-good}
use Rattle.encoding.specs.Encode.{trees_of, encode_map, Fitting}
use Rattle.encoding.proofs.Lists.{map_at}
use Rattle.encoding.proofs.Encoded.{encoded-tree, encoded-interval}
use Rattle.encoding.specs.Trees.{expr_of, expr_at, constraint_at, result_trees, map_constraints}
use Rattle.encoding.proofs.Listed.{listed-is, listed-map, all_listed}

-- ---- a map to which numbers 2 and 7 do not apply

tree_of : (t : Tree) → is_tree t ≡ true → t ≡ tree (expr_of t)
tree_of none e = let z : ◌≡◌ {A = ℕ} 0 1 = cc in absurd (omega arith)
tree_of (tree x) e = refl

module _ (m : IndexingMap) (f : Formed m) where
  pub runs-all : runs m ≡ m.results + m.constraints
  runs-all = let c = counts m f in omega (arith, c.results, c.constraints)

  pub tree_is : (i : ℕ) → i < m.results + m.constraints → tree_at m i ≡ tree (expr_at m i)
  tree_is i h = tree_of (tree_at m i) (tree-at m f i (omega (arith, runs-all)))

  -- a tree that is read is proper and good
  abbrev pub Read : Expr → Type 0
  Read e = Proper m.dims m.ranges e × GoodTree e

  pub expr-read : (i : ℕ) → i < m.results + m.constraints → Read (expr_at m i)
  unfolding tree_at
  expr-read i h = (
    tree-ok m.dims m.ranges m.kinds m.values (start_of (count_of m) i) (count_of m i) (expr_at m i) (tree_is i h),
    read-good m.dims m.ranges m.kinds m.values (start_of (count_of m) i) (count_of m i) (expr_at m i) (tree_is i h),
  )

  pub results-read : AllTrees Read (result_trees m)
  results-read = all_listed Read (expr_at m) m.results (λ k l. expr-read k (omega arith))

  pub constraints-read : AllTrees Read (constraint_trees (map_constraints m))
  constraints-read =
      rw (listed-map (λ (c : Constraint). c.expr) (constraint_at m) m.constraints)
      (all_listed Read (λ (k : ℕ). expr_at m (m.results + k)) m.constraints (λ k l. expr-read (m.results + k) (omega arith)))

-- ---- a record made of trees has them

module _ (dims ranges : ℕ) (lower upper : List ℤ) (results : List Expr) (constraints : List Constraint) (w : Fitting dims ranges results constraints) where
  abbrev made : IndexingMap
  made = encode_map dims ranges lower upper results constraints

  abbrev zero-tree : Expr
  zero-tree = Expr.const (pos 0)

  pub made-results : result_trees made ≡ results
  unfolding encode_map
  made-results =
      listed-is (expr_at made) (length results) results zero-tree refl
      (λ k l.
      let h : k < length (trees_of results constraints) = omega (arith, length-append results (constraint_trees constraints)) in
      ap expr_of (encoded-tree dims ranges lower upper results constraints w k zero-tree h)
      ∙ get_or-append results (constraint_trees constraints) zero-tree k l)

  pub made-constraints : map_constraints made ≡ constraints
  unfolding encode_map
  made-constraints = listed-is (constraint_at made) (length constraints) constraints other refl each
    where
      other : Constraint
      other = record { expr = zero-tree; interval = span (pos 0) (pos 0) }

      each : (k : ℕ) → k < length constraints → constraint_at made k ≡ get_or constraints k other
      each k l =
          let h : length results + k < length (trees_of results constraints) = omega (arith, length-append results (constraint_trees constraints), length-map constraints (λ (c : Constraint). c.expr)) in
          let i = encoded-interval dims ranges lower upper results constraints w k other l in
          let e : expr_at made (length results + k) ≡ (get_or constraints k other).expr =
          ap expr_of (encoded-tree dims ranges lower upper results constraints w (length results + k) zero-tree h)
          ∙ get_or-append-add results (constraint_trees constraints) k zero-tree
          ∙ map_at (λ (c : Constraint). c.expr) constraints k other zero-tree l in
          ap₂ (λ (x : Expr) (r : Range). record { expr = x; interval = r }) e (ap₂ span i.0 i.1)
