-- Two records that agree below their counts have the same trees and bounds. Assumes nothing.
use mathlib.Core.Path.{◌≡◌, sym, ap, ap₂, ◌∙◌}
use Prim.Native.Nat.{ℕ, ◌+◌, ◌<◌}
use native.Mathlib.Omega.{arith}
use Rattle.expression.specs.Expression.{Kind, Expr, Range, span}
use Rattle.expression.specs.Node.{max_variables}
use Rattle.expression.proofs.Within.{Proper}
use Rattle.indexing.specs.Map.{SameAt, Alike}
use Rattle.indexing.specs.Ready.{Formed}
use Rattle.indexing.specs.declared.IndexingMap.{IndexingMap}
use Rattle.indexing.proofs.Formed.{counts, held_at}
use Rattle.indexing.proofs.Unread.{tree-same}
use Rattle.encoding.specs.Trees.{listed, expr_of, expr_at, constraint_at, result_trees, map_constraints, map_bounds}
use Rattle.encoding.proofs.Listed.{listed_same}
use Rattle.encoding.proofs.SameBounds.{variable-same}
use Rattle.encoding.proofs.Trees.{runs-all}

module _ (m n : IndexingMap) (a : Alike m n) (f : Formed m) where
  pub dimension-same : (k : ℕ) → k < m.dims → SameAt m.lower m.upper n.lower n.upper k
  dimension-same k h = let c = counts m f in a.dimension k (omega (arith, c.dims))

  pub range_same : (k : ℕ) → k < m.ranges → SameAt m.lower m.upper n.lower n.upper (max_variables + k)
  range_same k h = let c = counts m f in a.range k (omega (arith, c.ranges))

  pub bounds-same : (k : Kind) (i : ℕ) → Proper m.dims m.ranges (Expr.var k i) → map_bounds m k i ≡ map_bounds n k i
  bounds-same = variable-same m.dims m.ranges m.lower m.upper n.lower n.upper dimension-same range_same

  pub expr-same : (i : ℕ) → i < m.results + m.constraints → expr_at m i ≡ expr_at n i
  expr-same i h = let k = rw (sym (runs-all m f)) at h in ap expr_of (tree-same m n a i k (held_at m f i k))

  pub interval-same : (k : ℕ) → k < m.constraints → (constraint_at m k).interval ≡ (constraint_at n k).interval
  interval-same k l =
      let c = counts m f in
      let e = a.ends k (omega (arith, c.constraints)) in
      ap₂ span e.0 e.1

  constraint-same : (k : ℕ) → k < m.constraints → constraint_at m k ≡ constraint_at n k
  constraint-same k l =
      ap₂ (λ (x : Expr) (r : Range). record { expr = x; interval = r })
      (expr-same (m.results + k) (omega arith) ∙ ap (λ (i : ℕ). expr_at n (i + k)) a.results) (interval-same k l)

  pub result-trees-same : result_trees m ≡ result_trees n
  result-trees-same = listed_same (expr_at m) (expr_at n) m.results (λ k l. expr-same k (omega arith)) ∙ ap (listed (expr_at n)) a.results

  pub map-constraints-same : map_constraints m ≡ map_constraints n
  map-constraints-same = listed_same (constraint_at m) (constraint_at n) m.constraints constraint-same ∙ ap (listed (constraint_at n)) a.constraints
