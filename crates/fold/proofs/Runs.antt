-- The runs of an accepted map, and the folded sum of one. Assumes nothing.
use mathlib.Core.Path.{◌≡◌, sym, ap, ◌∙◌, subst}
use mathlib.Core.List.{List}
use Prim.Native.Nat.{ℕ, suc, ◌+◌, ◌-◌, ◌<◌, ◌≤◌}
use native.Mathlib.Omega.{arith}
use lib.IntN.{ℤ}
use lib.ListN.{length}
use Rattle.expression.specs.Node.{max_nodes}
use Rattle.indexing.specs.Map.{max_results, max_constraints, start_of, runs, count_of}
use Rattle.indexing.specs.Ready.{run_of, Formed}
use Rattle.indexing.specs.declared.IndexingMap.{IndexingMap}
use Rattle.indexing.proofs.Formed.{stands, counts, run-here, tree-here, held-is}
use Rattle.indexing.proofs.Starts.{start-suc, start-le}
use Rattle.tree_sum.proofs.Walked.{run-folds}
use Rattle.tree_sum.specs.Trees.{FoldsTree}
use Rattle.encoding.specs.Trees.{expr_at, map_bounds}
use Rattle.fold.specs.Ready.{map_nodes, Space, FoldsRun}
use Rattle.encoding.proofs.Trees.{runs-all, tree_is}
use Rattle.tree_sum.specs.declared.TreeSum.{TreeSum}

module _ (m : IndexingMap) (f : Formed m) (i : ℕ) (h : i < runs m) (a b : ℕ) (q : stands a b ≡ run_of m i)
    (lk : length m.kinds ≡ max_nodes) (lv : length m.values ≡ max_nodes) where
  pub run_end : a + b ≤ max_nodes
  run_end = omega (arith, (run-here m i a b q lk lv).in-kinds, lk)

  -- a run has no more nodes than the map
  run-few : b ≤ map_nodes m
  run-few = omega (arith, (held-is m i a b q).1.1, start-suc (count_of m) i, start-le (count_of m) (suc i) (runs m) h)

  pub run-folded : (x x' y y' : List ℤ) (s : TreeSum) → Space m x y → FoldsTree m.dims m.ranges m.kinds m.values (map_bounds m) (a + b) x x' y y' 0 s
      → FoldsRun m i x' s
  run-folded x x' y y' s space t =
      let few = run-few in
      let F =
      run-folds m.dims m.ranges m.kinds m.values (map_bounds m) a b x x' y y' 0 s (expr_at m i) t (tree-here m i a b q ∙ tree_is m f i (subst (λ (n : ℕ). i < n) (runs-all m f) h))
      (omega (arith, few, space.long-words)) (omega (arith, few, space.long-scratch)) in
      record {
        high = t.placed.inside.high;
        judged = F.judged;
        standing = λ e. (F.stands e).standing;
        counted = λ e. (F.stands e).counted;
      }

-- ---- results and constraints are runs

pub result-run : (m : IndexingMap) → Formed m → (i : ℕ) → i < m.results → (i < runs m) × (m.results ≤ max_results)
result-run m f i h = let c = counts m f in (omega (arith, c.results), c.results)

pub constraint-run : (m : IndexingMap) → Formed m → (k : ℕ) → k < m.constraints → (m.results + k < runs m) × (m.constraints ≤ max_constraints)
constraint-run m f k h = let c = counts m f in (omega (arith, c.results, c.constraints), c.constraints)

-- ---- the nodes of a map

pub no-runs : (m : IndexingMap) → Formed m → m.results + m.constraints ≡ 0 → 0 ≡ map_nodes m
unfolding start_of
no-runs m f e = let r : runs m ≡ 0 = runs-all m f ∙ e in sym (ap (start_of (count_of m)) r)

module _ (m : IndexingMap) (f : Formed m) (some : m.results + m.constraints ≡ 0 → ⊥) where
  pub last-run : m.results + m.constraints - 1 < runs m
  last-run = let s = some in omega (arith, runs-all m f)

  pub last_end : (a b : ℕ) → stands a b ≡ run_of m (m.results + m.constraints - 1) → a + b ≡ map_nodes m
  last_end a b q =
      let e = (held-is m (m.results + m.constraints - 1) a b q).1 in
      let n : suc (m.results + m.constraints - 1) ≡ runs m = let s = some in omega (arith, runs-all m f) in
      omega (arith, e.0, e.1, start-suc (count_of m) (m.results + m.constraints - 1), ap (start_of (count_of m)) n)

pub nodes-most : (m : IndexingMap) → Formed m → map_nodes m ≤ max_nodes
nodes-most m f = (counts m f).nodes

pub runs-most : (m : IndexingMap) → Formed m → m.results + m.constraints ≤ max_results + max_constraints
runs-most m f = let c = counts m f in omega (arith, c.results, c.constraints)
