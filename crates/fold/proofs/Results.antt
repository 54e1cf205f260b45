-- Runs folded one after another: what is judged, what is written and what is counted. Assumes nothing.
use Rattle.std.specs.Prelude.{None}
use mathlib.Core.Path.{◌≡◌, refl, sym, ap, ap₂, ◌∙◌, subst}
use mathlib.Core.Bool.{Bool, true, false, ◌&&◌}
use mathlib.Core.List.{List, [], ◌∷◌, ◌++◌, map}
use Prim.Native.Nat.{ℕ, zero, suc, ◌-◌, ◌<◌, ◌≤◌}
use native.Mathlib.Omega.{arith}
use native.Mathlib.Nat.{le_of_suc-le-suc, eq-or-lt_of_le}
use mathlib.Core.Logic.{⊎_elim}
use lib.IntN.{ℤ}
use lib.ListN.{length, drop, set, length-map}
use Rattle.radix.proofs.Tests.{and-true, and-false}
use Rattle.expression.specs.Expression.{Kind, Expr, Range, node_count}
use Rattle.expression.specs.Node.{max_nodes}
use Rattle.indexing.specs.Map.{max_results}
use Rattle.indexing.specs.declared.IndexingMap.{IndexingMap}
use Rattle.folding.specs.Fold.{fold_sum}
use Rattle.folding.specs.Working.{small_working}
use Rattle.folding.specs.Map.{fold_tree, fold_results, small_trees}
use Rattle.words.specs.Words.{sum_words}
use Rattle.encoding.specs.Written.{Room, EmitsSum}
use Rattle.encoding.specs.Encode.{filled, nodes_of, Holds, Zeros}
use Rattle.encoding.proofs.Lists.{map-append}
use Rattle.encoding.proofs.Filled.{filled_next}
use Rattle.encoding.proofs.Held.{holds-none, holds-next, count_next}
use Rattle.encoding.specs.Trees.{listed, expr_at, result_trees, map_bounds}
use Rattle.fold.specs.Ready.{FoldsRun, RunWritten, WritesRun}
use Rattle.tree_sum.specs.declared.TreeSum.{TreeSum}
use Rattle.rules.proofs.Standing.{sum-rest, front-stands}
use Rattle.encoding.proofs.Listed.{listed-length}

-- ---- one run

pub sum-stands : (m : IndexingMap) (i : ℕ) (w : List ℤ) (s : TreeSum) → FoldsRun m i w s → s.small ≡ true
    → drop 0 w ≡ sum_words (map_bounds m) (fold_sum (map_bounds m) (expr_at m i)) (drop s.end w)
sum-stands m i w s f e =
    let t = fold_sum (map_bounds m) (expr_at m i) in
    front-stands w s.end (sum_words (map_bounds m) t []) (f.standing e) ∙ sym (sum-rest (map_bounds m) t (drop s.end w))

module _ (m : IndexingMap) (i : ℕ) (w : List ℤ) (s : TreeSum) (f : FoldsRun m i w s) {ks : List ℕ} {vs : List ℤ} {at : ℕ} (room : Room ks vs at) where
  pub writes-over : s.small ≡ false → WritesRun m i ks ks vs vs at None
  writes-over e = (sym f.judged ∙ e, record { kinds = refl; values = refl; most = room.most })

  pub writes-run : {ks' : List ℕ} {vs' : List ℤ} {r : ℕ} → s.small ≡ true → EmitsSum w 0 s.terms ks ks' vs vs' at r
      → RunWritten m i ks ks' vs vs' at r
  unfolding fold_tree
  writes-run e w' =
      record {
        small = sym f.judged ∙ e;
        kept = w'.kept;
        written = w'.is (map_bounds m) (fold_sum (map_bounds m) (expr_at m i)) (drop s.end w) (f.counted e) (sum-stands m i w s f e);
      }

-- ---- lists of trees

pub small-append : (β : Kind → ℕ → Range) (es fs : List Expr) → small_trees β (es ++ fs) ≡ (small_trees β es && small_trees β fs)
unfolding small_trees
small-append β [] fs = refl
small-append β (e ∷ es) fs = ap (λ (b : Bool). small_working β e && b) (small-append β es fs) ∙ regroup (small_working β e) (small_trees β es) (small_trees β fs)
  where
    regroup : (a b c : Bool) → (a && (b && c)) ≡ ((a && b) && c)
    regroup true b c = refl
    regroup false b c = refl

pub small_one : (β : Kind → ℕ → Range) (e : Expr) → small_trees β (e ∷ []) ≡ small_working β e
unfolding small_trees
small_one β e = last (small_working β e)
  where
    last : (a : Bool) → (a && true) ≡ a
    last true = refl
    last false = refl

module _ (β : Kind → ℕ → Range) (f : ℕ → Expr) where
  -- one more is small
  pub small-next : (n : ℕ) → small_trees β (listed f n) ≡ true → small_working β (f n) ≡ true → small_trees β (listed f (suc n)) ≡ true
  unfolding listed
  small-next n h e = small-append β (listed f n) (f n ∷ []) ∙ and-true h (small_one β (f n) ∙ e)

  -- one that is not small is in the list
  pub small-not : (i n : ℕ) → i < n → small_working β (f i) ≡ false → small_trees β (listed f n) ≡ false
  unfolding listed
  small-not i zero h e = absurd (omega arith)
  small-not i (suc n) h e =
      small-append β (listed f n) (f n ∷ [])
      ∙ ⊎_elim
      (λ (q : i ≡ n). and-false (small_trees β (listed f n)) (small_one β (f n) ∙ subst (λ (k : ℕ). small_working β (f k) ≡ false) q e))
      (λ q. ap (λ (b : Bool). b && small_trees β (f n ∷ [])) (small-not i n q e))
      (eq-or-lt_of_le (le_of_suc-le-suc h))

-- ---- the results one after another

module _ (m : IndexingMap) where
  abbrev first : ℕ → List Expr
  first i = fold_results (map_bounds m) (listed (expr_at m) i)

  pub record Folding (i : ℕ) (counts ks : List ℕ) (vs : List ℤ) (at : ℕ) : Type 0 where
    pub some : i ≤ m.results
    pub small : small_trees (map_bounds m) (listed (expr_at m) i) ≡ true
    pub holds : Holds (first i) ks vs at
    pub counted : length (nodes_of (first i)) ≤ max_nodes → counts ≡ filled max_results 0 (map node_count (first i))

  pub folding-start : {counts ks : List ℕ} {vs : List ℤ} → Zeros counts ks vs → Folding 0 counts ks vs 0
  unfolding listed small_trees
  folding-start {counts} {ks} {vs} z =
      record {
        some = omega arith;
        small = refl;
        holds = rw (z.kinds-zero, z.values-zero) holds-none;
        counted = λ h. z.counts_zero;
      }

  first_next : (i : ℕ) → first (suc i) ≡ first i ++ (fold_tree (map_bounds m) (expr_at m i) ∷ [])
  unfolding listed
  first_next i = map-append (λ (e : Expr). fold_tree (map_bounds m) e) (listed (expr_at m) i) (expr_at m i ∷ [])

  module _ {i : ℕ} {counts ks : List ℕ} {vs : List ℤ} {at : ℕ} (f : Folding i counts ks vs at) (more : i < m.results) where
    pub folding-over : small_working (map_bounds m) (expr_at m i) ≡ false → small_trees (map_bounds m) (result_trees m) ≡ false
    folding-over e = small-not (map_bounds m) (expr_at m) i m.results more e

    module _ {ks' : List ℕ} {vs' : List ℤ} {r : ℕ} (w : RunWritten m i ks ks' vs vs' at r) where
      pub place-next : at ≤ r
      place-next = omega (arith, w.written.nodes, f.holds.nodes)

      pub folding-next : Folding (suc i) (set counts i (r - at)) ks' vs' r
      folding-next =
          record {
            some = more;
            small = small-next (map_bounds m) (expr_at m) i f.small w.small;
            holds = subst (λ (es : List Expr). Holds es ks' vs' r) (sym (first_next i)) (holds-next f.holds (fold_tree (map_bounds m) (expr_at m i)) w.written);
            counted = λ h.
                let c = count_next (first i) (fold_tree (map_bounds m) (expr_at m i)) at r f.holds w.written (subst (λ (es : List Expr). length (nodes_of es) ≤ max_nodes) (first_next i) h) in
                let l : length (map node_count (first i)) ≡ i = length-map (first i) node_count ∙ length-map (listed (expr_at m) i) (λ (x : Expr). fold_tree (map_bounds m) x) ∙ listed-length (expr_at m) i in
                ap₂ (λ (x : List ℕ) (n : ℕ). set x i n) (f.counted c.0) c.1
                ∙ ap (λ (n : ℕ). set (filled max_results 0 (map node_count (first i))) n (node_count (fold_tree (map_bounds m) (expr_at m i)))) (sym l)
                ∙ sym (filled_next max_results 0 (map node_count (first i)) (node_count (fold_tree (map_bounds m) (expr_at m i))))
                ∙ ap (λ (x : List ℕ). filled max_results 0 x) (sym (ap (map node_count) (first_next i) ∙ map-append node_count (first i) (fold_tree (map_bounds m) (expr_at m i) ∷ [])));
          }
