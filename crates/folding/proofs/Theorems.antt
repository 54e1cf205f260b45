-- What folding does, one theorem under each sentence. Assumes nothing.
use mathlib.Core.Path.{◌≡◌, ap}
use mathlib.Core.Logic.{◌↔◌}
use mathlib.Core.Bool.{true}
use mathlib.Core.List.{List}
use Prim.Native.Nat.{ℕ, ◌<◌, ◌≤◌}
use lib.IntN.{ℤ}
use Rattle.expression.specs.Expression.{Kind, d, s, Expr, node_count, Range, In, eval, small_ranges}
use Rattle.expression.specs.Node.{nodes_at}
use Rattle.expression.specs.Decode.{tree, decode}
use Rattle.expression.proofs.Order.{order-Le}
use Rattle.expression.proofs.Within.{LeIn, Proper, Inside}
use Rattle.folding.specs.Sum.{sum_size}
use Rattle.folding.specs.Fold.{fold_sum, sum_tree}
use Rattle.folding.specs.Working.{small_working}
use Rattle.folding.specs.Map.{Constraint, constraint_trees, values_of, Holds, fold_tree, fold_results, fold_constraints, small_trees, good_numbers}
use Rattle.folding.proofs.Divisors.{PosE}
use Rattle.folding.proofs.Again.{fold-again}
use Rattle.folding.proofs.Size.{size-fold}
use Rattle.folding.proofs.Numbers.{positive-numbers, tree-numbers}
use Rattle.folding.proofs.FoldedTree.{fold-proper}
use Rattle.folding.proofs.WorkingAgain.{fold-ranges, fold-numbers, fold-small-again}
use Rattle.folding.proofs.Map.{AllTrees, all-trees, trees-both, small-trees, trees-small, all_results, all-constraints, tree-value, results-kept, holds-folded, folded-holds, results-again, constraints-again}

-- ---- values: the dims dimensions and ranges range variables have values that lie in their bounds

module _ (dims ranges : ℕ) (β : Kind → ℕ → Range) (ρ : Kind → ℕ → ℤ)
    (dims-in : (n : ℕ) → n < dims → In (ρ d n) (β d n))
    (ranges_in : (n : ℕ) → n < ranges → In (ρ s n) (β s n)) where
  le_in : {z : ℤ} {r : Range} → In z r → LeIn z r
  le_in h = record { low = order-Le h.low; high = order-Le h.high }

  inside : Inside dims ranges β ρ
  inside = record { dims = λ n h. le_in (dims-in n h); ranges = λ n h. le_in (ranges_in n h) }

  -- At a point inside the bounds the folded tree has the tree's value.
  pub same-value : (e : Expr) → Proper dims ranges e → eval ρ (fold_tree β e) ≡ eval ρ e
  same-value e h = tree-value dims ranges β ρ inside e h

  -- At a point inside the bounds folded results have the values of the results given.
  pub same-values : (es : List Expr) → AllTrees (Proper dims ranges) es → values_of ρ (fold_results β es) ≡ values_of ρ es
  same-values es h = results-kept dims ranges β ρ inside es h

  -- At a point inside the bounds folded constraints hold exactly when the constraints given do.
  pub same-domain : (xs : List Constraint) → AllTrees (Proper dims ranges) (constraint_trees xs) → Holds ρ xs ↔ Holds ρ (fold_constraints β xs)
  same-domain xs h = (λ w. holds-folded dims ranges β ρ inside xs h w, λ w. folded-holds dims ranges β ρ inside xs h w)

-- ---- a good tree: its constants and factors are within +-2^62, and its divisors from 1 to 2^40

abbrev pub GoodTree : Expr → Type 0
GoodTree e = good_numbers e ≡ true

-- Every tree that is read is good.
pub read-good : (dims ranges : ℕ) (kinds : List ℕ) (values : List ℤ) (from count : ℕ) (e : Expr)
    → decode (nodes_at dims ranges kinds values from count) ≡ tree e → GoodTree e
read-good dims ranges kinds values from count e q = tree-numbers dims ranges kinds values from count e q

module _ (β : Kind → ℕ → Range) where
  -- ---- folding again

  -- Folding a folded tree again changes nothing.
  pub same-again : (e : Expr) → GoodTree e → fold_tree β (fold_tree β e) ≡ fold_tree β e
  unfolding fold_tree
  same-again e h = ap sum_tree (fold-again β e (positive-numbers e h))

  -- Folding folded results again changes nothing.
  pub same-results-again : (es : List Expr) → AllTrees GoodTree es → fold_results β (fold_results β es) ≡ fold_results β es
  same-results-again es h = results-again β es (all-trees GoodTree PosE positive-numbers es h)

  -- Folding folded constraints again changes nothing, and none of those that stayed goes.
  pub same-constraints-again : (xs : List Constraint) → AllTrees GoodTree (constraint_trees xs) → fold_constraints β (fold_constraints β xs) ≡ fold_constraints β xs
  same-constraints-again xs h = constraints-again β xs (all-trees GoodTree PosE positive-numbers (constraint_trees xs) h)

  -- ---- the limits

  -- Where folding a tree passes no limit, folding the folded tree passes none.
  pub accepted-again : (e : Expr) → GoodTree e → small_working β e ≡ true → small_working β (fold_tree β e) ≡ true
  accepted-again e p h = fold-small-again β e p h

  -- good, and folding it passes no limit
  abbrev pub Accepted : Expr → Type 0
  Accepted e = GoodTree e × (small_working β e ≡ true)

  accepted-all : (es : List Expr) → AllTrees GoodTree es → small_trees β es ≡ true → AllTrees Accepted es
  accepted-all es p h = trees-both GoodTree (λ (e : Expr). small_working β e ≡ true) es p (small-trees β es h)

  -- Where folding results passes no limit, folding the folded results passes none.
  pub results-accepted-again : (es : List Expr) → AllTrees GoodTree es → small_trees β es ≡ true → small_trees β (fold_results β es) ≡ true
  results-accepted-again es p h =
      trees-small β (fold_results β es)
      (all_results β Accepted (λ (e : Expr). small_working β e ≡ true) (λ e w. accepted-again e w.0 w.1) es (accepted-all es p h))

  -- Where folding constraints passes no limit, folding those that stay passes none.
  pub constraints-accepted-again : (xs : List Constraint) → AllTrees GoodTree (constraint_trees xs) → small_trees β (constraint_trees xs) ≡ true
      → small_trees β (constraint_trees (fold_constraints β xs)) ≡ true
  constraints-accepted-again xs p h =
      trees-small β (constraint_trees (fold_constraints β xs))
      (all-constraints β Accepted (λ (e : Expr). small_working β e ≡ true) (λ e w. accepted-again e w.0 w.1) xs (accepted-all (constraint_trees xs) p h))

  -- Where folding a tree passes no limit, every node of the folded tree has its range within +-2^62.
  pub folded-ranges : (e : Expr) → GoodTree e → small_working β e ≡ true → small_ranges β (fold_tree β e) ≡ true
  folded-ranges e p h = fold-ranges β e p h

  -- Where folding a tree passes no limit, the folded tree is good.
  pub folded-numbers : (e : Expr) → GoodTree e → small_working β e ≡ true → GoodTree (fold_tree β e)
  folded-numbers e p h = fold-numbers β e p h

  -- The variables of the folded tree are below their counts where those of the tree are, and its divisors above 0.
  pub folded-proper : (dims ranges : ℕ) (e : Expr) → Proper dims ranges e → Proper dims ranges (fold_tree β e)
  folded-proper dims ranges e h = fold-proper dims ranges β e h

  -- ---- the size

  -- A folded sum has no more atoms, at all depths together, than the tree has nodes.
  pub folded-size : (e : Expr) → sum_size (fold_sum β e) ≤ node_count e
  folded-size e = size-fold β e
