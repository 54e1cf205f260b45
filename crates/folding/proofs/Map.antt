-- Folding the results and the constraints of a map keeps values and domain, keeps the limits, and changes nothing the second time. Assumes nothing.
use mathlib.Core.Path.{◌≡◌, refl, sym, ap, ap₂, ◌∙◌, subst}
use mathlib.Core.Bool.{Bool, true, false, cond}
use mathlib.Core.List.{List, [], ◌∷◌}
use Prim.Native.Nat.{ℕ}
use lib.Dec.{T}
use lib.IntN.{ℤ}
use lib.Signed.{le_z, le_z_yes}
use Rattle.radix.proofs.Tests.{and-true, and_left, and_right}
use Rattle.expression.specs.Expression.{Kind, Expr, Range, In, eval}
use Rattle.expression.proofs.Order.{Le-trans, Le-order, order-Le}
use Rattle.expression.proofs.Within.{LeIn, Proper, Inside}
use Rattle.folding.specs.Sum.{Sum, sum_range}
use Rattle.folding.specs.Fold.{fold_sum, sum_tree}
use Rattle.folding.specs.Working.{small_working}
use Rattle.folding.specs.Map.{Constraint, constraint_trees, values_of, Holds, fold_tree, fold_results, is_inside, fold_constraints, small_trees}
use Rattle.folding.proofs.Divisors.{PosE}
use Rattle.folding.proofs.SumValue.{sum-tree-value}
use Rattle.folding.proofs.Value.{fold-value, fold-in-range}
use Rattle.folding.proofs.Again.{fold-again}

-- ---- what holds at every tree of a list

unfoldable pub AllTrees : (Expr → Type 0) → List Expr → Type 0
AllTrees P [] = Unit {0}
AllTrees P (e ∷ es) = P e × AllTrees P es

pub all-trees : (P Q : Expr → Type 0) → ((e : Expr) → P e → Q e) → (es : List Expr) → AllTrees P es → AllTrees Q es
unfolding AllTrees
all-trees P Q f [] h = tt
all-trees P Q f (e ∷ es) h = (f e h.0, all-trees P Q f es h.1)

pub small-trees : (β : Kind → ℕ → Range) (es : List Expr) → small_trees β es ≡ true → AllTrees (λ (e : Expr). small_working β e ≡ true) es
unfolding AllTrees small_trees
small-trees β [] h = tt
small-trees β (e ∷ es) h = (and_left (small_working β e) (small_trees β es) h, small-trees β es (and_right (small_working β e) (small_trees β es) h))

pub trees-small : (β : Kind → ℕ → Range) (es : List Expr) → AllTrees (λ (e : Expr). small_working β e ≡ true) es → small_trees β es ≡ true
unfolding AllTrees small_trees
trees-small β [] h = refl
trees-small β (e ∷ es) h = and-true h.0 (trees-small β es h.1)

pub trees-both : (P Q : Expr → Type 0) (es : List Expr) → AllTrees P es → AllTrees Q es → AllTrees (λ (e : Expr). P e × Q e) es
unfolding AllTrees
trees-both P Q [] h k = tt
trees-both P Q (e ∷ es) h k = ((h.0, k.0), trees-both P Q es h.1 k.1)

-- a law from a tree to its folded tree is one from a list to its folded list
module _ (β : Kind → ℕ → Range) (P Q : Expr → Type 0) (f : (e : Expr) → P e → Q (fold_tree β e)) where
  pub all_results : (es : List Expr) → AllTrees P es → AllTrees Q (fold_results β es)
  unfolding AllTrees
  all_results [] h = tt
  all_results (e ∷ es) h = (f e h.0, all_results es h.1)

  pub all-constraints : (xs : List Constraint) → AllTrees P (constraint_trees xs) → AllTrees Q (constraint_trees (fold_constraints β xs))
  unfolding AllTrees fold_constraints
  all-constraints [] h = tt
  all-constraints (x ∷ xs) h = go (is_inside (sum_range (fold_sum β x.expr) β) x.interval) (all-constraints xs h.1)
    where
      go : (b : Bool) → AllTrees Q (constraint_trees (fold_constraints β xs))
          → AllTrees Q (constraint_trees (cond b (fold_constraints β xs) (record { expr = fold_tree β x.expr; interval = x.interval } ∷ fold_constraints β xs)))
      go true ih = ih
      go false ih = (f x.expr h.0, ih)

-- ---- a range inside another

test-order : (a b : ℤ) → le_z a b ≡ true → T (le_z a b)
test-order a b h = subst (λ t. T t) (sym h) tt

inside-in : (z : ℤ) (r q : Range) → is_inside r q ≡ true → LeIn z r → In z q
unfolding is_inside
inside-in z r q h i =
    let a = le_z q.lo r.lo in
    let b = le_z r.hi q.hi in
    record {
      low = Le-order (Le-trans (order-Le (le_z_yes {a = q.lo} {b = r.lo} (test-order q.lo r.lo (and_left a b h)))) i.low);
      high = Le-order (Le-trans i.high (order-Le (le_z_yes {a = r.hi} {b = q.hi} (test-order r.hi q.hi (and_right a b h)))));
    }

-- ---- at a point inside the bounds

module _ (m r : ℕ) (β : Kind → ℕ → Range) (ρ : Kind → ℕ → ℤ) (inside : Inside m r β ρ) where
  pub tree-value : (e : Expr) → Proper m r e → eval ρ (fold_tree β e) ≡ eval ρ e
  unfolding fold_tree
  tree-value e h = sum-tree-value ρ (fold_sum β e) ∙ fold-value ρ β m r inside e h

  pub results-kept : (es : List Expr) → AllTrees (Proper m r) es → values_of ρ (fold_results β es) ≡ values_of ρ es
  unfolding AllTrees
  results-kept [] h = refl
  results-kept (e ∷ es) h = ap₂ (λ x y. x ∷ y) (tree-value e h.0) (results-kept es h.1)

  pub holds-folded : (xs : List Constraint) → AllTrees (Proper m r) (constraint_trees xs) → Holds ρ xs → Holds ρ (fold_constraints β xs)
  unfolding AllTrees Holds fold_constraints
  holds-folded [] p h = tt
  holds-folded (x ∷ xs) p h = go (is_inside (sum_range (fold_sum β x.expr) β) x.interval) (holds-folded xs p.1 h.1)
    where
      go : (b : Bool) → Holds ρ (fold_constraints β xs)
          → Holds ρ (cond b (fold_constraints β xs) (record { expr = fold_tree β x.expr; interval = x.interval } ∷ fold_constraints β xs))
      go true ih = ih
      go false ih = (subst (λ z. In z x.interval) (sym (tree-value x.expr p.0)) h.0, ih)

  pub folded-holds : (xs : List Constraint) → AllTrees (Proper m r) (constraint_trees xs) → Holds ρ (fold_constraints β xs) → Holds ρ xs
  unfolding AllTrees Holds fold_constraints
  folded-holds [] p h = tt
  folded-holds (x ∷ xs) p h = go (is_inside folded x.interval) refl (λ w. folded-holds xs p.1 w) h
    where
      folded : Range
      folded = sum_range (fold_sum β x.expr) β

      go : (b : Bool) → is_inside folded x.interval ≡ b → (Holds ρ (fold_constraints β xs) → Holds ρ xs)
          → Holds ρ (cond b (fold_constraints β xs) (record { expr = fold_tree β x.expr; interval = x.interval } ∷ fold_constraints β xs))
          → In (eval ρ x.expr) x.interval × Holds ρ xs
      go true q ih w = (inside-in (eval ρ x.expr) folded x.interval q (fold-in-range ρ β m r inside x.expr p.0), ih w)
      go false q ih w = (subst (λ z. In z x.interval) (tree-value x.expr p.0) w.0, ih w.1)

-- ---- folding again

pub results-again : (β : Kind → ℕ → Range) (es : List Expr) → AllTrees PosE es → fold_results β (fold_results β es) ≡ fold_results β es
unfolding AllTrees fold_tree
results-again β [] p = refl
results-again β (e ∷ es) p = ap₂ (λ x y. x ∷ y) (ap sum_tree (fold-again β e p.0)) (results-again β es p.1)

pub constraints-again : (β : Kind → ℕ → Range) (xs : List Constraint) → AllTrees PosE (constraint_trees xs)
    → fold_constraints β (fold_constraints β xs) ≡ fold_constraints β xs
unfolding AllTrees fold_constraints fold_tree
constraints-again β [] p = refl
constraints-again β (x ∷ xs) p = go (is_inside (sum_range (fold_sum β x.expr) β) x.interval) refl (constraints-again β xs p.1)
  where
    -- the constraints whose first has the folded sum t, where b says that it goes
    with : Bool → Sum → List Constraint → List Constraint
    with b t ys = cond b ys (record { expr = sum_tree t; interval = x.interval } ∷ ys)

    go : (b : Bool) → is_inside (sum_range (fold_sum β x.expr) β) x.interval ≡ b
        → fold_constraints β (fold_constraints β xs) ≡ fold_constraints β xs
        → fold_constraints β (with b (fold_sum β x.expr) (fold_constraints β xs)) ≡ with b (fold_sum β x.expr) (fold_constraints β xs)
    go true q ih = ih
    go false q ih =
        ap (λ t. with (is_inside (sum_range t β) x.interval) t (fold_constraints β (fold_constraints β xs))) (fold-again β x.expr p.0)
        ∙ ap₂ (λ b ys. with b (fold_sum β x.expr) ys) q ih
