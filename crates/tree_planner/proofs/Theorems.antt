-- The tables that the planner takes are a formed, small tree, so its answer is the best plan or there is none.
-- Assumes nothing.
use Prim.Native.Nat.{ℕ, ◌≤◌, ◌<◌}
use mathlib.Core.List.{List}
use Rattle.tree_plan.specs.Tree.{Earlier, Formed, Admitted, Best}
use Rattle.tree_plan.specs.Weight.{far_weight, least_weight, best_plan, least_cost}
use Rattle.tree_plan.proofs.Bounds.{Small}
use Rattle.tree_plan.proofs.Theorems.{best-found, none_found}
use Rattle.tree_planner.specs.Words.{tabled, Usable}

module _ (parents counts sizes moved : List ℕ) (n cells : ℕ) (U : Usable parents counts sizes moved n cells) where
  pub tabled-formed : Formed (tabled parents counts sizes moved n cells)
  unfolding Earlier
  tabled-formed = record { some = U.some; few = U.few; places = λ i l. U.count i; earlier = U.parent }

  pub tabled-small : Small (tabled parents counts sizes moved n cells)
  tabled-small = record { cells = U.cells_in; moved = λ i a b. U.ones _ }

  module _ (m : ℕ) where
    pub tabled-best :
        least_weight (tabled parents counts sizes moved n cells) m < far_weight →
        Best (tabled parents counts sizes moved n cells) m
        (least_cost (tabled parents counts sizes moved n cells) m)
        (best_plan (tabled parents counts sizes moved n cells) m)
    tabled-best h = best-found (tabled parents counts sizes moved n cells) tabled-formed m h

    pub tabled-none :
        far_weight ≤ least_weight (tabled parents counts sizes moved n cells) m →
        (p : List ℕ) →
        Admitted (tabled parents counts sizes moved n cells) m p →
        ⊥
    tabled-none h p a = none_found (tabled parents counts sizes moved n cells) tabled-formed tabled-small m h p a
