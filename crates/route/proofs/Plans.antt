-- Plans as lists of places: admitted ones are plans, and plans of the same layouts are the same. Assumes nothing.
use mathlib.Core.Path.{◌≡◌, sym, ◌∙◌}
use mathlib.Core.Logic.{⊎_elim}
use mathlib.Core.List.{List}
use Prim.Native.Nat.{ℕ, ◌<◌, ◌≤◌}
use native.Mathlib.Nat.{eq-or-lt_of_le}
use native.Mathlib.Omega.{arith}
use lib.ListN.{get_or}
use lib.Seq.{ext_get_or}
use Rattle.radix.proofs.Lists.{le-or-lt}
use Rattle.shape.specs.Repeats.{Different}
use Rattle.shape.specs.declared.Shape.{Shape}
use Rattle.tree_plan.specs.Tree.{Admitted}
use Rattle.layout.specs.declared.Layout.{Layout}
use Rattle.route.specs.Stations.{station_at, layout_at, IsPlan, tree_of}
use Rattle.route.specs.LayoutRepeats.{same_at}
use Rattle.route.specs.declared.Station.{Station}
use Rattle.route.proofs.Written.{Written, same-written}
use Rattle.route.proofs.Tables.{clash}

pub admitted-plan :
    (s : Shape) (ys : List Station) (number cells moves : ℕ) (p : List ℕ) →
    Admitted (tree_of s ys number cells) moves p →
    IsPlan ys number p
admitted-plan s ys number cells moves p a = record { long = a.long; below = a.below }

-- plans of the same layouts, where no list holds a layout twice
pub same-plan :
    (ys : List Station) (number : ℕ) →
    ((i : ℕ) → i < number → Different (same_at (station_at ys i)) (station_at ys i).count) →
    (p q : List ℕ) →
    IsPlan ys number p →
    IsPlan ys number q →
    ((i : ℕ) → i < number → Written (layout_at (station_at ys i) (get_or p i 0)) (layout_at (station_at ys i) (get_or q i 0))) →
    p ≡ q
same-plan ys number d p q P Q w = ext_get_or 0 p q (P.long ∙ sym Q.long) (λ i l. place i (omega (arith, P.long)))
  where
    place : (i : ℕ) → i < number → get_or p i 0 ≡ get_or q i 0
    place i l =
        ⊎_elim
        (λ (g : get_or p i 0 ≤ get_or q i 0).
        ⊎_elim
        (λ (e : get_or p i 0 ≡ get_or q i 0). e)
        (λ (h : get_or p i 0 < get_or q i 0). clash _ (same-written _ _ (w i l)) (d i l (get_or p i 0) (get_or q i 0) h (Q.below i l)))
        (eq-or-lt_of_le g))
        (λ (h : get_or q i 0 < get_or p i 0). clash _ (same-written _ _ (turned (w i l))) (d i l (get_or q i 0) (get_or p i 0) h (P.below i l)))
        (le-or-lt (get_or p i 0) (get_or q i 0))
      where
        turned : {a b : Layout} → Written a b → Written b a
        turned v = record { order = sym v.order; tiles = sym v.tiles }
