-- The maps of operations that select coordinates keep folding's limits. Assumes nothing.
use mathlib.Core.Path.{◌≡◌, refl, sym, subst}
use mathlib.Core.Bool.{Bool, true, false, cond}
use mathlib.Core.List.{List, [], ◌∷◌, map}
use Prim.Native.Nat.{ℕ, suc, ◌<◌, ◌≤◌}
use native.Mathlib.Omega.{arith}
use borrow.Author.Tests.{ltb-true}
use lib.ListN.{length, get_or, length-map}
use Rattle.radix.specs.Radix.{max_size}
use Rattle.expression.specs.Expression.{Kind, d, s, Expr, Range}
use Rattle.folding.proofs.Map.{AllTrees}
use Rattle.encoding.specs.Trees.{listed}
use Rattle.encoding.proofs.Listed.{listed-length, all_listed}
use Rattle.shape.specs.Dimensions.{place}
use Rattle.shape.specs.Shape.{max_rank}
use Rattle.map_builder.specs.Raw.{whole_of}
use Rattle.operation_maps.specs.Lists.{select, is_listed, others}
use Rattle.operation_maps.specs.Selection.{select_map, variable_for, spread_map, Choice}
use Rattle.operation_maps.proofs.Fitted.{choice-few, no-constraints, whole_length}
use Rattle.operation_maps.proofs.SelectionNamed.{select-at, select-length, others-choice, others-at}
use Rattle.operation_maps.proofs.Limits.{Light, GoodRanges, whole-good, Agrees, dimension-light, range-light, Keeps}

module _ (l ns : List ℕ) (few : length ns ≤ max_rank) (sized : (k : ℕ) → k < length ns → get_or ns k 0 ≤ max_size) (c : Choice l (length ns)) where
  -- ---- larger to smaller

  variables-light : (β : Kind → ℕ → Range) (js : List ℕ) → ((k : ℕ) → k < length js → get_or js k 0 < length (whole_of ns)) → Agrees (select_map l ns) β
      → AllTrees (Light β 1) (map (λ (k : ℕ). Expr.var d k) js)
  unfolding select_map AllTrees
  variables-light β [] h g = tt
  variables-light β (j ∷ js) h g =
      (dimension-light (select_map l ns) β g (whole-good ns sized) j (h 0 (omega arith)), variables-light β js (λ k i. h (suc k) (omega arith)) g)

  pub select-keeps : Keeps (select_map l ns)
  unfolding select_map
  select-keeps =
      let es = map (λ (k : ℕ). Expr.var d k) l in
      record {
        dims = whole-good ns sized;
        ranges = tt;
        intervals = refl;
        most = 1;
        trees = λ β g.
            subst (AllTrees (Light β 1)) (sym (no-constraints es))
            (variables-light β l (λ k h. omega (arith, c.inside k h, whole_length ns)) g);
        few = omega (arith, length-map l (λ (k : ℕ). Expr.var d k), choice-few l (length ns) c, few);
      }

  -- ---- smaller to larger

  chosen-sized : (js : List ℕ) → Choice js (length ns) → GoodRanges (whole_of (select js ns))
  chosen-sized js h =
      whole-good (select js ns)
      (λ k i. let j : k < length js = omega (arith, select-length js ns) in omega (arith, select-at js ns k j, sized (get_or js k 0) (h.inside k j)))

  pub spread-keeps : Keeps (spread_map l ns)
  unfolding spread_map
  spread-keeps =
      let rest = others l (length ns) in
      let good = chosen-sized l c in
      let others-good = chosen-sized rest (others-choice l (length ns)) in
      let es = listed (variable_for l) (length ns) in
      record {
        dims = good;
        ranges = others-good;
        intervals = refl;
        most = 1;
        trees = λ β g.
            subst (AllTrees (Light β 1)) (sym (no-constraints es))
            (all_listed (Light β 1) (variable_for l) (length ns) (λ j h. light β g good others-good j h (is_listed l j) refl));
        few = omega (arith, listed-length (variable_for l) (length ns), few);
      }
    where
      light : (β : Kind → ℕ → Range) → Agrees (spread_map l ns) β → GoodRanges (whole_of (select l ns)) → GoodRanges (whole_of (select (others l (length ns)) ns))
          → (j : ℕ) → j < length ns → (b : Bool) → is_listed l j ≡ b → Light β 1 (cond b (Expr.var d (place j l)) (Expr.var s (length (others l j))))
      light β g a b j h true e =
          dimension-light (spread_map l ns) β g a (place j l)
          (omega (arith, ltb-true (place j l) (length l) e, whole_length (select l ns), select-length l ns))
      light β g a b j h false e =
          let rest = others l (length ns) in
          range-light (spread_map l ns) β g b (length (others l j))
          (omega (arith, (others-at l (length ns) j h e).0, whole_length (select rest ns), select-length rest ns))
