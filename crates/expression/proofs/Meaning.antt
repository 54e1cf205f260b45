-- The walks of ranges and of values, by the tree that the nodes are. Assumes nothing.
use Rattle.std.specs.Prelude.{Option, None}
use mathlib.Core.Path.{◌≡◌, refl, sym, ap, ◌∙◌, subst}
use mathlib.Core.Bool.{Bool, true, false, cond}
use mathlib.Core.List.{List, [], ◌∷◌}
use Prim.Native.Nat.{ℕ}
use native.Mathlib.Omega.{arith}
use lib.IntN.{ℤ, ◌+ℤ◌}
use Rattle.expression.specs.Expression.{Expr, Range, span, eval, op_of, range_of, add_range, small_ranges}
use Rattle.expression.specs.Machine.{Out, broken, passed, stack, walk, Fed}
use Rattle.expression.specs.Decode.{leaf_expr, one_expr, Tree, none, tree, decode, is_tree}
use Rattle.expression.specs.Value.{point_of, bounds, leaf_value, one_value, value_alg}
use Rattle.expression.specs.Reckon.{placed_leaf, one_range, range_alg, range_in}
use Rattle.expression.specs.declared.Node.{Node}
use Rattle.expression.specs.declared.Leaf.{Leaf}
use Rattle.expression.specs.declared.Leaf.TheVariants as L
use Rattle.expression.specs.declared.One.{One}
use Rattle.expression.specs.declared.One.TheVariants.{Product, Floordiv, Mod}
use Rattle.expression.proofs.Ends.{kept}
use Rattle.expression.proofs.Decoded.{keep_if, fits, meant}

-- what a walk of ranges ends with
abbrev pub reckoned : Out Range → Option (ℤ × ℤ)
reckoned broken = None
reckoned passed = None
reckoned (stack []) = None
reckoned (stack (r ∷ [])) = kept r.lo r.hi
reckoned (stack (r ∷ (q ∷ st))) = None

module _ (lo hi : List ℤ) where
  rl : (l : Leaf) → range_of (bounds lo hi) (leaf_expr l) ≡ span (placed_leaf lo l) (placed_leaf hi l)
  unfolding range_of bounds point_of
  rl (L.Dim n) = refl
  rl (L.Range n) = refl
  rl (L.Constant z) = refl

  ro : (o : One) (e : Expr) → range_of (bounds lo hi) (one_expr o e) ≡ one_range o (range_of (bounds lo hi) e)
  unfolding range_of
  ro (Product z) e = refl
  ro (Floordiv c) e = refl
  ro (Mod c) e = refl

  rs : (a b : Expr) → range_of (bounds lo hi) (Expr.add a b) ≡ add_range (range_of (bounds lo hi) a) (range_of (bounds lo hi) b)
  unfolding range_of
  rs a b = refl

  range-walk : (ns : List Node) (e : Expr) → decode ns ≡ tree e → walk (range_alg lo hi) ns [] ≡ keep_if (small_ranges (bounds lo hi) e) (stack (range_of (bounds lo hi) e ∷ []))
  unfolding small_ranges
  range-walk ns e q = meant (range_alg lo hi) (range_of (bounds lo hi)) rl ro rs ns e q

  fed-if : (b : Bool) (r : Range) → Fed (keep_if b (stack (r ∷ [])))
  fed-if true r = tt
  fed-if false r = tt

  range-if : (b : Bool) (r : Range) → reckoned (keep_if b (stack (r ∷ []))) ≡ cond b (kept r.lo r.hi) None
  range-if true r = refl
  range-if false r = refl

  by-tree : (ns : List Node) (t : Tree) → decode ns ≡ t → is_tree t ≡ true → Fed (walk (range_alg lo hi) ns []) × (reckoned (walk (range_alg lo hi) ns []) ≡ range_in lo hi t)
  by-tree ns none q h = let z : ◌≡◌ {A = ℕ} 0 1 = cc in absurd (omega arith)
  by-tree ns (tree e) q h =
      let w = range-walk ns e q in
      (subst Fed (sym w) (fed-if (small_ranges (bounds lo hi) e) (range_of (bounds lo hi) e)), ap reckoned w ∙ range-if (small_ranges (bounds lo hi) e) (range_of (bounds lo hi) e))

  -- the walk of ranges over a tree
  pub range-fed : (ns : List Node) → is_tree (decode ns) ≡ true → Fed (walk (range_alg lo hi) ns [])
  range-fed ns h = (by-tree ns (decode ns) refl h).0

  pub range-is : (ns : List Node) → is_tree (decode ns) ≡ true → reckoned (walk (range_alg lo hi) ns []) ≡ range_in lo hi (decode ns)
  range-is ns h = (by-tree ns (decode ns) refl h).1

-- ---- values

module _ (ds ss : List ℤ) where
  vl : (l : Leaf) → eval (point_of ds ss) (leaf_expr l) ≡ leaf_value ds ss l
  unfolding eval point_of
  vl (L.Dim n) = refl
  vl (L.Range n) = refl
  vl (L.Constant z) = refl

  vo : (o : One) (e : Expr) → eval (point_of ds ss) (one_expr o e) ≡ one_value o (eval (point_of ds ss) e)
  unfolding eval op_of
  vo (Product z) e = refl
  vo (Floordiv c) e = refl
  vo (Mod c) e = refl

  vs : (a b : Expr) → eval (point_of ds ss) (Expr.add a b) ≡ eval (point_of ds ss) a +ℤ eval (point_of ds ss) b
  unfolding eval
  vs a b = refl

  pub value-walk : (ns : List Node) (e : Expr) → decode ns ≡ tree e → fits (value_alg ds ss) (eval (point_of ds ss)) e ≡ true → walk (value_alg ds ss) ns [] ≡ stack (eval (point_of ds ss) e ∷ [])
  value-walk ns e q h = meant (value_alg ds ss) (eval (point_of ds ss)) vl vo vs ns e q ∙ ap (λ (b : Bool). keep_if b (stack (eval (point_of ds ss) e ∷ []))) h
