-- A map made step by step, each dimension by itself. Assumes nothing.
use mathlib.Core.Path.{◌≡◌, refl, sym, ap, ◌∙◌, subst}
use mathlib.Core.Bool.{Bool, true, false}
use mathlib.Core.List.{List, [], ◌∷◌, ◌++◌, map, append-nil, append_assoc}
use Prim.Native.Nat.{ℕ, zero, suc, ◌+◌, ◌-◌, ◌*◌, ◌/◌, ◌<◌, ◌≤◌}
use native.Mathlib.Omega.{arith}
use native.Mathlib.Nat.{zero-add, div-add-mod', div-le_self}
use lib.IntN.{ℤ, pos, negsuc, neg_ℤ, nat_abs}
use lib.ListN.{length, length-map}
use Rattle.shape.specs.Shape.{max_rank}
use Rattle.expression.specs.Expression.{d, modulo, Expr, Range, span}
use Rattle.expression.specs.Node.{max_variables}
use Rattle.expression.specs.declared.Node.TheVariants as N
use Rattle.expression.specs.declared.Leaf.TheVariants.{Constant}
use Rattle.expression.specs.declared.One.TheVariants.{Product, Floordiv, Mod}
use Rattle.folding.specs.Map.{Constraint}
use Rattle.encoding.specs.Postfix.{variable_of, postfix}
use Rattle.encoding.proofs.Lists.{map-append}
use Rattle.encoding.specs.Trees.{listed}
use Rattle.encoding.proofs.Listed.{listed-length, listed-map}
use Rattle.operation_maps.specs.declared.Axis.{Axis}
use Rattle.operation_maps.specs.declared.Axis.TheVariants.{Keep, Flip, Cut, Shift}
use Rattle.map_builder.specs.declared.Draft.{Draft}
use Rattle.map_builder.specs.Raw.{Raw, encoded}
use Rattle.operation_maps.specs.Axes.{Side, side_trees, side_tests, side_map, taken}
use Rattle.operation_builder.specs.Family.{side_of, Ready}
use Rattle.map_builder.specs.Draft.{empty_draft, add_dimension, push_variable, push_constant, push_product, push_mod, push_shifted, push_affine, steps}
use Rattle.operation_builder.specs.AxisDraft.{push_axis, add_axis, add_test}
use Rattle.map_builder.proofs.Drafted.{Drafted, drafted-encoded, empty-drafted, with_dimension, dimension-drafted, node-drafted, result-drafted, constraint-drafted, variable-value}
use Rattle.map_builder.proofs.Steps.{Grows, steps-drafted}
use Rattle.radix.specs.Radix.{max_count}

-- ---- bounds

pub whole-low : (out : Bool) (n : ℕ) → pos 0 ≡ (side_of out (Keep n)).bound.lo
whole-low true n = refl
whole-low false n = refl

pub turned-low : (out : Bool) (n : ℕ) → pos 0 ≡ (side_of out (Flip n)).bound.lo
turned-low true n = refl
turned-low false n = refl

pub whole-high : (out : Bool) (n : ℕ) → pos (n - 1) ≡ (side_of out (Keep n)).bound.hi
whole-high true n = refl
whole-high false n = refl

pub turned-high : (out : Bool) (n : ℕ) → pos (n - 1) ≡ (side_of out (Flip n)).bound.hi
turned-high true n = refl
turned-high false n = refl

pub low_small : (out : Bool) (a : Axis) (r : ℕ) → Ready a → pos r ≡ (side_of out a).bound.lo → r ≤ max_count
low_small true (Keep n) r h e = let q : r ≡ 0 = ap nat_abs e in omega (arith, q)
low_small false (Keep n) r h e = let q : r ≡ 0 = ap nat_abs e in omega (arith, q)
low_small true (Flip n) r h e = let q : r ≡ 0 = ap nat_abs e in omega (arith, q)
low_small false (Flip n) r h e = let q : r ≡ 0 = ap nat_abs e in omega (arith, q)
low_small true (Cut s l t) r h e = let q : r ≡ 0 = ap nat_abs e in omega (arith, q)
low_small false (Cut s l t) r h e = let q : r ≡ s = ap nat_abs e in omega (arith, q, h.0, h.1.0)
low_small true (Shift by n) r h e = let q : r ≡ by = ap nat_abs e in omega (arith, q, h.0)
low_small false (Shift by n) r h e = let q : r ≡ 0 = ap nat_abs e in omega (arith, q)

-- the last one taken lies below the limit
pub last-below : (s l t : ℕ) → s < l → s + (l - 1 - s) / t * t < l
last-below s l t h = omega (arith, h, div-add-mod' (l - 1 - s) t)

pub last-few : (s l t : ℕ) → (l - 1 - s) / t ≤ l
last-few s l t = let q = div-le_self (l - 1 - s) t in omega (arith, q)

pub last-is : (s l t : ℕ) → s + (l - 1 - s) / t * t ≡ s + (taken s l t - 1) * t
last-is s l t = let q : (l - 1 - s) / t ≡ taken s l t - 1 = omega arith in ap (λ (m : ℕ). s + m * t) q

pub pushed-results : (out : Bool) (a : Axis) (k : ℕ) (x : Draft) → (push_axis out a k x).map.results ≡ x.map.results
pushed-results out (Keep n) k x = refl
pushed-results out (Flip n) k x = refl
pushed-results true (Cut s l t) k x = refl
pushed-results false (Cut s l t) k x = refl
pushed-results true (Shift by n) k x = refl
pushed-results false (Shift by n) k x = refl

-- ---- growth

pub axis-grows : (out : Bool) (a : Axis) (k : ℕ) (x : Draft) → Grows x (add_axis out a k x) 1
axis-grows out (Keep n) k x = record { dims = omega arith; ranges = omega arith; results = omega arith; constraints = omega arith; nodes = omega arith; under = λ u. refl }
axis-grows out (Flip n) k x = record { dims = omega arith; ranges = omega arith; results = omega arith; constraints = omega arith; nodes = omega arith; under = λ u. refl }
axis-grows true (Cut s l t) k x = record { dims = omega arith; ranges = omega arith; results = omega arith; constraints = omega arith; nodes = omega arith; under = λ u. refl }
axis-grows false (Cut s l t) k x = record { dims = omega arith; ranges = omega arith; results = omega arith; constraints = omega arith; nodes = omega arith; under = λ u. refl }
axis-grows true (Shift by n) k x = record { dims = omega arith; ranges = omega arith; results = omega arith; constraints = omega arith; nodes = omega arith; under = λ u. refl }
axis-grows false (Shift by n) k x = record { dims = omega arith; ranges = omega arith; results = omega arith; constraints = omega arith; nodes = omega arith; under = λ u. refl }

axis-leaves : (out : Bool) (a : Axis) (k : ℕ) (x : Draft) → (add_axis out a k x).map.constraints ≡ x.map.constraints
axis-leaves out (Keep n) k x = refl
axis-leaves out (Flip n) k x = refl
axis-leaves true (Cut s l t) k x = refl
axis-leaves false (Cut s l t) k x = refl
axis-leaves true (Shift by n) k x = refl
axis-leaves false (Shift by n) k x = refl

pub axes-leave : (out : Bool) (axis : ℕ → Axis) (n : ℕ) (x : Draft) → (steps (λ (k : ℕ) (y : Draft). add_axis out (axis k) k y) n x).map.constraints ≡ x.map.constraints
unfolding steps
axes-leave out axis zero x = refl
axes-leave out axis (suc n) x = axis-leaves out (axis n) n (steps (λ (k : ℕ) (y : Draft). add_axis out (axis k) k y) n x) ∙ axes-leave out axis n x

pub test-grows : (out : Bool) (a : Axis) (k : ℕ) (x : Draft) → Grows x (add_test out a k x) 1
test-grows out (Keep n) k x = record { dims = omega arith; ranges = omega arith; results = omega arith; constraints = omega arith; nodes = omega arith; under = λ u. u }
test-grows out (Flip n) k x = record { dims = omega arith; ranges = omega arith; results = omega arith; constraints = omega arith; nodes = omega arith; under = λ u. u }
test-grows true (Cut s l t) k x = record { dims = omega arith; ranges = omega arith; results = omega arith; constraints = omega arith; nodes = omega arith; under = λ u. u }
test-grows false (Cut s l t) k x = record { dims = omega arith; ranges = omega arith; results = omega arith; constraints = omega arith; nodes = omega arith; under = λ u. refl }
test-grows out (Shift by n) k x = record { dims = omega arith; ranges = omega arith; results = omega arith; constraints = omega arith; nodes = omega arith; under = λ u. u }

-- ---- the tree and the constraint of a dimension

module _ (x : Raw) (y : Draft) (k : ℕ) (h : k < max_variables) (w : Drafted x [] y) where
  first-drafted : Drafted x (variable_of d k ∷ []) (push_variable y k)
  first-drafted = node-drafted x [] y (variable_of d k) 0 (pos k) refl (variable-value k h) w

  sum-drafted : (by : ℤ) → Drafted x (variable_of d k ∷ N.Leaf (Constant by) ∷ N.Sum ∷ []) (push_shifted y k by)
  sum-drafted by =
      let a = node-drafted x (variable_of d k ∷ []) (push_variable y k) (N.Leaf (Constant by)) 1 by refl refl first-drafted in
      node-drafted x (variable_of d k ∷ N.Leaf (Constant by) ∷ []) (push_constant (push_variable y k) by) N.Sum 2 (pos 0) refl refl a

  affine-drafted : (f by : ℤ) → Drafted x (variable_of d k ∷ N.One (Product f) ∷ N.Leaf (Constant by) ∷ N.Sum ∷ []) (push_affine y k f by)
  affine-drafted f by =
      let a = node-drafted x (variable_of d k ∷ []) (push_variable y k) (N.One (Product f)) 3 f refl refl first-drafted in
      let b = node-drafted x (variable_of d k ∷ N.One (Product f) ∷ []) (push_product (push_variable y k) f) (N.Leaf (Constant by)) 1 by refl refl a in
      node-drafted x (variable_of d k ∷ N.One (Product f) ∷ N.Leaf (Constant by) ∷ []) (push_constant (push_product (push_variable y k) f) by) N.Sum 2 (pos 0) refl refl b

  tree-drafted : (out : Bool) (a : Axis) → Drafted x (postfix ((side_of out a).tree (Expr.var d k))) (push_axis out a k y)
  unfolding postfix
  tree-drafted true (Keep n) = first-drafted
  tree-drafted false (Keep n) = first-drafted
  tree-drafted true (Flip n) = affine-drafted (negsuc 0) (pos (n - 1))
  tree-drafted false (Flip n) = affine-drafted (negsuc 0) (pos (n - 1))
  tree-drafted true (Cut s l t) = affine-drafted (pos t) (pos s)
  tree-drafted false (Cut s l t) =
      node-drafted x (variable_of d k ∷ N.Leaf (Constant (neg_ℤ (pos s))) ∷ N.Sum ∷ []) (push_shifted y k (neg_ℤ (pos s))) (N.One (Floordiv (pos t))) 4 (pos t) refl refl (sum-drafted (neg_ℤ (pos s)))
  tree-drafted true (Shift by n) = sum-drafted (neg_ℤ (pos by))
  tree-drafted false (Shift by n) = sum-drafted (pos by)

  abbrev tested : List Constraint → Raw
  tested cs = record { dims = x.dims; ranges = x.ranges; results = x.results; constraints = x.constraints ++ cs }

  untested : Drafted (tested []) [] y
  untested =
      subst (λ (cs : List Constraint). Drafted (record { dims = x.dims; ranges = x.ranges; results = x.results; constraints = cs }) [] y) (sym (append-nil x.constraints)) w

  test-drafted : (out : Bool) (a : Axis) → Drafted (tested ((side_of out a).tests (Expr.var d k))) [] (add_test out a k y)
  unfolding postfix
  test-drafted true (Keep n) = untested
  test-drafted false (Keep n) = untested
  test-drafted true (Flip n) = untested
  test-drafted false (Flip n) = untested
  test-drafted true (Cut s l t) = untested
  test-drafted false (Cut s l t) =
      let c : Constraint = record { expr = Expr.op modulo (Expr.add (Expr.var d k) (Expr.const (neg_ℤ (pos s)))) t; interval = span (pos 0) (pos 0) } in
      let a = node-drafted x (variable_of d k ∷ N.Leaf (Constant (neg_ℤ (pos s))) ∷ N.Sum ∷ []) (push_shifted y k (neg_ℤ (pos s))) (N.One (Mod (pos t))) 5 (pos t) refl refl (sum-drafted (neg_ℤ (pos s))) in
      constraint-drafted x (push_mod (push_shifted y k (neg_ℤ (pos s))) t) c a
  test-drafted true (Shift by n) = untested
  test-drafted false (Shift by n) = untested

-- ---- one dimension more

trees-more : (xs : List Side) (s : Side) (j : ℕ) → side_trees (xs ++ (s ∷ [])) j ≡ side_trees xs j ++ (s.tree (Expr.var d (j + length xs)) ∷ [])
trees-more [] s j = let q : j ≡ j + 0 = omega arith in ap (λ (i : ℕ). s.tree (Expr.var d i) ∷ []) q
trees-more (x ∷ xs) s j =
    let q : suc j + length xs ≡ j + suc (length xs) = omega arith in
    ap (λ (es : List Expr). x.tree (Expr.var d j) ∷ es) (trees-more xs s (suc j) ∙ ap (λ (i : ℕ). side_trees xs (suc j) ++ (s.tree (Expr.var d i) ∷ [])) q)

tests-more : (xs : List Side) (s : Side) (j : ℕ) → side_tests (xs ++ (s ∷ [])) j ≡ side_tests xs j ++ s.tests (Expr.var d (j + length xs))
tests-more [] s j = let q : j ≡ j + 0 = omega arith in append-nil (s.tests (Expr.var d j)) ∙ ap (λ (i : ℕ). s.tests (Expr.var d i)) q
tests-more (x ∷ xs) s j =
    let q : suc j + length xs ≡ j + suc (length xs) = omega arith in
    ap (λ (cs : List Constraint). x.tests (Expr.var d j) ++ cs) (tests-more xs s (suc j) ∙ ap (λ (i : ℕ). side_tests xs (suc j) ++ s.tests (Expr.var d i)) q)
    ∙ sym (append_assoc (x.tests (Expr.var d j)) (side_tests xs (suc j)) (s.tests (Expr.var d (j + suc (length xs)))))

module _ (out : Bool) (axis : ℕ → Axis) (n : ℕ) (few : n ≤ max_rank) where
  abbrev side : ℕ → Side
  side k = side_of out (axis k)

  abbrev bounds : ℕ → List Range
  bounds k = map (λ (s : Side). s.bound) (listed side k)

  abbrev part : ℕ → Raw
  part k = record { dims = bounds k; ranges = []; results = side_trees (listed side k) 0; constraints = [] }

  abbrev test_part : ℕ → Raw
  test_part k = record { dims = bounds n; ranges = []; results = side_trees (listed side n) 0; constraints = side_tests (listed side k) 0 }

  many : (k : ℕ) → length (bounds k) ≡ k
  many k = length-map (listed side k) (λ (s : Side). s.bound) ∙ listed-length side k

  place : (k : ℕ) → 0 + length (listed side k) ≡ k
  place k = zero-add (length (listed side k)) ∙ listed-length side k

  axis-next : (k : ℕ) (y : Draft) → k < n → Drafted (part k) [] y → Drafted (part (suc k)) [] (add_axis out (axis k) k y)
  unfolding listed
  axis-next k y h w =
      let b = (side k).bound in
      let z = add_dimension y b.lo b.hi in
      let a = dimension-drafted (part k) [] y b (omega (arith, h, few, many k)) w in
      let t = tree-drafted (with_dimension (part k) b) z k (omega (arith, h, few)) a out (axis k) in
      let e = (side k).tree (Expr.var d k) in
      let r = result-drafted (with_dimension (part k) b) (push_axis out (axis k) k z) e refl t in
      let ds : bounds k ++ (b ∷ []) ≡ bounds (suc k) = sym (map-append (λ (s : Side). s.bound) (listed side k) (side k ∷ [])) in
      let es : side_trees (listed side k) 0 ++ (e ∷ []) ≡ side_trees (listed side (suc k)) 0 =
      sym (trees-more (listed side k) (side k) 0 ∙ ap (λ (i : ℕ). side_trees (listed side k) 0 ++ ((side k).tree (Expr.var d i) ∷ [])) (place k)) in
      subst (λ (l : List Range). Drafted (record { dims = l; ranges = []; results = side_trees (listed side (suc k)) 0; constraints = [] }) [] (add_axis out (axis k) k y)) ds
      (subst (λ (l : List Expr). Drafted (record { dims = bounds k ++ (b ∷ []); ranges = []; results = l; constraints = [] }) [] (add_axis out (axis k) k y)) es r)

  test-next : (k : ℕ) (y : Draft) → k < n → Drafted (test_part k) [] y → Drafted (test_part (suc k)) [] (add_test out (axis k) k y)
  unfolding listed
  test-next k y h w =
      let t = test-drafted (test_part k) y k (omega (arith, h, few)) w out (axis k) in
      let cs : side_tests (listed side k) 0 ++ (side k).tests (Expr.var d k) ≡ side_tests (listed side (suc k)) 0 =
      sym (tests-more (listed side k) (side k) 0 ∙ ap (λ (i : ℕ). side_tests (listed side k) 0 ++ (side k).tests (Expr.var d i)) (place k)) in
      subst (λ (l : List Constraint). Drafted (record { dims = bounds n; ranges = []; results = side_trees (listed side n) 0; constraints = l }) [] (add_test out (axis k) k y)) cs t

  abbrev axes_draft : Draft
  axes_draft = steps (λ (k : ℕ) (x : Draft). add_axis out (axis k) k x) n empty_draft

  none-drafted : Drafted (part 0) [] empty_draft
  unfolding listed
  none-drafted = empty-drafted

  all-drafted : Drafted (test_part 0) [] axes_draft
  unfolding listed
  all-drafted = steps-drafted (λ (k : ℕ) (x : Draft). add_axis out (axis k) k x) part n empty_draft none-drafted axis-next n (omega arith)

  -- THE MAP, AS IT IS MADE
  pub axes-made : (steps (λ (k : ℕ) (x : Draft). add_test out (axis k) k x) n axes_draft).map ≡ encoded (side_map (map (side_of out) (listed axis n)))
  axes-made =
      let w = steps-drafted (λ (k : ℕ) (x : Draft). add_test out (axis k) k x) test_part n axes_draft all-drafted test-next n (omega arith) in
      drafted-encoded (test_part n) (steps (λ (k : ℕ) (x : Draft). add_test out (axis k) k x) n axes_draft) (omega (arith, few, many n)) w
      ∙ ap (λ (xs : List Side). encoded (side_map xs)) (sym (listed-map (side_of out) axis n))
