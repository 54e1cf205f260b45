-- Judging the sums formed: by the rules with enough fuel, and by a tree from its parts. Assumes nothing.
use mathlib.Core.Path.{◌≡◌, refl, sym, ap, ap₂, ◌∙◌}
use mathlib.Core.Bool.{Bool, true, false, cond, ◌&&◌}
use mathlib.Core.List.{List, [], ◌∷◌, ◌++◌}
use Prim.Native.Nat.{ℕ, zero, suc, ◌<◌}
use native.Mathlib.Omega.{arith}
use native.Mathlib.Nat as NatL
use lib.Dec.{eqb}
use lib.IntN.{ℤ}
use Rattle.radix.proofs.Tests.{and-false, and_right}
use Rattle.expression.specs.Expression.{Kind, Op, Expr, Range}
use Rattle.expression.specs.Decode.{leaf_expr, one_expr}
use Rattle.expression.specs.declared.Leaf.{Leaf}
use Rattle.expression.specs.declared.Leaf.TheVariants as L
use Rattle.expression.specs.declared.One.{One}
use Rattle.expression.specs.declared.One.TheVariants.{Product, Floordiv, Mod}
use Rattle.folding.specs.Sum.{Sum}
use Rattle.folding.specs.Fold.{Step, is, again, add_sums, scale_sum, divisors_tried, apply_rule, apply_rules, fuel_for, fold_sum}
use Rattle.folding.specs.Folded.{FoldedS, weight}
use Rattle.folding.specs.Working.{small_sum, small_sums, rests_tried, sums_formed, tree_sums, small_working}
use Rattle.folding.proofs.Ending.{Good, step-good, weight-enough}
use Rattle.folding.proofs.Size.{run-same}

and_assoc : (a b c : Bool) → (a && (b && c)) ≡ ((a && b) && c)
and_assoc true b c = refl
and_assoc false b c = refl

and-id : (a : Bool) → (a && true) ≡ a
and-id true = refl
and-id false = refl

module _ (β : Kind → ℕ → Range) where
  small-append : (xs ys : List Sum) → small_sums β (xs ++ ys) ≡ (small_sums β xs && small_sums β ys)
  unfolding small_sums
  small-append [] ys = refl
  small-append (t ∷ xs) ys = ap (λ (b : Bool). small_sum β t && b) (small-append xs ys) ∙ and_assoc (small_sum β t) (small_sums β xs) (small_sums β ys)

  small-last : (xs : List Sum) (t : Sum) → small_sums β (xs ++ (t ∷ [])) ≡ (small_sums β xs && small_sum β t)
  unfolding small_sums
  small-last xs t = small-append xs (t ∷ []) ∙ ap (λ (b : Bool). small_sums β xs && b) (and-id (small_sum β t))

  -- any fuel that is enough forms the same sums
  pub formed-same : (n m : ℕ) (o : Op) (t : Sum) (c : ℕ) → 0 < c → FoldedS β t → weight t c < n → weight t c < m → sums_formed n β o t c ≡ sums_formed m β o t c
  unfolding sums_formed Good
  formed-same zero m o t c h p v w = absurd (NatL.not-suc-le-zero v)
  formed-same (suc n) zero o t c h p v w = absurd (NatL.not-suc-le-zero w)
  formed-same (suc n) (suc m) o t c h p v w =
      ap (λ (l : List Sum). t ∷ (cond (eqb c 1) [] (rests_tried β t (divisors_tried c t)) ++ l))
      (go (apply_rule β o t c) (step-good β o t c h p) (λ u e x y z z'. formed-same n m o u e x y z z'))
    where
      go : (x : Step) → Good β t c x → ((u : Sum) (e : ℕ) → 0 < e → FoldedS β u → weight u e < n → weight u e < m → sums_formed n β o u e ≡ sums_formed m β o u e)
          → ◌≡◌ {A = List Sum} (elim x [ is u ↦ u ∷ [] | again k u e a ↦ sums_formed n β o u e ++ (add_sums (scale_sum k (apply_rules n β o u e)) a ∷ []) ])
          (elim x [ is u ↦ u ∷ [] | again k u e a ↦ sums_formed m β o u e ++ (add_sums (scale_sum k (apply_rules m β o u e)) a ∷ []) ])
      go (is u) g ih = refl
      go (again k u e a) g ih =
          let v' : weight u e < n = omega (arith, g.3) in
          let w' : weight u e < m = omega (arith, g.3) in
          ap₂ (λ (l : List Sum) (r : Sum). l ++ (add_sums (scale_sum k r) a ∷ [])) (ih u e g.0 g.1 v' w') (run-same β n m o u e g.0 g.1 v' w')

  -- the last sum formed is the outcome
  formed-last : (n : ℕ) (o : Op) (t : Sum) (c : ℕ) → small_sums β (sums_formed (suc n) β o t c) ≡ true → small_sum β (apply_rules (suc n) β o t c) ≡ true
  unfolding sums_formed apply_rules small_sums
  formed-last n o t c h =
      let tried = cond (eqb c 1) [] (rests_tried β t (divisors_tried c t)) in
      let r = and_right (small_sum β t) _ h in
      go (apply_rule β o t c) tried r
    where
      go : (x : Step) (l : List Sum)
          → small_sums β (l ++ elim x [ is u ↦ u ∷ [] | again k u e a ↦ sums_formed n β o u e ++ (add_sums (scale_sum k (apply_rules n β o u e)) a ∷ []) ]) ≡ true
          → small_sum β (elim x [ is u ↦ u | again k u e a ↦ add_sums (scale_sum k (apply_rules n β o u e)) a ]) ≡ true
      go (is u) l r = and_right (small_sums β l) (small_sum β u) (sym (small-last l u) ∙ r)
      go (again k u e a) l r =
          let s = and_right (small_sums β l) _ (sym (small-append l _) ∙ r) in
          and_right (small_sums β (sums_formed n β o u e)) _ (sym (small-last (sums_formed n β o u e) _) ∙ s)

  -- where folding a tree passes no limit, its folded sum keeps them
  pub working-small : (e : Expr) → small_working β e ≡ true → small_sum β (fold_sum β e) ≡ true
  unfolding small_working tree_sums fold_sum fuel_for small_sums
  working-small (Expr.var k n) h = sym (and-id _) ∙ h
  working-small (Expr.const z) h = sym (and-id _) ∙ h
  working-small (Expr.add a b) h =
      let s = and_right (small_sums β (tree_sums β a)) _ (sym (small-append (tree_sums β a) _) ∙ h) in
      and_right (small_sums β (tree_sums β b)) _ (sym (small-last (tree_sums β b) _) ∙ s)
  working-small (Expr.mul z a) h = and_right (small_sums β (tree_sums β a)) _ (sym (small-last (tree_sums β a) _) ∙ h)
  working-small (Expr.op o a c) h = formed-last _ o (fold_sum β a) c (and_right (small_sums β (tree_sums β a)) _ (sym (small-append (tree_sums β a) _) ∙ h))

  -- ---- a tree from its parts
  pub working-leaf : (l : Leaf) → small_sum β (fold_sum β (leaf_expr l)) ≡ small_working β (leaf_expr l)
  unfolding small_working tree_sums small_sums
  working-leaf (L.Dim n) = sym (and-id _)
  working-leaf (L.Range n) = sym (and-id _)
  working-leaf (L.Constant z) = sym (and-id _)

  pub working-mul : (z : ℤ) (a : Expr) → small_working β a ≡ true → small_sum β (scale_sum z (fold_sum β a)) ≡ small_working β (Expr.mul z a)
  unfolding small_working tree_sums fold_sum
  working-mul z a h = sym (small-last (tree_sums β a) (scale_sum z (fold_sum β a)) ∙ ap (λ (b : Bool). b && small_sum β (scale_sum z (fold_sum β a))) h)

  pub working-op : (fuel : ℕ) (o : Op) (a : Expr) (c : ℕ) → 0 < c → FoldedS β (fold_sum β a) → weight (fold_sum β a) c < fuel → small_working β a ≡ true
      → small_sums β (sums_formed fuel β o (fold_sum β a) c) ≡ small_working β (Expr.op o a c)
  unfolding small_working tree_sums
  working-op fuel o a c h p w s =
      let t = fold_sum β a in
      ap (small_sums β) (formed-same fuel (fuel_for t c) o t c h p w (weight-enough t c))
      ∙ sym (small-append (tree_sums β a) (sums_formed (fuel_for t c) β o t c) ∙ ap (λ (b : Bool). b && small_sums β (sums_formed (fuel_for t c) β o t c)) s)

  pub working-add : (a b : Expr) → small_working β a ≡ true → small_working β b ≡ true → small_sum β (add_sums (fold_sum β a) (fold_sum β b)) ≡ small_working β (Expr.add a b)
  unfolding small_working tree_sums fold_sum
  working-add a b h k =
      let t = add_sums (fold_sum β a) (fold_sum β b) in
      sym (small-append (tree_sums β a) (tree_sums β b ++ (t ∷ []))
      ∙ ap (λ (x : Bool). x && small_sums β (tree_sums β b ++ (t ∷ []))) h
      ∙ small-last (tree_sums β b) t
      ∙ ap (λ (x : Bool). x && small_sum β t) k)

  -- a part that passes a limit
  over-front : (xs ys : List Sum) → small_sums β xs ≡ false → small_sums β (xs ++ ys) ≡ false
  over-front xs ys h = small-append xs ys ∙ ap (λ (x : Bool). x && small_sums β ys) h

  pub over-one : (o : One) (a : Expr) → small_working β a ≡ false → small_working β (one_expr o a) ≡ false
  unfolding small_working tree_sums
  over-one (Product z) a h = over-front (tree_sums β a) _ h
  over-one (Floordiv c) a h = over-front (tree_sums β a) _ h
  over-one (Mod c) a h = over-front (tree_sums β a) _ h

  pub over_first : (a b : Expr) → small_working β a ≡ false → small_working β (Expr.add a b) ≡ false
  unfolding small_working tree_sums
  over_first a b h = over-front (tree_sums β a) _ h

  pub over-second : (a b : Expr) → small_working β b ≡ false → small_working β (Expr.add a b) ≡ false
  unfolding small_working tree_sums
  over-second a b h = small-append (tree_sums β a) _ ∙ and-false (small_sums β (tree_sums β a)) (over-front (tree_sums β b) _ h)
