-- Folding reads the bounds of the variables that occur, and no others. Assumes nothing.
use mathlib.Core.Path.{◌≡◌, refl, sym, ap, ap₂, ◌∙◌}
use mathlib.Core.Bool.{Bool, true, false, cond, ◌&&◌}
use mathlib.Core.List.{List, [], ◌∷◌, ◌++◌}
use Prim.Native.Nat.{ℕ, zero, suc}
use lib.Dec.{eqb}
use lib.IntN.{pos}
use Rattle.integer.specs.Floor.{floor_div}
use Rattle.expression.specs.Expression.{Kind, Op, Expr, Range, span, eqℤ, add_range, mul_range, op_range, is_small, small_range}
use Rattle.expression.proofs.Within.{Proper}
use Rattle.folding.specs.Sum.{Atom, Sum, atom_range, sum_range}
use Rattle.folding.specs.Fold.{Step, is, again, add_sums, scale_sum, part_r, one_quotient, quotient_of, rule1, rule2, rules2, divisors_tried, apply_rule, apply_rules, fuel_for, fold_sum, sum_tree}
use Rattle.folding.specs.Working.{small_from, small_sum, small_sums, rests_tried, sums_formed, tree_sums, small_working}
use Rattle.folding.specs.Map.{Constraint, constraint_trees, fold_tree, fold_results, is_inside, fold_constraints, small_trees}
use Rattle.folding.proofs.Atoms.{outcome, EveryA, EveryS, EveryStep, Anything, every-add, every-scale, every-part_r, every-step, every-run, any-starts, variables-fold}
use Rattle.folding.proofs.Judged.{tried, last_sums}
use Rattle.folding.proofs.Map.{AllTrees}

step-variables : (AtVar : Kind → ℕ → Type 0) (β : Kind → ℕ → Range) (o : Op) (t : Sum) (c : ℕ) → EveryS AtVar Anything t → EveryStep AtVar Anything c (apply_rule β o t c)
unfolding EveryS
step-variables AtVar β o t c h = every-step AtVar Anything β o t c (tt, h)

small-append : (β : Kind → ℕ → Range) (xs ys : List Sum) → small_sums β (xs ++ ys) ≡ (small_sums β xs && small_sums β ys)
unfolding small_sums
small-append β [] ys = refl
small-append β (x ∷ xs) ys = go (small_sum β x) (small-append β xs ys)
  where
    go : (b : Bool) → small_sums β (xs ++ ys) ≡ (small_sums β xs && small_sums β ys)
        → (b && small_sums β (xs ++ ys)) ≡ ((b && small_sums β xs) && small_sums β ys)
    go true e = e
    go false e = refl

-- ---- two pairs of bounds that are the same at every variable below the counts

module _ (dims ranges : ℕ) (β γ : Kind → ℕ → Range) (same : (k : Kind) (n : ℕ) → Proper dims ranges (Expr.var k n) → β k n ≡ γ k n) where
  abbrev SameBound : Kind → ℕ → Type 0
  SameBound k n = β k n ≡ γ k n

  abbrev Same : Sum → Type 0
  Same = EveryS SameBound Anything

  -- ---- ranges
  mutual
    unfolding atom_range EveryA

    atom-range-same : (a : Atom) → EveryA SameBound Anything a → atom_range a β ≡ atom_range a γ
    atom-range-same (Atom.var k n) h = h
    atom-range-same (Atom.op o t c) h = ap (λ (r : Range). op_range o r c) (sum-range-same t h.1)

    sum-range-same : (t : Sum) → Same t → sum_range t β ≡ sum_range t γ
    sum-range-same (Sum.const k) h = refl
    sum-range-same (Sum.term c a t) h = ap₂ (λ (r q : Range). add_range (mul_range c r) q) (atom-range-same a h.0) (sum-range-same t h.1)

  rest-range-same : (g : ℕ) (t : Sum) → Same t → sum_range (part_r g t) β ≡ sum_range (part_r g t) γ
  rest-range-same g t h = sum-range-same (part_r g t) (every-part_r SameBound Anything g t h)

  -- ---- the rules

  rules2-same : (o : Op) (t : Sum) (c : ℕ) (gs : List ℕ) → Same t → rules2 β o t c gs ≡ rules2 γ o t c gs
  unfolding rules2 one_quotient quotient_of
  rules2-same o t c [] h = refl
  rules2-same o t c (g ∷ gs) h =
      ap₂ (λ (r : Range) (x : Step). cond (eqℤ (floor_div r.lo g) (floor_div r.hi g)) (rule2 o t c g (floor_div r.lo g)) x)
      (rest-range-same g t h) (rules2-same o t c gs h)

  rule-same : (o : Op) (t : Sum) (c : ℕ) → Same t → apply_rule β o t c ≡ apply_rule γ o t c
  unfolding apply_rule
  rule-same o t c h = ap (λ (x : Step). cond (eqb c 1) (rule1 o t) x) (rules2-same o t c (divisors_tried c t) h)

  rules-same : (n : ℕ) (o : Op) (t : Sum) (c : ℕ) → Same t → apply_rules n β o t c ≡ apply_rules n γ o t c
  unfolding apply_rules EveryStep
  rules-same zero o t c h = refl
  rules-same (suc n) o t c h =
      ap (outcome (λ u e. apply_rules n β o u e)) (rule-same o t c h)
      ∙ go (apply_rule γ o t c) (step-variables SameBound γ o t c h) (λ u e x. rules-same n o u e x)
    where
      go : (x : Step) → EveryStep SameBound Anything c x → ((u : Sum) (e : ℕ) → Same u → apply_rules n β o u e ≡ apply_rules n γ o u e)
          → outcome (λ u e. apply_rules n β o u e) x ≡ outcome (λ u e. apply_rules n γ o u e) x
      go (is u) w ih = refl
      go (again k u e a) w ih = ap (λ (v : Sum). add_sums (scale_sum k v) a) (ih u e w.0)

  -- the variables of a folded sum
  fold-variables : (e : Expr) → Proper dims ranges e → Same (fold_sum γ e)
  fold-variables e h = variables-fold SameBound γ dims ranges same e h

  pub fold_same : (e : Expr) → Proper dims ranges e → fold_sum β e ≡ fold_sum γ e
  unfolding fold_sum Proper
  fold_same (Expr.var k n) h = refl
  fold_same (Expr.const z) h = refl
  fold_same (Expr.add a b) h = ap₂ add_sums (fold_same a h.0) (fold_same b h.1)
  fold_same (Expr.mul z a) h = ap (scale_sum z) (fold_same a h)
  fold_same (Expr.op o a c) h =
      ap (λ (t : Sum). apply_rules (fuel_for t c) β o t c) (fold_same a h.1)
      ∙ rules-same (fuel_for (fold_sum γ a) c) o (fold_sum γ a) c (fold-variables a h.1)

  pub results_same : (es : List Expr) → AllTrees (Proper dims ranges) es → fold_results β es ≡ fold_results γ es
  unfolding AllTrees fold_tree
  results_same [] h = refl
  results_same (e ∷ es) h = ap₂ (λ (x : Expr) (l : List Expr). x ∷ l) (ap sum_tree (fold_same e h.0)) (results_same es h.1)

  pub constraints-same : (xs : List Constraint) → AllTrees (Proper dims ranges) (constraint_trees xs) → fold_constraints β xs ≡ fold_constraints γ xs
  unfolding AllTrees fold_constraints fold_tree
  constraints-same [] h = refl
  constraints-same (x ∷ xs) h =
      ap₂ (λ (t : Sum) (l : List Constraint). with (sum_range t β) t l) (fold_same x.expr h.0) (constraints-same xs h.1)
      ∙ ap (λ (r : Range). with r (fold_sum γ x.expr) (fold_constraints γ xs)) (sum-range-same (fold_sum γ x.expr) (fold-variables x.expr h.0))
    where
      -- the constraints whose first has the folded sum t of range r
      with : Range → Sum → List Constraint → List Constraint
      with r t l = cond (is_inside r x.interval) l (record { expr = sum_tree t; interval = x.interval } ∷ l)

  -- ---- the limits

  from-same : (r : Range) (t : Sum) → Same t → small_from β r t ≡ small_from γ r t
  unfolding small_from EveryS
  from-same r (Sum.const k) h = refl
  from-same r (Sum.term c a t) h =
      let p = mul_range c (atom_range a γ) in
      ap (λ (q : Range). let p = mul_range c q in is_small c && small_range p && small_range (add_range r p) && small_from β (add_range r p) t) (atom-range-same a h.0)
      ∙ ap (λ (b : Bool). is_small c && small_range p && small_range (add_range r p) && b) (from-same (add_range r p) t h.1)

  sum_same : (t : Sum) → Same t → small_sum β t ≡ small_sum γ t
  unfolding small_sum
  sum_same t h = from-same (span (pos 0) (pos 0)) t h

  one_same : (t u : Sum) → t ≡ u → Same u → small_sums β (t ∷ []) ≡ small_sums γ (u ∷ [])
  unfolding small_sums
  one_same t u e h = ap (λ (x : Sum). small_sum β x && true) e ∙ ap (λ (b : Bool). b && true) (sum_same u h)

  both-same : (xs ys us vs : List Sum) → small_sums β xs ≡ small_sums γ us → small_sums β ys ≡ small_sums γ vs → small_sums β (xs ++ ys) ≡ small_sums γ (us ++ vs)
  both-same xs ys us vs e f = small-append β xs ys ∙ ap₂ (λ (a b : Bool). a && b) e f ∙ sym (small-append γ us vs)

  -- each R tried, up to the one that fits
  abbrev up_to : Bool → List Sum → List Sum
  up_to b l = elim b [ true ↦ [] | false ↦ l ]

  rests-same : (t : Sum) (gs : List ℕ) → Same t → small_sums β (rests_tried β t gs) ≡ small_sums γ (rests_tried γ t gs)
  unfolding rests_tried small_sums one_quotient
  rests-same t [] h = refl
  rests-same t (g ∷ gs) h =
      ap₂ (λ (a b : Bool). a && b) (sum_same (part_r g t) (every-part_r SameBound Anything g t h))
      (ap (λ (r : Range). small_sums β (up_to (eqℤ (floor_div r.lo g) (floor_div r.hi g)) (rests_tried β t gs))) (rest-range-same g t h)
      ∙ go (one_quotient γ g (part_r g t)) (rests-same t gs h))
    where
      go : (b : Bool) → small_sums β (rests_tried β t gs) ≡ small_sums γ (rests_tried γ t gs)
          → small_sums β (up_to b (rests_tried β t gs)) ≡ small_sums γ (up_to b (rests_tried γ t gs))
      go true ih = refl
      go false ih = ih

  tried_same : (t : Sum) (c : ℕ) → Same t → small_sums β (tried β t c) ≡ small_sums γ (tried γ t c)
  unfolding small_sums
  tried_same t c h = go (eqb c 1)
    where
      go : (b : Bool) → small_sums β (cond b [] (rests_tried β t (divisors_tried c t))) ≡ small_sums γ (cond b [] (rests_tried γ t (divisors_tried c t)))
      go true = refl
      go false = rests-same t (divisors_tried c t) h

  formed-same : (n : ℕ) (o : Op) (t : Sum) (c : ℕ) → Same t → small_sums β (sums_formed n β o t c) ≡ small_sums γ (sums_formed n γ o t c)
  unfolding sums_formed small_sums EveryStep
  formed-same zero o t c h = refl
  formed-same (suc n) o t c h =
      ap₂ (λ (a b : Bool). a && b) (sum_same t h)
      (both-same (tried β t c) (last_sums β n o (apply_rule β o t c)) (tried γ t c) (last_sums γ n o (apply_rule γ o t c)) (tried_same t c h)
      (ap (λ (x : Step). small_sums β (last_sums β n o x)) (rule-same o t c h)
      ∙ go (apply_rule γ o t c) (step-variables SameBound γ o t c h) (λ u e x. formed-same n o u e x)))
    where
      go : (x : Step) → EveryStep SameBound Anything c x
          → ((u : Sum) (e : ℕ) → Same u → small_sums β (sums_formed n β o u e) ≡ small_sums γ (sums_formed n γ o u e))
          → small_sums β (last_sums β n o x) ≡ small_sums γ (last_sums γ n o x)
      go (is u) w ih = one_same u u refl w
      go (again k u e a) w ih =
          let v = apply_rules n γ o u e in
          both-same (sums_formed n β o u e) _ (sums_formed n γ o u e) _ (ih u e w.0)
          (one_same (add_sums (scale_sum k (apply_rules n β o u e)) a) (add_sums (scale_sum k v) a)
          (ap (λ (v : Sum). add_sums (scale_sum k v) a) (rules-same n o u e w.0))
          (every-add SameBound Anything (scale_sum k v) a
          (every-scale SameBound Anything k v (every-run SameBound Anything γ n o u e (any-starts SameBound γ n o u e) w.0)) w.1))

  last-same : (e : Expr) → Proper dims ranges e → small_sums β (fold_sum β e ∷ []) ≡ small_sums γ (fold_sum γ e ∷ [])
  last-same e h = one_same (fold_sum β e) (fold_sum γ e) (fold_same e h) (fold-variables e h)

  formed-all-same : (e : Expr) → Proper dims ranges e → small_sums β (tree_sums β e) ≡ small_sums γ (tree_sums γ e)
  unfolding tree_sums Proper
  formed-all-same (Expr.var k n) h = last-same (Expr.var k n) h
  formed-all-same (Expr.const z) h = last-same (Expr.const z) h
  formed-all-same (Expr.add a b) h =
      both-same (tree_sums β a) _ (tree_sums γ a) _ (formed-all-same a h.0)
      (both-same (tree_sums β b) _ (tree_sums γ b) _ (formed-all-same b h.1) (last-same (Expr.add a b) h))
  formed-all-same (Expr.mul z a) h = both-same (tree_sums β a) _ (tree_sums γ a) _ (formed-all-same a h) (last-same (Expr.mul z a) h)
  formed-all-same (Expr.op o a c) h =
      both-same (tree_sums β a) _ (tree_sums γ a) _ (formed-all-same a h.1)
      (ap (λ (t : Sum). small_sums β (sums_formed (fuel_for t c) β o t c)) (fold_same a h.1)
      ∙ formed-same (fuel_for (fold_sum γ a) c) o (fold_sum γ a) c (fold-variables a h.1))

  pub small-trees-same : (es : List Expr) → AllTrees (Proper dims ranges) es → small_trees β es ≡ small_trees γ es
  unfolding AllTrees small_trees small_working
  small-trees-same [] h = refl
  small-trees-same (e ∷ es) h = ap₂ (λ (a b : Bool). a && b) (formed-all-same e h.0) (small-trees-same es h.1)
