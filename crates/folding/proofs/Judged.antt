-- Where folding passed no limit, the sums that stand in the atoms of the folded sum keep the limits. Assumes nothing.
use mathlib.Core.Path.{◌≡◌, refl}
use mathlib.Core.Bool.{true, cond, ◌&&◌}
use mathlib.Core.List.{List, [], ◌∷◌, ◌++◌}
use Prim.Native.Nat.{ℕ, zero, suc, ◌<◌, ◌≤◌}
use native.Mathlib.Omega.{arith}
use native.Mathlib.Nat as NatL
use borrow.Author.Tests.{leb-true, ltb-true}
use lib.Dec.{eqb, leb, ltb}
use Rattle.radix.proofs.Tests.{and-true, and_left, and_right}
use Rattle.expression.specs.Expression.{Kind, Op, Expr, Range, every_node}
use Rattle.expression.specs.Node.{max_divisor}
use Rattle.folding.specs.Sum.{Atom, Sum}
use Rattle.folding.specs.Fold.{Step, is, again, add_sums, scale_sum, divisors_tried, apply_rule, apply_rules, fuel_for, fold_sum}
use Rattle.folding.specs.Folded.{FoldedS, weight}
use Rattle.folding.specs.Working.{small_sum, small_sums, rests_tried, sums_formed, tree_sums, small_working}
use Rattle.folding.specs.Map.{good_numbers}
use Rattle.folding.proofs.Numbers.{positive-numbers}
use Rattle.folding.proofs.Ending.{Good, step-good, weight-enough, fold-folded}
use Rattle.folding.proofs.Atoms.{outcome, EveryA, EveryS, EveryStep, EveryE, Next, Starts, every-step, every-fold}

-- of variables nothing is asked
abbrev pub AnyVariable : Kind → ℕ → Type 0
AnyVariable k n = Unit {0}

module _ (β : Kind → ℕ → Range) where
  -- ---- lists of sums

  pub small-left : (xs ys : List Sum) → small_sums β (xs ++ ys) ≡ true → small_sums β xs ≡ true
  unfolding small_sums
  small-left [] ys h = refl
  small-left (x ∷ xs) ys h =
      let r = small_sums β (xs ++ ys) in
      and-true (and_left (small_sum β x) r h) (small-left xs ys (and_right (small_sum β x) r h))

  pub small-right : (xs ys : List Sum) → small_sums β (xs ++ ys) ≡ true → small_sums β ys ≡ true
  unfolding small_sums
  small-right [] ys h = h
  small-right (x ∷ xs) ys h = small-right xs ys (and_right (small_sum β x) (small_sums β (xs ++ ys)) h)

  pub small-both : (xs ys : List Sum) → small_sums β xs ≡ true → small_sums β ys ≡ true → small_sums β (xs ++ ys) ≡ true
  unfolding small_sums
  small-both [] ys h k = k
  small-both (x ∷ xs) ys h k =
      let r = small_sums β xs in
      and-true (and_left (small_sum β x) r h) (small-both xs ys (and_right (small_sum β x) r h) k)

  pub small_one : (x : Sum) → small_sum β x ≡ true → small_sums β (x ∷ []) ≡ true
  unfolding small_sums
  small_one x h = and-true h refl

  pub small-last : (xs : List Sum) (x : Sum) → small_sums β (xs ++ (x ∷ [])) ≡ true → small_sum β x ≡ true
  unfolding small_sums
  small-last xs x h = and_left (small_sum β x) true (small-right xs (x ∷ []) h)

  -- ---- the sums in the atoms

  -- each R tried, and the sums formed after a rule
  abbrev pub tried : Sum → ℕ → List Sum
  tried t c = cond (eqb c 1) [] (rests_tried β t (divisors_tried c t))

  abbrev pub last_sums : ℕ → Op → Step → List Sum
  last_sums n o x = elim x [ is u ↦ u ∷ [] | again k u e a ↦ sums_formed n β o u e ++ (add_sums (scale_sum k (apply_rules n β o u e)) a ∷ []) ]

  -- at a floordiv or mod: its divisor is at most 2^40, and its sum and each R tried keep the limits
  unfoldable pub Judged : Op → Sum → ℕ → Type 0
  Judged o t c = (c ≤ max_divisor) × (small_sum β t ≡ true) × (small_sums β (tried t c) ≡ true)

  pub judged-sum : (o : Op) (t : Sum) (c : ℕ) → Judged o t c → small_sum β t ≡ true
  unfolding Judged
  judged-sum o t c h = h.1

  abbrev pub JudgedA : Atom → Type 0
  JudgedA = EveryA AnyVariable Judged

  abbrev pub JudgedS : Sum → Type 0
  JudgedS = EveryS AnyVariable Judged

  run-starts : (n : ℕ) (o : Op) (t : Sum) (c : ℕ) → 0 < c → c ≤ max_divisor → FoldedS β t → JudgedS t → weight t c < n
      → small_sums β (sums_formed n β o t c) ≡ true → Starts AnyVariable Judged β n o t c
  unfolding sums_formed small_sums Starts Next EveryA EveryStep Judged Good
  run-starts zero o t c h l f j w k = absurd (NatL.not-suc-le-zero w)
  run-starts (suc n) o t c h l f j w k =
      let rest = last_sums n o (apply_rule β o t c) in
      let k0 = and_left (small_sum β t) (small_sums β (tried t c ++ rest)) k in
      let k1 = and_right (small_sum β t) (small_sums β (tried t c ++ rest)) k in
      let i : Judged o t c = (l, k0, small-left (tried t c) rest k1) in
      let s = every-step AnyVariable Judged β o t c (i, j) in
      (i, go (apply_rule β o t c) (step-good β o t c h f) s (small-right (tried t c) rest k1) (λ u e x y z v q b. run-starts n o u e x y z v q b))
    where
      go : (x : Step) → Good β t c x → EveryStep AnyVariable Judged c x → small_sums β (last_sums n o x) ≡ true
          → ((u : Sum) (e : ℕ) → 0 < e → e ≤ max_divisor → FoldedS β u → JudgedS u → weight u e < n
          → small_sums β (sums_formed n β o u e) ≡ true → Starts AnyVariable Judged β n o u e)
          → Next (λ u e. Starts AnyVariable Judged β n o u e) x
      go (is u) g s q ih = tt
      go (again k u e a) g s q ih =
          let last = add_sums (scale_sum k (apply_rules n β o u e)) a in
          ih u e g.0 (s.2 l) g.1 s.0 (omega (arith, g.3)) (small-left (sums_formed n β o u e) (last ∷ []) q)

  tree-judged : (e : Expr) → good_numbers e ≡ true → small_sums β (tree_sums β e) ≡ true → EveryE AnyVariable Judged β e
  unfolding tree_sums EveryE good_numbers every_node
  tree-judged (Expr.var k n) p h = tt
  tree-judged (Expr.const z) p h = tt
  tree-judged (Expr.add a b) p h =
      let w = and_left (good_numbers a && good_numbers b) true p in
      let last = fold_sum β (Expr.add a b) ∷ [] in
      let rest = tree_sums β b ++ last in (
        tree-judged a (and_left (good_numbers a) (good_numbers b) w) (small-left (tree_sums β a) rest h),
        tree-judged b (and_right (good_numbers a) (good_numbers b) w) (small-left (tree_sums β b) last (small-right (tree_sums β a) rest h)),
      )
  tree-judged (Expr.mul z a) p h = tree-judged a (and_left (good_numbers a) _ p) (small-left (tree_sums β a) (fold_sum β (Expr.mul z a) ∷ []) h)
  tree-judged (Expr.op o a c) p h =
      let t = fold_sum β a in
      let f = sums_formed (fuel_for t c) β o t c in
      let pa = and_left (good_numbers a) _ p in
      let pc = and_right (good_numbers a) _ p in
      let above = ltb-true 0 c (and_left (ltb 0 c) (leb c max_divisor) pc) in
      let most = leb-true c max_divisor (and_right (ltb 0 c) (leb c max_divisor) pc) in
      let j = tree-judged a pa (small-left (tree_sums β a) f h) in
      let folded = fold-folded β a (positive-numbers a pa) in
      (run-starts (fuel_for t c) o t c above most folded (every-fold AnyVariable Judged β a j) (weight-enough t c) (small-right (tree_sums β a) f h), j)

  pub fold-judged : (e : Expr) → good_numbers e ≡ true → small_working β e ≡ true → JudgedS (fold_sum β e)
  unfolding small_working
  fold-judged e p h = every-fold AnyVariable Judged β e (tree-judged e p h)

  -- ---- the outcome is among the sums formed

  run_small : (n : ℕ) (o : Op) (t : Sum) (c : ℕ) → weight t c < n → small_sums β (sums_formed n β o t c) ≡ true
      → small_sum β (apply_rules n β o t c) ≡ true
  unfolding apply_rules sums_formed small_sums
  run_small zero o t c w k = absurd (NatL.not-suc-le-zero w)
  run_small (suc n) o t c w k =
      let rest = last_sums n o (apply_rule β o t c) in
      go (apply_rule β o t c) (small-right (tried t c) rest (and_right (small_sum β t) (small_sums β (tried t c ++ rest)) k))
    where
      go : (x : Step) → small_sums β (last_sums n o x) ≡ true → small_sum β (outcome (λ u e. apply_rules n β o u e) x) ≡ true
      go (is u) q = small-last [] u q
      go (again k u e a) q = small-last (sums_formed n β o u e) (add_sums (scale_sum k (apply_rules n β o u e)) a) q

  pub fold_small : (e : Expr) → small_working β e ≡ true → small_sum β (fold_sum β e) ≡ true
  unfolding small_working fold_sum tree_sums
  fold_small (Expr.var k n) h = small-last [] (fold_sum β (Expr.var k n)) h
  fold_small (Expr.const z) h = small-last [] (fold_sum β (Expr.const z)) h
  fold_small (Expr.add a b) h =
      let t = fold_sum β (Expr.add a b) in
      small-last (tree_sums β b) t (small-right (tree_sums β a) (tree_sums β b ++ (t ∷ [])) h)
  fold_small (Expr.mul z a) h = small-last (tree_sums β a) (fold_sum β (Expr.mul z a)) h
  fold_small (Expr.op o a c) h =
      let s = fold_sum β a in
      run_small (fuel_for s c) o s c (weight-enough s c) (small-right (tree_sums β a) (sums_formed (fuel_for s c) β o s c) h)
