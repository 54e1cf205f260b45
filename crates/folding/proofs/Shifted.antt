-- A variable and a constant, under a floordiv or mod: folding passes no limit where the numbers are at most 2^24. Assumes nothing.
use mathlib.Core.Path.{◌≡◌, refl, sym, ap, subst}
use mathlib.Core.Bool.{Bool, true, false, cond}
use mathlib.Core.List.{[], ◌∷◌}
use Prim.Native.Nat.{ℕ, zero, suc, ◌+◌, ◌*◌, ◌/◌, ◌^◌, ◌<◌, ◌≤◌}
use native.Mathlib.Omega.{arith}
use native.Mathlib.Nat as NatL
use lib.Dec.{eqb}
use lib.IntN.{ℤ, pos, neg_ℤ, nat_abs, ◌+ℤ◌, ◌*ℤ◌}
use Rattle.integer.specs.Exact.{limit}
use Rattle.integer.specs.Floor.{floor_div, floor_mod}
use Rattle.integer.specs.Gcd.{gcd_of}
use Rattle.integer.proofs.Signs.{abs_neg, abs-mul}
use Rattle.radix.proofs.Tests.{and-true}
use Rattle.expression.specs.Expression.{Kind, Op, floordiv, modulo, Expr, Range, eqℤ}
use Rattle.expression.proofs.Ring.{rem_lt, rem_is}
use Rattle.folding.specs.Sum.{Atom, Sum, sum_range}
use Rattle.folding.specs.Fold.{cons_term, insert_term, add_constant, add_sums, scale_sum, divides, part_p, part_r, Step, is, again, rule1, rule2, rule3, rule4, stays, one_quotient, quotient_of, keeps_all, common_divisors, divisors_tried, rules34, rules2, apply_rule, apply_rules, fuel_for, fold_sum}
use Rattle.folding.specs.Working.{small_sums, rests_tried, sums_formed, tree_sums, small_working}
use Rattle.folding.proofs.Atoms.{outcome}
use Rattle.folding.proofs.Divisors.{above-one}
use Rattle.folding.proofs.Ending.{floor-of-mod}
use Rattle.folding.proofs.Judged.{small-both, small_one, tried, last_sums}
use Rattle.folding.proofs.Magnitude.{abs-add, abs-floor, atom_magnitude, magnitude, sum-within, magnitude-small, magnitude-constant, magnitude-add, magnitude-scale, tree_magnitude}
use Rattle.folding.proofs.PlainTrees.{Plain, plain-small}

module _ (β : Kind → ℕ → Range) where
  -- ---- a constant, at divisor 1

  constant-run : (n : ℕ) (o : Op) (w : ℤ) → magnitude β (apply_rules n β o (Sum.const w) 1) ≤ nat_abs w + 2
  unfolding apply_rules apply_rule rule1 magnitude
  constant-run zero floordiv w = omega arith
  constant-run zero modulo w = omega arith
  constant-run (suc n) floordiv w = omega arith
  constant-run (suc n) modulo w = omega arith

  constant-small : (n : ℕ) (o : Op) (w : ℤ) → nat_abs w ≤ limit → small_sums β (sums_formed n β o (Sum.const w) 1) ≡ true
  unfolding sums_formed apply_rule rule1 small_sums magnitude
  constant-small zero o w l = refl
  constant-small (suc n) floordiv w l = let s = magnitude-small β (Sum.const w) l in and-true s (and-true s refl)
  constant-small (suc n) modulo w l = and-true (magnitude-small β (Sum.const w) l) (and-true (magnitude-small β (Sum.const (pos 0)) (omega arith)) refl)

  module _ (kind : Kind) (index : ℕ) where
    abbrev v : Atom
    v = Atom.var kind index

    -- the variable and a constant
    abbrev shifted : ℤ → Sum
    shifted z = Sum.term (pos 1) v (Sum.const z)

    -- ---- its parts

    module _ (c : ℕ) (h : 1 < c) (z : ℤ) where
      not-divided : divides c (pos 1) ≡ false
      unfolding divides eqℤ
      not-divided = ap (λ (n : ℕ). eqb n 0) (NatL.mod-eq_of_lt h)

      shifted-part : part_p c (shifted z) ≡ Sum.const (floor_div z c)
      unfolding part_p
      shifted-part = ap (λ (b : Bool). cond b (Sum.term (floor_div (pos 1) c) v (Sum.const (floor_div z c))) (Sum.const (floor_div z c))) not-divided

      shifted-rest : part_r c (shifted z) ≡ shifted (floor_mod z c)
      unfolding part_r
      shifted-rest = ap (λ (b : Bool). cond b (Sum.const (floor_mod z c)) (shifted (floor_mod z c))) not-divided

    rest-abs : (z : ℤ) (c : ℕ) → 0 < c → nat_abs (floor_mod z c) < c
    rest-abs z c h = omega (arith, rem_lt z c h, ap nat_abs (rem_is z c))

    -- ---- one rule

    -- what a rule leaves: a sum, a constant at divisor 1, or the variable and the constant's rest
    data Leaves (z : ℤ) (c : ℕ) : Step → Type 0 where
      sum : (u : Sum) → magnitude β u ≤ 2 ^ 52 → Leaves z c (is u)
      constant : (k w : ℤ) (a : Sum) → nat_abs k ≤ 2 ^ 24 → nat_abs w ≤ 2 ^ 26 → magnitude β a ≤ 2 ^ 51 → Leaves z c (again k (Sum.const w) 1 a)
      rest : (a : Sum) → magnitude β a ≤ nat_abs (floor_div z c) → Leaves z c (again (pos 1) (shifted (floor_mod z c)) c a)

    module _ (small : atom_magnitude β v ≤ 2 ^ 24) (o : Op) (c : ℕ) (most : c ≤ 2 ^ 24) (z : ℤ) (few : nat_abs z ≤ 2 ^ 24) where
      abbrev t : Sum
      t = shifted z

      stays-leaves : (p : Op) → Leaves z c (stays p t c)
      unfolding stays magnitude
      stays-leaves floordiv = sum (Sum.term (pos 1) (Atom.op floordiv t c) (Sum.const (pos 0))) (omega arith)
      stays-leaves modulo = sum (Sum.term (pos 1) (Atom.op modulo t c) (Sum.const (pos 0))) (omega arith)

      rule1-leaves : (p : Op) → Leaves z c (rule1 p t)
      unfolding rule1 magnitude
      rule1-leaves floordiv = sum t (omega arith)
      rule1-leaves modulo = sum (Sum.const (pos 0)) (omega arith)

      rest-magnitude : 0 < c → magnitude β (shifted (floor_mod z c)) ≤ 2 ^ 25
      unfolding magnitude
      rest-magnitude h = omega (arith, rest-abs z c h)

      quotient-size : 1 < c → nat_abs (quotient_of β c (part_r c t)) ≤ 2 ^ 25
      unfolding quotient_of
      quotient-size h =
          let r = part_r c t in
          omega (
            arith,
            abs-floor (sum_range r β).lo c,
            (sum-within β r).low,
            ap (magnitude β) (shifted-rest c h z),
            rest-magnitude (omega arith),
          )

      rule2-leaves : (p : Op) → 1 < c → (q : ℤ) → nat_abs q ≤ 2 ^ 25 → Leaves z c (rule2 p t c c q)
      unfolding rule2 add_constant magnitude
      rule2-leaves floordiv h q l =
          let w = floor_div z c in
          subst (λ (p : Sum). Leaves z c (again (pos 1) (add_constant q p) (c / c) (Sum.const (pos 0)))) (sym (shifted-part c h z))
          (subst (λ (e : ℕ). Leaves z c (again (pos 1) (Sum.const (q +ℤ w)) e (Sum.const (pos 0)))) (sym (NatL.div_self {n = c} (omega arith)))
          (constant (pos 1) (q +ℤ w) (Sum.const (pos 0)) (omega arith) (omega (arith, abs-add q w, abs-floor z c)) (omega arith)))
      rule2-leaves modulo h q l =
          let w = floor_div z c in
          let x = neg_ℤ (q *ℤ pos c) in
          let a = add_constant x (part_r c t) in
          let b : nat_abs q * c ≤ 2 ^ 25 * 2 ^ 24 = NatL.mul-le-mul l most in
          subst (λ (p : Sum). Leaves z c (again (pos c) (add_constant q p) (c / c) a)) (sym (shifted-part c h z))
          (subst (λ (e : ℕ). Leaves z c (again (pos c) (Sum.const (q +ℤ w)) e a)) (sym (NatL.div_self {n = c} (omega arith)))
          (constant (pos c) (q +ℤ w) a most (omega (arith, abs-add q w, abs-floor z c))
          (omega (
            arith,
            magnitude-constant β x (part_r c t),
            ap (magnitude β) (shifted-rest c h z),
            rest-magnitude (omega arith),
            abs_neg (q *ℤ pos c),
            abs-mul q (pos c),
          ))))

      rule3-leaves : (p : Op) → 1 < c → Leaves z c (rule3 p t c)
      unfolding rule3 magnitude
      rule3-leaves floordiv h =
          subst (λ (r : Sum). Leaves z c (again (pos 1) r c (part_p c t))) (sym (shifted-rest c h z))
          (rest (part_p c t) (omega (arith, ap (magnitude β) (shifted-part c h z))))
      rule3-leaves modulo h = subst (λ (r : Sum). Leaves z c (again (pos 1) r c (Sum.const (pos 0)))) (sym (shifted-rest c h z)) (rest (Sum.const (pos 0)) (omega arith))

      rule4-leaves : (p : Op) → Leaves z c (rule4 p t c)
      unfolding rule4
      rule4-leaves floordiv = stays-leaves floordiv
      rule4-leaves modulo = stays-leaves modulo

      rules34-leaves : 1 < c → Leaves z c (rules34 o t c)
      unfolding rules34
      rules34-leaves h = go (keeps_all c t)
        where
          go : (b : Bool) → Leaves z c (cond b (rule4 o t c) (rule3 o t c))
          go true = rule4-leaves o
          go false = rule3-leaves o h

      leaves : 0 < c → Leaves z c (apply_rule β o t c)
      unfolding apply_rule rules2 divisors_tried common_divisors gcd_of
      leaves l = go (eqb c 1) refl
        where
          go : (b : Bool) → eqb c 1 ≡ b → Leaves z c (cond b (rule1 o t) (rules2 β o t c (c ∷ [])))
          go true e = rule1-leaves o
          go false e = let h = above-one c l e in next h (one_quotient β c (part_r c t))
            where
              next : 1 < c → (b : Bool) → Leaves z c (cond b (rule2 o t c c (quotient_of β c (part_r c t))) (rules34 o t c))
              next h true = rule2-leaves o h (quotient_of β c (part_r c t)) (quotient-size h)
              next h false = rules34-leaves h

      tried-small : 0 < c → small_sums β (tried β t c) ≡ true
      unfolding small_sums rests_tried divisors_tried common_divisors gcd_of
      tried-small l = go (eqb c 1) refl
        where
          go : (b : Bool) → eqb c 1 ≡ b → small_sums β (cond b [] (rests_tried β t (c ∷ []))) ≡ true
          go true e = refl
          go false e =
              let h = above-one c l e in
              and-true (magnitude-small β (part_r c t) (omega (arith, ap (magnitude β) (shifted-rest c h z), rest-magnitude l))) (next (one_quotient β c (part_r c t)))
            where
              next : (b : Bool) → small_sums β (elim b [ true ↦ [] | false ↦ [] ]) ≡ true
              next true = refl
              next false = refl

    -- ---- all the rules

    module _ (small : atom_magnitude β v ≤ 2 ^ 24) where
      record Ran (n : ℕ) (o : Op) (z : ℤ) (c : ℕ) : Type 0 where
        size : magnitude β (apply_rules n β o (shifted z) c) ≤ 2 ^ 52 + nat_abs (floor_div z c)
        sums : small_sums β (sums_formed n β o (shifted z) c) ≡ true

      shifted-run : (n : ℕ) (o : Op) (z : ℤ) (c : ℕ) → 0 < c → c ≤ 2 ^ 24 → nat_abs z ≤ 2 ^ 24 → Ran n o z c
      unfolding apply_rules sums_formed small_sums magnitude
      shifted-run zero floordiv z c l m f = record { size = omega arith; sums = refl }
      shifted-run zero modulo z c l m f = record { size = omega arith; sums = refl }
      shifted-run (suc n) o z c l m f =
          let r = go (leaves small o c m z f l) (shifted-run n o (floor_mod z c) c l m (omega (arith, rest-abs z c l))) in
          record {
            size = r.0;
            sums =
                and-true (magnitude-small β (shifted z) (omega arith))
                (small-both β (tried β (shifted z) c) (last_sums β n o (apply_rule β o (shifted z) c)) (tried-small small o c m z f l) r.1);
          }
        where
          go : {x : Step} → Leaves z c x → Ran n o (floor_mod z c) c
              → (magnitude β (outcome (λ u e. apply_rules n β o u e) x) ≤ 2 ^ 52 + nat_abs (floor_div z c))
              × (small_sums β (last_sums β n o x) ≡ true)
          go (sum u h) ih = (omega arith, small_one β u (magnitude-small β u (omega arith)))
          go (constant k w a hk hw ha) ih =
              let x = apply_rules n β o (Sum.const w) 1 in
              let y : magnitude β x ≤ 2 ^ 27 = omega (arith, constant-run n o w) in
              let b = add_sums (scale_sum k x) a in
              let s : magnitude β b ≤ 2 ^ 52 = omega (arith, magnitude-add β (scale_sum k x) a, magnitude-scale β k x, NatL.mul-le-mul hk y) in
              (omega arith, small-both β (sums_formed n β o (Sum.const w) 1) (b ∷ []) (constant-small n o w (omega arith)) (small_one β b (magnitude-small β b (omega arith))))
          go (rest a h) ih =
              let x = apply_rules n β o (shifted (floor_mod z c)) c in
              let b = add_sums (scale_sum (pos 1) x) a in
              let s : magnitude β b ≤ 2 ^ 52 + nat_abs (floor_div z c) =
              omega (arith, magnitude-add β (scale_sum (pos 1) x) a, magnitude-scale β (pos 1) x, ih.size, ap nat_abs (floor-of-mod z c l)) in
              (s, small-both β (sums_formed n β o (shifted (floor_mod z c)) c) (b ∷ []) ih.sums (small_one β b (magnitude-small β b (omega (arith, abs-floor z c)))))

      -- folding (variable + constant) floordiv or mod c passes no limit
      pub shifted-small : (o : Op) (z : ℤ) (c : ℕ) → 0 < c → c ≤ 2 ^ 24 → nat_abs z ≤ 2 ^ 24
          → small_working β (Expr.op o (Expr.add (Expr.var kind index) (Expr.const z)) c) ≡ true
      unfolding small_working tree_sums fold_sum add_sums insert_term add_constant cons_term Plain tree_magnitude
      shifted-small o z c l m f =
          let e = Expr.add (Expr.var kind index) (Expr.const z) in
          small-both β (tree_sums β e) _ (plain-small β e (tt, tt) (omega arith))
          (shifted-run (fuel_for (shifted (pos 0 +ℤ z)) c) o (pos 0 +ℤ z) c l m (omega (arith, abs-add (pos 0) z))).sums
