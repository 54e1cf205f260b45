-- Where no rule fits: nothing leaves, and the range does not lie in one multiple of the divisor. Assumes nothing.
use mathlib.Core.Path.{◌≡◌, refl, ap}
use mathlib.Core.Bool.{Bool, true, false, cond}
use mathlib.Core.List.{List, [], ◌∷◌}
use Prim.Native.Nat.{ℕ, suc}
use native.Mathlib.Omega.{arith}
use lib.Dec.{eqb}
use lib.IntN.{ℤ}
use Rattle.expression.specs.Expression.{Kind, Op, floordiv, modulo, Range}
use Rattle.folding.specs.Sum.{Sum, sum_size}
use Rattle.folding.specs.Fold.{part_r, Step, is, again, rule1, rule2, rule3, rule4, stays, one_quotient, quotient_of, keeps_all, divisors_tried, common_divisors, rules34, rules2, apply_rule}

-- the atoms of a sum that a rule leaves; none where it starts again
step_size : Step → ℕ
step_size (is u) = sum_size u
step_size (again k u e a) = 0

stays-size : (o : Op) (t : Sum) (c : ℕ) → step_size (stays o t c) ≡ suc (sum_size t)
unfolding stays sum_size step_size
stays-size o t c = omega arith

rule1-size : (o : Op) (t : Sum) (c : ℕ) → rule1 o t ≡ stays o t c → ⊥
unfolding rule1 sum_size step_size
rule1-size floordiv t c e = omega (arith, ap step_size e, stays-size floordiv t c)
rule1-size modulo t c e = omega (arith, ap step_size e, stays-size modulo t c)

rule2-size : (o : Op) (t u : Sum) (c g : ℕ) (q : ℤ) → rule2 o t c g q ≡ stays o u c → ⊥
unfolding rule2 step_size
rule2-size floordiv t u c g q e = omega (arith, ap step_size e, stays-size floordiv u c)
rule2-size modulo t u c g q e = omega (arith, ap step_size e, stays-size modulo u c)

rule3-size : (o : Op) (t u : Sum) (c : ℕ) → rule3 o t c ≡ stays o u c → ⊥
unfolding rule3 step_size
rule3-size floordiv t u c e = omega (arith, ap step_size e, stays-size floordiv u c)
rule3-size modulo t u c e = omega (arith, ap step_size e, stays-size modulo u c)

module _ (β : Kind → ℕ → Range) (o : Op) (t : Sum) (c : ℕ) where
  rules34-stuck : rules34 o t c ≡ stays o t c → keeps_all c t ≡ true
  unfolding rules34
  rules34-stuck e = go (keeps_all c t) e
    where
      go : (b : Bool) → cond b (rule4 o t c) (rule3 o t c) ≡ stays o t c → b ≡ true
      go true q = refl
      go false q = absurd (rule3-size o t t c q)

  rules2-stuck : (gs : List ℕ) → rules2 β o t c gs ≡ stays o t c → keeps_all c t ≡ true
  unfolding rules2
  rules2-stuck [] e = rules34-stuck e
  rules2-stuck (g ∷ gs) e = go (one_quotient β g (part_r g t)) (rules2-stuck gs) e
    where
      go : (b : Bool) → (rules2 β o t c gs ≡ stays o t c → keeps_all c t ≡ true)
          → cond b (rule2 o t c g (quotient_of β g (part_r g t))) (rules2 β o t c gs) ≡ stays o t c → keeps_all c t ≡ true
      go true ih q = absurd (rule2-size o t t c g (quotient_of β g (part_r g t)) q)
      go false ih q = ih q

  first-stuck : (gs : List ℕ) → rules2 β o t c (c ∷ gs) ≡ stays o t c → one_quotient β c (part_r c t) ≡ false
  unfolding rules2
  first-stuck gs e = go (one_quotient β c (part_r c t)) e
    where
      go : (b : Bool) → cond b (rule2 o t c c (quotient_of β c (part_r c t))) (rules2 β o t c gs) ≡ stays o t c → b ≡ false
      go true q = absurd (rule2-size o t t c c (quotient_of β c (part_r c t)) q)
      go false q = refl

  pub record Stuck : Type 0 where
    pub keeps : keeps_all c t ≡ true
    pub apart : one_quotient β c (part_r c t) ≡ false

  pub stuck : apply_rule β o t c ≡ stays o t c → Stuck
  unfolding apply_rule divisors_tried
  stuck e = go (eqb c 1) e
    where
      go : (b : Bool) → cond b (rule1 o t) (rules2 β o t c (c ∷ common_divisors c t)) ≡ stays o t c → Stuck
      go true q = absurd (rule1-size o t c q)
      go false q = record { keeps = rules2-stuck (c ∷ common_divisors c t) q; apart = first-stuck (common_divisors c t) q }
