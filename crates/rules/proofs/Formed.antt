-- All rules applied, by what the first of them makes. Assumes nothing.
use mathlib.Core.Path.{◌≡◌, refl, ap, ◌∙◌}
use mathlib.Core.Bool.{Bool, true, false, ◌&&◌}
use mathlib.Core.List.{List, [], ◌∷◌, ◌++◌}
use Prim.Native.Nat.{ℕ, suc}
use lib.IntN.{ℤ}
use Rattle.expression.specs.Expression.{Kind, Op, Range}
use Rattle.folding.specs.Sum.{Sum}
use Rattle.folding.specs.Fold.{Step, is, again, add_sums, scale_sum, apply_rule, apply_rules}
use Rattle.folding.specs.Working.{small_sum, small_sums, sums_formed}
use Rattle.rules.specs.Outcome.{rests_of}

-- ---- sums formed, judged part by part

and-true : (a b : Bool) → a ≡ true → (a && b) ≡ b
and-true a b e = ap (λ (x : Bool). x && b) e

and-false : (a b : Bool) → a ≡ false → (a && b) ≡ false
and-false a b e = ap (λ (x : Bool). x && b) e

pub sums-append : (β : Kind → ℕ → Range) (ts us : List Sum) → small_sums β (ts ++ us) ≡ (small_sums β ts && small_sums β us)
unfolding small_sums
sums-append β [] us = refl
sums-append β (t ∷ ts) us = ap (λ (b : Bool). small_sum β t && b) (sums-append β ts us) ∙ regroup (small_sum β t) (small_sums β ts) (small_sums β us)
  where
    regroup : (a b c : Bool) → (a && (b && c)) ≡ ((a && b) && c)
    regroup true b c = refl
    regroup false b c = refl

sums-one : (β : Kind → ℕ → Range) (t : Sum) → small_sums β (t ∷ []) ≡ small_sum β t
unfolding small_sums
sums-one β t = last (small_sum β t)
  where
    last : (a : Bool) → (a && true) ≡ a
    last true = refl
    last false = refl

module _ (β : Kind → ℕ → Range) (n : ℕ) (o : Op) (t : Sum) (c : ℕ) where
  -- what the first rule forms after S and every R
  rest-formed : Step → List Sum
  rest-formed s = elim s [ is u ↦ u ∷ [] | again k u e a ↦ sums_formed n β o u e ++ (add_sums (scale_sum k (apply_rules n β o u e)) a ∷ []) ]

  formed-is : small_sums β (sums_formed (suc n) β o t c) ≡ (small_sum β t && (small_sums β (rests_of β t c) && small_sums β (rest-formed (apply_rule β o t c))))
  unfolding sums_formed small_sums rests_of rest-formed
  formed-is = ap (λ (b : Bool). small_sum β t && b) (sums-append β (rests_of β t c) (rest-formed (apply_rule β o t c)))

  pub formed-large : small_sum β t ≡ false → small_sums β (sums_formed (suc n) β o t c) ≡ false
  formed-large e = formed-is ∙ and-false (small_sum β t) (small_sums β (rests_of β t c) && small_sums β (rest-formed (apply_rule β o t c))) e

  module _ (small : small_sum β t ≡ true) where
    formed-tried : small_sums β (sums_formed (suc n) β o t c) ≡ (small_sums β (rests_of β t c) && small_sums β (rest-formed (apply_rule β o t c)))
    formed-tried = formed-is ∙ and-true (small_sum β t) (small_sums β (rests_of β t c) && small_sums β (rest-formed (apply_rule β o t c))) small

    pub formed-passed : small_sums β (rests_of β t c) ≡ false → small_sums β (sums_formed (suc n) β o t c) ≡ false
    formed-passed e = formed-tried ∙ and-false (small_sums β (rests_of β t c)) (small_sums β (rest-formed (apply_rule β o t c))) e

    formed-rest : (s : Step) → small_sums β (rests_of β t c) ≡ true → apply_rule β o t c ≡ s → small_sums β (sums_formed (suc n) β o t c) ≡ small_sums β (rest-formed s)
    formed-rest s e q = formed-tried ∙ and-true (small_sums β (rests_of β t c)) (small_sums β (rest-formed (apply_rule β o t c))) e ∙ ap (λ (x : Step). small_sums β (rest-formed x)) q

    pub formed-sum : (u : Sum) → small_sums β (rests_of β t c) ≡ true → apply_rule β o t c ≡ is u → small_sums β (sums_formed (suc n) β o t c) ≡ small_sum β u
    unfolding rest-formed
    formed-sum u e q = formed-rest (is u) e q ∙ sums-one β u

    pub formed-again : (k : ℤ) (u : Sum) (e : ℕ) (a : Sum) → small_sums β (rests_of β t c) ≡ true → apply_rule β o t c ≡ again k u e a
        → small_sums β (sums_formed (suc n) β o t c) ≡ (small_sums β (sums_formed n β o u e) && small_sum β (add_sums (scale_sum k (apply_rules n β o u e)) a))
    unfolding rest-formed
    formed-again k u e a h q =
        formed-rest (again k u e a) h q
        ∙ sums-append β (sums_formed n β o u e) (add_sums (scale_sum k (apply_rules n β o u e)) a ∷ [])
        ∙ ap (λ (b : Bool). small_sums β (sums_formed n β o u e) && b) (sums-one β (add_sums (scale_sum k (apply_rules n β o u e)) a))

  pub rules-sum : (u : Sum) → apply_rule β o t c ≡ is u → apply_rules (suc n) β o t c ≡ u
  unfolding apply_rules
  rules-sum u q = ap (λ (x : Step). elim x [ is v ↦ v | again k v e a ↦ add_sums (scale_sum k (apply_rules n β o v e)) a ]) q

  pub rules-again : (k : ℤ) (u : Sum) (e : ℕ) (a : Sum) → apply_rule β o t c ≡ again k u e a → apply_rules (suc n) β o t c ≡ add_sums (scale_sum k (apply_rules n β o u e)) a
  unfolding apply_rules
  rules-again k u e a q = ap (λ (x : Step). elim x [ is v ↦ v | again l v f b ↦ add_sums (scale_sum l (apply_rules n β o v f)) b ]) q
