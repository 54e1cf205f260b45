-- Places as digits in base 8, the first station's most significant: their order and their reading. Assumes nothing.
use Prim.Native.Nat.{ℕ, zero, suc, ◌+◌, ◌*◌, ◌-◌, ◌/◌, ◌%◌, ◌^◌, ◌≤◌, ◌<◌}
use mathlib.Core.Path.{◌≡◌, refl, sym, ap, ap₂, subst, ◌∙◌}
use mathlib.Core.Logic.{◌⊎◌, inl, inr, ⊎_elim}
use mathlib.Core.List.{List, [], ◌∷◌}
use lib.ListN.{length}
use native.Mathlib.Omega.{arith}
use native.Mathlib.Decide.{dec_lt}
use native.Mathlib.Nat.{pow-succ', one-le-pow, mul-le-mul_right, mul_assoc, add-mul, mul_comm, mul-add-div_right, div-eq_of_lt, mul-add-mod_self_right, mod-eq_of_lt}
use Rattle.plan.specs.Net.{Before}
use Rattle.tree_plan.specs.Tree.{sum_to, at}
use Rattle.tree_plan.specs.Weight.{scale, unit, place_in}
use Rattle.tree_plan.proofs.Sums.{sum-agree, sum_head}

-- what the digits from station s on stay below
unfoldable room : ℕ → ℕ
room s = 8 ^ (64 - s)

room-first : room 0 ≡ scale
unfolding room scale
room-first = refl

room-unit : (s : ℕ) → s < 64 → room s ≡ unit s * 8
unfolding room unit
room-unit s h =
    let e : 64 - s ≡ suc (63 - s) = omega arith in
    ap (λ (x : ℕ). 8 ^ x) e ∙ pow-succ' 8 (63 - s) ∙ mul_comm 8 (8 ^ (63 - s))

unit-room : (s : ℕ) → unit s ≡ room (suc s)
unfolding room unit
unit-room s = let e : 63 - s ≡ 64 - suc s = omega arith in ap (λ (x : ℕ). 8 ^ x) e

unit-some : (s : ℕ) → 0 < unit s
unfolding unit
unit-some s = one-le-pow (63 - s) 8 (omega arith)

room-some : (s : ℕ) → 0 < room s
unfolding room
room-some s = one-le-pow (64 - s) 8 (omega arith)

-- the digits of the stations from s on
unfoldable pub num_from : ℕ → List ℕ → ℕ
num_from s [] = 0
num_from s (a ∷ p) = a * unit s + num_from (suc s) p

pub sum_number : (s : ℕ) (p : List ℕ) → sum_to (length p) (λ i. at p i * unit (s + i)) ≡ num_from s p
unfolding num_from sum_to
sum_number s [] = refl
sum_number s (a ∷ p) =
    let e : s + 0 ≡ s = omega arith in
    omega (
      arith,
      sum_head (length p) (λ i. at (a ∷ p) i * unit (s + i)),
      ap (λ (x : ℕ). a * unit x) e,
      sum-agree (length p) (λ i. at p i * unit (s + suc i)) (λ i. at p i * unit (suc s + i))
          (λ i h. let g : s + suc i ≡ suc s + i = omega arith in ap (λ (x : ℕ). at p i * unit x) g),
      sum_number (suc s) p,
    )

number-low :
    (s : ℕ) (p : List ℕ) → s + length p ≤ 64 → ((i : ℕ) → i < length p → at p i < 8) → num_from s p < room s
unfolding num_from
number-low s [] l h = room-some s
number-low s (a ∷ p) l h =
    let a8 : a < 8 = h 0 (omega arith) in
    let le : (a + 1) * unit s ≤ 8 * unit s = mul-le-mul_right (unit s) (omega arith) in
    omega (
      arith,
      number-low (suc s) p (omega arith) (λ i g. h (suc i) (omega arith)),
      unit-room s,
      room-unit s (omega arith),
      add-mul a 1 (unit s),
    )

-- the lesser number comes first in list order
pub number-first :
    (s : ℕ) (p q : List ℕ) →
    length p ≡ length q →
    s + length p ≤ 64 →
    ((i : ℕ) → i < length q → at q i < 8) →
    num_from s p ≤ num_from s q →
    (q ≡ p) ⊎ Before p q
unfolding num_from Before
number-first s [] [] e l h n = inl refl
number-first s [] (b ∷ q) e l h n = absurd (omega arith)
number-first s (a ∷ p) [] e l h n = absurd (omega arith)
number-first s (a ∷ p) (b ∷ q) e l h n =
    elim (dec_lt a b) [
      | yes lt ↦ inr (inl lt)
      | no ge ↦
          elim (dec_lt b a) [
            | yes gt ↦
                let le : (b + 1) * unit s ≤ a * unit s = mul-le-mul_right (unit s) (omega arith) in
                absurd (omega (
                  arith,
                  number-low (suc s) q (omega arith) (λ i g. h (suc i) (omega arith)),
                  unit-room s,
                  add-mul b 1 (unit s),
                ))
            | no le ↦
                let same : a ≡ b = omega arith in
                ⊎_elim (λ (r : q ≡ p). inl (ap₂ (λ (x : ℕ) (y : List ℕ). x ∷ y) (sym same) r)) (λ r. inr (inr (same, r)))
                (number-first (suc s) p q (omega arith) (omega arith) (λ i g. h (suc i) (omega arith))
                (omega (arith, ap (λ (x : ℕ). x * unit s) same)))
          ]
    ]

-- a digit is read off, whatever stands above
number-place :
    (s : ℕ) (p : List ℕ) (x w : ℕ) →
    s + length p ≤ 64 →
    ((i : ℕ) → i < length p → at p i < 8) →
    w ≡ x * room s + num_from s p →
    (i : ℕ) →
    i < length p →
    place_in w (s + i) ≡ at p i
unfolding num_from place_in
number-place s [] x w l h e = λ i g. absurd (omega arith)
number-place s (a ∷ p) x w l h e = go (number-place (suc s) p (x * 8 + a) w (omega arith) (λ i g. h (suc i) (omega arith)) (omega (arith, next, unit-room s, ap (λ (y : ℕ). (x * 8 + a) * y) (unit-room s))))
  where
    next : w ≡ (x * 8 + a) * unit s + num_from (suc s) p
    next =
        omega (
          arith,
          e,
          ap (λ (y : ℕ). x * y) (room-unit s (omega arith)),
          add-mul (x * 8) a (unit s),
          mul_assoc x 8 (unit s),
          mul_comm 8 (unit s),
          ap (λ (y : ℕ). x * y) (mul_comm 8 (unit s)),
        )

    rest : num_from (suc s) p < unit s
    rest = omega (arith, number-low (suc s) p (omega arith) (λ i g. h (suc i) (omega arith)), unit-room s)

    top : w / unit s ≡ x * 8 + a
    top =
        ap (λ (y : ℕ). y / unit s) next
        ∙ mul-add-div_right (unit-some s) (x * 8 + a) (num_from (suc s) p)
        ∙ (let z : num_from (suc s) p / unit s ≡ 0 = div-eq_of_lt rest in omega arith)

    digit : (w / unit s) % 8 ≡ a
    digit = ap (λ (y : ℕ). y % 8) top ∙ mul-add-mod_self_right x 8 a ∙ mod-eq_of_lt (h 0 (omega arith))

    go :
        ((i : ℕ) → i < length p → (w / unit (suc s + i)) % 8 ≡ at p i) →
        (i : ℕ) →
        i < suc (length p) →
        (w / unit (s + i)) % 8 ≡ at (a ∷ p) i
    go r zero g = let z : s + 0 ≡ s = omega arith in ap (λ (y : ℕ). (w / unit y) % 8) z ∙ digit
    go r (suc i) g = let z : s + suc i ≡ suc s + i = omega arith in ap (λ (y : ℕ). (w / unit y) % 8) z ∙ r i (omega arith)

-- for a whole plan
module _ (p : List ℕ) (long : length p ≤ 64) (low : (i : ℕ) → i < length p → at p i < 8) where
  pub digits_low : num_from 0 p < scale
  digits_low = subst (λ (y : ℕ). num_from 0 p < y) room-first (number-low 0 p (omega arith) low)

  pub digits-place : (c w : ℕ) → w ≡ c * scale + num_from 0 p → (i : ℕ) → i < length p → place_in w i ≡ at p i
  digits-place c w e i h =
      let z : 0 + i ≡ i = omega arith in
      ap (place_in w) (sym z) ∙ number-place 0 p c w (omega arith) low (e ∙ ap (λ (y : ℕ). c * y + num_from 0 p) (sym room-first)) i h

  pub digits-cost : (c w : ℕ) → w ≡ c * scale + num_from 0 p → w / scale ≡ c
  digits-cost c w e =
      ap (λ (y : ℕ). y / scale) e
      ∙ mul-add-div_right (omega (arith, digits_low)) c (num_from 0 p)
      ∙ (let z : num_from 0 p / scale ≡ 0 = div-eq_of_lt digits_low in omega arith)
