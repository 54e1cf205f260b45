-- A number below 2^24 times the multiplier of d, floor-divided by 2^34, is the number divided by d. Assumes nothing.
use mathlib.Core.Path.{◌≡◌, refl, sym, ap, ◌∙◌, subst}
use mathlib.Core.Bool.{Bool, true}
use mathlib.Core.List.{List}
use Prim.Native.Nat.{ℕ, ◌+◌, ◌-◌, ◌*◌, ◌/◌, ◌%◌, ◌<◌, ◌≤◌}
use native.Mathlib.Nat.{div-add-mod', mod-lt, div-eq_of_lt-le, mul_assoc, mul_comm, add-mul, one-mul, mul-le-mul_left, mul-le-mul_right, lt_of_mul-lt-mul_right}
use native.Mathlib.Omega.{arith}
use lib.Dec.{leb}
use lib.ListN.{length, get_or}
use borrow.Author.Tests.{leb-true}
use Rattle.radix.proofs.Radix.{get_d-tab, length-tab}
use Rattle.radix.proofs.Tests.{every-at, and_left, and_right}
use Rattle.radix.specs.Radix.{every}
use Rattle.reciprocal.specs.Multiplier.{max_divisor, whole, reached, multiplier_of, multiplier_table, is_reciprocal, AreMultipliers}

-- the rule of all 1,024 entries, tested once
abbrev rule : ℕ → Bool
rule k = is_reciprocal (k + 1) (multiplier_of (k + 1))

tested : every rule max_divisor ≡ true
tested = refl

-- the rule of one entry
pub entry : (d : ℕ) → 0 < d → d ≤ max_divisor → (whole < multiplier_of d * d) × (multiplier_of d * d ≤ whole + d)
entry d p h =
    let e : d - 1 + 1 ≡ d = omega arith in
    let t : is_reciprocal d (multiplier_of d) ≡ true = subst (λ (x : ℕ). is_reciprocal x (multiplier_of x) ≡ true) e (every-at rule max_divisor tested (d - 1) (omega arith)) in
    let m = multiplier_of d * d in
    (leb-true (whole + 1) m (and_left (leb (whole + 1) m) (leb m (whole + d)) t), leb-true m (whole + d) (and_right (leb (whole + 1) m) (leb m (whole + d)) t))

-- a multiplier that keeps the rule gives the quotient
quotient_by : (n d m : ℕ) → 0 < d → d ≤ max_divisor → whole < m * d → m * d ≤ whole + d → n < reached → n * m / whole ≡ n / d
quotient_by n d m p u a b l = div-eq_of_lt-le whole low high
  where
    q : ℕ
    q = n / d

    s : q * d + n % d ≡ n
    s = div-add-mod' n d

    low : q * whole ≤ n * m
    low =
        let x : q * d * m ≡ q * (m * d) = mul_assoc q d m ∙ ap (λ (y : ℕ). q * y) (mul_comm d m) in
        let w : whole ≤ m * d = omega arith in
        omega (arith, x, mul-le-mul_left q w, mul-le-mul_right {m = q * d} {n = n} m (omega (arith, s)))

    high : n * m < (q + 1) * whole
    high =
        let x : n * m * d ≡ n * (m * d) = mul_assoc n m d in
        let w : m * d ≤ whole + max_divisor = omega arith in
        let y : n * (m * d) ≤ n * (whole + max_divisor) = mul-le-mul_left n w in
        let z : (q + 1) * whole * d ≡ (q * d + d) * whole =
        mul_assoc (q + 1) whole d ∙ ap (λ (y : ℕ). (q + 1) * y) (mul_comm whole d) ∙ sym (mul_assoc (q + 1) d whole) ∙ ap (λ (y : ℕ). y * whole) (add-mul q 1 d ∙ ap (λ (y : ℕ). q * d + y) (one-mul d)) in
        lt_of_mul-lt-mul_right d (omega (arith, s, mod-lt n p))

pub reciprocal : (n d : ℕ) → 0 < d → d ≤ max_divisor → n < reached → n * multiplier_of d / whole ≡ n / d
reciprocal n d p h l = let r = entry d p h in quotient_by n d (multiplier_of d) p h r.0 r.1 l

-- the whole table can be lent
pub multipliers-lent : (m : List ℕ) → m ≡ multiplier_table → AreMultipliers m
multipliers-lent m e =
    record {
      at =
          λ k h.
          let l = ap length e ∙ length-tab (λ (k : ℕ). multiplier_of (k + 1)) max_divisor in
          ap (λ (x : List ℕ). get_or x k 0) e ∙ get_d-tab (λ (k : ℕ). multiplier_of (k + 1)) max_divisor k 0 (omega (arith, l, h));
    }
