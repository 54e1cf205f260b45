-- Worked examples of the definitions: lists of what is computed beside what it is, and that the two agree. Assumes nothing.
use Rattle.std.specs.Prelude.{Option, Some, None}
use mathlib.Core.Path.{◌≡◌, refl}
use mathlib.Core.List.{List, [], ◌∷◌, map}
use Prim.Native.Nat.{ℕ, suc, ◌^◌}
use lib.IntN.{ℤ, pos, neg_ℤ}
use Rattle.integer.specs.Floor.{floor_div, floor_mod}
use Rattle.integer.specs.Exact.{limit, exactly}
use Rattle.integer.specs.Gcd.{gcd_of, least_remainder, rounds_of}

-- each value that is computed is the one written beside it
abbrev pub Agree : {A : Type 0} → List (A × A) → Type 0
Agree {A} xs = map (λ (p : A × A). p.0) xs ≡ map (λ (p : A × A). p.1) xs

-- -1 floordiv 7 is -1 and -1 mod 7 is 6; then at a multiple, above 0, and by 1
abbrev pub floor_samples : List (ℤ × ℤ)
floor_samples =
    (floor_div (neg_ℤ (pos 1)) 7, neg_ℤ (pos 1))
    ∷ (floor_mod (neg_ℤ (pos 1)) 7, pos 6)
    ∷ (floor_div (neg_ℤ (pos 14)) 7, neg_ℤ (pos 2))
    ∷ (floor_mod (neg_ℤ (pos 14)) 7, pos 0)
    ∷ (floor_div (pos 13) 7, pos 1)
    ∷ (floor_mod (pos 13) 7, pos 6)
    ∷ (floor_div (neg_ℤ (pos 5)) 1, neg_ℤ (pos 5))
    ∷ (floor_mod (neg_ℤ (pos 5)) 1, pos 0)
    ∷ []

pub floor-samples : Agree floor_samples
floor-samples = refl

-- both ends of the limit are kept, and one more on either side has passed
abbrev pub exact_samples : List (Option ℤ × Option ℤ)
exact_samples =
    (exactly (pos limit), Some (pos limit))
    ∷ (exactly (pos (suc limit)), None)
    ∷ (exactly (neg_ℤ (pos limit)), Some (neg_ℤ (pos limit)))
    ∷ (exactly (neg_ℤ (pos (suc limit))), None)
    ∷ (exactly (pos 0), Some (pos 0))
    ∷ []

pub exact-samples : Agree exact_samples
unfolding exactly
exact-samples = refl

-- two numbers, with 0, and at the limit
abbrev pub gcd_samples : List (ℕ × ℕ)
gcd_samples =
    (gcd_of 12 18, 6)
    ∷ (gcd_of 0 5, 5)
    ∷ (gcd_of 5 0, 5)
    ∷ (gcd_of 0 0, 0)
    ∷ (gcd_of 7 (2 ^ 62), 1)
    ∷ (gcd_of (2 ^ 40) (2 ^ 62), 2 ^ 40)
    ∷ []

pub gcd-samples : Agree gcd_samples
unfolding gcd_of
gcd-samples = refl

-- what is missing, what is left, and neither; rounds with 0, and of the largest two Pell numbers of 64 bits
abbrev pub rounds_samples : List (ℕ × ℕ)
rounds_samples =
    (least_remainder 18 7, 3)
    ∷ (least_remainder 17 7, 3)
    ∷ (least_remainder 14 7, 0)
    ∷ (rounds_of 5 0, 0)
    ∷ (rounds_of 0 5, 1)
    ∷ (rounds_of 18 12, 2)
    ∷ (rounds_of (2 ^ 40) (2 ^ 62), 2)
    ∷ (rounds_of 4866752642924153522 11749380235262596085, 51)
    ∷ []

pub rounds-samples : Agree rounds_samples
unfolding rounds_of
rounds-samples = refl
