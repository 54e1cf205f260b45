-- A quotient of two counts that a double holds exactly is their exact fraction, rounded once. Assumes nothing.
use mathlib.Core.Path.{◌≡◌, ap}
use mathlib.Core.Bool.{false}
use Prim.Native.Nat.{ℕ, zero, suc, ◌*◌, ◌<◌, ◌≤◌}
use native.Mathlib.Nat.{mul-pos}
use native.Mathlib.Omega.{arith}
use Rattle.radix.specs.Radix.{max_count}
use lib.Dec.{T, le→leb, eqb-suc-zero}
use lib.IntN.{pos}
use lib.Ieee.{Float, nan, inf, fin, binary64, up, down, round, div, of_int, in_float}
use lib.Ieee.Exact.{HasValue}
use lib.Ieee.Back.{round_whole}
use lib.Ieee.Fits.{up_pos, down_pos}
use lib.Ieee.Scale.{round_same}

pub counted : (n : ℕ) → n ≤ max_count → T (in_float binary64 (pos n))
unfolding in_float
counted n h = le→leb n 9007199254740992 (omega arith)

-- a float that is the count n
pub count-value : (n : ℕ) → n ≤ max_count → HasValue (of_int binary64 (pos n)) false n 1
unfolding of_int
count-value n h = round_whole binary64 false n (omega arith)

cross : (m u v n w z a b : ℕ) → m * u * 1 ≡ a * v → n * w * 1 ≡ b * z → m * u * z * b ≡ a * (n * w * v)
cross m u v n w z a b p q = omega (arith, ap (λ (k : ℕ). k * (z * b)) p, ap (λ (k : ℕ). a * (k * v)) q)

div-at : (x y : Float) (a b : ℕ) → 0 < b → HasValue x false a 1 → HasValue y false b 1 → div binary64 x y ≡ round binary64 false a b
unfolding div
div-at nan y a b B h k = absurd h
div-at (inf s) y a b B h k = absurd h
div-at (fin s m e) nan a b B h k = absurd k
div-at (fin s m e) (inf t) a b B h k = absurd k
div-at (fin s m e) (fin t zero d) a b B h k = let p = mul-pos B (down_pos d) in absurd (omega (arith, k.1))
div-at (fin s m e) (fin t (suc n) d) a b B h k =
    rw (eqb-suc-zero n, h.0, k.0)
    (round_same binary64 false (m * up e * down d) (suc n * up d * down e) a b
    (mul-pos (mul-pos (omega arith) (up_pos d)) (down_pos e)) B
    (cross m (up e) (down e) (suc n) (up d) (down d) a b h.1 k.1))

pub div-counts : (a b : ℕ) → a ≤ max_count → b ≤ max_count → 0 < b → div binary64 (of_int binary64 (pos a)) (of_int binary64 (pos b)) ≡ round binary64 false a b
div-counts a b ha hb B = div-at _ _ a b B (count-value a ha) (count-value b hb)
