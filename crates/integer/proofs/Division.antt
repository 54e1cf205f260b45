-- Division of i64 numbers by a divisor above 0, on the bits that the code holds. Assumes nothing.
use mathlib.Core.Path.{◌≡◌, ◌∙◌}
use mathlib.Core.Bool.{true, false}
use Prim.Native.Nat.{◌<◌}
use lib.IntN.{ℤ, pos, nat_abs, ◌+ℤ◌, ◌-ℤ◌}
use lib.Signed.{lt_z, quot_z, rem_z, ◌<ℤ◌}
use mir.Syntax.{w64}
use mir.Val.{SFits, of_z}
use mir.Facts.{to_z-of_z}
use Rattle.integer.specs.Floor.{floor_div, floor_mod}
use Rattle.integer.proofs.Linear.{held}
use Rattle.integer.proofs.Trunc.{quot_fits, rem-fits, floor-fits, mod-fits, down_div, down-mod, same_div, same-mod, above-0, abs-above-0}

module _ {a d : ℤ} (A : SFits w64 a) (D : SFits w64 d) (h : pos 0 <ℤ d) where
  pub can-divide : (0 < of_z w64 d) × SFits w64 (quot_z (held a) (held d))
  can-divide = rw (to_z-of_z A, to_z-of_z D, above-0 d h) (abs-above-0 d h, quot_fits _ (abs-above-0 d h) a A)

  quot-held : held (quot_z (held a) (held d)) ≡ quot_z a (pos (nat_abs d))
  quot-held = rw (to_z-of_z A, to_z-of_z D, above-0 d h) (to_z-of_z (quot_fits _ (abs-above-0 d h) a A))

  rem-held : held (rem_z (held a) (held d)) ≡ rem_z a (pos (nat_abs d))
  rem-held = rw (to_z-of_z A, to_z-of_z D, above-0 d h) (to_z-of_z (rem-fits _ (abs-above-0 d h) a A))

  pub floor-div-fits : SFits w64 (floor_div a (nat_abs d))
  floor-div-fits = floor-fits _ (abs-above-0 d h) a A

  pub floor-mod-fits : SFits w64 (floor_mod a (nat_abs d))
  floor-mod-fits = mod-fits _ (abs-above-0 d h) a (rw (above-0 d h) at D)

  -- a remainder below 0 is corrected
  module _ (t : lt_z (held (rem_z (held a) (held d))) (pos 0) ≡ true) where
    pub div_below : held (quot_z (held a) (held d)) -ℤ pos 1 ≡ floor_div a (nat_abs d)
    div_below = rw quot-held (down_div _ (abs-above-0 d h) a (rw rem-held at t))

    pub mod_below : held (rem_z (held a) (held d)) +ℤ held d ≡ floor_mod a (nat_abs d)
    mod_below = rw (rem-held, to_z-of_z D, above-0 d h) (down-mod _ (abs-above-0 d h) a (rw rem-held at t))

  -- any other stays, with its quotient
  module _ (t : lt_z (held (rem_z (held a) (held d))) (pos 0) ≡ false) where
    pub div-above : held (quot_z (held a) (held d)) ≡ floor_div a (nat_abs d)
    div-above = quot-held ∙ same_div _ (abs-above-0 d h) a (rw rem-held at t)

    pub mod-above : held (rem_z (held a) (held d)) ≡ floor_mod a (nat_abs d)
    mod-above = rem-held ∙ same-mod _ (abs-above-0 d h) a (rw rem-held at t)
