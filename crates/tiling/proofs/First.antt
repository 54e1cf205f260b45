-- The first element lies in the first cell: an index of zeros stays one through the order and every tile. Assumes nothing.
use mathlib.Core.Path.{◌≡◌, refl}
use Prim.Native.Nat.{ℕ, zero, suc, ◌-◌, ◌/◌, ◌%◌}
use native.Mathlib.Nat.{zero-div, zero-mod, zero-mul}
use native.Mathlib.Omega.{arith}
use mathlib.Core.List.{List, [], ◌∷◌, ◌++◌}
use lib.ListN.{length, get_or, take, drop}
use Rattle.radix.specs.Radix.{prod, row_major, digits}
use Rattle.tiling.specs.Tile.{zip_with, tile_index, index_of, gather, physical, offset_at, offset}

data Zeros : List ℕ → Type 0 where
  empty : Zeros []
  zeros : {es : List ℕ} → Zeros es → Zeros (0 ∷ es)

zero-in-front : {x : ℕ} {es : List ℕ} → x ≡ 0 → Zeros es → Zeros (x ∷ es)
zero-in-front e z = rw e (zeros z)

zeros-digits : (ds : List ℕ) → Zeros (digits ds 0)
zeros-digits [] = empty
zeros-digits (d ∷ ds) = zero-in-front (zero-div (prod ds)) (rw (zero-mod (prod ds)) (zeros-digits ds))

zeros-at : {es : List ℕ} → Zeros es → (k : ℕ) → get_or es k 0 ≡ 0
zeros-at empty k = refl
zeros-at (zeros z) zero = refl
zeros-at (zeros z) (suc k) = zeros-at z k

zeros-gather : (p : List ℕ) {es : List ℕ} → Zeros es → Zeros (gather p es)
zeros-gather [] z = empty
zeros-gather (d ∷ p) z = zero-in-front (zeros-at z d) (zeros-gather p z)

zeros-take : (k : ℕ) {es : List ℕ} → Zeros es → Zeros (take k es)
zeros-take zero z = empty
zeros-take (suc k) empty = empty
zeros-take (suc k) (zeros z) = zeros (zeros-take k z)

zeros-drop : (k : ℕ) {es : List ℕ} → Zeros es → Zeros (drop k es)
zeros-drop zero z = z
zeros-drop (suc k) empty = empty
zeros-drop (suc k) (zeros z) = zeros-drop k z

zeros-append : {es fs : List ℕ} → Zeros es → Zeros fs → Zeros (es ++ fs)
zeros-append empty w = w
zeros-append (zeros z) w = zeros (zeros-append z w)

zeros-zip : (f : ℕ → ℕ → ℕ) → ((t : ℕ) → f 0 t ≡ 0) → (ts : List ℕ) {es : List ℕ} → Zeros es → Zeros (zip_with f es ts)
zeros-zip f h ts empty = empty
zeros-zip f h [] (zeros z) = empty
zeros-zip f h (t ∷ ts) (zeros z) = zero-in-front (h t) (zeros-zip f h ts z)

zeros-tile : (ts : List ℕ) {es : List ℕ} → Zeros es → Zeros (tile_index ts es)
unfolding tile_index
zeros-tile ts {es} z =
    let k = length es - length ts in
    zeros-append (zeros-take k z) (zeros-append (zeros-zip ◌/◌ zero-div ts (zeros-drop k z)) (zeros-zip ◌%◌ zero-mod ts (zeros-drop k z)))

zeros-index : (tss : List (List ℕ)) {es : List ℕ} → Zeros es → Zeros (index_of tss es)
zeros-index [] z = z
zeros-index (ts ∷ tss) z = zeros-index tss (zeros-tile ts z)

zeros-row : (ds : List ℕ) {es : List ℕ} → Zeros es → row_major ds es ≡ 0
zeros-row [] z = refl
zeros-row (d ∷ ds) empty = refl
zeros-row (d ∷ ds) (zeros z) = omega (arith, zero-mul (prod ds), zeros-row ds z)

pub offset-first : (sizes p : List ℕ) (tss : List (List ℕ)) → offset sizes p tss 0 ≡ 0
unfolding offset offset_at
offset-first sizes p tss = zeros-row (physical sizes p tss) (zeros-index tss (zeros-gather p (zeros-digits sizes)))
