-- Laws of mapped lists. Assumes nothing.
use mathlib.Core.Path.{◌≡◌, refl, ap}
use mathlib.Core.List.{List, [], ◌∷◌, ◌++◌, map}
use Prim.Native.Nat.{ℕ, zero, suc, ◌<◌}
use native.Mathlib.Omega.{arith}
use lib.ListN.{length, get_or}

module _ {A B : Type 0} (f : A → B) where
  pub map-append : (xs ys : List A) → map f (xs ++ ys) ≡ map f xs ++ map f ys
  map-append [] ys = refl
  map-append (x ∷ xs) ys = ap (λ (l : List B). f x ∷ l) (map-append xs ys)

  pub map_at : (l : List A) (k : ℕ) (x : A) (y : B) → k < length l → get_or (map f l) k y ≡ f (get_or l k x)
  map_at [] k x y h = absurd (omega arith)
  map_at (a ∷ l) zero x y h = refl
  map_at (a ∷ l) (suc k) x y h = map_at l k x y (omega arith)
