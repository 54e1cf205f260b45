-- Where the candidate of a cell is not inside the sizes, neither is that of a cell whose digits are all at least as large: padding goes on. Assumes nothing.
use mathlib.Core.Path.{◌≡◌, refl, sym, ap, ◌∙◌}
use mathlib.Core.Bool.{Bool, true, false, cond}
use Prim.Native.Nat.{ℕ, zero, suc, ◌+◌, ◌-◌, ◌*◌, ◌/◌, ◌%◌, ◌<◌, ◌≤◌, zero-le}
use native.Mathlib.Nat.{zero-div, zero-mod, add-zero, add-mul, mul-pos, mul-le-mul, mul-le-mul_right, suc-mul, div-add-mod', div-mul-le_self, div-eq_of_lt, mod-eq_of_lt, mod-lt, mul-add-div_right, mul-add-mod_self_right, div-lt_iff_lt-mul, le-div_iff_mul-le}
use native.Mathlib.Omega.{arith}
use mathlib.Core.List.{List, [], ◌∷◌, ◌++◌}
use lib.Dec.{eqb}
use lib.ListN.{length, get_or, take, drop}
use borrow.Author.Tests.{eqb-true}
use Rattle.radix.proofs.Radix.{right-pos}
use Rattle.radix.proofs.Tests.{inside-in, inside-true}
use Rattle.radix.specs.Radix.{prod, digits, tab, is_inside, In, none, more}
use Rattle.shape.specs.Dimensions.{place}
use Rattle.tiling.specs.Cell.{untile, unindex, ungather, candidate, padding, cell}
use Rattle.tiling.specs.Runs.{rest_of, PaddingRun}
use Rattle.tiling.specs.Tile.{zip_with, physical, padded}

-- each entry of fs is at least that of es
pub data Upward : List ℕ → List ℕ → Type 0 where
  done : Upward [] []
  both : {e f : ℕ} {es fs : List ℕ} → e ≤ f → Upward es fs → Upward (e ∷ es) (f ∷ fs)

upward-at : {es fs : List ℕ} → Upward es fs → (k : ℕ) → get_or es k 0 ≤ get_or fs k 0
upward-at done k = omega arith
upward-at (both h u) zero = h
upward-at (both h u) (suc k) = upward-at u k

upward-take : (k : ℕ) {es fs : List ℕ} → Upward es fs → Upward (take k es) (take k fs)
upward-take zero u = done
upward-take (suc k) done = done
upward-take (suc k) (both h u) = both h (upward-take k u)

upward-drop : (k : ℕ) {es fs : List ℕ} → Upward es fs → Upward (drop k es) (drop k fs)
upward-drop zero u = u
upward-drop (suc k) done = done
upward-drop (suc k) (both h u) = upward-drop k u

upward-append : {es fs xs ys : List ℕ} → Upward es fs → Upward xs ys → Upward (es ++ xs) (fs ++ ys)
upward-append done w = w
upward-append (both h u) w = both h (upward-append u w)

upward-zip : (f : ℕ → ℕ → ℕ) → ((a b c d : ℕ) → a ≤ b → c ≤ d → f a c ≤ f b d) → {es fs xs ys : List ℕ} → Upward es fs → Upward xs ys → Upward (zip_with f es xs) (zip_with f fs ys)
upward-zip f m done w = done
upward-zip f m (both h u) done = done
upward-zip f m (both {e = a} {f = b} h u) (both {e = c} {f = d} g w) = both (m a b c d h g) (upward-zip f m u w)

upward-same : (es : List ℕ) → Upward es es
upward-same [] = done
upward-same (e ∷ es) = both {e = e} {f = e} (omega arith) (upward-same es)

upward-tab : (f g : ℕ → ℕ) (n : ℕ) → ((k : ℕ) → f k ≤ g k) → Upward (tab f n) (tab g n)
upward-tab f g zero h = done
upward-tab f g (suc n) h = both (h 0) (upward-tab (λ (k : ℕ). f (suc k)) (λ (k : ℕ). g (suc k)) n (λ k. h (suc k)))

-- the tiles and the order undone keep that
upward-untile : (ts : List ℕ) (k : ℕ) {es fs : List ℕ} → Upward es fs → Upward (untile ts k es) (untile ts k fs)
unfolding untile
upward-untile ts k u =
    let r = upward-drop k u in
    upward-append (upward-take k u)
    (upward-zip ◌+◌ (λ a b c d x y. omega arith) (upward-zip ◌*◌ (λ a b c d x y. mul-le-mul x y) (upward-take (length ts) r) (upward-same ts)) (upward-drop (length ts) r))

upward-unindex : (tss : List (List ℕ)) (n : ℕ) {es fs : List ℕ} → Upward es fs → Upward (unindex tss n es) (unindex tss n fs)
upward-unindex [] n u = u
upward-unindex (ts ∷ tss) n u = upward-untile ts (n - length ts) (upward-unindex tss (n + length ts) u)

upward-ungather : (p : List ℕ) {es fs : List ℕ} → Upward es fs → Upward (ungather p es) (ungather p fs)
upward-ungather p {es} {fs} u = upward-tab (λ (j : ℕ). get_or es (place j p) 0) (λ (j : ℕ). get_or fs (place j p) 0) (length p) (λ j. upward-at u (place j p))

-- what lies under a point inside the sizes is inside
in-under : {es fs ds : List ℕ} → Upward es fs → In fs ds → In es ds
in-under done none = none
in-under (both {e = e} h u) (more {d = d} g i) = let l : e < d = omega arith in more l (in-under u i)

outside_above : (es fs ds : List ℕ) → Upward es fs → is_inside es ds ≡ false → is_inside fs ds ≡ false
outside_above es fs ds u o = go (is_inside fs ds) refl
  where
    go : (b : Bool) → is_inside fs ds ≡ b → b ≡ false
    go false e = refl
    go true e = sym (inside-true (in-under u (inside-in fs ds e))) ∙ o

-- every digit is at least 0
upward-zero : (ds : List ℕ) (x : ℕ) → Upward (digits ds 0) (digits ds x)
upward-zero [] x = done
upward-zero (d ∷ ds) x =
    let h : 0 / prod ds ≤ x / prod ds = rw (zero-div (prod ds)) zero-le in
    let u : Upward (digits ds (0 % prod ds)) (digits ds (x % prod ds)) = rw (zero-mod (prod ds)) (upward-zero ds (x % prod ds)) in
    both h u

-- the cells of the run have digits that are all at least those of k: one size more in front
module _ (d : ℕ) (ds : List ℕ) (k : ℕ) (h : k < d * prod ds) where
  abbrev P : ℕ
  P = prod ds

  rest-pos : 0 < P
  rest-pos = right-pos d P h

  first : k / P < d
  first = (div-lt_iff_lt-mul rest-pos).1 h

  front-upward : (j : ℕ) → (j < rest_of ds (k % P) → (k % P + j < P) × Upward (digits ds (k % P)) (digits ds (k % P + j))) → j < rest_of (d ∷ ds) k
      → (k + j < d * P) × Upward (digits (d ∷ ds) k) (digits (d ∷ ds) (k + j))
  front-upward j behind = go (eqb (k % P) 0) refl
    where
      go : (b : Bool) → eqb (k % P) 0 ≡ b → j < cond b ((d - k / P) * P) (rest_of ds (k % P)) → (k + j < d * P) × Upward (digits (d ∷ ds) k) (digits (d ∷ ds) (k + j))
      go true e l =
          let z : k % P ≡ 0 = eqb-true (k % P) 0 e in
          let s : (k / P + (d - k / P)) * P ≡ k / P * P + (d - k / P) * P = add-mul (k / P) (d - k / P) P in
          let t : k / P + (d - k / P) ≡ d = omega (arith, first) in
          let u : k / P ≤ (k + j) / P = (le-div_iff_mul-le rest-pos).1 (omega (arith, div-mul-le_self k P)) in
          let w : Upward (digits ds (k % P)) (digits ds ((k + j) % P)) = rw z (upward-zero ds ((k + j) % P)) in
          (omega (arith, div-add-mod' k P, z, l, s, ap (λ (x : ℕ). x * P) t), both u w)
      go false e l =
          let i = behind l in
          let s : k + j ≡ k / P * P + (k % P + j) = omega (arith, div-add-mod' k P) in
          let q : (k + j) / P ≡ k / P = ap (λ (x : ℕ). x / P) s ∙ mul-add-div_right rest-pos (k / P) (k % P + j) ∙ ap (λ (x : ℕ). k / P + x) (div-eq_of_lt i.0) ∙ add-zero (k / P) in
          let r : (k + j) % P ≡ k % P + j = ap (λ (x : ℕ). x % P) s ∙ mul-add-mod_self_right (k / P) P (k % P + j) ∙ mod-eq_of_lt i.0 in
          let u : k / P ≤ (k + j) / P = omega (arith, q) in
          let w : Upward (digits ds (k % P)) (digits ds ((k + j) % P)) = rw r i.1 in
          (omega (arith, s, i.0, mul-le-mul_right P first, suc-mul (k / P) P), both u w)

  front-some : 0 < rest_of ds (k % P) → 0 < rest_of (d ∷ ds) k
  front-some behind = go (eqb (k % P) 0)
    where
      go : (b : Bool) → 0 < cond b ((d - k / P) * P) (rest_of ds (k % P))
      go true = mul-pos (omega (arith, first)) rest-pos
      go false = behind

pub rest-upward : (ds : List ℕ) (k j : ℕ) → k < prod ds → j < rest_of ds k → (k + j < prod ds) × Upward (digits ds k) (digits ds (k + j))
rest-upward [] k j h l = (omega arith, done)
rest-upward (d ∷ ds) k j h l = front-upward d ds k h j (rest-upward ds (k % prod ds) j (mod-lt k (right-pos d (prod ds) h))) l

-- a run has at least its first cell
pub rest_some : (ds : List ℕ) (k : ℕ) → k < prod ds → 0 < rest_of ds k
rest_some [] k h = omega arith
rest_some (d ∷ ds) k h = front-some d ds k h (rest_some ds (k % prod ds) (mod-lt k (right-pos d (prod ds) h)))

-- a cell whose candidate is not inside the sizes is padding
outside-padding : (sizes p : List ℕ) (tss : List (List ℕ)) (k : ℕ) → is_inside (candidate sizes p tss k) sizes ≡ false → cell sizes p tss k ≡ padding
unfolding cell
outside-padding sizes p tss k e = rw e

pub padding-goes-on : (sizes p : List ℕ) (tss : List (List ℕ)) (k j : ℕ) → k < padded sizes p tss → is_inside (candidate sizes p tss k) sizes ≡ false → j < rest_of (physical sizes p tss) k
    → (k + j < padded sizes p tss) × (cell sizes p tss (k + j) ≡ padding)
unfolding candidate padded
padding-goes-on sizes p tss k j h e l =
    let r = rest-upward (physical sizes p tss) k j h l in
    let u = upward-ungather p (upward-unindex tss (length p) r.1) in
    (r.0, outside-padding sizes p tss (k + j) (outside_above (candidate sizes p tss k) (candidate sizes p tss (k + j)) sizes u e))

-- the two runs from a padding cell: all of these cells, or the cell alone
pub outside-run : (sizes p : List ℕ) (tss : List (List ℕ)) (k : ℕ) → k < padded sizes p tss → is_inside (candidate sizes p tss k) sizes ≡ false → PaddingRun sizes p tss k (rest_of (physical sizes p tss) k)
unfolding padded
outside-run sizes p tss k h e = record { some = rest_some (physical sizes p tss) k h; each = λ j l. padding-goes-on sizes p tss k j h e l }

pub one-run : (sizes p : List ℕ) (tss : List (List ℕ)) (k : ℕ) → k < padded sizes p tss → cell sizes p tss k ≡ padding → PaddingRun sizes p tss k 1
one-run sizes p tss k h e =
    record {
      some = omega arith;
      each = λ j l. let z : k + j ≡ k = omega arith in (omega arith, ap (cell sizes p tss) z ∙ e);
    }
