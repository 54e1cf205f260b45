-- A tile in place: with j of its entries done, f of place and entry stands where the place stood and g of them after all places. Assumes nothing.
use mathlib.Core.Path.{◌≡◌, sym, ap, ◌∙◌, subst}
use mathlib.Core.Logic.{⊎_elim, ◌⊎◌, inl, inr}
use Prim.Native.Nat.{ℕ, ◌+◌, ◌-◌, ◌*◌, ◌/◌, ◌%◌, ◌<◌, ◌≤◌, min}
use native.Mathlib.Nat.{eq-or-lt_of_le, eq-zero-or-pos, one-mul, div-add-mod', mod-lt, mul-add-div_right, div-eq_of_lt}
use native.Mathlib.Omega.{arith}
use mathlib.Core.List.{List}
use lib.ListN.{length, get_or, take, set, length-set}
use lib.Seq.{get_or-set_same, get_or-set_other, get_or-take, length-take-le, ext_get_or}
use Rattle.radix.proofs.Lists.{le-or-lt}
use Rattle.tiling.proofs.Entries.{first, second, third}
use Rattle.tiling.proofs.Sums.{index-first, index-second, index-third}
use Rattle.tiling.proofs.Tiling.{tile-length, tile-length-index}
use Rattle.tiling.specs.Tile.{ceil, tile_dims, tile_index}

-- the n places es under the tile ts, with j entries done
pub record Partly (f g : ℕ → ℕ → ℕ) (n : ℕ) (ts es at : List ℕ) (j : ℕ) : Type 0 where
  pub within : j ≤ length ts
  pub others : (i : ℕ) → i < n → (i < n - length ts) ⊎ (n - length ts + j ≤ i) → get_or at i 0 ≡ get_or es i 0
  pub here : (i : ℕ) → i < j → get_or at (n - length ts + i) 0 ≡ f (get_or es (n - length ts + i) 0) (get_or ts i 0)
  pub after : (i : ℕ) → i < j → get_or at (n + i) 0 ≡ g (get_or es (n - length ts + i) 0) (get_or ts i 0)

module _ (f g : ℕ → ℕ → ℕ) (ts es : List ℕ) (n : ℕ) (is : length es ≡ n) (h : length ts ≤ n) where
  abbrev m : ℕ
  m = length ts

  -- one entry more
  module _ (at : List ℕ) (j : ℕ) (long : n + m ≤ length at) (v : Partly f g n ts es at j) (l : j < m) where
    abbrev q : ℕ
    q = f (get_or es (n - m + j) 0) (get_or ts j 0)

    abbrev r : ℕ
    r = g (get_or es (n - m + j) 0) (get_or ts j 0)

    abbrev next : List ℕ
    next = set (set at (n - m + j) q) (n + j) r

    -- a place that neither store meets
    kept : (i : ℕ) → (i ≡ n - m + j → ⊥) → (i ≡ n + j → ⊥) → get_or next i 0 ≡ get_or at i 0
    kept i a b = get_or-set_other (set at (n - m + j) q) (n + j) i r 0 b ∙ get_or-set_other at (n - m + j) i q 0 a

    pub place_here : get_or at (n - m + j) 0 ≡ get_or es (n - m + j) 0
    place_here = v.others (n - m + j) (omega arith) (inr (omega arith))

    pub place-next : Partly f g n ts es next (j + 1)
    place-next =
        record {
          within = omega arith;
          others =
              λ i w u.
              kept i (⊎_elim (λ a e. omega arith) (λ a e. omega arith) u) (λ e. omega arith) ∙ v.others i w (⊎_elim inl (λ a. inr (omega arith)) u);
          here = λ i w. ⊎_elim (λ (e : i ≡ j). new i e) (λ (e : i < j). kept (n - m + i) (λ u. omega arith) (λ u. omega arith) ∙ v.here i e) (eq-or-lt_of_le (before i w));
          after = λ i w. ⊎_elim (λ (e : i ≡ j). behind i e) (λ (e : i < j). kept (n + i) (λ u. omega arith) (λ u. omega arith) ∙ v.after i e) (eq-or-lt_of_le (before i w));
        }
      where
        before : (i : ℕ) → i < j + 1 → i ≤ j
        before i w = omega arith

        new : (i : ℕ) → i ≡ j → get_or next (n - m + i) 0 ≡ f (get_or es (n - m + i) 0) (get_or ts i 0)
        new i e =
            subst (λ (x : ℕ). get_or next (n - m + x) 0 ≡ f (get_or es (n - m + x) 0) (get_or ts x 0)) (sym e)
            (get_or-set_other (set at (n - m + j) q) (n + j) (n - m + j) r 0 (λ w. omega arith) ∙ get_or-set_same at (n - m + j) q 0 (omega arith))

        behind : (i : ℕ) → i ≡ j → get_or next (n + i) 0 ≡ g (get_or es (n - m + i) 0) (get_or ts i 0)
        behind i e =
            subst (λ (x : ℕ). get_or next (n + x) 0 ≡ g (get_or es (n - m + x) 0) (get_or ts x 0)) (sym e)
            (get_or-set_same (set at (n - m + j) q) (n + j) r 0 (omega (arith, length-set at (n - m + j) q)))

    -- what the places hold, by what they held
    pub place-step : (x y : ℕ) → x ≡ f (get_or at (n - m + j) 0) (get_or ts j 0) → y ≡ g (get_or at (n - m + j) 0) (get_or ts j 0) → Partly f g n ts es (set (set at (n - m + j) x) (n + j) y) (j + 1)
    place-step x y a b =
        rw (a ∙ ap (λ (z : ℕ). f z (get_or ts j 0)) place_here, b ∙ ap (λ (z : ℕ). g z (get_or ts j 0)) place_here) place-next

  -- all entries done, and the list that has these entries
  pub place_end : (out : List ℕ) → length out ≡ n + m → ((i : ℕ) → i < n - m → get_or out i 0 ≡ get_or es i 0) → ((i : ℕ) → n - m ≤ i → i < n → get_or out i 0 ≡ f (get_or es i 0) (get_or ts (i - (n - m)) 0))
      → ((i : ℕ) → n ≤ i → i < n + m → get_or out i 0 ≡ g (get_or es (i - m) 0) (get_or ts (i - n) 0))
      → (at : List ℕ) (j : ℕ) → n + m ≤ length at → Partly f g n ts es at j → m ≤ j → take (n + m) at ≡ out
  place_end out size one two three at j long v w =
      ext_get_or 0 (take (n + m) at) out (length-take-le (n + m) at long ∙ sym size) (λ i l. let a : i < n + m = omega (arith, length-take-le (n + m) at long) in get_or-take (n + m) at i 0 a ∙ same i a)
    where
      same : (i : ℕ) → i < n + m → get_or at i 0 ≡ get_or out i 0
      same i l =
          ⊎_elim
          (λ (a : n ≤ i).
          let e : n + (i - n) ≡ i = omega arith in
          let u : n - m + (i - n) ≡ i - m = omega arith in
          ap (λ (x : ℕ). get_or at x 0) (sym e) ∙ v.after (i - n) (omega (arith, v.within)) ∙ ap (λ (x : ℕ). g (get_or es x 0) (get_or ts (i - n) 0)) u ∙ sym (three i a l))
          (λ (a : i < n).
          ⊎_elim
          (λ (b : n - m ≤ i).
          let e : n - m + (i - (n - m)) ≡ i = omega arith in
          ap (λ (x : ℕ). get_or at x 0) (sym e) ∙ v.here (i - (n - m)) (omega (arith, v.within)) ∙ ap (λ (x : ℕ). f (get_or es x 0) (get_or ts (i - (n - m)) 0)) e ∙ sym (two i b a))
          (λ (b : i < n - m). v.others i a (inl b) ∙ sym (one i b)) (le-or-lt (n - m) i)) (le-or-lt n i)

-- an index: quotients, and remainders after them
pub index-end : (ts es : List ℕ) (n : ℕ) → length es ≡ n → length ts ≤ n → (at : List ℕ) (j : ℕ) → n + length ts ≤ length at → Partly ◌/◌ ◌%◌ n ts es at j → length ts ≤ j → take (n + length ts) at ≡ tile_index ts es
index-end ts es n is h =
    place_end ◌/◌ ◌%◌ ts es n is h (tile_index ts es) (tile-length-index ts es (omega (arith, is)) ∙ ap (λ (x : ℕ). x + length ts) is) (index-first ts es n is h) (index-second ts es n is h) (index-third ts es n is h)

-- the quotient rounded up, by its remainder
pub ceil-is : (d t : ℕ) → 0 < t → d / t + min 1 (d % t) ≡ ceil d t
ceil-is d t p =
    let s : d + (t - 1) ≡ d / t * t + (d % t + (t - 1)) = omega (arith, div-add-mod' d t) in
    sym (ap (λ (x : ℕ). x / t) s ∙ mul-add-div_right p (d / t) (d % t + (t - 1)) ∙ ap (λ (x : ℕ). d / t + x) (⊎_elim none some (eq-zero-or-pos (d % t))))
  where
    none : d % t ≡ 0 → (d % t + (t - 1)) / t ≡ min 1 (d % t)
    none z = div-eq_of_lt (omega arith) ∙ omega arith

    some : 0 < d % t → (d % t + (t - 1)) / t ≡ min 1 (d % t)
    some h =
        let e : d % t + (t - 1) ≡ 1 * t + (d % t - 1) = omega (arith, one-mul t) in
        let f : (d % t - 1) / t ≡ 0 = div-eq_of_lt (omega (arith, mod-lt d p)) in
        ap (λ (x : ℕ). x / t) e ∙ mul-add-div_right p 1 (d % t - 1) ∙ omega arith

-- a shape: ceilings, and the entries after them
abbrev pub entry : ℕ → ℕ → ℕ
entry d t = t

pub dims-end : (ts ds : List ℕ) (n : ℕ) → length ds ≡ n → length ts ≤ n → (at : List ℕ) (j : ℕ) → n + length ts ≤ length at → Partly ceil entry n ts ds at j → length ts ≤ j → take (n + length ts) at ≡ tile_dims ts ds
unfolding tile_dims
dims-end ts ds n is h =
    place_end ceil entry ts ds n is h (tile_dims ts ds) (tile-length ts ds (omega (arith, is)) ∙ ap (λ (x : ℕ). x + length ts) is)
    (λ i l. first ceil ts ts ds (omega (arith, is)) i (omega (arith, is)))
    (λ i a l. second ceil ts ts ds (omega (arith, is)) i (omega (arith, is)) (omega (arith, is)) ∙ ap (λ (x : ℕ). ceil (get_or ds i 0) (get_or ts (i - (x - length ts)) 0)) is)
    (λ i a l. third ceil ts ts ds (omega (arith, is)) i (omega (arith, is)) ∙ ap (λ (x : ℕ). get_or ts (i - x) 0) is)
