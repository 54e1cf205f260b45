-- The offset of an element of a row is that of the row's first element plus that of its place in the row. Assumes nothing.
use mathlib.Core.Path.{◌≡◌, refl, sym, ap, ◌∙◌, subst}
use mathlib.Core.Bool.{Bool, true, false, cond}
use mathlib.Core.Logic.{⊎_elim, ◌⊎◌, inl, inr}
use Prim.Native.Nat.{ℕ, zero, suc, ◌+◌, ◌-◌, ◌*◌, ◌/◌, ◌%◌, ◌<◌, ◌≤◌, min}
use native.Mathlib.Nat.{zero-div, zero-mod, zero-mul, zero-add, one-mul, add-zero, add-mul, add_assoc, mul_assoc, mul-pos, mul_comm, div-one, div-add-mod', mod-lt, mod-le, div-eq_of_lt, mod-eq_of_lt, div-div-eq-div-mul, div-lt_iff_lt-mul, lt-div-mul-add, lt_of_mul-lt-mul_right, mul-add-div_right, mul-add-mod_self_right, mul-le-mul_right, suc-mul, not-suc-le-zero, le_of_suc-le-suc, min-le_left, min-le_right, min-eq_left, min-eq_right}
use native.Mathlib.Omega.{arith}
use mathlib.Core.List.{List, [], ◌∷◌}
use lib.Dec.{ltb, eqb}
use lib.ListN.{length, get_or, take, drop, length-map}
use lib.Seq.{drop-cons}
use borrow.Author.Tests.{ltb-true, ltb-false, eqb-true}
use Rattle.radix.specs.Radix.{prod, digits, row_major, Sizes, Bounded}
use Rattle.radix.proofs.Lists.{le-or-lt}
use Rattle.radix.proofs.Loops.{rest-pos}
use Rattle.radix.proofs.Radix.{right-pos}
use Rattle.radix.proofs.Tests.{and_right}
use Rattle.shape.proofs.Permutations.{permutation-is, free-apart}
use Rattle.shape.specs.Dimensions.{Permutation, is_permutation, in_range, free}
use Rattle.tiling.proofs.OwnCells.{Valid, get_d-gather}
use Rattle.tiling.proofs.Sums.{Added, Sums, added-row, sums-tile, sums-gather, index-first, index-second, index-third}
use Rattle.tiling.proofs.Reaches.{reach-place}
use Rattle.tiling.proofs.Tiling.{Pos, all, one, Tiles, tiled, tile-length-index}
use Rattle.tiling.specs.Row.{quotient_reach, remainder_reach, divided_reach, tiled_reach, reached, row_room}
use Rattle.tiling.specs.Tile.{tile_index, index_of, gather, physical, offset_at, offset}
use Rattle.tiling.specs.declared.row.Reach.{Reach}

-- a reach never grows
abbrev one_of : Bool → ℕ → ℕ → Reach → Reach
one_of b t m f = cond b (quotient_reach t f) (remainder_reach t m f)

abbrev tiled-of : Bool → ℕ → ℕ → Reach → Reach
tiled-of b t m f = cond b f (divided_reach t m f)

one-most : (b : Bool) (t m : ℕ) (f : Reach) → (one_of b t m f).most ≤ f.most
one-most true t m f = omega arith
one-most false t m f = min-le_left f.most (f.scale * (t - f.coordinate % t))

tiled-most : (b : Bool) (t m : ℕ) (f : Reach) → (tiled-of b t m f).most ≤ f.most
tiled-most true t m f = omega arith
tiled-most false t m f = one-most (eqb (f.coordinate % t) 0) t m f

pub reached-most : (tss : List (List ℕ)) (n : ℕ) (f : Reach) → (reached tss n f).most ≤ f.most
reached-most [] n f = omega arith
reached-most (ts ∷ tss) n f = let a = reached-most tss (n + length ts) (tiled_reach ts n f) in let b = tiled-most (ltb f.place (n - length ts)) (get_or ts (f.place - (n - length ts)) 0) (length ts) f in omega (arith, a, b)

pub pos-at : {ts : List ℕ} → Pos ts → (k : ℕ) → k < length ts → 0 < get_or ts k 0
pos-at all k l = absurd (not-suc-le-zero l)
pos-at (one h p) zero l = h
pos-at (one h p) (suc k) l = pos-at p k (le_of_suc-le-suc l)

-- a row has at least one coordinate
one-some : (b : Bool) (t m : ℕ) (f : Reach) → 0 < t → 0 < f.scale → (0 < (one_of b t m f).scale) × (0 < f.most → 0 < (one_of b t m f).most)
one-some true t m f p s = (mul-pos s p, λ h. h)
one-some false t m f p s = (s, λ h. lt-min {a = f.most} h (mul-pos s (omega (arith, mod-lt f.coordinate p))))
  where
    lt-min : {a b : ℕ} → 0 < a → 0 < b → 0 < min a b
    lt-min {a} {b} x y = ⊎_elim (λ (q : a ≤ b). rw (min-eq_left q) x) (λ (q : b < a). let r : min a b ≡ b = min-eq_right (omega arith) in rw r y) (le-or-lt a b)

pub tiled-some : (ts : List ℕ) (n : ℕ) (f : Reach) → Pos ts → length ts ≤ n → f.place < n → 0 < f.scale → (0 < (tiled_reach ts n f).scale) × (0 < f.most → 0 < (tiled_reach ts n f).most)
tiled-some ts n f p h l s = go (ltb f.place (n - length ts)) refl
  where
    go : (b : Bool) → ltb f.place (n - length ts) ≡ b → (0 < (tiled-of b (get_or ts (f.place - (n - length ts)) 0) (length ts) f).scale) × (0 < f.most → 0 < (tiled-of b (get_or ts (f.place - (n - length ts)) 0) (length ts) f).most)
    go true e = (s, λ w. w)
    go false e = one-some (eqb (f.coordinate % get_or ts (f.place - (n - length ts)) 0) 0) (get_or ts (f.place - (n - length ts)) 0) (length ts) f (pos-at p (f.place - (n - length ts)) (omega (arith, ltb-false f.place (n - length ts) e))) s

pub reached-some : (tss : List (List ℕ)) (n : ℕ) (f : Reach) → Tiles tss n → f.place < n → 0 < f.scale → 0 < f.most → 0 < (reached tss n f).most
reached-some [] n f w l s h = h
reached-some (ts ∷ tss) n f (tiled p g w) l s h =
    let a = tiled-some ts n f p g l s in
    reached-some tss (n + length ts) (tiled_reach ts n f) w (reach-place ts n f g l) a.0 (a.1 h)

-- es has a row's first coordinate at the reach's place, fs has how far it is moved, in units of the scale, and gs is their sum
pub record Moved (n x : ℕ) (f : Reach) (es fs gs : List ℕ) : Type 0 where
  pub long : length gs ≡ n
  pub place : f.place < n
  pub scale : 0 < f.scale
  pub sums : Sums f.place es fs gs
  pub first : get_or es f.place 0 ≡ f.coordinate
  pub by : get_or fs f.place 0 ≡ x / f.scale

-- one tile
module _ (ts es fs gs : List ℕ) (x : ℕ) (f : Reach) (p : Pos ts) (h : length ts ≤ length gs) (v : Moved (length gs) x f es fs gs) where
  abbrev n : ℕ
  n = length gs

  abbrev m : ℕ
  m = length ts

  abbrev i : ℕ
  i = f.place

  abbrev t : ℕ
  t = get_or ts (i - (n - m)) 0

  long : length (tile_index ts gs) ≡ n + m
  long = tile-length-index ts gs h

  -- the place is not named
  unnamed : i < n - m → Moved (n + m) x f (tile_index ts es) (tile_index ts fs) (tile_index ts gs)
  unnamed l =
      record {
        long = long;
        place = omega arith;
        scale = v.scale;
        sums = sums-tile ts es fs gs i i v.sums h (pos-at p) (λ a. refl) (λ a b. absurd (omega arith)) (λ a b c. absurd (omega arith)) (λ a b c. absurd (omega arith));
        first = index-first ts es n v.sums.added.left h i l ∙ v.first;
        by = index-first ts fs n v.sums.added.right h i l ∙ v.by;
      }

  -- its coordinate is a multiple of the entry
  whole : n - m ≤ i → f.coordinate % t ≡ 0 → Moved (n + m) x (quotient_reach t f) (tile_index ts es) (tile_index ts fs) (tile_index ts gs)
  whole l z =
      let q : 0 < t = pos-at p (i - (n - m)) (omega (arith, v.place)) in
      let e : get_or es i 0 % t ≡ 0 = ap (λ (y : ℕ). y % t) v.first ∙ z in
      record {
        long = long;
        place = omega (arith, v.place);
        scale = mul-pos v.scale q;
        sums = sums-tile ts es fs gs i i v.sums h (pos-at p) (λ a. refl) (λ a b. omega (arith, e, mod-lt (get_or fs i 0) q)) (λ a b c. absurd (c refl)) (λ a b c. e);
        first = index-second ts es n v.sums.added.left h i l v.place ∙ ap (λ (y : ℕ). y / t) v.first;
        by = index-second ts fs n v.sums.added.right h i l v.place ∙ ap (λ (y : ℕ). y / t) v.by ∙ div-div-eq-div-mul x f.scale t;
      }

  -- something remains
  part : n - m ≤ i → x < f.scale * (t - f.coordinate % t) → Moved (n + m) x (remainder_reach t m f) (tile_index ts es) (tile_index ts fs) (tile_index ts gs)
  part l y =
      let q : 0 < t = pos-at p (i - (n - m)) (omega (arith, v.place)) in
      let e : get_or es i 0 % t ≡ f.coordinate % t = ap (λ (y : ℕ). y % t) v.first in
      let b : x / f.scale < t - f.coordinate % t = (div-lt_iff_lt-mul v.scale).1 (omega (arith, y, mul_comm f.scale (t - f.coordinate % t))) in
      let u : get_or fs i 0 < t - f.coordinate % t = omega (arith, b, v.by) in
      let w : i + m - n ≡ i - (n - m) = omega (arith, v.place) in
      let z : i + m - m ≡ i = omega arith in
      let k : n ≤ i + m = omega arith in
      let r : i + m < n + m = omega (arith, v.place) in
      record {
        long = long;
        place = omega (arith, v.place);
        scale = v.scale;
        sums =
            sums-tile ts es fs gs i (i + m) v.sums h (pos-at p) (λ a. absurd (omega arith))
            (λ a b. omega (arith, e, u, mod-le (get_or fs i 0) t))
            (λ a b c. div-eq_of_lt (omega (arith, u)))
            (λ a b c. absurd (c refl));
        first = index-third ts es n v.sums.added.left h (i + m) k r ∙ ap (λ (o : ℕ). get_or es o 0 % get_or ts (i + m - n) 0) z ∙ ap (λ (o : ℕ). get_or es i 0 % get_or ts o 0) w ∙ e;
        by =
            index-third ts fs n v.sums.added.right h (i + m) k r ∙ ap (λ (o : ℕ). get_or fs o 0 % get_or ts (i + m - n) 0) z ∙ ap (λ (o : ℕ). get_or fs i 0 % get_or ts o 0) w
            ∙ mod-eq_of_lt (omega (arith, u)) ∙ v.by;
      }

  named : n - m ≤ i → x < (divided_reach t m f).most → Moved (n + m) x (divided_reach t m f) (tile_index ts es) (tile_index ts fs) (tile_index ts gs)
  named l y = go (eqb (f.coordinate % t) 0) refl y
    where
      go : (b : Bool) → eqb (f.coordinate % t) 0 ≡ b → x < (one_of b t m f).most → Moved (n + m) x (one_of b t m f) (tile_index ts es) (tile_index ts fs) (tile_index ts gs)
      go true e y = whole l (eqb-true (f.coordinate % t) 0 e)
      go false e y = part l (omega (arith, y, min-le_right f.most (f.scale * (t - f.coordinate % t))))

  tile-moved : x < (tiled_reach ts n f).most → Moved (n + m) x (tiled_reach ts n f) (tile_index ts es) (tile_index ts fs) (tile_index ts gs)
  tile-moved y = go (ltb i (n - m)) refl y
    where
      go : (b : Bool) → ltb i (n - m) ≡ b → x < (tiled-of b t m f).most → Moved (n + m) x (tiled-of b t m f) (tile_index ts es) (tile_index ts fs) (tile_index ts gs)
      go true e y = unnamed (ltb-true i (n - m) e)
      go false e y = named (ltb-false i (n - m) e) y

-- all tiles: what is moved less far than the reach adds up in the physical index
pub reached-added : (tss : List (List ℕ)) (n x : ℕ) (f : Reach) (es fs gs : List ℕ) → Tiles tss n → Moved n x f es fs gs → x < (reached tss n f).most → Added (index_of tss es) (index_of tss fs) (index_of tss gs)
reached-added [] n x f es fs gs w v y = v.sums.added
reached-added (ts ∷ tss) n x f es fs gs (tiled p h w) v y =
    let e : n ≡ length gs = sym v.long in
    let u : Moved (length gs) x f es fs gs = subst (λ (k : ℕ). Moved k x f es fs gs) e v in
    let l : x < (tiled_reach ts n f).most = omega (arith, y, reached-most tss (n + length ts) (tiled_reach ts n f)) in
    let g : Moved (n + length ts) x (tiled_reach ts n f) (tile_index ts es) (tile_index ts fs) (tile_index ts gs) =
    subst (λ (k : ℕ). Moved (k + length ts) x (tiled_reach ts k f) (tile_index ts es) (tile_index ts fs) (tile_index ts gs)) v.long
    (tile-moved ts es fs gs x f p (omega (arith, h, e)) u (subst (λ (k : ℕ). x < (tiled_reach ts k f).most) e l)) in
    reached-added tss (n + length ts) x (tiled_reach ts n f) (tile_index ts es) (tile_index ts fs) (tile_index ts gs) w g y

-- the digits of 0, and how many digits there are
pub digits-none : (ds : List ℕ) (k : ℕ) → get_or (digits ds 0) k 0 ≡ 0
digits-none [] k = refl
digits-none (d ∷ ds) zero = zero-div (prod ds)
digits-none (d ∷ ds) (suc k) = ap (λ (x : ℕ). get_or (digits ds x) k 0) (zero-mod (prod ds)) ∙ digits-none ds k

pub digits-length : (ds : List ℕ) (x : ℕ) → length (digits ds x) ≡ length ds
digits-length [] x = refl
digits-length (d ∷ ds) x = ap suc (digits-length ds (x % prod ds))

-- a sum with one more place in front: one that both may use, where the rest of es is 0, or one that only es uses
sums-here : (e f g : ℕ) (es fs : List ℕ) → g ≡ e + f → length es ≡ length fs → ((k : ℕ) → get_or es k 0 ≡ 0) → Sums 0 (e ∷ es) (f ∷ fs) (g ∷ fs)
sums-here e f g es fs q l z = record { added = record { left = ap suc l; right = refl; sum = sum }; apart = apart }
  where
    sum : (k : ℕ) → get_or (g ∷ fs) k 0 ≡ get_or (e ∷ es) k 0 + get_or (f ∷ fs) k 0
    sum zero = q
    sum (suc k) = sym (ap (λ (x : ℕ). x + get_or fs k 0) (z k) ∙ zero-add (get_or fs k 0))

    apart : (k : ℕ) → (k ≡ 0 → ⊥) → (get_or (e ∷ es) k 0 ≡ 0) ⊎ (get_or (f ∷ fs) k 0 ≡ 0)
    apart zero n = absurd (n refl)
    apart (suc k) n = inl (z k)

pub sums-there : (i e f g : ℕ) (es fs gs : List ℕ) → f ≡ 0 → g ≡ e → Sums i es fs gs → Sums (suc i) (e ∷ es) (f ∷ fs) (g ∷ gs)
sums-there i e f g es fs gs z q s = record { added = record { left = ap suc s.added.left; right = ap suc s.added.right; sum = sum }; apart = apart }
  where
    sum : (k : ℕ) → get_or (g ∷ gs) k 0 ≡ get_or (e ∷ es) k 0 + get_or (f ∷ fs) k 0
    sum zero = omega (arith, z, q)
    sum (suc k) = s.added.sum k

    apart : (k : ℕ) → (k ≡ suc i → ⊥) → (get_or (e ∷ es) k 0 ≡ 0) ⊎ (get_or (f ∷ fs) k 0 ≡ 0)
    apart zero n = inr z
    apart (suc k) n = s.apart k (λ w. n (ap suc w))

-- the product of the first sizes and of the rest
pub prod-split : (k : ℕ) (ds : List ℕ) → prod (take k ds) * prod (drop k ds) ≡ prod ds
prod-split zero ds = one-mul (prod ds)
prod-split (suc k) [] = refl
prod-split (suc k) (d ∷ ds) = mul_assoc d (prod (take k ds)) (prod (drop k ds)) ∙ ap (λ (x : ℕ). d * x) (prod-split k ds)

-- one more size in front: r * W + x over P * W, where x is below W
row-digit : (P W Q r x : ℕ) → P * W ≡ Q → 0 < P → x < W → ((r * W + x) / Q ≡ r / P) × ((r * W + x) % Q ≡ r % P * W + x)
row-digit P W Q r x e p h =
    let l : r % P * W + x < Q = omega (arith, mul-le-mul_right W (mod-lt r p), suc-mul (r % P) W) in
    let s : r * W + x ≡ r / P * Q + (r % P * W + x) =
    ap (λ (y : ℕ). y * W + x) (sym (div-add-mod' r P)) ∙ ap (λ (y : ℕ). y + x) (add-mul (r / P * P) (r % P) W)
    ∙ ap (λ (y : ℕ). y + r % P * W + x) (mul_assoc (r / P) P W ∙ ap (λ (y : ℕ). r / P * y) e) ∙ add_assoc (r / P * Q) (r % P * W) x in
    let q : 0 < Q = omega arith in (
      ap (λ (y : ℕ). y / Q) s ∙ mul-add-div_right q (r / P) (r % P * W + x) ∙ ap (λ (y : ℕ). r / P + y) (div-eq_of_lt l) ∙ add-zero (r / P),
      ap (λ (y : ℕ). y % Q) s ∙ mul-add-mod_self_right (r / P) Q (r % P * W + x) ∙ mod-eq_of_lt l,
    )

-- The element c * P places into block r of the sizes from k on, P the product of the sizes after k, and j further ones.
pub record Begun (k : ℕ) (ds : List ℕ) (c n j : ℕ) : Type 0 where
  pub sums : Sums k (digits ds n) (digits ds j) (digits ds (n + j))
  pub first : get_or (digits ds n) k 0 ≡ c
  pub by : get_or (digits ds j) k 0 ≡ j / prod (drop (suc k) ds)

begun-here : (d : ℕ) (ds : List ℕ) (c j : ℕ) → c * prod ds + j < d * prod ds → Begun 0 (d ∷ ds) c (c * prod ds) j
begun-here d ds c j h =
    let P = prod ds in
    let p : 0 < P = right-pos d P h in
    let a : c * P / P ≡ c = ap (λ (y : ℕ). y / P) (sym (add-zero (c * P))) ∙ mul-add-div_right p c 0 ∙ ap (λ (y : ℕ). c + y) (zero-div P) ∙ add-zero c in
    let b : c * P % P ≡ 0 = ap (λ (y : ℕ). y % P) (sym (add-zero (c * P))) ∙ mul-add-mod_self_right c P 0 ∙ zero-mod P in
    record {
      sums =
          rw (b, mul-add-mod_self_right c P j)
          (sums-here (c * P / P) (j / P) ((c * P + j) / P) (digits ds 0) (digits ds (j % P)) (mul-add-div_right p c j ∙ ap (λ (y : ℕ). y + j / P) (sym a)) (digits-length ds 0 ∙ sym (digits-length ds (j % P))) (digits-none ds));
      first = a;
      by = refl;
    }

pub begun : (k : ℕ) (ds : List ℕ) (r c j : ℕ) → k < length ds → r < prod (take k ds) → c * prod (drop (suc k) ds) + j < prod (drop k ds)
    → Begun k ds c (r * prod (drop k ds) + c * prod (drop (suc k) ds)) j
begun k [] r c j l h g = absurd (not-suc-le-zero l)
begun zero (d ∷ ds) r c j l h g =
    let z : r ≡ 0 = omega arith in
    let e : r * (d * prod ds) + c * prod ds ≡ c * prod ds = ap (λ (y : ℕ). y * (d * prod ds) + c * prod ds) z ∙ ap (λ (y : ℕ). y + c * prod ds) (zero-mul (d * prod ds)) ∙ zero-add (c * prod ds) in
    subst (λ (n : ℕ). Begun 0 (d ∷ ds) c n j) (sym e) (begun-here d ds c j g)
begun (suc k) (d ∷ ds) r c j l h g =
    let W = prod (drop k ds) in
    let P = prod (take k ds) in
    let Q = prod ds in
    let x = c * prod (drop (suc k) ds) in
    let p : 0 < P = right-pos d P h in
    let e : P * W ≡ Q = prod-split k ds in
    let w : j < Q = omega (arith, mul-le-mul_right W p, one-mul W) in
    let a = row-digit P W Q r x e p (omega arith) in
    let b = row-digit P W Q r (x + j) e p g in
    let y : r * W + x + j ≡ r * W + (x + j) = omega arith in
    let f : (r * W + x + j) / Q ≡ r / P = ap (λ (z : ℕ). z / Q) y ∙ b.0 in
    let u : (r * W + x + j) % Q ≡ r % P * W + x + j = ap (λ (z : ℕ). z % Q) y ∙ b.1 ∙ sym (add_assoc (r % P * W) x j) in
    let i = begun k ds (r % P) c j (le_of_suc-le-suc l) (mod-lt r p) g in
    record {
      sums = sums-there k ((r * W + x) / Q) (j / Q) ((r * W + x + j) / Q) (digits ds ((r * W + x) % Q)) (digits ds (j % Q)) (digits ds ((r * W + x + j) % Q)) (div-eq_of_lt w) (f ∙ sym a.0) (rw (a.1, mod-eq_of_lt w, u) i.sums);
      first = ap (λ (z : ℕ). get_or (digits ds z) k 0) a.1 ∙ i.first;
      by = ap (λ (z : ℕ). get_or (digits ds z) k 0) (mod-eq_of_lt w) ∙ i.by;
    }

-- a permutation has a dimension at one place only
pub one_place : (p : List ℕ) → Permutation p → (i k : ℕ) → i < length p → k < length p → get_or p k 0 ≡ get_or p i 0 → k ≡ i
unfolding is_permutation
one_place p q i k l h e =
    let a = free-apart p (and_right (in_range (length p) p) (free p) (permutation-is p q)) in
    ⊎_elim
    (λ (w : i ≤ k). ⊎_elim (λ (y : k ≤ i). omega arith) (λ (y : i < k). absurd (a i k y h (sym e))) (le-or-lt k i))
    (λ (w : k < i). absurd (a k i w l e)) (le-or-lt i k)

-- Coordinates es and fs that share only dimension k, at place i of the order: where fs has fewer of it than the row from es on has room for, offsets add up.
pub sums-offset : (sizes p : List ℕ) (tss : List (List ℕ)) → Valid sizes p tss → (k i c b x : ℕ) (es fs gs : List ℕ) → i < length p → get_or p i 0 ≡ k → Sums k es fs gs → get_or es k 0 ≡ c → get_or fs k 0 ≡ x
    → x < row_room tss (length p) i c b → offset_at sizes p tss gs ≡ offset_at sizes p tss es + offset_at sizes p tss fs
unfolding offset_at
sums-offset sizes p tss v k i c b x es fs gs h e s first by near =
    let start : Reach = record { place = i; coordinate = c; scale = 1; most = b } in
    let m : Moved (length p) x start (gather p es) (gather p fs) (gather p gs) =
    record {
      long = length-map p (λ (o : ℕ). get_or gs o 0);
      place = h;
      scale = omega arith;
      sums = sums-gather p k i es fs gs (λ o w z. one_place p v.perm i o h w (z ∙ sym e)) s;
      first = get_d-gather p es i h ∙ ap (λ (o : ℕ). get_or es o 0) e ∙ first;
      by = get_d-gather p fs i h ∙ ap (λ (o : ℕ). get_or fs o 0) e ∙ by ∙ sym (div-one x);
    } in
    added-row (physical sizes p tss) (index_of tss (gather p es)) (index_of tss (gather p fs)) (index_of tss (gather p gs)) (reached-added tss (length p) x start (gather p es) (gather p fs) (gather p gs) v.tiles m near)

-- Elements in steps of the sizes after k: from step q on, an element j places further, j below the row's room, has the offset of the first one plus that of element j.
module _ (sizes p : List ℕ) (tss : List (List ℕ)) (v : Valid sizes p tss) (small : Sizes sizes) (k i : ℕ) (l : k < length sizes) (h : i < length p) (e : get_or p i 0 ≡ k) where
  abbrev d : ℕ
  d = get_or sizes k 0

  abbrev P : ℕ
  P = prod (drop (suc k) sizes)

  positive : 0 < d
  unfolding Bounded
  positive = (small k l).0

  pub span_pos : 0 < P
  span_pos = rest-pos sizes (suc k) small

  from-k : prod (drop k sizes) ≡ d * P
  from-k = ap prod (drop-cons sizes k 0 l)

  -- step q is coordinate q % d of block q / d
  step : (q : ℕ) → q * P ≡ q / d * prod (drop k sizes) + q % d * P
  step q =
      ap (λ (y : ℕ). y * P) (sym (div-add-mod' q d)) ∙ add-mul (q / d * d) (q % d) P ∙ ap (λ (y : ℕ). y + q % d * P) (mul_assoc (q / d) d P ∙ ap (λ (y : ℕ). q / d * y) (sym from-k))

  module _ (q : ℕ) (inside : q * P < prod sizes) where
    block : q / d < prod (take k sizes)
    block = lt_of_mul-lt-mul_right (prod (drop k sizes)) (omega (arith, step q, prod-split k sizes, inside))

    -- the block of step q ends among the elements
    pub block-end : (q + (d - q % d)) * P ≤ prod sizes
    block-end =
        let z : q + (d - q % d) ≡ (q / d + 1) * d = omega (arith, div-add-mod' q d, mod-lt q positive) in
        let y : (q / d + 1) * d * P ≡ (q / d + 1) * prod (drop k sizes) = mul_assoc (q / d + 1) d P ∙ ap (λ (o : ℕ). (q / d + 1) * o) (sym from-k) in
        let w : (q / d + 1) * prod (drop k sizes) ≤ prod (take k sizes) * prod (drop k sizes) = mul-le-mul_right (prod (drop k sizes)) (omega (arith, block)) in
        omega (arith, ap (λ (o : ℕ). o * P) z, prod-split k sizes)

  module _ (q b j : ℕ) (inside : q * P < prod sizes) (few : b ≤ d - q % d) (near : j / P < row_room tss (length p) i (q % d) b) where
    abbrev c : ℕ
    c = q % d

    abbrev start : Reach
    start = record { place = i; coordinate = c; scale = 1; most = b }

    within : c * P + j < prod (drop k sizes)
    within =
        let r : j / P < d - c = omega (arith, near, few, reached-most tss (length p) start) in
        let s : j < j / P * P + P = lt-div-mul-add span_pos in
        let u : (j / P + 1) * P ≤ (d - c) * P = mul-le-mul_right P (omega arith) in
        let y : (c + (d - c)) * P ≡ c * P + (d - c) * P = add-mul c (d - c) P in
        let z : c + (d - c) ≡ d = omega (arith, mod-lt q positive) in
        omega (arith, from-k, ap (λ (o : ℕ). o * P) z)

    pub row-offset : offset sizes p tss (q * P + j) ≡ offset sizes p tss (q * P) + offset sizes p tss j
    unfolding offset
    row-offset =
        let g : Begun k sizes c (q * P) j = subst (λ (n : ℕ). Begun k sizes c n j) (sym (step q)) (begun k sizes (q / d) c j l (block q inside) within) in
        sums-offset sizes p tss v k i c b (j / P) (digits sizes (q * P)) (digits sizes j) (digits sizes (q * P + j)) h e g.sums g.first g.by near

-- without a dimension the one element has offset 0
index-none : (tss : List (List ℕ)) (es : List ℕ) → Tiles tss 0 → length es ≡ 0 → length (index_of tss es) ≡ 0
index-none [] es w e = e
index-none (ts ∷ tss) es (tiled p h w) e =
    let z : length ts ≡ 0 = omega (arith, h) in
    index-none tss (tile_index ts es) (subst (λ (m : ℕ). Tiles tss (0 + m)) z w) (tile-length-index ts es (omega (arith, z)) ∙ omega (arith, z, e))

row-none : (ds es : List ℕ) → length es ≡ 0 → row_major ds es ≡ 0
row-none [] es e = refl
row-none (d ∷ ds) [] e = refl
row-none (d ∷ ds) (x ∷ es) e = absurd (omega arith)

pub offset-none : (sizes p : List ℕ) (tss : List (List ℕ)) → Valid sizes p tss → length sizes ≡ 0 → (n : ℕ) → offset sizes p tss n ≡ 0
unfolding offset offset_at
offset-none sizes p tss v e n =
    let z : length p ≡ 0 = v.rank ∙ e in
    row-none (physical sizes p tss) (index_of tss (gather p (digits sizes n)))
    (index-none tss (gather p (digits sizes n)) (subst (λ (m : ℕ). Tiles tss m) z v.tiles) (length-map p (λ (o : ℕ). get_or (digits sizes n) o 0) ∙ z))
