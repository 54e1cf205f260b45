-- The offset of a coordinate: what a row reaches of it, through all tiles, adds one product to the offset of the rest. Assumes nothing.
use mathlib.Core.Path.{◌≡◌, refl, sym, ap, ◌∙◌, subst}
use mathlib.Core.Bool.{Bool, true, false, cond}
use mathlib.Core.Logic.{⊎_elim}
use Prim.Native.Nat.{ℕ, zero, suc, ◌+◌, ◌-◌, ◌*◌, ◌/◌, ◌%◌, ◌<◌, ◌≤◌}
use native.Mathlib.Nat.{zero-mul, one-mul, mul-one, mul_assoc, mul_comm, mul-sub, add-zero, mul-pos, eq-zero-or-pos, div-eq_of_lt, mod-eq_of_lt, mod-lt, mod-le, div-add-mod', div-mul-le_self, mul-div_cancel, mul-mod_left, mul-add-div_right, mul-add-mod_self_right, mul-le-mul_right, mul-lt-mul_of_pos_right, not-suc-le-zero, le_of_suc-le-suc, suc_inj}
use native.Mathlib.Omega.{arith}
use mathlib.Core.List.{List, [], ◌∷◌}
use lib.Dec.{ltb, eqb}
use lib.ListN.{length, get_or, drop, length-map}
use lib.Seq.{ext_get_or}
use borrow.Author.Tests.{ltb-true, ltb-false, eqb-true, eqb-false}
use Rattle.radix.specs.Radix.{max_size, prod, digits, row_major, Sizes}
use Rattle.radix.proofs.Lists.{le-or-lt}
use Rattle.radix.proofs.Loops.{prod-pos}
use Rattle.radix.proofs.Radix.{right-pos}
use Rattle.shape.specs.Dimensions.{Permutation}
use Rattle.tiling.proofs.OwnCells.{Valid, get_d-gather}
use Rattle.tiling.proofs.Reaches.{reach-place}
use Rattle.tiling.proofs.Rows.{pos-at, tiled-some, digits-none, one_place}
use Rattle.tiling.proofs.Shaped.{bounded-pos}
use Rattle.tiling.proofs.Sums.{equal-or, index-first, index-second, index-third, index-past, by_place, past-gather}
use Rattle.tiling.proofs.Tiling.{Pos, all, one, Tiles, tiled, tile-length, tile-length-index}
use Rattle.tiling.specs.Row.{quotient_reach, remainder_reach, tiled_reach, reached, row_reach}
use Rattle.tiling.specs.Tile.{tile_dims, tile_index, dims_of, index_of, gather, physical, offset_at, offset}
use Rattle.tiling.specs.declared.row.Reach.{Reach}

-- v stands at place i, and 0 at every other place
record Alone (i v : ℕ) (es : List ℕ) : Type 0 where
  here : get_or es i 0 ≡ v
  else : (k : ℕ) → (k ≡ i → ⊥) → get_or es k 0 ≡ 0

alone-front : (v : ℕ) (es : List ℕ) → ((k : ℕ) → get_or es k 0 ≡ 0) → Alone 0 v (v ∷ es)
alone-front v es z = record { here = refl; else = else }
  where
    else : (k : ℕ) → (k ≡ 0 → ⊥) → get_or (v ∷ es) k 0 ≡ 0
    else zero q = absurd (q refl)
    else (suc k) q = z k

alone-next : (i v : ℕ) (es : List ℕ) → Alone i v es → Alone (suc i) v (0 ∷ es)
alone-next i v es a = record { here = a.here; else = else }
  where
    else : (k : ℕ) → (k ≡ suc i → ⊥) → get_or (0 ∷ es) k 0 ≡ 0
    else zero q = refl
    else (suc k) q = a.else k (λ e. q (ap suc e))

-- the digits of x times the product of the sizes after k
step-below : {ds : List ℕ} → Pos ds → (k x : ℕ) → k < length ds → x < get_or ds k 0 → x * prod (drop (suc k) ds) < prod ds
step-below all k x l h = absurd (not-suc-le-zero l)
step-below (one {ts = ds} q p) zero x l h = mul-lt-mul_of_pos_right h (prod-pos ds (pos-at p))
step-below (one {ts = ds} q p) (suc k) x l h = let r = step-below p k x (le_of_suc-le-suc l) h in omega (arith, r, mul-le-mul_right (prod ds) q, one-mul (prod ds))

alone-digits : {ds : List ℕ} → Pos ds → (k x : ℕ) → k < length ds → x < get_or ds k 0 → Alone k x (digits ds (x * prod (drop (suc k) ds)))
alone-digits all k x l h = absurd (not-suc-le-zero l)
alone-digits (one {ts = ds} q p) zero x l h = rw (mul-div_cancel x (prod-pos ds (pos-at p)), mul-mod_left x (prod ds)) (alone-front x (digits ds 0) (digits-none ds))
alone-digits (one {ts = ds} q p) (suc k) x l h =
    let n = x * prod (drop (suc k) ds) in
    let r : n < prod ds = step-below p k x (le_of_suc-le-suc l) h in
    rw (div-eq_of_lt r, mod-eq_of_lt r) (alone-next k x (digits ds n) (alone-digits p k x (le_of_suc-le-suc l) h))

-- in another order
alone-gather : (p : List ℕ) → Permutation p → (k i v : ℕ) (es : List ℕ) → i < length p → get_or p i 0 ≡ k → Alone k v es → Alone i v (gather p es)
alone-gather p w k i v es h e a =
    record {
      here = get_d-gather p es i h ∙ ap (λ (o : ℕ). get_or es o 0) e ∙ a.here;
      else =
          λ o q.
          ⊎_elim (past-gather p es o)
          (λ (l : o < length p). get_d-gather p es o l ∙ a.else (get_or p o 0) (λ z. q (one_place p w i o h l (z ∙ sym e)))) (le-or-lt (length p) o);
    }

-- What of the coordinate goes through all tiles, in units of the scale.
abbrev of : Bool → Bool → ℕ → ℕ → Reach → Reach
of a b t m f = cond a f (cond b (quotient_reach t f) (remainder_reach t m f))

abbrev kept_of : Bool → Bool → ℕ → ℕ → ℕ
kept_of a b t r = cond a r (cond b (r * t) r)

abbrev entry : List ℕ → ℕ → Reach → ℕ
entry ts n f = get_or ts (f.place - (n - length ts)) 0

abbrev kept : List (List ℕ) → ℕ → Reach → ℕ
kept [] n f = f.coordinate
kept (ts ∷ tss) n f = kept_of (ltb f.place (n - length ts)) (eqb (f.coordinate % entry ts n f) 0) (entry ts n f) (kept tss (n + length ts) (tiled_reach ts n f))

kept-le : (tss : List (List ℕ)) (n : ℕ) (f : Reach) → kept tss n f ≤ f.coordinate
kept-le [] n f = omega arith
kept-le (ts ∷ tss) n f = go (ltb f.place (n - length ts)) (eqb (f.coordinate % t) 0) (kept tss (n + length ts) (tiled_reach ts n f)) (kept-le tss (n + length ts) (tiled_reach ts n f))
  where
    t : ℕ
    t = entry ts n f

    go : (a b : Bool) (r : ℕ) → r ≤ (of a b t (length ts) f).coordinate → kept_of a b t r ≤ f.coordinate
    go true b r h = h
    go false true r h = omega (arith, mul-le-mul_right t h, div-mul-le_self f.coordinate t)
    go false false r h = omega (arith, h, mod-le f.coordinate t)

kept-pos : (tss : List (List ℕ)) (n : ℕ) (f : Reach) → 0 < f.coordinate → 0 < kept tss n f
kept-pos [] n f h = h
kept-pos (ts ∷ tss) n f h = go (ltb f.place (n - length ts)) (eqb (f.coordinate % t) 0) refl (kept tss (n + length ts) (tiled_reach ts n f)) (kept-pos tss (n + length ts) (tiled_reach ts n f))
  where
    t : ℕ
    t = entry ts n f

    go : (a b : Bool) → eqb (f.coordinate % t) 0 ≡ b → (r : ℕ) → (0 < (of a b t (length ts) f).coordinate → 0 < r) → 0 < kept_of a b t r
    go true b e r i = i h
    go false true e r i =
        let c : 0 < f.coordinate / t * t = omega (arith, div-add-mod' f.coordinate t, eqb-true (f.coordinate % t) 0 e) in
        let d : 0 < t * (f.coordinate / t) = omega (arith, c, mul_comm (f.coordinate / t) t) in
        mul-pos (i (right-pos t (f.coordinate / t) d)) (right-pos (f.coordinate / t) t c)
    go false false e r i = i (⊎_elim (λ (z : f.coordinate % t ≡ 0). absurd (eqb-false (f.coordinate % t) 0 e z)) (λ (z : 0 < f.coordinate % t). z) (eq-zero-or-pos (f.coordinate % t)))

kept-worth : (tss : List (List ℕ)) (n : ℕ) (f : Reach) → (reached tss n f).coordinate * (reached tss n f).scale ≡ kept tss n f * f.scale
kept-worth [] n f = refl
kept-worth (ts ∷ tss) n f = kept-worth tss (n + length ts) (tiled_reach ts n f) ∙ go (ltb f.place (n - length ts)) (eqb (f.coordinate % t) 0) (kept tss (n + length ts) (tiled_reach ts n f))
  where
    t : ℕ
    t = entry ts n f

    go : (a b : Bool) (r : ℕ) → r * (of a b t (length ts) f).scale ≡ kept_of a b t r * f.scale
    go true b r = refl
    go false true r = ap (λ (x : ℕ). r * x) (mul_comm f.scale t) ∙ sym (mul_assoc r t f.scale)
    go false false r = refl

-- v and w stand at place i of es and gs, and the same at every other place
record Beside (i v w : ℕ) (es gs : List ℕ) : Type 0 where
  left : get_or es i 0 ≡ v
  right : get_or gs i 0 ≡ w
  else : (k : ℕ) → (k ≡ i → ⊥) → get_or es k 0 ≡ get_or gs k 0

-- one tile, where r goes on of the coordinate
module _ (ts es gs : List ℕ) (n : ℕ) (f : Reach) (p : Pos ts) (long : length es ≡ n) (wide : length gs ≡ n) (h : length ts ≤ n) (inside : f.place < n) where
  abbrev m : ℕ
  m = length ts

  abbrev i : ℕ
  i = f.place

  abbrev t : ℕ
  t = entry ts n f

  abbrev c : ℕ
  c = f.coordinate

  module _ (v : ℕ) (a : Beside i v c es gs) where
    -- what stood at place i goes to place j, and every other place has the same
    goes : (j : ℕ) → (i < n - m → j ≡ i) → (n - m ≤ i → (i ≡ j → ⊥) → v / t ≡ c / t) → (n - m ≤ i → (i + m ≡ j → ⊥) → v % t ≡ c % t) → (k : ℕ) → (k ≡ j → ⊥) → get_or (tile_index ts es) k 0 ≡ get_or (tile_index ts gs) k 0
    goes j stay quotient remainder =
        by_place (λ (k : ℕ). (k ≡ j → ⊥) → get_or (tile_index ts es) k 0 ≡ get_or (tile_index ts gs) k 0) n m h
        (λ k l q. index-first ts es n long h k l ∙ a.else k (λ w. q (w ∙ sym (stay (omega arith)))) ∙ sym (index-first ts gs n wide h k l))
        (λ k g l q.
        index-second ts es n long h k g l
        ∙ ⊎_elim
        (λ (e : k ≡ i). subst (λ (x : ℕ). get_or es x 0 / get_or ts (x - (n - m)) 0 ≡ get_or gs x 0 / get_or ts (x - (n - m)) 0) (sym e) (ap (λ (x : ℕ). x / t) a.left ∙ quotient (omega arith) (λ w. q (e ∙ w)) ∙ sym (ap (λ (x : ℕ). x / t) a.right)))
        (λ (e : k ≡ i → ⊥). ap (λ (x : ℕ). x / get_or ts (k - (n - m)) 0) (a.else k e)) (equal-or k i)
        ∙ sym (index-second ts gs n wide h k g l))
        (λ k g l q.
        index-third ts es n long h k g l
        ∙ ⊎_elim
        (λ (e : k - m ≡ i).
        let u : k - n ≡ i - (n - m) = omega arith in
        let w : i + m ≡ k = omega arith in
        let s : v % t ≡ c % t = remainder (omega arith) (λ z. q (sym w ∙ z)) in
        rw (u, e) (ap (λ (x : ℕ). x % t) a.left ∙ s ∙ sym (ap (λ (x : ℕ). x % t) a.right)))
        (λ (e : k - m ≡ i → ⊥). ap (λ (x : ℕ). x % get_or ts (k - n) 0) (a.else (k - m) e)) (equal-or (k - m) i)
        ∙ sym (index-third ts gs n wide h k g l))
        (λ k g q. index-past ts es n long h k g ∙ sym (index-past ts gs n wide h k g))

    -- the entries at the place and at that of its remainder
    here-unnamed : i < n - m → (xs : List ℕ) → length xs ≡ n → get_or (tile_index ts xs) i 0 ≡ get_or xs i 0
    here-unnamed l xs e = index-first ts xs n e h i l

    here-quotient : n - m ≤ i → (xs : List ℕ) → length xs ≡ n → get_or (tile_index ts xs) i 0 ≡ get_or xs i 0 / t
    here-quotient l xs e = index-second ts xs n e h i l inside

    here-remainder : n - m ≤ i → (xs : List ℕ) → length xs ≡ n → get_or (tile_index ts xs) (i + m) 0 ≡ get_or xs i 0 % t
    here-remainder l xs e =
        let u : i + m - n ≡ i - (n - m) = omega arith in
        let w : i + m - m ≡ i = omega arith in
        index-third ts xs n e h (i + m) (omega arith) (omega arith) ∙ ap (λ (x : ℕ). get_or xs (i + m - m) 0 % get_or ts x 0) u ∙ ap (λ (x : ℕ). get_or xs x 0 % t) w

  positive : n - m ≤ i → 0 < t
  positive l = pos-at p (i - (n - m)) (omega arith)

  unnamed : (r : ℕ) → i < n - m → Beside i (c - r) c es gs → Beside i (c - r) c (tile_index ts es) (tile_index ts gs)
  unnamed r l a =
      record {
        left = here-unnamed (c - r) a l es long ∙ a.left;
        right = here-unnamed (c - r) a l gs wide ∙ a.right;
        else = goes (c - r) a i (λ _. refl) (λ g _. absurd (omega arith)) (λ g _. absurd (omega arith));
      }

  -- the coordinate is a multiple of the entry, and so is what goes on
  whole : (r : ℕ) → n - m ≤ i → c % t ≡ 0 → Beside i (c - r * t) c es gs → Beside i (c / t - r) (c / t) (tile_index ts es) (tile_index ts gs)
  whole r l z a =
      let e : c ≡ c / t * t = omega (arith, div-add-mod' c t, z) in
      let u : (c / t - r) * t ≡ t * (c / t) - t * r = mul_comm (c / t - r) t ∙ mul-sub t (c / t) r in
      let d : c - r * t ≡ (c / t - r) * t = omega (arith, u, e, mul_comm t (c / t), mul_comm t r) in
      record {
        left = here-quotient (c - r * t) a l es long ∙ ap (λ (x : ℕ). x / t) (a.left ∙ d) ∙ mul-div_cancel (c / t - r) (positive l);
        right = here-quotient (c - r * t) a l gs wide ∙ ap (λ (x : ℕ). x / t) a.right;
        else = goes (c - r * t) a i (λ _. refl) (λ _ q. absurd (q refl)) (λ _ _. ap (λ (x : ℕ). x % t) d ∙ mul-mod_left (c / t - r) t ∙ sym z);
      }

  -- something remains, and of that r goes on
  part : (r : ℕ) → n - m ≤ i → r ≤ c % t → Beside i (c - r) c es gs → Beside (i + m) (c % t - r) (c % t) (tile_index ts es) (tile_index ts gs)
  part r l k a =
      let b : c % t < t = mod-lt c (positive l) in
      let d : c - r ≡ c / t * t + (c % t - r) = omega (arith, div-add-mod' c t) in
      let y : c % t - r < t = omega arith in
      let q : (c - r) / t ≡ c / t = ap (λ (x : ℕ). x / t) d ∙ mul-add-div_right (positive l) (c / t) (c % t - r) ∙ ap (λ (x : ℕ). c / t + x) (div-eq_of_lt y) ∙ add-zero (c / t) in
      let u : (c - r) % t ≡ c % t - r = ap (λ (x : ℕ). x % t) d ∙ mul-add-mod_self_right (c / t) t (c % t - r) ∙ mod-eq_of_lt y in
      record {
        left = here-remainder (c - r) a l es long ∙ ap (λ (x : ℕ). x % t) a.left ∙ u;
        right = here-remainder (c - r) a l gs wide ∙ ap (λ (x : ℕ). x % t) a.right;
        else = goes (c - r) a (i + m) (λ g. absurd (omega arith)) (λ _ _. q) (λ _ w. absurd (w refl));
      }

  tile-beside : (r : ℕ) → r ≤ (tiled_reach ts n f).coordinate → Beside i (c - kept_of (ltb i (n - m)) (eqb (c % t) 0) t r) c es gs
      → Beside (tiled_reach ts n f).place ((tiled_reach ts n f).coordinate - r) (tiled_reach ts n f).coordinate (tile_index ts es) (tile_index ts gs)
  tile-beside r = go (ltb i (n - m)) refl (eqb (c % t) 0) refl
    where
      go : (x : Bool) → ltb i (n - m) ≡ x → (y : Bool) → eqb (c % t) 0 ≡ y → r ≤ (of x y t m f).coordinate → Beside i (c - kept_of x y t r) c es gs
          → Beside (of x y t m f).place ((of x y t m f).coordinate - r) (of x y t m f).coordinate (tile_index ts es) (tile_index ts gs)
      go true e y d k a = unnamed r (ltb-true i (n - m) e) a
      go false e true d k a = whole r (ltb-false i (n - m) e) (eqb-true (c % t) 0 d) a
      go false e false d k a = part r (ltb-false i (n - m) e) k a

longer : (ts es : List ℕ) (n : ℕ) → length ts ≤ n → length es ≡ n → length (tile_index ts es) ≡ n + length ts
longer ts es n h e = tile-length-index ts es (omega arith) ∙ ap (λ (x : ℕ). x + length ts) e

-- all tiles: nothing is left at the place that is reached
reached-beside : (tss : List (List ℕ)) (n : ℕ) (f : Reach) (es gs : List ℕ) → Tiles tss n → length es ≡ n → length gs ≡ n → f.place < n → Beside f.place (f.coordinate - kept tss n f) f.coordinate es gs
    → Beside (reached tss n f).place 0 (reached tss n f).coordinate (index_of tss es) (index_of tss gs)
reached-beside [] n f es gs w e g l a = let z : f.coordinate - f.coordinate ≡ 0 = omega arith in subst (λ (x : ℕ). Beside f.place x f.coordinate es gs) z a
reached-beside (ts ∷ tss) n f es gs (tiled p h w) e g l a =
    reached-beside tss (n + length ts) (tiled_reach ts n f) (tile_index ts es) (tile_index ts gs) w (longer ts es n h e) (longer ts gs n h g) (reach-place ts n f h l)
    (tile-beside ts es gs n f p e g h l (kept tss (n + length ts) (tiled_reach ts n f)) (kept-le tss (n + length ts) (tiled_reach ts n f)) a)

-- and it adds one product to the row-major number
beside-row : (ds es gs : List ℕ) (i w : ℕ) → i < length ds → length es ≡ length gs → Beside i 0 w es gs → row_major ds gs ≡ row_major ds es + w * prod (drop (suc i) ds)
beside-row [] es gs i w l e a = absurd (not-suc-le-zero l)
beside-row (d ∷ ds) [] [] i w l e a = let z : w * prod (drop i ds) ≡ 0 = ap (λ (x : ℕ). x * prod (drop i ds)) (sym a.right) ∙ zero-mul (prod (drop i ds)) in omega (arith, z)
beside-row (d ∷ ds) [] (y ∷ gs) i w l e a = absurd (omega arith)
beside-row (d ∷ ds) (x ∷ es) [] i w l e a = absurd (omega arith)
beside-row (d ∷ ds) (x ∷ es) (y ∷ gs) zero w l e a =
    let s : es ≡ gs = ext_get_or 0 es gs (suc_inj e) (λ k h. a.else (suc k) (λ q. omega (arith, q))) in
    let u : x * prod ds ≡ 0 = ap (λ (o : ℕ). o * prod ds) a.left ∙ zero-mul (prod ds) in
    let r : y * prod ds ≡ w * prod ds = ap (λ (o : ℕ). o * prod ds) a.right in
    let z : row_major ds es ≡ row_major ds gs = ap (row_major ds) s in
    omega (arith, u, r, z)
beside-row (d ∷ ds) (x ∷ es) (y ∷ gs) (suc i) w l e a =
    let r = beside-row ds es gs i w (le_of_suc-le-suc l) (suc_inj e) (record { left = a.left; right = a.right; else = λ k q. a.else (suc k) (λ o. q (suc_inj o)) }) in
    let s : x * prod ds ≡ y * prod ds = ap (λ (o : ℕ). o * prod ds) (a.else 0 (λ q. omega (arith, q))) in
    omega (arith, r, s)

-- the place stays one of the physical places, and the scale is at least 1
placed-in : (tss : List (List ℕ)) (n : ℕ) (f : Reach) (ds : List ℕ) → Tiles tss n → length ds ≡ n → f.place < n → (reached tss n f).place < length (dims_of tss ds)
placed-in [] n f ds w e l = omega arith
placed-in (ts ∷ tss) n f ds (tiled p h w) e l =
    placed-in tss (n + length ts) (tiled_reach ts n f) (tile_dims ts ds) w (tile-length ts ds (omega arith) ∙ ap (λ (x : ℕ). x + length ts) e) (reach-place ts n f h l)

scaled : (tss : List (List ℕ)) (n : ℕ) (f : Reach) → Tiles tss n → f.place < n → 0 < f.scale → 0 < (reached tss n f).scale
scaled [] n f w l s = s
scaled (ts ∷ tss) n f (tiled p h w) l s = scaled tss (n + length ts) (tiled_reach ts n f) w (reach-place ts n f h l) (tiled-some ts n f p h l s).0

index-length : (tss : List (List ℕ)) (es gs : List ℕ) (n : ℕ) → Tiles tss n → length es ≡ n → length gs ≡ n → length (index_of tss es) ≡ length (index_of tss gs)
index-length [] es gs n w e g = e ∙ sym g
index-length (ts ∷ tss) es gs n (tiled p h w) e g =
    index-length tss (tile_index ts es) (tile_index ts gs) (n + length ts) w (longer ts es n h e) (longer ts gs n h g)

-- the reach of coordinate x from place i on
module _ (sizes p : List ℕ) (tss : List (List ℕ)) (v : Valid sizes p tss) (i x b : ℕ) (f : Reach) (is : f ≡ row_reach tss (length p) i x b) where
  abbrev start : Reach
  start = record { place = i; coordinate = x; scale = 1; most = b }

  reached-worth : f.coordinate * f.scale ≡ kept tss (length p) start
  reached-worth = rw is (kept-worth tss (length p) start ∙ mul-one (kept tss (length p) start))

  pub reached-below : f.coordinate * f.scale ≤ x
  reached-below = omega (arith, reached-worth, kept-le tss (length p) start)

  pub reached-more : 0 < x → 0 < f.coordinate * f.scale
  reached-more h = omega (arith, reached-worth, kept-pos tss (length p) start h)

  module _ (h : i < length p) where
    pub reached-place : f.place < length (physical sizes p tss)
    unfolding physical
    reached-place = rw is (placed-in tss (length p) start (gather p sizes) v.tiles (length-map p (λ (o : ℕ). get_or sizes o 0)) h)

    -- what is reached of x adds one product to the offset of the rest of x
    module _ (small : Sizes sizes) (inside : get_or p i 0 < length sizes) (less : x < get_or sizes (get_or p i 0) 0) where
      abbrev P : ℕ
      P = prod (drop (suc (get_or p i 0)) sizes)

      abbrev at : ℕ → List ℕ
      at y = gather p (digits sizes (y * P))

      long : (y : ℕ) → length (at y) ≡ length p
      long y = length-map p (λ (o : ℕ). get_or (digits sizes (y * P)) o 0)

      coordinate-at : (y : ℕ) → y < get_or sizes (get_or p i 0) 0 → Alone i y (at y)
      coordinate-at y l = alone-gather p v.perm (get_or p i 0) i y (digits sizes (y * P)) h refl (alone-digits (bounded-pos max_size sizes small) (get_or p i 0) y inside l)

      pub reached-offset : offset sizes p tss (x * P) ≡ offset sizes p tss ((x - f.coordinate * f.scale) * P) + f.coordinate * prod (drop (suc f.place) (physical sizes p tss))
      unfolding offset offset_at
      reached-offset =
          let y = x - f.coordinate * f.scale in
          let e : y ≡ x - kept tss (length p) start = ap (λ (o : ℕ). x - o) reached-worth in
          let a = coordinate-at x less in
          let c = coordinate-at y (omega arith) in
          let begun : Beside i (x - kept tss (length p) start) x (at y) (at x) = record { left = c.here ∙ e; right = a.here; else = λ k q. c.else k q ∙ sym (a.else k q) } in
          let w : Beside f.place 0 f.coordinate (index_of tss (at y)) (index_of tss (at x)) =
          subst (λ (o : Reach). Beside o.place 0 o.coordinate (index_of tss (at y)) (index_of tss (at x))) (sym is) (reached-beside tss (length p) start (at y) (at x) v.tiles (long y) (long x) h begun) in
          beside-row (physical sizes p tss) (index_of tss (at y)) (index_of tss (at x)) f.place f.coordinate reached-place (index-length tss (at y) (at x) (length p) v.tiles (long y) (long x)) w
