-- Two indices that add up, place by place, add up after every tile too where no remainder carries; and so do their row-major numbers. Assumes nothing.
use mathlib.Core.Path.{◌≡◌, refl, sym, ap, ◌∙◌, subst}
use mathlib.Core.Logic.{⊎_elim, ◌⊎◌, inl, inr}
use Prim.Native.Nat.{ℕ, zero, suc, ◌+◌, ◌-◌, ◌*◌, ◌/◌, ◌%◌, ◌<◌, ◌≤◌}
use native.Mathlib.Nat.{zero-div, zero-mod, add-zero, zero-add, add-mul, div-add-mod', mul-add-div_right, mul-add-mod_self_right, div-eq_of_lt, mod-eq_of_lt, mod-lt, suc_inj}
use native.Mathlib.Omega.{arith}
use mathlib.Core.List.{List, [], ◌∷◌}
use lib.ListN.{length, get_or, drop, get_or-eq_default, length-map}
use Rattle.radix.proofs.Lists.{le-or-lt}
use Rattle.radix.specs.Radix.{prod, row_major}
use Rattle.tiling.proofs.Entries.{first, second, third-index}
use Rattle.tiling.proofs.OwnCells.{get_d-gather}
use Rattle.tiling.proofs.Tiling.{tile-length-index}
use Rattle.tiling.specs.Tile.{zip_with, tile_index, gather}

-- es and fs add up to gs
pub record Added (es fs gs : List ℕ) : Type 0 where
  pub left : length es ≡ length gs
  pub right : length fs ≡ length gs
  pub sum : (k : ℕ) → get_or gs k 0 ≡ get_or es k 0 + get_or fs k 0

-- and at every place but i one of the two is 0
pub record Sums (i : ℕ) (es fs gs : List ℕ) : Type 0 where
  pub added : Added es fs gs
  pub apart : (k : ℕ) → (k ≡ i → ⊥) → (get_or es k 0 ≡ 0) ⊎ (get_or fs k 0 ≡ 0)

-- the row-major number of a sum is the sum
pub added-row : (ds es fs gs : List ℕ) → Added es fs gs → row_major ds gs ≡ row_major ds es + row_major ds fs
added-row [] es fs gs a = refl
added-row (d ∷ ds) [] [] [] a = refl
added-row (d ∷ ds) [] (f ∷ fs) [] a = absurd (omega (arith, a.right))
added-row (d ∷ ds) (e ∷ es) fs [] a = absurd (omega (arith, a.left))
added-row (d ∷ ds) [] fs (g ∷ gs) a = absurd (omega (arith, a.left))
added-row (d ∷ ds) (e ∷ es) [] (g ∷ gs) a = absurd (omega (arith, a.right))
added-row (d ∷ ds) (e ∷ es) (f ∷ fs) (g ∷ gs) a =
    let i = added-row ds es fs gs (record { left = suc_inj a.left; right = suc_inj a.right; sum = λ k. a.sum (suc k) }) in
    let s : g ≡ e + f = a.sum 0 in
    rw s (rw (add-mul e f (prod ds)) (omega (arith, i)))

-- without a carry the quotients and the remainders add up
pub no-carry : (e f t : ℕ) → 0 < t → e % t + f % t < t → ((e + f) / t ≡ e / t + f / t) × ((e + f) % t ≡ e % t + f % t)
no-carry e f t p h =
    let q = e / t + f / t in
    let r = e % t + f % t in
    let s : e + f ≡ q * t + r = omega (arith, div-add-mod' e t, div-add-mod' f t, add-mul (e / t) (f / t) t) in (
      ap (λ (x : ℕ). x / t) s ∙ mul-add-div_right p q r ∙ ap (λ (x : ℕ). q + x) (div-eq_of_lt h) ∙ add-zero q,
      ap (λ (x : ℕ). x % t) s ∙ mul-add-mod_self_right q t r ∙ mod-eq_of_lt h,
    )

-- nothing carries where one of the two is 0
zero-carry : (e f t : ℕ) → 0 < t → (e ≡ 0) ⊎ (f ≡ 0) → e % t + f % t < t
zero-carry e f t p h =
    ⊎_elim
    (λ (q : e ≡ 0). rw (q, zero-mod t, zero-add (f % t)) (mod-lt f p))
    (λ (q : f ≡ 0). rw (q, zero-mod t, add-zero (e % t)) (mod-lt e p)) h

pub equal-or : (a b : ℕ) → (a ≡ b) ⊎ (a ≡ b → ⊥)
equal-or zero zero = inl refl
equal-or zero (suc b) = inr (λ e. omega (arith, e))
equal-or (suc a) zero = inr (λ e. omega (arith, e))
equal-or (suc a) (suc b) = ⊎_elim (λ e. inl (ap suc e)) (λ n. inr (λ e. n (suc_inj e))) (equal-or a b)

-- the entries of a tiled index of n places: untouched, quotients, remainders, and none past them
module _ (ts es : List ℕ) (n : ℕ) (e : length es ≡ n) (h : length ts ≤ n) where
  pub index-first : (k : ℕ) → k < n - length ts → get_or (tile_index ts es) k 0 ≡ get_or es k 0
  unfolding tile_index
  index-first k l = first ◌/◌ (zip_with ◌%◌ (drop (length es - length ts) es) ts) ts es (omega arith) k (omega arith)

  pub index-second : (k : ℕ) → n - length ts ≤ k → k < n → get_or (tile_index ts es) k 0 ≡ get_or es k 0 / get_or ts (k - (n - length ts)) 0
  unfolding tile_index
  index-second k g l = second ◌/◌ (zip_with ◌%◌ (drop (length es - length ts) es) ts) ts es (omega arith) k (omega arith) (omega arith) ∙ ap (λ (x : ℕ). get_or es k 0 / get_or ts (k - (x - length ts)) 0) e

  pub index-third : (k : ℕ) → n ≤ k → k < n + length ts → get_or (tile_index ts es) k 0 ≡ get_or es (k - length ts) 0 % get_or ts (k - n) 0
  index-third k g l = third-index ts es (omega arith) k (omega arith) (omega arith) ∙ ap (λ (x : ℕ). get_or es (k - length ts) 0 % get_or ts (k - x) 0) e

  pub index-past : (k : ℕ) → n + length ts ≤ k → get_or (tile_index ts es) k 0 ≡ 0
  index-past k g = get_or-eq_default (tile_index ts es) 0 (omega (arith, tile-length-index ts es (omega arith)))

-- the places of a tiled index, in turn
pub by_place : (P : ℕ → Type 0) (n m : ℕ) → m ≤ n → ((k : ℕ) → k < n - m → P k) → ((k : ℕ) → n - m ≤ k → k < n → P k) → ((k : ℕ) → n ≤ k → k < n + m → P k) → ((k : ℕ) → n + m ≤ k → P k) → (k : ℕ) → P k
by_place P n m h a b c d k =
    ⊎_elim (d k) (λ (u : k < n + m). ⊎_elim (λ (v : n ≤ k). c k v u) (λ (v : k < n). ⊎_elim (λ (w : n - m ≤ k). b k w v) (a k) (le-or-lt (n - m) k)) (le-or-lt n k)) (le-or-lt (n + m) k)

-- A tile on a sum. The place i, if the tile names it, carries nothing; after it the place j takes its part: i itself where nothing of es remains,
-- the place of the remainder where the quotient of fs is 0.
module _ (ts es fs gs : List ℕ) (i j : ℕ) (s : Sums i es fs gs) (h : length ts ≤ length gs) (pos : (k : ℕ) → k < length ts → 0 < get_or ts k 0) where
  abbrev n : ℕ
  n = length gs

  abbrev m : ℕ
  m = length ts

  module _ (stay : i < n - m → j ≡ i)
      (free : n - m ≤ i → i < n → get_or es i 0 % get_or ts (i - (n - m)) 0 + get_or fs i 0 % get_or ts (i - (n - m)) 0 < get_or ts (i - (n - m)) 0)
      (quotient : n - m ≤ i → i < n → (i ≡ j → ⊥) → get_or fs i 0 / get_or ts (i - (n - m)) 0 ≡ 0)
      (remainder : n - m ≤ i → i < n → (i + m ≡ j → ⊥) → get_or es i 0 % get_or ts (i - (n - m)) 0 ≡ 0) where
    -- no named place carries
    none-carries : (k : ℕ) → n - m ≤ k → k < n → get_or es k 0 % get_or ts (k - (n - m)) 0 + get_or fs k 0 % get_or ts (k - (n - m)) 0 < get_or ts (k - (n - m)) 0
    none-carries k g l =
        ⊎_elim
        (λ (q : k ≡ i). subst (λ (x : ℕ). get_or es x 0 % get_or ts (x - (n - m)) 0 + get_or fs x 0 % get_or ts (x - (n - m)) 0 < get_or ts (x - (n - m)) 0) (sym q) (free (omega arith) (omega arith)))
        (λ (q : k ≡ i → ⊥). zero-carry (get_or es k 0) (get_or fs k 0) (get_or ts (k - (n - m)) 0) (pos (k - (n - m)) (omega arith)) (s.apart k q))
        (equal-or k i)

    adds : (k : ℕ) → n - m ≤ k → k < n → ((get_or es k 0 + get_or fs k 0) / get_or ts (k - (n - m)) 0 ≡ get_or es k 0 / get_or ts (k - (n - m)) 0 + get_or fs k 0 / get_or ts (k - (n - m)) 0) × ((get_or es k 0 + get_or fs k 0) % get_or ts (k - (n - m)) 0 ≡ get_or es k 0 % get_or ts (k - (n - m)) 0 + get_or fs k 0 % get_or ts (k - (n - m)) 0)
    adds k g l = no-carry (get_or es k 0) (get_or fs k 0) (get_or ts (k - (n - m)) 0) (pos (k - (n - m)) (omega arith)) (none-carries k g l)

    tile-sum : (k : ℕ) → get_or (tile_index ts gs) k 0 ≡ get_or (tile_index ts es) k 0 + get_or (tile_index ts fs) k 0
    tile-sum =
        by_place (λ (k : ℕ). get_or (tile_index ts gs) k 0 ≡ get_or (tile_index ts es) k 0 + get_or (tile_index ts fs) k 0) n m h
        (λ k l. rw (index-first ts gs n refl h k l, index-first ts es n s.added.left h k l, index-first ts fs n s.added.right h k l) (s.added.sum k))
        (λ k g l. rw (index-second ts gs n refl h k g l, index-second ts es n s.added.left h k g l, index-second ts fs n s.added.right h k g l, s.added.sum k) (adds k g l).0)
        (λ k g l.
        let e : k - m - (n - m) ≡ k - n = omega arith in
        rw (index-third ts gs n refl h k g l, index-third ts es n s.added.left h k g l, index-third ts fs n s.added.right h k g l, s.added.sum (k - m))
        (subst (λ (x : ℕ). (get_or es (k - m) 0 + get_or fs (k - m) 0) % get_or ts x 0 ≡ get_or es (k - m) 0 % get_or ts x 0 + get_or fs (k - m) 0 % get_or ts x 0) e (adds (k - m) (omega arith) (omega arith)).1))
        (λ k g. rw (index-past ts gs n refl h k g, index-past ts es n s.added.left h k g, index-past ts fs n s.added.right h k g))

    tile-apart : (k : ℕ) → (k ≡ j → ⊥) → (get_or (tile_index ts es) k 0 ≡ 0) ⊎ (get_or (tile_index ts fs) k 0 ≡ 0)
    tile-apart =
        by_place (λ (k : ℕ). (k ≡ j → ⊥) → (get_or (tile_index ts es) k 0 ≡ 0) ⊎ (get_or (tile_index ts fs) k 0 ≡ 0)) n m h
        (λ k l q. rw (index-first ts es n s.added.left h k l, index-first ts fs n s.added.right h k l) (s.apart k (λ e. q (e ∙ sym (stay (omega arith))))))
        (λ k g l q.
        let t = get_or ts (k - (n - m)) 0 in
        rw (index-second ts es n s.added.left h k g l, index-second ts fs n s.added.right h k g l)
        (⊎_elim
        (λ (e : k ≡ i). inr (subst (λ (x : ℕ). get_or fs x 0 / get_or ts (x - (n - m)) 0 ≡ 0) (sym e) (quotient (omega arith) (omega arith) (λ w. q (e ∙ w)))))
        (λ (e : k ≡ i → ⊥). ⊎_elim (λ z. inl (ap (λ (x : ℕ). x / t) z ∙ zero-div t)) (λ z. inr (ap (λ (x : ℕ). x / t) z ∙ zero-div t)) (s.apart k e))
        (equal-or k i)))
        (λ k g l q.
        let t = get_or ts (k - n) 0 in
        rw (index-third ts es n s.added.left h k g l, index-third ts fs n s.added.right h k g l)
        (⊎_elim
        (λ (e : k - m ≡ i).
        let u : i - (n - m) ≡ k - n = omega arith in
        let w : i + m ≡ k = omega arith in
        inl (ap (λ (x : ℕ). get_or es x 0 % t) e ∙ subst (λ (x : ℕ). get_or es i 0 % get_or ts x 0 ≡ 0) u (remainder (omega arith) (omega arith) (λ z. q (sym w ∙ z)))))
        (λ (e : k - m ≡ i → ⊥). ⊎_elim (λ z. inl (ap (λ (x : ℕ). x % t) z ∙ zero-mod t)) (λ z. inr (ap (λ (x : ℕ). x % t) z ∙ zero-mod t)) (s.apart (k - m) e))
        (equal-or (k - m) i)))
        (λ k g q. inl (index-past ts es n s.added.left h k g))

    pub sums-tile : Sums j (tile_index ts es) (tile_index ts fs) (tile_index ts gs)
    sums-tile =
        record {
          added =
              record {
                left = tile-length-index ts es (omega (arith, s.added.left)) ∙ ap (λ (x : ℕ). x + m) s.added.left ∙ sym (tile-length-index ts gs h);
                right = tile-length-index ts fs (omega (arith, s.added.right)) ∙ ap (λ (x : ℕ). x + m) s.added.right ∙ sym (tile-length-index ts gs h);
                sum = tile-sum;
              };
          apart = tile-apart;
        }

pub past-gather : (p xs : List ℕ) (k : ℕ) → length p ≤ k → get_or (gather p xs) k 0 ≡ 0
past-gather p xs k l = get_or-eq_default (gather p xs) 0 {n = k} (omega (arith, length-map p (λ (x : ℕ). get_or xs x 0)))

-- a sum in another order, where place i has what place d had and no other place has
pub sums-gather : (p : List ℕ) (d i : ℕ) (es fs gs : List ℕ) → ((k : ℕ) → k < length p → get_or p k 0 ≡ d → k ≡ i) → Sums d es fs gs → Sums i (gather p es) (gather p fs) (gather p gs)
sums-gather p d i es fs gs only s =
    record {
      added =
          record {
            left = length-map p (λ (x : ℕ). get_or es x 0) ∙ sym (length-map p (λ (x : ℕ). get_or gs x 0));
            right = length-map p (λ (x : ℕ). get_or fs x 0) ∙ sym (length-map p (λ (x : ℕ). get_or gs x 0));
            sum =
                λ k.
                ⊎_elim
                (λ (l : length p ≤ k). rw (past-gather p gs k l, past-gather p es k l, past-gather p fs k l))
                (λ (l : k < length p). rw (get_d-gather p gs k l, get_d-gather p es k l, get_d-gather p fs k l) (s.added.sum (get_or p k 0))) (le-or-lt (length p) k);
          };
      apart =
          λ k q.
          ⊎_elim
          (λ (l : length p ≤ k). inl (past-gather p es k l))
          (λ (l : k < length p). rw (get_d-gather p es k l, get_d-gather p fs k l) (s.apart (get_or p k 0) (λ e. q (only k l e)))) (le-or-lt (length p) k);
    }
