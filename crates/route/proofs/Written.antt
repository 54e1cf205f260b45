-- Comparing lists entry by entry: one turn of a comparison, its end, and what it says. Assumes nothing.
use mathlib.Core.Path.{◌≡◌, refl, sym, ap, ap₂, ◌∙◌}
use mathlib.Core.Bool.{Bool, true, false, ◌&&◌}
use mathlib.Core.List.{List, [], ◌∷◌}
use Prim.Native.Nat.{ℕ, zero, suc, ◌+◌, ◌-◌, ◌*◌, ◌<◌, ◌≤◌}
use native.Mathlib.Omega.{arith}
use native.Mathlib.Nat.{add-sub_cancel_left}
use lib.Pointwise.{pointwise}
use lib.Dec.{eqb}
use lib.ListN.{length, get_or, take, drop, drop_of_length-le}
use borrow.Author.Tests.{eqb-true, eq-eqb}
use Rattle.radix.proofs.Lists.{rest-of}
use Rattle.radix.proofs.Tests.{and-false, and_left, and_right}
use Rattle.radix.specs.Radix.{Upto}
use Rattle.tiling.specs.Tile.{max_entries, tiles_from}
use Rattle.tiling.specs.Ready.{Levels}
use Rattle.tiling.proofs.Levels.{six-more}
use Rattle.layout.specs.Layout.{minor_to_major, tiles_of}
use Rattle.layout.specs.declared.Layout.{Layout}
use Rattle.route.specs.Same.{same_by, same_list, same_tiles, same_layout}

-- lists of two lengths differ
pub other_length : {A : Type 0} (f : A → A → Bool) (xs ys : List A) → (length xs ≡ length ys → ⊥) → same_by f xs ys ≡ false
unfolding same_by
other_length f [] [] n = absurd (n refl)
other_length f [] (y ∷ ys) n = refl
other_length f (x ∷ xs) [] n = refl
other_length f (x ∷ xs) (y ∷ ys) n = and-false (f x y) (other_length f xs ys (λ e. n (ap suc e)))

-- the tiles from tile l on
abbrev pub tiles_after : List ℕ → List ℕ → ℕ → List (List ℕ)
tiles_after lens flat l = tiles_from (drop l lens) (drop (max_entries * l) flat)

abbrev pub tile_at : List ℕ → List ℕ → ℕ → List ℕ
tile_at lens flat l = take (get_or lens l 0) (drop (max_entries * l) flat)

after-tile : (lens flat : List ℕ) (l : ℕ) → l < length lens → tiles_after lens flat l ≡ tile_at lens flat l ∷ tiles_after lens flat (l + 1)
after-tile lens flat l h =
    ap (λ (r : List ℕ). tiles_from r (drop (max_entries * l) flat)) (rest-of lens l h)
    ∙ ap (λ (r : List ℕ). tile_at lens flat l ∷ tiles_from (drop (l + 1) lens) r) (six-more l flat)

pub same-tile :
    (lens flat lens2 flat2 : List ℕ) (l : ℕ) →
    l < length lens →
    l < length lens2 →
    same_tiles (tiles_after lens flat l) (tiles_after lens2 flat2 l)
    ≡ (same_list (tile_at lens flat l) (tile_at lens2 flat2 l) && same_tiles (tiles_after lens flat (l + 1)) (tiles_after lens2 flat2 (l + 1)))
unfolding same_by
same-tile lens flat lens2 flat2 l h g = ap₂ same_tiles (after-tile lens flat l h) (after-tile lens2 flat2 l g)

pub last-tile :
    (lens flat lens2 flat2 : List ℕ) (l : ℕ) →
    length lens ≤ l →
    length lens2 ≤ l →
    same_tiles (tiles_after lens flat l) (tiles_after lens2 flat2 l) ≡ true
unfolding same_by
last-tile lens flat lens2 flat2 l h g =
    ap₂ (λ (r r2 : List ℕ). same_tiles (tiles_from r (drop (max_entries * l) flat)) (tiles_from r2 (drop (max_entries * l) flat2)))
    (drop_of_length-le lens h)
    (drop_of_length-le lens2 g)

-- what `==` says of two lists
list-is : (xs ys : List ℕ) → pointwise eqb xs ys ≡ same_list xs ys
unfolding same_by
list-is [] [] = refl
list-is [] (y ∷ ys) = refl
list-is (x ∷ xs) [] = refl
list-is (x ∷ xs) (y ∷ ys) = ap (λ (b : Bool). eqb x y && b) (list-is xs ys)

pub order-is : (r : Bool) (xs ys zs ws : List ℕ) → r ≡ pointwise eqb xs ys → xs ≡ zs → ys ≡ ws → r ≡ same_list zs ws
order-is r xs ys zs ws e p q = e ∙ list-is xs ys ∙ ap₂ same_list p q

-- and of two tiles
pub same-pair :
    (lens flat lens2 flat2 : List ℕ) (l : ℕ) (r : Bool) →
    l < length lens →
    l < length lens2 →
    r
    ≡ pointwise eqb (take (max_entries * l + get_or lens l 0 - max_entries * l) (drop (max_entries * l) flat))
    (take (max_entries * l + get_or lens2 l 0 - max_entries * l) (drop (max_entries * l) flat2)) →
    same_tiles (tiles_after lens flat l) (tiles_after lens2 flat2 l)
    ≡ (r && same_tiles (tiles_after lens flat (l + 1)) (tiles_after lens2 flat2 (l + 1)))
same-pair lens flat lens2 flat2 l r h g e =
    same-tile lens flat lens2 flat2 l h g
    ∙ ap (λ (b : Bool). b && same_tiles (tiles_after lens flat (l + 1)) (tiles_after lens2 flat2 (l + 1)))
    (sym
    (order-is r _ _ (tile_at lens flat l) (tile_at lens2 flat2 l) e
    (ap (λ (m : ℕ). take m (drop (max_entries * l) flat)) (add-sub_cancel_left (max_entries * l) (get_or lens l 0)))
    (ap (λ (m : ℕ). take m (drop (max_entries * l) flat2)) (add-sub_cancel_left (max_entries * l) (get_or lens2 l 0)))))

tiles-length : (lens flat : List ℕ) → length (tiles_from lens flat) ≡ length lens
tiles-length [] flat = refl
tiles-length (m ∷ lens) flat = ap suc (tiles-length lens (drop max_entries flat))

pub other-tiles :
    (lens flat lens2 flat2 : List ℕ) →
    (length lens ≡ length lens2 → ⊥) →
    same_tiles (tiles_from lens flat) (tiles_from lens2 flat2) ≡ false
other-tiles lens flat lens2 flat2 n =
    other_length same_list (tiles_from lens flat) (tiles_from lens2 flat2) (λ e. n (sym (tiles-length lens flat) ∙ e ∙ tiles-length lens2 flat2))

-- no tile has more than 6 entries
pub few-entries : (lens flat : List ℕ) (n : ℕ) → Levels lens flat n → Upto max_entries lens
unfolding Upto
few-entries [] flat n h k = omega arith
few-entries (m ∷ lens) flat n h zero = h.0
few-entries (m ∷ lens) flat n h (suc k) = few-entries lens (drop max_entries flat) (n + m) h.4 k

-- lists that compare as the same are equal
same-equal : {A : Type 0} (f : A → A → Bool) → ((x y : A) → f x y ≡ true → x ≡ y) → (xs ys : List A) → same_by f xs ys ≡ true → xs ≡ ys
unfolding same_by
same-equal f h [] [] e = refl
same-equal f h [] (y ∷ ys) e = absurd (let z : ◌≡◌ {A = ℕ} 0 1 = cc in omega arith)
same-equal f h (x ∷ xs) [] e = absurd (let z : ◌≡◌ {A = ℕ} 0 1 = cc in omega arith)
same-equal f h (x ∷ xs) (y ∷ ys) e =
    ap₂ (λ a l. a ∷ l) (h x y (and_left (f x y) (same_by f xs ys) e)) (same-equal f h xs ys (and_right (f x y) (same_by f xs ys) e))

-- and equal lists compare as the same
equal-same : {A : Type 0} (f : A → A → Bool) → ((x : A) → f x x ≡ true) → (xs : List A) → same_by f xs xs ≡ true
unfolding same_by
equal-same f h [] = refl
equal-same f h (x ∷ xs) = rw (h x) (equal-same f h xs)

list-equal : (xs ys : List ℕ) → same_list xs ys ≡ true → xs ≡ ys
list-equal = same-equal eqb eqb-true

list_same : (xs : List ℕ) → same_list xs xs ≡ true
list_same = equal-same eqb (λ x. eq-eqb x x refl)

-- the order and the tiles of two layouts are equal
pub record Written (a b : Layout) : Type 0 where
  pub order : minor_to_major a ≡ minor_to_major b
  pub tiles : tiles_of a ≡ tiles_of b

pub written_same : (a b : Layout) → same_layout a b ≡ true → Written a b
unfolding same_layout
written_same a b e =
    record {
      order = list-equal _ _ (and_left (same_list (minor_to_major a) (minor_to_major b)) (same_tiles (tiles_of a) (tiles_of b)) e);
      tiles = same-equal same_list list-equal _ _ (and_right (same_list (minor_to_major a) (minor_to_major b)) (same_tiles (tiles_of a) (tiles_of b)) e);
    }

pub same-written : (a b : Layout) → Written a b → same_layout a b ≡ true
unfolding same_layout
same-written a b w =
    rw (w.order, w.tiles, list_same (minor_to_major b)) (equal-same same_list list_same (tiles_of b))
