-- Values that are filled in, one place after another: each that is marked as filled is the right one. Assumes nothing.
use mathlib.Core.Path.{◌≡◌, refl, sym, ap, ◌∙◌, subst}
use mathlib.Core.Logic.{⊎_elim}
use Prim.Native.Nat.{ℕ, zero, suc, ◌+◌, ◌-◌, ◌<◌, ◌≤◌}
use native.Mathlib.Nat.{eq-zero-or-pos, not-suc-le-zero}
use native.Mathlib.Omega.{arith}
use mathlib.Core.List.{List}
use lib.ListN.{length, get_or, set, replicate, length-set}
use lib.Seq.{get_or-set_same, get_or-set_other}
use borrow.Rule.Slice.PartMut.{put_mid}
use Rattle.std.proofs.lemmas.List.{places}
use Rattle.radix.specs.Radix.{tab}
use Rattle.radix.proofs.Lists.{le-or-lt}
use Rattle.radix.proofs.Radix.{is-tab}
use Rattle.tiling.proofs.Sums.{equal-or}
use Rattle.retile.specs.Rows.{Right, Fills}

-- from the values and marks before to those here, for every f that is as ok says
pub record Filled (ok : (ℕ → ℕ) → Type 0) (values₀ filled₀ values filled : List ℕ) : Type 0 where
  pub long : length values ≡ length values₀
  pub wide : length filled ≡ length filled₀
  pub right : (f : ℕ → ℕ) → ok f → Right f values₀ filled₀ → Right f values filled
  pub stays : (x : ℕ) → get_or filled₀ x 0 ≡ 1 → get_or filled x 0 ≡ 1

module _ (ok : (ℕ → ℕ) → Type 0) (values₀ filled₀ : List ℕ) where
  pub filled-start : Filled ok values₀ filled₀ values₀ filled₀
  filled-start = record { long = refl; wide = refl; right = λ f k r. r; stays = λ x e. e }

  -- one place more
  module _ (values filled : List ℕ) (c : Filled ok values₀ filled₀ values filled) (x v : ℕ) (inside : x < length values) (marked : x < length filled) where
    pub filled-here : get_or (set filled x 1) x 0 ≡ 1
    filled-here = get_or-set_same filled x 1 0 marked

    pub filled-still : (y : ℕ) → get_or filled y 0 ≡ 1 → get_or (set filled x 1) y 0 ≡ 1
    filled-still y e = ⊎_elim (λ (q : y ≡ x). subst (λ (z : ℕ). get_or (set filled x 1) z 0 ≡ 1) (sym q) filled-here) (λ (n : y ≡ x → ⊥). get_or-set_other filled x y 1 0 n ∙ e) (equal-or y x)

    right-next : (f : ℕ → ℕ) → f x ≡ v → Right f values filled → Right f (set values x v) (set filled x 1)
    right-next f w r y l e =
        ⊎_elim
        (λ (q : y ≡ x). subst (λ (z : ℕ). get_or (set values x v) z 0 ≡ f z) (sym q) (get_or-set_same values x v 0 inside ∙ sym w))
        (λ (n : y ≡ x → ⊥). get_or-set_other values x y v 0 n ∙ r y (omega (arith, l, length-set values x v)) (sym (get_or-set_other filled x y 1 0 n) ∙ e))
        (equal-or y x)

    pub filled_next : ((f : ℕ → ℕ) → ok f → f x ≡ v) → Filled ok values₀ filled₀ (set values x v) (set filled x 1)
    filled_next w =
        record {
          long = length-set values x v ∙ c.long;
          wide = length-set filled x 1 ∙ c.wide;
          right = λ f k r. right-next f (w f k) (c.right f k r);
          stays = λ y e. filled-still y (c.stays y e);
        }

    -- the first place of a row is filled from its first step on
    pub filled-first : (i j : ℕ) → (j ≡ 0 → x ≡ i) → (0 < j → get_or filled i 0 ≡ 1) → get_or (set filled x 1) i 0 ≡ 1
    filled-first i j a b = ⊎_elim (λ (e : j ≡ 0). subst (λ (z : ℕ). get_or (set filled x 1) z 0 ≡ 1) (a e) filled-here) (λ (h : 0 < j). filled-still i (b h)) (eq-zero-or-pos j)

-- the source's values are right in the places of a row
abbrev pub IsRowOf : List ℕ → ℕ → List ℕ → List ℕ → ℕ → (ℕ → ℕ) → Type 0
IsRowOf source k ptable qtable i f = (j : ℕ) → j < length qtable → f (i + get_or qtable j 0) ≡ get_or source (k + get_or ptable j 0) 0

-- n places from i on are v, and the others as they were
pub record Stretch (i n v : ℕ) (before after : List ℕ) : Type 0 where
  pub long : length after ≡ length before
  pub within : (x : ℕ) → i ≤ x → x < i + n → get_or after x 0 ≡ v
  pub below : (x : ℕ) → x < i → get_or after x 0 ≡ get_or before x 0
  pub above : (x : ℕ) → i + n ≤ x → get_or after x 0 ≡ get_or before x 0

-- a part that is overwritten is a stretch
pub stretch-mid : (i n k v : ℕ) (xs ys : List ℕ) → k ≡ n → i + n ≤ length xs → ys ≡ replicate n v → Stretch i n v xs (put_mid i k xs ys)
stretch-mid i n k v xs ys z h e =
    rw (z, e)
    (record {
      long = grind (arith, places);
      within = λ x g l. grind (arith, places);
      below = λ x l. grind (arith, places);
      above = λ x l. grind (arith, places);
    })

module _ (i n v w : ℕ) (values filled values' filled' : List ℕ) (a : Stretch i n v values values') (b : Stretch i n w filled filled') where
  -- a stretch of values that is marked
  pub stretch-right : (f : ℕ → ℕ) → ((j : ℕ) → j < n → f (i + j) ≡ v) → Right f values filled → Right f values' filled'
  stretch-right f h r x l e =
      ⊎_elim
      (λ (g : i + n ≤ x). a.above x g ∙ r x (omega (arith, a.long)) (sym (b.above x g) ∙ e))
      (λ (g : x < i + n).
      ⊎_elim
      (λ (m : i ≤ x). let z : i + (x - i) ≡ x = omega arith in a.within x m g ∙ sym (h (x - i) (omega arith)) ∙ ap f z)
      (λ (m : x < i). a.below x m ∙ r x (omega (arith, a.long)) (sym (b.below x m) ∙ e))
      (le-or-lt i x))
      (le-or-lt (i + n) x)

  pub stretch-fills : 0 < n → w ≡ 1 → Fills i filled filled'
  stretch-fills some one = (b.within i (omega arith) (omega arith) ∙ one, still)
    where
      still : (x : ℕ) → get_or filled x 0 ≡ 1 → get_or filled' x 0 ≡ 1
      still x e =
          ⊎_elim
          (λ (g : i + n ≤ x). b.above x g ∙ e)
          (λ (g : x < i + n). ⊎_elim (λ (m : i ≤ x). b.within x m g ∙ one) (λ (m : x < i). b.below x m ∙ e) (le-or-lt i x))
          (le-or-lt (i + n) x)

-- the places before i are filled
pub record Begun (f : ℕ → ℕ) (values₀ values filled : List ℕ) (i : ℕ) : Type 0 where
  pub long : length values ≡ length values₀
  pub wide : length filled ≡ 256
  pub upto : i ≤ length values
  pub right : Right f values filled
  pub done : (x : ℕ) → x < i → get_or filled x 0 ≡ 1

nothing : (n x : ℕ) → get_or {A = ℕ} (replicate n 0) x 0 ≡ 0
nothing zero x = refl
nothing (suc n) zero = refl
nothing (suc n) (suc x) = nothing n x

module _ (f : ℕ → ℕ) (values₀ : List ℕ) where
  pub begun-start : Begun f values₀ values₀ (replicate 256 0) 0
  begun-start =
      record {
        long = refl;
        wide = refl;
        upto = omega arith;
        right = λ x h e. absurd (omega (arith, e, nothing 256 x));
        done = λ x h. absurd (not-suc-le-zero h);
      }

  -- one place more
  pub begun-next : (values filled : List ℕ) (i : ℕ) → Begun f values₀ values filled i → i < length values → (values' filled' : List ℕ) → length values' ≡ length values → length filled' ≡ length filled
      → (Right f values filled → Right f values' filled') → Fills i filled filled' → Begun f values₀ values' filled' (i + 1)
  begun-next values filled i b h values' filled' l w r e =
      record {
        long = l ∙ b.long;
        wide = w ∙ b.wide;
        upto = omega (arith, h, l);
        right = r b.right;
        done = λ x g. ⊎_elim (λ (q : x ≡ i). subst (λ (y : ℕ). get_or filled' y 0 ≡ 1) (sym q) e.0) (λ (q : x ≡ i → ⊥). e.1 x (b.done x (below x i g q))) (equal-or x i);
      }
    where
      below : (x i : ℕ) → x < i + 1 → (x ≡ i → ⊥) → x < i
      below x i g q = ⊎_elim (λ (z : i ≤ x). absurd (q (omega (arith, z, g)))) (λ (z : x < i). z) (le-or-lt i x)

  -- all places are filled
  pub begun-end : (values filled : List ℕ) (i : ℕ) → Begun f values₀ values filled i → length values ≤ i → values ≡ tab f (length values₀)
  begun-end values filled i b h = is-tab f values (length values₀) b.long (λ x l. b.right x (omega (arith, l, b.long)) (b.done x (omega (arith, l, h, b.long))))
