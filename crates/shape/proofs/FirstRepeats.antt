-- Laws of the first repeat, by any test of two places. Assumes nothing.
use mathlib.Core.Path.{◌≡◌, ap, sym, ◌∙◌}
use mathlib.Core.Bool.{Bool, true, false}
use mathlib.Core.Logic.{⊎_elim}
use Prim.Native.Nat.{ℕ, ◌<◌, ◌≤◌}
use native.Mathlib.Omega.{arith}
use borrow.Author.Tests.{lt-ltb, le-ltb, ltb-true, ltb-false, leb-true, le-leb, lt-leb}
use Rattle.radix.proofs.Lists.{le-or-lt}
use Rattle.radix.proofs.Tests.{first-is, first-none, first-true, first-before}
use Rattle.shape.specs.Repeats.{earlier_of, is_repeat, later_in, earlier_in, is_free, FirstRepeat, Different}

module _ (same : ℕ → ℕ → Bool) where
  -- no repeat at place k exactly where no earlier place holds the same
  pub no-repeat : (k : ℕ) → ((i : ℕ) → i < k → same i k ≡ false) → is_repeat same k ≡ false
  no-repeat k h = le-ltb (earlier_of same k) k (omega (arith, first-none (λ (i : ℕ). same i k) k h))

  pub none-earlier : (k : ℕ) → is_repeat same k ≡ false → (i : ℕ) → i < k → same i k ≡ false
  none-earlier k e i l = first-before (λ (j : ℕ). same j k) k i (omega (arith, ltb-false (earlier_of same k) k e))

  module _ (n : ℕ) where
    -- a search that stops at the places e and l, with no repeat before l
    pub first-repeat :
        (e l : ℕ) →
        e < l →
        l < n →
        same e l ≡ true →
        ((i : ℕ) → i < e → same i l ≡ false) →
        ((k : ℕ) → k < l → is_repeat same k ≡ false) →
        FirstRepeat same n e l
    first-repeat e l below inside alike first none =
        record { below = below; inside = inside; alike = alike; first-earlier = first; first-later = λ i k h g. none-earlier k (none k g) i h }

    -- the places of the definition are those of the fact
    module _ {e l : ℕ} (F : FirstRepeat same n e l) where
      earlier-is : earlier_of same l ≡ e
      earlier-is = first-is (λ (i : ℕ). same i l) l e F.below F.alike F.first-earlier

      pub later-found : later_in same n ≡ l
      unfolding later_in
      later-found =
          first-is (is_repeat same) n l F.inside
          (lt-ltb (earlier_of same l) l (omega (arith, earlier-is, F.below)))
          (λ k h. no-repeat k (λ i g. F.first-later i k g h))

      pub earlier-found : earlier_in same n ≡ e
      unfolding earlier_in
      earlier-found = ap (earlier_of same) later-found ∙ earlier-is

      pub found-not-free : is_free same n ≡ false
      found-not-free = lt-leb n (later_in same n) (omega (arith, later-found, F.inside))

    -- where the list is not free of repeats, they are the first repeat
    pub first_found : later_in same n < n → FirstRepeat same n (earlier_in same n) (later_in same n)
    unfolding later_in earlier_in
    first_found h =
        let below = ltb-true (earlier_of same (later_in same n)) (later_in same n) (first-true (is_repeat same) n h) in
        first-repeat (earlier_of same (later_in same n)) (later_in same n) below h
        (first-true (λ (i : ℕ). same i (later_in same n)) (later_in same n) below)
        (first-before (λ (i : ℕ). same i (later_in same n)) (later_in same n))
        (first-before (is_repeat same) n)

    -- there is one wherever two places hold the same
    pub some-repeat : (i k : ℕ) → i < k → k < n → same i k ≡ true → FirstRepeat same n (earlier_in same n) (later_in same n)
    unfolding later_in
    some-repeat i k g h e =
        ⊎_elim
        (λ (q : later_in same n ≤ k). first_found (omega arith))
        (λ (q : k < later_in same n).
        let z : false ≡ true = sym (none-earlier k (first-before (is_repeat same) n k q) i g) ∙ e in
        cc)
        (le-or-lt (later_in same n) k)

    -- and free of repeats says that no two places hold the same
    pub none-later : ((k : ℕ) → k < n → is_repeat same k ≡ false) → later_in same n ≡ n
    unfolding later_in
    none-later h = first-none (is_repeat same) n h

    pub different-free : Different same n → is_free same n ≡ true
    different-free d = le-leb n (later_in same n) (omega (arith, none-later (λ k h. no-repeat k (λ i g. d i k g h))))

    pub free-different : is_free same n ≡ true → Different same n
    unfolding later_in
    free-different e i k g h =
        none-earlier k (first-before (is_repeat same) n k (omega (arith, leb-true n (later_in same n) e))) i g

-- a test that says the same of all places below n has the same first repeat
pub repeat-alike : (f g : ℕ → ℕ → Bool) (n : ℕ) → ((i k : ℕ) → i < k → k < n → f i k ≡ g i k) → {e l : ℕ} → FirstRepeat f n e l → FirstRepeat g n e l
repeat-alike f g n a {e} {l} F =
    record {
      below = F.below;
      inside = F.inside;
      alike = sym (a e l F.below F.inside) ∙ F.alike;
      first-earlier = λ i h. sym (a i l (omega (arith, F.below)) F.inside) ∙ F.first-earlier i h;
      first-later = λ i k h m. sym (a i k h (omega (arith, F.inside))) ∙ F.first-later i k h m;
    }
