-- Laws of std's words for a chain over a list: what they say of tests at the numbers below a count. Assumes nothing.
use mathlib.Core.Path.{◌≡◌, refl, sym, ap, ◌∙◌}
use mathlib.Core.Bool.{Bool, true, false, ◌&&◌, cond, not}
use mathlib.Core.List.{List, [], ◌∷◌}
use Prim.Native.Nat.{ℕ, zero, suc, ◌+◌, ◌<◌, ◌≤◌}
use native.Mathlib.Omega.{arith}
use lib.ListN.{length, get_or, take}
use Rattle.std.specs.List.{list_all, position_or_len, enumerate_from}
use Rattle.std.proofs.lemmas.List.{length-take-le, get_or-take, get_or_default}
use Rattle.radix.specs.Radix.{every, first}
use Rattle.radix.proofs.Tests.{every-agree, first-agree}

and-yes : (a : Bool) → a ≡ (a && true)
and-yes true = refl
and-yes false = refl

and-assoc : (a b c : Bool) → ((a && b) && c) ≡ (a && (b && c))
and-assoc true b c = refl
and-assoc false b c = refl

-- a test at every number below n + 1, the first one first
every-front : (f : ℕ → Bool) (n : ℕ) → every f (suc n) ≡ (f 0 && every (λ (k : ℕ). f (suc k)) n)
every-front f zero = and-yes (f 0)
every-front f (suc n) = ap (λ (b : Bool). b && f (suc n)) (every-front f n) ∙ and-assoc (f 0) (every (λ (k : ℕ). f (suc k)) n) (f (suc n))

module _ {A : Type 0} (p : A → Bool) (d : A) where
  all-every : (xs : List A) → list_all p xs ≡ every (λ (i : ℕ). p (get_or xs i d)) (length xs)
  all-every [] = refl
  all-every (x ∷ xs) = ap (λ (b : Bool). p x && b) (all-every xs) ∙ sym (every-front (λ (i : ℕ). p (get_or (x ∷ xs) i d)) (length xs))

  -- `all` over the first n
  pub all-taken : (n : ℕ) (xs : List A) → n ≤ length xs → list_all p (take n xs) ≡ every (λ (i : ℕ). p (get_or xs i d)) n
  all-taken n xs h =
      all-every (take n xs) ∙ ap (every (λ (i : ℕ). p (get_or (take n xs) i d))) (length-take-le n xs h)
      ∙ every-agree (λ (i : ℕ). p (get_or (take n xs) i d)) (λ (i : ℕ). p (get_or xs i d)) n (λ i l. ap p (get_or-take n xs i d l))

  -- `position`
  pub position-first : (xs : List A) → position_or_len p xs ≡ first (λ (i : ℕ). p (get_or xs i d)) (length xs)
  position-first [] = refl
  position-first (x ∷ xs) = go (p x) _ _ (position-first xs)
    where
      go : (b : Bool) (m n : ℕ) → m ≡ n → cond (not b) (1 + m) 0 ≡ cond b 0 (suc n)
      go true m n e = refl
      go false m n e = omega arith

  pub position-taken : (n : ℕ) (xs : List A) → n ≤ length xs → position_or_len p (take n xs) ≡ first (λ (i : ℕ). p (get_or xs i d)) n
  position-taken n xs h =
      position-first (take n xs) ∙ ap (first (λ (i : ℕ). p (get_or (take n xs) i d))) (length-take-le n xs h)
      ∙ first-agree (λ (i : ℕ). p (get_or (take n xs) i d)) (λ (i : ℕ). p (get_or xs i d)) n (λ i l. ap p (get_or-take n xs i d l))

-- an element of the first n stands in the list
pub taken-at : {A : Type 0} (n k : ℕ) (xs : List A) (x d : A) → n ≤ length xs → k < length (take n xs) → x ≡ get_or (take n xs) k x → (k < n) × (x ≡ get_or xs k d)
taken-at n k xs x d h l e =
    let g : k < n = omega (arith, length-take-le n xs h) in
    (g, e ∙ get_or-take n xs k x g ∙ get_or_default xs k x d (omega arith))

-- `all` over the elements with their indexes, from n on
all-numbered : {A : Type 0} (g : ℕ → A → Bool) (d : A) (n : ℕ) (xs : List A) → list_all (λ (x : ℕ × A). g x.0 x.1) (enumerate_from n xs) ≡ every (λ (k : ℕ). g (n + k) (get_or xs k d)) (length xs)
all-numbered g d n [] = refl
all-numbered {A} g d n (x ∷ xs) =
    ap (λ (b : Bool). g n x && b) (all-numbered g d (n + 1) xs ∙ every-agree _ _ (length xs) next)
    ∙ sym (every-front (λ (k : ℕ). g (n + k) (get_or (x ∷ xs) k d)) (length xs) ∙ ap (λ (m : ℕ). g m x && every (λ (k : ℕ). g (n + suc k) (get_or xs k d)) (length xs)) here)
  where
    here : n + 0 ≡ n
    here = omega arith

    next : (k : ℕ) → k < length xs → g ((n + 1) + k) (get_or xs k d) ≡ g (n + suc k) (get_or xs k d)
    next k l = let e : (n + 1) + k ≡ n + suc k = omega arith in ap (λ (m : ℕ). g m (get_or xs k d)) e

-- and from 0 on
pub all-enumerated : {A : Type 0} (g : ℕ → A → Bool) (d : A) (xs : List A) → list_all (λ (x : ℕ × A). g x.0 x.1) (enumerate_from 0 xs) ≡ every (λ (k : ℕ). g k (get_or xs k d)) (length xs)
all-enumerated g d xs =
    all-numbered g d 0 xs ∙ every-agree _ _ (length xs) (λ k l. let e : 0 + k ≡ k = omega arith in ap (λ (m : ℕ). g m (get_or xs k d)) e)
