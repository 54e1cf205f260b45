-- Tests over stations one by one, and tables filled from an entry on. Assumes nothing.
use mathlib.Core.Path.{◌≡◌, refl, sym, ap, ◌∙◌}
use mathlib.Core.Bool.{Bool, true, false, ◌&&◌}
use mathlib.Core.Logic.{◌⊎◌, inl, inr, ⊎_elim}
use mathlib.Core.List.{List}
use Prim.Native.Nat.{ℕ, zero, suc, ◌+◌, ◌-◌, ◌<◌, ◌≤◌}
use native.Mathlib.Nat.{eq-or-lt_of_le}
use native.Mathlib.Numerals.{add-one}
use native.Mathlib.Omega.{arith}
use lib.ListN.{length, get_or, take, set, length-set}
use lib.Seq.{get_or-set_same, get_or-set_other}
use Rattle.std.specs.List.{list_all}
use Rattle.std.proofs.lemmas.List.Folds.{list_all_more}
use Rattle.radix.specs.Radix.{every}
use Rattle.radix.proofs.Lists.{le-or-lt}
use Rattle.radix.proofs.Tests.{and-false}
use Rattle.route.specs.Loading.{Filled}

-- a test is not both
pub clash : {A : Type 0} (b : Bool) → b ≡ true → b ≡ false → A
clash true p q = absurd (let z : ◌≡◌ {A = ℕ} 0 1 = cc in omega arith)
clash false p q = absurd (let z : ◌≡◌ {A = ℕ} 0 1 = cc in omega arith)

pub and-keep : (a : Bool) → (a && true) ≡ a
and-keep true = refl
and-keep false = refl

-- four tests, two and two
pub and_both : (a b c d : Bool) → ((a && b) && (c && d)) ≡ ((a && c) && (b && d))
and_both true b true d = refl
and_both true b false d = and-false b refl
and_both false b c d = refl

-- one number more
pub every-next : (f : ℕ → Bool) (n : ℕ) → every f (n + 1) ≡ (every f n && f n)
every-next f n = rw add-one refl

-- a test of each element of a front, by its places
pub all-every : {A : Type 0} (p : A → Bool) (d : A) (xs : List A) (n : ℕ) → n ≤ length xs → list_all p (take n xs) ≡ every (λ (k : ℕ). p (get_or xs k d)) n
all-every p d xs zero l = refl
all-every p d xs (suc n) l =
    rw (← add-one n) (list_all_more p xs n d (omega arith))
    ∙ ap (λ (b : Bool). b && p (get_or xs n d)) (all-every p d xs n (omega arith))

module _ {all : Bool} (before this : Bool) (e : all ≡ (before && this)) where
  pub still_kept : this ≡ true → all ≡ before
  still_kept t = e ∙ ap (λ (b : Bool). before && b) t ∙ and-keep before

  pub now-broken : this ≡ false → all ≡ false
  now-broken t = e ∙ and-false before t

  pub was-kept : this ≡ true → all ≡ true → before ≡ true
  was-kept t a = sym (still_kept t) ∙ a

-- a number up to n is n or below it
pub upto : (k n : ℕ) → k < n + 1 → (k ≡ n) ⊎ (k < n)
upto k n l = eq-or-lt_of_le (omega arith)

-- two numbers are the same or not
pub same_or_not : (k n : ℕ) → (k ≡ n) ⊎ (k ≡ n → ⊥)
same_or_not k n =
    ⊎_elim
    (λ (l : k ≤ n). ⊎_elim (λ (e : k ≡ n). inl e) (λ (m : k < n). inr (λ e. omega arith)) (eq-or-lt_of_le l))
    (λ (m : n < k). inr (λ e. omega arith))
    (le-or-lt k n)

pub below_of : (k n : ℕ) → k < n + 1 → (k ≡ n → ⊥) → k < n
below_of k n l z = ⊎_elim (λ (e : k ≡ n). absurd (z e)) (λ (m : k < n). m) (upto k n l)

-- nothing is filled yet
pub filled-start : (xs : List ℕ) (at : ℕ) (f : ℕ → ℕ) → Filled xs xs at 0 f
filled-start xs at f = record { long = refl; inside = λ t l. absurd (omega arith); outside = λ k h. refl }

-- one entry more
pub filled_next :
    {before after : List ℕ} {at n : ℕ} {f : ℕ → ℕ} (v : ℕ) →
    Filled before after at n f →
    at + n < length after →
    v ≡ f n →
    Filled before (set after (at + n) v) at (n + 1) f
filled_next {before} {after} {at} {n} {f} v F l e =
    record {
      long = length-set after (at + n) v ∙ F.long;
      inside =
          λ t h.
          ⊎_elim
          (λ (q : t ≡ n).
          ap (λ (x : ℕ). get_or (set after (at + n) v) (at + x) 0) q
          ∙ get_or-set_same after (at + n) v 0 l
          ∙ e
          ∙ ap f (sym q))
          (λ (q : t < n). get_or-set_other after (at + n) (at + t) v 0 (λ z. omega arith) ∙ F.inside t q)
          (upto t n h);
      outside =
          λ k h.
          ⊎_elim
          (λ (q : k < at). get_or-set_other after (at + n) k v 0 (λ z. omega arith) ∙ F.outside k (inl q))
          (λ (q : at + (n + 1) ≤ k).
          get_or-set_other after (at + n) k v 0 (λ z. omega arith) ∙ F.outside k (inr (omega arith)))
          h;
    }

-- a bound of what was there and of what is entered bounds all
pub filled-bound :
    {before after : List ℕ} {at n : ℕ} {f : ℕ → ℕ} (most : ℕ) →
    Filled before after at n f →
    ((k : ℕ) → get_or before k 0 ≤ most) →
    ((t : ℕ) → t < n → f t ≤ most) →
    (k : ℕ) →
    get_or after k 0 ≤ most
filled-bound {before} {after} {at} {n} {f} most F b g k =
    ⊎_elim
    (λ (h : at ≤ k).
    ⊎_elim
    (λ (o : at + n ≤ k). omega (arith, F.outside k (inr o), b k))
    (λ (o : k < at + n).
    let q : at + (k - at) ≡ k = omega arith in
    omega (arith, ap (λ (x : ℕ). get_or after x 0) q, F.inside (k - at) (omega arith), g (k - at) (omega arith)))
    (le-or-lt (at + n) k))
    (λ (h : k < at). omega (arith, F.outside k (inl h), b k))
    (le-or-lt at k)
