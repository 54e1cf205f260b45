-- The least of a function below n, and functions set at one number. Assumes nothing.
use Prim.Native.Nat.{ℕ, zero, suc, ◌≤◌, ◌<◌, min}
use mathlib.Core.Path.{◌≡◌, refl, ap, ap₂, subst, ◌∙◌}
use mathlib.Core.Logic.{⊎_elim}
use mathlib.Core.Bool.{Bool, true, false}
use native.Mathlib.Omega.{arith}
use native.Mathlib.Nat.{eq-or-lt_of_le}
use borrow.Author.Tests.{ltb-true, ltb-false, le-leb, lt-leb, eq-eqb, ne_eqb}
use lib.Dec.{leb, ltb, eqb}
use Rattle.plan.specs.Value.{pick}
use Rattle.tree_plan.specs.Merge.{lowest}

pub lowest-cap : (top n : ℕ) (f : ℕ → ℕ) → lowest top n f ≤ top
unfolding lowest
lowest-cap top zero f = omega arith
lowest-cap top (suc n) f = omega (arith, lowest-cap top n f)

pub lowest-le : (top n : ℕ) (f : ℕ → ℕ) (k : ℕ) → k < n → lowest top n f ≤ f k
unfolding lowest
lowest-le top zero f k h = omega arith
lowest-le top (suc n) f k h =
    ⊎_elim (λ (e : k ≡ n). omega (arith, ap f e)) (λ (l : k < n). omega (arith, lowest-le top n f k l))
    (eq-or-lt_of_le (omega arith))

pub lowest-agree : (top n : ℕ) (f g : ℕ → ℕ) → ((b : ℕ) → b < n → f b ≡ g b) → lowest top n f ≡ lowest top n g
unfolding lowest
lowest-agree top zero f g h = refl
lowest-agree top (suc n) f g h = ap₂ min (lowest-agree top n f g (λ b l. h b (omega arith))) (h n (omega arith))

-- what is `top` past k does not count
pub lowest-cut : (top n k : ℕ) (f : ℕ → ℕ) → k < n → lowest top n (λ i. pick (leb i k) (f i) top) ≡ lowest top (suc k) f
unfolding lowest
lowest-cut top zero k f h = absurd (omega arith)
lowest-cut top (suc n) k f h =
    ⊎_elim
    (λ (e : k ≡ n).
    subst (λ (x : ℕ). lowest top (suc x) (λ i. pick (leb i k) (f i) top) ≡ lowest top (suc k) f) e
    (lowest-agree top (suc k) (λ i. pick (leb i k) (f i) top) f
    (λ i l. ap (λ (t : Bool). pick t (f i) top) (le-leb i k (omega arith)))))
    (λ (l : k < n).
    let past : pick (leb n k) (f n) top ≡ top = ap (λ (t : Bool). pick t (f n) top) (lt-leb n k l) in
    let cap : lowest top n (λ i. pick (leb i k) (f i) top) ≤ top = lowest-cap top n (λ i. pick (leb i k) (f i) top) in
    let most : min (lowest top n (λ i. pick (leb i k) (f i) top)) (pick (leb n k) (f n) top) ≡ lowest top n (λ i. pick (leb i k) (f i) top) =
    omega arith in
    most ∙ lowest-cut top n k f l)
    (eq-or-lt_of_le (omega arith))

-- a number that has the least
pub record Hit (n : ℕ) (f : ℕ → ℕ) (w : ℕ) : Type 0 where
  pub place : ℕ
  pub low : place < n
  pub has : f place ≡ w

pub lowest-hit : (top n : ℕ) (f : ℕ → ℕ) → lowest top n f < top → Hit n f (lowest top n f)
unfolding lowest
lowest-hit top zero f h = absurd (omega arith)
lowest-hit top (suc n) f h = go (λ l. lowest-hit top n f l) (ltb (f n) (lowest top n f)) refl
  where
    go :
        (lowest top n f < top → Hit n f (lowest top n f)) →
        (t : Bool) →
        ltb (f n) (lowest top n f) ≡ t →
        Hit (suc n) f (min (lowest top n f) (f n))
    go r true e =
        let l : f n < lowest top n f = ltb-true _ _ e in
        record { place = n; low = omega arith; has = omega arith }
    go r' false e =
        let l : lowest top n f ≤ f n = ltb-false _ _ e in
        let r : Hit n f (lowest top n f) = r' (omega arith) in
        record { place = r.place; low = omega (arith, r.low); has = omega (arith, r.has) }

-- f with x at u
unfoldable pub put : (ℕ → ℕ) → ℕ → ℕ → ℕ → ℕ
put f u x i = pick (eqb i u) x (f i)

pub put_same : (f : ℕ → ℕ) (u x : ℕ) → put f u x u ≡ x
unfolding put
put_same f u x = simp (eq-eqb u u refl)

pub put_other : (f : ℕ → ℕ) (u x i : ℕ) → (i ≡ u → ⊥) → put f u x i ≡ f i
unfolding put
put_other f u x i h = simp (ne_eqb i u h)
