-- Numbers kept within 2^62 and their sums, term by term. Assumes nothing.
use Rattle.std.specs.Prelude.{Some, None, unwrap_or}
use mathlib.Core.Path.{◌≡◌, refl, ap}
use mathlib.Core.Bool.{Bool, true, false, cond}
use Prim.Native.Nat.{ℕ, zero, suc, ◌<◌, ◌≤◌}
use lib.IntN.{ℤ, pos, negsuc, nat_abs, ◌*ℤ◌}
use native.Mathlib.Omega.{arith}
use Rattle.folding.specs.Fold.{scale_sum, cons_term}
use borrow.Author.Tests.{le-leb, lt-leb}
use Rattle.folding.specs.Sum.{Sum, Atom}
use Rattle.integer.specs.Exact.{exactly}
use Rattle.expression.specs.Expression.{is_small}
use Rattle.words.specs.Saturated.{over_limit, saturate, saturate_sum, scaled}

pub sat-in : (z : ℤ) → nat_abs z ≤ 4611686018427387904 → saturate z ≡ z
unfolding saturate
sat-in z h = rw (le-leb (nat_abs z) 4611686018427387904 h)

pub sat-out : (z : ℤ) → 4611686018427387904 < nat_abs z → saturate z ≡ over_limit
unfolding saturate
sat-out z h = rw (lt-leb (nat_abs z) 4611686018427387904 h)

pub sat-zero : (z : ℤ) → saturate z ≡ pos 0 → z ≡ pos 0
unfolding saturate
sat-zero z e = go (is_small z) e
  where
    go : (b : Bool) → cond b z over_limit ≡ pos 0 → z ≡ pos 0
    go true h = h
    go false h = let n : ◌≡◌ {A = ℕ} 4611686018427387905 0 = ap nat_abs h in absurd (omega arith)

pub scale-gone : (z c : ℤ) (a : Atom) (t : Sum) → saturate (z *ℤ c) ≡ pos 0 → scaled z (Sum.term c a t) ≡ scaled z t
unfolding scaled scale_sum saturate_sum cons_term
scale-gone z c a t e = ap (λ (m : ℤ). saturate_sum (cons_term m a (scale_sum z t))) (sat-zero (z *ℤ c) e)

pub sat-cons : (m : ℤ) (a : Atom) (t : Sum) → (saturate m ≡ pos 0 → ⊥) → saturate_sum (cons_term m a t) ≡ Sum.term (saturate m) a (saturate_sum t)
unfolding saturate_sum cons_term
sat-cons (pos zero) a t h = absurd (h (sat-in (pos 0) (omega arith)))
sat-cons (pos (suc n)) a t h = refl
sat-cons (negsuc n) a t h = refl

pub scale-stays : (z c : ℤ) (a : Atom) (t : Sum) → (saturate (z *ℤ c) ≡ pos 0 → ⊥) → scaled z (Sum.term c a t) ≡ Sum.term (saturate (z *ℤ c)) a (scaled z t)
unfolding scaled scale_sum
scale-stays z c a t h = sat-cons (z *ℤ c) a (scale_sum z t) h

pub scale-const : (z k : ℤ) → scaled z (Sum.const k) ≡ Sum.const (saturate (z *ℤ k))
unfolding scaled scale_sum saturate_sum
scale-const z k = refl

pub sat-large : (z : ℤ) → is_small z ≡ false → saturate z ≡ over_limit
unfolding saturate
sat-large z e = rw e

-- the number of exact working, or the one past the limit
pub sat-exactly : (z : ℤ) → unwrap_or (exactly z) over_limit ≡ saturate z
unfolding saturate exactly
sat-exactly z = go (is_small z)
  where
    go : (b : Bool) → unwrap_or (cond b (Some z) None) over_limit ≡ cond b z over_limit
    go true = refl
    go false = refl
