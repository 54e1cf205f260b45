-- The rule of a divisor: what it gives where it is judged done, and when it is broken. Assumes nothing.
use Rattle.std.specs.Prelude.{Ok, Err}
use mathlib.Core.Path.{◌≡◌, refl}
use mathlib.Core.Bool.{Bool, true, false}
use Prim.Native.Nat.{ℕ, ◌<◌, ◌≤◌}
use lib.Dec.{leb}
use borrow.Author.Tests.{le-leb, leb-true}
use Rattle.radix.proofs.Tests.{and_left, and_right}
use Rattle.refusal.specs.Judge.{judge}
use Rattle.refusal.specs.declared.Refusal.TheVariants.{Attribute}
use Rattle.refusal.proofs.Judged.{kept}
use Rattle.reciprocal.specs.Multiplier.{max_divisor}
use Rattle.reciprocal.specs.Answers.{good_divisor, divisor_rules}

inside : (d : ℕ) → good_divisor d ≡ true → (0 < d) × (d ≤ max_divisor)
inside d t = (leb-true 1 d (and_left (leb 1 d) (leb d max_divisor) t), leb-true d max_divisor (and_right (leb 1 d) (leb d max_divisor) t))

pub divisor-done : (d : ℕ) → judge (divisor_rules d) ≡ Ok tt → (0 < d) × (d ≤ max_divisor)
divisor-done d e = inside d (kept (good_divisor d) _ _ e)

pub divisor-kept : (d : ℕ) → 0 < d → d ≤ max_divisor → judge (divisor_rules d) ≡ Ok tt
divisor-kept d p h = rw (le-leb 1 d p, le-leb d max_divisor h)

pub divisor-broken : (d : ℕ) → ((0 < d) × (d ≤ max_divisor) → ⊥) → judge (divisor_rules d) ≡ Err Attribute
divisor-broken d out = go (good_divisor d) refl
  where
    go : (b : Bool) → good_divisor d ≡ b → judge (divisor_rules d) ≡ Err Attribute
    go true e = absurd (out (inside d e))
    go false e = rw e
