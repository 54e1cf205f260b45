-- Folded sums as facts: sorted, without zeros, no rule fits at any atom; and how much work the rules can take at most. Assumes nothing.
use Rattle.std.specs.Prelude.{◌≡◌, ◌≢◌, Bool, true, false, ℕ, ◌+◌, ◌*◌, ◌^◌, ◌<◌, pos}
use Prim.Native.Nat.{Ordering}
use Rattle.expression.specs.Expression.{Kind, Range}
use Rattle.folding.specs.Sum.{Atom, Sum, atom_order, sum_size}
use Rattle.folding.specs.Fold.{stays, keeps_all, apply_rule}

-- every atom of t stands above a
unfoldable pub Above : Atom → Sum → Type 0
Above a (Sum.const k) = Unit {0}
Above a (Sum.term e b t) = (atom_order a b ≡ Ordering.lt) × Above a t

module _ (β : Kind → ℕ → Range) where
  -- sorted, no zero, and at every atom no rule fits
  unfoldable mutual
    pub FoldedA : Atom → Type 0
    FoldedA (Atom.var k n) = Unit {0}
    FoldedA (Atom.op o t c) = (0 < c) × FoldedS t × (apply_rule β o t c ≡ stays o t c)

    pub FoldedS : Sum → Type 0
    FoldedS (Sum.const k) = Unit {0}
    FoldedS (Sum.term c a t) = (c ≢ pos 0) × FoldedA a × Above a t × FoldedS t

-- 1 where something leaves by rule 3
unfoldable pub flag : Bool → ℕ
flag true = 0
flag false = 1

-- falls with every rule applied
unfoldable pub weight : Sum → ℕ → ℕ
weight t c = sum_size t * (2 ^ 41 + 2) + (c + c + flag (keeps_all c t))
