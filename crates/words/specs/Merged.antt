-- Two folded sums merged, the smaller atom first. Assumes nothing.
use Rattle.std.specs.Prelude.{◌≡◌, ℤ, pos, ◌+ℤ◌, ◌*ℤ◌, ◌≢◌}
use Prim.Native.Nat.{Ordering}
use Rattle.folding.specs.Sum.{Atom, Sum, atom_order}
use Rattle.folding.specs.Fold.{cons_term}
use Rattle.words.specs.Saturated.{saturate, shifted}
use Rattle.folding.specs.Folded.{Above}

-- how the first atoms stand; a sum without terms comes last
unfoldable pub head_order : Sum → Sum → Ordering
head_order (Sum.const k) (Sum.const l) = Ordering.eq
head_order (Sum.const k) (Sum.term e b u) = Ordering.gt
head_order (Sum.term c a t) (Sum.const l) = Ordering.lt
head_order (Sum.term c a t) (Sum.term e b u) = atom_order a b

-- what is taken where the first comes first, where both are alike, and where the second comes first
unfoldable pub choose : Ordering → Sum → Sum → Sum → Sum
choose Ordering.lt x y z = x
choose Ordering.eq x y z = y
choose Ordering.gt x y z = z

-- the term of c and a, and what f makes of the rest, merged into a sum
unfoldable pub merge_term : ℤ → Atom → (Sum → Sum) → Sum → Sum
merge_term c a f (Sum.const l) = Sum.term (saturate c) a (f (Sum.const l))
merge_term c a f (Sum.term e b u) = choose (atom_order a b) (Sum.term (saturate c) a (f (Sum.term e b u))) (cons_term (saturate (c +ℤ e)) b (f u)) (Sum.term e b (merge_term c a f u))

-- two sums merged
unfoldable pub merged : Sum → Sum → Sum
merged (Sum.const k) u = shifted k u
merged (Sum.term c a t) u = merge_term c a (merged t) u

-- every number of a sum times k
unfoldable pub multiplied : ℤ → Sum → Sum
multiplied k (Sum.const z) = Sum.const (k *ℤ z)
multiplied k (Sum.term c a t) = Sum.term (k *ℤ c) a (multiplied k t)

-- k times the first sum, and the second
unfoldable pub blended : ℤ → Sum → Sum → Sum
blended k t u = merged (multiplied k t) u

-- sorted, and no zero
unfoldable pub Sorted : Sum → Type 0
Sorted (Sum.const k) = Unit {0}
Sorted (Sum.term c a t) = (c ≢ pos 0) × (Above a t × Sorted t)

-- every coefficient is kept
unfoldable pub Kept : Sum → Type 0
Kept (Sum.const k) = Unit {0}
Kept (Sum.term c a t) = (saturate c ≡ c) × Kept t
