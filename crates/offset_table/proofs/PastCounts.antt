-- What stands past a list's count, or past the counts of its layouts, alters no answer. Assumes nothing.
use mathlib.Core.Path.{◌≡◌, ap, ap₂}
use mathlib.Core.Bool.{◌&&◌}
use mathlib.Core.List.{List}
use Prim.Native.Nat.{ℕ}
use lib.Dec.{leb, eqb}
use lib.ListN.{get_or}
use Rattle.radix.specs.Radix.{max_count}
use Rattle.radix.proofs.Tests.{every-agree, first-agree}
use Rattle.shape.specs.Shape.{count_of}
use Rattle.shape.specs.declared.Shape.{Shape}
use Rattle.layout.specs.Agree.{LayoutsAgree}
use Rattle.layout.specs.declared.Layout.{Layout}
use Rattle.layout.proofs.Agree.{good-agree, padded-agree, offset-agree}
use Rattle.offset_table.specs.Makes.{is_maker, layout_at, first_maker, ListsAgree}
use Rattle.offset_table.specs.Answers.{layouts_kept, sizes_kept, layout_named}

maker-agree : (s : Shape) (xs : List ℕ) (padded : ℕ) (a b : Layout) → LayoutsAgree a b → is_maker s xs padded a ≡ is_maker s xs padded b
unfolding is_maker
maker-agree s xs padded a b A =
    ap₂ ◌&&◌ (ap (λ (n : ℕ). eqb n padded) (padded-agree s a b A))
    (every-agree _ _ (count_of s) (λ k h. ap (eqb (get_or xs k 0)) (offset-agree s a b A k)))

module _ (s : Shape) (xs : List ℕ) (padded : ℕ) (ys zs : List Layout) (count : ℕ) (A : ListsAgree ys zs count) where
  layouts-agree : layouts_kept s ys count ≡ layouts_kept s zs count
  unfolding layouts_kept
  layouts-agree = every-agree _ _ count (λ i h. good-agree s.rank (layout_at ys i) (layout_at zs i) (A i h))

  sizes-agree : sizes_kept s ys count ≡ sizes_kept s zs count
  unfolding sizes_kept
  sizes-agree = every-agree _ _ count (λ i h. ap (λ (n : ℕ). leb n max_count) (padded-agree s (layout_at ys i) (layout_at zs i) (A i h)))

  makers-agree : first_maker s xs padded ys count ≡ first_maker s xs padded zs count
  unfolding first_maker
  makers-agree = first-agree _ _ count (λ i h. maker-agree s xs padded (layout_at ys i) (layout_at zs i) (A i h))

  pub named-agree : layout_named s xs padded ys count ≡ layout_named s xs padded zs count
  unfolding layout_named
  named-agree = rw (layouts-agree, sizes-agree, makers-agree)
