-- Laws of the test of a layout: it fails at another padded size and at another offset, and holds exactly where the layout makes the table. Assumes nothing.
use mathlib.Core.Path.{◌≡◌}
use mathlib.Core.Bool.{true, false}
use mathlib.Core.Logic.{◌↔◌}
use Prim.Native.Nat.{ℕ, ◌<◌}
use mathlib.Core.List.{List}
use lib.Dec.{eqb}
use lib.ListN.{get_or}
use borrow.Author.Tests.{eq-eqb, eqb-true, ne_eqb}
use Rattle.radix.proofs.Tests.{and-true, and_left, and_right, and-false, every-all, every-at, every-not}
use Rattle.shape.specs.Shape.{count_of}
use Rattle.shape.specs.declared.Shape.{Shape}
use Rattle.layout.specs.Layout.{padded_of, offset_of}
use Rattle.layout.specs.declared.Layout.{Layout}
use Rattle.offset_table.specs.Makes.{is_maker, Makes}

module _ (s : Shape) (xs : List ℕ) (padded : ℕ) (l : Layout) where
  pub size-differs : (padded_of s l ≡ padded → ⊥) → is_maker s xs padded l ≡ false
  unfolding is_maker
  size-differs h = rw (ne_eqb (padded_of s l) padded h)

  pub offset-differs : (k : ℕ) → k < count_of s → (get_or xs k 0 ≡ offset_of s l k → ⊥) → is_maker s xs padded l ≡ false
  unfolding is_maker
  offset-differs k b h =
      and-false (eqb (padded_of s l) padded) (every-not (λ (k : ℕ). eqb (get_or xs k 0) (offset_of s l k)) (count_of s) k b (ne_eqb (get_or xs k 0) (offset_of s l k) h))

  pub maker-is : (is_maker s xs padded l ≡ true) ↔ Makes s xs padded l
  unfolding is_maker
  maker-is = (
    λ e.
        record {
          size = eqb-true (padded_of s l) padded (and_left (eqb (padded_of s l) padded) _ e);
          offsets = λ k h. eqb-true (get_or xs k 0) (offset_of s l k) (every-at (λ (k : ℕ). eqb (get_or xs k 0) (offset_of s l k)) (count_of s) (and_right (eqb (padded_of s l) padded) _ e) k h);
        },
    λ m. and-true (eq-eqb (padded_of s l) padded m.size) (every-all (λ (k : ℕ). eqb (get_or xs k 0) (offset_of s l k)) (count_of s) (λ k h. eq-eqb (get_or xs k 0) (offset_of s l k) (m.offsets k h))),
  )
