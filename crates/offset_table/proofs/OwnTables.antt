-- The table of a layout: its length and offsets; of an accepted one, that they are inside and different. Assumes nothing.
use mathlib.Core.Path.{◌≡◌, refl, sym, ◌∙◌}
use mathlib.Core.Bool.{true}
use Prim.Native.Nat.{ℕ, ◌<◌, ◌≤◌}
use native.Mathlib.Omega.{arith}
use lib.ListN.{length, get_or}
use borrow.Author.Tests.{le-leb, eq-eqb}
use Rattle.radix.proofs.Radix.{length-tab, get_d-tab}
use Rattle.shape.specs.Shape.{count_of}
use Rattle.shape.specs.declared.Shape.{Shape}
use Rattle.layout.specs.Layout.{padded_of, offset_of}
use Rattle.layout.specs.declared.Layout.{Layout}
use Rattle.layout.proofs.Accepted.{Accepted}
use Rattle.layout.proofs.Theorems.{offset-inside, offsets-differ}
use Rattle.offset_table.specs.Table.{AllInside, AllDifferent}
use Rattle.offset_table.specs.Makes.{table_of, Makes}
use Rattle.offset_table.specs.Answers.{max_elements, is_table}

module _ (s : Shape) (l : Layout) where
  own-long : length (table_of s l) ≡ count_of s
  own-long = length-tab (offset_of s l) (count_of s)

  own_at : (k : ℕ) → k < count_of s → get_or (table_of s l) k 0 ≡ offset_of s l k
  own_at k h = get_d-tab (offset_of s l) (count_of s) k 0 h

  pub own-makes : Makes s (table_of s l) (padded_of s l) l
  own-makes = record { size = refl; offsets = own_at }

  pub own-table : count_of s ≤ max_elements → is_table s (table_of s l) ≡ true
  unfolding is_table
  own-table h = rw (le-leb (count_of s) max_elements h, eq-eqb (length (table_of s l)) (count_of s) own-long)

  module _ (good : Accepted s l) where
    pub own-inside : AllInside (table_of s l) (padded_of s l)
    own-inside k h = let b : k < count_of s = omega (arith, own-long) in rw (own_at k b) (offset-inside s l good k b)

    pub own-apart : AllDifferent (table_of s l)
    own-apart i j g h q =
        let b : j < count_of s = omega (arith, own-long) in
        let a : i < count_of s = omega arith in
        offsets-differ s l good i j a b (λ z. omega arith) (sym (own_at i a) ∙ q ∙ own_at j b)
