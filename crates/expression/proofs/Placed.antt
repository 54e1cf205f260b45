-- Leaves read from a list that is laid out by places: dimensions from place 0, range variables from 8. Assumes nothing.
use mathlib.Core.Path.{◌≡◌, ap}
use mathlib.Core.List.{List}
use Prim.Native.Nat.{◌-◌}
use lib.IntN.{ℤ}
use lib.ListN.{length, take, drop, length-drop}
use borrow.Author.Rules.{part_to_end}
use Rattle.expression.specs.Node.{max_variables, max_places, SoundLeaf}
use Rattle.expression.specs.Value.{leaf_value}
use Rattle.expression.specs.Reckon.{placed_leaf}
use Rattle.expression.specs.declared.Leaf.{Leaf}
use native.Mathlib.Omega.{arith}
use Rattle.expression.specs.declared.Leaf.TheVariants.{Dim, Range, Constant}

-- the list from place 8 on, as the code takes it
abbrev rest : List ℤ → List ℤ
rest l = take (length l - max_variables) (drop max_variables l)

module _ (l : List ℤ) (x : Leaf) (h : length l ≡ max_places) where
  pub placed-is : leaf_value l (rest l) x ≡ placed_leaf l x
  placed-is = ap (λ (r : List ℤ). leaf_value l r x) (part_to_end l max_variables)

  -- a variable of at most 8 has its place
  sound-in : (y : Leaf) → SoundLeaf max_variables max_variables y → SoundLeaf (length l) (length (drop max_variables l)) y
  sound-in (Dim n) s = omega arith
  sound-in (Range n) s = omega (arith, length-drop max_variables l)
  sound-in (Constant z) s = s

  pub placed-sound : SoundLeaf max_variables max_variables x → SoundLeaf (length l) (length (rest l)) x
  placed-sound s = rw (part_to_end l max_variables) (sound-in x s)
