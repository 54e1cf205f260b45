-- That the facts of a tiled shape have one proof at most, as a ghost field asks. Assumes nothing.
use mathlib.Core.HLevel.{Unit-prop}
use Rattle.std.proofs.Props as std
use Rattle.std.specs.Prelude.{ℕ, ◌+◌, List, [], ◌∷◌, drop}
use Rattle.radix.specs.Radix.{Bounded}
use Rattle.tiling.specs.Tile.{max_entries}
use Rattle.tiling.specs.Ready.{Levels}

pub Bounded-prop : (most : ℕ) (ds : List ℕ) → IsProp (Bounded most ds)
unfolding Bounded
Bounded-prop most ds = Prim.hlevel std.props

pub Levels-prop : (lens flat : List ℕ) (n : ℕ) → IsProp (Levels lens flat n)
Levels-prop [] flat n = Unit-prop
Levels-prop (m ∷ lens) flat n = let rest = Levels-prop lens (drop max_entries flat) (n + m) in Prim.hlevel (rest, Bounded-prop, std.props)

pub ruleset props = (Bounded-prop, Levels-prop, std.props)
