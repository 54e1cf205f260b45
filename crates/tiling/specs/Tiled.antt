-- The tiles of a shape, an order and tiles that break no rule. Assumes nothing.
use Rattle.std.specs.Prelude.{ℕ, ◌≡◌, List}
use Rattle.tiling.specs.Tile.{tiles_from}
use Rattle.tiling.specs.declared.tiled.Tiled.{Tiled}

-- the tiles, each as the list of its entries
abbrev pub tiles_in : Tiled → List (List ℕ)
tiles_in t = tiles_from t.lens.now t.entries.now

-- it is of these lists
pub record IsTiled (t : Tiled) (sizes order lens entries : List ℕ) : Type 0 where
  pub has-sizes : t.sizes.now ≡ sizes
  pub has-order : t.order.now ≡ order
  pub has-lens : t.lens.now ≡ lens
  pub has-entries : t.entries.now ≡ entries
