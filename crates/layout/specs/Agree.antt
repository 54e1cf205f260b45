-- Two layouts that agree up to their counts: what stands past them may be anything. Assumes nothing.
use Rattle.std.specs.Prelude.{◌≡◌}
use Rattle.layout.specs.Layout.{minor_to_major, lens_of, tiles_of}
use Rattle.layout.specs.declared.Layout.{Layout}

pub record LayoutsAgree (a b : Layout) : Type 0 where
  pub rank : a.rank ≡ b.rank
  pub tiles : a.tiles ≡ b.tiles
  pub order : minor_to_major a ≡ minor_to_major b
  pub lens : lens_of a ≡ lens_of b
  pub entries : tiles_of a ≡ tiles_of b
