-- `tiling::lists::padded_cells` meets its contract. Assumes nothing.
use Rattle.std.proofs.Common.{◌∙◌, ◌+◌, List, ℕ, refl, sym, ap, subst, min}
use Rattle.radix.specs.Radix.{max_count, prod, Sizes}
use Rattle.tiling.proofs.Shaped.{shaped-under, shaped-small}
use Rattle.tiling.specs.Tile.{padded}
use Rattle.tiling.proofs.lists.padded_cells.Goals as goal

pub physical_dims-d-requires-clause-under : goal.physical_dims-d-requires-clause-under
physical_dims-d-requires-clause-under c = shaped-under c.requires _ refl

pub product-requires : goal.product-requires
product-requires c = subst Sizes (sym c.physical_dims-d.ensures.same) (shaped-small c.requires)

pub returns : goal.returns
unfolding padded
returns c = c.product.ensures ∙ ap (λ (l : List ℕ). min (prod l) (max_count + 1)) c.physical_dims-d.ensures.same
