-- `layout::inner::point_offset` meets its contract. Assumes nothing.
use Rattle.std.proofs.Common.{◌∙◌, ◌<◌, ℕ, sym, ap, subst, rules}
use Rattle.radix.proofs.Radix.{below, digits-row_major}
use Rattle.shape.proofs.Limits.{limits}
use Rattle.shape.specs.Shape.{count_of}
use Rattle.tiling.specs.Tile.{offset}
use Rattle.layout.proofs.Rules.{done-shape}
use Rattle.layout.specs.Layout.{offset_of, point_offset_of}
use Rattle.layout.proofs.inner.point_offset.Goals as goal

pub shared_ref_as_front-row_major : goal.shared_ref_as_front-row_major
shared_ref_as_front-row_major c = (limits c.args.shape (search rules) (done-shape c.args.shape c.args.layout c.requires.0)).rank

pub row_major-n-requires-clause-ds_bound : goal.row_major-n-requires-clause-ds_bound
row_major-n-requires-clause-ds_bound c = (limits c.args.shape (search rules) (done-shape c.args.shape c.args.layout c.requires.0)).count

pub offset_number-requires : goal.offset_number-requires
offset_number-requires c = (c.requires.0, subst (λ (n : ℕ). n < count_of c.args.shape) (sym c.row_major-n.ensures) (below c.requires.1))

pub returns : goal.returns
unfolding offset
returns c =
    c.offset_number.ensures
    ∙ ap (offset_of c.args.shape c.args.layout) c.row_major-n.ensures
    ∙ ap (point_offset_of c.args.shape c.args.layout) (digits-row_major c.requires.1)
