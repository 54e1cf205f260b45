-- `pack::loops::pack_in` meets its contract. Assumes nothing.
use Rattle.std.proofs.Common.{◌≡◌, List, ℕ, ap, ◌∙◌, subst}
use Rattle.radix.specs.Radix.{prod}
use Rattle.tiling.specs.Tile.{padded}
use Rattle.tiling.specs.Tiled.{tiles_in}
use Rattle.tiling.proofs.Shaped.{shaped-valid}
use Rattle.pack.specs.Rows.{Stored, start_of}
use Rattle.pack.proofs.Packing.{pack-whole}
use Rattle.pack.proofs.loops.pack_in.Goals as goal

-- the cells as they are cleared are what packing starts from
pub returns : goal.returns
returns c =
    let a = c.args in
    let tss = tiles_in a.t.now in
    let out = c.carry.new.to in
    let n = c.requires.count_value in
    let first : c.clear_padding.new.cells ≡ start_of (prod a.t.now.sizes.now) (padded a.t.now.sizes.now a.t.now.order.now tss) a.cells.now =
    c.clear_padding.ensures ∙ ap (λ (m : ℕ). start_of m a.size a.cells.now) n.0 ∙ ap (λ (m : ℕ). start_of (prod a.t.now.sizes.now) m a.cells.now) n.1 in
    pack-whole a.t.now.sizes.now a.t.now.order.now tss (shaped-valid c.args.t.now.ready.shaped) a.source.now a.cells.now out (c.carry.auto.to ∙ c.clear_padding.auto.cells)
    (subst (λ (x : List ℕ). Stored a.t.now.sizes.now a.t.now.order.now tss a.source.now (prod a.t.now.sizes.now) x out) first c.carry.ensures)
