-- `pack::loops::carry` meets its contract. Assumes nothing.
use Rattle.std.proofs.Common.{◌≡◌, sym, ◌∙◌}
use Rattle.radix.specs.Radix.{prod}
use Rattle.tiling.specs.Tiled.{tiles_in}
use Rattle.tiling.proofs.First.{offset-first}
use Rattle.tiling.proofs.Shaped.{shaped-valid}
use Rattle.pack.proofs.Walking.{carried-one, one-room}
use Rattle.pack.proofs.loops.carry.Goals as goal

pub bounds-from-0 : goal.bounds-from-0
bounds-from-0 c =
    let a = c.args in
    let only : prod a.t.now.sizes.now ≡ 1 = sym c.requires.count_value ∙ c.if-count-eq1.true in
    (one-room a.packs a.t.now.sizes.now a.t.now.order.now (tiles_in a.t.now) a.from.now a.to.now (shaped-valid c.args.t.now.ready.shaped) c.requires.has_room only).0

pub bounds-to-0 : goal.bounds-to-0
bounds-to-0 c =
    let a = c.args in
    let only : prod a.t.now.sizes.now ≡ 1 = sym c.requires.count_value ∙ c.if-count-eq1.true in
    (one-room a.packs a.t.now.sizes.now a.t.now.order.now (tiles_in a.t.now) a.from.now a.to.now (shaped-valid c.args.t.now.ready.shaped) c.requires.has_room only).1

pub returns-then-count-eq1 : goal.returns-then-count-eq1
returns-then-count-eq1 c =
    let a = c.args in
    let tss = tiles_in a.t.now in
    let only : prod a.t.now.sizes.now ≡ 1 = sym c.requires.count_value ∙ c.if-count-eq1.true in
    carried-one a.packs a.t.now.sizes.now a.t.now.order.now tss a.from.now a.to.now (shaped-valid c.args.t.now.ready.shaped) c.requires.has_room only (offset-first a.t.now.sizes.now a.t.now.order.now tss)
