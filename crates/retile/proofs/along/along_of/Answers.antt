-- `retile::along::along_of` meets its contract. Assumes nothing.
use Rattle.std.proofs.Common.{◌≤◌, ◌+◌, length, sym, subst, arith}
use Rattle.radix.specs.Radix.{Sizes}
use Rattle.pack.proofs.Cuts.{sizes-rest, rest-whole}
use Rattle.retile.proofs.Between.{ready-to, inside-to, steps-to}
use Rattle.retile.proofs.Reach.{span-exact, dimension-is, along-is}
use Rattle.retile.proofs.along.along_of.Goals as goal

pub product-requires : goal.product-requires
product-requires c =
    let k = c.nearest_dimension-d.result + 1 in
    let ds = c.args.s.now.from.sizes.now in
    let h : k ≤ length ds = omega (arith, inside-to c.args.s.now _ c.nearest_dimension-d.ensures) in
    subst Sizes (sym (rest-whole k ds)) (sizes-rest k ds h c.args.s.now.from.ready.shaped.small)

pub returns : goal.returns
returns c =
    let r = c.args.s.now.from.ready.shaped in
    let t = (ready-to c.args.s.now).shaped in
    let a = c.near_offsets-a in
    let b = c.near_offsets-b in
    let d = c.nearest_dimension-d in
    let inside = inside-to c.args.s.now d.result d.ensures in
    along-is _ _ _ _ _ _ a.new.table b.new.table a.result b.result
    (dimension-is _ _ _ r.perm r.rank t.perm t.rank d.result _ _ _ _ inside c.place_of.ensures c.place_of-2.ensures (span-exact _ d.result _ r.small r.count inside c.product.ensures))
    (omega (arith, a.ensures, b.ensures)) (omega arith) (omega arith)
    (record { room = omega (arith, a.ensures); each = a.ensures.2 })
    (steps-to c.args.s.now d.result b.result b.new.table (record { room = omega (arith, b.ensures); each = b.ensures.2 }))
