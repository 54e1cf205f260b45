-- `retile::along::near_offsets` meets its contract. Assumes nothing.
use Rattle.std.proofs.Common.{◌≡◌, ◌<◌, ◌≤◌, ◌+◌, ◌*◌, ◌∙◌, ℕ, suc, List, length, get_or, drop, sym, ap, subst, arith}
use mathlib.Core.Logic.{⊎_elim}
use native.Mathlib.Nat.{zero-mul, eq-zero-or-pos}
use Rattle.radix.specs.Radix.{prod, Sizes, Bounded}
use Rattle.tiling.specs.Tile.{offset}
use Rattle.tiling.specs.Tiled.{tiles_in}
use Rattle.tiling.proofs.First.{offset-first}
use Rattle.pack.proofs.Cuts.{sizes-rest, rest-whole}
use Rattle.retile.proofs.Reach.{coordinate-below, span-exact, steps_next}
use Rattle.retile.proofs.along.near_offsets.Goals as goal

pub product-span-requires : goal.product-span-requires
product-span-requires c =
    let ds = c.args.t.now.sizes.now in
    let k = c.args.dimension + 1 in
    let h : k ≤ length ds = omega (arith, c.requires.dimension_in_bounds) in
    subst Sizes (sym (rest-whole k ds)) (sizes-rest k ds h c.args.t.now.ready.shaped.small)

pub overflow_mul-j : goal.overflow_mul-j
overflow_mul-j c =
    let r = c.args.t.now.ready.shaped in
    let b = c.requires.dimension_in_bounds.0 in
    let s = span-exact c.args.t.now.sizes.now c.args.dimension _ r.small r.count b c.product-span.ensures in
    let j : c.loop-j.j < get_or c.args.t.now.sizes.now c.args.dimension 0 = omega arith in
    let h = coordinate-below c.args.t.now.sizes.now c.args.dimension c.loop-j.j r.small b j in
    rw s (omega (arith, h, r.count))

pub offset-o-requires : goal.offset-o-requires
offset-o-requires c =
    let r = c.args.t.now.ready.shaped in
    let b = c.requires.dimension_in_bounds.0 in
    let s = span-exact c.args.t.now.sizes.now c.args.dimension _ r.small r.count b c.product-span.ensures in
    let j : c.loop-j.j < get_or c.args.t.now.sizes.now c.args.dimension 0 = omega arith in
    rw s (coordinate-below c.args.t.now.sizes.now c.args.dimension c.loop-j.j r.small b j)

-- the offset of the coordinate that was read
found : (sizes p : List ℕ) (tss : List (List ℕ)) (j span P o : ℕ) → o ≡ offset sizes p tss (j * span) → span ≡ P → o ≡ offset sizes p tss (j * P)
found sizes p tss j span P o e s = e ∙ ap (λ (x : ℕ). offset sizes p tss (j * x)) s

-- and only the first may be 0
some : (sizes p : List ℕ) (tss : List (List ℕ)) (j P o : ℕ) → o ≡ offset sizes p tss (j * P) → 0 < o → 0 < j
some sizes p tss j P o e h =
    ⊎_elim
    (λ (z : j ≡ 0).
    let y : o ≡ 0 = e ∙ ap (λ (x : ℕ). offset sizes p tss (x * P)) z ∙ ap (offset sizes p tss) (zero-mul P) ∙ offset-first sizes p tss in
    absurd (omega arith))
    (λ g. g) (eq-zero-or-pos j)

pub returns-then-limit-o : goal.returns-then-limit-o
returns-then-limit-o c =
    let a = c.args in
    let r = c.args.t.now.ready.shaped in
    let s = span-exact a.t.now.sizes.now a.dimension _ r.small r.count c.requires.dimension_in_bounds.0 c.product-span.ensures in
    let tss = tiles_in a.t.now in
    let e = found a.t.now.sizes.now a.t.now.order.now tss c.loop-j.j _ _ _ c.offset-o.ensures s in
    let h : 0 < c.offset-o.result = omega (arith, c.requires.dimension_in_bounds) in
    (some a.t.now.sizes.now a.t.now.order.now tss c.loop-j.j _ _ e h, omega arith, c.loop-j.invariant.each)

pub loop-j-preserved : goal.loop-j-preserved
loop-j-preserved c =
    let a = c.args in
    let r = c.args.t.now.ready.shaped in
    let s = span-exact a.t.now.sizes.now a.dimension _ r.small r.count c.requires.dimension_in_bounds.0 c.product-span.ensures in
    let tss = tiles_in a.t.now in
    let e = found a.t.now.sizes.now a.t.now.order.now tss c.loop-j.j _ _ _ c.offset-o.ensures s in
    steps_next a.t.now.sizes.now a.t.now.order.now tss (prod (drop (suc a.dimension) a.t.now.sizes.now)) c.loop-j.table c.loop-j.j c.offset-o.result c.loop-j.invariant (omega arith) e

pub returns : goal.returns
unfolding Bounded
returns c =
    let h : 0 < get_or c.args.t.now.sizes.now c.args.dimension 0 = (c.args.t.now.ready.shaped.small c.args.dimension c.requires.dimension_in_bounds.0).0 in
    (omega (arith, c.requires.dimension_in_bounds), omega arith, λ j l. c.loop-j.invariant.each j (omega arith))
