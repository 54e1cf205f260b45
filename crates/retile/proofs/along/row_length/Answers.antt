-- `retile::along::row_length` meets its contract. Assumes nothing.
use Rattle.std.proofs.Common.{◌<◌, ◌≤◌, ◌-◌, ◌/◌, ◌%◌, ℕ, suc, sym, ap, subst, arith}
use native.Mathlib.Nat.{mod-lt}
use Rattle.radix.proofs.Loops.{rest-pos}
use Rattle.tiling.specs.declared.row.Reach.{Reach}
use Rattle.tiling.proofs.Shaped.{shaped-valid}
use Rattle.retile.proofs.Between.{ready-to}
use Rattle.retile.proofs.Reach.{dimension-some, row-single, row_in, room-some}
use Rattle.retile.proofs.along.row_length.Goals as goal

pub returns-then-wide-eq1 : goal.returns-then-wide-eq1
returns-then-wide-eq1 c = row-single _ _ _ _ _ _ _ _ c.requires.along.0.some c.requires.along.1

pub nonzero_div-c : goal.nonzero_div-c
nonzero_div-c c =
    let d = c.requires.along.0.more (omega (arith, c.requires.along.0.some)) in
    subst (λ (x : ℕ). 0 < x) (sym d.span) (rest-pos c.args.s.now.from.sizes.now (suc c.args.g.dimension) c.args.s.now.from.ready.shaped.small)

pub nonzero_rem-c : goal.nonzero_rem-c
nonzero_rem-c c =
    let d = c.requires.along.0.more (omega (arith, c.requires.along.0.some)) in
    dimension-some _ _ _ _ d c.args.s.now.from.ready.shaped.small

pub overflow_sub-g : goal.overflow_sub-g
overflow_sub-g c =
    let d = c.requires.along.0.more (omega (arith, c.requires.along.0.some)) in
    let below = mod-lt (c.args.n / c.args.g.span) (dimension-some _ _ _ _ d c.args.s.now.from.ready.shaped.small) in
    omega (arith, below)

pub returns : goal.returns
returns c =
    let g = c.args.g in
    let d = c.requires.along.0.more (omega (arith, c.requires.along.0.some)) in
    let below = mod-lt (c.args.n / g.span) (dimension-some _ _ _ _ d c.args.s.now.from.ready.shaped.small) in
    let most = c.min-most.result in
    let some : 0 < most = omega (arith, below, c.requires.along.0.some) in
    let wide : most ≤ g.wide = omega arith in
    let left : most ≤ g.size - c.args.n / g.span % g.size = omega arith in
    let v = shaped-valid c.args.s.now.from.ready.shaped in
    let w = shaped-valid (ready-to c.args.s.now).shaped in
    let near = ap (λ (f : Reach). f.most) c.row_reach-a.ensures in
    let far = ap (λ (f : Reach). f.most) c.row_reach-b.ensures in
    let a = room-some _ _ _ v g.from (c.args.n / g.span % g.size) most d.from.0 some in
    let b = room-some _ _ _ w g.to (c.args.n / g.span % g.size) most d.to.0 some in
    row_in _ _ _ _ _ v w g d c.args.n most c.min.result c.requires.along.1 wide left (omega (arith, a, b, near, far)) (omega (arith, near)) (omega (arith, far))
