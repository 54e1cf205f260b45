-- `pack::rows::row_steps` meets its contract. Assumes nothing.
use Rattle.std.proofs.Common.{arith, ◌≡◌, ◌≢◌, ◌<◌, ◌≤◌, ◌-◌, ◌%◌, length, sym, ◌∙◌, subst}
use borrow.Author.Tests.{eqb-true, eqb-false}
use Rattle.std.proofs.Math.Nat.{mod-lt}
use Rattle.tiling.specs.Tiled.{tiles_in}
use Rattle.tiling.specs.declared.row.Reach.{Reach}
use Rattle.tiling.proofs.Shaped.{shaped-valid}
use Rattle.pack.specs.Rows.{IsRow}
use Rattle.pack.proofs.Cuts.{row-single, row_in}
use Rattle.pack.proofs.rows.row_steps.Goals as goal

pub returns-then-is_empty : goal.returns-then-is_empty
returns-then-is_empty c =
    let r = c.args.t.now.ready.shaped in
    let none : length c.args.t.now.sizes.now ≡ 0 = omega (arith, r.rank, eqb-true (length c.args.t.now.order.now) 0 (sym c.is_empty.ensures ∙ c.if-is_empty.true)) in
    row-single c.args.t.now.sizes.now c.args.t.now.order.now (tiles_in c.args.t.now) (shaped-valid r) r.small c.args.g c.requires.cut none c.args.q c.requires.q_lt_steps

pub returns : goal.returns
returns c =
    let r = c.args.t.now.ready.shaped in
    let i = c.requires.cut in
    let g = c.args.g in
    let more : length c.args.t.now.order.now ≢ 0 = eqb-false (length c.args.t.now.order.now) 0 (sym c.is_empty.ensures ∙ c.if-is_empty.false) in
    let some : 0 < length c.args.t.now.sizes.now = omega (arith, r.rank, more) in
    let size : 0 < g.size = omega (arith, i.wide, i.narrow) in
    let left : c.args.q % g.size < g.size = mod-lt c.args.q size in
    let most = c.min-most in
    let wide : most.result ≤ g.wide = omega (arith, most.ensures) in
    let near : most.result ≤ g.size - c.args.q % g.size = omega (arith, most.ensures) in
    let none : 0 < most.result = omega (arith, most.ensures, left, i.wide) in
    subst (λ (f : Reach). IsRow c.args.t.now.sizes.now c.args.t.now.order.now (tiles_in c.args.t.now) g c.args.q f.most) (sym c.row_reach.ensures)
    (row_in c.args.t.now.sizes.now c.args.t.now.order.now (tiles_in c.args.t.now) (shaped-valid r) r.small g i some c.args.q most.result c.requires.q_lt_steps wide near none)
