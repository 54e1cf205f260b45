-- `pack::loops::by_table` meets its contract. Assumes nothing.
use Rattle.std.proofs.Common.{arith, List, ℕ, take, sym, ap, ◌∙◌, subst}
use Rattle.radix.proofs.Loops.{rest-pos}
use Rattle.tiling.specs.Tiled.{tiles_in}
use Rattle.tiling.proofs.Shaped.{shaped-valid}
use Rattle.pack.specs.Rows.{Carried, RowRoom, carried, offsets_from}
use Rattle.pack.proofs.Copying.{runs-of-one}
use Rattle.pack.proofs.Walking.{carried-all, all-room}
use Rattle.pack.proofs.loops.by_table.Goals as goal

pub offsets_into-requires : goal.offsets_into-requires
offsets_into-requires c =
    let n = c.requires.count_value in
    record { n_nonzero = (omega (arith, rest-pos c.args.t.now.sizes.now 0 c.args.t.now.ready.shaped.small, n.0), omega (arith, n.0), n.1) }

pub carry_row-requires-clause-room : goal.carry_row-requires-clause-room
carry_row-requires-clause-room c =
    let a = c.args in
    let tss = tiles_in a.t.now in
    let all = c.offsets_into.ensures ∙ ap (offsets_from a.t.now.sizes.now a.t.now.order.now tss) c.requires.count_value.0 in
    subst (λ (t : List ℕ). RowRoom a.packs a.from.now 0 t 0 a.to.now) (sym all) (all-room a.packs a.t.now.sizes.now a.t.now.order.now tss a.from.now a.to.now (shaped-valid c.args.t.now.ready.shaped) c.requires.has_room)

pub carry_row-requires-clause-run_nonzero : goal.carry_row-requires-clause-run_nonzero
carry_row-requires-clause-run_nonzero c = (omega arith, runs-of-one (take c.args.count c.offsets_into.new.table))

pub returns : goal.returns
returns c =
    let a = c.args in
    let tss = tiles_in a.t.now in
    let all = c.offsets_into.ensures ∙ ap (offsets_from a.t.now.sizes.now a.t.now.order.now tss) c.requires.count_value.0 in
    subst (λ (xs : List ℕ). Carried a.packs a.t.now.sizes.now a.t.now.order.now tss a.from.now a.to.now xs) (sym (c.carry_row.ensures ∙ ap (λ (t : List ℕ). carried a.packs a.from.now 0 t 0 a.to.now) all))
    (carried-all a.packs a.t.now.sizes.now a.t.now.order.now tss a.from.now a.to.now (shaped-valid c.args.t.now.ready.shaped) c.requires.has_room)
