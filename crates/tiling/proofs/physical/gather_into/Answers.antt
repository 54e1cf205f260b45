-- `tiling::physical::gather_into` meets its contract. Assumes nothing.
use Rattle.std.proofs.Common.{◌∙◌, ◌<◌, ◌+◌, ℕ, sym, ap, arith, length, take, set}
use lib.ListN.{length-map}
use Rattle.radix.proofs.Lists.{fill-next}
use Rattle.tiling.proofs.OwnCells.{get_d-gather}
use Rattle.tiling.specs.Ready.{Under}
use Rattle.tiling.specs.Tile.{gather}
use Rattle.tiling.proofs.physical.gather_into.Goals as goal

pub offset_bounds-xs-j : goal.offset_bounds-xs-j
unfolding Under
offset_bounds-xs-j c = let h = c.requires.under c.loop-i.i c.loop-i-test.true in omega arith

pub bounds-xs-j : goal.bounds-xs-j
unfolding Under
bounds-xs-j c = c.requires.under c.loop-i.i c.loop-i-test.true

pub loop-i-preserved : goal.loop-i-preserved
loop-i-preserved c =
    let l = c.loop-i in
    let T = gather c.args.p.now c.args.xs.now in
    let h : l.i < length T = rw length-map c.loop-i-test.true in
    ap (λ (v : ℕ). take (l.i + 1) (set l.out l.i v)) (sym (get_d-gather c.args.p.now c.args.xs.now l.i c.loop-i-test.true)) ∙ fill-next l.out T l.i (omega arith) h l.invariant
