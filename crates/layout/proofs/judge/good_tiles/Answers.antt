-- `layout::judge::good_tiles` meets its contract. Assumes nothing.
use Rattle.std.proofs.Common.{◌≡◌, ◌∙◌, ◌*◌, true, sym, arith, get_or, take, drop}
use native.Mathlib.Nat.{add-sub_cancel_left}
use borrow.Author.Tests.{le-leb}
use Rattle.radix.specs.Radix.{is_within}
use Rattle.tiling.specs.Tile.{max_entries, max_entry}
use Rattle.layout.proofs.Accepted.{tiles-test-at}
use Rattle.layout.proofs.judge.good_tiles.Goals as goal

pub loop-l-preserved : goal.loop-l-preserved
loop-l-preserved c =
    let l = c.loop-l.l in
    let m = get_or c.args.lens.now l 0 in
    let w : is_within max_entry (take m (drop (max_entries * l) c.args.flat.now)) ≡ true = sym (rw (add-sub_cancel_left (max_entries * l) m) at c.within.ensures) ∙ c.if-not-within.false in
    let e = tiles-test-at c.loop-l.n c.args.lens.now c.args.flat.now l c.loop-l-test.true in (
      omega arith,
      sym (rw (le-leb 1 m (omega arith), le-leb m 6 (omega arith), le-leb m c.loop-l.n (omega arith), w) at e) ∙ c.loop-l.invariant.1,
    )
