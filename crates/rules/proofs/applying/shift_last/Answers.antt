-- `rules::applying::shift_last` meets its contract. Assumes nothing.
use Rattle.std.proofs.Common.{◌≡◌, rules, w64, to_z, of_z}
use mir.Facts.{to_z-of_z}
use Rattle.rules.proofs.Placed.{shift-stands}
use Rattle.rules.proofs.applying.shift_last.Goals as goal

pub returns : goal.returns
returns c =
    let v : to_z w64 (of_z w64 c.word.result) ≡ c.word.result = search rules in
    let d : to_z w64 (of_z w64 c.add.result) ≡ c.add.result = search rules in
    let e = rw (to_z-of_z c.ranges.z, v, c.word.ensures) at c.add.ensures in
    let u = rw (d, e, c.back-b.ensures) at c.put.ensures in
    record { same = u.same; high = u.high; is = λ β t h. shift-stands β t c.args.z _ _ _ _ c.requires h u }
