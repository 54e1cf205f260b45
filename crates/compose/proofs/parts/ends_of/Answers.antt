-- `compose::parts::ends_of` meets its contract. Assumes nothing.
use native.Mathlib.Omega.{arith}
use Rattle.indexing.proofs.Formed.{counts}
use Rattle.compose.proofs.parts.ends_of.Goals as goal

pub offset_bounds-f-k : goal.offset_bounds-f-k
offset_bounds-f-k c = let n = counts c.args.f c.requires.0.both.before in record { fits = omega arith }

pub bounds-f-k : goal.bounds-f-k
bounds-f-k c = let n = counts c.args.f c.requires.0.both.before in omega arith

pub offset_bounds-f-k-then-k-f : goal.offset_bounds-f-k-then-k-f
offset_bounds-f-k-then-k-f c = let n = counts c.args.f c.requires.0.both.before in record { fits = omega arith }

pub bounds-f-k-then-k-f : goal.bounds-f-k-then-k-f
bounds-f-k-then-k-f c = let n = counts c.args.f c.requires.0.both.before in omega arith

pub offset_bounds-g-i : goal.offset_bounds-g-i
offset_bounds-g-i c = let n = counts c.args.f c.requires.0.both.before in record { fits = omega arith }

pub bounds-g-i : goal.bounds-g-i
bounds-g-i c = let n = counts c.args.f c.requires.0.both.before in omega arith

pub offset_bounds-g-i-then-i-f : goal.offset_bounds-g-i-then-i-f
offset_bounds-g-i-then-i-f c = let n = counts c.args.f c.requires.0.both.before in record { fits = omega arith }

pub bounds-g-i-then-i-f : goal.bounds-g-i-then-i-f
bounds-g-i-then-i-f c = let n = counts c.args.f c.requires.0.both.before in omega arith

pub offset_bounds-g-j : goal.offset_bounds-g-j
offset_bounds-g-j c = let n = counts c.args.g c.requires.0.both.after in record { fits = omega arith }

pub bounds-g-j : goal.bounds-g-j
bounds-g-j c = let n = counts c.args.g c.requires.0.both.after in omega arith

pub offset_bounds-g-j-2 : goal.offset_bounds-g-j-2
offset_bounds-g-j-2 c = let n = counts c.args.g c.requires.0.both.after in record { fits = omega arith }

pub bounds-g-j-2 : goal.bounds-g-j-2
bounds-g-j-2 c = let n = counts c.args.g c.requires.0.both.after in omega arith
