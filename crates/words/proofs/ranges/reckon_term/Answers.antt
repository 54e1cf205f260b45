-- `words::ranges::reckon_term` meets its contract. Assumes nothing.
use borrow.Author.Rules.{sfits_of}
use mir.Facts.{to_z-of_z}
use Rattle.words.proofs.Ends.{up-term, down-term}
use Rattle.words.proofs.ranges.reckon_term.Goals as goal

pub returns-then-c-lt0 : goal.returns-then-c-lt0
returns-then-c-lt0 c = let x = rw (to_z-of_z c.ranges.c, to_z-of_z c.ranges.b) at c.times.ensures in
    let y = rw (to_z-of_z c.ranges.c, to_z-of_z c.ranges.a) at c.times-then-c-lt0.ensures in
    let r = rw (to_z-of_z c.ranges.c, to_z-of_z (sfits_of c.times.type_inv), x, to_z-of_z (sfits_of c.times-then-c-lt0.type_inv), y, to_z-of_z c.ranges.lo, to_z-of_z c.ranges.hi) at c.reckon_two.ensures in
    down-term c.args.c _ _ _ _ _ _ _ (rw (to_z-of_z c.ranges.c) at c.if-c-lt0.true) r

pub returns : goal.returns
returns c = let x = rw (to_z-of_z c.ranges.c, to_z-of_z c.ranges.a) at c.times-2.ensures in
    let y = rw (to_z-of_z c.ranges.c, to_z-of_z c.ranges.b) at c.times-3.ensures in
    let r = rw (to_z-of_z c.ranges.c, to_z-of_z (sfits_of c.times-2.type_inv), x, to_z-of_z (sfits_of c.times-3.type_inv), y, to_z-of_z c.ranges.lo, to_z-of_z c.ranges.hi) at c.reckon_two-2.ensures in
    up-term c.args.c _ _ _ _ _ _ _ (rw (to_z-of_z c.ranges.c) at c.if-c-lt0.false) r
