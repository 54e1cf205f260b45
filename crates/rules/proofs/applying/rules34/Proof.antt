-- `rules::applying::rules34` meets its contract. Assumes nothing.
use borrow.Author.Rules.{rules}
use lib.IntN.{nat_abs}
use mir.Facts.{to_z-of_z}
use Rattle.rules.proofs.Made.{all-kept, some-leave}
use Rattle.rules.proofs.applying.rules34.Statement.{statement}
use Rattle.rules.proofs.applying.rules34.Tie as tie

keeps-all-requires : tie.Need-keeps_all-requires
keeps-all-requires c κs = search rules

rule4-requires : tie.Need-rule4-requires
rule4-requires c κs = search rules

same_length : tie.Need-shape_of-out-then-keeps_all
same_length c = search rules

returns : tie.Need-returns-then-keeps_all
returns c =
    let y = c.before in
    let i = y.before.before in
    let k = i.before in
    let s = k.before in
    all-kept _ s.args.w.now _ _ (nat_abs s.args.c) _ _ _ (rw (i.if-keeps_all.true, to_z-of_z s.ranges.c) at k.keeps_all.ensures) (rw (to_z-of_z s.ranges.c) at y.rule4.ensures)

rule3-requires : tie.Need-rule3-requires
rule3-requires c κs = search rules

same-length-2 : tie.Need-shape_of-out
same-length-2 c = search rules

returns-2 : tie.Need-returns
returns-2 c =
    let y = c.before in
    let i = y.before.before in
    let k = i.before in
    let s = k.before in
    some-leave _ s.args.w.now _ _ (nat_abs s.args.c) _ _ _ (rw (i.if-keeps_all.false, to_z-of_z s.ranges.c) at k.keeps_all.ensures) (rw (to_z-of_z s.ranges.c) at y.rule3.ensures)

pub rules34_spec : {M : Type 1} → statement M
rules34_spec =
    tie.close
    (tie.spec
    keeps-all-requires
    rule4-requires
    same_length
    returns
    rule3-requires
    same-length-2
    returns-2)
