-- `rules::rewriting::hold_both` meets its contract. Assumes nothing.
use borrow.Author.Rules.{rules}
use Rattle.rules.proofs.Settled.{holds}
use Rattle.rules.proofs.rewriting.hold_both.Statement.{statement}
use Rattle.rules.proofs.rewriting.hold_both.Tie as tie

copy-requires : tie.Need-copy-a-requires
copy-requires c κs = search rules

copy-requires-2 : tie.Need-copy-requires
copy-requires-2 c κs = search rules

same_length : tie.Need-shape_of-w
same_length c = search rules

returns : tie.Need-returns
returns c =
    let second = c.before in
    let first = second.before.before.before in
    let s = first.before.before in
    holds _ _ _ _ _ _ _ _ _ s.requires.0 s.requires.1 s.requires.2 first.copy-a.ensures second.copy.ensures

pub hold_both_spec : {M : Type 1} → statement M
hold_both_spec = tie.close (tie.spec copy-requires copy-requires-2 same_length returns)
