-- `rules::applying::rule1` meets its contract. Assumes nothing.
use borrow.Author.Rules.{rules}
use Rattle.rules.proofs.Made.{rule1-sum, rule1-zero}
use Rattle.rules.proofs.applying.rule1.Statement.{statement}
use Rattle.rules.proofs.applying.rule1.Tie as tie

skip-requires : tie.Need-skip-q-requires
skip-requires c κs = search rules

forward-requires : tie.Need-forward-f-requires
forward-requires c κs = search rules

copy-requires : tie.Need-copy-end-requires
copy-requires c κs = search rules

same_length : tie.Need-shape_of-out-then-op-eq3
same_length c = search rules

returns : tie.Need-returns-then-op-eq3
returns c =
    let y = c.before in
    let f = y.before.before in
    let q = f.before in
    let i = q.before in
    let s = i.before in
    rule1-sum _ s.args.w.now _ _ _ _ _ _ _ i.if-op-eq3.true s.requires.1 q.skip-q.ensures f.forward-f.ensures y.copy-end.ensures

put-requires : tie.Need-put-end-requires
put-requires c κs = search rules

same-length-2 : tie.Need-shape_of-out
same-length-2 c = search rules

returns-2 : tie.Need-returns
returns-2 c =
    let y = c.before in
    let i = y.before.before in
    let s = i.before in
    rule1-zero _ s.args.w.now _ _ _ _ _ i.if-op-eq3.false y.put-end.ensures

pub rule1_spec : {M : Type 1} → statement M
rule1_spec =
    tie.close
    (tie.spec
    skip-requires
    forward-requires
    copy-requires
    same_length
    returns
    put-requires
    same-length-2
    returns-2)
