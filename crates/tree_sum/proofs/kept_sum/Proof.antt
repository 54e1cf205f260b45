-- `tree_sum::kept_sum` meets its contract. Assumes nothing.
use borrow.Author.Tests.{not-true, not-false}
use borrow.Author.Rules.{rules}
use Rattle.tree_sum.proofs.Moved.{not-kept, is-kept}
use Rattle.tree_sum.proofs.kept_sum.Statement.{statement}
use Rattle.tree_sum.proofs.kept_sum.Tie as tie

reckon-requires : tie.Need-reckon-r-requires
reckon-requires c κs = search rules

no-sum-requires : tie.Need-no_sum-requires
no-sum-requires c κs = search rules

returns : tie.Need-returns-then-not-ok
returns c =
    let i = c.before in
    let k = i.before in
    let s = k.before in
    let o = not-true k.reckon-r.result.ok i.if-not-ok.true-raw in
    rw c.no_sum.ensures (not-kept s.args.y.now s.args.n s.args.end s.args.begin s.args.x.now s.args.p s.requires.1 s.requires.0 _ _ (rw o at k.reckon-r.ensures))

copy-requires : tie.Need-copy-e-requires
copy-requires c κs = search rules

same_length : tie.Need-shape_of-x
same_length c = search rules

returns-2 : tie.Need-returns
returns-2 c =
    let k = c.before.before.before.before in
    let s = k.before in
    let o = not-false k.reckon-r.result.ok c.if-not-ok.false-raw in
    is-kept s.args.y.now s.args.n s.args.end s.args.begin s.args.x.now s.args.p s.requires.1 s.requires.0 _ _ s.requires.2 (rw o at k.reckon-r.ensures) _ _ c.copy-e.ensures

pub kept_sum_spec : {M : Type 1} → statement M
kept_sum_spec = tie.close (tie.spec reckon-requires no-sum-requires returns copy-requires same_length returns-2)
