-- `rules::rewriting::settle` meets its contract. Assumes nothing.
use borrow.Author.Tests.{not-true, not-false}
use borrow.Author.Rules.{rules}
use native.Mathlib.Omega.{arith}
use Rattle.rules.proofs.Settled.{settles-many, settles-passed, settles-kept}
use Rattle.rules.proofs.rewriting.settle.Statement.{statement}
use Rattle.rules.proofs.rewriting.settle.Tie as tie

returns : tie.Need-returns-then-terms-gt65536
returns c = settles-many _ _ _ _ _ c.requires.1 c.if-terms-gt65536.true

is-small-sum-requires : tie.Need-is_small_sum-requires
is-small-sum-requires c κs = search rules

returns-2 : tie.Need-returns-then-not-is_small_sum
returns-2 c =
    let j = c.before in
    let s = j.before.before in
    settles-passed _ _ _ _ _ s.requires.1 (rw (not-true j.is_small_sum.result c.if-not-is_small_sum.true-raw) at j.is_small_sum.ensures)

copy-requires : tie.Need-copy-e-requires
copy-requires c κs = search rules

same_length : tie.Need-shape_of-w
same_length c = search rules

returns-3 : tie.Need-returns
returns-3 c =
    let e = c.before in
    let l = e.before.before in
    let j = l.before in
    let s = j.before.before in
    settles-kept _ _ _ _ _ s.requires.1 _ _ (omega arith) (rw (not-false j.is_small_sum.result l.if-not-is_small_sum.false-raw) at j.is_small_sum.ensures) e.copy-e.ensures

pub settle_spec : {M : Type 1} → statement M
settle_spec =
    tie.close
    (tie.spec returns is-small-sum-requires returns-2 copy-requires same_length returns-3)
