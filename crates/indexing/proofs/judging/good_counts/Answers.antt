-- `indexing::judging::good_counts` meets its contract. Assumes nothing.
use borrow.Author.Tests.{le-leb}
use mathlib.Core.Path.{◌≡◌}
use Prim.Native.Nat.{◌+◌, min}
use native.Mathlib.Omega.{arith}
use Rattle.std.proofs.lemmas.Bool.Decides.{nat_tests}
use Rattle.expression.specs.Node.{max_variables, max_nodes}
use Rattle.indexing.specs.Map.{max_results, max_constraints, start_of, runs, count_of, good_counts}
use Rattle.indexing.proofs.Starts.{capped}
use Rattle.indexing.proofs.judging.good_counts.Goals as goal

pub returns-then-m-gt-MAX_VARIABLES : goal.returns-then-m-gt-MAX_VARIABLES
unfolding good_counts
returns-then-m-gt-MAX_VARIABLES c = grind (arith, nat_tests)

pub returns : goal.returns
unfolding good_counts
returns c =
    let m = c.args.m in
    let e : min m.results max_results ≡ m.results = omega arith in
    let n : c.start_of-nodes.result ≡ min (start_of (count_of m) (runs m)) (max_nodes + 1) = rw (← c.runs_held.ensures, e) c.start_of-nodes.ensures in
    rw (le-leb _ max_variables c.if-m-gt-MAX_VARIABLES.false, le-leb _ max_variables c.if-m-gt-MAX_VARIABLES-2.false, le-leb _ max_results c.if-m-gt-MAX_RESULTS.false, le-leb _ max_constraints c.if-m-gt-MAX_CONSTRAINTS.false)
    (capped (start_of (count_of m) (runs m)) c.start_of-nodes.result n)
