-- `indexing::runs::run_of` meets its contract. Assumes nothing.
use mathlib.Core.Path.{◌≡◌, ap₂}
use Prim.Native.Nat.{◌+◌, min}
use Rattle.expression.specs.Node.{max_nodes}
use Rattle.indexing.specs.Map.{start_of, count_of}
use Rattle.indexing.proofs.Formed.{stands}
use Rattle.indexing.proofs.Starts.{past-cut, ends-cut, ends_held}
use Rattle.indexing.proofs.runs.run_of.Goals.{else-from-le-MAX_NODES-via-then-from-le-MAX_NODES+else-count-from, else-from-le-MAX_NODES-via-else-from-le-MAX_NODES}
use Rattle.indexing.proofs.runs.run_of.Goals as goal

pub returns-then-count-from : goal.returns-then-count-from
returns-then-count-from c =
    let n : c.count_at-count.result ≡ count_of c.args.m c.args.i = rw c.min-n.ensures at c.count_at-count.ensures in
    let s : c.start_of-from.result ≡ min (start_of (count_of c.args.m) c.args.i) (max_nodes + 1) = rw c.min-n.ensures at c.start_of-from.ensures in
    let h = ends_held (count_of c.args.m) c.args.i _ _ s n c.if-count-from.true c.if-from-le-MAX_NODES.true in
    rw h.0 (ap₂ stands h.1 n)

pub returns-else-from-le-MAX_NODES : goal.returns-else-from-le-MAX_NODES
returns-else-from-le-MAX_NODES c =
    let n : c.count_at-count.result ≡ count_of c.args.m c.args.i = rw c.min-n.ensures at c.count_at-count.ensures in
    let s : c.start_of-from.result ≡ min (start_of (count_of c.args.m) c.args.i) (max_nodes + 1) = rw c.min-n.ensures at c.start_of-from.ensures in
    elim c.else-from-le-MAX_NODES.branch [
      | else-from-le-MAX_NODES-via-then-from-le-MAX_NODES+else-count-from w ↦ rw (ends-cut (count_of c.args.m) c.args.i _ _ s n w.if-count-from.false w.if-from-le-MAX_NODES.true)
      | else-from-le-MAX_NODES-via-else-from-le-MAX_NODES w ↦ rw (past-cut (count_of c.args.m) c.args.i _ _ s n w.if-from-le-MAX_NODES.false)
    ]
