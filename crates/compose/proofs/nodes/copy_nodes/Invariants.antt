-- What the loop of `copy_nodes` keeps.
use Rattle.expression.specs.Node.{nodes_at}
use Rattle.encoding.specs.Written.{Written}
use Rattle.compose.proofs.nodes.copy_nodes.Given as goal

abbrev pub invariant-loop-j : goal.invariant-loop-j
invariant-loop-j l = Written (nodes_at l.dims l.ranges l.source l.held l.from l.j) l.fn.kinds l.kinds l.fn.values l.values l.at l.place
