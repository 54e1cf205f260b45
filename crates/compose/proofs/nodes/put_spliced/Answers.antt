-- `compose::nodes::put_spliced` meets its contract. Assumes nothing.
use borrow.Author.Rules.{rules}
use Prim.Native.Nat.{◌<◌}
use Rattle.compose.proofs.Joined.{result-run}
use Rattle.compose.proofs.nodes.put_spliced.Goals as goal

pub copy_run-requires : goal.copy_run-requires
copy_run-requires c =
    let h : c.in-Leaf-Dim.n < c.args.f.results = search rules in
    (c.requires.0.formed, result-run c.args.f c.requires.0.formed _ h, c.requires.1)
