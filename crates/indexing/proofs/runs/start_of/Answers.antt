-- `indexing::runs::start_of` meets its contract. Assumes nothing.
use mathlib.Core.Path.{refl}
use native.Mathlib.Omega.{arith}
use Rattle.indexing.specs.Map.{start_of, count_in}
use Rattle.indexing.proofs.Starts.{start-next}
use Rattle.indexing.proofs.runs.start_of.Goals as goal

pub loop-j-init : goal.loop-j-init
unfolding start_of
loop-j-init c = refl

pub loop-j-preserved : goal.loop-j-preserved
loop-j-preserved c =
    let q = start-next (count_in c.args.results.now c.args.constraints.now c.args.n) c.loop-j.j in omega arith
