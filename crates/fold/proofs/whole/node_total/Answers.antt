-- What the search leaves of `fold::whole::node_total`. Assumes nothing.
use Rattle.std.proofs.Common.{◌≡◌, ◌+◌, arith}
use Rattle.indexing.proofs.Formed.{never-cut}
use Rattle.fold.specs.Ready.{map_nodes}
use Rattle.fold.proofs.Runs.{no-runs, last-run, last_end, nodes-most, runs-most}
use Rattle.fold.proofs.whole.node_total.Goals as goal

pub overflow_add-n : goal.overflow_add-n
overflow_add-n c = record { fits = omega (arith, runs-most c.args.m c.requires.formed) }

pub returns-then-n-eq0 : goal.returns-then-n-eq0
returns-then-n-eq0 c = no-runs c.args.m c.requires.formed c.if-n-eq0.true

pub run_of-requires : goal.run_of-requires
run_of-requires c = last-run c.args.m c.requires.formed c.if-n-eq0.false

-- where the last run ends
pub overflow_add-result : goal.overflow_add-result
overflow_add-result c =
    let end : c.in-Some.from + c.in-Some.count ≡ map_nodes c.args.m = last_end c.args.m c.requires.formed c.if-n-eq0.false _ _ c.in-Some.ensures in
    record { fits = omega (arith, end, nodes-most c.args.m c.requires.formed) }

pub returns-in-Some : goal.returns-in-Some
returns-in-Some c = last_end c.args.m c.requires.formed c.if-n-eq0.false _ _ c.in-Some.ensures

pub returns-in-None : goal.returns-in-None
returns-in-None c = absurd (never-cut c.args.m _ c.requires.formed (last-run c.args.m c.requires.formed c.if-n-eq0.false) c.in-None.ensures)
