-- `compose::parts::compose_results` meets its contract. Assumes nothing.
use mathlib.Core.Path.{◌≡◌, ap, ◌∙◌}
use mathlib.Core.List.{[]}
use Prim.Native.Nat.{ℕ}
use native.Mathlib.Omega.{arith}
use native.Mathlib.Numerals.{add-one}
use lib.ListN.{length}
use Rattle.expression.specs.Expression.{Expr}
use Rattle.indexing.specs.Map.{max_results}
use Rattle.indexing.specs.declared.IndexingMap.{IndexingMap}
use Rattle.indexing.proofs.Formed.{counts}
use Rattle.encoding.proofs.Held.{holds-room}
use Rattle.encoding.specs.Trees.{listed, expr_at}
use Rattle.compose.specs.ComposeMap.{put_into}
use Rattle.compose.proofs.Joined.{result-run}
use Rattle.compose.proofs.Gathering.{gathers-next, gathers-as, gathers-start}
use Rattle.compose.proofs.Composed.{results-listed}
use Rattle.compose.proofs.parts.compose_results.Goals as goal

abbrev tree_of : IndexingMap → IndexingMap → ℕ → Expr
tree_of f g n = put_into f (expr_at g n)

pub loop-i-init : goal.loop-i-init
loop-i-init c = gathers-start (tree_of c.args.f c.args.g) c.requires.1

pub splice_run-end-requires : goal.splice_run-end-requires
splice_run-end-requires c = (c.requires.0, result-run c.args.g c.requires.0.both.after c.loop-i.i c.loop-i-test.true, holds-room c.loop-i.invariant.holds)

pub offset_bounds-counts-i : goal.offset_bounds-counts-i
offset_bounds-counts-i c = let n = counts c.args.g c.requires.0.both.after in record { fits = omega arith }

pub bounds-counts-i : goal.bounds-counts-i
bounds-counts-i c = let n = counts c.args.g c.requires.0.both.after in omega (arith, ap length c.requires.1.counts_zero)

pub loop-i-preserved : goal.loop-i-preserved
loop-i-preserved c = rw add-one (gathers-next [] (tree_of c.args.f c.args.g) max_results c.loop-i.i c.loop-i.invariant c.splice_run-end.ensures)

pub returns : goal.returns
returns c =
    let e : c.loop-i.i ≡ c.args.g.results = omega arith in
    gathers-as (ap (listed (tree_of c.args.f c.args.g)) e ∙ results-listed c.args.f c.args.g c.requires.0) c.loop-i.invariant
