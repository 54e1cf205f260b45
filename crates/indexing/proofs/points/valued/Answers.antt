-- `indexing::points::valued` meets its contract. Assumes nothing.
use mir.Syntax.{w64}
use mir.Val.{to_z, of_z}
use borrow.Author.Rules.{rules}
use mathlib.Core.Path.{◌≡◌, sym, ap₂, ◌∙◌}
use mathlib.Core.List.{List}
use native.Mathlib.Omega.{arith}
use lib.IntN.{ℤ}
use lib.ListN.{set}
use Rattle.indexing.specs.Map.{max_results, value_at}
use Rattle.indexing.proofs.Fronts.{front-none, front-next}
use Rattle.indexing.proofs.Formed.{counts-of}
use Rattle.indexing.proofs.points.valued.Goals as goal

pub loop-i-init : goal.loop-i-init
loop-i-init c = sym (front-none _ max_results)

pub value_at-requires : goal.value_at-requires
value_at-requires c = let w = counts-of c.args.m c.requires.measured.accepted.formed.counts in (c.requires, omega arith)

pub offset_bounds-values-i : goal.offset_bounds-values-i
offset_bounds-values-i c = let w = counts-of c.args.m c.requires.measured.accepted.formed.counts in record { fits = omega arith }

pub bounds-values-i : goal.bounds-values-i
bounds-values-i c = let w = counts-of c.args.m c.requires.measured.accepted.formed.counts in omega arith

pub loop-i-preserved : goal.loop-i-preserved
loop-i-preserved c =
    let w = counts-of c.args.m c.requires.measured.accepted.formed.counts in
    let k : to_z w64 (of_z w64 c.value_at.result) ≡ c.value_at.result = search rules in
    ap₂ (λ (x : List ℤ) (z : ℤ). set x c.loop-i.i z) c.loop-i.invariant (k ∙ c.value_at.ensures)
    ∙ front-next (value_at c.args.m c.args.ds.now c.args.ss.now) c.loop-i.i max_results (omega arith)
