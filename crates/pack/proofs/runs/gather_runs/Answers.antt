-- `pack::runs::gather_runs` meets its contract. Assumes nothing.
use Rattle.std.proofs.Common.{arith, ◌≡◌, ℕ, List, [], ◌+◌, length, drop, sym, ap, ◌∙◌}
use Rattle.std.proofs.Math.Nat.{add-zero}
use Rattle.std.proofs.lemmas.List.{drop_all}
use Rattle.pack.specs.Rows.{gathered}
use Rattle.pack.proofs.Copying.{at_front, at_next, run_at, run-reaches, gather-run}
use Rattle.pack.proofs.runs.gather_runs.Goals as goal

pub loop-j-init : goal.loop-j-init
loop-j-init c =
    let a = c.args in
    (omega arith, at_front a.run a.table.now, ap (λ (k : ℕ). gathered a.cells.now a.base a.table.now k a.destination.now) (add-zero a.a))

pub overflow_add-o : goal.overflow_add-o
overflow_add-o c =
    let g = run_at c.args.run c.args.table.now c.loop-j.j c.run_from-n.result c.requires.run_nonzero.1 c.loop-j.invariant.1 c.run_from-n.ensures in
    let r = run-reaches c.args.base c.args.table.now (length c.args.cells.now) c.loop-j.j c.run_from-n.result c.requires.table_in_bounds.1 c.run_from-n.ensures.some c.run_from-n.ensures.inside g in
    omega (arith, r)

pub copy_values-requires : goal.copy_values-requires
copy_values-requires c =
    let g = run_at c.args.run c.args.table.now c.loop-j.j c.run_from-n.result c.requires.run_nonzero.1 c.loop-j.invariant.1 c.run_from-n.ensures in
    let r = run-reaches c.args.base c.args.table.now (length c.args.cells.now) c.loop-j.j c.run_from-n.result c.requires.table_in_bounds.1 c.run_from-n.ensures.some c.run_from-n.ensures.inside g in
    (r, omega (arith, c.requires.table_in_bounds.0, c.run_from-n.ensures.inside, c.loop-j.auto.destination))

pub loop-j-preserved : goal.loop-j-preserved
loop-j-preserved c =
    let l = c.loop-j in
    let s = c.args in
    let n = c.run_from-n.result in
    let g = run_at c.args.run c.args.table.now c.loop-j.j c.run_from-n.result c.requires.run_nonzero.1 c.loop-j.invariant.1 c.run_from-n.ensures in (
      c.run_from-n.ensures.inside,
      at_next s.run s.table.now l.j n c.run_from-n.ensures l.invariant.1,
      ap (λ (xs : List ℕ). gathered s.cells.now s.base (drop (l.j + n) s.table.now) (s.a + (l.j + n)) xs) c.copy_values.ensures ∙ gather-run s.cells.now s.base s.table.now s.a l.j n l.destination c.run_from-n.ensures.inside g ∙ l.invariant.2,
    )

pub returns : goal.returns
returns c =
    let l = c.loop-j in
    let s = c.args in
    let e : drop l.j s.table.now ≡ [] = drop_all l.j s.table.now c.loop-j-test.false in
    ap (λ (t : List ℕ). gathered s.cells.now s.base t (s.a + l.j) l.destination) (sym e) ∙ l.invariant.2
