-- `pack::store` meets its contract. Assumes nothing.
use Rattle.std.proofs.Common.{arith, rules, ℕ, length, sym, ap}
use Rattle.std.proofs.lemmas.Result.{err_from_is_err_and}
use lib.ListN.{set}
use Rattle.pack.specs.Answers.{store_answer, store_cells}
use Rattle.pack.proofs.Rules.{element-inside}
use Rattle.pack.proofs.store.Goals as goal

pub returns-in_err-judge_element : goal.returns-in_err-judge_element
unfolding store_answer store_cells
returns-in_err-judge_element c =
    let p = err_from_is_err_and c.from_residual.result c.from_residual.ensures.1 in
    let e = sym c.in_err-judge_element.ensures in
    (rw (p.1, p.2, e), rw e)

pub offset_bounds-cells-o : goal.offset_bounds-cells-o
offset_bounds-cells-o c =
    let w = element-inside c.args.shape c.args.layout c.args.element.0 (length c.args.cells.now) (search rules) (record { order = search rules; lens = search rules; tile = search rules }) (sym c.in_ok-judge_element.ensures) in
    omega (arith, w.1, c.offset_number-o.ensures)

pub bounds-cells-o : goal.bounds-cells-o
bounds-cells-o c =
    let w = element-inside c.args.shape c.args.layout c.args.element.0 (length c.args.cells.now) (search rules) (record { order = search rules; lens = search rules; tile = search rules }) (sym c.in_ok-judge_element.ensures) in
    omega (arith, w.0, c.offset_number-o.ensures)

pub returns : goal.returns
unfolding store_answer store_cells
returns c =
    let e = sym c.in_ok-judge_element.ensures in
    (rw e, rw e (ap (λ (o : ℕ). set c.args.cells.now o c.args.value) c.offset_number-o.ensures))
