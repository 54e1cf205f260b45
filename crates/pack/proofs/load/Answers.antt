-- `pack::load` meets its contract. Assumes nothing.
use Rattle.std.proofs.Common.{arith, rules, ℕ, [], ◌∷◌, length, get_or, sym, ap}
use Rattle.std.proofs.lemmas.Result.{err_from_is_err_and}
use Rattle.refusal.specs.Number.{done}
use Rattle.pack.specs.Answers.{load_value}
use Rattle.pack.proofs.Rules.{element-inside}
use Rattle.pack.proofs.load.Goals as goal

pub returns-in_err-judge_element : goal.returns-in_err-judge_element
unfolding load_value
returns-in_err-judge_element c =
    let p = err_from_is_err_and c.from_residual.result c.from_residual.ensures.1 in
    let e = sym c.in_err-judge_element.ensures in
    rw (p.1, p.2, e)

pub offset_bounds-cells-o : goal.offset_bounds-cells-o
offset_bounds-cells-o c =
    let w = element-inside c.args.shape c.args.layout c.args.element.0 (length c.args.cells.now) (search rules) (record { order = search rules; lens = search rules; tile = search rules }) (sym c.in_ok-judge_element.ensures) in
    omega (arith, w.1, c.offset_number-o.ensures)

pub bounds-cells-o : goal.bounds-cells-o
bounds-cells-o c =
    let w = element-inside c.args.shape c.args.layout c.args.element.0 (length c.args.cells.now) (search rules) (record { order = search rules; lens = search rules; tile = search rules }) (sym c.in_ok-judge_element.ensures) in
    omega (arith, w.0, c.offset_number-o.ensures)

pub returns : goal.returns
unfolding load_value
returns c = rw (sym c.in_ok-judge_element.ensures) (ap (λ (k : ℕ). done (get_or c.args.cells.now k 0 ∷ [])) c.offset_number-o.ensures)
