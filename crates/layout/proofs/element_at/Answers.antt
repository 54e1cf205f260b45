-- `layout::element_at` meets its contract. Assumes nothing.
use Rattle.std.specs.Prelude.{Option, Some, None, Ok, MatchOption, IsSomeAnd}
use Rattle.std.proofs.Common.{◌≡◌, ◌∙◌, ℕ, [], ◌∷◌, sym, ap, arith, rules}
use Rattle.std.proofs.lemmas.Result.{err_from_is_err_and}
use borrow.Author.Tests.{lt-ltb, le-ltb}
use Rattle.refusal.proofs.Judged.{after-done, after-refused}
use Rattle.layout.specs.Layout.{padded_of}
use Rattle.refusal.specs.Number.{done}
use Rattle.shape.specs.declared.Element.{Element}
use Rattle.tiling.specs.Cell.{Cell}
use Rattle.tiling.specs.Found.{found_cell}
use Rattle.layout.specs.Answers.{held_answer, cell_values, element_held}
use Rattle.layout.proofs.element_at.Goals as goal

-- the cell's number as an element
held : (o : Option ℕ) (r : Option Element) (Q : ℕ → Element → Type 0) → ((x : ℕ) (y : Element) → Q x y → y.0 ≡ x) → MatchOption o (r ≡ None) (λ x. IsSomeAnd r (Q x))
    → held_answer (Ok r) ≡ done (cell_values (found_cell o))
held None r Q f h = ap (λ (v : Option Element). held_answer (Ok v)) h
held (Some n) None Q f h = absurd h
held (Some n) (Some e) Q f h = ap (λ (m : ℕ). done (1 ∷ m ∷ [])) (f n e h)

pub returns-then-k-padded_cells : goal.returns-then-k-padded_cells
unfolding element_held
returns-then-k-padded_cells c =
    let k = c.args.offset.0 in
    rw (
      after-done _ _ (sym c.judge_layout.ensures ∙ c.in_ok-judge_layout.was),
      lt-ltb k (padded_of c.args.shape c.args.layout) (omega arith),
    )
    (held _ _ _ (λ x y q. search rules) c.map.ensures.cases ∙ ap (λ (x : Cell). done (cell_values x)) c.cell_found.ensures)

pub returns-else-k-padded_cells : goal.returns-else-k-padded_cells
unfolding element_held
returns-else-k-padded_cells c =
    let k = c.args.offset.0 in
    rw (
      after-done _ _ (sym c.judge_layout.ensures ∙ c.in_ok-judge_layout.was),
      le-ltb k (padded_of c.args.shape c.args.layout) (omega arith),
    )

pub returns-in_err-judge_layout : goal.returns-in_err-judge_layout
unfolding element_held
returns-in_err-judge_layout c =
    let p = err_from_is_err_and c.from_residual.result c.from_residual.ensures.1 in
    rw (p.1, p.2, after-refused _ _ _ (sym c.judge_layout.ensures ∙ c.in_err-judge_layout.was))
