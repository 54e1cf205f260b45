-- `layout::layout_card` meets its contract. Assumes nothing.
use Rattle.std.proofs.Common.{◌≡◌, ◌∙◌, sym, arith, rules, length}
use Rattle.std.specs.Prelude.{Ok}
use Rattle.std.proofs.lemmas.Result.{err_from_is_err_and}
use Rattle.refusal.specs.Judge.{judge}
use Rattle.shape.specs.Shape.{max_rank}
use Rattle.shape.specs.declared.Shape.{Shape}
use Rattle.layout.specs.declared.Layout.{Layout}
use Rattle.layout.specs.Layout.{layout_rules}
use Rattle.layout.specs.Answers.{layout_card}
use Rattle.layout.proofs.Accepted.{Arrays, accepted}
use Rattle.layout.proofs.Rules.{Counts, counts_of}
use Rattle.layout.proofs.layout_card.Goals as goal

pub returns-in_err-judge_layout : goal.returns-in_err-judge_layout
unfolding layout_card
returns-in_err-judge_layout c =
    let p = err_from_is_err_and c.from_residual.result c.from_residual.ensures.1 in
    rw (p.1, p.2, sym c.judge_layout.ensures ∙ c.in_err-judge_layout.was)

-- the counts of a shape and a layout that are judged done
counts : (s : Shape) (l : Layout) → length s.sizes ≡ max_rank → Arrays l → judge (layout_rules s l) ≡ Ok tt → Counts s l
counts s l six a e = counts_of (accepted s l six a e)

pub share-requires : goal.share-requires
share-requires c =
    let n = counts _ _ (search rules) (record { order = search rules; lens = search rules; tile = search rules }) (sym c.judge_layout.ensures ∙ c.in_ok-judge_layout.was) in
    (omega arith, omega arith, omega arith)

pub overflow_sub-padded : goal.overflow_sub-padded
overflow_sub-padded c =
    let n = counts _ _ (search rules) (record { order = search rules; lens = search rules; tile = search rules }) (sym c.judge_layout.ensures ∙ c.in_ok-judge_layout.was) in
    omega arith

pub share-requires-2 : goal.share-requires-2
share-requires-2 c =
    let n = counts _ _ (search rules) (record { order = search rules; lens = search rules; tile = search rules }) (sym c.judge_layout.ensures ∙ c.in_ok-judge_layout.was) in
    (omega arith, omega arith, omega arith)

pub returns : goal.returns
unfolding layout_card
returns c = rw (sym c.judge_layout.ensures ∙ c.in_ok-judge_layout.was, c.share.ensures, c.share-2.ensures, c.count_of-count.ensures, c.padded_cells-padded.ensures)
