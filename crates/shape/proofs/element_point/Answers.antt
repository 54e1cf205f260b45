-- `shape::element_point` meets its contract. Assumes nothing.
use Rattle.std.proofs.Common.{ℕ, ◌<◌, ◌≤◌, ◌-◌, List, ◌∷◌, ◌++◌, length, replicate, sym, ap, ◌∙◌, subst, arith, rules}
use borrow.Author.Tests.{lt-ltb, le-ltb}
use Rattle.radix.specs.Radix.{digits}
use Rattle.radix.proofs.Lists.{drop-replicate}
use Rattle.refusal.specs.Number.{done}
use Rattle.shape.specs.Shape.{max_rank, sizes_of}
use Rattle.shape.specs.Answers.{element_point}
use Rattle.shape.proofs.Limits.{Limits, limits}
use Rattle.shape.proofs.element_point.Goals as goal

pub returns-then-not-good_shape : goal.returns-then-not-good_shape
unfolding element_point
returns-then-not-good_shape c = rw (sym c.good_shape.ensures ∙ c.if-not-good_shape.true)

pub returns-then-count_of-element : goal.returns-then-count_of-element
unfolding element_point
returns-then-count_of-element c =
    rw (sym c.good_shape.ensures ∙ c.if-not-good_shape.false, le-ltb _ _ (subst (λ (k : ℕ). k ≤ c.args.element.0) c.count_of.ensures c.if-count_of-element.true))

pub shared_ref_as_front-digits_into : goal.shared_ref_as_front-digits_into
shared_ref_as_front-digits_into c = (limits c.args.shape (search rules) (sym c.good_shape.ensures ∙ c.if-not-good_shape.false)).rank

pub digits_into-requires-clause-ds_in_bounds : goal.digits_into-requires-clause-ds_in_bounds
digits_into-requires-clause-ds_in_bounds c =
    let g : Limits c.args.shape = limits c.args.shape (search rules) (sym c.good_shape.ensures ∙ c.if-not-good_shape.false) in
    (omega (arith, g.rank, g.long), g.count, subst (λ (k : ℕ). c.args.element.0 < k) c.count_of.ensures c.if-count_of-element.false)

pub digits_into-requires-clause-sizes : goal.digits_into-requires-clause-sizes
digits_into-requires-clause-sizes c = (limits c.args.shape (search rules) (sym c.good_shape.ensures ∙ c.if-not-good_shape.false)).sizes

pub returns : goal.returns
unfolding element_point
returns c =
    let s = c.args.shape in
    let n = c.args.element.0 in
    let g : Limits s = limits s (search rules) (sym c.good_shape.ensures ∙ c.if-not-good_shape.false) in
    rw (sym c.good_shape.ensures ∙ c.if-not-good_shape.false, lt-ltb _ _ (subst (λ (k : ℕ). n < k) c.count_of.ensures c.if-count_of-element.false))
    (ap (λ (xs : List ℕ). done (s.rank ∷ xs))
    (c.digits_into.ensures
    ∙ ap (λ (xs : List ℕ). digits (sizes_of s) n ++ xs) (drop-replicate (length (sizes_of s)) max_rank 0 ∙ ap (λ (k : ℕ). replicate (max_rank - k) 0) g.long)))
