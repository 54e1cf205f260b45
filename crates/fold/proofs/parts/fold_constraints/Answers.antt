-- What the search leaves of `fold::parts::fold_constraints`. Assumes nothing.
use Rattle.std.proofs.Common.{◌≡◌, ◌∙◌, refl, ap, length, get_or, pos, add-one, arith, rules, w64, to_z, of_z}
use Rattle.fold.proofs.Runs.{constraint-run}
use Rattle.fold.proofs.Constraints.{keeping_start, keeping-over, keeping_gone, keeping-stays, keeping-end, count-below}
use Rattle.fold.proofs.parts.fold_constraints.Goals as goal
use Rattle.fold.proofs.parts.fold_constraints.Goals.{in-Gone, in-Stays}

pub loop-k-init : goal.loop-k-init
loop-k-init c = (keeping_start c.args.m c.requires.2 c.requires.3, refl, refl, refl, refl, refl, refl, refl)

pub returns-in-Passed : goal.returns-in-Passed
returns-in-Passed c = keeping-over c.args.m c.loop-k.invariant.0 c.loop-k-test.true c.in-Passed.ensures.0

pub offset_bounds-counts-count : goal.offset_bounds-counts-count
offset_bounds-counts-count c =
    let few = (constraint-run c.args.m c.requires.0.formed c.loop-k.k c.loop-k-test.true).1 in
    let n = count-below c.args.m c.loop-k.invariant.0 c.loop-k-test.true in
    record { fits = omega (arith, few, n) }

pub bounds-counts-count : goal.bounds-counts-count
bounds-counts-count c =
    let few = (constraint-run c.args.m c.requires.0.formed c.loop-k.k c.loop-k-test.true).1 in
    let n = count-below c.args.m c.loop-k.invariant.0 c.loop-k-test.true in
    omega (arith, few, n, c.loop-k.invariant.3, ap length c.requires.2.counts_zero)

pub offset_bounds-lower-count : goal.offset_bounds-lower-count
offset_bounds-lower-count c =
    let few = (constraint-run c.args.m c.requires.0.formed c.loop-k.k c.loop-k-test.true).1 in
    let n = count-below c.args.m c.loop-k.invariant.0 c.loop-k-test.true in
    record { fits = omega (arith, few, n) }

pub bounds-lower-count : goal.bounds-lower-count
bounds-lower-count c =
    let few = (constraint-run c.args.m c.requires.0.formed c.loop-k.k c.loop-k-test.true).1 in
    let n = count-below c.args.m c.loop-k.invariant.0 c.loop-k-test.true in
    omega (arith, few, n, c.loop-k.invariant.4, ap length c.requires.2.lower-zero)

pub offset_bounds-upper-count : goal.offset_bounds-upper-count
offset_bounds-upper-count c =
    let few = (constraint-run c.args.m c.requires.0.formed c.loop-k.k c.loop-k-test.true).1 in
    let n = count-below c.args.m c.loop-k.invariant.0 c.loop-k-test.true in
    record { fits = omega (arith, few, n) }

pub bounds-upper-count : goal.bounds-upper-count
bounds-upper-count c =
    let few = (constraint-run c.args.m c.requires.0.formed c.loop-k.k c.loop-k-test.true).1 in
    let n = count-below c.args.m c.loop-k.invariant.0 c.loop-k-test.true in
    omega (arith, few, n, c.loop-k.invariant.5, ap length c.requires.2.upper-zero)

pub offset_bounds-m-k : goal.offset_bounds-m-k
offset_bounds-m-k c =
    let few = (constraint-run c.args.m c.requires.0.formed c.loop-k.k c.loop-k-test.true).1 in
    record { fits = omega (arith, few, c.loop-k-test.true) }

pub bounds-m-k : goal.bounds-m-k
bounds-m-k c = omega (arith, c.loop-k-test.true, (constraint-run c.args.m c.requires.0.formed c.loop-k.k c.loop-k-test.true).1)

pub offset_bounds-m-k-in-Stays : goal.offset_bounds-m-k-in-Stays
offset_bounds-m-k-in-Stays c =
    let few = (constraint-run c.args.m c.requires.0.formed c.loop-k.k c.loop-k-test.true).1 in
    record { fits = omega (arith, few, c.loop-k-test.true) }

pub bounds-m-k-in-Stays : goal.bounds-m-k-in-Stays
bounds-m-k-in-Stays c = omega (arith, c.loop-k-test.true, (constraint-run c.args.m c.requires.0.formed c.loop-k.k c.loop-k-test.true).1)

pub overflow_add-count : goal.overflow_add-count
overflow_add-count c =
    let few = (constraint-run c.args.m c.requires.0.formed c.loop-k.k c.loop-k-test.true).1 in
    let n = count-below c.args.m c.loop-k.invariant.0 c.loop-k-test.true in
    record { fits = omega (arith, few, n) }

pub loop-k-preserved : goal.loop-k-preserved
loop-k-preserved c = (
  elim c.match-fold_constraint.branch [
    | in-Gone w ↦
        rw (add-one c.loop-k.k, w.counts-is, w.lower-is, w.upper-is, w.at-is, w.count-is) (keeping_gone c.args.m c.loop-k.invariant.0 c.loop-k-test.true w.in-Gone.ensures)
    | in-Stays w ↦
        let a : to_z w64 (of_z w64 (get_or c.args.m.constraint_lower c.loop-k.k (pos 0))) ≡ get_or c.args.m.constraint_lower c.loop-k.k (pos 0) = search rules in
        let b : to_z w64 (of_z w64 (get_or c.args.m.constraint_upper c.loop-k.k (pos 0))) ≡ get_or c.args.m.constraint_upper c.loop-k.k (pos 0) = search rules in
        rw (add-one c.loop-k.k, w.counts-is, w.lower-is, w.upper-is, w.at-is, w.count-is, a, b, add-one c.loop-k.count)
        (keeping-stays c.args.m c.loop-k.invariant.0 c.loop-k-test.true w.in-Stays.ensures)
  ],
  c.fold_constraint.auto.words ∙ c.loop-k.invariant.1,
  c.fold_constraint.auto.scratch ∙ c.loop-k.invariant.2,
  c.match-fold_constraint.auto.counts ∙ c.loop-k.invariant.3,
  c.match-fold_constraint.auto.lower ∙ c.loop-k.invariant.4,
  c.match-fold_constraint.auto.upper ∙ c.loop-k.invariant.5,
  c.fold_constraint.auto.kinds ∙ c.loop-k.invariant.6,
  c.fold_constraint.auto.values ∙ c.loop-k.invariant.7,
)

pub returns : goal.returns
returns c = keeping-end c.args.m c.loop-k.invariant.0 (omega (arith, c.loop-k-test.false))
