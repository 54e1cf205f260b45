-- What the search leaves of `fold::parts::fold_results`. Assumes nothing.
use Rattle.std.proofs.Common.{◌≤◌, ◌-◌, ◌∙◌, refl, ap, length, length-set, add-one, arith}
use Rattle.indexing.specs.Map.{max_results}
use Rattle.encoding.proofs.Held.{holds-room}
use Rattle.fold.proofs.Runs.{result-run}
use Rattle.fold.proofs.Results.{folding-start, folding-over, folding-next}
use Rattle.fold.proofs.parts.fold_results.Goals as goal

pub loop-i-init : goal.loop-i-init
loop-i-init c = (folding-start c.args.m c.requires.2, refl, refl, refl, refl, refl)

pub fold_run-requires : goal.fold_run-requires
fold_run-requires c = (
  c.requires.0,
  (result-run c.args.m c.requires.0.formed c.loop-i.i c.loop-i-test.true).0,
  record {
    long-words = omega (arith, c.requires.1.long-words, c.loop-i.invariant.1);
    few_words = omega (arith, c.requires.1.few_words, c.loop-i.invariant.1);
    long-scratch = omega (arith, c.requires.1.long-scratch, c.loop-i.invariant.2);
    few-scratch = omega (arith, c.requires.1.few-scratch, c.loop-i.invariant.2);
  },
  holds-room c.loop-i.invariant.0.holds,
)

pub returns-in_err-end : goal.returns-in_err-end
returns-in_err-end c = rw c.from_residual.ensures (folding-over c.args.m c.loop-i.invariant.0 c.loop-i-test.true c.in_err-end.ensures.0)

pub offset_bounds-counts-i : goal.offset_bounds-counts-i
offset_bounds-counts-i c =
    let few : c.args.m.results ≤ max_results = (result-run c.args.m c.requires.0.formed c.loop-i.i c.loop-i-test.true).1 in
    record { fits = omega (arith, few, c.loop-i-test.true) }

pub bounds-counts-i : goal.bounds-counts-i
bounds-counts-i c =
    let few : c.args.m.results ≤ max_results = (result-run c.args.m c.requires.0.formed c.loop-i.i c.loop-i-test.true).1 in
    omega (arith, few, c.loop-i-test.true, c.loop-i.invariant.3, ap length c.requires.2.counts_zero)

pub loop-i-preserved : goal.loop-i-preserved
loop-i-preserved c = (
  rw add-one (folding-next c.args.m c.loop-i.invariant.0 c.loop-i-test.true c.in_ok-end.ensures),
  c.fold_run.auto.words ∙ c.loop-i.invariant.1,
  c.fold_run.auto.scratch ∙ c.loop-i.invariant.2,
  length-set c.loop-i.counts c.loop-i.i (c.in_ok-end.end - c.loop-i.at) ∙ c.loop-i.invariant.3,
  c.fold_run.auto.kinds ∙ c.loop-i.invariant.4,
  c.fold_run.auto.values ∙ c.loop-i.invariant.5,
)
