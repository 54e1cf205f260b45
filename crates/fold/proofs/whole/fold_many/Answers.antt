-- What the search leaves of `fold::whole::fold_many`. Assumes nothing.
use Rattle.std.proofs.Common.{arith}
use Rattle.fold.proofs.Runs.{nodes-most}
use Rattle.fold.proofs.whole.fold_many.Goals as goal

pub fold_in-requires : goal.fold_in-requires
fold_in-requires c =
    let n = nodes-most c.args.m c.requires.formed in
    (c.requires, record { long-words = omega arith; few_words = omega arith; long-scratch = omega arith; few-scratch = omega arith })
