-- What the search leaves of `fold::whole::fold_map`. Assumes nothing.
use Rattle.std.proofs.Common.{sym, ap, ◌∙◌}
use Rattle.std.proofs.lemmas.Result.{err_from_is_err_and}
use Rattle.indexing.proofs.Formed.{accepted-of}
use Rattle.indexing.specs.Answers.{map_answer}
use Rattle.fold.proofs.Assembled.{folded-done, folded-refused}
use Rattle.fold.proofs.whole.fold_map.Goals as goal

pub returns-in_err-judged : goal.returns-in_err-judged
returns-in_err-judged c =
    let p = err_from_is_err_and c.from_residual.result c.from_residual.ensures.1 in
    rw (p.1, p.2) (folded-refused c.args.m _ (sym c.judged.ensures ∙ c.in_err-judged.was))

pub fold_accepted-requires : goal.fold_accepted-requires
fold_accepted-requires c = accepted-of c.args.m (sym c.judged.ensures ∙ c.in_ok-judged.was)

pub returns : goal.returns
returns c = ap map_answer c.fold_accepted.ensures ∙ folded-done c.args.m (sym c.judged.ensures ∙ c.in_ok-judged.was)
