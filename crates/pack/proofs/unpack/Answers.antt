-- `pack::unpack` meets its contract. Assumes nothing.
use Rattle.std.proofs.Common.{◌∙◌}
use Rattle.std.proofs.lemmas.Result.{err_from_is_err_and}
use Rattle.pack.specs.Answers.{unpack_answer, unpack_places}
use Rattle.pack.proofs.unpack.Goals as goal

pub returns-in_err-x : goal.returns-in_err-x
unfolding unpack_answer unpack_places
returns-in_err-x c =
    let p = err_from_is_err_and c.from_residual.result c.from_residual.ensures.1 in
    (rw (p.1, p.2, c.in_err-x.ensures), rw c.in_err-x.ensures)

pub returns : goal.returns
unfolding unpack_answer unpack_places
returns c =
    let e = c.in_ok-x.ensures.0 in
    let t = c.tiled_of-t.ensures in
    (rw e, rw e (c.unpack_in.ensures ∙ rw (t.has-sizes, t.has-order, t.has-lens, t.has-entries)))
