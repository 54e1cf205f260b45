-- `retile::values::fill_row` meets its contract. Assumes nothing.
use Rattle.std.proofs.Common.{◌≡◌, ◌<◌, ◌+◌, ◌∙◌, ℕ, length, get_or, ap, arith}
use Rattle.std.proofs.lemmas.Slice.Zip.{zip_turn}
use Rattle.retile.proofs.Filling.{IsRowOf, filled_next, filled-first}
use Rattle.retile.proofs.values.fill_row.Goals as goal

pub loop-from-preserved : goal.loop-from-preserved
loop-from-preserved c =
    let a = c.args in
    let l = c.loop-from in
    let q = c.requires.ptable_len in
    let t = zip_turn a.ptable.now a.qtable.now l.yielded c.into_iter-from-iterator.result l.from-iterator c.next.new.self c.next.result (cc) (cc) l.yielded_by (c.in-Some.from, c.in-Some.to) c.in-Some.is c.next.ensures.steps in
    let ok = IsRowOf a.source.now a.k a.ptable.now a.qtable.now a.i in
    let x = a.i + c.in-Some.to.now in
    let inside : x < length l.values = c.if-values-x.false in
    let marked : x < length l.filled = omega arith in (
      filled_next ok a.values.now a.filled.now l.values l.filled l.invariant.0 x _ inside marked (λ f k. rw (t.3 0, t.2 0) (k (length l.yielded) t.1)),
      λ _. filled-first ok a.values.now a.filled.now l.values l.filled l.invariant.0 x 0 inside marked a.i (length l.yielded)
          (λ e. let z : c.in-Some.to.now ≡ 0 = t.3 0 ∙ ap (λ (y : ℕ). get_or a.qtable.now y 0) e ∙ q.2 in omega (arith, z)) l.invariant.1,
    )
