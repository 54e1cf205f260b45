-- `words::places::skip` and `words::places::skip_atom` meet their contracts. Assumes nothing.
use Rattle.words.proofs.Skipping.{none, at-end, at-end-atom, one_more, of-var, of-op}
use Rattle.words.proofs.places.+skip_skip_atom.Goals as goal

pub skip-returns-then-n-eq0 : goal.skip-returns-then-n-eq0
skip-returns-then-n-eq0 t c = none _ _ _ c.requires c.if-n-eq0.true

pub skip-returns-then-p-w : goal.skip-returns-then-p-w
skip-returns-then-p-w t c = at-end _ _ _ c.requires c.if-p-w.true c.if-n-eq0.false

pub skip-returns : goal.skip-returns
skip-returns t c = one_more c.args.w.now _ _ _ _ _ c.if-n-eq0.false c.skip_atom-q.ensures c.forward-e.ensures c.skip.ensures

pub skip_atom-returns-then-p-w : goal.skip_atom-returns-then-p-w
skip_atom-returns-then-p-w t c = at-end-atom _ _ c.requires c.if-p-w.true

pub skip_atom-returns-then-k-lt3 : goal.skip_atom-returns-then-k-lt3
skip_atom-returns-then-k-lt3 t c = of-var c.args.w.now _ _ _ c.magnitude_at-k.ensures c.if-k-lt3.true c.forward.ensures

pub skip_atom-returns : goal.skip_atom-returns
skip_atom-returns t c = of-op c.args.w.now _ _ _ _ _ _ _ c.magnitude_at-k.ensures c.if-k-lt3.false c.forward-h.ensures c.magnitude_at-n.ensures c.forward-b.ensures c.skip-q.ensures c.forward-2.ensures
