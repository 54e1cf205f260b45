-- `words::ranges::reckon` meets its contract. Assumes nothing.
use borrow.Author.Rules.{rules, sfits_of}
use mathlib.Core.Path.{◌≡◌, ap, ◌∙◌}
use Prim.Native.Nat.{ℕ}
use lib.IntN.{pos}
use lib.ListN.{get_or}
use mir.Syntax.{w64}
use mir.Val.{to_z, of_z}
use mir.Facts.{to_z-of_z}
use Rattle.words.proofs.Ends.{of-last, of-refused, of-term}
use Rattle.words.proofs.ranges.+reckon.Goals as goal

pub returns-then-n-eq0 : goal.returns-then-n-eq0
returns-then-n-eq0 t c =
    let e = rw (to_z-of_z (sfits_of c.word-k.type_inv), c.word-k.ensures, to_z-of_z c.ranges.lo, to_z-of_z c.ranges.hi) at c.reckon_term.ensures in
    of-last c.args.w.now _ _ _ _ _ _ _ c.if-n-eq0.true e

pub returns-then-not-ok : goal.returns-then-not-ok
returns-then-not-ok t c =
    let a = c.word-2.ensures ∙ ap (λ (n : ℕ). get_or c.args.w.now n (pos 0)) c.back.ensures in
    let b = c.word-3.ensures ∙ ap (λ (n : ℕ). get_or c.args.w.now n (pos 0)) c.back-2.ensures in
    let e = rw (to_z-of_z (sfits_of c.word.type_inv), c.word.ensures, to_z-of_z (sfits_of c.word-2.type_inv), a, to_z-of_z (sfits_of c.word-3.type_inv), b, to_z-of_z c.ranges.lo, to_z-of_z c.ranges.hi) at c.reckon_term-r.ensures in
    of-refused c.args.w.now _ _ _ _ _ _ c.if-n-eq0.false c.skip_atom-q.ensures c.forward-b.ensures _ _ _ _ (rw c.if-not-ok.true at e)

pub returns : goal.returns
returns t c =
    let a = c.word-2.ensures ∙ ap (λ (n : ℕ). get_or c.args.w.now n (pos 0)) c.back.ensures in
    let b = c.word-3.ensures ∙ ap (λ (n : ℕ). get_or c.args.w.now n (pos 0)) c.back-2.ensures in
    let e = rw (to_z-of_z (sfits_of c.word.type_inv), c.word.ensures, to_z-of_z (sfits_of c.word-2.type_inv), a, to_z-of_z (sfits_of c.word-3.type_inv), b, to_z-of_z c.ranges.lo, to_z-of_z c.ranges.hi) at c.reckon_term-r.ensures in
    let x : to_z w64 (of_z w64 c.reckon_term-r.result.lo) ≡ c.reckon_term-r.result.lo = search rules in
    let y : to_z w64 (of_z w64 c.reckon_term-r.result.hi) ≡ c.reckon_term-r.result.hi = search rules in
    of-term c.args.w.now _ _ _ _ _ _ c.if-n-eq0.false c.skip_atom-q.ensures c.forward-b.ensures _ _ _ _ _ (rw c.if-not-ok.false at e) (rw (x, y) at c.reckon.ensures)
