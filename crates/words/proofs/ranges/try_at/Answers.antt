-- `words::ranges::try_at` meets its contract. Assumes nothing.
use borrow.Author.Rules.{sfits_of}
use mathlib.Core.Path.{◌≡◌, sym, ap, ◌∙◌}
use lib.IntN.{nat_abs}
use mir.Syntax.{w64}
use mir.Val.{to_z, of_z}
use mir.Facts.{to_z-of_z}
use Rattle.words.proofs.Trial.{no_room, of-try, try-yes, try-no}
use borrow.Author.Rules.{rules}
use Rattle.words.proofs.ranges.try_at.Goals as goal

pub returns-then-not-ok : goal.returns-then-not-ok
returns-then-not-ok c = let o = c.if-not-ok.true in
    no_room c.args.w.now _ _ (nat_abs c.args.g) _ _ _ _ (rw (to_z-of_z c.ranges.g) at c.part_r-m.ensures) _ _ (rw o at c.reckon-r.ensures) _

pub returns-then-l-h : goal.returns-then-l-h
returns-then-l-h c = let x : to_z w64 (of_z w64 c.reckon-r.result.lo) ≡ c.reckon-r.result.lo = search rules in
    let y : to_z w64 (of_z w64 c.reckon-r.result.hi) ≡ c.reckon-r.result.hi = search rules in
    let e1 = rw (x, to_z-of_z c.ranges.g) at c.floor_div-l.ensures in
    let e2 = rw (y, to_z-of_z c.ranges.g) at c.floor_div-h.ensures in
    let o = c.if-not-ok.false in
    let M = rw (to_z-of_z c.ranges.g) at c.part_r-m.ensures in
    let t = sym e1 ∙ sym (to_z-of_z {w = w64} (sfits_of c.floor_div-l.type_inv)) ∙ ap (to_z w64) c.if-l-h.true ∙ to_z-of_z {w = w64} (sfits_of c.floor_div-h.type_inv) ∙ e2 in
    rw (to_z-of_z (sfits_of c.floor_div-l.type_inv), e1) (of-try c.args.w.now _ _ (nat_abs c.args.g) _ _ _ _ M c.reckon-r.result.lo c.reckon-r.result.hi (rw o at c.reckon-r.ensures) _ (try-yes _ _ t))

pub returns : goal.returns
returns c = let x : to_z w64 (of_z w64 c.reckon-r.result.lo) ≡ c.reckon-r.result.lo = search rules in
    let y : to_z w64 (of_z w64 c.reckon-r.result.hi) ≡ c.reckon-r.result.hi = search rules in
    let e1 = rw (x, to_z-of_z c.ranges.g) at c.floor_div-l.ensures in
    let e2 = rw (y, to_z-of_z c.ranges.g) at c.floor_div-h.ensures in
    let o = c.if-not-ok.false in
    let M = rw (to_z-of_z c.ranges.g) at c.part_r-m.ensures in
    rw (to_z-of_z (sfits_of c.floor_div-l.type_inv), e1) (of-try c.args.w.now _ _ (nat_abs c.args.g) _ _ _ _ M c.reckon-r.result.lo c.reckon-r.result.hi (rw o at c.reckon-r.ensures) _ (try-no _ _ (λ e. c.if-l-h.false (ap (of_z w64) (e1 ∙ e ∙ sym e2)))))
