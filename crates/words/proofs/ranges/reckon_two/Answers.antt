-- What the search leaves of `words::ranges::reckon_two`. Assumes nothing.
use Rattle.std.proofs.Common.{refl, sym, ◌∙◌, w64}
use borrow.Author.Rules.{sfits_of}
use mir.Facts.{to_z-of_z}
use Rattle.words.proofs.Ends.{refused, sat-ok, sat-kept}
use Rattle.words.proofs.ranges.reckon_two.Goals as goal
use Rattle.words.proofs.ranges.reckon_two.Goals.{else-is_small-via-then-is_small+then-is_small-2+then-is_small-3+then-is_small-4+else-is_small-5, else-is_small-via-then-is_small+then-is_small-2+then-is_small-3+else-is_small-4, else-is_small-via-then-is_small+then-is_small-2+else-is_small-3, else-is_small-via-then-is_small+else-is_small-2, else-is_small-via-else-is_small}

pub returns-then-is_small-5 : goal.returns-then-is_small-5
returns-then-is_small-5 c =
    let f1 = sym (rw (to_z-of_z c.ranges.c) at c.is_small.ensures) ∙ c.if-is_small.true in
    let f2 = sym (rw (to_z-of_z c.ranges.x) at c.is_small-then-is_small.ensures) ∙ c.if-is_small-2.true in
    let f3 = sym (rw (to_z-of_z c.ranges.y) at c.is_small-then-is_small-2.ensures) ∙ c.if-is_small-3.true in
    let la = rw (to_z-of_z c.ranges.lo, to_z-of_z c.ranges.x) at c.add-l.ensures in
    let f4 = sym (rw (to_z-of_z (sfits_of c.add-l.type_inv), la, sat-ok) at c.is_small-then-is_small-3.ensures) ∙ c.if-is_small-4.true in
    let ha = rw (to_z-of_z c.ranges.hi, to_z-of_z c.ranges.y) at c.add-h.ensures in
    let f5 = sym (rw (to_z-of_z (sfits_of c.add-h.type_inv), ha, sat-ok) at c.is_small-then-is_small-4.ensures) ∙ c.if-is_small-5.true in
    record {
      is = rw (f1, f2, f3, f4, f5) refl;
      low = λ e. to_z-of_z {w = w64} (sfits_of c.add-l.type_inv) ∙ la ∙ sat-kept _ f4;
      high = λ e. to_z-of_z {w = w64} (sfits_of c.add-h.type_inv) ∙ ha ∙ sat-kept _ f5;
    }

pub returns : goal.returns
returns c =
    elim c.else-is_small.branch [
      | else-is_small-via-then-is_small+then-is_small-2+then-is_small-3+then-is_small-4+else-is_small-5 w ↦
          let f1 = sym (rw (to_z-of_z c.ranges.c) at c.is_small.ensures) ∙ w.if-is_small.true in
          let f2 = sym (rw (to_z-of_z c.ranges.x) at w.is_small-then-is_small.ensures) ∙ w.if-is_small-2.true in
          let f3 = sym (rw (to_z-of_z c.ranges.y) at w.is_small-then-is_small-2.ensures) ∙ w.if-is_small-3.true in
          let la = rw (to_z-of_z c.ranges.lo, to_z-of_z c.ranges.x) at c.add-l.ensures in
          let f4 = sym (rw (to_z-of_z (sfits_of c.add-l.type_inv), la, sat-ok) at w.is_small-then-is_small-3.ensures) ∙ w.if-is_small-4.true in
          let ha = rw (to_z-of_z c.ranges.hi, to_z-of_z c.ranges.y) at c.add-h.ensures in
          let f5 = sym (rw (to_z-of_z (sfits_of c.add-h.type_inv), ha, sat-ok) at w.is_small-then-is_small-4.ensures) ∙ w.if-is_small-5.false in
          refused c.args.c c.args.x c.args.y c.args.lo c.args.hi _ _ (rw (f1, f2, f3, f4, f5) refl)
      | else-is_small-via-then-is_small+then-is_small-2+then-is_small-3+else-is_small-4 w ↦
          let f1 = sym (rw (to_z-of_z c.ranges.c) at c.is_small.ensures) ∙ w.if-is_small.true in
          let f2 = sym (rw (to_z-of_z c.ranges.x) at w.is_small-then-is_small.ensures) ∙ w.if-is_small-2.true in
          let f3 = sym (rw (to_z-of_z c.ranges.y) at w.is_small-then-is_small-2.ensures) ∙ w.if-is_small-3.true in
          let la = rw (to_z-of_z c.ranges.lo, to_z-of_z c.ranges.x) at c.add-l.ensures in
          let f4 = sym (rw (to_z-of_z (sfits_of c.add-l.type_inv), la, sat-ok) at w.is_small-then-is_small-3.ensures) ∙ w.if-is_small-4.false in
          refused c.args.c c.args.x c.args.y c.args.lo c.args.hi _ _ (rw (f1, f2, f3, f4) refl)
      | else-is_small-via-then-is_small+then-is_small-2+else-is_small-3 w ↦
          let f1 = sym (rw (to_z-of_z c.ranges.c) at c.is_small.ensures) ∙ w.if-is_small.true in
          let f2 = sym (rw (to_z-of_z c.ranges.x) at w.is_small-then-is_small.ensures) ∙ w.if-is_small-2.true in
          let f3 = sym (rw (to_z-of_z c.ranges.y) at w.is_small-then-is_small-2.ensures) ∙ w.if-is_small-3.false in
          refused c.args.c c.args.x c.args.y c.args.lo c.args.hi _ _ (rw (f1, f2, f3) refl)
      | else-is_small-via-then-is_small+else-is_small-2 w ↦
          let f1 = sym (rw (to_z-of_z c.ranges.c) at c.is_small.ensures) ∙ w.if-is_small.true in
          let f2 = sym (rw (to_z-of_z c.ranges.x) at w.is_small-then-is_small.ensures) ∙ w.if-is_small-2.false in
          refused c.args.c c.args.x c.args.y c.args.lo c.args.hi _ _ (rw (f1, f2) refl)
      | else-is_small-via-else-is_small w ↦
          let f1 = sym (rw (to_z-of_z c.ranges.c) at c.is_small.ensures) ∙ w.if-is_small.false in
          refused c.args.c c.args.x c.args.y c.args.lo c.args.hi _ _ (rw (f1) refl)
    ]
