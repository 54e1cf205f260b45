-- What the search leaves of `rules::applying::fitting`. Assumes nothing.
use Rattle.std.proofs.Common.{◌≡◌, ◌∙◌, refl, sym, ap, arith, rules, ℕ, ℤ, pos, negsuc, nat_abs, ◌+◌, ◌*◌, ◌^◌, ◌<◌, ◌≤◌, ◌<ℤ◌, length, w64, to_z, of_z}
use lib.Dec.{lt→ltb, ltb→lt}
use mir.Facts.{to_z-of_z, to_z_pos}
use Rattle.folding.specs.Sum.{sum_size}
use Rattle.folding.specs.Fold.{common_divisors, divisors_tried}
use Rattle.rules.specs.Rules.{fitting_of}
use Rattle.rules.specs.declared.applying.Found.TheVariants as F
use Rattle.rules.proofs.Search.{from_divisor, from_first, from-passed, from-fits, from_next, from-none}
use Rattle.rules.proofs.applying.fitting.Goals as goal

above-1 : (z : ℤ) → pos 1 <ℤ z → 1 < nat_abs z
above-1 (pos n) h = ltb→lt 1 n h.lt
above-1 (negsuc n) h = absurd h.lt

pub loop-g-init : goal.loop-g-init
loop-g-init c =
    let e = rw (to_z-of_z c.ranges.c) at c.magnitude-size.ensures in
    let h : 1 < c.magnitude-size.result = omega (arith, e, above-1 c.args.c c.requires.1) in
    (omega arith, omega arith, refl, λ β t x j i k. from_first β t c.magnitude-size.result h)

pub returns-then-not-small : goal.returns-then-not-small
returns-then-not-small c =
    let e = rw (to_z-of_z c.ranges.c) at c.magnitude-size.ensures in
    let small : c.loop-g.g < 2 ^ 63 = omega (arith, c.loop-g.invariant.1, e, c.requires.2) in
    let T = rw (to_z_pos w64 {n = c.loop-g.g} small) at c.try_at-t.ensures in
    record {
      safe = tt;
      is = λ β t x j h k.
          sym (from-passed β t c.magnitude-size.result c.loop-g.g c.loop-g-test.true (sym (T.is β t x j h (omega (arith, c.loop-g.invariant.2))) ∙ c.if-not-small.true))
          ∙ c.loop-g.invariant.3 β t x j h k ∙ ap (λ (n : ℕ). fitting_of β t (divisors_tried n t)) e;
    }

pub returns-then-fits : goal.returns-then-fits
returns-then-fits c =
    let e = rw (to_z-of_z c.ranges.c) at c.magnitude-size.ensures in
    let small : c.loop-g.g < 2 ^ 63 = omega (arith, c.loop-g.invariant.1, e, c.requires.2) in
    let z = to_z_pos w64 {n = c.loop-g.g} small in
    let T = rw z at c.try_at-t.ensures in
    let q : to_z w64 (of_z w64 c.try_at-t.result.q) ≡ c.try_at-t.result.q = search rules in
    rw (z, q)
    (record {
      safe = (record { lt = lt→ltb 0 c.loop-g.g (omega (arith, c.loop-g-test.true)) }, omega (arith, c.loop-g.invariant.1, e));
      is = λ β t x j h k.
          let v : 7 * sum_size t + 1 ≤ length c.loop-g.out = omega (arith, c.loop-g.invariant.2) in
          let f = T.fits β t x j h v c.if-not-small.false in
          ap (λ (a : ℤ). F.At (pos c.loop-g.g) a) f.1
          ∙ sym (from-fits β t c.magnitude-size.result c.loop-g.g c.loop-g-test.true (sym (T.is β t x j h v) ∙ c.if-not-small.false) (sym f.0 ∙ c.if-fits.true))
          ∙ c.loop-g.invariant.3 β t x j h k ∙ ap (λ (n : ℕ). fitting_of β t (divisors_tried n t)) e;
    })

pub loop-g-preserved : goal.loop-g-preserved
loop-g-preserved c =
    let e = rw (to_z-of_z c.ranges.c) at c.magnitude-size.ensures in
    let small : c.loop-g.g < 2 ^ 63 = omega (arith, c.loop-g.invariant.1, e, c.requires.2) in
    let T = rw (to_z_pos w64 {n = c.loop-g.g} small) at c.try_at-t.ensures in
    let N = c.next_divisor-g.ensures in (
      N.low,
      omega (arith, N.high c.loop-g-test.true, c.loop-g.invariant.1),
      c.try_at-t.auto.out ∙ c.loop-g.invariant.2,
      λ β t x j h k.
          let v : 7 * sum_size t + 1 ≤ length c.loop-g.out = omega (arith, c.loop-g.invariant.2) in
          let f = T.fits β t x j h v c.if-not-small.false in
          ap (λ (n : ℕ). fitting_of β t (from_divisor n (common_divisors c.magnitude-size.result t))) (N.is β t x j h)
          ∙ from_next β t c.magnitude-size.result c.loop-g.g c.loop-g-test.true (sym (T.is β t x j h v) ∙ c.if-not-small.false) (sym f.0 ∙ c.if-fits.false)
          ∙ c.loop-g.invariant.3 β t x j h k,
    )

pub returns : goal.returns
returns c =
    let e = rw (to_z-of_z c.ranges.c) at c.magnitude-size.ensures in
    record {
      safe = tt;
      is = λ β t x j h k.
          sym (from-none β t c.magnitude-size.result c.loop-g.g c.loop-g-test.false) ∙ c.loop-g.invariant.3 β t x j h k ∙ ap (λ (n : ℕ). fitting_of β t (divisors_tried n t)) e;
    }
