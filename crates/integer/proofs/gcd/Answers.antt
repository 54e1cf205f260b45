use Rattle.std.proofs.Common.{ap, arith}
use Rattle.integer.specs.Gcd.{rounds_of}
use Rattle.integer.proofs.Rounds.{gcd-kept, gcd-ended, rounds-digits, rounds-more, rounds-none}
use Rattle.integer.proofs.gcd.Goals as goal

pub loop-preserved : goal.loop-preserved
loop-preserved c =
    let p = c.loop in
    let e = c.least_remainder-rest.ensures in
    let k = gcd-kept p.x p.y (omega arith) in
    let i = p.invariant.0 in
    (cc, omega (arith, ap (rounds_of p.y) e, rounds-more p.x p.y (omega arith), p.invariant.1))

pub returns-then-y-eq0 : goal.returns-then-y-eq0
returns-then-y-eq0 c = gcd-ended c.loop.x c.loop.y _ c.if-y-eq0.true c.loop.invariant.0

pub returns-after-loop : goal.returns-after-loop
returns-after-loop c =
    let p = c.loop in
    let l = rounds-digits 64 c.args.a c.args.b (omega (arith, c.ranges.b.fits)) in
    gcd-ended p.x p.y _ (rounds-none p.x p.y (omega (arith, p.invariant.1))) p.invariant.0
