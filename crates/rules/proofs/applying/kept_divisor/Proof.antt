-- `rules::applying::kept_divisor` meets its contract. Assumes nothing.
use mir.Facts.{to_z-of_z}
use Rattle.rules.proofs.Nested.{divisor-low, divisor-high, divisor-kept}
use Rattle.rules.proofs.applying.kept_divisor.Statement.{statement}
use Rattle.rules.proofs.applying.kept_divisor.Tie as tie

returns : tie.Need-returns-then-m-lt1
returns c = divisor-low _ (rw (to_z-of_z c.ranges.m) at c.if-m-lt1.true)

returns-2 : tie.Need-returns-then-m-gt-MAX_DIVISOR
returns-2 c = divisor-high _ (rw (to_z-of_z c.ranges.m) at c.if-m-gt-MAX_DIVISOR.true)

returns-3 : tie.Need-returns
returns-3 c =
    let s = c.before.before in
    rw (to_z-of_z s.ranges.m) (divisor-kept s.args.m (rw (to_z-of_z s.ranges.m) at c.if-m-lt1.false) (rw (to_z-of_z s.ranges.m) at c.if-m-gt-MAX_DIVISOR.false))

pub kept_divisor_spec : {M : Type 1} → statement M
kept_divisor_spec = tie.close (tie.spec returns returns-2 returns-3)
