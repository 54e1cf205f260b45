-- Numbers kept where they are within 2^62, and sums of such numbers. Assumes nothing.
use Rattle.std.specs.Prelude.{cond, ℤ, pos, ◌+ℤ◌}
use Rattle.folding.specs.Fold.{scale_sum}
use Rattle.folding.specs.Sum.{Sum}
use Rattle.expression.specs.Expression.{is_small}

-- a number that no limit lets pass
abbrev pub over_limit : ℤ
over_limit = pos 4611686018427387905

-- z where its magnitude is at most 2^62
unfoldable pub saturate : ℤ → ℤ
saturate z = cond (is_small z) z over_limit

-- every number of a sum, but not those inside its atoms
unfoldable pub saturate_sum : Sum → Sum
saturate_sum (Sum.const k) = Sum.const (saturate k)
saturate_sum (Sum.term c a t) = Sum.term (saturate c) a (saturate_sum t)

-- z times a sum
unfoldable pub scaled : ℤ → Sum → Sum
scaled z t = saturate_sum (scale_sum z t)

-- z more in the constant
unfoldable pub shifted : ℤ → Sum → Sum
shifted z (Sum.const k) = Sum.const (saturate (z +ℤ k))
shifted z (Sum.term c a t) = Sum.term c a (shifted z t)
