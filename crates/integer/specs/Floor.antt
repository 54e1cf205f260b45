-- Floor division on ℤ by a positive number, and its remainder. Assumes nothing.
use Rattle.std.specs.Prelude.{ℕ, suc, ◌/◌, ◌%◌, ◌-◌, ℤ, pos, negsuc}

-- x floordiv c: the quotient, rounded towards minus infinity
abbrev pub floor_div : ℤ → ℕ → ℤ
floor_div (pos a) c = pos (a / c)
floor_div (negsuc a) c = negsuc (a / c)

-- x mod c: what is left, x - c * (x floordiv c), from 0 to c - 1
abbrev pub floor_mod : ℤ → ℕ → ℤ
floor_mod (pos a) c = pos (a % c)
floor_mod (negsuc a) c = pos (c - suc (a % c))
