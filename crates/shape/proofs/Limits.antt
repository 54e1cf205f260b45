-- What a shape that keeps its limits gives. Assumes nothing.
use Rattle.std.specs.Prelude.{Ok}
use mathlib.Core.Path.{◌≡◌, ◌∙◌}
use mathlib.Core.Bool.{true, ◌&&◌}
use Prim.Native.Nat.{ℕ, ◌≤◌, min, ◌+◌}
use native.Mathlib.Nat.{min-eq_left}
use native.Mathlib.Omega.{arith}
use mathlib.Core.List.{List}
use lib.Dec.{leb, eqb}
use lib.ListN.{length}
use lib.Seq.{length-take-le}
use borrow.Author.Tests.{leb-true}
use Rattle.refusal.specs.Judge.{judge}
use Rattle.refusal.specs.declared.Refusal.TheVariants.{Outside, WrongLength}
use Rattle.refusal.proofs.Judged.{kept, rest}
use Rattle.shape.specs.Answers.{inside_rules}
use Rattle.radix.specs.Radix.{In, is_inside, max_size, max_count, Sizes, is_within}
use Rattle.radix.proofs.Tests.{inside-in, and_left, and_right, bounded_of}
use Rattle.shape.specs.Shape.{max_rank, sizes_of, count_of, good_shape}
use Rattle.shape.specs.declared.Shape.{Shape}

pub record Limits (s : Shape) : Type 0 where
  pub rank : s.rank ≤ max_rank
  pub room : s.rank ≤ length s.sizes
  pub long : length (sizes_of s) ≡ s.rank
  pub sizes : Sizes (sizes_of s)
  pub count : count_of s ≤ max_count

-- the first rank places of the record
pub prefix : (s : Shape) → length s.sizes ≡ max_rank → s.rank ≤ max_rank → (s.rank ≤ length s.sizes) × (length (sizes_of s) ≡ s.rank)
prefix s six h = let g : s.rank ≤ length s.sizes = omega arith in (g, length-take-le s.rank s.sizes g)

pub limits : (s : Shape) → length s.sizes ≡ max_rank → good_shape s ≡ true → Limits s
unfolding good_shape
limits s six e =
    let r = leb-true s.rank max_rank (and_left (leb s.rank max_rank) (is_within max_size (sizes_of s) && leb (count_of s) max_count) e) in
    let t = and_right (leb s.rank max_rank) (is_within max_size (sizes_of s) && leb (count_of s) max_count) e in
    record {
      rank = r;
      room = (prefix s six r).0;
      long = (prefix s six r).1;
      sizes = bounded_of max_size (sizes_of s) (and_left (is_within max_size (sizes_of s)) (leb (count_of s) max_count) t);
      count = leb-true (count_of s) max_count (and_right (is_within max_size (sizes_of s)) (leb (count_of s) max_count) t);
    }

-- the product with its limit is the element count
pub whole : {s : Shape} (n : ℕ) → Limits s → n ≡ min (count_of s) (max_count + 1) → n ≡ count_of s
whole {s} n l e = e ∙ min-eq_left (omega (arith, l.count))

-- a point that is judged done lies inside
pub point-in : (s : Shape) (point : List ℕ) → judge (inside_rules s point) ≡ Ok tt → In point (sizes_of s)
point-in s point e =
    inside-in point (sizes_of s) (kept (is_inside point (sizes_of s)) Outside (Ok tt) (rest (eqb (length point) s.rank) WrongLength _ e))
