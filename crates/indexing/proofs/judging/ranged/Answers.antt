-- `indexing::judging::ranged` meets its contract. Assumes nothing.
use Rattle.std.specs.Prelude.{Option, Some, None, unwrap_or}
use mathlib.Core.List.{List}
use Prim.Native.Nat.{ℕ}
use lib.IntN.{ℤ, pos}
use lib.ListN.{set}
use mir.Syntax.{w64}
use mir.Val.{to_z, of_z}
use Rattle.expression.specs.Reckon.{low_end, high_end}
use borrow.Author.Rules.{rules}
use mathlib.Core.Path.{◌≡◌, refl, sym, ap, ap₂, ◌∙◌}
use native.Mathlib.Omega.{arith}
use Rattle.indexing.specs.Map.{max_results, range_at}
use Rattle.indexing.proofs.Fronts.{front-none, front-next}
use Rattle.indexing.proofs.Formed.{counts-of}
use Rattle.indexing.proofs.judging.ranged.Goals as goal

-- the ends of a range that is kept, or 0
low-is : (o : Option (ℤ × ℤ)) → (unwrap_or o (pos 0, pos 0)).0 ≡ low_end o
low-is (Some (a, b)) = refl
low-is None = refl

high-is : (o : Option (ℤ × ℤ)) → (unwrap_or o (pos 0, pos 0)).1 ≡ high_end o
high-is (Some (a, b)) = refl
high-is None = refl

pub loop-i-init : goal.loop-i-init
loop-i-init c = (sym (front-none _ max_results), sym (front-none _ max_results))

pub range_at-requires : goal.range_at-requires
range_at-requires c = let w = counts-of c.args.m c.requires.formed.counts in (c.requires.formed, omega arith)

pub offset_bounds-lower-i : goal.offset_bounds-lower-i
offset_bounds-lower-i c = let w = counts-of c.args.m c.requires.formed.counts in record { fits = omega arith }

pub bounds-lower-i : goal.bounds-lower-i
bounds-lower-i c = let w = counts-of c.args.m c.requires.formed.counts in omega arith

pub offset_bounds-upper-i : goal.offset_bounds-upper-i
offset_bounds-upper-i c = let w = counts-of c.args.m c.requires.formed.counts in record { fits = omega arith }

pub bounds-upper-i : goal.bounds-upper-i
bounds-upper-i c = let w = counts-of c.args.m c.requires.formed.counts in omega arith

pub loop-i-preserved : goal.loop-i-preserved
loop-i-preserved c =
    let w = counts-of c.args.m c.requires.formed.counts in
    let i = c.loop-i.i in
    let r = c.unwrap_or-low.result in
    let k : to_z w64 (of_z w64 r.0) ≡ r.0 = search rules in
    let l : to_z w64 (of_z w64 r.1) ≡ r.1 = search rules in
    let e = c.unwrap_or-low.ensures ∙ ap (λ (o : Option (ℤ × ℤ)). unwrap_or o (pos 0, pos 0)) c.range_at.ensures in (
      ap₂ (λ (x : List ℤ) (z : ℤ). set x i z) c.loop-i.invariant.0 (k ∙ ap (λ (p : ℤ × ℤ). p.0) e ∙ low-is (range_at c.args.m i))
          ∙ front-next (λ (k : ℕ). low_end (range_at c.args.m k)) i max_results (omega arith),
      ap₂ (λ (x : List ℤ) (z : ℤ). set x i z) c.loop-i.invariant.1 (l ∙ ap (λ (p : ℤ × ℤ). p.1) e ∙ high-is (range_at c.args.m i))
          ∙ front-next (λ (k : ℕ). high_end (range_at c.args.m k)) i max_results (omega arith),
    )
