-- The rules of a re-tiling: made of the verdicts on its two sides, and what they give where it is judged done, at any mark inside. Assumes nothing.
use Rattle.std.specs.Prelude.{Result, Ok, Err}
use mathlib.Core.Path.{◌≡◌, refl, sym, ap, ◌∙◌}
use mathlib.Core.Bool.{Bool, true, false, cond, ◌&&◌}
use mathlib.Core.List.{List, [], ◌∷◌, ◌++◌}
use Prim.Native.Nat.{ℕ, ◌≤◌}
use lib.Dec.{leb, ltb}
use borrow.Author.Tests.{leb-true, le-leb}
use Rattle.radix.specs.Radix.{max_count}
use Rattle.radix.proofs.Tests.{and_left, and_right}
use Rattle.refusal.specs.Judge.{Rule, rule, judge, Verdict}
use Rattle.refusal.specs.Number.{number_of}
use Rattle.refusal.specs.declared.Refusal.{Refusal}
use Rattle.refusal.specs.declared.Refusal.TheVariants.{ShapeLimits, LayoutRule, PaddedSize}
use Rattle.refusal.proofs.Judged.{kept, rest, never_done, after-done, after-refused}
use Rattle.shape.specs.Shape.{good_shape}
use Rattle.shape.specs.declared.Shape.{Shape}
use Rattle.layout.specs.Layout.{good_layout, padded_of, layout_rules}
use Rattle.layout.specs.declared.Layout.{Layout}
use Rattle.retile.specs.Answers.{retile_rules}
use Rattle.retile.specs.Steps.{IsMeasured, Measures, lower, verdict_on, mark_rules, with_mark}
use Rattle.retile.specs.declared.sides.Side.{Side}

-- the shape with both layouts, the mark, and both buffers long enough
pub record Lent (s : Shape) (from to : Layout) (source cells m : ℕ) : Type 0 where
  pub from-judged : judge (layout_rules s from) ≡ Ok tt
  pub to-judged : judge (layout_rules s to) ≡ Ok tt
  pub mark : m ≤ padded_of s to
  pub from-room : padded_of s from ≤ source
  pub to_room : padded_of s to ≤ cells
  pub again : (k : ℕ) → k ≤ padded_of s to → judge (retile_rules s from to source cells k) ≡ Ok tt

pub lent : (s : Shape) (from to : Layout) (source cells m : ℕ) → judge (retile_rules s from to source cells m) ≡ Ok tt → Lent s from to source cells m
lent s from to source cells m e =
    let a = good_layout s.rank from in
    let b = good_layout s.rank to in
    let c = leb (padded_of s from) max_count in
    let d = leb (padded_of s to) max_count in
    let i = leb (padded_of s from) source in
    let j = leb (padded_of s to) cells in
    let g : good_shape s ≡ true = kept (good_shape s) _ _ e in
    let e1 = rest (good_shape s) _ _ e in
    let ab = kept (a && b) _ _ e1 in
    let e2 = rest (a && b) _ _ e1 in
    let cd = kept (c && d) _ _ e2 in
    let e3 = rest (c && d) _ _ e2 in
    let h = kept (leb m (padded_of s to)) _ _ e3 in
    let e4 = rest (leb m (padded_of s to)) _ _ e3 in
    let ij = kept (i && j) _ _ e4 in
    let at : a ≡ true = and_left a b ab in
    let bt : b ≡ true = and_right a b ab in
    let ct : c ≡ true = and_left c d cd in
    let dt : d ≡ true = and_right c d cd in
    let it : i ≡ true = and_left i j ij in
    let jt : j ≡ true = and_right i j ij in
    record {
      from-judged = rw (g, at, ct);
      to-judged = rw (g, bt, dt);
      mark = leb-true m (padded_of s to) h;
      from-room = leb-true (padded_of s from) source it;
      to_room = leb-true (padded_of s to) cells jt;
      again = λ k l. rw (g, at, bt, ct, dt, le-leb k (padded_of s to) l, it, jt);
    }

-- the rules of two layouts for one shape: the lower number of the two verdicts
abbrev one_side : Bool → Bool → Bool → List Rule
one_side g a c = rule g ShapeLimits ∷ rule a LayoutRule ∷ rule c PaddedSize ∷ []

both-sides : (g a b c d : Bool) → lower (judge (one_side g a c)) (judge (one_side g b d)) ≡ judge (one_side g (a && b) (c && d))
both-sides false a b c d = refl
both-sides true false false c d = refl
both-sides true false true c false = refl
both-sides true false true c true = refl
both-sides true true false false d = refl
both-sides true true false true d = refl
both-sides true true true false false = refl
both-sides true true true false true = refl
both-sides true true true true d = refl

lower-done : (v w : Verdict) → lower v w ≡ Ok tt → (v ≡ Ok tt) × (w ≡ Ok tt)
lower-done (Ok _) w e = (refl, e)
lower-done (Err r) (Ok _) e = never_done (Err r) r refl e
lower-done (Err r) (Err t) e = go (ltb (number_of t) (number_of r)) e
  where
    go : (b : Bool) → cond b (Err t) (Err r) ≡ Ok (tt {0}) → (Err r ≡ Ok (tt {0})) × (Err t ≡ Ok (tt {0}))
    go true z = never_done (Err t) t refl z
    go false z = never_done (Err r) r refl z

-- with the mark and the buffers after them, the rules of a re-tiling
pub retile-judged : (s : Shape) (from to : Layout) (source cells m : ℕ) (v w : Verdict) (a b : ℕ)
    → v ≡ judge (layout_rules s from) → (v ≡ Ok tt → a ≡ padded_of s from) → w ≡ judge (layout_rules s to) → (w ≡ Ok tt → b ≡ padded_of s to)
    → with_mark (lower v w) a b source cells m ≡ judge (retile_rules s from to source cells m)
retile-judged s from to source cells m v w a b e f g h = go (lower v w) refl
  where
    sides : List Rule
    sides = one_side (good_shape s) (good_layout s.rank from && good_layout s.rank to) (leb (padded_of s from) max_count && leb (padded_of s to) max_count)

    others : List Rule
    others = mark_rules (padded_of s from) (padded_of s to) source cells m

    judged : lower v w ≡ judge sides
    judged = rw (e, g) (both-sides (good_shape s) (good_layout s.rank from) (good_layout s.rank to) (leb (padded_of s from) max_count) (leb (padded_of s to) max_count))

    go : (u : Verdict) → lower v w ≡ u → with_mark u a b source cells m ≡ judge (sides ++ others)
    go (Ok _) d = let x = lower-done v w d in rw (f x.0, h x.1) (sym (after-done sides others (sym judged ∙ d)))
    go (Err r) d = sym (after-refused sides others r (sym judged ∙ d))

-- the verdict on a side is that of its rules
verdict-is : (s : Shape) (l : Layout) (x : Result Side Refusal) → Measures x s l → verdict_on x ≡ judge (layout_rules s l)
verdict-is s l (Ok x) m = sym m.0
verdict-is s l (Err r) m = sym m

module _ (s : Shape) (from to : Layout) (source cells m : ℕ) where
  -- what refuses a side refuses the re-tiling
  pub side-refused : (x y : Result Side Refusal) → Measures x s from → Measures y s to → (r : Refusal) → lower (verdict_on x) (verdict_on y) ≡ Err r → judge (retile_rules s from to source cells m) ≡ Err r
  side-refused x y f g r e =
      sym (retile-judged s from to source cells m (verdict_on x) (verdict_on y) (padded_of s from) (padded_of s to) (verdict-is s from x f) (λ _. refl) (verdict-is s to y g) (λ _. refl))
      ∙ ap (λ (u : Verdict). with_mark u (padded_of s from) (padded_of s to) source cells m) e

  -- with both sides measured, the mark and the buffers are left to judge
  pub mark-judged : (a b : Side) → IsMeasured a s from → IsMeasured b s to → judge (mark_rules a.extent.padded b.extent.padded source cells m) ≡ judge (retile_rules s from to source cells m)
  mark-judged a b f g = retile-judged s from to source cells m (Ok tt) (Ok tt) a.extent.padded b.extent.padded (sym f.0) (λ _. f.1.padded) (sym g.0) (λ _. g.1.padded)
