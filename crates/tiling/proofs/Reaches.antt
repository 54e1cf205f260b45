-- A reach under one tile, and what a loop over the tiles keeps. Assumes nothing.
use mathlib.Core.Path.{◌≡◌, refl, sym, ap, ◌∙◌, subst}
use mathlib.Core.Bool.{Bool, true, false, cond}
use Prim.Native.Nat.{ℕ, ◌+◌, ◌-◌, ◌*◌, ◌%◌, ◌^◌, ◌<◌, ◌≤◌}
use native.Mathlib.Nat.{mul-le-mul, mul_comm, pow-succ', pow-le-pow_right}
use native.Mathlib.Numerals.{add-one}
use native.Mathlib.Omega.{arith}
use mathlib.Core.List.{List}
use lib.Dec.{ltb, eqb}
use lib.ListN.{length, get_or, take, drop}
use borrow.Author.Tests.{ltb-false}
use Rattle.radix.specs.Radix.{Bounded}
use Rattle.shape.specs.Shape.{max_rank}
use Rattle.tiling.proofs.Levels.{tiles-at, levels-at, tile-at}
use Rattle.tiling.specs.Ready.{Levels}
use Rattle.tiling.specs.Row.{quotient_reach, remainder_reach, tiled_reach, reached}
use Rattle.tiling.specs.Tile.{max_entries, max_entry, tiles_from}
use Rattle.tiling.specs.declared.row.Reach.{Reach}

module _ (ts : List ℕ) (n : ℕ) (f : Reach) where
  abbrev m : ℕ
  m = length ts

  abbrev t : ℕ
  t = get_or ts (f.place - (n - m)) 0

  -- the place stays one of the tiled places, and the scale grows by an entry at most
  abbrev of : Bool → Bool → Reach
  of a b = cond a f (cond b (quotient_reach t f) (remainder_reach t m f))

  pub reach-place : m ≤ n → f.place < n → (tiled_reach ts n f).place < n + m
  reach-place h l = go (ltb f.place (n - m)) (eqb (f.coordinate % t) 0)
    where
      go : (a b : Bool) → (of a b).place < n + m
      go true b = omega arith
      go false true = omega arith
      go false false = omega arith

  pub reach-scale : (l : ℕ) → m ≤ n → f.place < n → ((k : ℕ) → k < m → get_or ts k 0 ≤ max_entry) → f.scale ≤ 1024 ^ l → (tiled_reach ts n f).scale ≤ 1024 ^ (l + 1)
  reach-scale l h w s g = go (ltb f.place (n - m)) refl (eqb (f.coordinate % t) 0)
    where
      more : 1024 ^ (l + 1) ≡ 1024 ^ l * 1024
      more = ap (λ (k : ℕ). 1024 ^ k) (add-one l) ∙ pow-succ' 1024 l ∙ mul_comm 1024 (1024 ^ l)

      go : (a : Bool) → ltb f.place (n - m) ≡ a → (b : Bool) → (of a b).scale ≤ 1024 ^ (l + 1)
      go true e b = omega (arith, more, g)
      go false e true = let u : t ≤ max_entry = s (f.place - (n - m)) (omega (arith, ltb-false f.place (n - m) e)) in omega (arith, more, mul-le-mul g u)
      go false e false = omega (arith, more, g)

-- The loop over the tiles: with l of them passed, those that are left make the goal of the reach f on n places.
pub record AtReach (lens flat : List ℕ) (goal : Reach) (f : Reach) (n l : ℕ) : Type 0 where
  pub within : l ≤ length lens
  pub few : n ≤ max_rank + max_entries * l
  pub place : f.place < n
  pub scale : f.scale ≤ 1024 ^ l
  pub levels : Levels (drop l lens) (drop (max_entries * l) flat) n
  pub same : reached (tiles_from (drop l lens) (drop (max_entries * l) flat)) n f ≡ goal

module _ (lens flat : List ℕ) (goal : Reach) where
  pub reach-next : (ts : List ℕ) (f : Reach) (n l : ℕ) → AtReach lens flat goal f n l → l < length lens → ts ≡ take (get_or lens l 0) (drop (max_entries * l) flat)
      → AtReach lens flat goal (tiled_reach ts n f) (n + get_or lens l 0) (l + 1)
  unfolding Bounded
  reach-next ts f n l v h q =
      let w = levels-at lens flat n l h v.levels in
      let t = tile-at lens flat n l h v.levels in
      let e : length ts ≡ get_or lens l 0 = ap length q ∙ t.long in
      let m : length ts ≤ n = omega (arith, e, t.named) in
      let b : Bounded max_entry ts = subst (Bounded max_entry) (sym q) t.bounded in
      record {
        within = omega arith;
        few = omega (arith, v.few, t.few);
        place = omega (arith, e, reach-place ts n f m v.place);
        scale = reach-scale ts n f l m v.place (λ k g. (b k g).1) v.scale;
        levels = w.4;
        same =
            ap (λ (k : ℕ). reached (tiles_from (drop (l + 1) lens) (drop (max_entries * (l + 1)) flat)) (n + k) (tiled_reach ts n f)) (sym e)
            ∙ ap (λ (x : List ℕ). reached (tiles_from (drop (l + 1) lens) (drop (max_entries * (l + 1)) flat)) (n + length x) (tiled_reach x n f)) q
            ∙ ap (λ (r : List (List ℕ)). reached r n f) (sym (tiles-at lens flat l h))
            ∙ v.same;
      }

-- before the last tile of three the scale is small
pub scale_small : (s l : ℕ) → l ≤ 2 → s ≤ 1024 ^ l → s ≤ 2 ^ 20
scale_small s l h g = let p : 1024 ^ l ≤ 1024 ^ 2 = pow-le-pow_right {n = 1024} (omega arith) h in omega (arith, p, g)
