-- What a shape and a layout that break no rule give: from the tests to the facts. Assumes nothing.
use Rattle.std.specs.Prelude.{Ok}
use mathlib.Core.Path.{◌≡◌, sym, ap, ◌∙◌, subst}
use mathlib.Core.Bool.{true, ◌&&◌}
use Prim.Native.Nat.{ℕ, ◌+◌, ◌*◌, ◌<◌, ◌≤◌}
use native.Mathlib.Omega.{arith}
use mathlib.Core.List.{List, [], ◌∷◌}
use lib.Dec.{leb, eqb}
use lib.ListN.{length, get_or, take, drop, length-drop}
use lib.Seq.{length-take-le}
use borrow.Author.Tests.{leb-true, eqb-true}
use Rattle.radix.specs.Radix.{max_count, is_within}
use Rattle.radix.proofs.Lists.{rest-of}
use Rattle.tiling.proofs.Levels.{six-more}
use Rattle.tiling.proofs.Shaped.{reversed-permutation}
use Rattle.radix.proofs.Radix.{length-tab}
use Rattle.radix.proofs.Tests.{and_left, and_right, bounded_of}
use Rattle.refusal.specs.Judge.{judge}
use Rattle.refusal.proofs.Judged.{kept, rest}
use Rattle.shape.specs.Shape.{max_rank, sizes_of, good_shape}
use Rattle.shape.specs.Dimensions.{is_permutation, Permutation}
use Rattle.shape.specs.declared.Shape.{Shape}
use Rattle.shape.proofs.Limits.{Limits, limits}
use Rattle.shape.proofs.Permutations.{permutation-of}
use Rattle.tiling.specs.Tile.{max_tiles, max_entries, max_entry, reversed}
use Rattle.layout.specs.Layout.{minor_to_major, order_of, lens_of, are_tiles, good_layout, padded_of, layout_rules}
use Rattle.tiling.specs.Ready.{Levels, Shaped, Ready}
use Rattle.layout.specs.declared.Layout.{Layout}

-- the test of the tiles, at tile l
pub tiles-test-at : (n : ℕ) (lens fl : List ℕ) (l : ℕ) → l < length lens
    → are_tiles n (drop l lens) (drop (max_entries * l) fl)
    ≡ ((leb 1 (get_or lens l 0) && (leb (get_or lens l 0) max_entries && leb (get_or lens l 0) n))
    && (is_within max_entry (take (get_or lens l 0) (drop (max_entries * l) fl)) && are_tiles (n + get_or lens l 0) (drop (l + 1) lens) (drop (max_entries * (l + 1)) fl)))
tiles-test-at n lens fl l h =
    ap (λ (r : List ℕ). are_tiles n r (drop (max_entries * l) fl)) (rest-of lens l h)
    ∙ ap (λ (r : List ℕ). (leb 1 (get_or lens l 0) && (leb (get_or lens l 0) max_entries && leb (get_or lens l 0) n)) && (is_within max_entry (take (get_or lens l 0) (drop (max_entries * l) fl)) && are_tiles (n + get_or lens l 0) (drop (l + 1) lens) r)) (six-more l fl)

levels-of : (lens fl : List ℕ) (n : ℕ) → max_entries * length lens ≤ length fl → are_tiles n lens fl ≡ true → Levels lens fl n
levels-of [] fl n h e = tt
levels-of (m ∷ lens) fl n h e =
    let counts = leb 1 m && (leb m max_entries && leb m n) in
    let others = is_within max_entry (take m fl) && are_tiles (n + m) lens (drop max_entries fl) in
    let c = and_right (leb 1 m) (leb m max_entries && leb m n) (and_left counts others e) in
    let b = and_right counts others e in (
      leb-true m max_entries (and_left (leb m max_entries) (leb m n) c),
      leb-true m n (and_right (leb m max_entries) (leb m n) c),
      omega arith,
      bounded_of max_entry (take m fl) (and_left (is_within max_entry (take m fl)) (are_tiles (n + m) lens (drop max_entries fl)) b),
      levels-of lens (drop max_entries fl) (n + m) (omega (arith, length-drop max_entries fl)) (and_right (is_within max_entry (take m fl)) (are_tiles (n + m) lens (drop max_entries fl)) b),
    )

-- the arrays of a layout record have their lengths
pub record Arrays (l : Layout) : Type 0 where
  pub order : length l.minor_to_major ≡ max_rank
  pub lens : length l.tile_len ≡ max_tiles
  pub tile : length l.tile ≡ max_entries * max_tiles

-- a layout that keeps its rule, for shapes of this rank: its counts and its lists
pub record Kept (rank : ℕ) (l : Layout) : Type 0 where
  pub same : l.rank ≡ rank
  pub few : rank ≤ max_rank
  pub tiles : l.tiles ≤ max_tiles
  pub room : rank ≤ length l.minor_to_major
  pub long : length (take rank l.minor_to_major) ≡ rank
  pub read : take rank l.minor_to_major ≡ minor_to_major l
  pub order-long : length (order_of l) ≡ rank
  pub tile-room : l.tiles ≤ length l.tile_len
  pub tile-long : length (lens_of l) ≡ l.tiles
  pub perm : Permutation (order_of l)
  pub levels : Levels (lens_of l) l.tile rank

pub kept_of : (rank : ℕ) (l : Layout) → Arrays l → good_layout rank l ≡ true → Kept rank l
unfolding good_layout
kept_of rank l a e =
    let counts = eqb l.rank rank && leb l.rank max_rank && leb l.tiles max_tiles in
    let lists = is_permutation (minor_to_major l) && are_tiles l.rank (lens_of l) l.tile in
    let c = and_left counts lists e in
    let d = and_right counts lists e in
    let u = and_left (eqb l.rank rank && leb l.rank max_rank) (leb l.tiles max_tiles) c in
    let q : l.rank ≡ rank = eqb-true l.rank rank (and_left (eqb l.rank rank) (leb l.rank max_rank) u) in
    let r : l.rank ≤ max_rank = leb-true l.rank max_rank (and_right (eqb l.rank rank) (leb l.rank max_rank) u) in
    let t : l.tiles ≤ max_tiles = leb-true l.tiles max_tiles (and_right (eqb l.rank rank && leb l.rank max_rank) (leb l.tiles max_tiles) c) in
    let m : length (minor_to_major l) ≡ l.rank = length-take-le l.rank l.minor_to_major (omega (arith, a.order)) in
    let k : length (lens_of l) ≡ l.tiles = length-take-le l.tiles l.tile_len (omega (arith, a.lens)) in
    let same-list : take rank l.minor_to_major ≡ minor_to_major l = ap (λ (n : ℕ). take n l.minor_to_major) (sym q) in
    record {
      same = q;
      few = omega arith;
      tiles = t;
      room = omega (arith, a.order);
      long = ap length same-list ∙ m ∙ q;
      read = same-list;
      order-long = length-tab _ (length (minor_to_major l)) ∙ m ∙ q;
      tile-room = omega (arith, a.lens);
      tile-long = k;
      perm = reversed-permutation (minor_to_major l) (permutation-of (minor_to_major l) (and_left (is_permutation (minor_to_major l)) (are_tiles l.rank (lens_of l) l.tile) d));
      levels = subst (Levels (lens_of l) l.tile) q (levels-of (lens_of l) l.tile l.rank (omega (arith, a.tile)) (and_right (is_permutation (minor_to_major l)) (are_tiles l.rank (lens_of l) l.tile) d));
    }

-- minor_to_major read from its end into the front of o
module _ {rank : ℕ} {l : Layout} (k : Kept rank l) (o : List ℕ) where
  pub order-held : take (length (take rank l.minor_to_major)) o ≡ reversed (take rank l.minor_to_major) → take rank o ≡ order_of l
  order-held e = ap (λ (n : ℕ). take n o) (sym k.long) ∙ e ∙ ap reversed k.read

  pub order-room : length o ≡ max_rank → (rank ≤ length o) × (length (take rank o) ≡ rank)
  order-room six = let h : rank ≤ length o = omega (arith, k.few) in (h, length-take-le rank o h)

pub shaped_of : {s : Shape} {l : Layout} → Limits s → Kept s.rank l → Shaped (sizes_of s) (order_of l) (lens_of l) l.tile
shaped_of {s} {l} g k =
    record {
      rank = k.order-long ∙ sym g.long;
      few = omega (arith, g.long, g.rank);
      tiles = omega (arith, k.tile-long, k.tiles);
      perm = k.perm;
      small = g.sizes;
      levels = subst (λ (n : ℕ). Levels (lens_of l) l.tile n) (sym k.order-long) k.levels;
      count = g.count;
    }

-- a shape that keeps its limits and a layout that keeps its rule
pub record Good (s : Shape) (l : Layout) : Type 0 where
  pub limits : Limits s
  pub kept : Kept s.rank l

pub good_of : (s : Shape) (l : Layout) → length s.sizes ≡ max_rank → Arrays l → good_shape s ≡ true → good_layout s.rank l ≡ true → Good s l
good_of s l six a g k = record { limits = limits s six g; kept = kept_of s.rank l a k }

-- a shape and a layout that are judged done
pub record Accepted (s : Shape) (l : Layout) : Type 0 where
  pub limits : Limits s
  pub kept : Kept s.rank l
  pub ready : Ready (sizes_of s) (order_of l) (lens_of l) l.tile

pub accepted : (s : Shape) (l : Layout) → length s.sizes ≡ max_rank → Arrays l → judge (layout_rules s l) ≡ Ok tt → Accepted s l
accepted s l six a e =
    let g = limits s six (kept (good_shape s) _ _ e) in
    let f = rest (good_shape s) _ _ e in
    let k = kept_of s.rank l a (kept (good_layout s.rank l) _ _ f) in
    record {
      limits = g;
      kept = k;
      ready = record {
        shaped = shaped_of g k;
        room = leb-true (padded_of s l) max_count (kept (leb (padded_of s l) max_count) _ _ (rest (good_layout s.rank l) _ _ f));
      };
    }
