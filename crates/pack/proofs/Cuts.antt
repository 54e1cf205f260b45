-- The laws of a cut: its steps are the elements, and from every step on a row has the steps that the tiles leave room for. Assumes nothing.
use mathlib.Core.Path.{◌≡◌, refl, sym, ap, ◌∙◌, subst}
use mathlib.Core.Bool.{Bool, true, false}
use Prim.Native.Nat.{ℕ, suc, ◌+◌, ◌-◌, ◌*◌, ◌/◌, ◌%◌, ◌<◌, ◌≤◌, min}
use native.Mathlib.Nat.{mul-lt-mul_of_pos_right, le_of_mul-le-mul_right, mul-le-mul_right, div-lt_iff_lt-mul, div-mul-le_self, le-div_iff_mul-le, one-mul, add-mul, min-eq_left, le-mul_of_pos_right}
use native.Mathlib.Numerals.{add-one}
use native.Mathlib.Omega.{arith}
use mathlib.Core.List.{List, [], ◌∷◌}
use lib.ListN.{length, get_or, take, drop, length-drop}
use lib.Seq.{drop-cons, get_or-drop, get_or-take, length-take-le, take_all}
use Rattle.radix.specs.Radix.{max_count, prod, Sizes, Bounded}
use Rattle.radix.proofs.Radix.{get_d-tab, length-tab}
use Rattle.radix.proofs.Loops.{rest-pos}
use Rattle.shape.specs.Dimensions.{place, Permutation}
use Rattle.shape.proofs.Repeats.{place_at}
use Rattle.tiling.specs.Row.{row_room}
use Rattle.tiling.specs.declared.row.Reach.{Reach}
use Rattle.tiling.specs.Ready.{Ready}
use Rattle.tiling.specs.Tile.{tiles_from, padded, offset}
use Rattle.tiling.proofs.OwnCells.{Valid, offset-below}
use Rattle.tiling.proofs.Rows.{prod-split, reached-most, reached-some, row-offset, block-end, offset-none}
use Rattle.tiling.proofs.Shaped.{shaped-valid}
use Rattle.pack.specs.Rows.{Stored, Loaded, HasRoom, CarriedTo, scattered, gathered, carried, Reaches, RowRoom, IsCut, IsRow, offsets_from}
use Rattle.pack.specs.declared.cut.Cut.{Cut}
use Rattle.pack.proofs.Walking.{store-row, load_row}

-- the first k sizes and the rest are sizes
pub sizes-front : (k : ℕ) (ds : List ℕ) → k ≤ length ds → Sizes ds → Sizes (take k ds)
unfolding Bounded
sizes-front k ds h s i l = let g : i < k = omega (arith, length-take-le k ds h) in rw (get_or-take k ds i 0 g) (s i (omega arith))

pub sizes-rest : (k : ℕ) (ds : List ℕ) → k ≤ length ds → Sizes ds → Sizes (drop k ds)
unfolding Bounded
sizes-rest k ds h s i l = rw (get_or-drop) (s (k + i) (omega (arith, length-drop k ds)))

pub rest-whole : (k : ℕ) (ds : List ℕ) → take (length ds - k) (drop k ds) ≡ drop k ds
rest-whole k ds = take_all (length ds - k) (drop k ds) (omega (arith, length-drop k ds))

-- neither product is above the whole one
pub prod-front : (k : ℕ) (ds : List ℕ) → Sizes ds → prod (take k ds) ≤ prod ds
prod-front k ds s = omega (arith, prod-split k ds, le-mul_of_pos_right (prod (take k ds)) (rest-pos ds k s))

pub prod-rest : (k : ℕ) (ds : List ℕ) → k ≤ length ds → Sizes ds → prod (drop k ds) ≤ prod ds
prod-rest k ds h s = omega (arith, prod-split k ds, mul-le-mul_right (prod (drop k ds)) (rest-pos (take k ds) 0 (sizes-front k ds h s)), one-mul (prod (drop k ds)))

-- the products that a cut reckons are exact
pub span-is : (sizes : List ℕ) (k span : ℕ) → k < length sizes → Sizes sizes → prod sizes ≤ max_count → span ≡ min (prod (take (length sizes - (k + 1)) (drop (k + 1) sizes))) (max_count + 1) → span ≡ prod (drop (k + 1) sizes)
span-is sizes k span l s few is =
    is ∙ ap (λ (ds : List ℕ). min (prod ds) (max_count + 1)) (rest-whole (k + 1) sizes) ∙ min-eq_left (omega (arith, prod-rest (k + 1) sizes (omega arith) s, few))

pub steps-is : (sizes : List ℕ) (k steps : ℕ) → Sizes sizes → prod sizes ≤ max_count → steps ≡ min (prod (take (k + 1) sizes)) (max_count + 1) → steps ≡ prod (take (k + 1) sizes)
steps-is sizes k steps s few is = is ∙ min-eq_left (omega (arith, prod-front (k + 1) sizes s, few))

-- a coordinate spans at least one element, and at most the width
pub span-few : (sizes : List ℕ) (k span most : ℕ) → Sizes sizes → span ≡ prod (drop (k + 1) sizes) → prod (drop (suc k) sizes) ≤ most → (0 < span) × (span ≤ most)
span-few sizes k span most s is few =
    let e : prod (drop (k + 1) sizes) ≡ prod (drop (suc k) sizes) = ap (λ (n : ℕ). prod (drop n sizes)) (add-one k) in
    omega (arith, is, e, rest-pos sizes (k + 1) s, few)

-- how wide a row is
pub wide-is : (size most span wide : ℕ) → 0 < size → 0 < span → span ≤ most → wide ≡ min size (most / span) → (0 < wide) × (wide ≤ size) × (wide * span ≤ most)
wide-is size most span wide some pos few is =
    let one : 1 ≤ most / span = (le-div_iff_mul-le pos).1 (omega arith) in
    let near : wide ≤ most / span = omega arith in
    (omega arith, omega arith, omega (arith, mul-le-mul_right span near, div-mul-le_self most span))

-- a cut at dimension k
pub cut-is : (sizes p : List ℕ) → Permutation p → length p ≡ length sizes → Sizes sizes → (k i span steps wide : ℕ) → k < length sizes → i ≡ place k p → span ≡ prod (drop (k + 1) sizes) → steps ≡ prod (take (k + 1) sizes)
    → 0 < wide → wide ≤ get_or sizes k 0 → IsCut (record { dimension = k; place = i; size = get_or sizes k 0; span = span; steps = steps; wide = wide }) sizes p
cut-is sizes p q e s k i span steps wide l at is so some few =
    let o = q.onto k (omega arith) in
    let r : span ≡ prod (drop (suc k) sizes) = is ∙ ap (λ (n : ℕ). prod (drop n sizes)) (add-one k) in
    let t : get_or sizes k 0 * span ≡ prod (drop k sizes) = ap (λ (x : ℕ). get_or sizes k 0 * x) r ∙ sym (ap prod (drop-cons sizes k 0 l)) in
    record {
      wide = some;
      narrow = few;
      span = subst (λ (x : ℕ). 0 < x) (sym is) (rest-pos sizes (k + 1) s);
      count = rw (so, is) (prod-split (k + 1) sizes);
      room = omega (arith, t, prod-rest k sizes (omega arith) s);
      inside = λ _. (l, omega (arith, at, o), ap (λ (n : ℕ). get_or p n 0) at ∙ place_at k p o);
      same = λ _. (refl, r);
    }

-- without a dimension there is one element
prod-none : (ds : List ℕ) → length ds ≡ 0 → prod ds ≡ 1
prod-none [] e = refl
prod-none (d ∷ ds) e = absurd (omega arith)

pub cut-none : (sizes p : List ℕ) → length sizes ≡ 0 → IsCut (record { dimension = 0; place = 0; size = 1; span = 1; steps = 1; wide = 1 }) sizes p
cut-none sizes p e =
    let o = prod-none sizes e in
    record { wide = omega arith; narrow = omega arith; span = omega arith; count = sym o; room = omega (arith, o); inside = λ h. absurd (omega arith); same = λ h. absurd (omega arith) }

module _ (sizes p : List ℕ) (tss : List (List ℕ)) (v : Valid sizes p tss) (small : Sizes sizes) (g : Cut) (i : IsCut g sizes p) where
  -- a step begins at an element
  pub step-below : (q : ℕ) → q < g.steps → q * g.span < prod sizes
  step-below q h = omega (arith, mul-lt-mul_of_pos_right {k = g.span} h i.span, i.count)

  pub steps-below : (q : ℕ) → q ≤ g.steps → q * g.span ≤ prod sizes
  steps-below q h = omega (arith, mul-le-mul_right g.span h, i.count)

  -- without a dimension there is one element
  pub row-single : length sizes ≡ 0 → (q : ℕ) → q < g.steps → IsRow sizes p tss g q 1
  row-single e q h =
      record {
        some = omega arith;
        narrow = i.wide;
        inside = omega arith;
        same = λ j l. offset-none sizes p tss v e (q * g.span + j) ∙ sym (ap (λ (x : ℕ). x + offset sizes p tss j) (offset-none sizes p tss v e (q * g.span)) ∙ ap (λ (x : ℕ). 0 + x) (offset-none sizes p tss v e j));
      }

  -- a row ends with its block, with the table, or where a tile leaves no room
  pub row_in : 0 < length sizes → (q b : ℕ) → q < g.steps → b ≤ g.wide → b ≤ g.size - q % g.size → 0 < b → IsRow sizes p tss g q (row_room tss (length p) g.place (q % g.size) b)
  row_in z q b h few left some =
      let at = i.inside z in
      let is = i.same z in
      let r = row_room tss (length p) g.place (q % g.size) b in
      let start : Reach = record { place = g.place; coordinate = q % g.size; scale = 1; most = b } in
      let k = g.dimension in
      let d = get_or sizes k 0 in
      let P = prod (drop (suc k) sizes) in
      let most : r ≤ b = reached-most tss (length p) start in
      let below : q * P < prod sizes = subst (λ (x : ℕ). q * x < prod sizes) is.1 (step-below q h) in
      let end : (q + (d - q % d)) * P ≤ prod sizes = block-end sizes p tss v small k g.place at.0 at.1 at.2 q below in
      let ends : (q + (g.size - q % g.size)) * g.span ≤ g.steps * g.span = subst (λ (x : ℕ). (q + (g.size - q % g.size)) * g.span ≤ x) (sym i.count) (rw (is.0, is.1) end) in
      record {
        some = reached-some tss (length p) start v.tiles at.1 (omega arith) some;
        narrow = omega arith;
        inside = let e : q + (g.size - q % g.size) ≤ g.steps = le_of_mul-le-mul_right ends i.span in omega arith;
        same =
            λ j l.
            let near : j / g.span < r = (div-lt_iff_lt-mul i.span).1 l in
            rw is.1
            (row-offset sizes p tss v small k g.place at.0 at.1 at.2 q b j below (subst (λ (x : ℕ). b ≤ x - q % x) is.0 left)
            (subst (λ (x : ℕ). j / P < row_room tss (length p) g.place (q % x) b) is.0 (subst (λ (x : ℕ). j / x < r) is.1 near)));
      }

  -- a row's part of the table gives the offsets of its elements, counted from that of the first one
  pub row-table : (q r : ℕ) → IsRow sizes p tss g q r → (j : ℕ) → j < r * g.span
      → offset sizes p tss (q * g.span) + get_or (take (r * g.span) (offsets_from sizes p tss (g.wide * g.span))) j 0 ≡ offset sizes p tss (q * g.span + j)
  row-table q r w j l =
      let n : j < g.wide * g.span = omega (arith, mul-le-mul_right g.span w.narrow) in
      ap (λ (x : ℕ). offset sizes p tss (q * g.span) + x) (get_or-take (r * g.span) (offsets_from sizes p tss (g.wide * g.span)) j 0 l ∙ get_d-tab (offset sizes p tss) (g.wide * g.span) j 0 n) ∙ sym (w.same j l)

  pub table-length : (q r : ℕ) → IsRow sizes p tss g q r → length (take (r * g.span) (offsets_from sizes p tss (g.wide * g.span))) ≡ r * g.span
  table-length q r w =
      length-take-le (r * g.span) (offsets_from sizes p tss (g.wide * g.span)) (omega (arith, mul-le-mul_right g.span w.narrow, length-tab (offset sizes p tss) (g.wide * g.span)))

-- the part of a table along which the row of r steps from step q on goes, its first cell at base: it ends among the elements, and it names their cells
pub record Part (sizes p : List ℕ) (tss : List (List ℕ)) (g : Cut) (q r base : ℕ) (table : List ℕ) : Type 0 where
  pub room : (q + r) * g.span ≤ prod sizes
  pub long : length (take (r * g.span) table) ≡ r * g.span
  pub ends : q * g.span + length (take (r * g.span) table) ≡ (q + r) * g.span
  pub same : (j : ℕ) → j < length (take (r * g.span) table) → base + get_or (take (r * g.span) table) j 0 ≡ offset sizes p tss (q * g.span + j)
  pub reach : Reaches base (take (r * g.span) table) (padded sizes p tss)

pub row-part : {sizes p lens flat : List ℕ} {g : Cut} {q r : ℕ} → Ready sizes p lens flat → IsCut g sizes p → (table : List ℕ) → table ≡ offsets_from sizes p (tiles_from lens flat) (g.wide * g.span)
    → IsRow sizes p (tiles_from lens flat) g q r → (base : ℕ) → base ≡ offset sizes p (tiles_from lens flat) (q * g.span) → Part sizes p (tiles_from lens flat) g q r base table
row-part {sizes} {p} {lens} {flat} {g} {q} {r} ready i table is w base at = record { room = room; long = long; ends = ends; same = same; reach = reach }
  where
    tss : List (List ℕ)
    tss = tiles_from lens flat

    valid : Valid sizes p tss
    valid = shaped-valid ready.shaped

    room : (q + r) * g.span ≤ prod sizes
    room = steps-below sizes p tss valid ready.shaped.small g i (q + r) w.inside

    many : r * g.span ≤ g.wide * g.span
    many = mul-le-mul_right g.span w.narrow

    long : length (take (r * g.span) table) ≡ r * g.span
    long = length-take-le (r * g.span) table (omega (arith, many, ap length is, length-tab (offset sizes p tss) (g.wide * g.span)))

    ends : q * g.span + length (take (r * g.span) table) ≡ (q + r) * g.span
    ends = omega (arith, long, add-mul q r g.span)

    same : (j : ℕ) → j < length (take (r * g.span) table) → base + get_or (take (r * g.span) table) j 0 ≡ offset sizes p tss (q * g.span + j)
    same j h =
        let l : j < r * g.span = omega (arith, long) in
        let n : j < g.wide * g.span = omega (arith, many) in
        let e : get_or (take (r * g.span) table) j 0 ≡ offset sizes p tss j = get_or-take (r * g.span) table j 0 l ∙ ap (λ (xs : List ℕ). get_or xs j 0) is ∙ get_d-tab (offset sizes p tss) (g.wide * g.span) j 0 n in
        omega (arith, e, at, w.same j l)

    reach : Reaches base (take (r * g.span) table) (padded sizes p tss)
    reach j h = omega (arith, same j h, offset-below sizes p tss valid (q * g.span + j) (omega (arith, ends, room)))

-- a row more is stored, or loaded
stored-more : {sizes p lens flat : List ℕ} {g : Cut} {q r base : ℕ} {table : List ℕ} → Ready sizes p lens flat → Part sizes p (tiles_from lens flat) g q r base table → (source before cells after : List ℕ)
    → padded sizes p (tiles_from lens flat) ≤ length before → length cells ≡ length before → Stored sizes p (tiles_from lens flat) source (q * g.span) before cells
    → after ≡ scattered source base (take (r * g.span) table) (q * g.span) cells → Stored sizes p (tiles_from lens flat) source ((q + r) * g.span) before after
stored-more {sizes} {p} {lens} {flat} {g} {q} {r} {base} {table} ready w source before cells after room long s is =
    rw (is, ← w.ends)
    (store-row sizes p (tiles_from lens flat) source before (shaped-valid ready.shaped) base (take (r * g.span) table) (q * g.span) cells (omega (arith, w.ends, w.room)) room w.same (long, s)).1

loaded-more : {sizes p : List ℕ} {tss : List (List ℕ)} {g : Cut} {q r base : ℕ} {table : List ℕ} → Part sizes p tss g q r base table → (cells before places after : List ℕ)
    → prod sizes ≤ length before → length places ≡ length before → Loaded sizes p tss cells (q * g.span) before places
    → after ≡ gathered cells base (take (r * g.span) table) (q * g.span) places → Loaded sizes p tss cells ((q + r) * g.span) before after
loaded-more {sizes} {p} {tss} {g} {q} {r} {base} {table} w cells before places after room long s is =
    rw (is, ← w.ends)
    (load_row sizes p tss cells before base (take (r * g.span) table) (q * g.span) places (omega (arith, w.ends, w.room)) w.same (long, s)).1

pub carried-more : {sizes p lens flat : List ℕ} {g : Cut} {q r base : ℕ} {table : List ℕ} (packs : Bool) → Ready sizes p lens flat → Part sizes p (tiles_from lens flat) g q r base table → (from before xs after : List ℕ)
    → HasRoom packs sizes p (tiles_from lens flat) from before → length xs ≡ length before → CarriedTo packs sizes p (tiles_from lens flat) from (q * g.span) before xs
    → after ≡ carried packs from base (take (r * g.span) table) (q * g.span) xs → CarriedTo packs sizes p (tiles_from lens flat) from ((q + r) * g.span) before after
carried-more true ready w from before xs after h long s is = stored-more ready w from before xs after h.1 long s is
carried-more false ready w from before xs after h long s is = loaded-more w from before xs after h.0 long s is

-- and there is room for it
pub row-room : {sizes p : List ℕ} {tss : List (List ℕ)} {g : Cut} {q r base : ℕ} {table : List ℕ} (packs : Bool) → Part sizes p tss g q r base table → (from before xs : List ℕ)
    → HasRoom packs sizes p tss from before → length xs ≡ length before → RowRoom packs from base (take (r * g.span) table) (q * g.span) xs
row-room true w from before xs h long = (omega (arith, w.ends, w.room, h.0), λ j l. omega (arith, w.reach j l, h.1, long))
row-room false w from before xs h long = (omega (arith, w.ends, w.room, h.0, long), λ j l. omega (arith, w.reach j l, h.1))
