-- How a table of offsets grows: its front repeated with a base, row by row, dimension by dimension. Assumes nothing.
use mathlib.Core.Path.{◌≡◌, refl, sym, ap, ◌∙◌, subst}
use mathlib.Core.Logic.{⊎_elim}
use Prim.Native.Nat.{ℕ, suc, ◌+◌, ◌-◌, ◌*◌, ◌/◌, ◌%◌, ◌<◌, ◌≤◌, ◌^◌, min}
use native.Mathlib.Nat.{not-suc-le-zero, eq-or-lt_of_le, add-mul, mul-le-mul_right, mul-lt-mul_of_pos_right, min-eq_left, mod-eq_of_lt, div-lt_iff_lt-mul, eq-zero-or-pos}
use native.Mathlib.Numerals.{add-one}
use native.Mathlib.Omega.{arith}
use mathlib.Core.List.{List}
use lib.ListN.{length, get_or, take, drop, set}
use lib.Seq.{get_or-set_same, get_or-set_other, get_or-take, length-take-le, drop-cons, ext_get_or}
use Rattle.radix.specs.Radix.{max_count, prod, Sizes}
use Rattle.radix.proofs.Lists.{le-or-lt}
use Rattle.radix.proofs.Loops.{rest-pos}
use Rattle.radix.proofs.Radix.{length-tab, get_d-tab}
use Rattle.shape.specs.Dimensions.{place}
use Rattle.shape.proofs.Repeats.{place_at}
use Rattle.tiling.specs.Ready.{Under, Ready}
use Rattle.tiling.specs.Row.{row_reach, row_room}
use Rattle.tiling.specs.Tile.{tiles_from, physical, padded, offset}
use Rattle.tiling.specs.declared.row.Reach.{Reach}
use Rattle.tiling.proofs.Coordinates.{reached-below, reached-place, reached-offset, reached-more}
use Rattle.tiling.proofs.First.{offset-first}
use Rattle.tiling.proofs.OwnCells.{Valid, offset-below}
use Rattle.tiling.proofs.Rows.{reached-most, reached-some, row-offset}
use Rattle.tiling.proofs.Shaped.{shaped-valid, shaped-under, shaped-small}
use Rattle.pack.specs.Rows.{Reaches, Repeated, HasOffsets, IsSpan, offsets_from}
use Rattle.pack.proofs.Cuts.{prod-rest, rest-whole, sizes-rest}

-- one entry more is repeated
pub repeat-none : (base a : ℕ) (xs : List ℕ) → Repeated base a 0 xs xs
repeat-none base a xs = (λ k h. refl, λ k h. absurd (not-suc-le-zero h))

pub repeat-next : (base a j : ℕ) (before xs : List ℕ) → Repeated base a j before xs → j < a → a + j < length xs → Repeated base a (j + 1) before (set xs (a + j) (base + get_or xs j 0))
repeat-next base a j before xs r h l = (
  λ k g. get_or-set_other xs (a + j) k (base + get_or xs j 0) 0 (λ e. omega arith) ∙ r.0 k g,
  λ k g.
      ⊎_elim
      (λ (e : k ≡ j). subst (λ (o : ℕ). get_or (set xs (a + j) (base + get_or xs j 0)) (a + o) 0 ≡ base + get_or before o 0) (sym e) (get_or-set_same xs (a + j) (base + get_or xs j 0) 0 l ∙ ap (λ (o : ℕ). base + o) (r.0 j h)))
      (λ (e : k < j). get_or-set_other xs (a + j) (a + k) (base + get_or xs j 0) 0 (λ q. omega arith) ∙ r.1 k e)
      (eq-or-lt_of_le (near k g)),
)
  where
    near : (k : ℕ) → k < j + 1 → k ≤ j
    near k g = omega arith

-- coordinate x, of which a row reaches f: its offset is that of the rest plus one product, and both are in range
pub record FirstOf (sizes p : List ℕ) (tss : List (List ℕ)) (span x : ℕ) (f : Reach) : Type 0 where
  pub part : f.coordinate * f.scale ≤ x
  pub place : f.place < length (physical sizes p tss)
  pub rest : (x - f.coordinate * f.scale) * span < x * span
  pub after : Sizes (take (length (physical sizes p tss) - (f.place + 1)) (drop (f.place + 1) (physical sizes p tss)))
  pub product : min (prod (take (length (physical sizes p tss) - (f.place + 1)) (drop (f.place + 1) (physical sizes p tss)))) (max_count + 1) ≡ prod (drop (suc f.place) (physical sizes p tss))
  pub same : offset sizes p tss ((x - f.coordinate * f.scale) * span) + f.coordinate * prod (drop (suc f.place) (physical sizes p tss)) ≡ offset sizes p tss (x * span)
  pub small : offset sizes p tss (x * span) < max_count

-- from coordinate x on a row of steps coordinates is at most as long as what is before it, and ends with the dimension
pub record NextRow (sizes p : List ℕ) (tss : List (List ℕ)) (size span x steps : ℕ) : Type 0 where
  pub some : 0 < steps
  pub few : steps ≤ x
  pub left : x + steps ≤ size
  pub same : (j : ℕ) → j < steps * span → offset sizes p tss (x * span + j) ≡ offset sizes p tss (x * span) + offset sizes p tss j

-- the table with a row more, up to n entries
module _ (sizes p : List ℕ) (tss : List (List ℕ)) (size span x steps n len base : ℕ) (table : List ℕ) (w : NextRow sizes p tss size span x steps) (h : HasOffsets sizes p tss (x * span) n table)
    (is : base ≡ offset sizes p tss (x * span)) (short : len ≤ steps * span) (near : x * span + len ≤ n) where
  row-part : steps * span ≤ x * span
  row-part = mul-le-mul_right span w.few

  pub row-entry : (j : ℕ) → j < len → base + get_or table j 0 ≡ offset sizes p tss (x * span + j)
  row-entry j l =
      ap (λ (y : ℕ). y + get_or table j 0) is ∙ ap (λ (y : ℕ). offset sizes p tss (x * span) + y) (h j (omega (arith, row-part)) (omega arith)) ∙ sym (w.same j (omega arith))

  pub row-reaches : Valid sizes p tss → size * span ≤ prod sizes → padded sizes p tss ≤ max_count → len ≤ length table → Reaches base (take len table) (2 ^ 64)
  row-reaches v all room long j l =
      let e : length (take len table) ≡ len = length-take-le len table long in
      let g : get_or (take len table) j 0 ≡ get_or table j 0 = get_or-take len table j 0 (omega arith) in
      let o : (x + steps) * span ≤ size * span = mul-le-mul_right span w.left in
      omega (arith, g, row-entry j (omega arith), offset-below sizes p tss v (x * span + j) (omega (arith, o, add-mul x steps span)))

  pub row_more : (after : List ℕ) → Repeated base (x * span) len table after → ((k : ℕ) → k < steps * span → x * span + k < n → k < len) → HasOffsets sizes p tss ((x + steps) * span) n after
  row_more after r full k l m =
      ⊎_elim
      (λ (g : x * span ≤ k).
      let j = k - x * span in
      let e : x * span + j ≡ k = omega arith in
      let f : j < len = full j (omega (arith, add-mul x steps span)) (omega arith) in
      subst (λ (y : ℕ). get_or after y 0 ≡ offset sizes p tss y) e (r.1 j f ∙ row-entry j f))
      (λ (g : k < x * span). r.0 k g ∙ h k g m) (le-or-lt (x * span) k)

-- a dimension of the order, of which a coordinate spans so many elements
module _ (sizes p lens flat : List ℕ) (r : Ready sizes p lens flat) (i span : ℕ) (is : IsSpan sizes p i span) where
  abbrev d : ℕ
  d = get_or p i 0

  pub span-inside : d < length sizes
  unfolding Under
  span-inside = shaped-under r.shaped (length sizes) refl i is.inside

  pub span-some : 0 < span
  span-some = subst (λ (x : ℕ). 0 < x) (sym is.same) (rest-pos sizes (suc d) r.shaped.small)

  -- the elements of all its coordinates
  pub span-all : get_or sizes d 0 * span ≡ prod (drop d sizes)
  span-all = ap (λ (x : ℕ). get_or sizes d 0 * x) is.same ∙ sym (ap prod (drop-cons sizes d 0 span-inside))

  pub span-room : get_or sizes d 0 * span ≤ prod sizes
  span-room = omega (arith, span-all, prod-rest d sizes (omega (arith, span-inside)) r.shaped.small)

  -- coordinate x, of which a row reaches f
  module _ (x : ℕ) (less : x < get_or sizes d 0) where
    pub coordinate-room : x * span < prod sizes
    coordinate-room = omega (arith, mul-lt-mul_of_pos_right {k = span} less span-some, span-room)

    pub next_row : (b : ℕ) → 0 < b → b ≤ x → b ≤ get_or sizes d 0 - x → NextRow sizes p (tiles_from lens flat) (get_or sizes d 0) span x (row_room (tiles_from lens flat) (length p) i x b)
    next_row b some few left =
        let tss = tiles_from lens flat in
        let v = shaped-valid r.shaped in
        let f : Reach = record { place = i; coordinate = x; scale = 1; most = b } in
        let most : row_room tss (length p) i x b ≤ b = reached-most tss (length p) f in
        let P = prod (drop (suc d) sizes) in
        let e : x % get_or sizes d 0 ≡ x = mod-eq_of_lt less in
        record {
          some = reached-some tss (length p) f v.tiles is.inside (omega arith) some;
          few = omega arith;
          left = omega arith;
          same =
              λ j l.
              let near : j / span < row_room tss (length p) i x b = (div-lt_iff_lt-mul span-some).1 l in
              rw is.same
              (row-offset sizes p tss v r.shaped.small d i span-inside is.inside refl x b j (subst (λ (y : ℕ). x * y < prod sizes) is.same coordinate-room) (omega (arith, e))
              (subst (λ (y : ℕ). j / P < row_room tss (length p) i y b) (sym e) (subst (λ (y : ℕ). j / y < row_room tss (length p) i x b) is.same near)));
        }

    pub first_of : 0 < x → (b : ℕ) (f : Reach) → f ≡ row_reach (tiles_from lens flat) (length p) i x b → FirstOf sizes p (tiles_from lens flat) span x f
    unfolding padded
    first_of some b f e =
        let tss = tiles_from lens flat in
        let v = shaped-valid r.shaped in
        let dims = physical sizes p tss in
        let part : f.coordinate * f.scale ≤ x = reached-below sizes p tss v i x b f e in
        let place : f.place < length dims = reached-place sizes p tss v i x b f e is.inside in
        record {
          part = part;
          place = place;
          rest = mul-lt-mul_of_pos_right {k = span} (omega (arith, reached-more sizes p tss v i x b f e some)) span-some;
          after = subst Sizes (sym (rest-whole (f.place + 1) dims)) (sizes-rest (f.place + 1) dims (omega arith) (shaped-small r.shaped));
          product =
              ap (λ (l : List ℕ). min (prod l) (max_count + 1)) (rest-whole (f.place + 1) dims)
              ∙ min-eq_left (omega (arith, prod-rest (f.place + 1) dims (omega arith) (shaped-small r.shaped), r.room))
              ∙ ap (λ (n : ℕ). prod (drop n dims)) (add-one f.place);
          same = rw is.same (sym (reached-offset sizes p tss v i x b f e is.inside r.shaped.small span-inside less));
          small = omega (arith, offset-below sizes p tss v (x * span) coordinate-room, r.room);
        }

-- the base of the row is the offset of its first coordinate
pub base-is : {sizes p lens flat : List ℕ} {span x : ℕ} {f : Reach} → Ready sizes p lens flat → (dims : List ℕ) → dims ≡ physical sizes p (tiles_from lens flat) → (table : List ℕ)
    → HasOffsets sizes p (tiles_from lens flat) (x * span) (length table) table → x * span ≤ length table → FirstOf sizes p (tiles_from lens flat) span x f
    → (product : ℕ) → product ≡ min (prod (take (length dims - (f.place + 1)) (drop (f.place + 1) dims))) (max_count + 1)
    → get_or table ((x - f.coordinate * f.scale) * span) 0 + f.coordinate * product ≡ offset sizes p (tiles_from lens flat) (x * span)
base-is {sizes} {p} {lens} {flat} {span} {x} {f} r dims is table h room w product e =
    let rest = (x - f.coordinate * f.scale) * span in
    let t : get_or table rest 0 ≡ offset sizes p (tiles_from lens flat) rest = h rest w.rest (omega (arith, w.rest)) in
    let q : product ≡ prod (drop (suc f.place) (physical sizes p (tiles_from lens flat))) =
    e ∙ ap (λ (l : List ℕ). min (prod (take (length l - (f.place + 1)) (drop (f.place + 1) l))) (max_count + 1)) is ∙ w.product in
    rw (t, q) w.same

-- the next row, of as many coordinates as the table has and as are left, at most
pub next-of : {sizes p lens flat : List ℕ} {i span : ℕ} → Ready sizes p lens flat → IsSpan sizes p i span → (x most steps : ℕ) → 0 < x → x < get_or sizes (get_or p i 0) 0
    → most ≡ min x (get_or sizes (get_or p i 0) 0 - x) → steps ≡ row_room (tiles_from lens flat) (length p) i x most
    → NextRow sizes p (tiles_from lens flat) (get_or sizes (get_or p i 0) 0) span x steps
next-of {sizes} {p} {lens} {flat} {i} {span} r is x most steps some less least at =
    subst (NextRow sizes p (tiles_from lens flat) (get_or sizes (get_or p i 0) 0) span x) (sym at) (next_row sizes p lens flat r i span is x less most (omega arith) (omega arith) (omega arith))

-- the dimensions are taken from the last one on: with those from k on done, dimension k - 1 is the next
module _ (sizes p lens flat : List ℕ) (r : Ready sizes p lens flat) where
  pub before-all : (k n : ℕ) → n ≤ prod sizes → prod (drop k sizes) < n → 0 < k
  before-all k n h l = ⊎_elim (λ (e : k ≡ 0). absurd (none e)) (λ (e : 0 < k). e) (eq-zero-or-pos k)
    where
      none : k ≡ 0 → ⊥
      none e = let w : prod (drop k sizes) ≡ prod sizes = ap (λ (o : ℕ). prod (drop o sizes)) e in omega (arith, w, h, l)

  module _ (k : ℕ) (some : 0 < k) (few : k ≤ length sizes) where
    pub before-size : get_or sizes (k - 1) 0 * prod (drop k sizes) ≡ prod (drop (k - 1) sizes)
    before-size =
        let e : suc (k - 1) ≡ k = omega arith in
        ap (λ (o : ℕ). get_or sizes (k - 1) 0 * prod (drop o sizes)) (sym e) ∙ sym (ap prod (drop-cons sizes (k - 1) 0 (omega arith)))

    pub before-room : prod (drop (k - 1) sizes) ≤ prod sizes
    before-room = prod-rest (k - 1) sizes (omega arith) r.shaped.small

    pub before_at : get_or p (place (k - 1) p) 0 ≡ k - 1
    before_at = place_at (k - 1) p (r.shaped.perm.onto (k - 1) (omega (arith, r.shaped.rank)))

    pub before-span : (span : ℕ) → span ≡ prod (drop k sizes) → IsSpan sizes p (place (k - 1) p) span
    before-span span e =
        let w : suc (get_or p (place (k - 1) p) 0) ≡ k = omega (arith, before_at) in
        record { inside = r.shaped.perm.onto (k - 1) (omega (arith, r.shaped.rank)); same = e ∙ ap (λ (o : ℕ). prod (drop o sizes)) (sym w) }

-- a table that has the offset of the first element, and one that has those of the first n
pub table-first : (sizes p : List ℕ) (tss : List (List ℕ)) (n : ℕ) (table : List ℕ) → 0 < length table → HasOffsets sizes p tss 1 n (set table 0 0)
table-first sizes p tss n table h k l g =
    let e : k ≡ 0 = omega arith in
    subst (λ (o : ℕ). get_or (set table 0 0) o 0 ≡ offset sizes p tss o) (sym e) (get_or-set_same table 0 0 0 h ∙ sym (offset-first sizes p tss))

pub table-full : (sizes p : List ℕ) (tss : List (List ℕ)) (m n : ℕ) (table : List ℕ) → HasOffsets sizes p tss m n table → n ≤ m → n ≤ length table → take n table ≡ offsets_from sizes p tss n
table-full sizes p tss m n table h l g =
    let e : length (take n table) ≡ n = length-take-le n table g in
    ext_get_or 0 (take n table) (offsets_from sizes p tss n) (e ∙ sym (length-tab (offset sizes p tss) n))
    (λ k w. let a : k < n = omega arith in get_or-take n table k 0 a ∙ h k (omega arith) a ∙ sym (get_d-tab (offset sizes p tss) n k 0 a))
