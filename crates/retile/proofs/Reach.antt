-- Rows along one dimension: the coordinate of an element, the elements that its steps reach, tables of their offsets, and the row from an element on. Assumes nothing.
use mathlib.Core.Path.{◌≡◌, refl, sym, ap, ◌∙◌, subst}
use mathlib.Core.Logic.{⊎_elim}
use Prim.Native.Nat.{ℕ, zero, suc, ◌+◌, ◌-◌, ◌*◌, ◌/◌, ◌%◌, ◌<◌, ◌≤◌, min}
use native.Mathlib.Nat.{add-zero, zero-mul, mul_assoc, div-add-mod', mod-lt, mod-eq_of_lt, mul-add-div_right, mul-add-mod_self_right, div-lt_iff_lt-mul, mul-lt-mul_of_pos_right, min-eq_left, not-suc-le-zero, le_of_suc-le-suc}
use native.Mathlib.Numerals.{add-one}
use native.Mathlib.Omega.{arith}
use mathlib.Core.List.{List, [], ◌∷◌}
use lib.ListN.{length, get_or, take, drop, set, length-set}
use lib.Seq.{drop-cons, get_or-set_same, get_or-set_other}
use Rattle.radix.proofs.Lists.{le-or-lt}
use Rattle.radix.proofs.Loops.{rest-pos}
use Rattle.radix.proofs.Radix.{right-pos}
use Rattle.radix.specs.Radix.{max_count, prod, digits, Sizes, Bounded}
use Rattle.shape.proofs.Repeats.{place_at}
use Rattle.shape.specs.Dimensions.{place, Permutation}
use Rattle.tiling.proofs.Along.{row-along}
use Rattle.tiling.proofs.First.{offset-first}
use Rattle.tiling.proofs.OwnCells.{Valid}
use Rattle.tiling.proofs.Rows.{prod-split, reached-most, reached-some}
use Rattle.tiling.specs.Row.{row_room}
use Rattle.tiling.specs.Tile.{offset}
use Rattle.tiling.specs.declared.row.Reach.{Reach}
use Rattle.pack.proofs.Cuts.{rest-whole, prod-rest}
use Rattle.retile.specs.Rows.{IsDimension, HasSteps, IsAlong, IsRow}
use Rattle.retile.specs.declared.along.Along.{Along}

-- the coordinate of element n in dimension k
pub digit_at : (k : ℕ) (ds : List ℕ) (n : ℕ) → k < length ds → n < prod ds → get_or (digits ds n) k 0 ≡ n / prod (drop (suc k) ds) % get_or ds k 0
digit_at k [] n l h = absurd (not-suc-le-zero l)
digit_at zero (d ∷ ds) n l h = sym (mod-eq_of_lt ((div-lt_iff_lt-mul (right-pos d (prod ds) h)).1 h))
digit_at (suc k) (d ∷ ds) n l h =
    let Q = prod ds in
    let A = prod (take k ds) in
    let e = get_or ds k 0 in
    let P = prod (drop (suc k) ds) in
    let B = n / Q * A in
    let r = n % Q in
    let q : 0 < Q = right-pos d Q h in
    let s : A * (e * P) ≡ Q = ap (λ (x : ℕ). A * x) (sym (ap prod (drop-cons ds k 0 (le_of_suc-le-suc l)))) ∙ prod-split k ds in
    let p : 0 < P = right-pos e P (right-pos A (e * P) (subst (λ (x : ℕ). 0 < x) (sym s) q)) in
    let w : B * e * P + r ≡ n = ap (λ (x : ℕ). x + r) (mul_assoc B e P ∙ mul_assoc (n / Q) A (e * P) ∙ ap (λ (x : ℕ). n / Q * x) s) ∙ div-add-mod' n Q in
    digit_at k ds r (le_of_suc-le-suc l) (mod-lt n q)
    ∙ sym (ap (λ (x : ℕ). x / P % e) (sym w) ∙ ap (λ (x : ℕ). x % e) (mul-add-div_right p (B * e) r) ∙ mul-add-mod_self_right B e (r / P))

-- so many coordinates from the first element on is an element
pub coordinate-below : (ds : List ℕ) (k x : ℕ) → Sizes ds → k < length ds → x < get_or ds k 0 → x * prod (drop (suc k) ds) < prod ds
coordinate-below ds k x s l h =
    let e : prod (drop k ds) ≡ get_or ds k 0 * prod (drop (suc k) ds) = ap prod (drop-cons ds k 0 l) in
    omega (arith, e, mul-lt-mul_of_pos_right {k = prod (drop (suc k) ds)} h (rest-pos ds (suc k) s), prod-rest k ds (omega arith) s)

-- the product of the sizes after k is exact
pub span-exact : (ds : List ℕ) (k r : ℕ) → Sizes ds → prod ds ≤ max_count → k < length ds → r ≡ min (prod (take (length ds - (k + 1)) (drop (k + 1) ds))) (max_count + 1) → r ≡ prod (drop (suc k) ds)
span-exact ds k r s most l e =
    e ∙ ap (λ (xs : List ℕ). min (prod xs) (max_count + 1)) (rest-whole (k + 1) ds) ∙ min-eq_left (omega (arith, prod-rest (k + 1) ds (omega arith) s, most))
    ∙ ap (λ (i : ℕ). prod (drop i ds)) (add-one k)

-- a dimension by its places in two orders
pub dimension-is : (sizes p q : List ℕ) → Permutation p → length p ≡ length sizes → Permutation q → length q ≡ length sizes → (k a b span wide : ℕ) → k < length sizes → a ≡ place k p → b ≡ place k q → span ≡ prod (drop (suc k) sizes)
    → IsDimension (record { dimension = k; from = a; to = b; size = get_or sizes k 0; span = span; wide = wide }) sizes p q
dimension-is sizes p q v e w f k a b span wide l at to is =
    let g = v.onto k (omega (arith, e, l)) in
    let h = w.onto k (omega (arith, f, l)) in
    record {
      inside = l;
      from = (omega (arith, at, g), ap (λ (i : ℕ). get_or p i 0) at ∙ place_at k p g);
      to = (omega (arith, to, h), ap (λ (i : ℕ). get_or q i 0) to ∙ place_at k q h);
      size = refl;
      span = is;
    }

-- a dimension has a coordinate
pub dimension-some : (g : Along) (sizes p q : List ℕ) → IsDimension g sizes p q → Sizes sizes → 0 < g.size
unfolding Bounded
dimension-some g sizes p q d s = subst (λ (x : ℕ). 0 < x) (sym d.size) (s g.dimension d.inside).0

module _ (sizes p : List ℕ) (tss : List (List ℕ)) (span : ℕ) where
  -- no coordinate, and one more
  pub steps-none : (table : List ℕ) → HasSteps sizes p tss span 0 table
  steps-none table = record { room = omega arith; each = λ j h. absurd (not-suc-le-zero h) }

  pub steps_next : (table : List ℕ) (n x : ℕ) → HasSteps sizes p tss span n table → n < length table → x ≡ offset sizes p tss (n * span) → HasSteps sizes p tss span (n + 1) (set table n x)
  steps_next table n x w h e =
      record {
        room = omega (arith, h, length-set table n x);
        each =
            λ j l.
            ⊎_elim
            (λ (g : n ≤ j). let z : j ≡ n = omega (arith, g, l) in subst (λ (i : ℕ). get_or (set table n x) i 0 ≡ offset sizes p tss (i * span)) (sym z) (get_or-set_same table n x 0 h ∙ e))
            (λ (g : j < n). get_or-set_other table n j x 0 (λ z. omega (arith, g, z)) ∙ w.each j g) (le-or-lt n j);
      }

  -- the first coordinate alone
  pub steps_first : (table : List ℕ) → 0 < length table → HasSteps sizes p tss span 1 (set table 0 0)
  steps_first table h = steps_next table 0 0 (steps-none table) h (sym (ap (offset sizes p tss) (zero-mul span) ∙ offset-first sizes p tss))

  -- fewer coordinates
  pub steps-fewer : (table : List ℕ) (n m : ℕ) → m ≤ n → HasSteps sizes p tss span n table → HasSteps sizes p tss span m table
  steps-fewer table n m h w = record { room = omega (arith, h, w.room); each = λ j l. w.each j (omega (arith, h, l)) }

  -- the first coordinate of a row
  row_first : (n j : ℕ) → j < 1 → offset sizes p tss (n + j * span) ≡ offset sizes p tss n + offset sizes p tss (j * span)
  row_first n zero l =
      ap (λ (x : ℕ). offset sizes p tss (n + x)) (zero-mul span) ∙ ap (offset sizes p tss) (add-zero n)
      ∙ sym (ap (λ (x : ℕ). offset sizes p tss n + x) (ap (offset sizes p tss) (zero-mul span) ∙ offset-first sizes p tss) ∙ add-zero (offset sizes p tss n))
  row_first n (suc j) l = absurd (not-suc-le-zero (le_of_suc-le-suc l))

-- along the dimension at place i of one order
module _ (sizes p : List ℕ) (tss : List (List ℕ)) (v : Valid sizes p tss) (n i : ℕ) (inside : n < prod sizes) (h : i < length p) where
  abbrev S : ℕ
  S = get_or sizes (get_or p i 0) 0

  abbrev P : ℕ
  P = prod (drop (suc (get_or p i 0)) sizes)

  side-there : (b j : ℕ) → b ≤ S - n / P % S → j < row_room tss (length p) i (n / P % S) b → (n + j * P < prod sizes) × (offset sizes p tss (n + j * P) ≡ offset sizes p tss n + offset sizes p tss (j * P))
  side-there b j few near =
      let l : get_or p i 0 < length sizes = omega (arith, v.perm.inside i h, v.rank) in
      let e = digit_at (get_or p i 0) sizes n l inside in
      row-along sizes p tss v n i inside h b j (subst (λ (x : ℕ). b ≤ S - x) (sym e) few) (subst (λ (x : ℕ). j < row_room tss (length p) i x b) (sym e) near)

  side : (span size b j : ℕ) → span ≡ P → size ≡ S → b ≤ size - n / span % size → j < row_room tss (length p) i (n / span % size) b → (n + j * span < prod sizes) × (offset sizes p tss (n + j * span) ≡ offset sizes p tss n + offset sizes p tss (j * span))
  side span size b j e f few near =
      subst (λ (x : ℕ). (n + j * x < prod sizes) × (offset sizes p tss (n + j * x) ≡ offset sizes p tss n + offset sizes p tss (j * x))) (sym e)
      (side-there b j (subst (λ (x : ℕ). b ≤ x - n / P % x) f (subst (λ (x : ℕ). b ≤ size - n / x % size) e few))
      (subst (λ (x : ℕ). j < row_room tss (length p) i (n / P % x) b) f (subst (λ (x : ℕ). j < row_room tss (length p) i (n / x % size) b) e near)))

-- a row has its first coordinate
pub room-some : (sizes p : List ℕ) (tss : List (List ℕ)) → Valid sizes p tss → (i c b : ℕ) → i < length p → 0 < b → 0 < row_room tss (length p) i c b
room-some sizes p tss v i c b l h = reached-some tss (length p) (record { place = i; coordinate = c; scale = 1; most = b }) v.tiles l (omega arith) h

module _ (sizes p : List ℕ) (tss : List (List ℕ)) (q : List ℕ) (uss : List (List ℕ)) where
  -- a row of one coordinate
  pub row-single : (span wide n : ℕ) → 0 < wide → n < prod sizes → IsRow sizes p tss q uss span wide n 1
  row-single span wide n some inside =
      record {
        some = omega arith;
        narrow = some;
        inside = λ j l. let z : j ≡ 0 = omega arith in subst (λ (x : ℕ). n + x * span < prod sizes) (sym z) (omega (arith, inside, zero-mul span));
        from = row_first sizes p tss span n;
        to = row_first sizes q uss span n;
      }

  -- a row of as many coordinates as both sides reach, with what is left of the dimension
  pub row_in : Valid sizes p tss → Valid sizes q uss → (g : Along) → IsDimension g sizes p q → (n b r : ℕ) → n < prod sizes → b ≤ g.wide → b ≤ g.size - n / g.span % g.size → 0 < r
      → r ≤ row_room tss (length p) g.from (n / g.span % g.size) b → r ≤ row_room uss (length q) g.to (n / g.span % g.size) b → IsRow sizes p tss q uss g.span g.wide n r
  row_in v w g d n b r inside wide left some near far =
      let c = n / g.span % g.size in
      let start : Reach = record { place = g.from; coordinate = c; scale = 1; most = b } in
      let most : row_room tss (length p) g.from c b ≤ b = reached-most tss (length p) start in
      let at = d.from.1 in
      let to = d.to.1 in
      let from : (j : ℕ) → j < r → (n + j * g.span < prod sizes) × (offset sizes p tss (n + j * g.span) ≡ offset sizes p tss n + offset sizes p tss (j * g.span)) =
      λ j l. side sizes p tss v n g.from inside d.from.0 g.span g.size b j (d.span ∙ ap (λ (k : ℕ). prod (drop (suc k) sizes)) (sym at)) (d.size ∙ ap (λ (k : ℕ). get_or sizes k 0) (sym at)) left (omega (arith, l, near)) in
      record {
        some = some;
        narrow = omega (arith, near, most, wide);
        inside = λ j l. (from j l).0;
        from = λ j l. (from j l).1;
        to =
            λ j l.
            (side sizes q uss w n g.to inside d.to.0 g.span g.size b j (d.span ∙ ap (λ (k : ℕ). prod (drop (suc k) sizes)) (sym to)) (d.size ∙ ap (λ (k : ℕ). get_or sizes k 0) (sym to)) left (omega (arith, l, far))).1;
      }

-- rows along a dimension, by the tables of both sides
pub along-is : (g : Along) (sizes p : List ℕ) (tss : List (List ℕ)) (q : List ℕ) (uss : List (List ℕ)) (ptable qtable : List ℕ) (a b : ℕ) → IsDimension g sizes p q → 0 < g.wide → g.wide ≤ a → g.wide ≤ b
    → HasSteps sizes p tss (prod (drop (suc g.dimension) sizes)) a ptable → HasSteps sizes q uss (prod (drop (suc g.dimension) sizes)) b qtable → IsAlong g sizes p tss q uss ptable qtable
along-is g sizes p tss q uss ptable qtable a b d some near far v w =
    record {
      some = some;
      psteps = subst (λ (x : ℕ). HasSteps sizes p tss x g.wide ptable) (sym d.span) (steps-fewer sizes p tss (prod (drop (suc g.dimension) sizes)) ptable a g.wide near v);
      qsteps = subst (λ (x : ℕ). HasSteps sizes q uss x g.wide qtable) (sym d.span) (steps-fewer sizes q uss (prod (drop (suc g.dimension) sizes)) qtable b g.wide far w);
      more = λ _. d;
    }

-- and of single cells
pub along-single : (sizes p : List ℕ) (tss : List (List ℕ)) (q : List ℕ) (uss : List (List ℕ)) (ptable qtable : List ℕ) → 0 < length ptable → 0 < length qtable
    → IsAlong (record { dimension = 0; from = 0; to = 0; size = 1; span = 1; wide = 1 }) sizes p tss q uss (set ptable 0 0) (set qtable 0 0)
along-single sizes p tss q uss ptable qtable v w =
    record { some = omega arith; psteps = steps_first sizes p tss 1 ptable v; qsteps = steps_first sizes q uss 1 qtable w; more = λ h. absurd (omega arith) }
