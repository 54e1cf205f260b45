-- What the walks along a table of offsets keep: the first elements are stored, or loaded. Assumes nothing.
use mathlib.Core.Path.{◌≡◌, refl, sym, ap, ◌∙◌, subst}
use mathlib.Core.Bool.{Bool, true, false, cond}
use mathlib.Core.Logic.{⊎_elim}
use Prim.Native.Nat.{ℕ, suc, ◌+◌, ◌<◌, ◌≤◌}
use native.Mathlib.Nat.{eq-or-lt_of_le}
use native.Mathlib.Omega.{arith}
use mathlib.Core.List.{List, [], ◌∷◌}
use lib.Dec.{ltb, eqb}
use lib.ListN.{length, get_or, set, drop, length-set}
use lib.Seq.{get_or-set_same, get_or-set_other}
use borrow.Author.Tests.{lt-ltb, le-ltb, ltb-true, ltb-false, eqb-true, eqb-false}
use Rattle.radix.specs.Radix.{prod}
use Rattle.radix.proofs.Lists.{rest-of}
use Rattle.radix.proofs.Radix.{length-tab, get_d-tab}
use Rattle.tiling.specs.Tile.{offset, padded}
use Rattle.tiling.specs.Cell.{cell, Cell, holds, padding}
use Rattle.tiling.proofs.OwnCells.{Valid, offset-below, cell-offset, cell_holds}
use Rattle.pack.specs.Rows.{put, put_at, Stored, Loaded, HasRoom, Carried, CarriedTo, walked, scattered, gathered, carried, Reaches, RowRoom, offsets_from}

-- one place of the table more
pub walk-next : (step : ℕ → ℕ → List ℕ → List ℕ) (base : ℕ) (table : List ℕ) (a j : ℕ) (xs : List ℕ) → j < length table
    → walked step base (drop (j + 1) table) (a + (j + 1)) (step (base + get_or table j 0) (a + j) xs) ≡ walked step base (drop j table) (a + j) xs
walk-next step base table a j xs h = let e : a + (j + 1) ≡ suc (a + j) = omega arith in rw (rest-of table j h, e)

-- what each step carries one element further, a walk carries along the table
pub walk-all : (P : ℕ → List ℕ → Type 0) (step : ℕ → ℕ → List ℕ → List ℕ) (base : ℕ) (table : List ℕ) (a : ℕ) (xs : List ℕ)
    → ((j : ℕ) → j < length table → (ys : List ℕ) → P (a + j) ys → P (a + j + 1) (step (base + get_or table j 0) (a + j) ys)) → P a xs → P (a + length table) (walked step base table a xs)
walk-all P step base [] a xs f p = let e : a ≡ a + 0 = omega arith in subst (λ (n : ℕ). P n xs) e p
walk-all P step base (t ∷ table) a xs f p =
    let z : a + 0 ≡ a = omega arith in
    let s : a + 1 ≡ suc a = omega arith in
    let e : suc a + length table ≡ a + suc (length table) = omega arith in
    let one : P (suc a) (step (base + t) a xs) =
    subst (λ (n : ℕ). P n (step (base + t) a xs)) s (subst (λ (n : ℕ). P (n + 1) (step (base + t) n xs)) z (f 0 (omega arith) xs (subst (λ (n : ℕ). P n xs) (sym z) p))) in
    subst (λ (n : ℕ). P n (walked step base table (suc a) (step (base + t) a xs))) e
    (walk-all P step base table (suc a) (step (base + t) a xs)
    (λ j h ys q. let w : a + suc j ≡ suc a + j = omega arith in
    subst (λ (n : ℕ). P (n + 1) (step (base + get_or table j 0) n ys)) w (f (suc j) (omega arith) ys (subst (λ (n : ℕ). P n ys) (sym w) q)))
    one)

both : (b : Bool) (v : ℕ) → v ≡ cond b v v
both true v = refl
both false v = refl

put-none : (source : List ℕ) (c : Cell) (v : ℕ) → v ≡ put source 0 c v
put-none source (holds e) v = rw (le-ltb e 0 (omega arith))
put-none source padding v = refl

-- a cell of another element does not change
put-more : (source : List ℕ) (n : ℕ) (c : Cell) (v : ℕ) → (c ≡ holds n → ⊥) → put source n c v ≡ put source (n + 1) c v
put-more source n padding v h = refl
put-more source n (holds e) v h = go (ltb e n) refl
  where
    go : (b : Bool) → ltb e n ≡ b → cond (ltb e n) (get_or source e 0) v ≡ cond (ltb e (n + 1)) (get_or source e 0) v
    go true t = rw (t, lt-ltb e (n + 1) (omega (arith, ltb-true e n t)))
    go false t =
        let l : n + 1 ≤ e = ⊎_elim (λ (q : n ≡ e). absurd (h (ap holds (sym q)))) (λ q. omega (arith, q)) (eq-or-lt_of_le (ltb-false e n t)) in
        rw (t, le-ltb e (n + 1) l)

-- a table of the first n offsets has n entries, counted from 0
pub offsets-long : (sizes p : List ℕ) (tss : List (List ℕ)) (n : ℕ) → length (offsets_from sizes p tss n) ≡ n
offsets-long sizes p tss n = length-tab (offset sizes p tss) n

offsets-at : (sizes p : List ℕ) (tss : List (List ℕ)) (n j : ℕ) → j < length (offsets_from sizes p tss n) → 0 + get_or (offsets_from sizes p tss n) j 0 ≡ offset sizes p tss (0 + j)
offsets-at sizes p tss n j h =
    let l : j < n = omega (arith, offsets-long sizes p tss n) in
    let z : 0 + j ≡ j = omega arith in
    let e = get_d-tab (offset sizes p tss) n j 0 l in
    ap (λ (x : ℕ). 0 + x) (e ∙ ap (offset sizes p tss) (sym z)) ∙ none (offset sizes p tss (0 + j))
  where
    none : (x : ℕ) → 0 + x ≡ x
    none x = omega arith

-- and its cells are below the padded size
pub offsets-reach : (sizes p : List ℕ) (tss : List (List ℕ)) → Valid sizes p tss → (n m : ℕ) → n ≤ prod sizes → padded sizes p tss ≤ m → Reaches 0 (offsets_from sizes p tss n) m
offsets-reach sizes p tss v n m h room j l =
    omega (arith, offsets-at sizes p tss n j l, offset-below sizes p tss v (0 + j) (omega (arith, offsets-long sizes p tss n)))

module _ (sizes p : List ℕ) (tss : List (List ℕ)) (source before : List ℕ) where
  pub store-none : Stored sizes p tss source 0 before before
  unfolding put_at
  store-none k = both (ltb k (padded sizes p tss)) (get_or before k 0) ∙ ap (λ (x : ℕ). cond (ltb k (padded sizes p tss)) x (get_or before k 0)) (put-none source (cell sizes p tss k) (get_or before k 0))

  -- element n is stored
  store-next : Valid sizes p tss → (n : ℕ) → n < prod sizes → (cells : List ℕ) → offset sizes p tss n < length cells → Stored sizes p tss source n before cells
      → Stored sizes p tss source (n + 1) before (set cells (offset sizes p tss n) (get_or source n 0))
  unfolding put_at
  store-next v n h cells inside s k = go (eqb k o) refl
    where
      o : ℕ
      o = offset sizes p tss n

      x : ℕ
      x = get_or source n 0

      go : (b : Bool) → eqb k o ≡ b → get_or (set cells o x) k 0 ≡ cond (ltb k (padded sizes p tss)) (put source (n + 1) (cell sizes p tss k) (get_or before k 0)) (get_or before k 0)
      go true t =
          subst (λ (j : ℕ). get_or (set cells o x) j 0 ≡ cond (ltb j (padded sizes p tss)) (put source (n + 1) (cell sizes p tss j) (get_or before j 0)) (get_or before j 0)) (sym (eqb-true k o t))
          (rw (lt-ltb o (padded sizes p tss) (offset-below sizes p tss v n h), cell-offset sizes p tss v n h, lt-ltb n (n + 1) (omega arith)) (get_or-set_same cells o x 0 inside))
      go false t =
          get_or-set_other cells o k x 0 (eqb-false k o t) ∙ s k
          ∙ ap (λ (y : ℕ). cond (ltb k (padded sizes p tss)) y (get_or before k 0))
          (put-more source n (cell sizes p tss k) (get_or before k 0) (λ q. eqb-false k o t (sym (cell_holds sizes p tss k n q).1)))

  -- a row is stored
  pub store-row : Valid sizes p tss → (base : ℕ) (table : List ℕ) (a : ℕ) (cells : List ℕ) → a + length table ≤ prod sizes → padded sizes p tss ≤ length before
      → ((j : ℕ) → j < length table → base + get_or table j 0 ≡ offset sizes p tss (a + j))
      → (length cells ≡ length before) × Stored sizes p tss source a before cells
      → (length (scattered source base table a cells) ≡ length before) × Stored sizes p tss source (a + length table) before (scattered source base table a cells)
  store-row v base table a cells h room same =
      walk-all (λ (n : ℕ) (ys : List ℕ). (length ys ≡ length before) × Stored sizes p tss source n before ys) (λ (o a : ℕ) (xs : List ℕ). set xs o (get_or source a 0)) base table a cells
      (λ j l ys q.
      let n : a + j < prod sizes = omega arith in
      let o : offset sizes p tss (a + j) < length ys = omega (arith, offset-below sizes p tss v (a + j) n, q.0) in (
        length-set ys (base + get_or table j 0) (get_or source (a + j) 0) ∙ q.0,
        subst (λ (x : ℕ). Stored sizes p tss source (a + j + 1) before (set ys x (get_or source (a + j) 0))) (sym (same j l)) (store-next v (a + j) n ys o q.1),
      ))

  -- all elements are stored along a table of all offsets
  pub store-all : Valid sizes p tss → padded sizes p tss ≤ length before → Stored sizes p tss source (prod sizes) before (scattered source 0 (offsets_from sizes p tss (prod sizes)) 0 before)
  store-all v room =
      let n = prod sizes in
      let table = offsets_from sizes p tss n in
      let e : 0 + length table ≡ n = omega (arith, offsets-long sizes p tss n) in
      subst (λ (x : ℕ). Stored sizes p tss source x before (scattered source 0 table 0 before)) e
      (store-row v 0 table 0 before (omega arith) room (offsets-at sizes p tss n) (refl, store-none)).1

  -- the only element is stored into cell 0
  pub store-one : Valid sizes p tss → padded sizes p tss ≤ length before → prod sizes ≡ 1 → offset sizes p tss 0 ≡ 0 → Stored sizes p tss source (prod sizes) before (set before 0 (get_or source 0 0))
  store-one v room one first =
      let h : 0 < prod sizes = omega arith in
      let e : 0 + 1 ≡ prod sizes = omega arith in
      subst (λ (o : ℕ). Stored sizes p tss source (prod sizes) before (set before o (get_or source 0 0))) first
      (subst (λ (n : ℕ). Stored sizes p tss source n before (set before (offset sizes p tss 0) (get_or source 0 0))) e (store-next v 0 h before (omega (arith, offset-below sizes p tss v 0 h)) store-none))

-- loading, the same
module _ (sizes p : List ℕ) (tss : List (List ℕ)) (cells before : List ℕ) where
  pub load-none : Loaded sizes p tss cells 0 before before
  load-none k = sym (ap (λ (b : Bool). cond b (get_or cells (offset sizes p tss k) 0) (get_or before k 0)) (le-ltb k 0 (omega arith)))

  load-next : (n : ℕ) (after : List ℕ) → n < length after → Loaded sizes p tss cells n before after → Loaded sizes p tss cells (n + 1) before (set after n (get_or cells (offset sizes p tss n) 0))
  load-next n after h s k = go (eqb k n) refl
    where
      v : ℕ
      v = get_or cells (offset sizes p tss n) 0

      at : ℕ → ℕ
      at k = get_or cells (offset sizes p tss k) 0

      same : (b : Bool) → ltb k n ≡ b → (k ≡ n → ⊥) → cond (ltb k n) (get_or cells (offset sizes p tss k) 0) (get_or before k 0) ≡ cond (ltb k (n + 1)) (get_or cells (offset sizes p tss k) 0) (get_or before k 0)
      same true t q = rw (t, lt-ltb k (n + 1) (omega (arith, ltb-true k n t)))
      same false t q = let l : n + 1 ≤ k = ⊎_elim (λ (w : n ≡ k). absurd (q (sym w))) (λ w. omega (arith, w)) (eq-or-lt_of_le (ltb-false k n t)) in rw (t, le-ltb k (n + 1) l)

      go : (b : Bool) → eqb k n ≡ b → get_or (set after n v) k 0 ≡ cond (ltb k (n + 1)) (get_or cells (offset sizes p tss k) 0) (get_or before k 0)
      go true t =
          subst (λ (j : ℕ). get_or (set after n v) j 0 ≡ cond (ltb j (n + 1)) (get_or cells (offset sizes p tss j) 0) (get_or before j 0)) (sym (eqb-true k n t))
          (rw (lt-ltb n (n + 1) (omega arith)) (get_or-set_same after n v 0 h))
      go false t = get_or-set_other after n k v 0 (eqb-false k n t) ∙ s k ∙ same (ltb k n) refl (eqb-false k n t)

  pub load_row : (base : ℕ) (table : List ℕ) (a : ℕ) (after : List ℕ) → a + length table ≤ length before
      → ((j : ℕ) → j < length table → base + get_or table j 0 ≡ offset sizes p tss (a + j))
      → (length after ≡ length before) × Loaded sizes p tss cells a before after
      → (length (gathered cells base table a after) ≡ length before) × Loaded sizes p tss cells (a + length table) before (gathered cells base table a after)
  load_row base table a after h same =
      walk-all (λ (n : ℕ) (ys : List ℕ). (length ys ≡ length before) × Loaded sizes p tss cells n before ys) (λ (o a : ℕ) (xs : List ℕ). set xs a (get_or cells o 0)) base table a after
      (λ j l ys q. (
        length-set ys (a + j) (get_or cells (base + get_or table j 0) 0) ∙ q.0,
        subst (λ (x : ℕ). Loaded sizes p tss cells (a + j + 1) before (set ys (a + j) (get_or cells x 0))) (sym (same j l)) (load-next (a + j) ys (omega (arith, q.0)) q.1),
      ))

  pub load-all : prod sizes ≤ length before → Loaded sizes p tss cells (prod sizes) before (gathered cells 0 (offsets_from sizes p tss (prod sizes)) 0 before)
  load-all room =
      let n = prod sizes in
      let table = offsets_from sizes p tss n in
      let e : 0 + length table ≡ n = omega (arith, offsets-long sizes p tss n) in
      subst (λ (x : ℕ). Loaded sizes p tss cells x before (gathered cells 0 table 0 before)) e
      (load_row 0 table 0 before (omega arith) (offsets-at sizes p tss n) (refl, load-none)).1

  pub load_one : prod sizes ≤ length before → prod sizes ≡ 1 → offset sizes p tss 0 ≡ 0 → Loaded sizes p tss cells (prod sizes) before (set before 0 (get_or cells 0 0))
  load_one room one first =
      let e : 0 + 1 ≡ prod sizes = omega arith in
      subst (λ (o : ℕ). Loaded sizes p tss cells (prod sizes) before (set before 0 (get_or cells o 0))) first
      (subst (λ (n : ℕ). Loaded sizes p tss cells n before (set before 0 (get_or cells (offset sizes p tss 0) 0))) e (load-next 0 before (omega arith) load-none))

-- both at once: none of the elements is carried yet, the only one, or all of them along a table of all offsets
pub carried-none : (packs : Bool) (sizes p : List ℕ) (tss : List (List ℕ)) (from to : List ℕ) → CarriedTo packs sizes p tss from 0 to to
carried-none true sizes p tss from to = store-none sizes p tss from to
carried-none false sizes p tss from to = load-none sizes p tss from to

pub carried-one : (packs : Bool) (sizes p : List ℕ) (tss : List (List ℕ)) (from to : List ℕ) → Valid sizes p tss → HasRoom packs sizes p tss from to → prod sizes ≡ 1 → offset sizes p tss 0 ≡ 0
    → Carried packs sizes p tss from to (set to 0 (get_or from 0 0))
carried-one true sizes p tss from to v h one first = store-one sizes p tss from to v h.1 one first
carried-one false sizes p tss from to v h one first = load_one sizes p tss from to h.0 one first

pub one-room : (packs : Bool) (sizes p : List ℕ) (tss : List (List ℕ)) (from to : List ℕ) → Valid sizes p tss → HasRoom packs sizes p tss from to → prod sizes ≡ 1 → (0 < length from) × (0 < length to)
one-room true sizes p tss from to v h one = omega (arith, offset-below sizes p tss v 0 (omega arith), h.0, h.1)
one-room false sizes p tss from to v h one = omega (arith, offset-below sizes p tss v 0 (omega arith), h.0, h.1)

pub carried-all : (packs : Bool) (sizes p : List ℕ) (tss : List (List ℕ)) (from to : List ℕ) → Valid sizes p tss → HasRoom packs sizes p tss from to
    → Carried packs sizes p tss from to (carried packs from 0 (offsets_from sizes p tss (prod sizes)) 0 to)
carried-all true sizes p tss from to v h = store-all sizes p tss from to v h.1
carried-all false sizes p tss from to v h = load-all sizes p tss from to h.0

pub all-room : (packs : Bool) (sizes p : List ℕ) (tss : List (List ℕ)) (from to : List ℕ) → Valid sizes p tss → HasRoom packs sizes p tss from to → RowRoom packs from 0 (offsets_from sizes p tss (prod sizes)) 0 to
all-room true sizes p tss from to v h = (omega (arith, offsets-long sizes p tss (prod sizes), h.0), offsets-reach sizes p tss v (prod sizes) (length to) (omega arith) h.1)
all-room false sizes p tss from to v h = (omega (arith, offsets-long sizes p tss (prod sizes), h.0), offsets-reach sizes p tss v (prod sizes) (length from) (omega arith) h.1)
