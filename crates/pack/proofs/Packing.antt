-- Packing and unpacking as a whole, from what the walks over rows leave. Assumes nothing.
use mathlib.Core.Path.{◌≡◌, refl, sym, ap, ◌∙◌}
use mathlib.Core.Bool.{Bool, true, false, cond}
use Prim.Native.Nat.{ℕ, ◌+◌, ◌-◌, ◌<◌, ◌≤◌}
use native.Mathlib.Omega.{arith}
use mathlib.Core.List.{List, ◌++◌}
use Rattle.radix.specs.Radix.{prod, tab}
use Rattle.radix.proofs.Radix.{is-tab, get_d-tab, length-tab}
use Rattle.radix.proofs.Lists.{past}
use Rattle.radix.proofs.Pigeonhole.{none-left-out}
use Rattle.tiling.specs.Tile.{offset, padded}
use Rattle.tiling.specs.Cell.{cell, Cell, holds, padding}
use Rattle.tiling.proofs.OwnCells.{Valid, offset-below, offset-injective, cell-offset, cell_holds}
use Rattle.pack.specs.Pack.{value_of, packed, unpacked}
use Rattle.pack.specs.Rows.{put, put_at, Stored, Loaded, start_of}
use lib.Dec.{ltb}
use lib.ListN.{length, get_or, drop, replicate, length-append, length-drop, length-replicate, get_or-replicate, get_or-append}
use lib.Seq.{get_or-drop, ext_get_or}
use borrow.Author.Tests.{lt-ltb, ltb-true, ltb-false}

-- the first m places cleared
cleared_at : (m : ℕ) (cells : List ℕ) (k : ℕ) → get_or (replicate m 0 ++ drop m cells) k 0 ≡ cond (ltb k m) 0 (get_or cells k 0)
cleared_at m cells k = go (ltb k m) refl
  where
    l : length (replicate {A = ℕ} m 0) ≡ m
    l = length-replicate {A = ℕ} m 0

    back : m ≤ k → m + (k - length (replicate {A = ℕ} m 0)) ≡ k
    back q = omega (arith, l)

    go : (b : Bool) → ltb k m ≡ b → get_or (replicate m 0 ++ drop m cells) k 0 ≡ cond b 0 (get_or cells k 0)
    go true t = get_or-append (replicate m 0) (drop m cells) 0 k (omega (arith, l, ltb-true k m t)) ∙ get_or-replicate m k 0 0 (ltb-true k m t)
    go false t =
        past (replicate m 0) (drop m cells) k (omega (arith, l, ltb-false k m t)) ∙ get_or-drop m cells (k - length (replicate m 0)) 0
        ∙ ap (λ (j : ℕ). get_or cells j 0) (back (ltb-false k m t))

-- past the first size cells nothing is cleared
start-past : (count size : ℕ) (cells : List ℕ) (k : ℕ) → ltb k size ≡ false → get_or (start_of count size cells) k 0 ≡ get_or cells k 0
start-past count size cells k e = go (ltb count size)
  where
    go : (b : Bool) → get_or (cond b (replicate size 0 ++ drop size cells) cells) k 0 ≡ get_or cells k 0
    go true = cleared_at size cells k ∙ ap (λ (b : Bool). cond b 0 (get_or cells k 0)) e
    go false = refl

module _ (sizes p : List ℕ) (tss : List (List ℕ)) (v : Valid sizes p tss) where
  -- where there are as many elements as cells, no cell is padding
  none-padding : padded sizes p tss ≤ prod sizes → (k : ℕ) → k < padded sizes p tss → cell sizes p tss k ≡ padding → ⊥
  none-padding h k l e =
      none-left-out (padded sizes p tss) (offset sizes p tss) k l (λ n g. offset-below sizes p tss v n (omega arith))
      (λ i j a b q. let w : i ≡ j = offset-injective sizes p tss v i j (omega arith) (omega arith) q in omega arith)
      (λ n g q. let c : holds n ≡ padding = sym (cell-offset sizes p tss v n (omega arith)) ∙ ap (cell sizes p tss) q ∙ e in let z : ◌≡◌ {A = ℕ} 0 1 = cc in omega arith)

  -- padding starts from 0
  start-padding : (cells : List ℕ) (k : ℕ) → ltb k (padded sizes p tss) ≡ true → cell sizes p tss k ≡ padding → get_or (start_of (prod sizes) (padded sizes p tss) cells) k 0 ≡ 0
  start-padding cells k t e = go (ltb (prod sizes) (padded sizes p tss)) refl
    where
      m : ℕ
      m = padded sizes p tss

      go : (b : Bool) → ltb (prod sizes) m ≡ b → get_or (cond b (replicate m 0 ++ drop m cells) cells) k 0 ≡ 0
      go true _ = cleared_at m cells k ∙ ap (λ (b : Bool). cond b 0 (get_or cells k 0)) t
      go false q = absurd (none-padding (ltb-false (prod sizes) m q) k (ltb-true k m t) e)

  -- every element stored: packed
  pub pack-whole : (source cells out : List ℕ) → length out ≡ length cells → Stored sizes p tss source (prod sizes) (start_of (prod sizes) (padded sizes p tss) cells) out → out ≡ packed sizes p tss source cells
  unfolding put_at packed
  pack-whole source cells out l s = is-tab (λ (k : ℕ). cond (ltb k (padded sizes p tss)) (value_of source (cell sizes p tss k)) (get_or cells k 0)) out (length cells) l (λ k _. s k ∙ at k (ltb k (padded sizes p tss)) refl)
    where
      first : List ℕ
      first = start_of (prod sizes) (padded sizes p tss) cells

      value : (k : ℕ) → ltb k (padded sizes p tss) ≡ true → (c : Cell) → cell sizes p tss k ≡ c → put source (prod sizes) c (get_or first k 0) ≡ value_of source c
      value k t (holds n) e = rw (lt-ltb n (prod sizes) (cell_holds sizes p tss k n e).0)
      value k t padding e = start-padding cells k t e

      at : (k : ℕ) (b : Bool) → ltb k (padded sizes p tss) ≡ b → cond b (put source (prod sizes) (cell sizes p tss k) (get_or first k 0)) (get_or first k 0) ≡ cond b (value_of source (cell sizes p tss k)) (get_or cells k 0)
      at k true t = value k t (cell sizes p tss k) refl
      at k false t = start-past (prod sizes) (padded sizes p tss) cells k t

-- every element loaded: unpacked
pub unpack-whole : (sizes p : List ℕ) (tss : List (List ℕ)) (cells before out : List ℕ) → length out ≡ length before → prod sizes ≤ length before → Loaded sizes p tss cells (prod sizes) before out
    → out ≡ unpacked sizes p tss cells before
unfolding unpacked
unpack-whole sizes p tss cells before out l h s = ext_get_or 0 out (tab f m ++ drop m before) (l ∙ sym long) (λ n _. s n ∙ go n (ltb n m) refl)
  where
    f : ℕ → ℕ
    f = λ (n : ℕ). get_or cells (offset sizes p tss n) 0

    m : ℕ
    m = prod sizes

    long : length (tab f m ++ drop m before) ≡ length before
    long = let a = length-tab f m in let b = length-drop m before in length-append (tab f m) (drop m before) ∙ omega arith

    go : (n : ℕ) (b : Bool) → ltb n m ≡ b → cond b (f n) (get_or before n 0) ≡ get_or (tab f m ++ drop m before) n 0
    go n true t = let a = ltb-true n m t in sym (get_or-append (tab f m) (drop m before) 0 n (omega (arith, length-tab f m)) ∙ get_d-tab f m n 0 a)
    go n false t =
        let a = ltb-false n m t in
        let c = length-tab f m in
        let e : m + (n - length (tab f m)) ≡ n = omega arith in
        sym (past (tab f m) (drop m before) n (omega arith) ∙ get_or-drop m before (n - length (tab f m)) 0 ∙ ap (λ (j : ℕ). get_or before j 0) e)
