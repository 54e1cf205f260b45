-- What the steps of a settling keep: after k steps the memory is what the first k stores leave. Assumes nothing.
use mathlib.Core.Path.{◌≡◌, refl, sym, ap, ◌∙◌}
use Prim.Native.Nat.{ℕ, zero, suc, ◌+◌, ◌*◌, ◌<◌, ◌≤◌}
use native.Mathlib.Omega.{arith}
use native.Mathlib.Nat.{le_of_suc-le-suc, not-suc-le-zero}
use mathlib.Core.List.{List, [], ◌∷◌, ◌++◌}
use lib.ListN.{length, take, length-set}
use Rattle.retile.specs.Stores.{Store, cell, mark, Memory, apply, apply_all, stores}
use Rattle.retile.specs.Steps.{next_store, turned}
use Rattle.retile.specs.declared.stores.Phase.{Phase}
use Rattle.retile.specs.declared.stores.Phase.TheVariants.{Cell, Mark}

pub apply-append : (xs ys : List Store) (M : Memory) → apply_all (xs ++ ys) M ≡ apply_all ys (apply_all xs M)
apply-append [] ys M = refl
apply-append (x ∷ xs) ys M = apply-append xs ys (apply x M)

-- no store changes the number of cells
apply-length : (x : Store) (M : Memory) → length (apply x M).cells ≡ length M.cells
apply-length (cell o v) M = length-set M.cells o v
apply-length (mark m) M = refl

pub all-length : (xs : List Store) (M : Memory) → length (apply_all xs M).cells ≡ length M.cells
all-length [] M = refl
all-length (x ∷ xs) M = all-length xs (apply x M) ∙ apply-length x M

-- the memory once cell m is stored and the mark has moved past it
abbrev pub passed : (ℕ → ℕ) → Memory → ℕ → Memory
passed f M m = apply (mark (m + 1)) (apply (cell m (f m)) M)

-- two stores to a cell
abbrev twice : ℕ → ℕ
twice zero = zero
twice (suc n) = suc (suc (twice n))

twice-is : (n : ℕ) → twice n ≡ 2 * n
twice-is zero = refl
twice-is (suc n) = omega (arith, twice-is n)

module _ (f : ℕ → ℕ) where
  store-count : (m n : ℕ) → length (stores f m n) ≡ twice n
  store-count m zero = refl
  store-count m (suc n) = ap (λ (k : ℕ). suc (suc k)) (store-count (m + 1) n)

  pub stores-length : (m n : ℕ) → length (stores f m n) ≡ 2 * n
  stores-length m n = store-count m n ∙ twice-is n

  -- after h cells the next store is that of cell m + h, and then that of the mark past it
  cell-next : (h n m : ℕ) (M : Memory) → h < n
      → apply_all (take (suc (twice h)) (stores f m n)) M ≡ apply (cell (m + h) (f (m + h))) (apply_all (take (twice h) (stores f m n)) M)
  cell-next h zero m M l = absurd (not-suc-le-zero l)
  cell-next zero (suc n) m M l = let z : m ≡ m + 0 = omega arith in ap (λ (o : ℕ). apply (cell o (f o)) M) z
  cell-next (suc h) (suc n) m M l =
      let z : m + 1 + h ≡ m + suc h = omega arith in
      cell-next h n (m + 1) (passed f M m) (le_of_suc-le-suc l)
      ∙ ap (λ (o : ℕ). apply (cell o (f o)) (apply_all (take (twice h) (stores f (m + 1) n)) (passed f M m))) z

  mark-next : (h n m : ℕ) (M : Memory) → h < n
      → apply_all (take (suc (suc (twice h))) (stores f m n)) M ≡ apply (mark (m + h + 1)) (apply_all (take (suc (twice h)) (stores f m n)) M)
  mark-next h zero m M l = absurd (not-suc-le-zero l)
  mark-next zero (suc n) m M l = let z : m + 1 ≡ m + 0 + 1 = omega arith in ap (λ (o : ℕ). apply (mark o) (apply (cell m (f m)) M)) z
  mark-next (suc h) (suc n) m M l =
      let z : m + 1 + h + 1 ≡ m + suc h + 1 = omega arith in
      mark-next h n (m + 1) (passed f M m) (le_of_suc-le-suc l)
      ∙ ap (λ (o : ℕ). apply (mark o) (apply_all (take (suc (twice h)) (stores f (m + 1) n)) (passed f M m))) z

-- how many steps have been made with h cells settled
abbrev made_in : Phase → ℕ → ℕ
made_in Cell h = twice h
made_in Mark h = suc (twice h)

-- after k of the steps that settle n cells
pub record Running (f : ℕ → ℕ) (first : Memory) (n k : ℕ) (here : Memory) (phase : Phase) : Type 0 where
  pub settled : ℕ
  pub made : k ≡ made_in phase settled
  pub mark : here.mark ≡ first.mark + settled
  pub left : here ≡ apply_all (take k (stores f first.mark n)) first

module _ (f : ℕ → ℕ) (first : Memory) (n : ℕ) where
  pub running-start : Running f first n 0 first Cell
  running-start = record { settled = 0; made = refl; mark = omega arith; left = refl }

  module _ (k : ℕ) (here : Memory) (phase : Phase) (r : Running f first n k here phase) where
    pub running-length : length here.cells ≡ length first.cells
    running-length = ap (λ (M : Memory). length M.cells) r.left ∙ all-length (take k (stores f first.mark n)) first

    pub running-from : first.mark ≤ here.mark
    running-from = omega (arith, r.mark)

  -- while there are stores left the mark is inside, and no cell is added
  pub running-here : (k : ℕ) (here : Memory) (phase : Phase) → Running f first n k here phase → k < 2 * n
      → (first.mark ≤ here.mark) × (here.mark < first.mark + n) × (length here.cells ≡ length first.cells)
  running-here k here phase r l = (running-from k here phase r, inside phase r.made, running-length k here phase r)
    where
      inside : (phase : Phase) → k ≡ made_in phase r.settled → here.mark < first.mark + n
      inside Cell e = omega (arith, e, r.mark, twice-is r.settled)
      inside Mark e = omega (arith, e, r.mark, twice-is r.settled)

  -- one store more
  one_more : (k : ℕ) (here : Memory) (phase : Phase) → Running f first n k here phase → k < 2 * n
      → Running f first n (k + 1) (apply (next_store (f here.mark) here.mark phase) here) (turned phase)
  one_more k here Cell r l =
      let h = r.settled in
      let e : k + 1 ≡ suc (twice h) = omega (arith, r.made) in
      record {
        settled = h;
        made = e;
        mark = r.mark;
        left =
            ap (λ (o : ℕ). apply (cell o (f o)) here) r.mark
            ∙ ap (apply (cell (first.mark + h) (f (first.mark + h)))) (r.left ∙ ap (λ (j : ℕ). apply_all (take j (stores f first.mark n)) first) r.made)
            ∙ sym (cell-next f h n first.mark first (omega (arith, r.made, twice-is h)))
            ∙ ap (λ (j : ℕ). apply_all (take j (stores f first.mark n)) first) (sym e);
      }
  one_more k here Mark r l =
      let h = r.settled in
      let e : k + 1 ≡ suc (suc (twice h)) = omega (arith, r.made) in
      record {
        settled = suc h;
        made = e;
        mark = omega (arith, r.mark);
        left =
            ap (λ (o : ℕ). apply (mark (o + 1)) here) r.mark
            ∙ ap (apply (mark (first.mark + h + 1))) (r.left ∙ ap (λ (j : ℕ). apply_all (take j (stores f first.mark n)) first) r.made)
            ∙ sym (mark-next f h n first.mark first (omega (arith, r.made, twice-is h)))
            ∙ ap (λ (j : ℕ). apply_all (take j (stores f first.mark n)) first) (sym e);
      }

  pub running-next : (k : ℕ) (here : Memory) (phase : Phase) → Running f first n k here phase → k < 2 * n → (v : ℕ) → v ≡ f here.mark → (here' : Memory) (phase' : Phase)
      → here' ≡ apply (next_store v here.mark phase) here → phase' ≡ turned phase → Running f first n (k + 1) here' phase'
  running-next k here phase r l v w here' phase' e t = rw (e, t, w) (one_more k here phase r l)
