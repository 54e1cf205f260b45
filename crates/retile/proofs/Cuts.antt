-- Laws of lists of stores: what a run leaves, runs that join, and runs that are cut. Assumes nothing.
use mathlib.Core.Path.{◌≡◌, refl, sym, ap, ◌∙◌, subst}
use mathlib.Core.Logic.{⊎_elim}
use Prim.Native.Nat.{ℕ, zero, suc, ◌+◌, ◌-◌, ◌<◌, ◌≤◌}
use native.Mathlib.Nat.{min-eq_left, min-eq_right}
use native.Mathlib.Omega.{arith}
use mathlib.Core.List.{List, [], ◌∷◌, ◌++◌}
use lib.ListN.{length, get_or, take, length-set}
use lib.Seq.{set-set, get_or-set_same, get_or-set_other}
use Rattle.radix.proofs.Lists.{le-or-lt}
use Rattle.retile.specs.Stores.{Store, cell, mark, Memory, memory, apply, apply_all, stores, settled, stores_of, sum, stores_of_calls, AllInside}
use Rattle.retile.proofs.Running.{passed}

module _ (f : ℕ → ℕ) where
  pub run-mark : (n : ℕ) (M : Memory) (m : ℕ) → M.mark ≡ m → (apply_all (stores f m n) M).mark ≡ m + n
  run-mark zero M m e = omega (arith, e)
  run-mark (suc n) M m e = omega (arith, run-mark n (passed f M m) (m + 1) refl)

  pub run_length : (n : ℕ) (M : Memory) (m : ℕ) → length (apply_all (stores f m n) M).cells ≡ length M.cells
  run_length zero M m = refl
  run_length (suc n) M m = run_length n (passed f M m) (m + 1) ∙ length-set M.cells m (f m)

  pub run-below : (n : ℕ) (M : Memory) (m k : ℕ) → k < m → get_or (apply_all (stores f m n) M).cells k 0 ≡ get_or M.cells k 0
  run-below zero M m k h = refl
  run-below (suc n) M m k h =
      run-below n (passed f M m) (m + 1) k (omega arith)
      ∙ get_or-set_other M.cells m k (f m) 0 (λ (q : k ≡ m). omega arith)

  pub run-above : (n : ℕ) (M : Memory) (m k : ℕ) → m + n ≤ k → get_or (apply_all (stores f m n) M).cells k 0 ≡ get_or M.cells k 0
  run-above zero M m k h = refl
  run-above (suc n) M m k h =
      run-above n (passed f M m) (m + 1) k (omega arith)
      ∙ get_or-set_other M.cells m k (f m) 0 (λ (q : k ≡ m). omega arith)

  pub run_inside : (n : ℕ) (M : Memory) (m k : ℕ) → m ≤ k → k < m + n → k < length M.cells → get_or (apply_all (stores f m n) M).cells k 0 ≡ f k
  run_inside zero M m k g h l = absurd (omega arith)
  run_inside (suc n) M m k g h l =
      ⊎_elim
      (λ (q : m + 1 ≤ k). run_inside n (passed f M m) (m + 1) k q (omega arith) (omega (arith, length-set M.cells m (f m))))
      (λ (q : k < m + 1).
      let e : k ≡ m = omega arith in
      subst (λ (j : ℕ). get_or (apply_all (stores f (m + 1) n) (passed f M m)).cells j 0 ≡ f j) (sym e)
      (run-below n (passed f M m) (m + 1) m (omega arith) ∙ get_or-set_same M.cells m (f m) 0 (omega (arith, e))))
      (le-or-lt (m + 1) k)

  -- two runs, one after the other, are one
  pub stores-join : (a b m : ℕ) → stores f m (a + b) ≡ stores f m a ++ stores f (m + a) b
  stores-join zero b m =
      let e : 0 + b ≡ b = omega arith in
      let z : m + 0 ≡ m = omega arith in
      ap (stores f m) e ∙ ap (λ (k : ℕ). stores f k b) (sym z)
  stores-join (suc a) b m =
      let e : m + 1 + a ≡ m + suc a = omega arith in
      let g : suc a + b ≡ suc (a + b) = omega arith in
      ap (stores f m) g
      ∙ ap (λ (xs : List Store). cell m (f m) ∷ (mark (m + 1) ∷ xs)) (stores-join a b (m + 1) ∙ ap (λ (k : ℕ). stores f (m + 1) a ++ stores f k b) e)

  -- a cell stored twice is a cell stored once
  again : (n m : ℕ) (M : Memory) → apply_all (stores f m (suc n)) (apply (cell m (f m)) M) ≡ apply_all (stores f m (suc n)) M
  again n m M = ap (λ (xs : List ℕ). apply_all (stores f (m + 1) n) (memory xs (m + 1))) (set-set M.cells m (f m) (f m))

  -- the mark lies inside the run, and the run from there leaves what the whole run leaves from M
  abbrev Resumes : ℕ → ℕ → Memory → Memory → Type 0
  Resumes n m M M' = (M'.mark ≤ m + n) × (apply_all (stores f M'.mark (m + n - M'.mark)) M' ≡ apply_all (stores f m n) M)

  resumes-first : (n m : ℕ) (M M' : Memory) → M'.mark ≡ m → apply_all (stores f m n) M' ≡ apply_all (stores f m n) M → Resumes n m M M'
  resumes-first n m M M' e q =
      let z : m + n - m ≡ n = omega arith in
      (omega (arith, e), ap (λ (k : ℕ). apply_all (stores f k (m + n - k)) M') e ∙ ap (λ (j : ℕ). apply_all (stores f m j) M') z ∙ q)

  -- cut after any store, the run from the mark that is found leaves what the uncut run leaves
  pub cut-run : (n k m : ℕ) (M : Memory) → M.mark ≡ m → Resumes n m M (apply_all (take k (stores f m n)) M)
  cut-run n zero m M e = resumes-first n m M M e refl
  cut-run zero (suc k) m M e = resumes-first zero m M M e refl
  cut-run (suc n) (suc zero) m M e = resumes-first (suc n) m M (apply (cell m (f m)) M) e (again n m M)
  cut-run (suc n) (suc (suc k)) m M e =
      let r = cut-run n k (m + 1) (passed f M m) refl in
      let z : m + 1 + n ≡ m + suc n = omega arith in
      rw z at r

settled-join : (size m a b : ℕ) → settled size m (a + b) ≡ settled size m a + settled size (m + settled size m a) b
settled-join size m a b =
    ⊎_elim
    (λ (h : a ≤ size - m).
    let e = min-eq_left {n = a} {m = size - m} h in
    ⊎_elim
    (λ (g : b ≤ size - (m + a)).
    let d = min-eq_left {n = b} {m = size - (m + a)} g in
    let c = min-eq_left {n = a + b} {m = size - m} (omega arith) in
    rw (e, d) c)
    (λ (g : size - (m + a) < b).
    let d = min-eq_right {n = size - (m + a)} {m = b} (omega arith) in
    let c = min-eq_right {n = size - m} {m = a + b} (omega arith) in
    let z : size - m ≡ a + (size - (m + a)) = omega arith in
    rw (e, d) (c ∙ z))
    (le-or-lt b (size - (m + a))))
    (λ (h : size - m < a).
    let e = min-eq_right {n = size - m} {m = a} (omega arith) in
    let d = min-eq_right {n = size - (m + (size - m))} {m = b} (omega arith) in
    let c = min-eq_right {n = size - m} {m = a + b} (omega arith) in
    let z : size - m ≡ (size - m) + (size - (m + (size - m))) = omega arith in
    rw (e, d) (c ∙ z))
    (le-or-lt a (size - m))

-- the stores of calls one after another are those of one call with the sum of their allowances
pub calls-join : (f : ℕ → ℕ) (size m : ℕ) (ns : List ℕ) → stores_of_calls f size m ns ≡ stores_of f size m (sum ns)
calls-join f size m [] = ap (stores f m) (sym (min-eq_left {n = 0} {m = size - m} (omega arith)))
calls-join f size m (n ∷ ns) =
    let s = settled size m n in
    ap (λ (xs : List Store). stores_of f size m n ++ xs) (calls-join f size (m + s) ns)
    ∙ sym (stores-join f s (settled size (m + s) (sum ns)) m)
    ∙ ap (stores f m) (sym (settled-join size m n (sum ns)))

-- a run that is cut: what lies below its first cell stays, and every cell that the mark has passed has its value
module _ (f : ℕ → ℕ) where
  cut_below : (n k m : ℕ) (M : Memory) (o : ℕ) → o < m → get_or (apply_all (take k (stores f m n)) M).cells o 0 ≡ get_or M.cells o 0
  cut_below n zero m M o h = refl
  cut_below zero (suc k) m M o h = refl
  cut_below (suc n) (suc zero) m M o h = get_or-set_other M.cells m o (f m) 0 (λ (q : o ≡ m). omega arith)
  cut_below (suc n) (suc (suc k)) m M o h =
      cut_below n k (m + 1) (passed f M m) o (omega arith) ∙ get_or-set_other M.cells m o (f m) 0 (λ (q : o ≡ m). omega arith)

  pub cut-final : (n k m : ℕ) (M : Memory) → M.mark ≡ m → (o : ℕ) → m ≤ o → o < (apply_all (take k (stores f m n)) M).mark → o < length M.cells
      → get_or (apply_all (take k (stores f m n)) M).cells o 0 ≡ f o
  cut-final n zero m M e o g h l = absurd (omega (arith, e))
  cut-final zero (suc k) m M e o g h l = absurd (omega (arith, e))
  cut-final (suc n) (suc zero) m M e o g h l = absurd (omega (arith, e))
  cut-final (suc n) (suc (suc k)) m M e o g h l =
      ⊎_elim
      (λ (q : m + 1 ≤ o). cut-final n k (m + 1) (passed f M m) refl o q h (omega (arith, length-set M.cells m (f m))))
      (λ (q : o < m + 1).
      let z : o ≡ m = omega arith in
      subst (λ (j : ℕ). get_or (apply_all (take k (stores f (m + 1) n)) (passed f M m)).cells j 0 ≡ f j) (sym z)
      (cut_below n k (m + 1) (passed f M m) m (omega arith) ∙ get_or-set_same M.cells m (f m) 0 (omega (arith, z))))
      (le-or-lt (m + 1) o)

-- every store of a run lies inside it
pub stores-inside : (f : ℕ → ℕ) (n m a b : ℕ) → a ≤ m → m + n ≤ b → AllInside a b (stores f m n)
stores-inside f zero m a b g h = tt
stores-inside f (suc n) m a b g h = (omega arith, (omega arith, stores-inside f n (m + 1) a b (omega arith) (omega arith)))
