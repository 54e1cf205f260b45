-- Runs of a table: where they begin, how they are tested, and that the places of one are copied at once. Assumes nothing.
use mathlib.Core.Path.{◌≡◌, refl, sym, ap, ◌∙◌, subst}
use mathlib.Core.Logic.{⊎_elim, ◌⊎◌, inl, inr}
use Prim.Native.Nat.{ℕ, zero, suc, ◌+◌, ◌-◌, ◌*◌, ◌<◌, ◌≤◌}
use native.Mathlib.Nat.{zero-mul, add-mul, mul-le-mul_right, min-le_left, min-le_right}
use native.Mathlib.Omega.{arith}
use mathlib.Core.List.{List, [], ◌∷◌, ◌++◌}
use lib.ListN.{length, get_or, set, take, drop, length-drop, take-append-drop, length-take}
use lib.Seq.{get_or-drop, length-take-le, get_or-take}
use Rattle.std.proofs.lemmas.List.{set-append_right}
use Rattle.radix.proofs.Lists.{le-or-lt}
use Rattle.pack.specs.Rows.{walked, scattered, gathered, Reaches}
use Rattle.pack.specs.Runs.{GoesOn, RunsTo, InRuns, IsPart, copied}
use Rattle.pack.proofs.Walking.{walk-next}

-- a place of the table at which a run begins
abbrev pub AtRun : ℕ → List ℕ → ℕ → Type 0
AtRun run table j = j < length table → (k : ℕ) × (j ≡ k * run)

pub at_front : (run : ℕ) (table : List ℕ) → AtRun run table 0
at_front run table h = (0, sym (zero-mul run))

-- the next run begins after a whole one
pub at_next : (run : ℕ) (table : List ℕ) (j n : ℕ) → IsPart j run (length table) n → AtRun run table j → AtRun run table (j + n)
at_next run table j n p at l = let b = at (omega arith) in (b.0 + 1, (omega (arith, p.whole l, b.1, add-mul b.0 1 run)))

-- runs of one place are everywhere
pub runs-of-one : (table : List ℕ) → InRuns 1 table
runs-of-one table k i h l =
    let e : k * 1 + i ≡ k * 1 = omega arith in
    let z : get_or table (k * 1) 0 ≡ get_or table (k * 1) 0 + i = omega arith in
    ap (λ (x : ℕ). get_or table x 0) e ∙ z

-- the first places of a table go on in the same runs
pub runs-take : (run n : ℕ) (table : List ℕ) → InRuns run table → InRuns run (take n table)
runs-take run n table r k i l inside =
    let e = length-take n table in
    let a : k * run + i < n = omega (arith, e, min-le_left n (length table)) in
    get_or-take n table (k * run + i) 0 a ∙ r k i l (omega (arith, e, min-le_right n (length table))) ∙ ap (λ (x : ℕ). x + i) (sym (get_or-take n table (k * run) 0 (omega (arith, a))))

-- the places of a run go on by ones
pub run_at : (run : ℕ) (table : List ℕ) (j n : ℕ) → InRuns run table → AtRun run table j → IsPart j run (length table) n → GoesOn table j n
run_at run table j n r at p i l =
    let b = at (omega (arith, p.some, p.inside)) in
    subst (λ (x : ℕ). get_or table (x + i) 0 ≡ get_or table x 0 + i) (sym b.1) (r b.0 i (omega (arith, p.narrow)) (omega (arith, b.1, p.inside)))

-- one run more
pub runs-more : (run : ℕ) (table : List ℕ) (j n : ℕ) → AtRun run table j → IsPart j run (length table) n → GoesOn table j n → RunsTo run table j → RunsTo run table (j + n)
runs-more run table j n at p g r k i l inside = ⊎_elim here (λ (q : k * run + i < j). r k i l q) (le-or-lt j (k * run + i))
  where
    b : (m : ℕ) × (j ≡ m * run)
    b = at (omega (arith, p.some, p.inside))

    -- a later run begins a whole run later
    apart : (m l : ℕ) → m < l → m * run + run ≤ l * run
    apart m l q = let s : m + 1 ≤ l = omega (arith, q) in omega (arith, add-mul m 1 run, mul-le-mul_right {m = m + 1} {n = l} run s)

    here : j ≤ k * run + i → get_or table (k * run + i) 0 ≡ get_or table (k * run) 0 + i
    here q = go (le-or-lt b.0 k) (le-or-lt k b.0)
      where
        go : (b.0 ≤ k) ⊎ (k < b.0) → (k ≤ b.0) ⊎ (b.0 < k) → get_or table (k * run + i) 0 ≡ get_or table (k * run) 0 + i
        go (inr u) w = absurd (omega (arith, apart k b.0 u, b.1))
        go (inl u) (inr w) = absurd (omega (arith, apart b.0 k w, b.1, p.narrow))
        go (inl u) (inl w) =
            let e : k ≡ b.0 = omega (arith, u, w) in
            let f : j ≡ k * run = b.1 ∙ ap (λ (x : ℕ). x * run) (sym e) in
            subst (λ (x : ℕ). get_or table (x + i) 0 ≡ get_or table x 0 + i) f (g i (omega (arith, f)))

-- what goes on place by place along a table is a walk along so many places of it
pub walk-many : (step : ℕ → ℕ → List ℕ → List ℕ) (base : ℕ) (table : List ℕ) (a j n : ℕ) (f : ℕ → List ℕ) → j + n ≤ length table
    → ((i : ℕ) → i < n → f (suc i) ≡ step (base + get_or table (j + i) 0) (a + (j + i)) (f i))
    → walked step base (drop (j + n) table) (a + (j + n)) (f n) ≡ walked step base (drop j table) (a + j) (f 0)
walk-many step base table a j zero f h each = let e : j + 0 ≡ j = omega arith in rw (e)
walk-many step base table a j (suc n) f h each =
    let e : j + suc n ≡ j + n + 1 = omega arith in
    ap (λ (x : ℕ). walked step base (drop x table) (a + x) (f (suc n))) e
    ∙ ap (walked step base (drop (j + n + 1) table) (a + (j + n + 1))) (each n (omega arith))
    ∙ walk-next step base table a (j + n) (f n) (omega arith)
    ∙ walk-many step base table a j n f (omega arith) (λ i l. each i (omega arith))

-- a copy of a run is a walk along its places
pub scatter-run : (source : List ℕ) (base : ℕ) (table : List ℕ) (a j n : ℕ) (xs : List ℕ) → j + n ≤ length table → GoesOn table j n
    → scattered source base (drop (j + n) table) (a + (j + n)) (copied source (a + j) n (base + get_or table j 0) xs) ≡ scattered source base (drop j table) (a + j) xs
scatter-run source base table a j n xs h g =
    walk-many (λ (o a : ℕ) (xs : List ℕ). set xs o (get_or source a 0)) base table a j n (λ (i : ℕ). copied source (a + j) i (base + get_or table j 0) xs) h
    (λ i l.
    let o : base + get_or table j 0 + i ≡ base + get_or table (j + i) 0 = omega (arith, g i l) in
    let p : a + j + i ≡ a + (j + i) = omega arith in
    rw (o, p))

pub gather-run : (cells : List ℕ) (base : ℕ) (table : List ℕ) (a j n : ℕ) (xs : List ℕ) → j + n ≤ length table → GoesOn table j n
    → gathered cells base (drop (j + n) table) (a + (j + n)) (copied cells (base + get_or table j 0) n (a + j) xs) ≡ gathered cells base (drop j table) (a + j) xs
gather-run cells base table a j n xs h g =
    walk-many (λ (o a : ℕ) (xs : List ℕ). set xs a (get_or cells o 0)) base table a j n (λ (i : ℕ). copied cells (base + get_or table j 0) i (a + j) xs) h
    (λ i l.
    let o : base + get_or table j 0 + i ≡ base + get_or table (j + i) 0 = omega (arith, g i l) in
    let p : a + j + i ≡ a + (j + i) = omega arith in
    rw (o, p))

-- the last cell of a run is reached
pub run-reaches : (base : ℕ) (table : List ℕ) (m j n : ℕ) → Reaches base table m → 0 < n → j + n ≤ length table → GoesOn table j n → base + get_or table j 0 + n ≤ m
run-reaches base table m j zero r some h g = absurd (omega arith)
run-reaches base table m j (suc n) r some h g = omega (arith, r (j + n) (omega arith), g n (omega arith))

-- the front of one list and the rest of another, one value more
front-more : (ys zs : List ℕ) (n : ℕ) → n < length ys → n < length zs → set (take n ys ++ drop n zs) n (get_or ys n 0) ≡ take (suc n) ys ++ drop (suc n) zs
front-more [] zs n h g = absurd (omega arith)
front-more (y ∷ ys) [] n h g = absurd (omega arith)
front-more (y ∷ ys) (z ∷ zs) zero h g = refl
front-more (y ∷ ys) (z ∷ zs) (suc n) h g = ap (λ (xs : List ℕ). y ∷ xs) (front-more ys zs n (omega arith) (omega arith))

-- a copied part is so many copied values
pub part-copied : (source : List ℕ) (a n o : ℕ) (xs : List ℕ) → a + n ≤ length source → o + n ≤ length xs → take o xs ++ (take n (drop a source) ++ drop n (drop o xs)) ≡ copied source a n o xs
part-copied source a zero o xs h g = take-append-drop o xs
part-copied source a (suc n) o xs h g =
    let e : o + n - o ≡ n = omega arith in
    let long : length (take o xs) ≡ o = length-take-le o xs (omega arith) in
    let one = front-more (drop a source) (drop o xs) n (omega (arith, length-drop a source)) (omega (arith, length-drop o xs)) in
    let at : get_or (drop a source) n 0 ≡ get_or source (a + n) 0 = get_or-drop a source n 0 in
    sym (ap (λ (ys : List ℕ). take o xs ++ ys) (ap (λ (v : ℕ). set (take n (drop a source) ++ drop n (drop o xs)) n v) (sym at) ∙ one))
    ∙ sym (set-append_right (take o xs) (take n (drop a source) ++ drop n (drop o xs)) o (o + n) (get_or source (a + n) 0) long (omega arith) ∙ ap (λ (k : ℕ). take o xs ++ set (take n (drop a source) ++ drop n (drop o xs)) k (get_or source (a + n) 0)) e)
    ∙ ap (λ (ys : List ℕ). set ys (o + n) (get_or source (a + n) 0)) (part-copied source a n o xs (omega arith) (omega arith))

-- one value more
pub copy-next : (source : List ℕ) (a n o : ℕ) (xs : List ℕ) → set (copied source a n o xs) (o + n) (get_or source (a + n) 0) ≡ copied source a (n + 1) o xs
copy-next source a n o xs = let e : n + 1 ≡ suc n = omega arith in rw (e)
