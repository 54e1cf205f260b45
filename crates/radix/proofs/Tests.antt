-- Laws of the tests: one at every number below n, the sizes of a list, a coordinate inside its size, a product with a limit. Assumes nothing.
use mathlib.Core.Path.{◌≡◌, refl, sym, ap, ap₂, ◌∙◌, subst}
use mathlib.Core.Bool.{Bool, true, false, ◌&&◌, cond, not}
use mathlib.Core.Logic.{⊎_elim}
use Prim.Native.Nat.{ℕ, zero, suc, ◌+◌, ◌<◌, ◌≤◌, min}
use native.Mathlib.Nat.{not-suc-le-zero, le_of_suc-le-suc, eq-or-lt_of_le}
use native.Mathlib.Omega.{arith}
use mathlib.Core.List.{List, [], ◌∷◌}
use lib.ListN.{length, get_or, get_or-eq_default, drop, drop_of_length-le}
use lib.Dec.{ltb, leb}
use borrow.Author.Tests.{lt-ltb, ltb-true, ltb-false, leb-true, leb-false, le-leb, lt-leb}
use native.Mathlib.Nat.{min-eq_left, min-eq_right}
use Rattle.std.specs.List.{list_all, zip, position_or_len}
use Rattle.std.specs.Option.{unwrap_or}
use Rattle.std.specs.Prelude.{Option, Some, None}
use Rattle.radix.specs.Radix.{max_count, every, first, is_within, is_inside, Bounded, Upto, In, none, more}
use Rattle.radix.proofs.Lists.{le-or-lt, rest-of}

pub and-true : {a b : Bool} → a ≡ true → b ≡ true → (a && b) ≡ true
and-true e f = rw (e, f)

pub and-false : (a : Bool) {b : Bool} → b ≡ false → (a && b) ≡ false
and-false true e = e
and-false false e = refl

pub and_left : (a b : Bool) → (a && b) ≡ true → a ≡ true
and_left true b e = refl
and_left false b e = e

pub and_right : (a b : Bool) → (a && b) ≡ true → b ≡ true
and_right true b e = e
and_right false b e = cc

module _ (f : ℕ → Bool) where
  pub every-all : (n : ℕ) → ((k : ℕ) → k < n → f k ≡ true) → every f n ≡ true
  every-all zero h = refl
  every-all (suc n) h = and-true (every-all n (λ k l. h k (omega arith))) (h n (omega arith))

  pub every-not : (n k : ℕ) → k < n → f k ≡ false → every f n ≡ false
  every-not zero k l e = absurd (not-suc-le-zero l)
  every-not (suc n) k l e =
      ⊎_elim (λ (q : k ≡ n). and-false (every f n) (subst (λ (i : ℕ). f i ≡ false) q e)) (λ q. ap (λ (b : Bool). b && f n) (every-not n k q e)) (eq-or-lt_of_le (le_of_suc-le-suc l))

  pub every-at : (n : ℕ) → every f n ≡ true → (k : ℕ) → k < n → f k ≡ true
  every-at zero e k l = absurd (not-suc-le-zero l)
  every-at (suc n) e k l =
      ⊎_elim (λ (q : k ≡ n). subst (λ (i : ℕ). f i ≡ true) (sym q) (and_right (every f n) (f n) e)) (λ q. every-at n (and_left (every f n) (f n) e) k q) (eq-or-lt_of_le (le_of_suc-le-suc l))

-- a test of each entry, as a chain gives it
every-front : (f : ℕ → Bool) (n : ℕ) → every f (suc n) ≡ (f 0 && every (λ (k : ℕ). f (suc k)) n)
every-front f zero = and-one (f 0)
  where
    and-one : (b : Bool) → b ≡ (b && true)
    and-one true = refl
    and-one false = refl
every-front f (suc n) =
    ap (λ (b : Bool). b && f (suc n)) (every-front f n) ∙ and-assoc (f 0) (every (λ (k : ℕ). f (suc k)) n) (f (suc n))
  where
    and-assoc : (a b c : Bool) → (a && b && c) ≡ (a && (b && c))
    and-assoc true b c = refl
    and-assoc false b c = refl

pub all-every : (test : ℕ → Bool) (xs : List ℕ) → list_all test xs ≡ every (λ (k : ℕ). test (get_or xs k 0)) (length xs)
all-every test [] = refl
all-every test (x ∷ xs) =
    ap (λ (b : Bool). test x && b) (all-every test xs) ∙ sym (every-front (λ (k : ℕ). test (get_or (x ∷ xs) k 0)) (length xs))

-- the first number that a chain finds
first-most : (f : ℕ → Bool) (n : ℕ) → first f n ≤ n
first-most f zero = omega arith
first-most f (suc n) = go (f 0) (first-most (λ (k : ℕ). f (suc k)) n)
  where
    go : (b : Bool) {m : ℕ} → m ≤ n → cond b 0 (suc m) ≤ suc n
    go true h = omega arith
    go false h = omega arith

found-first : (test : ℕ → Bool) (xs : List ℕ) → position_or_len test xs ≡ first (λ (k : ℕ). test (get_or xs k 0)) (length xs)
found-first test [] = refl
found-first test (x ∷ xs) = go (test x) (found-first test xs)
  where
    go : (b : Bool) {m n : ℕ} → m ≡ n → cond (not b) (1 + m) 0 ≡ cond b 0 (suc n)
    go true e = refl
    go false e = omega arith

pub position-first : (test : ℕ → Bool) (xs : List ℕ) → unwrap_or (cond {A = Option ℕ} (ltb (position_or_len test xs) (length xs)) (Some (position_or_len test xs)) None) (length xs) ≡ first (λ (k : ℕ). test (get_or xs k 0)) (length xs)
position-first test xs = go (ltb (position_or_len test xs) (length xs)) refl
  where
    go : (b : Bool) → ltb (position_or_len test xs) (length xs) ≡ b → unwrap_or (cond {A = Option ℕ} b (Some (position_or_len test xs)) None) (length xs) ≡ first (λ (k : ℕ). test (get_or xs k 0)) (length xs)
    go true t = found-first test xs
    go false t = omega (arith, ltb-false _ _ t, found-first test xs, first-most (λ (k : ℕ). test (get_or xs k 0)) (length xs))

-- tests that agree below n
pub every-agree : (f g : ℕ → Bool) (n : ℕ) → ((k : ℕ) → k < n → f k ≡ g k) → every f n ≡ every g n
every-agree f g zero h = refl
every-agree f g (suc n) h = ap₂ ◌&&◌ (every-agree f g n (λ k l. h k (omega arith))) (h n (omega arith))

pub first-agree : (f g : ℕ → Bool) (n : ℕ) → ((k : ℕ) → k < n → f k ≡ g k) → first f n ≡ first g n
first-agree f g zero h = refl
first-agree f g (suc n) h =
    ap₂ (λ (b : Bool) (m : ℕ). cond b 0 (suc m)) (h 0 (omega arith))
    (first-agree (λ (k : ℕ). f (suc k)) (λ (k : ℕ). g (suc k)) n (λ k l. h (suc k) (omega arith)))

-- the first number at which a test holds
pub first-is : (f : ℕ → Bool) (n k : ℕ) → k < n → f k ≡ true → ((j : ℕ) → j < k → f j ≡ false) → first f n ≡ k
first-is f zero k l e h = absurd (not-suc-le-zero l)
first-is f (suc n) zero l e h = rw e
first-is f (suc n) (suc k) l e h = rw (h 0 (omega arith), first-is (λ (j : ℕ). f (suc j)) n k (le_of_suc-le-suc l) e (λ j g. h (suc j) (omega arith)))

pub first-none : (f : ℕ → Bool) (n : ℕ) → ((j : ℕ) → j < n → f j ≡ false) → first f n ≡ n
first-none f zero h = refl
first-none f (suc n) h = rw (h 0 (omega arith), first-none (λ (j : ℕ). f (suc j)) n (λ j g. h (suc j) (omega arith)))

pub first-true : (f : ℕ → Bool) (n : ℕ) → first f n < n → f (first f n) ≡ true
first-true f zero l = absurd (not-suc-le-zero l)
first-true f (suc n) l = go (first-true (λ (k : ℕ). f (suc k)) n) (f 0) refl l
  where
    next : ℕ
    next = first (λ (k : ℕ). f (suc k)) n

    go : (next < n → f (suc next) ≡ true) → (b : Bool) → f 0 ≡ b → cond b 0 (suc next) < suc n → f (cond b 0 (suc next)) ≡ true
    go ih true e l = e
    go ih false e l = ih (le_of_suc-le-suc l)

pub first-before : (f : ℕ → Bool) (n j : ℕ) → j < first f n → f j ≡ false
first-before f zero j l = absurd (not-suc-le-zero l)
first-before f (suc n) j l = go (first-before (λ (k : ℕ). f (suc k)) n) (f 0) refl j l
  where
    next : ℕ
    next = first (λ (k : ℕ). f (suc k)) n

    go : ((j : ℕ) → j < next → f (suc j) ≡ false) → (b : Bool) → f 0 ≡ b → (j : ℕ) → j < cond b 0 (suc next) → f j ≡ false
    go ih true e j l = absurd (not-suc-le-zero l)
    go ih false e zero l = e
    go ih false e (suc j) l = ih j (le_of_suc-le-suc l)

-- a list that passes the test is bounded
pub bounded_of : (most : ℕ) (ds : List ℕ) → is_within most ds ≡ true → Bounded most ds
unfolding Bounded is_within
bounded_of most ds e k l =
    let t = every-at (λ (k : ℕ). leb 1 (get_or ds k 0) && leb (get_or ds k 0) most) (length ds) e k l in
    (leb-true 1 (get_or ds k 0) (and_left (leb 1 (get_or ds k 0)) (leb (get_or ds k 0) most) t), leb-true (get_or ds k 0) most (and_right (leb 1 (get_or ds k 0)) (leb (get_or ds k 0) most) t))

pub bounded-up : (a b : ℕ) (ds : List ℕ) → a ≤ b → Bounded a ds → Bounded b ds
unfolding Bounded
bounded-up a b ds h s k l = ((s k l).0, omega (arith, (s k l).1))

-- a bounded list has no entry above the bound
pub upto-bounded : (b : ℕ) (ds : List ℕ) → Bounded b ds → Upto b ds
unfolding Upto Bounded
upto-bounded b ds s k =
    ⊎_elim
    (λ (l : length ds ≤ k). omega (arith, get_or-eq_default ds 0 l))
    (λ (l : k < length ds). (s k l).1)
    (le-or-lt (length ds) k)

-- a product that stops at 2^40 + 1 says whether the product is at most 2^40
pub capped : (x : ℕ) → leb (min x (max_count + 1)) max_count ≡ leb x max_count
capped x = go (leb x max_count) refl
  where
    go : (b : Bool) → leb x max_count ≡ b → leb (min x (max_count + 1)) max_count ≡ leb x max_count
    go true t = ap (λ (y : ℕ). leb y max_count) (min-eq_left {n = x} {m = max_count + 1} (omega (arith, leb-true x max_count t)))
    go false t = ap (λ (y : ℕ). leb y max_count) (min-eq_right {m = x} (omega (arith, leb-false x max_count t))) ∙ sym t

pub under-cap : (x r : ℕ) → r ≡ min x (max_count + 1) → r ≤ max_count → x ≤ max_count
under-cap x r e h = leb-true x max_count (sym (capped x) ∙ ap (λ (y : ℕ). leb y max_count) (sym e) ∙ le-leb r max_count h)

pub over-cap : (x r : ℕ) → r ≡ min x (max_count + 1) → max_count < r → max_count < x
over-cap x r e h = leb-false x max_count (sym (capped x) ∙ ap (λ (y : ℕ). leb y max_count) (sym e) ∙ lt-leb r max_count h)

-- the test of an index, at place i
pub inside-at : (es ds : List ℕ) (i : ℕ) → i < length es → i < length ds → is_inside (drop i es) (drop i ds) ≡ (ltb (get_or es i 0) (get_or ds i 0) && is_inside (drop (i + 1) es) (drop (i + 1) ds))
inside-at es ds i h g = rw (rest-of es i h, rest-of ds i g)

pub inside-end : (es ds : List ℕ) (i : ℕ) → length es ≤ i → length ds ≤ i → is_inside (drop i es) (drop i ds) ≡ true
inside-end es ds i h g = rw (drop_of_length-le es h, drop_of_length-le ds g)

-- the test of each pair of an index and sizes of one length, as a chain gives it
pub all-inside : (es ds : List ℕ) → length es ≡ length ds → list_all (λ (p : ℕ × ℕ). ltb p.0 p.1) (zip es ds) ≡ is_inside es ds
all-inside [] [] h = refl
all-inside [] (d ∷ ds) h = absurd (omega arith)
all-inside (e ∷ es) [] h = absurd (omega arith)
all-inside (e ∷ es) (d ∷ ds) h = ap (λ (b : Bool). ltb e d && b) (all-inside es ds (omega arith))

pub inside-true : {es ds : List ℕ} → In es ds → is_inside es ds ≡ true
inside-true none = refl
inside-true (more {e} {d} h i) = rw (lt-ltb e d h, inside-true i)

pub inside-in : (es ds : List ℕ) → is_inside es ds ≡ true → In es ds
inside-in [] [] t = none
inside-in [] (d ∷ ds) t = cc
inside-in (e ∷ es) [] t = cc
inside-in (e ∷ es) (d ∷ ds) t = more (ltb-true e d (and_left (ltb e d) (is_inside es ds) t)) (inside-in es ds (and_right (ltb e d) (is_inside es ds) t))

-- an index of another length is not inside
pub inside-length : (es ds : List ℕ) → (length es ≡ length ds → ⊥) → is_inside es ds ≡ false
inside-length [] [] h = absurd (h refl)
inside-length [] (d ∷ ds) h = refl
inside-length (e ∷ es) [] h = refl
inside-length (e ∷ es) (d ∷ ds) h = and-false (ltb e d) (inside-length es ds (λ q. h (ap suc q)))
