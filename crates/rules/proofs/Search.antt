-- Trying the next gcd below the last one is trying the gcds in their order, largest first. Assumes nothing.
use mathlib.Core.Path.{◌≡◌, refl, sym, ap, ◌∙◌, subst}
use mathlib.Core.Bool.{Bool, true, false, cond}
use mathlib.Core.List.{List, [], ◌∷◌}
use Prim.Native.Nat.{ℕ, zero, suc, ◌+◌, ◌*◌, ◌<◌, ◌≤◌}
use native.Mathlib.Omega.{arith}
use native.Mathlib.Decide.{dec_lt}
use native.Mathlib.Nat as NatL
use borrow.Author.Tests.{lt-ltb, le-ltb, ltb-false, leb-true, leb-false}
use lib.Dec.{ltb, leb}
use lib.IntN.{pos, nat_abs}
use Rattle.integer.specs.Gcd.{gcd_of}
use Rattle.expression.specs.Expression.{Kind, Op, Range}
use Rattle.folding.specs.Sum.{Sum}
use Rattle.folding.specs.Fold.{part_r, one_quotient, quotient_of, insert_down, common_divisors, divisors_tried, rule2, rules34, rules2}
use Rattle.folding.specs.Working.{small_sum, small_sums, rests_tried}
use Rattle.folding.proofs.Divisors.{Dvd, Tried, common-tried}
use Rattle.rules.specs.Rules.{larger_below, next_divisor, fitting_of}
use Rattle.rules.specs.declared.applying.Found.{Found}
use Rattle.rules.specs.declared.applying.Found.TheVariants as F

-- ---- the larger of two numbers below b

module _ (b g r : ℕ) where
  pub larger-yes : g < b → r < g → larger_below b g r ≡ g
  unfolding larger_below
  larger-yes h k = rw (lt-ltb g b h, lt-ltb r g k) refl

  pub larger-high : b ≤ g → larger_below b g r ≡ r
  unfolding larger_below
  larger-high h = rw (le-ltb g b h) refl

  pub larger-low : g ≤ r → larger_below b g r ≡ r
  unfolding larger_below
  larger-low h = go (ltb g b)
    where
      go : (s : Bool) → cond s (cond (ltb r g) g r) r ≡ r
      go true = rw (le-ltb r g h) refl
      go false = refl

  pub larger-least : r ≤ larger_below b g r
  larger-least = go (dec_lt g b) (dec_lt r g)
    where
      go : Dec (g < b) → Dec (r < g) → r ≤ larger_below b g r
      go (yes h) (yes k) = omega (arith, larger-yes h k)
      go (yes h) (no k) = omega (arith, larger-low (omega arith))
      go (no h) k = omega (arith, larger-high (omega arith))

  pub larger-most : (m : ℕ) → g ≤ m → r ≤ m → larger_below b g r ≤ m
  larger-most m i j = go (dec_lt g b) (dec_lt r g)
    where
      go : Dec (g < b) → Dec (r < g) → larger_below b g r ≤ m
      go (yes h) (yes k) = omega (arith, larger-yes h k)
      go (yes h) (no k) = omega (arith, larger-low (omega arith))
      go (no h) k = omega (arith, larger-high (omega arith))

  pub larger-below : r < b → larger_below b g r < b
  larger-below j = go (dec_lt g b) (dec_lt r g)
    where
      go : Dec (g < b) → Dec (r < g) → larger_below b g r < b
      go (yes h) (yes k) = omega (arith, larger-yes h k)
      go (yes h) (no k) = omega (arith, larger-low (omega arith))
      go (no h) k = omega (arith, larger-high (omega arith))

-- a larger number may be taken first
larger-swap : (b g x r : ℕ) → g < x → larger_below b x (larger_below b g r) ≡ larger_below b g (larger_below b x r)
larger-swap b g x r h = go (dec_lt x b) (dec_lt r g)
  where
    go : Dec (x < b) → Dec (r < g) → larger_below b x (larger_below b g r) ≡ larger_below b g (larger_below b x r)
    go (yes i) (yes j) =
        ap (larger_below b x) (larger-yes b g r (omega arith) j) ∙ larger-yes b x g i h
        ∙ sym (ap (larger_below b g) (larger-yes b x r i (omega arith)) ∙ larger-low b g x (omega arith))
    go (yes i) (no j) =
        ap (larger_below b x) (larger-low b g r (omega arith)) ∙ sym (larger-low b g (larger_below b x r) (omega (arith, larger-least b x r)))
    go (no i) j = larger-high b x (larger_below b g r) (omega arith) ∙ ap (larger_below b g) (sym (larger-high b x r (omega arith)))

-- ---- lists of numbers, largest first

abbrev AllLe : ℕ → List ℕ → Type 0
AllLe h [] = Unit {0}
AllLe h (g ∷ gs) = (g ≤ h) × AllLe h gs

abbrev Down : List ℕ → Type 0
Down [] = Unit {0}
Down (g ∷ gs) = AllLe g gs × Down gs

le-all : (m h : ℕ) (l : List ℕ) → m ≤ h → AllLe m l → AllLe h l
le-all m h [] i k = tt
le-all m h (g ∷ gs) i k = (omega (arith, k.0), le-all m h gs i k.1)

insert-le : (h g : ℕ) (l : List ℕ) → g ≤ h → AllLe h l → AllLe h (insert_down g l)
unfolding insert_down
insert-le h g [] i k = (i, tt)
insert-le h g (x ∷ l) i k = go (leb x g) (insert-le h g l i k.1)
  where
    go : (b : Bool) → AllLe h (insert_down g l) → AllLe h (cond b (g ∷ x ∷ l) (x ∷ insert_down g l))
    go true ih = (i, k)
    go false ih = (k.0, ih)

insert-down : (g : ℕ) (l : List ℕ) → Down l → Down (insert_down g l)
unfolding insert_down
insert-down g [] k = (tt, tt)
insert-down g (x ∷ l) k = go (leb x g) refl (insert-down g l k.1)
  where
    go : (b : Bool) → leb x g ≡ b → Down (insert_down g l) → Down (cond b (g ∷ x ∷ l) (x ∷ insert_down g l))
    go true e ih = ((leb-true x g e, le-all x g l (leb-true x g e) k.0), k)
    go false e ih = let h = leb-false x g e in (insert-le x g l (omega arith) k.0, ih)

divisors-down : (c : ℕ) (t : Sum) → Down (common_divisors c t)
unfolding common_divisors
divisors-down c (Sum.const k) = tt
divisors-down c (Sum.term e a t) = go (ltb 1 (gcd_of c (nat_abs e))) (divisors-down c t)
  where
    go : (b : Bool) → Down (common_divisors c t) → Down (cond b (insert_down (gcd_of c (nat_abs e)) (common_divisors c t)) (common_divisors c t))
    go true ih = insert-down (gcd_of c (nat_abs e)) (common_divisors c t) ih
    go false ih = ih

dvd-le : (g c : ℕ) → 0 < c → Dvd g c → g ≤ c
dvd-le g c h v = go v.by v.is
  where
    go : (k : ℕ) → c ≡ g * k → g ≤ c
    go zero e = let z : g * 0 ≡ 0 = NatL.mul-zero g in absurd (omega (arith, e))
    go (suc k) e = let z : g * suc k ≡ g * k + g = NatL.mul-suc g k in omega (arith, e)

dvd-all : (c : ℕ) (l : List ℕ) → 0 < c → Tried c l → AllLe c l
unfolding Tried
dvd-all c [] h k = tt
dvd-all c (g ∷ gs) h k = (dvd-le g c h k.1, dvd-all c gs h k.2)

divisors-le : (c : ℕ) (t : Sum) → 0 < c → AllLe c (common_divisors c t)
divisors-le c t h = dvd-all c (common_divisors c t) h (common-tried c t)

-- ---- the numbers below b, and the largest of them

abbrev below : ℕ → List ℕ → List ℕ
below b [] = []
below b (g ∷ gs) = cond (ltb g b) (g ∷ below b gs) (below b gs)

abbrev largest : ℕ → List ℕ → ℕ
largest b [] = 1
largest b (g ∷ gs) = larger_below b g (largest b gs)

-- g and the numbers below it; none where g is not above 1
abbrev pub from_divisor : ℕ → List ℕ → List ℕ
from_divisor g ds = cond (ltb 1 g) (g ∷ below g ds) []

largest-most : (b m : ℕ) (l : List ℕ) → 1 ≤ m → AllLe m l → largest b l ≤ m
largest-most b m [] h k = h
largest-most b m (g ∷ l) h k = larger-most b g (largest b l) m k.0 (largest-most b m l h k.1)

largest-least : (b : ℕ) (l : List ℕ) → 1 ≤ largest b l
largest-least b [] = omega arith
largest-least b (g ∷ l) = omega (arith, larger-least b g (largest b l), largest-least b l)

largest-below : (b : ℕ) (l : List ℕ) → 1 < b → largest b l < b
largest-below b [] h = h
largest-below b (g ∷ l) h = larger-below b g (largest b l) (largest-below b l h)

largest-insert : (b g : ℕ) (l : List ℕ) → largest b (insert_down g l) ≡ larger_below b g (largest b l)
unfolding insert_down
largest-insert b g [] = refl
largest-insert b g (x ∷ l) = go (leb x g) refl (largest-insert b g l)
  where
    go : (s : Bool) → leb x g ≡ s → largest b (insert_down g l) ≡ larger_below b g (largest b l)
        → largest b (cond s (g ∷ x ∷ l) (x ∷ insert_down g l)) ≡ larger_below b g (larger_below b x (largest b l))
    go true e ih = refl
    go false e ih = ap (larger_below b x) ih ∙ larger-swap b g x (largest b l) (leb-false x g e)

-- the largest gcd below b is the largest of the numbers tried below b
next-largest : (c b : ℕ) (t : Sum) → next_divisor c b t ≡ largest b (common_divisors c t)
unfolding next_divisor common_divisors
next-largest c b (Sum.const k) = refl
next-largest c b (Sum.term e a t) = go (ltb 1 g) refl (next-largest c b t)
  where
    g : ℕ
    g = gcd_of c (nat_abs e)

    go : (s : Bool) → ltb 1 g ≡ s → next_divisor c b t ≡ largest b (common_divisors c t)
        → larger_below b g (next_divisor c b t) ≡ largest b (cond s (insert_down g (common_divisors c t)) (common_divisors c t))
    go true h ih = ap (larger_below b g) ih ∙ sym (largest-insert b g (common_divisors c t))
    go false h ih =
        let l = ltb-false 1 g h in
        ap (larger_below b g) ih ∙ larger-low b g (largest b (common_divisors c t)) (omega (arith, largest-least b (common_divisors c t)))

below_all : (b h : ℕ) (l : List ℕ) → h < b → AllLe h l → below b l ≡ l
below_all b h [] i k = refl
below_all b h (g ∷ l) i k = rw (lt-ltb g b (omega (arith, k.0))) (ap (λ (x : List ℕ). g ∷ x) (below_all b h l i k.1))

-- ---- a number tried again changes nothing

module _ (β : Kind → ℕ → Range) (t : Sum) where
  try-small : (h : ℕ) (l : List ℕ) → small_sum β (part_r h t) ≡ true → one_quotient β h (part_r h t) ≡ false → fitting_of β t (h ∷ l) ≡ fitting_of β t l
  unfolding fitting_of
  try-small h l s f = rw (s, f) refl

  pub try-passed : (h : ℕ) (l : List ℕ) → small_sum β (part_r h t) ≡ false → fitting_of β t (h ∷ l) ≡ F.Passed
  unfolding fitting_of
  try-passed h l s = rw s refl

  pub try-fits : (h : ℕ) (l : List ℕ) → small_sum β (part_r h t) ≡ true → one_quotient β h (part_r h t) ≡ true → fitting_of β t (h ∷ l) ≡ F.At (pos h) (quotient_of β h (part_r h t))
  unfolding fitting_of
  try-fits h l s f = rw (s, f) refl

  -- what follows matters only where h does not fit
  alike-after : (h : ℕ) (l m : List ℕ) → (small_sum β (part_r h t) ≡ true → one_quotient β h (part_r h t) ≡ false → fitting_of β t l ≡ fitting_of β t m) → fitting_of β t (h ∷ l) ≡ fitting_of β t (h ∷ m)
  alike-after h l m k = go (small_sum β (part_r h t)) (one_quotient β h (part_r h t)) refl refl
    where
      go : (s f : Bool) → small_sum β (part_r h t) ≡ s → one_quotient β h (part_r h t) ≡ f → fitting_of β t (h ∷ l) ≡ fitting_of β t (h ∷ m)
      go true true i j = try-fits h l i j ∙ sym (try-fits h m i j)
      go true false i j = try-small h l i j ∙ k i j ∙ sym (try-small h m i j)
      go false f i j = try-passed h l i ∙ sym (try-passed h m i)

  skip-same : (h : ℕ) (l : List ℕ) → AllLe h l → small_sum β (part_r h t) ≡ true → one_quotient β h (part_r h t) ≡ false → fitting_of β t l ≡ fitting_of β t (below h l)
  skip-same h [] k s f = refl
  skip-same h (g ∷ l) k s f = go (dec_lt g h) (skip-same h l k.1 s f)
    where
      go : Dec (g < h) → fitting_of β t l ≡ fitting_of β t (below h l) → fitting_of β t (g ∷ l) ≡ fitting_of β t (below h (g ∷ l))
      go (yes i) ih = rw (lt-ltb g h i) (alike-after g l (below h l) (λ x y. ih))
      go (no i) ih =
          let e : h ≡ g = omega (arith, k.0) in
          rw (le-ltb g h (omega arith))
          (try-small g l (subst (λ (z : ℕ). small_sum β (part_r z t) ≡ true) e s) (subst (λ (z : ℕ). one_quotient β z (part_r z t) ≡ false) e f) ∙ ih)

  -- h first, and its repeats left out
  first-once : (h : ℕ) (l : List ℕ) → AllLe h l → fitting_of β t (h ∷ l) ≡ fitting_of β t (h ∷ below h l)
  first-once h l k = alike-after h l (below h l) (skip-same h l k)

  -- the numbers below b are the largest of them and the numbers below that
  next-below : (c b : ℕ) (l : List ℕ) → 1 < b → Down l → Tried c l → fitting_of β t (below b l) ≡ fitting_of β t (from_divisor (largest b l) l)
  unfolding Tried
  next-below c b [] h k i = refl
  next-below c b (g ∷ l) h k i = go (dec_lt g b) (next-below c b l h k.1 i.2)
    where
      m : ℕ
      m = largest b l

      top : g < b → larger_below b g m ≡ g
      top j = pick (dec_lt m g)
        where
          pick : Dec (m < g) → larger_below b g m ≡ g
          pick (yes x) = larger-yes b g m j x
          pick (no x) = let e = largest-most b g l (omega (arith, i.0)) k.0 in larger-low b g m (omega arith) ∙ omega arith

      rest : (s : Bool) → ltb 1 m ≡ s → b ≤ g → fitting_of β t (cond s (m ∷ below m l) []) ≡ fitting_of β t (cond s (m ∷ below m (g ∷ l)) [])
      rest true e j = rw (le-ltb g m (omega (arith, largest-below b l h))) refl
      rest false e j = refl

      go : Dec (g < b) → fitting_of β t (below b l) ≡ fitting_of β t (from_divisor m l) → fitting_of β t (below b (g ∷ l)) ≡ fitting_of β t (from_divisor (larger_below b g m) (g ∷ l))
      go (yes j) ih =
          subst (λ (w : ℕ). fitting_of β t (below b (g ∷ l)) ≡ fitting_of β t (from_divisor w (g ∷ l))) (sym (top j))
          (rw (lt-ltb g b j, lt-ltb 1 g i.0, le-ltb g g (omega arith))
          (ap (λ (x : List ℕ). fitting_of β t (g ∷ x)) (below_all b g l j k.0) ∙ first-once g l k.0))
      go (no j) ih =
          subst (λ (w : ℕ). fitting_of β t (below b (g ∷ l)) ≡ fitting_of β t (from_divisor w (g ∷ l))) (sym (larger-high b g m (omega arith)))
          (rw (le-ltb g b (omega arith)) (ih ∙ rest (ltb 1 m) refl (omega arith)))

  -- ---- the turns of the search

  module _ (c : ℕ) where
    pub from_first : 1 < c → fitting_of β t (from_divisor c (common_divisors c t)) ≡ fitting_of β t (divisors_tried c t)
    unfolding divisors_tried
    from_first h = rw (lt-ltb 1 c h) (sym (first-once c (common_divisors c t) (divisors-le c t (omega arith))))

    pub from-passed : (g : ℕ) → 1 < g → small_sum β (part_r g t) ≡ false → fitting_of β t (from_divisor g (common_divisors c t)) ≡ F.Passed
    from-passed g h s = rw (lt-ltb 1 g h) (try-passed g (below g (common_divisors c t)) s)

    pub from-fits : (g : ℕ) → 1 < g → small_sum β (part_r g t) ≡ true → one_quotient β g (part_r g t) ≡ true → fitting_of β t (from_divisor g (common_divisors c t)) ≡ F.At (pos g) (quotient_of β g (part_r g t))
    from-fits g h s f = rw (lt-ltb 1 g h) (try-fits g (below g (common_divisors c t)) s f)

    pub from_next : (g : ℕ) → 1 < g → small_sum β (part_r g t) ≡ true → one_quotient β g (part_r g t) ≡ false
        → fitting_of β t (from_divisor (next_divisor c g t) (common_divisors c t)) ≡ fitting_of β t (from_divisor g (common_divisors c t))
    from_next g h s f =
        let ds = common_divisors c t in
        ap (λ (n : ℕ). fitting_of β t (from_divisor n ds)) (next-largest c g t)
        ∙ sym (next-below c g ds h (divisors-down c t) (common-tried c t))
        ∙ sym (rw (lt-ltb 1 g h) (try-small g (below g ds) s f))

    pub from-none : (g : ℕ) → g ≤ 1 → fitting_of β t (from_divisor g (common_divisors c t)) ≡ F.None
    unfolding fitting_of
    from-none g h = rw (le-ltb 1 g h) refl

  -- ---- what the search means

  module _ (o : Op) (c : ℕ) where
    abbrev pub Means : List ℕ → Found → Type 0
    Means gs F.Passed = small_sums β (rests_tried β t gs) ≡ false
    Means gs (F.At g q) =
        (small_sums β (rests_tried β t gs) ≡ true)
        × (rules2 β o t c gs ≡ rule2 o t c (nat_abs g) q)
        × (small_sum β (part_r (nat_abs g) t) ≡ true)
        × (q ≡ quotient_of β (nat_abs g) (part_r (nat_abs g) t))
    Means gs F.None = (small_sums β (rests_tried β t gs) ≡ true) × (rules2 β o t c gs ≡ rules34 o t c)

    -- a number that keeps the limits and does not fit
    more : (g : ℕ) (gs : List ℕ) (f : Found) → small_sum β (part_r g t) ≡ true → one_quotient β g (part_r g t) ≡ false → Means gs f → Means (g ∷ gs) f
    unfolding small_sums rests_tried rules2
    more g gs F.Passed s q m = rw (s, q) m
    more g gs (F.At h k) s q m = (rw (s, q) m.0, rw q m.1, m.2, m.3)
    more g gs F.None s q m = (rw (s, q) m.0, rw q m.1)

    pub found-means : (gs : List ℕ) → Means gs (fitting_of β t gs)
    unfolding fitting_of small_sums rests_tried rules2
    found-means [] = (refl, refl)
    found-means (g ∷ gs) = go (small_sum β (part_r g t)) (one_quotient β g (part_r g t)) refl refl (found-means gs)
      where
        go : (s q : Bool) → small_sum β (part_r g t) ≡ s → one_quotient β g (part_r g t) ≡ q → Means gs (fitting_of β t gs)
            → Means (g ∷ gs) (cond s (cond q (F.At (pos g) (quotient_of β g (part_r g t))) (fitting_of β t gs)) F.Passed)
        go true true i j ih = (rw (i, j) refl, rw j refl, i, refl)
        go true false i j ih = more g gs (fitting_of β t gs) i j ih
        go false q i j ih = rw i refl
