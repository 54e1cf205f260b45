-- Weights in four words: their order, their sums, and storing them. Assumes nothing.
use Prim.Native.Nat.{ℕ, ◌+◌, ◌*◌, ◌/◌, ◌%◌, ◌^◌, ◌≤◌, ◌<◌, min}
use mathlib.Core.Path.{◌≡◌, refl, sym, ap, ◌∙◌}
use mathlib.Core.Bool.{Bool, true, false}
use mathlib.Core.List.{List}
use native.Mathlib.Omega.{arith}
use native.Mathlib.Decide.{dec_lt}
use native.Mathlib.Nat.{mul_assoc, le_of_lt}
use borrow.Author.Tests.{lt-ltb, le-ltb, ltb-true, ltb-false}
use lib.Dec.{ltb}
use lib.ListN.{length, get_or, set, length-set}
use lib.Seq.{get_or-set_same, get_or-set_other}
use Rattle.tree_plan.specs.Weight.{scale, far_weight}
use Rattle.tree_planner.specs.Words.{value_of, Worded, Good}
use Rattle.tree_planner.specs.Rows.{Stored}
use Rattle.tree_planner.specs.declared.Weight.{Weight}

abbrev pub word : ℕ → ℕ → ℕ → ℕ → Weight
word t h m l = record { top = t; high = h; mid = m; low = l }

-- One word more.
more_lt : (x y r s : ℕ) → x < y → r < 2 ^ 63 → x * 2 ^ 63 + r < y * 2 ^ 63 + s
more_lt x y r s l h = omega arith

more_same : (x y r s : ℕ) → x ≡ y → r < s → x * 2 ^ 63 + r < y * 2 ^ 63 + s
more_same x y r s e h = omega arith

more-le : (x y s : ℕ) → x ≤ y → x * 2 ^ 63 + 0 ≤ y * 2 ^ 63 + s
more-le x y s l = omega arith

carry : (p q r s c : ℕ) → (p + q + (r + s + c) / 2 ^ 63) * 2 ^ 63 + (r + s + c) % 2 ^ 63 ≡ p * 2 ^ 63 + r + (q * 2 ^ 63 + s) + c
carry p q r s c = omega arith

carry-last : (p q r s : ℕ) → (p + q + (r + s) / 2 ^ 63) * 2 ^ 63 + (r + s) % 2 ^ 63 ≡ p * 2 ^ 63 + r + (q * 2 ^ 63 + s)
carry-last p q r s = omega arith

pub far-value : value_of (word (2 ^ 60) 0 0 0) ≡ far_weight
unfolding value_of far_weight scale
far-value = refl

pub far-good : Good (word (2 ^ 60) 0 0 0)
far-good = record { words = record { high = omega arith; mid = omega arith; low = omega arith }; top = omega arith }

-- the top word decides
pub value-lt : (a b : Weight) → Worded a → a.top < b.top → value_of a < value_of b
unfolding value_of
value-lt a b A t = more_lt _ _ _ _ (more_lt _ _ _ _ (more_lt _ _ _ _ t A.high) A.mid) A.low

pub value-high : (a b : Weight) → Worded a → a.top ≡ b.top → a.high < b.high → value_of a < value_of b
unfolding value_of
value-high a b A e t = more_lt _ _ _ _ (more_lt _ _ _ _ (more_same _ _ _ _ e t) A.mid) A.low

same_more : (x y r s : ℕ) → x ≡ y → r ≡ s → x * 2 ^ 63 + r ≡ y * 2 ^ 63 + s
same_more x y r s e f = omega arith

pub value_mid : (a b : Weight) → Worded a → a.top ≡ b.top → a.high ≡ b.high → a.mid < b.mid → value_of a < value_of b
unfolding value_of
value_mid a b A e f t = more_lt _ _ _ _ (more_same _ _ _ _ (same_more _ _ _ _ e f) t) A.low

pub value_low : (a b : Weight) → a.top ≡ b.top → a.high ≡ b.high → a.mid ≡ b.mid → a.low ≤ b.low → value_of a ≤ value_of b
unfolding value_of
value_low a b e f g t = last _ _ _ _ (same_more _ _ _ _ (same_more _ _ _ _ e f) g) t
  where
    last : (x y r s : ℕ) → x ≡ y → r ≤ s → x * 2 ^ 63 + r ≤ y * 2 ^ 63 + s
    last x y r s e f = omega arith

value-low-lt : (a b : Weight) → a.top ≡ b.top → a.high ≡ b.high → a.mid ≡ b.mid → a.low < b.low → value_of a < value_of b
unfolding value_of
value-low-lt a b e f g t = more_same _ _ _ _ (same_more _ _ _ _ (same_more _ _ _ _ e f) g) t

far-over : (t x y z : ℕ) → 2 ^ 60 ≤ t → value_of (word (2 ^ 60) 0 0 0) ≤ value_of (word t x y z)
unfolding value_of
far-over t x y z l = more-le _ _ _ (more-le _ _ _ (more-le _ _ _ l))

pub far-le : (t x y z : ℕ) → 2 ^ 60 ≤ t → far_weight ≤ value_of (word t x y z)
far-le t x y z l = omega (arith, far-over t x y z l, far-value)

pub small-good : (t h m l : ℕ) → t ≤ 2 ^ 60 → h < 2 ^ 63 → m < 2 ^ 63 → l < 2 ^ 63 → Good (word t h m l)
small-good t h m l p q r s = record { words = record { high = q; mid = r; low = s }; top = p }

ltb-same : (x y p q : ℕ) → (x < y → p < q) → (y ≤ x → q ≤ p) → ltb x y ≡ ltb p q
ltb-same x y p q f g =
    elim (dec_lt x y) [
      | yes l ↦ lt-ltb x y l ∙ sym (lt-ltb p q (f l))
      | no n ↦ let h : y ≤ x = omega arith in le-ltb x y h ∙ sym (le-ltb p q (g h))
    ]

pub sum_fits : (x y s : ℕ) → x ≤ 2 ^ 60 → y ≤ 2 ^ 60 → s < 2 ^ 64 → x + y + s / 2 ^ 63 < 2 ^ 64
sum_fits x y s h g l = omega arith

module _ (a b : Weight) (A : Worded a) (B : Worded b) where
  pub less-top : (a.top ≡ b.top → ⊥) → ltb a.top b.top ≡ ltb (value_of a) (value_of b)
  less-top n =
      ltb-same a.top b.top (value_of a) (value_of b) (value-lt a b A)
      (λ l. le_of_lt (value-lt b a B (omega arith)))

  pub less-high : a.top ≡ b.top → (a.high ≡ b.high → ⊥) → ltb a.high b.high ≡ ltb (value_of a) (value_of b)
  less-high e n =
      ltb-same a.high b.high (value_of a) (value_of b) (value-high a b A e)
      (λ l. le_of_lt (value-high b a B (sym e) (omega arith)))

  pub less-mid :
      a.top ≡ b.top → a.high ≡ b.high → (a.mid ≡ b.mid → ⊥) → ltb a.mid b.mid ≡ ltb (value_of a) (value_of b)
  less-mid e f n =
      ltb-same a.mid b.mid (value_of a) (value_of b) (value_mid a b A e f)
      (λ l. le_of_lt (value_mid b a B (sym e) (sym f) (omega arith)))

  pub less-low :
      a.top ≡ b.top → a.high ≡ b.high → a.mid ≡ b.mid → ltb a.low b.low ≡ ltb (value_of a) (value_of b)
  less-low e f g =
      ltb-same a.low b.low (value_of a) (value_of b) (value-low-lt a b e f g) (value_low b a (sym e) (sym f) (sym g))

module _ (a b : Weight) (A : Good a) (B : Good b) where
  -- the four sums
  abbrev s0 : ℕ
  s0 = a.low + b.low

  abbrev s1 : ℕ
  s1 = a.mid + b.mid + s0 / 2 ^ 63

  abbrev s2 : ℕ
  s2 = a.high + b.high + s1 / 2 ^ 63

  abbrev s3 : ℕ
  s3 = a.top + b.top + s2 / 2 ^ 63

  pub sum-value : value_of (word s3 (s2 % 2 ^ 63) (s1 % 2 ^ 63) (s0 % 2 ^ 63)) ≡ value_of a + value_of b
  unfolding value_of
  sum-value =
      ap (λ (x : ℕ). (x * 2 ^ 63 + s1 % 2 ^ 63) * 2 ^ 63 + s0 % 2 ^ 63) (carry a.top b.top a.high b.high (s1 / 2 ^ 63))
      ∙ ap (λ (x : ℕ). x * 2 ^ 63 + s0 % 2 ^ 63)
      (carry (a.top * 2 ^ 63 + a.high) (b.top * 2 ^ 63 + b.high) a.mid b.mid (s0 / 2 ^ 63))
      ∙ carry-last ((a.top * 2 ^ 63 + a.high) * 2 ^ 63 + a.mid) ((b.top * 2 ^ 63 + b.high) * 2 ^ 63 + b.mid) a.low b.low

  pub sum-worded : Worded (word s3 (s2 % 2 ^ 63) (s1 % 2 ^ 63) (s0 % 2 ^ 63))
  sum-worded = record { high = omega arith; mid = omega arith; low = omega arith }

-- the top words of a sum
tops : (x y : Weight) → value_of (word (x.top + y.top) 0 0 0) ≤ value_of x + value_of y
unfolding value_of
tops x y = up _ _ _ _ _ (up _ _ _ _ _ (first _ _ _ _))
  where
    first : (p q r s : ℕ) → (p + q) * 2 ^ 63 + 0 ≤ p * 2 ^ 63 + r + (q * 2 ^ 63 + s)
    first p q r s = omega arith

    up : (z p q r s : ℕ) → z ≤ p + q → z * 2 ^ 63 + 0 ≤ p * 2 ^ 63 + r + (q * 2 ^ 63 + s)
    up z p q r s l = omega arith

-- a weight whose top word is less than those of a sum
pub sum_more : (w x y : Weight) → Worded w → w.top < x.top + y.top → value_of w ≡ min (value_of w) (value_of x + value_of y)
sum_more w x y W h = least (value_of w) (value_of x + value_of y) _ (value-lt w (word (x.top + y.top) 0 0 0) W h) (tops x y)
  where
    least : (v s z : ℕ) → v < z → z ≤ s → v ≡ min v s
    least v s z l m = omega arith

-- the sums of the words
abbrev pub sums : Weight → Weight → Weight
sums x y = word (x.top + y.top) (x.high + y.high) (x.mid + y.mid) (x.low + y.low)

sums-value : (x y : Weight) → value_of (sums x y) ≡ value_of x + value_of y
unfolding value_of
sums-value x y =
    ap (λ (z : ℕ). (z * 2 ^ 63 + (x.mid + y.mid)) * 2 ^ 63 + (x.low + y.low)) (both x.top y.top x.high y.high)
    ∙ ap (λ (z : ℕ). z * 2 ^ 63 + (x.low + y.low)) (both (x.top * 2 ^ 63 + x.high) (y.top * 2 ^ 63 + y.high) x.mid y.mid)
    ∙ both ((x.top * 2 ^ 63 + x.high) * 2 ^ 63 + x.mid) ((y.top * 2 ^ 63 + y.high) * 2 ^ 63 + y.mid) x.low y.low
  where
    both : (p q r s : ℕ) → (p + q) * 2 ^ 63 + (r + s) ≡ p * 2 ^ 63 + r + (q * 2 ^ 63 + s)
    both p q r s = omega arith

-- a weight up to those
pub sums_more : (w x y : Weight) → value_of w ≤ value_of (sums x y) → value_of w ≡ min (value_of w) (value_of x + value_of y)
sums_more w x y h = least (value_of w) (value_of x + value_of y) _ h (sums-value x y)
  where
    least : (v s z : ℕ) → v ≤ z → z ≡ s → v ≡ min v s
    least v s z l m = omega arith

-- a cost on top
pub raise-value : (a : Weight) (cost : ℕ) → value_of (word (a.top + cost * 8) a.high a.mid a.low) ≡ value_of a + cost * scale
unfolding value_of scale
raise-value a cost =
    ap (λ (x : ℕ). (x * 2 ^ 63 + a.mid) * 2 ^ 63 + a.low) (shift a.top (cost * 8) a.high)
    ∙ ap (λ (x : ℕ). x * 2 ^ 63 + a.low) (shift (a.top * 2 ^ 63 + a.high) (cost * 8 * 2 ^ 63) a.mid)
    ∙ shift ((a.top * 2 ^ 63 + a.high) * 2 ^ 63 + a.mid) (cost * 8 * 2 ^ 63 * 2 ^ 63) a.low
    ∙ ap (λ (x : ℕ). value_of a + x)
    (ap (λ (x : ℕ). x * 2 ^ 63) (ap (λ (x : ℕ). x * 2 ^ 63) (mul_assoc cost 8 (2 ^ 63)) ∙ mul_assoc cost (8 * 2 ^ 63) (2 ^ 63))
    ∙ mul_assoc cost (8 * 2 ^ 63 * 2 ^ 63) (2 ^ 63))
  where
    shift : (p c r : ℕ) → (p + c) * 2 ^ 63 + r ≡ p * 2 ^ 63 + r + c * 2 ^ 63
    shift p c r = omega arith

-- a weight of a cost alone
pub cost-value : (cost : ℕ) → value_of (word (cost * 8) 0 0 0) ≡ cost * scale
unfolding value_of
cost-value cost =
    let e : cost * 8 ≡ 0 + cost * 8 = omega arith in
    let z : 0 + cost * scale ≡ cost * scale = omega arith in
    ap (λ (x : ℕ). value_of (word x 0 0 0)) e ∙ raise-value (word 0 0 0 0) cost ∙ z

-- Four stores.
pub stored :
    (T : List ℕ) (e : ℕ) (w : Weight) →
    e * 4 + 4 ≤ length T →
    Stored T (set (set (set (set T (e * 4) w.top) (e * 4 + 1) w.high) (e * 4 + 2) w.mid) (e * 4 + 3) w.low) e w
stored T e w h =
    record {
      long = length-set S3 (e * 4 + 3) w.low ∙ long3;
      here =
          four _ _ _ _ _ _ _ _
          (get_or-set_other S3 (e * 4 + 3) (e * 4) w.low 0 (λ q. omega arith)
          ∙ get_or-set_other S2 (e * 4 + 2) (e * 4) w.mid 0 (λ q. omega arith)
          ∙ get_or-set_other S1 (e * 4 + 1) (e * 4) w.high 0 (λ q. omega arith)
          ∙ get_or-set_same T (e * 4) w.top 0 (omega arith))
          (get_or-set_other S3 (e * 4 + 3) (e * 4 + 1) w.low 0 (λ q. omega arith)
          ∙ get_or-set_other S2 (e * 4 + 2) (e * 4 + 1) w.mid 0 (λ q. omega arith)
          ∙ get_or-set_same S1 (e * 4 + 1) w.high 0 (omega (arith, long1)))
          (get_or-set_other S3 (e * 4 + 3) (e * 4 + 2) w.low 0 (λ q. omega arith)
          ∙ get_or-set_same S2 (e * 4 + 2) w.mid 0 (omega (arith, long2)))
          (get_or-set_same S3 (e * 4 + 3) w.low 0 (omega (arith, long3)));
      other =
          λ x n.
          four _ _ _ _ _ _ _ _ (past (x * 4) (λ i l q. n (omega arith))) (past (x * 4 + 1) (λ i l q. n (omega arith)))
          (past (x * 4 + 2) (λ i l q. n (omega arith)))
          (past (x * 4 + 3) (λ i l q. n (omega arith)));
    }
  where
    S1 : List ℕ
    S1 = set T (e * 4) w.top

    S2 : List ℕ
    S2 = set S1 (e * 4 + 1) w.high

    S3 : List ℕ
    S3 = set S2 (e * 4 + 2) w.mid

    long1 : length S1 ≡ length T
    long1 = length-set T (e * 4) w.top

    long2 : length S2 ≡ length T
    long2 = length-set S1 (e * 4 + 1) w.high ∙ long1

    long3 : length S3 ≡ length T
    long3 = length-set S2 (e * 4 + 2) w.mid ∙ long2

    past : (x : ℕ) → ((i : ℕ) → i < 4 → x ≡ e * 4 + i → ⊥) → get_or (set S3 (e * 4 + 3) w.low) x 0 ≡ get_or T x 0
    past x n =
        get_or-set_other S3 (e * 4 + 3) x w.low 0 (λ q. n 3 (omega arith) (omega arith))
        ∙ get_or-set_other S2 (e * 4 + 2) x w.mid 0 (λ q. n 2 (omega arith) (omega arith))
        ∙ get_or-set_other S1 (e * 4 + 1) x w.high 0 (λ q. n 1 (omega arith) (omega arith))
        ∙ get_or-set_other T (e * 4) x w.top 0 (λ q. n 0 (omega arith) (omega arith))

    four :
        (a b c d a' b' c' d' : ℕ) → a ≡ a' → b ≡ b' → c ≡ c' → d ≡ d' → word a b c d ≡ word a' b' c' d'
    four a b c d a' b' c' d' p q r s = cc

pub smaller-second : (a b : Weight) (r : Bool) → Good a → Worded b → r ≡ ltb (value_of b) (value_of a) → r ≡ true → (value_of b ≡ min (value_of a) (value_of b)) × Good b
smaller-second a b r A B e t =
    let l : value_of b < value_of a = ltb-true _ _ (sym e ∙ t) in
    (omega arith, record { words = B; top = elim (dec_lt a.top b.top) [ yes h ↦ absurd (omega (arith, value-lt a b A.words h)) | no h ↦ omega (arith, A.top) ] })

pub smaller-first : (a b : Weight) (r : Bool) → r ≡ ltb (value_of b) (value_of a) → r ≡ false → value_of a ≡ min (value_of a) (value_of b)
smaller-first a b r e t = let l : value_of a ≤ value_of b = ltb-false _ _ (sym e ∙ t) in omega arith
