-- Places as digits in words: powers of 8, a station's own weight, and reading a place. Assumes nothing.
use Prim.Native.Nat.{ℕ, zero, suc, ◌+◌, ◌*◌, ◌-◌, ◌/◌, ◌%◌, ◌^◌, ◌≤◌, ◌<◌}
use mathlib.Core.Path.{◌≡◌, refl, sym, ap, ap₂, subst, ◌∙◌}
use mathlib.Core.List.{List}
use native.Mathlib.Omega.{arith}
use native.Mathlib.Nat.{pow-succ', pow-le-pow_right, mul_assoc, mul_comm, one-le-pow, mul-le-mul_right, div-div-eq-div-mul, mul-add-div_right, mul-add-mod_self_right}
use borrow.Author.Tests.{le-leb, lt-leb}
use lib.ListN.{get_or}
use Rattle.tree_plan.specs.Weight.{scale, unit, far_weight, place_in}
use Rattle.tree_planner.specs.declared.Weight.{Weight}
use Rattle.tree_planner.specs.Words.{value_of, Worded, Good}
use Rattle.tree_planner.specs.Merging.{own_at}
use Rattle.tree_planner.proofs.Adding.{word, raise-value, small-good}
use native.Mathlib.Numerals.{add-one}

pub power-low : (i : ℕ) → i ≤ 20 → 8 ^ i ≤ 2 ^ 60
power-low i h = pow-le-pow_right (omega arith) h

pub power-next : (i p : ℕ) → p ≡ 8 ^ i → p * 8 ≡ 8 ^ (i + 1)
power-next i p e = rw add-one (omega (arith, pow-succ' 8 i))

power-add : (x y : ℕ) → 8 ^ (x + y) ≡ 8 ^ x * 8 ^ y
power-add zero y =
    let e : 0 + y ≡ y = omega arith in
    let q : 8 ^ y ≡ 1 * 8 ^ y = omega arith in
    ap (λ (z : ℕ). 8 ^ z) e ∙ q
power-add (suc x) y =
    let e : suc x + y ≡ suc (x + y) = omega arith in
    ap (λ (z : ℕ). 8 ^ z) e
    ∙ pow-succ' 8 (x + y)
    ∙ ap (λ (z : ℕ). 8 * z) (power-add x y)
    ∙ sym (mul_assoc 8 (8 ^ x) (8 ^ y))
    ∙ ap (λ (z : ℕ). z * 8 ^ y) (sym (pow-succ' 8 x))

unit-first : unit 0 ≡ 1 * 2 ^ 63 * 2 ^ 63 * 2 ^ 63
unfolding unit
unit-first = refl

unit-high : (i : ℕ) → i < 22 → unit i ≡ 8 ^ (21 - i) * 2 ^ 63 * 2 ^ 63
unfolding unit
unit-high i h =
    let e : 63 - i ≡ 21 - i + 42 = omega arith in
    ap (λ (x : ℕ). 8 ^ x) e ∙ power-add (21 - i) 42 ∙ sym (mul_assoc (8 ^ (21 - i)) (2 ^ 63) (2 ^ 63))

unit-mid : (i : ℕ) → i < 43 → unit i ≡ 8 ^ (42 - i) * 2 ^ 63
unfolding unit
unit-mid i h =
    let e : 63 - i ≡ 42 - i + 21 = omega arith in
    ap (λ (x : ℕ). 8 ^ x) e ∙ power-add (42 - i) 21

pub power-end : (i x p : ℕ) → i ≡ x → x ≤ 20 → p ≡ 8 ^ i → (p ≡ 8 ^ x) × (p ≤ 2 ^ 60)
power-end i x p e l h = let q : p ≡ 8 ^ x = h ∙ ap (λ (y : ℕ). 8 ^ y) e in (q, omega (arith, power-low x l))

-- Values of words that hold one digit.
zero-out : (x : ℕ) → x * 2 ^ 63 + 0 ≡ x * 2 ^ 63
zero-out x = omega arith

zero_in : (x : ℕ) → 0 * 2 ^ 63 + x ≡ x
zero_in x = omega arith

value-top : (d : ℕ) → value_of (word d 0 0 0) ≡ d * 2 ^ 63 * 2 ^ 63 * 2 ^ 63
unfolding value_of
value-top d =
    zero-out ((d * 2 ^ 63 + 0) * 2 ^ 63 + 0)
    ∙ ap (λ (x : ℕ). x * 2 ^ 63) (zero-out (d * 2 ^ 63 + 0))
    ∙ ap (λ (x : ℕ). x * 2 ^ 63 * 2 ^ 63) (zero-out d)

value-high : (h : ℕ) → value_of (word 0 h 0 0) ≡ h * 2 ^ 63 * 2 ^ 63
unfolding value_of
value-high h =
    zero-out ((0 * 2 ^ 63 + h) * 2 ^ 63 + 0)
    ∙ ap (λ (x : ℕ). x * 2 ^ 63) (zero-out (0 * 2 ^ 63 + h))
    ∙ ap (λ (x : ℕ). x * 2 ^ 63 * 2 ^ 63) (zero_in h)

value_mid : (m : ℕ) → value_of (word 0 0 m 0) ≡ m * 2 ^ 63
unfolding value_of
value_mid m = zero-out ((0 * 2 ^ 63 + 0) * 2 ^ 63 + m) ∙ ap (λ (x : ℕ). x * 2 ^ 63) (zero_in m)

value_low : (l : ℕ) → value_of (word 0 0 0 l) ≡ l
unfolding value_of
value_low l = zero_in l

pub digit_low : (d p : ℕ) → d < 8 → p ≤ 2 ^ 60 → d * p < 2 ^ 63
digit_low d p h l = let e : d * p ≤ 7 * p = mul-le-mul_right p (omega arith) in omega arith

pub digit-fits : (d p : ℕ) → d < 8 → p ≤ 2 ^ 60 → d * p < 2 ^ 64
digit-fits d p h l = omega (arith, digit_low d p h l)

module _ (sizes : List ℕ) (cells i d : ℕ) (few : cells ≤ 2 ^ 40) (low : d < 8) where
  abbrev size : ℕ
  size = get_or sizes (i * 8 + d) 0

  pub own-none : cells < size → (r : ℕ) → r ≡ far_weight → r ≡ own_at sizes cells i d
  unfolding own_at
  own-none h r e = simp (lt-leb _ _ h) e

  own-some : size ≤ cells → (r : ℕ) → r ≡ size * scale + d * unit i → r ≡ own_at sizes cells i d
  unfolding own_at
  own-some h r e = simp (le-leb _ _ h) e

  -- a digit's words with the size on top
  on-top :
      (t h m l : ℕ) →
      size ≤ cells →
      t < 8 →
      h < 2 ^ 63 →
      m < 2 ^ 63 →
      l < 2 ^ 63 →
      value_of (word t h m l) ≡ d * unit i →
      (value_of (word (t + size * 8) h m l) ≡ own_at sizes cells i d) × Good (word (t + size * 8) h m l)
  on-top t h m l s p q r y e = (
    own-some s (value_of (word (t + size * 8) h m l))
        (raise-value (word t h m l) size
        ∙ ap (λ (x : ℕ). x + size * scale) e
        ∙ swap (d * unit i) (size * scale)),
    small-good (t + size * 8) h m l (omega arith) q r y,
  )
    where
      swap : (x y : ℕ) → x + y ≡ y + x
      swap x y = omega arith

  plain :
      (h m l : ℕ) →
      (value_of (word (0 + size * 8) h m l) ≡ own_at sizes cells i d) × Good (word (0 + size * 8) h m l) →
      (value_of (word (size * 8) h m l) ≡ own_at sizes cells i d) × Good (word (size * 8) h m l)
  plain h m l =
      let e : 0 + size * 8 ≡ size * 8 = omega arith in
      subst (λ (x : ℕ). (value_of (word x h m l) ≡ own_at sizes cells i d) × Good (word x h m l)) e

  pub own_first :
      i ≡ 0 → size ≤ cells → (value_of (word (size * 8 + d) 0 0 0) ≡ own_at sizes cells i d) × Good (word (size * 8 + d) 0 0 0)
  own_first e s =
      subst (λ (x : ℕ). (value_of (word x 0 0 0) ≡ own_at sizes cells i d) × Good (word x 0 0 0)) after
      (on-top d 0 0 0 s low (omega arith) (omega arith) (omega arith)
      (value-top d ∙ three ∙ ap (λ (x : ℕ). d * x) (sym unit-first ∙ ap unit (sym e))))
    where
      after : d + size * 8 ≡ size * 8 + d
      after = omega arith

      three : d * 2 ^ 63 * 2 ^ 63 * 2 ^ 63 ≡ d * (1 * 2 ^ 63 * 2 ^ 63 * 2 ^ 63)
      three = ap (λ (x : ℕ). x * 2 ^ 63) (mul_assoc d (2 ^ 63) (2 ^ 63)) ∙ mul_assoc d (2 ^ 63 * 2 ^ 63) (2 ^ 63)

  module _ (p : ℕ) (cap : p ≤ 2 ^ 60) where
    pub own-high :
        i < 22 →
        size ≤ cells →
        p ≡ 8 ^ (21 - i) →
        (value_of (word (size * 8) (d * p) 0 0) ≡ own_at sizes cells i d) × Good (word (size * 8) (d * p) 0 0)
    own-high h s e =
        plain (d * p) 0 0
        (on-top 0 (d * p) 0 0 s (omega arith) (digit_low d p low cap) (omega arith) (omega arith)
        (value-high (d * p)
        ∙ ap (λ (x : ℕ). x * 2 ^ 63) (mul_assoc d p (2 ^ 63))
        ∙ mul_assoc d (p * 2 ^ 63) (2 ^ 63)
        ∙ ap (λ (x : ℕ). d * x) (ap (λ (x : ℕ). x * 2 ^ 63 * 2 ^ 63) e ∙ sym (unit-high i h))))

    pub own-mid :
        i < 43 →
        size ≤ cells →
        p ≡ 8 ^ (42 - i) →
        (value_of (word (size * 8) 0 (d * p) 0) ≡ own_at sizes cells i d) × Good (word (size * 8) 0 (d * p) 0)
    own-mid h s e =
        plain 0 (d * p) 0
        (on-top 0 0 (d * p) 0 s (omega arith) (omega arith) (digit_low d p low cap) (omega arith)
        (value_mid (d * p)
        ∙ mul_assoc d p (2 ^ 63)
        ∙ ap (λ (x : ℕ). d * x) (ap (λ (x : ℕ). x * 2 ^ 63) e ∙ sym (unit-mid i h))))

    pub own-low :
        size ≤ cells →
        p ≡ 8 ^ (63 - i) →
        (value_of (word (size * 8) 0 0 (d * p)) ≡ own_at sizes cells i d) × Good (word (size * 8) 0 0 (d * p))
    unfolding unit
    own-low s e =
        plain 0 0 (d * p)
        (on-top 0 0 0 (d * p) s (omega arith) (omega arith) (omega arith) (digit_low d p low cap)
        (value_low (d * p) ∙ ap (λ (x : ℕ). d * x) e))

-- Reading a place.
word-div : (x l : ℕ) → l < 2 ^ 63 → (x * 2 ^ 63 + l) / 2 ^ 63 ≡ x
word-div x l h = omega arith

digit-of : (t h s p : ℕ) → s ≤ 20 → p ≡ 8 ^ s → ((t * 2 ^ 63 + h) / p) % 8 ≡ (h / p) % 8
digit-of t h s p l e =
    ap (λ (x : ℕ). ((x + h) / p) % 8) whole
    ∙ ap (λ (x : ℕ). x % 8) (mul-add-div_right some (t * 8 ^ (20 - s) * 8) h)
    ∙ mul-add-mod_self_right (t * 8 ^ (20 - s)) 8 (h / p)
  where
    some : 0 < p
    some = omega (arith, one-le-pow s 8 (omega arith), e)

    base : 2 ^ 63 ≡ 8 ^ (20 - s) * 8 * p
    base =
        let i : 21 ≡ suc (20 - s) + s = omega arith in
        let z : 2 ^ 63 ≡ 8 ^ 21 = refl in
        z
        ∙ ap (λ (x : ℕ). 8 ^ x) i
        ∙ power-add (suc (20 - s)) s
        ∙ ap₂ ◌*◌ (pow-succ' 8 (20 - s) ∙ mul_comm 8 (8 ^ (20 - s))) (sym e)

    whole : t * 2 ^ 63 ≡ t * 8 ^ (20 - s) * 8 * p
    whole =
        ap (λ (x : ℕ). t * x) base
        ∙ sym (mul_assoc t (8 ^ (20 - s) * 8) p)
        ∙ ap (λ (x : ℕ). x * p) (sym (mul_assoc t (8 ^ (20 - s)) 8))

module _ (w : Weight) (G : Worded w) where
  one_word : value_of w / 2 ^ 63 ≡ (w.top * 2 ^ 63 + w.high) * 2 ^ 63 + w.mid
  unfolding value_of
  one_word = word-div ((w.top * 2 ^ 63 + w.high) * 2 ^ 63 + w.mid) w.low G.low

  two-words : value_of w / 2 ^ 63 / 2 ^ 63 ≡ w.top * 2 ^ 63 + w.high
  two-words = ap (λ (x : ℕ). x / 2 ^ 63) one_word ∙ word-div (w.top * 2 ^ 63 + w.high) w.mid G.mid

  pub three-words : value_of w / 2 ^ 63 / 2 ^ 63 / 2 ^ 63 ≡ w.top
  three-words = ap (λ (x : ℕ). x / 2 ^ 63) two-words ∙ word-div w.top w.high G.high

  pub place-first : (i : ℕ) → i ≡ 0 → w.top % 8 ≡ place_in (value_of w) i
  unfolding place_in
  place-first i e =
      ap (λ (x : ℕ). x % 8)
      (sym three-words
      ∙ div-div-eq-div-mul (value_of w / 2 ^ 63) (2 ^ 63) (2 ^ 63)
      ∙ div-div-eq-div-mul (value_of w) (2 ^ 63) (2 ^ 63 * 2 ^ 63)
      ∙ ap (λ (x : ℕ). value_of w / x) (sym unit-first ∙ ap unit (sym e)))

  module _ (p i : ℕ) where
    pub place-high : 1 ≤ i → i < 22 → p ≡ 8 ^ (21 - i) → (w.high / p) % 8 ≡ place_in (value_of w) i
    unfolding place_in
    place-high l h e =
        sym (digit-of w.top w.high (21 - i) p (omega arith) e)
        ∙ ap (λ (x : ℕ). x % 8)
        (ap (λ (x : ℕ). x / p) (sym two-words)
        ∙ div-div-eq-div-mul (value_of w / 2 ^ 63) (2 ^ 63) p
        ∙ div-div-eq-div-mul (value_of w) (2 ^ 63) (2 ^ 63 * p)
        ∙ ap (λ (x : ℕ). value_of w / x) same)
      where
        same : 2 ^ 63 * (2 ^ 63 * p) ≡ unit i
        same =
            mul_comm (2 ^ 63) (2 ^ 63 * p)
            ∙ ap (λ (x : ℕ). x * 2 ^ 63) (mul_comm (2 ^ 63) p ∙ ap (λ (x : ℕ). x * 2 ^ 63) e)
            ∙ sym (unit-high i h)

    pub place-mid : 22 ≤ i → i < 43 → p ≡ 8 ^ (42 - i) → (w.mid / p) % 8 ≡ place_in (value_of w) i
    unfolding place_in
    place-mid l h e =
        sym (digit-of (w.top * 2 ^ 63 + w.high) w.mid (42 - i) p (omega arith) e)
        ∙ ap (λ (x : ℕ). x % 8)
        (ap (λ (x : ℕ). x / p) (sym one_word)
        ∙ div-div-eq-div-mul (value_of w) (2 ^ 63) p
        ∙ ap (λ (x : ℕ). value_of w / x) (mul_comm (2 ^ 63) p ∙ ap (λ (x : ℕ). x * 2 ^ 63) e ∙ sym (unit-mid i h)))

    pub place-low : 43 ≤ i → p ≡ 8 ^ (63 - i) → (w.low / p) % 8 ≡ place_in (value_of w) i
    unfolding place_in value_of unit
    place-low l e =
        sym (digit-of ((w.top * 2 ^ 63 + w.high) * 2 ^ 63 + w.mid) w.low (63 - i) p (omega arith) e)
        ∙ ap (λ (x : ℕ). (value_of w / x) % 8) e

pub power-some : (s p : ℕ) → p ≡ 8 ^ s → 0 < p
power-some s p e = omega (arith, one-le-pow s 8 (omega arith))
