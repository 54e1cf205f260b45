-- `tiling::runs::rest_of` meets its contract. Assumes nothing.
use Rattle.std.proofs.Common.{◌≡◌, ◌∙◌, ◌<◌, ◌≤◌, ◌+◌, ◌-◌, ◌*◌, ◌/◌, ◌%◌, ℕ, List, sym, ap, subst, arith, length, get_or, drop}
use native.Mathlib.Nat.{mod-lt, mul_comm, mul-le-mul_right}
use Rattle.radix.proofs.Lists.{rest-of}
use Rattle.radix.proofs.Loops.{quotient-before}
use Rattle.radix.specs.Radix.{max_count, prod, Sizes, Bounded}
use Rattle.tiling.proofs.RunEnds.{rest-next, rest-found, rest_all, prod-last}
use Rattle.tiling.specs.Runs.{rest_of}
use Rattle.tiling.proofs.runs.rest_of.Goals as goal

-- the place below i, where the digits of k from i on are 0
module _ (ds : List ℕ) (s : Sizes ds) (k i span q : ℕ) (l : k < prod ds) (some : 0 < i) (within : i ≤ length ds) (v : (span ≡ prod (drop i ds)) × (q ≡ k / prod (drop i ds)) × (k % prod (drop i ds) ≡ 0)) where
  abbrev j : ℕ
  j = i - 1

  abbrev d : ℕ
  d = get_or ds j 0

  abbrev w : ℕ
  w = prod (drop (j + 1) ds)

  next : i ≡ j + 1
  next = omega arith

  here : j < length ds
  here = omega arith

  size-pos : 0 < d
  unfolding Bounded
  size-pos = (s j here).0

  span-is : span ≡ w
  span-is = v.0 ∙ ap (λ (x : ℕ). prod (drop x ds)) next

  quotient : q ≡ k / w
  quotient = v.1 ∙ ap (λ (x : ℕ). k / prod (drop x ds)) next

  none : k % w ≡ 0
  none = ap (λ (x : ℕ). k % prod (drop x ds)) (sym next) ∙ v.2

  digit : q % d ≡ k / w % d
  digit = ap (λ (x : ℕ). x % d) quotient

  product : d * span ≡ prod (drop j ds)
  product = ap (λ (x : ℕ). d * x) span-is ∙ sym (ap prod (rest-of ds j here))

  -- the product with one size more is small
  low : prod ds ≤ max_count → d * span ≤ max_count
  low h = omega (arith, product, h, prod-last j ds (omega (arith, l)))

  below : prod ds ≤ max_count → (d - q % d) * span ≤ max_count
  below h = let a : (d - q % d) * span ≤ d * span = mul-le-mul_right span (omega arith) in omega (arith, a, low h)

  found : 0 < q % d → (d - q % d) * span ≡ rest_of ds k
  found g =
      ap (λ (x : ℕ). (d - x) * span) digit ∙ ap (λ (x : ℕ). (d - k / w % d) * x) span-is ∙ sym (rest-found ds s k j here none l (subst (λ (x : ℕ). 0 < x) digit g))

  more : q % d ≤ 0 → (span * d ≡ prod (drop j ds)) × (q / d ≡ k / prod (drop j ds)) × (k % prod (drop j ds) ≡ 0)
  more g = (
    mul_comm span d ∙ product,
    ap (λ (x : ℕ). x / d) quotient ∙ quotient-before ds j k here,
    rest-next ds s k j here none (sym digit ∙ omega (arith, g)),
  )

pub nonzero_rem-e : goal.nonzero_rem-e
nonzero_rem-e c = size-pos c.args.dims.now c.requires.sizes c.args.k c.loop-i.i c.loop-i.span c.loop-i.q c.requires.dims_bound.1 c.loop-i-test.true c.loop-i.auto.i c.loop-i.invariant

pub nonzero_div-q : goal.nonzero_div-q
nonzero_div-q c = size-pos c.args.dims.now c.requires.sizes c.args.k c.loop-i.i c.loop-i.span c.loop-i.q c.requires.dims_bound.1 c.loop-i-test.true c.loop-i.auto.i c.loop-i.invariant

pub overflow_sub-result : goal.overflow_sub-result
overflow_sub-result c =
    let p = size-pos c.args.dims.now c.requires.sizes c.args.k c.loop-i.i c.loop-i.span c.loop-i.q c.requires.dims_bound.1 c.loop-i-test.true c.loop-i.auto.i c.loop-i.invariant in
    omega (arith, mod-lt c.loop-i.q p)

pub overflow_mul-result : goal.overflow_mul-result
overflow_mul-result c =
    let b = below c.args.dims.now c.requires.sizes c.args.k c.loop-i.i c.loop-i.span c.loop-i.q c.requires.dims_bound.1 c.loop-i-test.true c.loop-i.auto.i c.loop-i.invariant c.requires.dims_bound.0 in
    omega (arith, b)

pub returns-then-e-gt0 : goal.returns-then-e-gt0
returns-then-e-gt0 c =
    found c.args.dims.now c.requires.sizes c.args.k c.loop-i.i c.loop-i.span c.loop-i.q c.requires.dims_bound.1 c.loop-i-test.true c.loop-i.auto.i c.loop-i.invariant c.if-e-gt0.true

pub overflow_mul-span : goal.overflow_mul-span
overflow_mul-span c =
    let b = low c.args.dims.now c.requires.sizes c.args.k c.loop-i.i c.loop-i.span c.loop-i.q c.requires.dims_bound.1 c.loop-i-test.true c.loop-i.auto.i c.loop-i.invariant c.requires.dims_bound.0 in
    omega (arith, b)

pub loop-i-preserved : goal.loop-i-preserved
loop-i-preserved c =
    more c.args.dims.now c.requires.sizes c.args.k c.loop-i.i c.loop-i.span c.loop-i.q c.requires.dims_bound.1 c.loop-i-test.true c.loop-i.auto.i c.loop-i.invariant c.if-e-gt0.false

pub returns : goal.returns
returns c =
    let ds = c.args.dims.now in
    let e : c.loop-i.i ≡ 0 = omega arith in
    c.loop-i.invariant.0
    ∙ ap (λ (i : ℕ). prod (drop i ds)) e
    ∙ sym (rest_all ds c.args.k c.requires.dims_bound.1 (ap (λ (i : ℕ). c.args.k % prod (drop i ds)) (sym e) ∙ c.loop-i.invariant.2))
