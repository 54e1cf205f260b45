-- Bounds copied into an array of zeros, and records made of the same parts. Assumes nothing.
use mathlib.Core.Path.{◌≡◌, sym, ap, ap₂, ◌∙◌}
use mathlib.Core.List.{List, ◌++◌, append_assoc}
use Prim.Native.Nat.{ℕ, ◌+◌, ◌-◌, ◌*◌}
use native.Mathlib.Omega.{arith}
use lib.IntN.{ℤ, pos}
use lib.ListN.{length, length-take, length-drop, take, drop, replicate}
use lib.Seq.{take-append-add, drop-append-add}
use borrow.Rule.Slice.PartMut.{put_mid}
use Rattle.std.proofs.lemmas.List.{take-replicate, drop-replicate, replicate-append-replicate}
use Rattle.expression.specs.Node.{max_variables, max_places}
use Rattle.encoding.specs.Encode.{filled, bounds_of, record_of, Bounded}
use Rattle.encoding.proofs.Filled.{filled_is}

abbrev zeros : ℕ → List ℤ
zeros n = replicate n (pos 0)

-- an array of zeros into which the bounds below the counts are copied, the dimensions' and then the range variables'
pub copied-bounds : (dims ranges : ℕ) (l xs ys : List ℤ) → Bounded l dims ranges → xs ≡ take dims l → ys ≡ take ranges (drop max_variables l)
    → put_mid max_variables ranges (xs ++ drop dims (replicate max_places (pos 0))) ys ≡ bounds_of dims ranges l
copied-bounds dims ranges l xs ys b e f =
    ap (λ (t : List ℤ). put_mid max_variables ranges (xs ++ t) ys) (drop-replicate dims max_places (pos 0))
    ∙ ap₂ (λ (s t : List ℤ). s ++ (ys ++ t)) front back
    ∙ sym
    (ap₂ (λ (s t : List ℤ). s ++ (t ++ zeros max_variables)) first second
    ∙ ap (λ (t : List ℤ). (xs ++ zeros (max_variables - dims)) ++ t)
    (append_assoc ys (zeros (max_variables - ranges)) (zeros max_variables)
    ∙ ap (λ (t : List ℤ). ys ++ t)
    (replicate-append-replicate (max_variables - ranges) max_variables (pos 0)
    ∙ ap zeros (let q : max_variables - ranges + max_variables ≡ 2 * max_variables - ranges = omega (arith, b.few-ranges) in q))))
  where
    long-first : length (take dims l) ≡ dims
    long-first = omega (arith, length-take dims l, b.long, b.few-dims)

    long-second : length (take ranges (drop max_variables l)) ≡ ranges
    long-second = omega (arith, length-take ranges (drop max_variables l), length-drop max_variables l, b.long, b.few-ranges)

    -- the part of the dimensions, and what stands behind the part of the range variables
    front : take max_variables (xs ++ zeros (max_places - dims)) ≡ xs ++ zeros (max_variables - dims)
    front =
        let n : length xs + (max_variables - dims) ≡ max_variables = omega (arith, ap length e, long-first, b.few-dims) in
        ap (λ (k : ℕ). take k (xs ++ zeros (max_places - dims))) (sym n)
        ∙ take-append-add xs (zeros (max_places - dims)) (max_variables - dims)
        ∙ ap (λ (t : List ℤ). xs ++ t) (take-replicate (max_variables - dims) (max_places - dims) (pos 0) (omega arith))

    back : drop ranges (drop max_variables (xs ++ zeros (max_places - dims))) ≡ zeros (2 * max_variables - ranges)
    back =
        let n : length xs + (max_variables - dims) ≡ max_variables = omega (arith, ap length e, long-first, b.few-dims) in
        let q : max_places - dims - (max_variables - dims) ≡ 2 * max_variables = omega (arith, b.few-dims) in
        ap (drop ranges)
        (ap (λ (k : ℕ). drop k (xs ++ zeros (max_places - dims))) (sym n)
        ∙ drop-append-add xs (zeros (max_places - dims)) (max_variables - dims)
        ∙ drop-replicate (max_variables - dims) (max_places - dims) (pos 0)
        ∙ ap zeros q)
        ∙ drop-replicate ranges (2 * max_variables) (pos 0)

    first : filled max_variables (pos 0) (take dims l) ≡ xs ++ zeros (max_variables - dims)
    first =
        filled_is max_variables (pos 0) (take dims l) (omega (arith, long-first, b.few-dims))
        ∙ ap₂ (λ (s : List ℤ) (n : ℕ). s ++ drop n (zeros max_variables)) (sym e) long-first
        ∙ ap (λ (t : List ℤ). xs ++ t) (drop-replicate dims max_variables (pos 0))

    second : filled max_variables (pos 0) (take ranges (drop max_variables l)) ≡ ys ++ zeros (max_variables - ranges)
    second =
        filled_is max_variables (pos 0) (take ranges (drop max_variables l)) (omega (arith, long-second, b.few-ranges))
        ∙ ap₂ (λ (s : List ℤ) (n : ℕ). s ++ drop n (zeros max_variables)) (sym f) long-second
        ∙ ap (λ (t : List ℤ). ys ++ t) (drop-replicate ranges max_variables (pos 0))

-- ---- records of the same parts

pub record-of-same : (dims ranges : ℕ) (lower upper : List ℤ) {n n' : ℕ} {rs rs' : List ℕ} {c c' : ℕ} {cs cs' : List ℕ} {los his los' his' : List ℤ} {ks ks' : List ℕ} {vs vs' : List ℤ}
    → n ≡ n' → rs ≡ rs' → c ≡ c' → cs ≡ cs' → los ≡ los' → his ≡ his' → ks ≡ ks' → vs ≡ vs'
    → record_of dims ranges lower upper n rs c cs los his ks vs ≡ record_of dims ranges lower upper n' rs' c' cs' los' his' ks' vs'
record-of-same dims ranges lower upper {n} {n'} {rs} {rs'} {c} {c'} {cs} {cs'} {los} {his} {los'} {his'} {ks} {ks'} {vs} {vs'} d e f g h i j k =
    ap₂ (λ x y. record_of dims ranges lower upper x y c cs los his ks vs) d e
    ∙ ap₂ (λ x y. record_of dims ranges lower upper n' rs' x y los his ks vs) f g
    ∙ ap₂ (λ x y. record_of dims ranges lower upper n' rs' c' cs' x y ks vs) h i
    ∙ ap₂ (λ x y. record_of dims ranges lower upper n' rs' c' cs' los' his' x y) j k
