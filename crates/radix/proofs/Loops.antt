-- What a loop over a list keeps: the answer of what is left of it. Assumes nothing.
use mathlib.Core.Path.{◌≡◌, sym, ap, ◌∙◌}
use Prim.Native.Nat.{ℕ, suc, ◌+◌, ◌*◌, ◌/◌, ◌%◌, ◌<◌, ◌≤◌}
use native.Mathlib.Nat.{mul_assoc, mul_comm, suc-mul, add-mul, add_assoc, add-zero, mul-pos, le-mul_of_pos_right, mul-le-mul_right}
use native.Mathlib.Nat.{div-add-mod', div-div-eq-div-mul, div-eq_of_lt, mod-eq_of_lt, mod-lt, mod-mod, mul-add-div_right, mul-add-mod_self_right}
use native.Mathlib.Numerals.{add-one}
use native.Mathlib.Omega.{arith}
use mathlib.Core.List.{List, [], ◌∷◌, ◌++◌}
use lib.ListN.{length, get_or, drop, length-drop, length-set, set}
use lib.Seq.{drop-cons, drop-set-lt, get_or-drop, get_or-set_same}
use Rattle.radix.specs.Radix.{prod, row_major, digits, In, Sizes, Bounded}
use Rattle.radix.proofs.Lists.{rest-of}
use Rattle.radix.proofs.Radix.{in-drop, below}

pub prod-rest : (ds : List ℕ) (acc i : ℕ) → i < length ds → acc * prod (drop i ds) ≡ acc * get_or ds i 0 * prod (drop (i + 1) ds)
prod-rest ds acc i h = rw (drop-cons ds i 0 h, add-one, mul_assoc)

pub prod-pos : (ds : List ℕ) → ((k : ℕ) → k < length ds → 0 < get_or ds k 0) → 0 < prod ds
prod-pos [] h = omega arith
prod-pos (d ∷ ds) h = mul-pos (h 0 (omega arith)) (prod-pos ds (λ k l. h (suc k) (omega arith)))

-- what is left of small sizes has a product of at least 1
pub rest-pos : (ds : List ℕ) (i : ℕ) → Sizes ds → 0 < prod (drop i ds)
unfolding Bounded
rest-pos ds i s = prod-pos (drop i ds) (λ k l. rw (get_or-drop) (s (i + k) (omega (arith, length-drop i ds))).0)

-- what the row-major loop has still to reach: es lies inside ds, and acc with it makes r
pub record Left (ds es : List ℕ) (acc r : ℕ) : Type 0 where
  pub fits : In es ds
  pub makes : acc * prod ds + row_major ds es ≡ r

-- one size further
pub row-next : {ds es ds' es' : List ℕ} {d e acc r : ℕ} → ds ≡ d ∷ ds' → es ≡ e ∷ es' → Left ds es acc r → Left ds' es' (acc * d + e) r
row-next {d = d} {e = e} p q l =
    let i = rw (p, q) at l.fits in
    let h = rw (p, q) at l.makes in
    record { fits = in-drop 1 i; makes = rw (add-mul, mul_assoc, add_assoc) h }

-- the number so far is at most the answer
pub row-low : {ds es : List ℕ} {acc r : ℕ} → Left ds es acc r → acc ≤ r
row-low {ds} {acc = acc} l =
    let p : 0 < prod ds = omega (arith, below l.fits) in
    omega (arith, l.makes, le-mul_of_pos_right acc p)

-- what n leaves over d * q: its digit at d, and what it leaves over q
mod-front : (d q n : ℕ) → 0 < d → 0 < q → n % (d * q) ≡ n / q % d * q + n % q
mod-front d q n h p =
    let l : n / q % d * q + n % q < d * q = omega (arith, mod-lt n p, mul-le-mul_right q (mod-lt (n / q) h), suc-mul (n / q % d) q) in
    let e : n ≡ n / q / d * (d * q) + (n / q % d * q + n % q) =
    sym (div-add-mod' n q) ∙ ap (λ (x : ℕ). x * q + n % q) (sym (div-add-mod' (n / q) d)) ∙ rw (add-mul, mul_assoc, add_assoc) in
    ap (λ (x : ℕ). x % (d * q)) e ∙ mul-add-mod_self_right (n / q / d) (d * q) (n / q % d * q + n % q) ∙ mod-eq_of_lt l

digits-front : (d n : ℕ) (ds : List ℕ) → 0 < d → 0 < prod ds → digits (d ∷ ds) (n % (d * prod ds)) ≡ (n / prod ds % d) ∷ digits ds (n % prod ds)
digits-front d n ds h p =
    rw (mod-front d (prod ds) n h p, mul-add-div_right p (n / prod ds % d) (n % prod ds), div-eq_of_lt (mod-lt n p), add-zero, mul-add-mod_self_right (n / prod ds % d) (prod ds) (n % prod ds), mod-mod)

-- from place i on, out holds the digits of n over the sizes from i on, and then rest
abbrev pub Behind : List ℕ → ℕ → List ℕ → List ℕ → ℕ → Type 0
Behind ds n out rest i = drop i out ≡ digits (drop i ds) (n % prod (drop i ds)) ++ rest

-- one digit more in front of these
pub digits-before : (ds out rest : List ℕ) (i n : ℕ) → Sizes ds → i < length ds → i < length out
    → Behind ds n out rest (i + 1) → Behind ds n (set out i (n / prod (drop (i + 1) ds) % get_or ds i 0)) rest i
unfolding Bounded
digits-before ds out rest i n s h g e =
    let v = n / prod (drop (i + 1) ds) % get_or ds i 0 in
    rest-of (set out i v) i (omega (arith, length-set out i v))
    ∙ rw (get_or-set_same out i v 0 g, drop-set-lt (i + 1) out i v (omega arith), e, rest-of ds i h)
    (ap (λ (l : List ℕ). l ++ rest) (sym (digits-front (get_or ds i 0) n (drop (i + 1) ds) (s i h).0 (rest-pos ds (i + 1) s))))

-- the quotient by the sizes from i + 1 on, one size further
pub quotient-before : (ds : List ℕ) (i n : ℕ) → i < length ds → n / prod (drop (i + 1) ds) / get_or ds i 0 ≡ n / prod (drop i ds)
quotient-before ds i n h = rw (rest-of ds i h, div-div-eq-div-mul, mul_comm (get_or ds i 0) (prod (drop (i + 1) ds)))
