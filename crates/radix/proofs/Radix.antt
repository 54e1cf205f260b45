-- The laws of mixed radix: the row-major index is a bijection between the indices inside the sizes and the numbers below the product. Assumes nothing.
use mathlib.Core.Path.{◌≡◌, refl, ap, ◌∙◌, subst}
use Prim.Native.Nat.{ℕ, zero, suc, ◌*◌, ◌%◌, ◌<◌}
use native.Mathlib.Nat.{mul-add-div_right, mul-add-mod_self_right, div-eq_of_lt, mod-eq_of_lt, add-zero, mul-le-mul_right, div-add-mod', mod-lt, div-lt_iff_lt-mul, suc-mul, eq-zero-or-pos, mul-zero, not-suc-le-zero, le_of_suc-le-suc, suc_inj}
use native.Mathlib.Omega.{arith}
use mathlib.Core.List.{List, [], ◌∷◌, ◌++◌}
use mathlib.Core.Logic.{⊎_elim}
use lib.ListN.{length, get_or, take, drop}
use Rattle.radix.specs.Radix.{prod, row_major, digits, tab, In, none, more}

-- an index inside is below the product
pub below : {es ds : List ℕ} → In es ds → row_major ds es < prod ds
below none = omega arith
below (more {e} {d} {es} {ds} h i) =
    omega (arith, below i, mul-le-mul_right (prod ds) h, suc-mul e (prod ds))

-- the digits of the row-major index are the index
pub digits-row_major : {es ds : List ℕ} → In es ds → digits ds (row_major ds es) ≡ es
digits-row_major none = refl
digits-row_major (more {e} {d} {es} {ds} h i) =
    let l : row_major ds es < prod ds = below i in
    let p : 0 < prod ds = omega arith in
    rw (mul-add-div_right p e (row_major ds es), div-eq_of_lt l, add-zero, mul-add-mod_self_right e (prod ds) (row_major ds es), mod-eq_of_lt l, digits-row_major i)

-- a product that is not 0 has no factor 0
pub right-pos : (d p : ℕ) {k : ℕ} → k < d * p → 0 < p
right-pos d p {k} h = ⊎_elim (λ e. absurd (not-suc-le-zero (subst (λ (z : ℕ). k < z) (ap (λ (q : ℕ). d * q) e ∙ mul-zero d) h))) (λ q. q) (eq-zero-or-pos p)

-- the row-major index of the digits is the number
pub row_major-digits : (ds : List ℕ) (k : ℕ) → k < prod ds → row_major ds (digits ds k) ≡ k
row_major-digits [] k h = omega arith
row_major-digits (d ∷ ds) k h =
    rw (row_major-digits ds (k % prod ds) (mod-lt k (right-pos d (prod ds) h)), div-add-mod')

pub digits_in : (ds : List ℕ) (k : ℕ) → k < prod ds → In (digits ds k) ds
digits_in [] k h = none
digits_in (d ∷ ds) k h =
    more ((div-lt_iff_lt-mul (right-pos d (prod ds) h)).1 h) (digits_in ds (k % prod ds) (mod-lt k (right-pos d (prod ds) h)))

-- indices: length, parts, joins, entries
pub in-length : {es ds : List ℕ} → In es ds → length es ≡ length ds
in-length none = refl
in-length (more h i) = ap suc (in-length i)

pub in-append : {es ds fs gs : List ℕ} → In es ds → In fs gs → In (es ++ fs) (ds ++ gs)
in-append none j = j
in-append (more h i) j = more h (in-append i j)

pub in_take : (n : ℕ) {es ds : List ℕ} → In es ds → In (take n es) (take n ds)
in_take zero i = none
in_take (suc n) none = none
in_take (suc n) (more h i) = more h (in_take n i)

pub in-drop : (n : ℕ) {es ds : List ℕ} → In es ds → In (drop n es) (drop n ds)
in-drop zero i = i
in-drop (suc n) none = none
in-drop (suc n) (more h i) = in-drop n i

pub in-at : {es ds : List ℕ} → In es ds → (j : ℕ) → j < length ds → get_or es j 0 < get_or ds j 0
in-at none j l = absurd (not-suc-le-zero l)
in-at (more h i) zero l = h
in-at (more h i) (suc j) l = in-at i j (le_of_suc-le-suc l)

-- a table: its length, its entries, and that a list with these entries is the table
pub length-tab : (f : ℕ → ℕ) (n : ℕ) → length (tab f n) ≡ n
length-tab f zero = refl
length-tab f (suc n) = ap suc (length-tab (λ (k : ℕ). f (suc k)) n)

pub get_d-tab : (f : ℕ → ℕ) (n i d : ℕ) → i < n → get_or (tab f n) i d ≡ f i
get_d-tab f zero i d h = absurd (not-suc-le-zero h)
get_d-tab f (suc n) zero d h = refl
get_d-tab f (suc n) (suc i) d h = get_d-tab (λ (k : ℕ). f (suc k)) n i d (le_of_suc-le-suc h)

pub is-tab : (f : ℕ → ℕ) (l : List ℕ) (n : ℕ) → length l ≡ n → ((i : ℕ) → i < n → get_or l i 0 ≡ f i) → l ≡ tab f n
is-tab f [] zero e h = refl
is-tab f [] (suc n) e h = absurd (omega arith)
is-tab f (x ∷ l) zero e h = absurd (omega arith)
is-tab f (x ∷ l) (suc n) e h = cc (h 0 (omega arith), is-tab (λ (k : ℕ). f (suc k)) l n (suc_inj e) (λ i p. h (suc i) (omega arith)))

pub in_both : {es es' ds ds' : List ℕ} → es ≡ es' → ds ≡ ds' → In es' ds' → In es ds
in_both e d i = rw (e, d) i
