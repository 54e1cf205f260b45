-- Along one dimension offsets add: j coordinates further, j below the row's room, stands the offset of the first element plus that of j coordinates. Assumes nothing.
use mathlib.Core.Path.{◌≡◌, refl, sym, ap, ◌∙◌}
use mathlib.Core.Logic.{◌⊎◌, inr}
use Prim.Native.Nat.{ℕ, zero, suc, ◌+◌, ◌-◌, ◌*◌, ◌/◌, ◌%◌, ◌<◌, ◌≤◌}
use native.Mathlib.Nat.{add-zero, add_comm, add-mul, one-mul, div-add-mod', mod-lt, mul-div_cancel, mul-mod_left, mul-add-div_right, mul-add-mod_self_right, div-eq_of_lt, mod-eq_of_lt, div-lt_iff_lt-mul, mul-le-mul_right, suc-mul, not-suc-le-zero, le_of_suc-le-suc}
use native.Mathlib.Omega.{arith}
use mathlib.Core.List.{List, [], ◌∷◌}
use lib.ListN.{length, get_or, drop}
use Rattle.radix.proofs.Radix.{right-pos}
use Rattle.radix.specs.Radix.{prod, digits}
use Rattle.tiling.proofs.OwnCells.{Valid}
use Rattle.tiling.proofs.Rows.{reached-most, digits-none, digits-length, sums-there, sums-offset}
use Rattle.tiling.proofs.Sums.{Sums}
use Rattle.tiling.specs.Row.{row_room}
use Rattle.tiling.specs.Tile.{offset}
use Rattle.tiling.specs.declared.row.Reach.{Reach}

-- Element n, and the element x coordinates of dimension k further, by their coordinates.
pub record Stepped (k : ℕ) (ds : List ℕ) (n x : ℕ) : Type 0 where
  pub below : n + x * prod (drop (suc k) ds) < prod ds
  pub sums : Sums k (digits ds n) (digits ds (x * prod (drop (suc k) ds))) (digits ds (n + x * prod (drop (suc k) ds)))
  pub by : get_or (digits ds (x * prod (drop (suc k) ds))) k 0 ≡ x

-- a sum whose first place is shared, and elsewhere nothing is added
sums_first : (e f g : ℕ) (es fs : List ℕ) → g ≡ e + f → length es ≡ length fs → ((k : ℕ) → get_or fs k 0 ≡ 0) → Sums 0 (e ∷ es) (f ∷ fs) (g ∷ es)
sums_first e f g es fs q l z = record { added = record { left = refl; right = ap suc (sym l); sum = sum }; apart = apart }
  where
    sum : (k : ℕ) → get_or (g ∷ es) k 0 ≡ get_or (e ∷ es) k 0 + get_or (f ∷ fs) k 0
    sum zero = q
    sum (suc k) = sym (ap (λ (x : ℕ). get_or es k 0 + x) (z k) ∙ add-zero (get_or es k 0))

    apart : (k : ℕ) → (k ≡ 0 → ⊥) → (get_or (e ∷ es) k 0 ≡ 0) ⊎ (get_or (f ∷ fs) k 0 ≡ 0)
    apart zero n = absurd (n refl)
    apart (suc k) n = inr (z k)

stepped-here : (d : ℕ) (ds : List ℕ) (n x : ℕ) → n < d * prod ds → x < d - n / prod ds → Stepped 0 (d ∷ ds) n x
stepped-here d ds n x h g =
    let P = prod ds in
    let p : 0 < P = right-pos d P h in
    let s : n + x * P ≡ x * P + n = add_comm n (x * P) in
    let q : (n + x * P) / P ≡ n / P + x = ap (λ (y : ℕ). y / P) s ∙ mul-add-div_right p x n ∙ add_comm x (n / P) in
    let r : (n + x * P) % P ≡ n % P = ap (λ (y : ℕ). y % P) s ∙ mul-add-mod_self_right x P n in
    let a : x * P / P ≡ x = mul-div_cancel x p in
    let b : x * P % P ≡ 0 = mul-mod_left x P in
    let u : (n / P + x + 1) * P ≤ d * P = mul-le-mul_right P (omega arith) in
    let w : (n / P + x + 1) * P ≡ n / P * P + x * P + P = omega (arith, add-mul (n / P + x) 1 P, add-mul (n / P) x P, one-mul P) in
    record {
      below = omega (arith, u, w, div-add-mod' n P, mod-lt n p);
      sums =
          rw (r, b) (sums_first (n / P) (x * P / P) ((n + x * P) / P) (digits ds (n % P)) (digits ds 0) (q ∙ ap (λ (y : ℕ). n / P + y) (sym a)) (digits-length ds (n % P) ∙ sym (digits-length ds 0)) (digits-none ds));
      by = a;
    }

pub stepped : (k : ℕ) (ds : List ℕ) (n x : ℕ) → k < length ds → n < prod ds → x < get_or ds k 0 - get_or (digits ds n) k 0 → Stepped k ds n x
stepped k [] n x l h g = absurd (not-suc-le-zero l)
stepped zero (d ∷ ds) n x l h g = stepped-here d ds n x h g
stepped (suc k) (d ∷ ds) n x l h g =
    let Q = prod ds in
    let y = x * prod (drop (suc k) ds) in
    let p : 0 < Q = right-pos d Q h in
    let i = stepped k ds (n % Q) x (le_of_suc-le-suc l) (mod-lt n p) g in
    let w : y < Q = omega (arith, i.below) in
    let s : n + y ≡ n / Q * Q + (n % Q + y) = omega (arith, div-add-mod' n Q) in
    let q : (n + y) / Q ≡ n / Q = ap (λ (z : ℕ). z / Q) s ∙ mul-add-div_right p (n / Q) (n % Q + y) ∙ ap (λ (z : ℕ). n / Q + z) (div-eq_of_lt i.below) ∙ add-zero (n / Q) in
    let r : (n + y) % Q ≡ n % Q + y = ap (λ (z : ℕ). z % Q) s ∙ mul-add-mod_self_right (n / Q) Q (n % Q + y) ∙ mod-eq_of_lt i.below in
    let o : n / Q < d = div_below d Q n p h in
    record {
      below = omega (arith, s, i.below, mul-le-mul_right Q o, suc-mul (n / Q) Q);
      sums = sums-there k (n / Q) (y / Q) ((n + y) / Q) (digits ds (n % Q)) (digits ds (y % Q)) (digits ds ((n + y) % Q)) (div-eq_of_lt w) q (rw (mod-eq_of_lt w, r) i.sums);
      by = ap (λ (z : ℕ). get_or (digits ds z) k 0) (mod-eq_of_lt w) ∙ i.by;
    }
  where
    div_below : (d Q n : ℕ) → 0 < Q → n < d * Q → n / Q < d
    div_below d Q n p h = (div-lt_iff_lt-mul p).1 h

-- along the dimension at place i of the order
module _ (sizes p : List ℕ) (tss : List (List ℕ)) (v : Valid sizes p tss) (n i : ℕ) (inside : n < prod sizes) (h : i < length p) where
  abbrev d : ℕ
  d = get_or p i 0

  abbrev P : ℕ
  P = prod (drop (suc d) sizes)

  abbrev c : ℕ
  c = get_or (digits sizes n) d 0

  pub row-along : (b j : ℕ) → b ≤ get_or sizes d 0 - c → j < row_room tss (length p) i c b → (n + j * P < prod sizes) × (offset sizes p tss (n + j * P) ≡ offset sizes p tss n + offset sizes p tss (j * P))
  unfolding offset
  row-along b j few near =
      let start : Reach = record { place = i; coordinate = c; scale = 1; most = b } in
      let l : d < length sizes = omega (arith, v.perm.inside i h, v.rank) in
      let g = stepped d sizes n j l inside (omega (arith, near, few, reached-most tss (length p) start)) in
      (g.below, sums-offset sizes p tss v d i c b j (digits sizes n) (digits sizes (j * P)) (digits sizes (n + j * P)) h refl g.sums refl g.by near)
