-- A tile undone in place: with j of its entries done, quotient * entry + remainder stands where the quotient stood. Assumes nothing.
use mathlib.Core.Path.{◌≡◌, sym, ap, ◌∙◌}
use mathlib.Core.Logic.{⊎_elim, ◌⊎◌, inl, inr}
use Prim.Native.Nat.{ℕ, ◌+◌, ◌-◌, ◌*◌, ◌^◌, ◌<◌, ◌≤◌}
use native.Mathlib.Nat.{mul-le-mul}
use native.Mathlib.Omega.{arith}
use mathlib.Core.List.{List}
use lib.ListN.{length, get_or, take}
use lib.Seq.{get_or-take, length-take-le, ext_get_or}
use Rattle.radix.proofs.Lists.{le-or-lt}
use Rattle.tiling.proofs.Undo.{untile-first, untile-second, untile-length}
use Rattle.radix.specs.Radix.{Upto}
use Rattle.tiling.specs.Cell.{untile}
use Rattle.tiling.specs.Tile.{max_entry}

-- the index fs, whose quotients begin at place k, with j entries of the tile ts undone
pub record PartlyUndone (k : ℕ) (ts fs at : List ℕ) (j : ℕ) : Type 0 where
  pub within : j ≤ length ts
  pub others : (i : ℕ) → i < k + length ts + length ts → (i < k) ⊎ (k + j ≤ i) → get_or at i 0 ≡ get_or fs i 0
  pub here : (i : ℕ) → i < j → get_or at (k + i) 0 ≡ get_or fs (k + i) 0 * get_or ts i 0 + get_or fs (k + length ts + i) 0

module _ (ts fs : List ℕ) (k : ℕ) where
  abbrev m : ℕ
  m = length ts

  -- one entry more
  module _ (at : List ℕ) (j : ℕ) (long : k + m + m ≤ length at) (v : PartlyUndone k ts fs at j) (l : j < m) where
    -- the quotient and the remainder still stand
    pub undone-quotient : get_or at (k + j) 0 ≡ get_or fs (k + j) 0
    undone-quotient = v.others (k + j) (omega arith) (inr (omega arith))

    pub undone-remainder : get_or at (k + m + j) 0 ≡ get_or fs (k + m + j) 0
    undone-remainder = v.others (k + m + j) (omega arith) (inr (omega arith))

    -- the product and the remainder are small
    pub undone-small : Upto (2 ^ 53) fs → Upto max_entry ts → (get_or at (k + j) 0 * get_or ts j 0 ≤ 2 ^ 53 * max_entry) × (get_or at (k + m + j) 0 ≤ 2 ^ 53)
    unfolding Upto
    undone-small f t =
        let q : get_or at (k + j) 0 ≤ 2 ^ 53 = omega (arith, undone-quotient, f (k + j)) in
        (mul-le-mul q (t j), omega (arith, undone-remainder, f (k + m + j)))

  -- all entries done
  pub undone-end : length fs ≡ k + m + m → (at : List ℕ) (j : ℕ) → k + m + m ≤ length at → PartlyUndone k ts fs at j → m ≤ j → take (k + m) at ≡ untile ts k fs
  undone-end is at j long v w =
      let n = length-take-le (k + m) at (omega arith) in
      ext_get_or 0 (take (k + m) at) (untile ts k fs) (n ∙ sym (untile-length ts fs k is)) (λ i l. let a : i < k + m = omega (arith, n) in get_or-take (k + m) at i 0 a ∙ same i a)
    where
      same : (i : ℕ) → i < k + m → get_or at i 0 ≡ get_or (untile ts k fs) i 0
      same i l =
          ⊎_elim
          (λ (a : k ≤ i).
          let e : k + (i - k) ≡ i = omega arith in
          let u : k + m + (i - k) ≡ i + m = omega arith in
          ap (λ (x : ℕ). get_or at x 0) (sym e)
          ∙ v.here (i - k) (omega (arith, v.within))
          ∙ ap (λ (x : ℕ). get_or fs x 0 * get_or ts (i - k) 0 + get_or fs (k + m + (i - k)) 0) e
          ∙ ap (λ (x : ℕ). get_or fs i 0 * get_or ts (i - k) 0 + get_or fs x 0) u
          ∙ sym (untile-second ts fs k is i a l))
          (λ (a : i < k). v.others i (omega arith) (inl a) ∙ sym (untile-first ts fs k is i a)) (le-or-lt k i)
