-- A run made in parts: values are read, then settled, and so on. Assumes nothing.
use mathlib.Core.Path.{◌≡◌, refl, sym, ap, ◌∙◌}
use Prim.Native.Nat.{ℕ, zero, suc, ◌+◌, ◌-◌, ◌*◌, ◌<◌, ◌≤◌, zero-le, suc-le-suc}
use native.Mathlib.Omega.{arith}
use native.Mathlib.Nat.{add-sub_cancel_left}
use mathlib.Core.List.{List, ◌∷◌, ◌++◌}
use lib.ListN.{length, get_or, take, drop, length-append, length-drop}
use lib.Seq.{take-length, take_at, length-take-le}
use Rattle.radix.specs.Radix.{tab}
use Rattle.radix.proofs.Radix.{get_d-tab, length-tab}
use Rattle.retile.specs.Stores.{Store, cell, mark, Memory, apply_all, stores}
use Rattle.retile.specs.Steps.{listed}
use Rattle.retile.proofs.Running.{apply-append, stores-length, all-length}
use Rattle.retile.proofs.Cuts.{run-mark, stores-join}

-- the same values make the same stores
pub stores-alike : (f g : ℕ → ℕ) (n m : ℕ) → ((i : ℕ) → i < n → f (m + i) ≡ g (m + i)) → stores f m n ≡ stores g m n
stores-alike f g zero m h = refl
stores-alike f g (suc n) m h =
    let z : m + 0 ≡ m = omega arith in
    ap (λ (v : ℕ). cell m v ∷ (mark (m + 1) ∷ stores f (m + 1) n)) (rw z at (h 0 (suc-le-suc zero-le)))
    ∙ ap (λ (xs : List Store). cell m (g m) ∷ (mark (m + 1) ∷ xs))
    (stores-alike f g n (m + 1) (λ i l. let e : m + 1 + i ≡ m + suc i = omega arith in rw e (h (suc i) (suc-le-suc l))))

module _ (f : ℕ → ℕ) where
  -- the n values from o on, as they are read
  abbrev values_from : ℕ → ℕ → List ℕ
  values_from o n = tab (λ (i : ℕ). f (o + i)) n

  -- all steps with the values that were read
  read-stores : (o n : ℕ) → take (2 * n) (stores (listed (values_from o n) o) o n) ≡ stores f o n
  read-stores o n =
      let g = listed (values_from o n) o in
      ap (λ (k : ℕ). take k (stores g o n)) (sym (stores-length g o n)) ∙ take-length (stores g o n)
      ∙ stores-alike g f n o (λ i l. ap (λ (k : ℕ). get_or (values_from o n) k 0) (add-sub_cancel_left o i) ∙ get_d-tab (λ (i : ℕ). f (o + i)) n i 0 l)

  -- the run has come as far as the mark
  pub record Come (first here : Memory) : Type 0 where
    pub from : first.mark ≤ here.mark
    pub left : here ≡ apply_all (stores f first.mark (here.mark - first.mark)) first

  pub come-start : (first : Memory) → Come first first
  come-start first = let z : 0 ≡ first.mark - first.mark = omega arith in record { from = omega arith; left = ap (λ (n : ℕ). apply_all (stores f first.mark n) first) z }

  pub come-length : {first here : Memory} → Come first here → length here.cells ≡ length first.cells
  come-length {first} {here} c = ap (λ (M : Memory). length M.cells) c.left ∙ all-length (stores f first.mark (here.mark - first.mark)) first

  -- one part more
  module _ (first here here' : Memory) (values : List ℕ) (n : ℕ) (is : values ≡ values_from here.mark n) (e : here' ≡ apply_all (take (2 * n) (stores (listed values here.mark) here.mark (length values))) here) where
    next : here' ≡ apply_all (stores f here.mark n) here
    next =
        let l : length values ≡ n = ap length is ∙ length-tab (λ (i : ℕ). f (here.mark + i)) n in
        e ∙ ap (λ (k : ℕ). apply_all (take (2 * n) (stores (listed values here.mark) here.mark k)) here) l
        ∙ ap (λ (xs : List ℕ). apply_all (take (2 * n) (stores (listed xs here.mark) here.mark n)) here) is
        ∙ ap (λ (xs : List Store). apply_all xs here) (read-stores here.mark n)

    pub next-mark : here'.mark ≡ here.mark + n
    next-mark = ap (λ (M : Memory). M.mark) next ∙ run-mark f n here here.mark refl

    pub come-next : Come first here → Come first here'
    come-next c =
        let a = here.mark - first.mark in
        let z : first.mark + a ≡ here.mark = omega (arith, c.from) in
        let d : a + n ≡ here'.mark - first.mark = omega (arith, c.from, next-mark) in
        record {
          from = omega (arith, c.from, next-mark);
          left =
              next ∙ ap (apply_all (stores f here.mark n)) c.left
              ∙ ap (λ (m : ℕ). apply_all (stores f m n) (apply_all (stores f first.mark a) first)) (sym z)
              ∙ sym (apply-append (stores f first.mark a) (stores f (first.mark + a) n) first)
              ∙ ap (λ (xs : List Store). apply_all xs first) (sym (stores-join f a n first.mark))
              ∙ ap (λ (k : ℕ). apply_all (stores f first.mark k) first) d;
        }

  -- the part that a loop makes: n values read into the front of a row, then settled from there
  pub part-made : (first here here' : Memory) (ahead new : List ℕ) (n : ℕ) → n ≤ length ahead → length new ≡ length (take n ahead) → new ≡ values_from here.mark (length (take n ahead))
      → here' ≡ apply_all (take (2 * n) (stores (listed (take n (new ++ drop n ahead)) here.mark) here.mark (length (take n (new ++ drop n ahead))))) here → Come first here
      → (length (new ++ drop n ahead) ≡ length ahead) × (here'.mark ≡ here.mark + n) × Come first here'
  part-made first here here' ahead new n room same values e c =
      let lent : length (take n ahead) ≡ n = length-take-le n ahead room in
      let held : take n (new ++ drop n ahead) ≡ new = take_at new (drop n ahead) n (same ∙ lent) in
      let is : take n (new ++ drop n ahead) ≡ values_from here.mark n = held ∙ values ∙ ap (values_from here.mark) lent in (
        omega (arith, length-append new (drop n ahead), length-drop n ahead, same, lent),
        next-mark first here here' (take n (new ++ drop n ahead)) n is e,
        come-next first here here' (take n (new ++ drop n ahead)) n is e c,
      )
