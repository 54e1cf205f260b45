-- Laws of the list f 0, f 1, .. of the numbers below n. Assumes nothing.
use mathlib.Core.Path.{◌≡◌, refl, sym, ap, ap₂, ◌∙◌}
use mathlib.Core.Logic.{⊎_elim}
use mathlib.Core.List.{List, [], ◌∷◌, ◌++◌, map}
use Prim.Native.Nat.{ℕ, zero, suc, ◌<◌}
use native.Mathlib.Nat.{le_of_suc-le-suc, eq-or-lt_of_le}
use native.Mathlib.Omega.{arith}
use lib.ListN.{length, get_or, length-append, get_or-append}
use lib.Seq.{ext_get_or, get_or_at}
use Rattle.expression.specs.Expression.{Expr}
use Rattle.folding.proofs.Map.{AllTrees}
use Rattle.encoding.proofs.Lists.{map-append}
use Rattle.encoding.specs.Trees.{listed}

module _ {A : Type 0} where
  pub listed-length : (f : ℕ → A) (n : ℕ) → length (listed f n) ≡ n
  unfolding listed
  listed-length f zero = refl
  listed-length f (suc n) = let h = listed-length f n in omega (arith, length-append (listed f n) (f n ∷ []))

  pub listed_at : (f : ℕ → A) (n k : ℕ) (z : A) → k < n → get_or (listed f n) k z ≡ f k
  unfolding listed
  listed_at f zero k z h = absurd (omega arith)
  listed_at f (suc n) k z h =
      let l = listed-length f n in
      ⊎_elim
      (λ (q : k ≡ n). get_or_at (listed f n) (f n) [] z k (l ∙ sym q) ∙ ap f (sym q))
      (λ (q : k < n). let w : k < length (listed f n) = omega arith in get_or-append (listed f n) (f n ∷ []) z k w ∙ listed_at f n k z q)
      (eq-or-lt_of_le (le_of_suc-le-suc h))

  pub listed_same : (f g : ℕ → A) (n : ℕ) → ((k : ℕ) → k < n → f k ≡ g k) → listed f n ≡ listed g n
  unfolding listed
  listed_same f g zero h = refl
  listed_same f g (suc n) h = ap₂ (λ (l : List A) (x : A). l ++ (x ∷ [])) (listed_same f g n (λ k l. h k (omega arith))) (h n (omega arith))

  -- the entries of a list
  pub listed-is : (f : ℕ → A) (n : ℕ) (xs : List A) (z : A) → n ≡ length xs → ((k : ℕ) → k < n → f k ≡ get_or xs k z) → listed f n ≡ xs
  listed-is f n xs z e h =
      let l = listed-length f n in
      ext_get_or z (listed f n) xs (l ∙ e) (λ k w. let v : k < n = omega arith in listed_at f n k z v ∙ h k v)

pub listed-map : {A B : Type 0} (g : A → B) (f : ℕ → A) (n : ℕ) → map g (listed f n) ≡ listed (λ (k : ℕ). g (f k)) n
unfolding listed
listed-map g f zero = refl
listed-map {A} {B} g f (suc n) = map-append g (listed f n) (f n ∷ []) ∙ ap (λ (l : List B). l ++ (g (f n) ∷ [])) (listed-map g f n)

-- ---- what holds at every tree of a list

module _ (P : Expr → Type 0) where
  pub all_append : (xs ys : List Expr) → AllTrees P xs → AllTrees P ys → AllTrees P (xs ++ ys)
  unfolding AllTrees
  all_append [] ys h k = k
  all_append (x ∷ xs) ys h k = (h.0, all_append xs ys h.1 k)

  pub all_listed : (f : ℕ → Expr) (n : ℕ) → ((k : ℕ) → k < n → P (f k)) → AllTrees P (listed f n)
  unfolding listed AllTrees
  all_listed f zero h = tt
  all_listed f (suc n) h = all_append (listed f n) (f n ∷ []) (all_listed f n (λ k l. h k (omega arith))) (h n (omega arith), tt)
