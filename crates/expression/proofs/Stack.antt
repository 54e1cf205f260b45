-- A stack that stands in a list from a place on, with its top first, and what a node does to it. Assumes nothing.
use mathlib.Core.Path.{◌≡◌, refl, ap, sym, ◌∙◌}
use mathlib.Core.Bool.{true, false, Bool}
use mathlib.Core.List.{List, [], ◌∷◌}
use Prim.Native.Nat.{ℕ, zero, suc, ◌+◌, ◌-◌, ◌<◌, ◌≤◌}
use native.Mathlib.Omega.{arith}
use native.Mathlib.Numerals.{add-one}
use lib.ListN.{length, get_or, set, drop, length-drop}
use lib.Seq.{drop-cons}
use Rattle.expression.specs.declared.Leaf.{Leaf}
use Rattle.expression.specs.declared.One.{One}
use Rattle.expression.specs.declared.Node.TheVariants as N
use Rattle.expression.specs.Machine.{passed, stack, Alg, step, NotBroken, push_if, push, Ready}

module _ {A : Type 0} where
  -- a push or a change of the top
  pub drop-set : (l : List A) (i : ℕ) (v : A) → i < length l → drop i (set l i v) ≡ v ∷ drop (suc i) l
  drop-set [] i v h = absurd (omega arith)
  drop-set (x ∷ l) zero v h = refl
  drop-set (x ∷ l) (suc i) v h = drop-set l i v (omega arith)

  -- a push below the top
  pub drop-push : (l : List A) (t : ℕ) (v : A) → 0 < t → t ≤ length l → drop (t - 1) (set l (t - 1) v) ≡ v ∷ drop t l
  drop-push l zero v h k = absurd (omega arith)
  drop-push l (suc t) v h k = let e : suc t - 1 ≡ t = omega arith in rw e (drop-set l t v (omega arith))

  pushed : (b : Bool) (a : A) (st : List A) → Ready (push_if b a st) → (b ≡ true) × (push_if b a st ≡ stack (a ∷ st))
  pushed true a st r = (refl, refl)
  pushed false a st r = absurd r

  kept : (g : Alg A) (a : A) (st : List A) → Ready (push g a st) → (g.keep a ≡ true) × (push g a st ≡ stack (a ∷ st))
  kept g a st r = pushed (g.keep a) a st r

  module _ (g : Alg A) (l : List A) (t : ℕ) where
    pub leaf-step : (x : Leaf) (v : A) → v ≡ g.leaf x → 0 < t → t ≤ length l → Ready (step g (N.Leaf x) (drop t l))
        → stack (drop (t - 1) (set l (t - 1) v)) ≡ step g (N.Leaf x) (drop t l)
    leaf-step x v e h k r = ap stack (drop-push l t v h k ∙ ap (λ (a : A). a ∷ drop t l) e) ∙ sym (kept g (g.leaf x) (drop t l) r).1

    -- a node over one tree finds one
    one-any : (o : One) (st : List A) → Ready (step g (N.One o) st) → 0 < length st
    one-any o [] r = absurd r
    one-any o (a ∷ st) r = omega arith

    pub one-room : (o : One) → Ready (step g (N.One o) (drop t l)) → t < length l
    one-room o r = omega (arith, one-any o (drop t l) r, length-drop t l)

    pub one_kept : (o : One) (d : A) → Ready (step g (N.One o) (drop t l)) → g.keep (g.one o (get_or l t d)) ≡ true
    one_kept o d r =
        let h = one-room o r in
        (kept g (g.one o (get_or l t d)) (drop (suc t) l) (rw (drop-cons l t d) at r)).0

    pub one-step : (o : One) (d v : A) → v ≡ g.one o (get_or l t d) → Ready (step g (N.One o) (drop t l))
        → stack (drop t (set l t v)) ≡ step g (N.One o) (drop t l)
    one-step o d v e r =
        let h = one-room o r in
        let q = rw (drop-cons l t d) at r in
        rw (drop-cons l t d) (ap stack (drop-set l t v h ∙ ap (λ (a : A). a ∷ drop (suc t) l) e) ∙ sym (kept g (g.one o (get_or l t d)) (drop (suc t) l) q).1)

    -- a sum finds two
    sum-two : (st : List A) → Ready (step g N.Sum st) → 1 < length st
    sum-two [] r = absurd r
    sum-two (b ∷ []) r = absurd r
    sum-two (b ∷ (a ∷ st)) r = omega arith

    pub sum_room : Ready (step g N.Sum (drop t l)) → t + 1 < length l
    sum_room r = omega (arith, sum-two (drop t l) r, length-drop t l)

    pub sum_kept : (d : A) → Ready (step g N.Sum (drop t l)) → g.keep (g.sum (get_or l (t + 1) d) (get_or l t d)) ≡ true
    sum_kept d r =
        let h = sum_room r in
        let i : t < length l = omega arith in
        let j : suc t < length l = omega arith in
        rw add-one (kept g (g.sum (get_or l (suc t) d) (get_or l t d)) (drop (suc (suc t)) l) (rw (drop-cons l t d, drop-cons l (suc t) d) at r)).0

    pub sum_step : (d v : A) → v ≡ g.sum (get_or l (t + 1) d) (get_or l t d) → Ready (step g N.Sum (drop t l))
        → stack (drop (t + 1) (set l (t + 1) v)) ≡ step g N.Sum (drop t l)
    sum_step d v e r =
        let h = sum_room r in
        let i : t < length l = omega arith in
        let j : suc t < length l = omega arith in
        let q = rw (drop-cons l t d, drop-cons l (suc t) d) at r in
        let f = rw add-one at e in
        rw (add-one, drop-cons l t d, drop-cons l (suc t) d) (ap stack (drop-set l (suc t) v j ∙ ap (λ (a : A). a ∷ drop (suc (suc t)) l) f) ∙ sym (kept g (g.sum (get_or l (suc t) d) (get_or l t d)) (drop (suc (suc t)) l) q).1)

    pub no-bad : Ready (step g N.Bad (drop t l)) → ⊥
    no-bad r = r

    pub leaf-fed : (x : Leaf) (v : A) → v ≡ g.leaf x → g.keep v ≡ true → 0 < t → t ≤ length l
        → stack (drop (t - 1) (set l (t - 1) v)) ≡ step g (N.Leaf x) (drop t l)
    leaf-fed x v e q h k = rw (← e, q) (ap stack (drop-push l t v h k))

    one-some : (o : One) (st : List A) → NotBroken (step g (N.One o) st) → 0 < length st
    one-some o [] r = absurd r
    one-some o (a ∷ st) r = omega arith

    pub one-fed-room : (o : One) → NotBroken (step g (N.One o) (drop t l)) → t < length l
    one-fed-room o r = omega (arith, one-some o (drop t l) r, length-drop t l)

    pub one-fed : (o : One) (d v : A) → t < length l → v ≡ g.one o (get_or l t d) → g.keep v ≡ true → stack (drop t (set l t v)) ≡ step g (N.One o) (drop t l)
    one-fed o d v h e q = rw (drop-cons l t d, ← e, q) (ap stack (drop-set l t v h))

    pub one-over : (o : One) (d : A) → t < length l → g.keep (g.one o (get_or l t d)) ≡ false → passed ≡ step g (N.One o) (drop t l)
    one-over o d h q = rw (drop-cons l t d, q)

    sum-some : (st : List A) → NotBroken (step g N.Sum st) → 1 < length st
    sum-some [] r = absurd r
    sum-some (b ∷ []) r = absurd r
    sum-some (b ∷ (a ∷ st)) r = omega arith

    pub sum-fed-room : NotBroken (step g N.Sum (drop t l)) → t + 1 < length l
    sum-fed-room r = omega (arith, sum-some (drop t l) r, length-drop t l)

    pub sum-fed : (d v : A) → t + 1 < length l → v ≡ g.sum (get_or l (t + 1) d) (get_or l t d) → g.keep v ≡ true → stack (drop (t + 1) (set l (t + 1) v)) ≡ step g N.Sum (drop t l)
    sum-fed d v h e q =
        let i : t < length l = omega arith in
        let j : suc t < length l = omega arith in
        let f = rw add-one at e in
        rw (add-one, drop-cons l t d, drop-cons l (suc t) d, ← f, q) (ap stack (drop-set l (suc t) v j))

    pub sum_over : (d : A) → t + 1 < length l → g.keep (g.sum (get_or l (t + 1) d) (get_or l t d)) ≡ false → passed ≡ step g N.Sum (drop t l)
    sum_over d h q =
        let i : t < length l = omega arith in
        let j : suc t < length l = omega arith in
        let f = rw add-one at q in
        rw (drop-cons l t d, drop-cons l (suc t) d, f)
