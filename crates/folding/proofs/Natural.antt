-- Natural sums: coefficients and constant from 0 on, and atoms whose ranges start at 0. The rules keep them, and their magnitudes. Assumes nothing.
use mathlib.Core.Path.{◌≡◌, refl, sym, ap, ap₂, ◌∙◌, subst}
use mathlib.Core.Bool.{Bool, true, false, cond}
use mathlib.Core.List.{List, [], ◌∷◌}
use Prim.Native.Nat.{ℕ, zero, suc, ◌+◌, ◌*◌, ◌-◌, ◌/◌, ◌<◌, ◌≤◌, Ordering}
use native.Mathlib.Omega.{arith}
use native.Mathlib.Nat as NatL
use lib.Dec.{eqb}
use lib.IntN.{ℤ, pos, negsuc, neg_ℤ, nat_abs, ◌+ℤ◌, ◌*ℤ◌, +ℤ_idl, *ℤ-zero, zero-*ℤ}
use Rattle.integer.specs.Exact.{limit}
use Rattle.integer.specs.Floor.{floor_div, floor_mod}
use Rattle.radix.proofs.Tests.{and-true}
use Rattle.expression.specs.Expression.{Kind, Op, floordiv, modulo, Range, span, eqℤ, add_range, mul_range, op_range}
use Rattle.expression.proofs.Within.{eqℤ-eq}
use Rattle.expression.proofs.Order.{pos_inj}
use Rattle.folding.specs.Sum.{Atom, Sum, atom_order, atom_range, sum_range}
use Rattle.folding.specs.Fold.{cons_term, place_term, insert_term, add_constant, add_sums, scale_sum, divides, part_p, part_r, Step, is, again, rule1, rule2, rule3, stays, one_quotient, quotient_of, keeps_all, divisors_tried, apply_rule, apply_rules}
use Rattle.folding.specs.Folded.{FoldedS, weight}
use Rattle.folding.specs.Working.{small_sums, rests_tried, sums_formed}
use Rattle.folding.proofs.Cases.{divided, by_cases}
use Rattle.folding.proofs.Atoms.{outcome}
use Rattle.folding.proofs.Ending.{Good, step-good, floor-of-mod}
use Rattle.folding.proofs.Judged.{small-both, small_one, tried, last_sums}
use Rattle.folding.proofs.Stuck.{stuck}
use Rattle.folding.proofs.Magnitude.{room, added-room, atom_magnitude, magnitude, magnitude-small, magnitude-constant, magnitude-add, magnitude-scale}

-- from 0 on
unfoldable pub IsNatural : ℤ → Type 0
IsNatural (pos n) = Unit {0}
IsNatural (negsuc n) = ⊥

natural-plus : (a b : ℤ) → IsNatural a → IsNatural b → IsNatural (a +ℤ b)
unfolding IsNatural
natural-plus (pos a) (pos b) h k = tt
natural-plus (pos a) (negsuc b) h k = absurd k
natural-plus (negsuc a) b h k = absurd h

natural-times : (a b : ℤ) → IsNatural a → IsNatural b → IsNatural (a *ℤ b)
unfolding IsNatural
natural-times (pos a) (pos b) h k = tt
natural-times (pos a) (negsuc b) h k = absurd k
natural-times (negsuc a) b h k = absurd h

natural-floor : (a : ℤ) (g : ℕ) → IsNatural a → IsNatural (floor_div a g)
unfolding IsNatural
natural-floor (pos a) g h = tt
natural-floor (negsuc a) g h = absurd h

natural-rest : (a : ℤ) (g : ℕ) → IsNatural (floor_mod a g)
unfolding IsNatural
natural-rest (pos a) g = tt
natural-rest (negsuc a) g = tt

-- the constant of a sum
unfoldable constant_of : Sum → ℤ
constant_of (Sum.const k) = k
constant_of (Sum.term c a t) = constant_of t

constant-rest : (g : ℕ) (t : Sum) → constant_of (part_r g t) ≡ floor_mod (constant_of t) g
unfolding constant_of part_r
constant-rest g (Sum.const k) = refl
constant-rest g (Sum.term c a t) = go (divides g c) (constant-rest g t)
  where
    go : (b : Bool) → constant_of (part_r g t) ≡ floor_mod (constant_of t) g
        → constant_of (cond b (part_r g t) (Sum.term c a (part_r g t))) ≡ floor_mod (constant_of t) g
    go true ih = ih
    go false ih = ih

module _ (β : Kind → ℕ → Range) where
  unfoldable mutual
    pub NaturalA : Atom → Type 0
    NaturalA (Atom.var k n) = (β k n).lo ≡ pos 0
    NaturalA (Atom.op o t c) = ((op_range o (sum_range t β) c).lo ≡ pos 0) × NaturalS t

    pub NaturalS : Sum → Type 0
    NaturalS (Sum.const k) = IsNatural k
    NaturalS (Sum.term c a t) = IsNatural c × NaturalA a × NaturalS t

  -- ---- the lower end of a natural sum is its constant

  atom-low : (a : Atom) → NaturalA a → (atom_range a β).lo ≡ pos 0
  unfolding NaturalA atom_range
  atom-low (Atom.var k n) h = h
  atom-low (Atom.op o t c) h = h.0

  natural-low : (t : Sum) → NaturalS t → (sum_range t β).lo ≡ constant_of t
  unfolding NaturalS sum_range constant_of add_range mul_range IsNatural
  natural-low (Sum.const k) h = refl
  natural-low (Sum.term (pos n) a t) h =
      ap₂ (λ (x y : ℤ). pos n *ℤ x +ℤ y) (atom-low a h.1) (natural-low t h.2)
      ∙ ap (λ (x : ℤ). x +ℤ constant_of t) (*ℤ-zero (pos n))
      ∙ +ℤ_idl (constant_of t)
  natural-low (Sum.term (negsuc n) a t) h = absurd h.0

  -- ---- merging, scaling and parting

  natural-cons : (c : ℤ) (a : Atom) (t : Sum) → IsNatural c → NaturalA a → NaturalS t → NaturalS (cons_term c a t)
  unfolding cons_term NaturalS
  natural-cons (pos zero) a t n h k = k
  natural-cons (pos (suc m)) a t n h k = (n, h, k)
  natural-cons (negsuc m) a t n h k = (n, h, k)

  natural-insert : (c : ℤ) (a : Atom) (t : Sum) → IsNatural c → NaturalA a → NaturalS t → NaturalS (insert_term c a t)
  unfolding insert_term place_term NaturalS
  natural-insert c a (Sum.const k) n h p = natural-cons c a (Sum.const k) n h p
  natural-insert c a (Sum.term e b t) n h p = go (atom_order a b) (natural-insert c a t n h p.2)
    where
      go : (o : Ordering) → NaturalS (insert_term c a t) → NaturalS (place_term o c a e b t (insert_term c a t))
      go Ordering.lt ih = natural-cons c a (Sum.term e b t) n h p
      go Ordering.eq ih = natural-cons (c +ℤ e) b t (natural-plus c e n p.0) p.1 p.2
      go Ordering.gt ih = (p.0, p.1, ih)

  natural-constant : (z : ℤ) (t : Sum) → IsNatural z → NaturalS t → NaturalS (add_constant z t)
  unfolding add_constant NaturalS
  natural-constant z (Sum.const k) n h = natural-plus z k n h
  natural-constant z (Sum.term c a t) n h = (h.0, h.1, natural-constant z t n h.2)

  pub natural-add : (t u : Sum) → NaturalS t → NaturalS u → NaturalS (add_sums t u)
  unfolding add_sums NaturalS
  natural-add (Sum.const k) u h p = natural-constant k u h p
  natural-add (Sum.term c a t) u h p = natural-insert c a (add_sums t u) h.0 h.1 (natural-add t u h.2 p)

  pub natural-scale : (z : ℤ) (t : Sum) → IsNatural z → NaturalS t → NaturalS (scale_sum z t)
  unfolding scale_sum NaturalS
  natural-scale z (Sum.const k) n h = natural-times z k n h
  natural-scale z (Sum.term c a t) n h = natural-cons (z *ℤ c) a (scale_sum z t) (natural-times z c n h.0) h.1 (natural-scale z t n h.2)

  natural-part_p : (g : ℕ) (t : Sum) → NaturalS t → NaturalS (part_p g t)
  unfolding part_p NaturalS
  natural-part_p g (Sum.const k) h = natural-floor k g h
  natural-part_p g (Sum.term c a t) h = go (divides g c) (natural-part_p g t h.2)
    where
      go : (b : Bool) → NaturalS (part_p g t) → NaturalS (cond b (Sum.term (floor_div c g) a (part_p g t)) (part_p g t))
      go true ih = (natural-floor c g h.0, h.1, ih)
      go false ih = ih

  natural-part_r : (g : ℕ) (t : Sum) → NaturalS t → NaturalS (part_r g t)
  unfolding part_r NaturalS
  natural-part_r g (Sum.const k) h = natural-rest k g
  natural-part_r g (Sum.term c a t) h = go (divides g c) (natural-part_r g t h.2)
    where
      go : (b : Bool) → NaturalS (part_r g t) → NaturalS (cond b (part_r g t) (Sum.term c a (part_r g t)))
      go true ih = ih
      go false ih = (h.0, h.1, ih)

  -- g times P, and R, are no more than the sum
  parts-magnitude : (g : ℕ) (t : Sum) → NaturalS t → g * magnitude β (part_p g t) + magnitude β (part_r g t) ≤ magnitude β t
  unfolding part_p part_r NaturalS magnitude IsNatural
  parts-magnitude g (Sum.const (pos k)) h = omega (arith, NatL.div-add-mod k g)
  parts-magnitude g (Sum.const (negsuc k)) h = absurd h
  parts-magnitude g (Sum.term (negsuc n) a t) h = absurd h.0
  parts-magnitude g (Sum.term (pos n) a t) h = go (divides g (pos n)) (parts-magnitude g t h.2)
    where
      size : ℕ
      size = atom_magnitude β a

      go : (b : Bool) → g * magnitude β (part_p g t) + magnitude β (part_r g t) ≤ magnitude β t
          → g * magnitude β (cond b (Sum.term (floor_div (pos n) g) a (part_p g t)) (part_p g t))
          + magnitude β (cond b (part_r g t) (Sum.term (pos n) a (part_r g t))) ≤ n * size + magnitude β t
      go true ih =
          let q : g * (n / g) ≤ n = omega (arith, NatL.div-add-mod n g) in
          omega (
            arith,
            ih,
            NatL.mul-add g (n / g * size) (magnitude β (part_p g t)),
            NatL.mul_assoc g (n / g) size,
            NatL.mul-le-mul_right size q,
          )
      go false ih = omega arith

  rest-less : (g : ℕ) (t : Sum) → NaturalS t → magnitude β (part_r g t) ≤ magnitude β t
  rest-less g t h = omega (arith, parts-magnitude g t h)

  both-less : (g : ℕ) (t : Sum) → 0 < g → NaturalS t → magnitude β (part_p g t) + magnitude β (part_r g t) ≤ magnitude β t
  both-less g t l h = omega (arith, parts-magnitude g t h, NatL.mul-le-mul_right (magnitude β (part_p g t)) l)

  -- ---- one rule

  -- R lies in the first multiple
  natural-quotient : (g : ℕ) (t : Sum) → 0 < g → NaturalS t → quotient_of β g (part_r g t) ≡ pos 0
  unfolding quotient_of
  natural-quotient g t l h =
      ap (λ (z : ℤ). floor_div z g) (natural-low (part_r g t) (natural-part_r g t h) ∙ constant-rest g t) ∙ floor-of-mod (constant_of t) g l

  -- where nothing leaves, the sum is its own rest, and its constant is below the divisor
  keeps_same : (c : ℕ) (t : Sum) → NaturalS t → keeps_all c t ≡ true → part_r c t ≡ t
  unfolding part_r keeps_all NaturalS IsNatural
  keeps_same c (Sum.const (negsuc k)) h e = absurd h
  keeps_same c (Sum.const (pos k)) h e =
      let q : k / c ≡ 0 = pos_inj (k / c) 0 (eqℤ-eq (pos (k / c)) (pos 0) (rw e tt)) in
      ap (λ (n : ℕ). Sum.const (pos n)) (omega (arith, NatL.div-add-mod k c, ap (λ (n : ℕ). c * n) q))
  keeps_same c (Sum.term x a t) h e = go (divides c x) (keeps_same c t h.2) e
    where
      go : (b : Bool) → (keeps_all c t ≡ true → part_r c t ≡ t) → cond b false (keeps_all c t) ≡ true
          → cond b (part_r c t) (Sum.term x a (part_r c t)) ≡ Sum.term x a t
      go true ih q = absurd (let z : ◌≡◌ {A = ℕ} 0 1 = cc in omega arith)
      go false ih q = ap (Sum.term x a) (ih q)

  keeps-constant : (c : ℕ) (t : Sum) → keeps_all c t ≡ true → floor_div (constant_of t) c ≡ pos 0
  unfolding keeps_all constant_of
  keeps-constant c (Sum.const k) e = eqℤ-eq (floor_div k c) (pos 0) (rw e tt)
  keeps-constant c (Sum.term x a t) e = go (divides c x) (keeps-constant c t) e
    where
      go : (b : Bool) → (keeps_all c t ≡ true → floor_div (constant_of t) c ≡ pos 0) → cond b false (keeps_all c t) ≡ true → floor_div (constant_of t) c ≡ pos 0
      go true ih q = absurd (let z : ◌≡◌ {A = ℕ} 0 1 = cc in omega arith)
      go false ih q = ih q

  -- the range of a floordiv or mod at which no rule fits starts at 0
  stuck-low : (o : Op) (t : Sum) (c : ℕ) → NaturalS t → apply_rule β o t c ≡ stays o t c → (op_range o (sum_range t β) c).lo ≡ pos 0
  unfolding op_range one_quotient
  stuck-low floordiv t c h e = ap (λ (z : ℤ). floor_div z c) (natural-low t h) ∙ keeps-constant c t (stuck β floordiv t c e).keeps
  stuck-low modulo t c h e =
      let w = stuck β modulo t c e in
      let r = sum_range t β in
      let q : eqℤ (floor_div r.lo c) (floor_div r.hi c) ≡ false = subst (λ (u : Sum). one_quotient β c u ≡ false) (keeps_same c t h w.keeps) w.apart in
      ap (λ (b : Bool). (cond b (span (floor_mod r.lo c) (floor_mod r.hi c)) (span (pos 0) (pos (c - 1)))).lo) q

  -- what a rule leaves of t op c: a natural sum, or one around a new floordiv or mod, of no more magnitude
  unfoldable NaturalStep : Op → Sum → ℕ → Step → Type 0
  NaturalStep o t c (is u) = NaturalS u × (magnitude β u ≤ magnitude β t + room o c)
  NaturalStep o t c (again k u e a) =
      IsNatural k × NaturalS u × NaturalS a
      × (magnitude β u + room o e ≤ magnitude β t + room o c)
      × (nat_abs k * (magnitude β u + room o e) + magnitude β a ≤ magnitude β t + room o c)

  natural-stays : (o : Op) (t : Sum) (c : ℕ) → 0 < c → NaturalS t → apply_rule β o t c ≡ stays o t c → NaturalStep o t c (stays o t c)
  unfolding NaturalStep stays NaturalS IsNatural magnitude
  natural-stays o t c l h e = ((tt, (stuck-low o t c h e, h), tt), omega (arith, added-room o c l))

  natural-rule1 : (o : Op) (t : Sum) (c : ℕ) → NaturalS t → NaturalStep o t c (rule1 o t)
  unfolding NaturalStep rule1 NaturalS IsNatural magnitude
  natural-rule1 floordiv t c h = (h, omega arith)
  natural-rule1 modulo t c h = (tt, omega arith)

  natural-rule2 : (o : Op) (t : Sum) (c g : ℕ) → 0 < g → NaturalS t → NaturalStep o t c (rule2 o t c g (pos 0))
  unfolding NaturalStep rule2 NaturalS IsNatural magnitude
  natural-rule2 floordiv t c g l h =
      let p = part_p g t in
      let u = add_constant (pos 0) p in
      let m = magnitude-constant β (pos 0) p in
      let b = both-less g t l h in
      (tt, natural-constant (pos 0) p tt (natural-part_p g t h), tt, omega arith, omega arith)
  natural-rule2 modulo t c g l h =
      let p = part_p g t in
      let r = part_r g t in
      let u = add_constant (pos 0) p in
      let z = neg_ℤ (pos 0 *ℤ pos g) in
      let e : z ≡ pos 0 = ap neg_ℤ (zero-*ℤ (pos g)) in
      let m : magnitude β u ≤ magnitude β p = omega (arith, magnitude-constant β (pos 0) p) in
      let n : magnitude β (add_constant z r) ≤ magnitude β r = omega (arith, magnitude-constant β z r, ap nat_abs e) in
      let b = parts-magnitude g t h in
      let s = both-less g t l h in
      let x : g * (c / g) ≤ c = omega (arith, NatL.div-add-mod c g) in
      let y : c / g ≤ c = NatL.div-le_self c g in (
        tt,
        natural-constant (pos 0) p tt (natural-part_p g t h),
        natural-constant z r (subst IsNatural (sym e) tt) (natural-part_r g t h),
        omega arith,
        omega (
          arith,
          NatL.mul-add g (magnitude β u) (c / g + c / g),
          NatL.mul-add g (c / g) (c / g),
          NatL.mul-le-mul_left g m,
        ),
      )

  natural-rule3 : (o : Op) (t : Sum) (c : ℕ) → 0 < c → NaturalS t → NaturalStep o t c (rule3 o t c)
  unfolding NaturalStep rule3 NaturalS IsNatural magnitude
  natural-rule3 floordiv t c l h = let b = both-less c t l h in (tt, natural-part_r c t h, natural-part_p c t h, omega arith, omega arith)
  natural-rule3 modulo t c l h = let b = rest-less c t h in (tt, natural-part_r c t h, tt, omega arith, omega arith)

  natural-rule4 : (x : Sum) (a c : ℕ) → NaturalS (divided x a) → NaturalStep floordiv (divided x a) c (again (pos 1) x (a * c) (Sum.const (pos 0)))
  unfolding NaturalStep NaturalS IsNatural magnitude
  natural-rule4 x a c h = (tt, h.1.1, tt, omega arith, omega arith)

  natural-step : (o : Op) (t : Sum) (c : ℕ) → 0 < c → NaturalS t → NaturalStep o t c (apply_rule β o t c)
  natural-step o t c l h =
      by_cases β c (NaturalStep o t c) o t
      (record {
        first = λ e. natural-rule1 o t c h;
        second = λ g v w. let p : 0 < g = omega (arith, (v l).0) in subst (λ (q : ℤ). NaturalStep o t c (rule2 o t c g q)) (sym (natural-quotient g t p h)) (natural-rule2 o t c g p h);
        third = λ e. natural-rule3 o t c l h;
        fourth = λ x a e q m. subst (λ (p : Op). NaturalStep p t c (again (pos 1) x (a * c) (Sum.const (pos 0)))) (sym e)
            (subst (λ (u : Sum). NaturalStep floordiv u c (again (pos 1) x (a * c) (Sum.const (pos 0)))) (sym q) (natural-rule4 x a c (subst NaturalS q h)));
        none = λ e. natural-stays o t c l h e;
      })

  -- ---- all the rules

  rests-small : (t : Sum) (gs : List ℕ) → NaturalS t → magnitude β t ≤ limit → small_sums β (rests_tried β t gs) ≡ true
  unfolding rests_tried small_sums
  rests-small t [] h l = refl
  rests-small t (g ∷ gs) h l =
      and-true (magnitude-small β (part_r g t) (omega (arith, rest-less g t h))) (go (one_quotient β g (part_r g t)) (rests-small t gs h l))
    where
      go : (b : Bool) → small_sums β (rests_tried β t gs) ≡ true → small_sums β (elim b [ true ↦ [] | false ↦ rests_tried β t gs ]) ≡ true
      go true ih = refl
      go false ih = ih

  tried-small : (t : Sum) (c : ℕ) → NaturalS t → magnitude β t ≤ limit → small_sums β (tried β t c) ≡ true
  unfolding small_sums
  tried-small t c h l = go (eqb c 1)
    where
      go : (b : Bool) → small_sums β (cond b [] (rests_tried β t (divisors_tried c t))) ≡ true
      go true = refl
      go false = rests-small t (divisors_tried c t) h l

  -- the outcome of t op c is natural, its magnitude is no more, and every sum formed keeps the limits
  pub record Ends (n : ℕ) (o : Op) (t : Sum) (c : ℕ) : Type 0 where
    pub natural : NaturalS (apply_rules n β o t c)
    pub size : magnitude β (apply_rules n β o t c) ≤ magnitude β t + room o c
    pub small : magnitude β t + room o c ≤ limit → small_sums β (sums_formed n β o t c) ≡ true

  pub natural-run : (n : ℕ) (o : Op) (t : Sum) (c : ℕ) → 0 < c → FoldedS β t → weight t c < n → NaturalS t → Ends n o t c
  unfolding apply_rules sums_formed small_sums NaturalStep Good
  natural-run zero o t c l f w h = absurd (NatL.not-suc-le-zero w)
  natural-run (suc n) o t c l f w h =
      let r = go (apply_rule β o t c) (step-good β o t c l f) (natural-step o t c l h) (λ u e x y z v. natural-run n o u e x y z v) in
      record {
        natural = r.0;
        size = r.1;
        small = λ m. and-true (magnitude-small β t (omega arith)) (small-both β (tried β t c) (last_sums β n o (apply_rule β o t c)) (tried-small t c h (omega arith)) (r.2 m));
      }
    where
      go : (x : Step) → Good β t c x → NaturalStep o t c x
          → ((u : Sum) (e : ℕ) → 0 < e → FoldedS β u → weight u e < n → NaturalS u → Ends n o u e)
          → NaturalS (outcome (λ u e. apply_rules n β o u e) x)
          × (magnitude β (outcome (λ u e. apply_rules n β o u e) x) ≤ magnitude β t + room o c)
          × (magnitude β t + room o c ≤ limit → small_sums β (last_sums β n o x) ≡ true)
      go (is u) g s ih = (s.0, s.1, λ m. small_one β u (magnitude-small β u (omega (arith, s.1))))
      go (again k u e a) g s ih =
          let v = apply_rules n β o u e in
          let y = ih u e g.0 g.1 (omega (arith, g.3)) s.1 in
          let b = add_sums (scale_sum k v) a in
          let i : magnitude β b ≤ magnitude β t + room o c =
          omega (arith, magnitude-add β (scale_sum k v) a, magnitude-scale β k v, NatL.mul-le-mul_left (nat_abs k) y.size, s.4) in (
            natural-add (scale_sum k v) a (natural-scale k v s.0 y.natural) s.2,
            i,
            λ m. small-both β (sums_formed n β o u e) (b ∷ []) (y.small (omega (arith, s.3))) (small_one β b (magnitude-small β b (omega arith))),
          )
