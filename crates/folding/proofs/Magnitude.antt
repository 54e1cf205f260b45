-- The magnitude of a sum, which no number of it passes: of each term the coefficient's size times the atom's, and the constant's. Assumes nothing.
use mathlib.Core.Path.{◌≡◌, refl, ap}
use mathlib.Core.Bool.{Bool, true, false, cond}
use Prim.Native.Nat.{ℕ, zero, suc, ◌+◌, ◌*◌, ◌-◌, ◌<◌, ◌≤◌, Ordering}
use native.Mathlib.Omega.{arith}
use native.Mathlib.Nat as NatL
use borrow.Author.Tests.{le-leb}
use lib.IntN.{ℤ, pos, negsuc, nat_abs, ◌+ℤ◌, ◌*ℤ◌}
use Rattle.integer.specs.Exact.{limit}
use Rattle.integer.specs.Floor.{floor_div, floor_mod}
use Rattle.integer.proofs.Linear.{add_parts, abs-parts, abs-le}
use Rattle.integer.proofs.Signs.{abs-mul}
use Rattle.radix.proofs.Tests.{and-true}
use Rattle.expression.specs.Expression.{Kind, Op, floordiv, modulo, Expr, Range, span, eqℤ, add_range, mul_range, op_range, range_of, small_range, every_node, small_ranges}
use Rattle.folding.specs.Sum.{Atom, Sum, atom_order, atom_range, sum_range}
use Rattle.folding.specs.Fold.{cons_term, place_term, insert_term, add_constant, add_sums, scale_sum}
use Rattle.folding.specs.Working.{small_from, small_sum}
use Rattle.folding.proofs.AtomOrder.{order_same}
use Rattle.folding.proofs.TreeRange.{zero_range}

-- ---- sizes of sums, quotients and remainders

pub abs-add : (a b : ℤ) → nat_abs (a +ℤ b) ≤ nat_abs a + nat_abs b
abs-add a b = abs-le (a +ℤ b) (nat_abs a + nat_abs b) (omega (arith, add_parts a b, abs-parts a, abs-parts b))

pub abs-floor : (z : ℤ) (c : ℕ) → nat_abs (floor_div z c) ≤ nat_abs z
abs-floor (pos a) c = NatL.div-le_self a c
abs-floor (negsuc a) c = omega (arith, NatL.div-le_self a c)

pub abs-rest : (z : ℤ) (c : ℕ) → nat_abs (floor_mod z c) ≤ nat_abs z + c
abs-rest (pos a) c = omega (arith, NatL.mod-le a c)
abs-rest (negsuc a) c = omega arith

-- ---- a range whose ends have sizes of at most n

pub record Within (r : Range) (n : ℕ) : Type 0 where
  pub low : nat_abs r.lo ≤ n
  pub high : nat_abs r.hi ≤ n

pub within_more : {r : Range} {n m : ℕ} → n ≤ m → Within r n → Within r m
within_more l h = record { low = omega (arith, h.low); high = omega (arith, h.high) }

pub within-small : {r : Range} {n : ℕ} → Within r n → n ≤ limit → small_range r ≡ true
within-small {r} h l = and-true (le-leb (nat_abs r.lo) limit (omega (arith, h.low))) (le-leb (nat_abs r.hi) limit (omega (arith, h.high)))

within-add : {r q : Range} {n m : ℕ} → Within r n → Within q m → Within (add_range r q) (n + m)
unfolding add_range
within-add {r} {q} h k =
    record { low = omega (arith, abs-add r.lo q.lo, h.low, k.low); high = omega (arith, abs-add r.hi q.hi, h.high, k.high) }

abs-times : (c z : ℤ) (n : ℕ) → nat_abs z ≤ n → nat_abs (c *ℤ z) ≤ nat_abs c * n
abs-times c z n h = omega (arith, abs-mul c z, NatL.mul-le-mul_left (nat_abs c) h)

within-mul : (c : ℤ) {r : Range} {n : ℕ} → Within r n → Within (mul_range c r) (nat_abs c * n)
unfolding mul_range
within-mul (pos k) {r} {n} h = record { low = abs-times (pos k) r.lo n h.low; high = abs-times (pos k) r.hi n h.high }
within-mul (negsuc k) {r} {n} h = record { low = abs-times (negsuc k) r.hi n h.high; high = abs-times (negsuc k) r.lo n h.low }

-- what a floordiv or mod can add to the size of its range's ends
abbrev pub added : Op → ℕ → ℕ
added floordiv c = 0
added modulo c = c

-- what folding one can add
abbrev pub room : Op → ℕ → ℕ
room floordiv c = 1
room modulo c = c + c

pub added-room : (o : Op) (c : ℕ) → 0 < c → added o c < room o c
added-room floordiv c h = omega arith
added-room modulo c h = omega arith

added-le : (o : Op) (c : ℕ) → added o c ≤ room o c
added-le floordiv c = omega arith
added-le modulo c = omega arith

within-op : (o : Op) (c : ℕ) {r : Range} {n : ℕ} → Within r n → Within (op_range o r c) (n + added o c)
unfolding op_range
within-op floordiv c {r} h = record { low = omega (arith, abs-floor r.lo c, h.low); high = omega (arith, abs-floor r.hi c, h.high) }
within-op modulo c {r} {n} h = go (eqℤ (floor_div r.lo c) (floor_div r.hi c))
  where
    go : (b : Bool) → Within (cond b (span (floor_mod r.lo c) (floor_mod r.hi c)) (span (pos 0) (pos (c - 1)))) (n + c)
    go true = record { low = omega (arith, abs-rest r.lo c, h.low); high = omega (arith, abs-rest r.hi c, h.high) }
    go false = record { low = omega arith; high = omega arith }

within-const : (z : ℤ) → Within (span z z) (nat_abs z)
within-const z = record { low = omega arith; high = omega arith }

module _ (β : Kind → ℕ → Range) where
  -- ---- the magnitude of an atom and of a sum

  unfoldable mutual
    pub atom_magnitude : Atom → ℕ
    atom_magnitude (Atom.var k n) = suc (nat_abs (β k n).lo + nat_abs (β k n).hi)
    atom_magnitude (Atom.op o t c) = suc (magnitude t + added o c)

    pub magnitude : Sum → ℕ
    magnitude (Sum.const k) = nat_abs k
    magnitude (Sum.term c a t) = nat_abs c * atom_magnitude a + magnitude t

  atom-above : (a : Atom) → 0 < atom_magnitude a
  unfolding atom_magnitude
  atom-above (Atom.var k n) = omega arith
  atom-above (Atom.op o t c) = omega arith

  -- ---- no number of a sum passes its magnitude

  mutual
    unfolding atom_range sum_range atom_magnitude magnitude

    atom-within : (a : Atom) → Within (atom_range a β) (atom_magnitude a)
    atom-within (Atom.var k n) = record { low = omega arith; high = omega arith }
    atom-within (Atom.op o t c) = within_more (omega arith) (within-op o c (sum-within t))

    pub sum-within : (t : Sum) → Within (sum_range t β) (magnitude t)
    sum-within (Sum.const k) = within-const k
    sum-within (Sum.term c a t) = within-add (within-mul c (atom-within a)) (sum-within t)

  small-from : (r : Range) (n : ℕ) (t : Sum) → Within r n → n + magnitude t ≤ limit → small_from β r t ≡ true
  unfolding small_from magnitude
  small-from r n (Sum.const k) h l = and-true (le-leb (nat_abs k) limit (omega arith)) (within-small (within-add h (within-const k)) l)
  small-from r n (Sum.term c a t) h l =
      let m = nat_abs c * atom_magnitude a in
      let p = within-mul c (atom-within a) in
      let q = within-add h p in
      let f = NatL.le-mul_of_pos_right (nat_abs c) (atom-above a) in
      and-true
      (and-true (and-true (le-leb (nat_abs c) limit (omega arith)) (within-small p (omega arith))) (within-small q (omega arith)))
      (small-from (add_range r (mul_range c (atom_range a β))) (n + m) t q (omega arith))

  -- a sum whose magnitude is at most 2^62 keeps the limits
  pub magnitude-small : (t : Sum) → magnitude t ≤ limit → small_sum β t ≡ true
  unfolding small_sum
  magnitude-small t l = small-from zero_range 0 t (record { low = omega arith; high = omega arith }) (omega arith)

  -- ---- merging and scaling

  magnitude-cons : (c : ℤ) (a : Atom) (t : Sum) → magnitude (cons_term c a t) ≤ nat_abs c * atom_magnitude a + magnitude t
  unfolding cons_term magnitude
  magnitude-cons (pos zero) a t = omega arith
  magnitude-cons (pos (suc n)) a t = omega arith
  magnitude-cons (negsuc n) a t = omega arith

  magnitude-insert : (c : ℤ) (a : Atom) (t : Sum) → magnitude (insert_term c a t) ≤ nat_abs c * atom_magnitude a + magnitude t
  unfolding insert_term place_term magnitude
  magnitude-insert c a (Sum.const k) = magnitude-cons c a (Sum.const k)
  magnitude-insert c a (Sum.term e b t) = go (atom_order a b) refl (magnitude-insert c a t)
    where
      go : (o : Ordering) → atom_order a b ≡ o → magnitude (insert_term c a t) ≤ nat_abs c * atom_magnitude a + magnitude t
          → magnitude (place_term o c a e b t (insert_term c a t)) ≤ nat_abs c * atom_magnitude a + (nat_abs e * atom_magnitude b + magnitude t)
      go Ordering.lt q ih = magnitude-cons c a (Sum.term e b t)
      go Ordering.eq q ih =
          let s : atom_magnitude a ≡ atom_magnitude b = ap atom_magnitude (order_same a b q) in
          omega (
            arith,
            magnitude-cons (c +ℤ e) b t,
            NatL.mul-le-mul_right (atom_magnitude b) (abs-add c e),
            NatL.add-mul (nat_abs c) (nat_abs e) (atom_magnitude b),
            ap (λ (n : ℕ). nat_abs c * n) s,
          )
      go Ordering.gt q ih = omega arith

  pub magnitude-constant : (z : ℤ) (t : Sum) → magnitude (add_constant z t) ≤ nat_abs z + magnitude t
  unfolding add_constant magnitude
  magnitude-constant z (Sum.const k) = abs-add z k
  magnitude-constant z (Sum.term c a t) = omega (arith, magnitude-constant z t)

  pub magnitude-add : (t u : Sum) → magnitude (add_sums t u) ≤ magnitude t + magnitude u
  unfolding add_sums magnitude
  magnitude-add (Sum.const k) u = magnitude-constant k u
  magnitude-add (Sum.term c a t) u = omega (arith, magnitude-insert c a (add_sums t u), magnitude-add t u)

  pub magnitude-scale : (z : ℤ) (t : Sum) → magnitude (scale_sum z t) ≤ nat_abs z * magnitude t
  unfolding scale_sum magnitude
  magnitude-scale z (Sum.const k) = omega (arith, abs-mul z k)
  magnitude-scale z (Sum.term c a t) =
      omega (
        arith,
        magnitude-cons (z *ℤ c) a (scale_sum z t),
        magnitude-scale z t,
        ap (λ (n : ℕ). n * atom_magnitude a) (abs-mul z c),
        NatL.mul_assoc (nat_abs z) (nat_abs c) (atom_magnitude a),
        NatL.mul-add (nat_abs z) (nat_abs c * atom_magnitude a) (magnitude t),
      )

  -- ---- the magnitude of a tree, which grows from the leaves up

  unfoldable pub tree_magnitude : Expr → ℕ
  tree_magnitude (Expr.var k n) = atom_magnitude (Atom.var k n)
  tree_magnitude (Expr.const z) = nat_abs z
  tree_magnitude (Expr.add a b) = tree_magnitude a + tree_magnitude b
  tree_magnitude (Expr.mul z a) = tree_magnitude a + nat_abs z * tree_magnitude a
  tree_magnitude (Expr.op o a c) = tree_magnitude a + room o c

  tree-within : (e : Expr) → Within (range_of β e) (tree_magnitude e)
  unfolding range_of tree_magnitude atom_magnitude
  tree-within (Expr.var k n) = record { low = omega arith; high = omega arith }
  tree-within (Expr.const z) = within-const z
  tree-within (Expr.add a b) = within-add (tree-within a) (tree-within b)
  tree-within (Expr.mul z a) = within_more (omega arith) (within-mul z (tree-within a))
  tree-within (Expr.op o a c) = within_more (omega (arith, added-le o c)) (within-op o c (tree-within a))

  -- the range of every node of a tree whose magnitude is at most 2^62 lies within +-2^62
  pub tree-ranges : (e : Expr) → tree_magnitude e ≤ limit → small_ranges β e ≡ true
  unfolding small_ranges every_node tree_magnitude
  tree-ranges (Expr.var k n) l = within-small (tree-within (Expr.var k n)) l
  tree-ranges (Expr.const z) l = within-small (tree-within (Expr.const z)) l
  tree-ranges (Expr.add a b) l =
      and-true (and-true (tree-ranges a (omega arith)) (tree-ranges b (omega arith))) (within-small (tree-within (Expr.add a b)) l)
  tree-ranges (Expr.mul z a) l = and-true (tree-ranges a (omega arith)) (within-small (tree-within (Expr.mul z a)) l)
  tree-ranges (Expr.op o a c) l = and-true (tree-ranges a (omega arith)) (within-small (tree-within (Expr.op o a c)) l)
