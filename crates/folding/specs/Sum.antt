-- Folded sums: coefficient times atom, and a constant; their values, reckoned ranges and order. Assumes nothing.
use Prim.Native.Nat.{ℕ, suc, ◌+◌, compare, Ordering}
use Rattle.std.specs.Prelude.{ℤ, pos, negsuc, ◌+ℤ◌, ◌*ℤ◌}
use Rattle.expression.specs.Expression.{Kind, d, s, rt, Op, floordiv, modulo, Range, span, op_of, add_range, mul_range, op_range}

-- atoms are variables, floordivs and mods of folded sums; a folded sum is its terms, coefficient times atom, and last its constant
mutual
  pub data Atom : Type 0 where
    var : Kind → ℕ → Atom
    op : Op → Sum → ℕ → Atom

  pub data Sum : Type 0 where
    const : ℤ → Sum
    term : ℤ → Atom → Sum → Sum

-- ---- values and reckoned ranges

unfoldable mutual
  pub atom_value : Atom → (Kind → ℕ → ℤ) → ℤ
  atom_value (Atom.var k n) ρ = ρ k n
  atom_value (Atom.op o t c) ρ = op_of o (sum_value t ρ) c

  pub sum_value : Sum → (Kind → ℕ → ℤ) → ℤ
  sum_value (Sum.const k) ρ = k
  sum_value (Sum.term c a t) ρ = c *ℤ atom_value a ρ +ℤ sum_value t ρ

unfoldable mutual
  pub atom_range : Atom → (Kind → ℕ → Range) → Range
  atom_range (Atom.var k n) β = β k n
  atom_range (Atom.op o t c) β = op_range o (sum_range t β) c

  pub sum_range : Sum → (Kind → ℕ → Range) → Range
  sum_range (Sum.const k) β = span k k
  sum_range (Sum.term c a t) β = add_range (mul_range c (atom_range a β)) (sum_range t β)

-- how many terms, and how many atoms at every depth
unfoldable pub term_count : Sum → ℕ
term_count (Sum.const k) = 0
term_count (Sum.term c a t) = suc (term_count t)

unfoldable mutual
  pub atom_size : Atom → ℕ
  atom_size (Atom.var k n) = 1
  atom_size (Atom.op o t c) = suc (sum_size t)

  pub sum_size : Sum → ℕ
  sum_size (Sum.const k) = 0
  sum_size (Sum.term c a t) = atom_size a + sum_size t

-- ---- the order of atoms: d, s, rt by number, then floordiv, then mod; those by divisor, number of terms, the terms in turn, constant

unfoldable pub then_by : Ordering → Ordering → Ordering
then_by Ordering.lt o = Ordering.lt
then_by Ordering.eq o = o
then_by Ordering.gt o = Ordering.gt

unfoldable pub integer_order : ℤ → ℤ → Ordering
integer_order (pos a) (pos b) = compare a b
integer_order (pos a) (negsuc b) = Ordering.gt
integer_order (negsuc a) (pos b) = Ordering.lt
integer_order (negsuc a) (negsuc b) = compare b a

unfoldable pub kind_number : Kind → ℕ
kind_number d = 0
kind_number s = 1
kind_number rt = 2

unfoldable pub op_number : Op → ℕ
op_number floordiv = 3
op_number modulo = 4

unfoldable mutual
  pub atom_order : Atom → Atom → Ordering
  atom_order (Atom.var k n) (Atom.var l m) = then_by (compare (kind_number k) (kind_number l)) (compare n m)
  atom_order (Atom.var k n) (Atom.op p u e) = Ordering.lt
  atom_order (Atom.op o t c) (Atom.var l m) = Ordering.gt
  atom_order (Atom.op o t c) (Atom.op p u e) =
      then_by (compare (op_number o) (op_number p)) (then_by (compare c e) (then_by (compare (term_count t) (term_count u)) (sum_order t u)))

  -- the terms in turn (atom, then coefficient), then the constant
  pub sum_order : Sum → Sum → Ordering
  sum_order (Sum.const k) (Sum.const l) = integer_order k l
  sum_order (Sum.const k) (Sum.term c b u) = Ordering.lt
  sum_order (Sum.term c a t) (Sum.const l) = Ordering.gt
  sum_order (Sum.term c a t) (Sum.term e b u) = then_by (atom_order a b) (then_by (integer_order c e) (sum_order t u))
