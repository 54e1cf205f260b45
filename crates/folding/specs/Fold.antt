-- Folding: sums merged, the four rules for S floordiv c and S mod c, and trees folded from the leaves up. Assumes nothing.
use Rattle.std.specs.Prelude.{Bool, false, cond, List, [], ◌∷◌, ℤ, pos, negsuc, ◌+ℤ◌, ◌*ℤ◌, neg_ℤ, nat_abs, eqb, leb, ltb}
use Prim.Native.Nat.{ℕ, zero, suc, ◌+◌, ◌*◌, ◌/◌, ◌^◌, Ordering}
use Rattle.integer.specs.Floor.{floor_div, floor_mod}
use Rattle.integer.specs.Gcd.{gcd_of}
use Rattle.expression.specs.Expression.{Kind, Op, floordiv, modulo, Expr, Range, eqℤ}
use Rattle.expression.specs.Node.{max_divisor}
use Rattle.folding.specs.Sum.{Atom, Sum, sum_range, atom_order, sum_size}

-- ---- like atoms merge, zero terms go

unfoldable pub cons_term : ℤ → Atom → Sum → Sum
cons_term (pos zero) a t = t
cons_term (pos (suc n)) a t = Sum.term (pos (suc n)) a t
cons_term (negsuc n) a t = Sum.term (negsuc n) a t

-- the term c * a against the first term e * b of a sum: before it, merged with it, or further on, where the sum is r
unfoldable pub place_term : Ordering → ℤ → Atom → ℤ → Atom → Sum → Sum → Sum
place_term Ordering.lt c a e b t r = cons_term c a (Sum.term e b t)
place_term Ordering.eq c a e b t r = cons_term (c +ℤ e) b t
place_term Ordering.gt c a e b t r = Sum.term e b r

unfoldable pub insert_term : ℤ → Atom → Sum → Sum
insert_term c a (Sum.const k) = cons_term c a (Sum.const k)
insert_term c a (Sum.term e b t) = place_term (atom_order a b) c a e b t (insert_term c a t)

unfoldable pub add_constant : ℤ → Sum → Sum
add_constant z (Sum.const k) = Sum.const (z +ℤ k)
add_constant z (Sum.term c a t) = Sum.term c a (add_constant z t)

unfoldable pub add_sums : Sum → Sum → Sum
add_sums (Sum.const k) u = add_constant k u
add_sums (Sum.term c a t) u = insert_term c a (add_sums t u)

unfoldable pub scale_sum : ℤ → Sum → Sum
scale_sum z (Sum.const k) = Sum.const (z *ℤ k)
scale_sum z (Sum.term c a t) = cons_term (z *ℤ c) a (scale_sum z t)

-- ---- one rule applied to S floordiv c or S mod c: the outcome is a sum, or k * (T op e) + A with a new T op e

pub data Step : Type 0 where
  is : Sum → Step
  again : ℤ → Sum → ℕ → Sum → Step

-- 1. c = 1: S, or 0
unfoldable pub rule1 : Op → Sum → Step
rule1 floordiv t = is t
rule1 modulo t = is (Sum.const (pos 0))

-- 2. P collects the terms that g divides, divided by g, with the constant's floor; R is the rest, with the constant mod g
unfoldable pub divides : ℕ → ℤ → Bool
divides g z = eqℤ (floor_mod z g) (pos 0)

unfoldable pub part_p : ℕ → Sum → Sum
part_p g (Sum.const k) = Sum.const (floor_div k g)
part_p g (Sum.term c a t) = cond (divides g c) (Sum.term (floor_div c g) a (part_p g t)) (part_p g t)

unfoldable pub part_r : ℕ → Sum → Sum
part_r g (Sum.const k) = Sum.const (floor_mod k g)
part_r g (Sum.term c a t) = cond (divides g c) (part_r g t) (Sum.term c a (part_r g t))

-- R's range lies in [q * g, q * g + g - 1] for one q, and this q
unfoldable pub one_quotient : (Kind → ℕ → Range) → ℕ → Sum → Bool
one_quotient β g r = eqℤ (floor_div (sum_range r β).lo g) (floor_div (sum_range r β).hi g)

unfoldable pub quotient_of : (Kind → ℕ → Range) → ℕ → Sum → ℤ
quotient_of β g r = floor_div (sum_range r β).lo g

-- floordiv is (P + q) floordiv (c / g), mod is g * ((P + q) mod (c / g)) + R - q * g
unfoldable pub rule2 : Op → Sum → ℕ → ℕ → ℤ → Step
rule2 floordiv t c g q = again (pos 1) (add_constant q (part_p g t)) (c / g) (Sum.const (pos 0))
rule2 modulo t c g q = again (pos g) (add_constant q (part_p g t)) (c / g) (add_constant (neg_ℤ (q *ℤ pos g)) (part_r g t))

-- the numbers g tried: c, then the gcd of c with each coefficient's size, largest first, g > 1
unfoldable pub insert_down : ℕ → List ℕ → List ℕ
insert_down g [] = g ∷ []
insert_down g (h ∷ t) = cond (leb h g) (g ∷ h ∷ t) (h ∷ insert_down g t)

unfoldable pub common_divisors : ℕ → Sum → List ℕ
common_divisors c (Sum.const k) = []
common_divisors c (Sum.term e a t) =
    let g = gcd_of c (nat_abs e) in
    cond (ltb 1 g) (insert_down g (common_divisors c t)) (common_divisors c t)

unfoldable pub divisors_tried : ℕ → Sum → List ℕ
divisors_tried c t = c ∷ common_divisors c t

-- 3. terms that c divides, and the constant's multiple of c, leave: floordiv adds them outside divided by c, mod drops them
unfoldable pub rule3 : Op → Sum → ℕ → Step
rule3 floordiv t c = again (pos 1) (part_r c t) c (part_p c t)
rule3 modulo t c = again (pos 1) (part_r c t) c (Sum.const (pos 0))

-- there is nothing that leaves
unfoldable pub keeps_all : ℕ → Sum → Bool
keeps_all c (Sum.const k) = eqℤ (floor_div k c) (pos 0)
keeps_all c (Sum.term e a t) = cond (divides c e) false (keeps_all c t)

-- no rule fits: the floordiv or mod is an atom
unfoldable pub stays : Op → Sum → ℕ → Step
stays o t c = is (Sum.term (pos 1) (Atom.op o t c) (Sum.const (pos 0)))

-- 4. a floordiv of exactly one (X floordiv a), coefficient 1, constant 0, a * c <= 2^40, becomes X floordiv (a * c)
unfoldable pub rule4 : Op → Sum → ℕ → Step
rule4 modulo t c = stays modulo t c
rule4 floordiv (Sum.const k) c = stays floordiv (Sum.const k) c
rule4 floordiv (Sum.term e (Atom.var k n) t) c = stays floordiv (Sum.term e (Atom.var k n) t) c
rule4 floordiv (Sum.term e (Atom.op modulo x a) t) c = stays floordiv (Sum.term e (Atom.op modulo x a) t) c
rule4 floordiv (Sum.term e (Atom.op floordiv x a) (Sum.term f b t)) c = stays floordiv (Sum.term e (Atom.op floordiv x a) (Sum.term f b t)) c
rule4 floordiv (Sum.term e (Atom.op floordiv x a) (Sum.const k)) c =
    cond (eqℤ e (pos 1))
    (cond (eqℤ k (pos 0))
    (cond (leb (a * c) max_divisor)
    (again (pos 1) x (a * c) (Sum.const (pos 0)))
    (stays floordiv (Sum.term e (Atom.op floordiv x a) (Sum.const k)) c))
    (stays floordiv (Sum.term e (Atom.op floordiv x a) (Sum.const k)) c))
    (stays floordiv (Sum.term e (Atom.op floordiv x a) (Sum.const k)) c)

unfoldable pub rules34 : Op → Sum → ℕ → Step
rules34 o t c = cond (keeps_all c t) (rule4 o t c) (rule3 o t c)

unfoldable pub rules2 : (Kind → ℕ → Range) → Op → Sum → ℕ → List ℕ → Step
rules2 β o t c [] = rules34 o t c
rules2 β o t c (g ∷ gs) =
    let r = part_r g t in
    cond (one_quotient β g r) (rule2 o t c g (quotient_of β g r)) (rules2 β o t c gs)

-- the first rule that fits, in the order of their numbers
unfoldable pub apply_rule : (Kind → ℕ → Range) → Op → Sum → ℕ → Step
apply_rule β o t c = cond (eqb c 1) (rule1 o t) (rules2 β o t c (divisors_tried c t))

-- ---- starting again on any new floordiv or mod formed, at most n times

unfoldable pub apply_rules : ℕ → (Kind → ℕ → Range) → Op → Sum → ℕ → Sum
apply_rules zero β o t c = Sum.term (pos 1) (Atom.op o t c) (Sum.const (pos 0))
apply_rules (suc n) β o t c = elim (apply_rule β o t c) [ is u ↦ u | again k u e a ↦ add_sums (scale_sum k (apply_rules n β o u e)) a ]

-- more than the rules can take: rule 2 makes c smaller, rule 3 fits once at a c, and rule 4 leaves fewer atoms and a c up to 2^40
unfoldable pub fuel_for : Sum → ℕ → ℕ
fuel_for t c = suc (sum_size t * (2 ^ 41 + 2) + (c + c + 1))

-- ---- from the leaves up

unfoldable pub fold_sum : (Kind → ℕ → Range) → Expr → Sum
fold_sum β (Expr.var k n) = Sum.term (pos 1) (Atom.var k n) (Sum.const (pos 0))
fold_sum β (Expr.const z) = Sum.const z
fold_sum β (Expr.add a b) = add_sums (fold_sum β a) (fold_sum β b)
fold_sum β (Expr.mul z a) = scale_sum z (fold_sum β a)
fold_sum β (Expr.op o a c) = apply_rules (fuel_for (fold_sum β a) c) β o (fold_sum β a) c

-- ---- a folded sum as a tree: a coefficient other than 1 is a product, a constant stands if it is not 0 or if alone, sums lean left

unfoldable pub term_tree : ℤ → Expr → Expr
term_tree c x = cond (eqℤ c (pos 1)) x (Expr.mul c x)

unfoldable pub constant_tree : ℤ → Expr → Expr
constant_tree k x = cond (eqℤ k (pos 0)) x (Expr.add x (Expr.const k))

unfoldable mutual
  pub atom_tree : Atom → Expr
  atom_tree (Atom.var k n) = Expr.var k n
  atom_tree (Atom.op o t c) = Expr.op o (sum_tree t) c

  pub sum_tree : Sum → Expr
  sum_tree (Sum.const k) = Expr.const k
  sum_tree (Sum.term c a t) = join_terms t (term_tree c (atom_tree a))

  -- the terms and the constant of a sum added to a tree
  pub join_terms : Sum → Expr → Expr
  join_terms (Sum.const k) x = constant_tree k x
  join_terms (Sum.term c a t) x = join_terms t (Expr.add x (term_tree c (atom_tree a)))
