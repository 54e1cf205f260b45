-- Worked examples of folding: lists of what is computed beside what it is, and that the two agree. Assumes nothing.
use mathlib.Core.Path.{refl}
use mathlib.Core.Bool.{Bool, true, false}
use mathlib.Core.List.{List, [], ◌∷◌, ◌++◌}
use Prim.Native.Nat.{ℕ, ◌^◌}
use lib.IntN.{ℤ, pos, neg_ℤ}
use Rattle.integer.specs.Gcd.{gcd_of}
use Rattle.integer.proofs.Samples.{Agree}
use Rattle.expression.specs.Expression.{Kind, d, s, rt, Op, floordiv, modulo, Expr, Range, span, op_of, eqℤ, add_range, mul_range, op_range, range_of, every_node, small_ranges}
use Rattle.expression.specs.Value.{point_of, bounds}
use Rattle.folding.specs.Sum.{Atom, Sum, atom_range, atom_size, term_count, then_by, integer_order, kind_number, op_number, atom_order}
use Rattle.folding.specs.Fold.{cons_term, place_term, insert_term, add_constant, add_sums, scale_sum, rule1, divides, part_p, part_r, one_quotient, quotient_of, rule2, insert_down, common_divisors, divisors_tried, rule3, keeps_all, stays, rule4, rules34, rules2, apply_rule, apply_rules, fuel_for, fold_sum, term_tree, constant_tree, atom_tree}
use Rattle.folding.specs.Working.{small_from, small_sum, small_sums, rests_tried, sums_formed, tree_sums, small_working}
use Rattle.folding.specs.Map.{Constraint, fold_tree, is_inside, fold_constraints, good_numbers}

-- the line `unfolding folds` opens all that folding computes with: ranges, merging, what rule 2 tries, the rules
unfoldable reckons : Unit {0}
unfolding bounds point_of eqℤ op_of add_range mul_range op_range atom_range
reckons = tt

unfoldable merges : Unit {0}
unfolding then_by integer_order kind_number op_number term_count atom_order cons_term place_term insert_term add_constant add_sums scale_sum
merges = tt

unfoldable tries : Unit {0}
unfolding gcd_of divides part_p part_r one_quotient quotient_of insert_down common_divisors divisors_tried
tries = tt

unfoldable pub folds : Unit {0}
unfolding reckons merges tries keeps_all rule1 rule2 rule3 stays rule4 rules34 rules2 apply_rule apply_rules atom_size fuel_for fold_sum
folds = tt

abbrev dim : ℕ → Expr
dim n = Expr.var d n

abbrev dim_atom : ℕ → Atom
dim_atom n = Atom.var d n

-- c * a + k
abbrev one_term : ℤ → Atom → ℤ → Sum
one_term c a k = Sum.term c a (Sum.const k)

-- d0 and d1 from 0 to 3 and 7: [32] to [4,8], output to input, is d0 * 8 + d1
abbrev join_bounds : Kind → ℕ → Range
join_bounds = bounds [] (pos 3 ∷ pos 7 ∷ [])

abbrev joined : Expr
joined = Expr.op floordiv (Expr.add (Expr.mul (pos 8) (dim 0)) (dim 1)) 1

abbrev pub join_samples : List (Sum × Sum)
join_samples = (fold_sum join_bounds joined, Sum.term (pos 8) (dim_atom 0) (one_term (pos 1) (dim_atom 1) (pos 0))) ∷ []

-- d1 from 3 to 17: slice [3:20:7], input to output, is (d1 + 4) floordiv 7 - 1, where (d1 + 4) mod 7 is 0
abbrev slice_bounds : Kind → ℕ → Range
slice_bounds = bounds (pos 0 ∷ pos 3 ∷ []) (pos 0 ∷ pos 17 ∷ [])

abbrev sliced : Op → Expr
sliced o = Expr.op o (Expr.add (dim 1) (Expr.const (neg_ℤ (pos 3)))) 7

abbrev sliced_atom : Op → Atom
sliced_atom o = Atom.op o (one_term (pos 1) (dim_atom 1) (pos 4)) 7

abbrev pub slice_samples : List (Sum × Sum)
slice_samples =
    (fold_sum slice_bounds (sliced floordiv), one_term (pos 1) (sliced_atom floordiv) (neg_ℤ (pos 1)))
    ∷ (fold_sum slice_bounds (sliced modulo), one_term (pos 1) (sliced_atom modulo) (pos 0))
    ∷ []

-- d0, d1 and d2 from 0 to 1, 3 and 3: [4,8] to [2,4,4], output to input, is d0 * 2 + d1 floordiv 2 and d2 + (d1 mod 2) * 4
abbrev split_bounds : Kind → ℕ → Range
split_bounds = bounds [] (pos 1 ∷ pos 3 ∷ pos 3 ∷ [])

abbrev linear : Expr
linear = Expr.add (Expr.add (Expr.mul (pos 16) (dim 0)) (Expr.mul (pos 4) (dim 1))) (dim 2)

abbrev half_atom : Op → Atom
half_atom o = Atom.op o (one_term (pos 1) (dim_atom 1) (pos 0)) 2

abbrev pub split_samples : List (Sum × Sum)
split_samples =
    (fold_sum split_bounds (Expr.op floordiv linear 8), Sum.term (pos 2) (dim_atom 0) (one_term (pos 1) (half_atom floordiv) (pos 0)))
    ∷ (fold_sum split_bounds (Expr.op modulo (Expr.op floordiv linear 1) 8), Sum.term (pos 1) (dim_atom 2) (one_term (pos 4) (half_atom modulo) (pos 0)))
    ∷ []

-- d0 within +-2^61: rule 4 joins two divisors where their product is at most 2^40
-- d0 from -1 to 2: after rule 4 the rules start again, and d0 * 8 floordiv 24 is d0 floordiv 3
abbrev wide_bounds : Kind → ℕ → Range
wide_bounds = bounds (neg_ℤ (pos (2 ^ 61)) ∷ []) (pos (2 ^ 61) ∷ [])

abbrev narrow_bounds : Kind → ℕ → Range
narrow_bounds = bounds (neg_ℤ (pos 1) ∷ []) (pos 2 ∷ [])

abbrev twice : Expr → ℕ → ℕ → Expr
twice e a c = Expr.op floordiv (Expr.op floordiv e a) c

abbrev dim_sum : Sum
dim_sum = one_term (pos 1) (dim_atom 0) (pos 0)

abbrev divided : Sum → ℕ → Sum
divided t c = one_term (pos 1) (Atom.op floordiv t c) (pos 0)

abbrev pub twice_samples : List (Sum × Sum)
twice_samples =
    (fold_sum wide_bounds (twice (dim 0) (2 ^ 20) (2 ^ 20)), divided dim_sum (2 ^ 40))
    ∷ (fold_sum wide_bounds (twice (dim 0) (2 ^ 20) (2 ^ 21)), divided (divided dim_sum (2 ^ 20)) (2 ^ 21))
    ∷ (fold_sum narrow_bounds (twice (Expr.mul (pos 8) (dim 0)) 3 8), divided dim_sum 3)
    ∷ []

-- the order of atoms: d, s, rt, then floordiv, then mod
abbrev pub order_samples : List (Sum × Sum)
order_samples =
    (fold_sum split_bounds (Expr.add (Expr.add (Expr.var rt 0) (Expr.var s 0)) (dim 0)), Sum.term (pos 1) (dim_atom 0) (Sum.term (pos 1) (Atom.var s 0) (one_term (pos 1) (Atom.var rt 0) (pos 0))))
    ∷ (fold_sum split_bounds (Expr.add (Expr.op modulo (dim 1) 2) (Expr.op floordiv (dim 1) 2)), Sum.term (pos 1) (half_atom floordiv) (one_term (pos 1) (half_atom modulo) (pos 0)))
    ∷ []

pub fold-samples : Agree (join_samples ++ slice_samples ++ split_samples ++ twice_samples ++ order_samples)
unfolding folds
fold-samples = refl

-- the tree of a folded sum: the slice's is ((d1 + 4) floordiv 7) + -1
abbrev pub tree_samples : List (Expr × Expr)
tree_samples =
    (fold_tree slice_bounds (sliced floordiv), Expr.add (Expr.op floordiv (Expr.add (dim 1) (Expr.const (pos 4))) 7) (Expr.const (neg_ℤ (pos 1))))
    ∷ (fold_tree slice_bounds (Expr.mul (pos 0) (dim 1)), Expr.const (pos 0))
    ∷ []

pub tree-samples : Agree tree_samples
unfolding folds fold_tree term_tree constant_tree atom_tree
tree-samples = refl

-- of d1 in [3, 17] and d1 mod 7 in [0, 0], with d1 from 3 to 17, the first goes and the second stays
abbrev always : Constraint
always = record { expr = dim 1; interval = span (pos 3) (pos 17) }

abbrev sometimes : Constraint
sometimes = record { expr = Expr.op modulo (dim 1) 7; interval = span (pos 0) (pos 0) }

abbrev pub constraint_samples : List (List Constraint × List Constraint)
constraint_samples = (fold_constraints slice_bounds (always ∷ sometimes ∷ []), sometimes ∷ []) ∷ []

pub constraint-samples : Agree constraint_samples
unfolding folds fold_constraints is_inside fold_tree term_tree constant_tree atom_tree
constraint-samples = refl

-- 4 * (2^62 * d0) - 4 * (2^62 * d0) with d0 in [0, 0]: every range is 0, the outcome too, but 2^64 is a coefficient on the way
abbrev cancelled : Expr
cancelled =
    let large = Expr.mul (pos (2 ^ 62)) (dim 0) in
    Expr.add (Expr.mul (pos 4) large) (Expr.mul (neg_ℤ (pos 4)) large)

abbrev pub limit_samples : List (Bool × Bool)
limit_samples =
    (small_ranges (bounds [] []) cancelled, true)
    ∷ (good_numbers cancelled, true)
    ∷ (small_working (bounds [] []) cancelled, false)
    ∷ (small_sum (bounds [] []) (fold_sum (bounds [] []) cancelled), true)
    ∷ (small_working slice_bounds (sliced floordiv), true)
    ∷ []

pub limit-samples : Agree limit_samples
unfolding folds small_ranges good_numbers every_node range_of small_working small_sums small_sum small_from tree_sums sums_formed rests_tried
limit-samples = refl
