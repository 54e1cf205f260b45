-- The number that an operation's own rules give. Assumes nothing.
use mathlib.Core.Path.{◌≡◌, refl}
use mathlib.Core.Bool.{Bool, true, false, cond, ◌&&◌}
use mathlib.Core.List.{List, [], ◌∷◌}
use Prim.Native.Nat.{ℕ}
use lib.Dec.{eqb}
use lib.ListN.{length}
use Rattle.radix.specs.Radix.{prod}
use Rattle.refusal.specs.Number.{verdict_answer, number_of}
use Rattle.refusal.specs.Judge.{rule, judge}
use Rattle.refusal.specs.declared.Refusal.{Refusal}
use Rattle.refusal.specs.declared.Refusal.TheVariants.{ShapeLimits, Attribute}
use Rattle.shape.specs.Shape.{sizes_of, good_shape}
use Rattle.shape.specs.Dimensions.{in_range, free}
use Rattle.operation_maps.specs.Operation.{Operation, no_repeat, rank_of, good_sizes, good_broadcast, good_cuts, good_operands, good_join, joined_sizes, list_rules, operation_rules}
use Rattle.operation_maps.specs.Numbers.{list_number, rule_number}

list-number : (s a : Bool) (l : List ℕ) → (verdict_answer (judge (list_rules s a l))).number ≡ list_number s a l
list-number s a l = go s a (free l) (no_repeat l).otherwise refl
  where
    go : (s a f : Bool) (r : Refusal) → number_of r ≡ 2
        → (verdict_answer (judge (rule s ShapeLimits ∷ rule a Attribute ∷ rule f r ∷ []))).number ≡ cond s (cond a (cond f 0 2) 2) 1
    go true true true r e = refl
    go true true false r e = e
    go true false f r e = refl
    go false a f r e = refl

two-number : (s a : Bool) → (verdict_answer (judge (rule s ShapeLimits ∷ rule a Attribute ∷ []))).number ≡ cond s (cond a 0 2) 1
two-number true true = refl
two-number true false = refl
two-number false a = refl

three-number : (s a t : Bool) → (verdict_answer (judge (rule s ShapeLimits ∷ rule a Attribute ∷ rule t ShapeLimits ∷ []))).number ≡ cond s (cond a (cond t 0 1) 2) 1
three-number true true true = refl
three-number true true false = refl
three-number true false t = refl
three-number false a t = refl

one_number : (s : Bool) → (verdict_answer (judge (rule s ShapeLimits ∷ []))).number ≡ cond s 0 1
one_number true = refl
one_number false = refl

pub rule-number : (op : Operation) → (verdict_answer (judge (operation_rules op))).number ≡ rule_number op
rule-number (Operation.elementwise x) = one_number (good_shape x)
rule-number (Operation.broadcast x y l) = list-number (good_shape x && good_shape y) (good_broadcast (sizes_of x) (sizes_of y) l) l
rule-number (Operation.transpose x l) = list-number (good_shape x) (eqb (length l) (rank_of x) && in_range (rank_of x) l) l
rule-number (Operation.reverse x l) = list-number (good_shape x) (in_range (rank_of x) l) l
rule-number (Operation.concatenate count held dim j) = three-number (good_operands count held) (good_join count held dim j) (good_sizes (joined_sizes count held dim))
rule-number (Operation.reduce x l) = list-number (good_shape x) (in_range (rank_of x) l) l
rule-number (Operation.reduce_init x l) = list-number (good_shape x) (in_range (rank_of x) l) l
rule-number (Operation.slice x starts limits strides) = two-number (good_shape x) (good_cuts (sizes_of x) starts limits strides)
rule-number (Operation.reshape x y) = two-number (good_shape x && good_shape y) (eqb (prod (sizes_of x)) (prod (sizes_of y)))
