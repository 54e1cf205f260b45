-- The order of atoms is an order: what compares as equal is equal, turned round it is the other way, and it is transitive. Assumes nothing.
use mathlib.Core.Path.{◌≡◌, refl, sym, ap, ap₂, ◌∙◌, subst}
use Prim.Native.Nat.compare
use Prim.Native.Nat.{ℕ, zero, suc, compare, Ordering}
use lib.Dec.{T, is_le, compare_is_eq, eqb→eq}
use lib.IntN.{ℤ, pos, negsuc}
use Rattle.expression.specs.Expression.{Kind, d, s, rt, Op, floordiv, modulo}
use Rattle.folding.specs.Sum.{Atom, Sum, term_count, atom_order, sum_order, integer_order, then_by, kind_number, op_number}

-- ---- what compares as equal is equal

then_same : (x y : Ordering) → then_by x y ≡ Ordering.eq → (x ≡ Ordering.eq) × (y ≡ Ordering.eq)
unfolding then_by
then_same Ordering.lt y e = absurd (subst (λ o. T (compare_is_eq o)) (sym e) tt)
then_same Ordering.eq y e = (refl, e)
then_same Ordering.gt y e = absurd (subst (λ o. T (compare_is_eq o)) (sym e) tt)

pub compare-eq : (m n : ℕ) → compare m n ≡ Ordering.eq → m ≡ n
compare-eq m n e = eqb→eq m n (subst (λ o. T (compare_is_eq o)) (sym e) tt)

integer-order-same : (a b : ℤ) → integer_order a b ≡ Ordering.eq → a ≡ b
unfolding integer_order
integer-order-same (pos a) (pos b) e = ap pos (compare-eq a b e)
integer-order-same (pos a) (negsuc b) e = absurd (subst (λ o. T (compare_is_eq o)) (sym e) tt)
integer-order-same (negsuc a) (pos b) e = absurd (subst (λ o. T (compare_is_eq o)) (sym e) tt)
integer-order-same (negsuc a) (negsuc b) e = ap negsuc (sym (compare-eq b a e))

kind-same : (k l : Kind) → compare (kind_number k) (kind_number l) ≡ Ordering.eq → k ≡ l
unfolding kind_number
kind-same d d e = refl
kind-same d s e = absurd (subst (λ o. T (compare_is_eq o)) (sym e) tt)
kind-same d rt e = absurd (subst (λ o. T (compare_is_eq o)) (sym e) tt)
kind-same s d e = absurd (subst (λ o. T (compare_is_eq o)) (sym e) tt)
kind-same s s e = refl
kind-same s rt e = absurd (subst (λ o. T (compare_is_eq o)) (sym e) tt)
kind-same rt d e = absurd (subst (λ o. T (compare_is_eq o)) (sym e) tt)
kind-same rt s e = absurd (subst (λ o. T (compare_is_eq o)) (sym e) tt)
kind-same rt rt e = refl

op_same : (o p : Op) → compare (op_number o) (op_number p) ≡ Ordering.eq → o ≡ p
unfolding op_number
op_same floordiv floordiv e = refl
op_same floordiv modulo e = absurd (subst (λ o. T (compare_is_eq o)) (sym e) tt)
op_same modulo floordiv e = absurd (subst (λ o. T (compare_is_eq o)) (sym e) tt)
op_same modulo modulo e = refl

mutual
  unfolding atom_order sum_order

  pub order_same : (a b : Atom) → atom_order a b ≡ Ordering.eq → a ≡ b
  order_same (Atom.var k n) (Atom.var l m) e =
      let h = then_same _ _ e in ap₂ Atom.var (kind-same k l h.0) (compare-eq n m h.1)
  order_same (Atom.var k n) (Atom.op p u f) e = absurd (subst (λ o. T (compare_is_eq o)) (sym e) tt)
  order_same (Atom.op o t c) (Atom.var l m) e = absurd (subst (λ o. T (compare_is_eq o)) (sym e) tt)
  order_same (Atom.op o t c) (Atom.op p u f) e =
      let h = then_same _ _ e in
      let h2 = then_same _ _ h.1 in
      let h3 = then_same _ _ h2.1 in
      ap (λ x. Atom.op x t c) (op_same o p h.0)
      ∙ ap (λ x. Atom.op p x c) (sum-order-same t u h3.1)
      ∙ ap (λ x. Atom.op p u x) (compare-eq c f h2.0)

  sum-order-same : (t u : Sum) → sum_order t u ≡ Ordering.eq → t ≡ u
  sum-order-same (Sum.const k) (Sum.const l) e = ap Sum.const (integer-order-same k l e)
  sum-order-same (Sum.const k) (Sum.term c b u) e = absurd (subst (λ o. T (compare_is_eq o)) (sym e) tt)
  sum-order-same (Sum.term c a t) (Sum.const l) e = absurd (subst (λ o. T (compare_is_eq o)) (sym e) tt)
  sum-order-same (Sum.term c a t) (Sum.term f b u) e =
      let h = then_same _ _ e in
      let h2 = then_same _ _ h.1 in
      ap (λ x. Sum.term x a t) (integer-order-same c f h2.0)
      ∙ ap (λ x. Sum.term f x t) (order_same a b h.0)
      ∙ ap (λ x. Sum.term f b x) (sum-order-same t u h2.1)

-- ---- turned round

abbrev pub flip : Ordering → Ordering
flip Ordering.lt = Ordering.gt
flip Ordering.eq = Ordering.eq
flip Ordering.gt = Ordering.lt

flip-then : (x y x' y' : Ordering) → x' ≡ flip x → y' ≡ flip y → then_by x' y' ≡ flip (then_by x y)
unfolding then_by
flip-then Ordering.lt y x' y' e f = ap (λ o. then_by o y') e
flip-then Ordering.eq y x' y' e f = ap (λ o. then_by o y') e ∙ f
flip-then Ordering.gt y x' y' e f = ap (λ o. then_by o y') e

compare-flip : (m n : ℕ) → compare n m ≡ flip (compare m n)
compare-flip zero zero = compare.zero-zero ∙ sym (ap flip compare.zero-zero)
compare-flip zero (suc n) = compare.suc-zero n ∙ sym (ap flip (compare.zero-suc n))
compare-flip (suc m) zero = compare.zero-suc m ∙ sym (ap flip (compare.suc-zero m))
compare-flip (suc m) (suc n) = compare.suc-suc n m ∙ compare-flip m n ∙ sym (ap flip (compare.suc-suc m n))

integer-flip : (a b : ℤ) → integer_order b a ≡ flip (integer_order a b)
unfolding integer_order
integer-flip (pos a) (pos b) = compare-flip a b
integer-flip (pos a) (negsuc b) = refl
integer-flip (negsuc a) (pos b) = refl
integer-flip (negsuc a) (negsuc b) = compare-flip b a

mutual
  unfolding atom_order

  pub order_flip : (a b : Atom) → atom_order b a ≡ flip (atom_order a b)
  order_flip (Atom.var k n) (Atom.var l m) = flip-then _ _ _ _ (compare-flip (kind_number k) (kind_number l)) (compare-flip n m)
  order_flip (Atom.var k n) (Atom.op p u e) = refl
  order_flip (Atom.op o t c) (Atom.var l m) = refl
  order_flip (Atom.op o t c) (Atom.op p u e) =
      flip-then _ _ _ _ (compare-flip (op_number o) (op_number p))
      (flip-then _ _ _ _ (compare-flip c e) (flip-then _ _ _ _ (compare-flip (term_count t) (term_count u)) (sum-flip t u)))

  sum-flip : (t u : Sum) → sum_order u t ≡ flip (sum_order t u)
  sum-flip (Sum.const k) (Sum.const l) = integer-flip k l
  sum-flip (Sum.const k) (Sum.term c b u) = refl
  sum-flip (Sum.term c a t) (Sum.const l) = refl
  sum-flip (Sum.term c a t) (Sum.term e b u) = flip-then _ _ _ _ (order_flip a b) (flip-then _ _ _ _ (integer-flip c e) (sum-flip t u))

-- ---- transitive

-- where x is how a stands to b and y how b to c, neither above, z is how a stands to c (a record, so that the three can be inferred)
record Comp (x y z : Ordering) : Type 0 where
  comp : T (is_le x) → T (is_le y) → z ≡ then_by x y

lt-then : (y : Ordering) → Ordering.lt ≡ then_by Ordering.lt y
unfolding then_by
lt-then y = refl

-- where a is above b, or b above c, there is nothing to show
first_above : {y z : Ordering} → Comp Ordering.gt y z
first_above = record { comp = λ x y. absurd x }

second_above : {x z : Ordering} → Comp x Ordering.gt z
second_above = record { comp = λ x y. absurd y }

then-lt : (x : Ordering) → T (is_le x) → Ordering.lt ≡ then_by x Ordering.lt
unfolding then_by
then-lt Ordering.lt h = refl
then-lt Ordering.eq h = refl
then-lt Ordering.gt h = absurd h

then-comm : (x y : Ordering) → T (is_le x) → T (is_le y) → then_by x y ≡ then_by y x
unfolding then_by
then-comm Ordering.lt Ordering.lt h k = refl
then-comm Ordering.lt Ordering.eq h k = refl
then-comm Ordering.lt Ordering.gt h k = absurd k
then-comm Ordering.eq Ordering.lt h k = refl
then-comm Ordering.eq Ordering.eq h k = refl
then-comm Ordering.eq Ordering.gt h k = absurd k
then-comm Ordering.gt y h k = absurd h

comp-then-by : (x y z x' y' z' : Ordering) → (T (is_le x) → T (is_le y) → z ≡ then_by x y) → (T (is_le x') → T (is_le y') → z' ≡ then_by x' y')
    → T (is_le (then_by x x')) → T (is_le (then_by y y')) → then_by z z' ≡ then_by (then_by x x') (then_by y y')
unfolding then_by
comp-then-by Ordering.lt Ordering.lt z x' y' z' h k a b = ap (λ o. then_by o z') (h tt tt)
comp-then-by Ordering.lt Ordering.eq z x' y' z' h k a b = ap (λ o. then_by o z') (h tt tt)
comp-then-by Ordering.lt Ordering.gt z x' y' z' h k a b = absurd b
comp-then-by Ordering.eq Ordering.lt z x' y' z' h k a b = ap (λ o. then_by o z') (h tt tt) ∙ then-lt x' a
comp-then-by Ordering.eq Ordering.eq z x' y' z' h k a b = ap (λ o. then_by o z') (h tt tt) ∙ k a b
comp-then-by Ordering.eq Ordering.gt z x' y' z' h k a b = absurd b
comp-then-by Ordering.gt y z x' y' z' h k a b = absurd a

comp-then : {x y z x' y' z' : Ordering} → Comp x y z → Comp x' y' z' → Comp (then_by x x') (then_by y y') (then_by z z')
comp-then {x} {y} {z} {x'} {y'} {z'} h k = record { comp = comp-then-by x y z x' y' z' h.comp k.comp }

compare-comp-by : (a b c : ℕ) → T (is_le (compare a b)) → T (is_le (compare b c)) → compare a c ≡ then_by (compare a b) (compare b c)
unfolding then_by
compare-comp-by zero zero c x y = sym (ap (λ o. then_by o (compare zero c)) compare.zero-zero)
compare-comp-by zero (suc b) zero x y = absurd (subst (λ o. T (is_le o)) (compare.suc-zero b) y)
compare-comp-by zero (suc b) (suc c) x y = compare.zero-suc c ∙ sym (ap (λ o. then_by o (compare (suc b) (suc c))) (compare.zero-suc b))
compare-comp-by (suc a) zero c x y = absurd (subst (λ o. T (is_le o)) (compare.suc-zero a) x)
compare-comp-by (suc a) (suc b) zero x y = absurd (subst (λ o. T (is_le o)) (compare.suc-zero b) y)
compare-comp-by (suc a) (suc b) (suc c) x y =
    compare.suc-suc a c ∙ compare-comp-by a b c (subst (λ o. T (is_le o)) (compare.suc-suc a b) x) (subst (λ o. T (is_le o)) (compare.suc-suc b c) y)
    ∙ sym (ap (λ o. then_by o (compare (suc b) (suc c))) (compare.suc-suc a b) ∙ ap (λ o. then_by (compare a b) o) (compare.suc-suc b c))

compare-comp : (a b c : ℕ) → Comp (compare a b) (compare b c) (compare a c)
compare-comp a b c = record { comp = compare-comp-by a b c }

integer-comp : (a b c : ℤ) → Comp (integer_order a b) (integer_order b c) (integer_order a c)
unfolding integer_order
integer-comp (pos a) (pos b) (pos c) = compare-comp a b c
integer-comp (pos a) (pos b) (negsuc c) = second_above
integer-comp (pos a) (negsuc b) c = first_above
integer-comp (negsuc a) (pos b) (pos c) = record { comp = λ x y. lt-then (compare b c) }
integer-comp (negsuc a) (pos b) (negsuc c) = second_above
integer-comp (negsuc a) (negsuc b) (pos c) = record { comp = λ x y. then-lt (compare b a) x }
integer-comp (negsuc a) (negsuc b) (negsuc c) = record { comp = λ x y. compare-comp-by c b a y x ∙ then-comm (compare c b) (compare b a) y x }

mutual
  unfolding atom_order

  atom-comp : (a b c : Atom) → Comp (atom_order a b) (atom_order b c) (atom_order a c)
  atom-comp (Atom.var k n) (Atom.var l m) (Atom.var i j) = comp-then (compare-comp (kind_number k) (kind_number l) (kind_number i)) (compare-comp n m j)
  atom-comp (Atom.var k n) (Atom.var l m) (Atom.op q v f) = record { comp = λ x y. then-lt _ x }
  atom-comp (Atom.var k n) (Atom.op p u e) (Atom.var i j) = second_above
  atom-comp (Atom.var k n) (Atom.op p u e) (Atom.op q v f) = record { comp = λ x y. lt-then _ }
  atom-comp (Atom.op o t c) (Atom.var l m) b = first_above
  atom-comp (Atom.op o t c) (Atom.op p u e) (Atom.var i j) = second_above
  atom-comp (Atom.op o t c) (Atom.op p u e) (Atom.op q v f) =
      comp-then (compare-comp (op_number o) (op_number p) (op_number q))
      (comp-then (compare-comp c e f) (comp-then (compare-comp (term_count t) (term_count u) (term_count v)) (sum-comp t u v)))

  sum-comp : (t u v : Sum) → Comp (sum_order t u) (sum_order u v) (sum_order t v)
  sum-comp (Sum.const k) (Sum.const l) (Sum.const m) = integer-comp k l m
  sum-comp (Sum.const k) (Sum.const l) (Sum.term f w v) = record { comp = λ x y. then-lt (integer_order k l) x }
  sum-comp (Sum.const k) (Sum.term e b u) (Sum.const m) = second_above
  sum-comp (Sum.const k) (Sum.term e b u) (Sum.term f w v) = record { comp = λ x y. lt-then _ }
  sum-comp (Sum.term c a t) (Sum.const l) v = first_above
  sum-comp (Sum.term c a t) (Sum.term e b u) (Sum.const m) = second_above
  sum-comp (Sum.term c a t) (Sum.term e b u) (Sum.term f w v) =
      comp-then (atom-comp a b w) (comp-then (integer-comp c e f) (sum-comp t u v))

pub order_trans : (a b c : Atom) → atom_order a b ≡ Ordering.lt → atom_order b c ≡ Ordering.lt → atom_order a c ≡ Ordering.lt
unfolding then_by
order_trans a b c x y =
    (atom-comp a b c).comp (subst (λ o. T (is_le o)) (sym x) tt) (subst (λ o. T (is_le o)) (sym y) tt) ∙ ap (λ o. then_by o (atom_order b c)) x

pub order-greater : (a b : Atom) → atom_order a b ≡ Ordering.gt → atom_order b a ≡ Ordering.lt
order-greater a b e = order_flip a b ∙ ap flip e
