-- The order of the words of two atoms is the order of the atoms: the range of an atom says nothing that its other words did not. Assumes nothing.
use mathlib.Core.Path.{◌≡◌, refl, sym, ap, ◌∙◌}
use mathlib.Core.List.{List, [], ◌∷◌}
use Prim.Native.Nat.compare
use Prim.Native.Nat.{ℕ, zero, suc, compare, Ordering}
use lib.IntN.{ℤ, pos, negsuc}
use Rattle.expression.specs.Expression.{Kind, d, s, rt, Op, floordiv, modulo, Range}
use Rattle.folding.specs.Sum.{integer_order, then_by, kind_number, op_number, Atom, Sum, term_count, atom_order, sum_order, atom_range}
use native.Mathlib.Omega.{arith}
use Rattle.folding.proofs.AtomOrder.{compare-eq, order_same}
use Rattle.words.specs.Words.{word_order, atom_words, sum_words, constant_of}

pub assoc : (x y z : Ordering) → then_by (then_by x y) z ≡ then_by x (then_by y z)
unfolding then_by
assoc Ordering.lt y z = refl
assoc Ordering.eq y z = refl
assoc Ordering.gt y z = refl

-- a test that decides, whatever follows
pub then-eq : (o : Ordering) (x y : Ordering) → (o ≡ Ordering.eq → x ≡ y) → then_by o x ≡ then_by o y
unfolding then_by
then-eq Ordering.lt x y f = refl
then-eq Ordering.eq x y f = f refl
then-eq Ordering.gt x y f = refl

pub kind-op : (k : Kind) (o : Op) → compare (kind_number k) (op_number o) ≡ Ordering.lt
unfolding kind_number op_number
kind-op d floordiv = refl
kind-op d modulo = refl
kind-op s floordiv = refl
kind-op s modulo = refl
kind-op rt floordiv = refl
kind-op rt modulo = refl

pub op-kind : (k : Kind) (o : Op) → compare (op_number o) (kind_number k) ≡ Ordering.gt
unfolding kind_number op_number
op-kind d floordiv = refl
op-kind d modulo = refl
op-kind s floordiv = refl
op-kind s modulo = refl
op-kind rt floordiv = refl
op-kind rt modulo = refl

pub lt-any : (x y : Ordering) → x ≡ Ordering.lt → then_by x y ≡ Ordering.lt
unfolding then_by
lt-any x y e = ap (λ o. then_by o y) e

pub gt-any : (x y : Ordering) → x ≡ Ordering.gt → then_by x y ≡ Ordering.gt
unfolding then_by
gt-any x y e = ap (λ o. then_by o y) e

pub zero-suc : (n : ℕ) → 0 ≡ suc n → ⊥
zero-suc n e = omega arith

pub suc_inj : (m n : ℕ) → suc m ≡ suc n → m ≡ n
suc_inj m n e = omega arith

pub then-end : (x : Ordering) → then_by x Ordering.eq ≡ x
unfolding then_by
then-end Ordering.lt = refl
then-end Ordering.eq = refl
then-end Ordering.gt = refl

compare_self : (n : ℕ) → compare n n ≡ Ordering.eq
compare_self zero = compare.zero-zero
compare_self (suc n) = compare.suc-suc n n ∙ compare_self n

order-self : (z : ℤ) → integer_order z z ≡ Ordering.eq
unfolding integer_order
order-self (pos n) = compare_self n
order-self (negsuc n) = compare_self n

-- two words of equal value decide nothing
pass : (x y : ℤ) (o : Ordering) → x ≡ y → then_by (integer_order x y) o ≡ o
unfolding then_by
pass x y o e = ap (λ (z : ℤ). then_by (integer_order x z) o) (sym e) ∙ ap (λ (p : Ordering). then_by p o) (order-self x)

-- the range of equal atoms
range-pass : (β : Kind → ℕ → Range) (a b : Atom) (o : Ordering) → a ≡ b
    → then_by (integer_order (atom_range a β).lo (atom_range b β).lo) (then_by (integer_order (atom_range a β).hi (atom_range b β).hi) o) ≡ o
range-pass β a b o e = pass _ _ _ (ap (λ (x : Atom). (atom_range x β).lo) e) ∙ pass _ _ _ (ap (λ (x : Atom). (atom_range x β).hi) e)

module _ (β : Kind → ℕ → Range) where
  mutual
    unfolding atom_words sum_words word_order atom_order integer_order term_count constant_of atom_range

    pub atom-words-order : (a b : Atom) (r q : List ℤ) → word_order (atom_words β a r) (atom_words β b q) ≡ then_by (atom_order a b) (word_order r q)
    atom-words-order (Atom.var k n) (Atom.var l m) r q =
        sym (assoc (compare (kind_number k) (kind_number l)) (compare n m) _)
        ∙ then-eq (atom_order (Atom.var k n) (Atom.var l m)) _ (word_order r q) (λ h. range-pass β (Atom.var k n) (Atom.var l m) (word_order r q) (order_same (Atom.var k n) (Atom.var l m) h))
    atom-words-order (Atom.var k n) (Atom.op p u e) r q = lt-any _ _ (kind-op k p) ∙ sym (lt-any _ _ refl)
    atom-words-order (Atom.op o t c) (Atom.var l m) r q = gt-any _ _ (op-kind l o) ∙ sym (gt-any _ _ refl)
    atom-words-order (Atom.op o t c) (Atom.op p u e) r q =
        let a = Atom.op o t c in
        let b = Atom.op p u e in
        let r2 = (atom_range a β).lo ∷ (atom_range a β).hi ∷ r in
        let q2 = (atom_range b β).lo ∷ (atom_range b β).hi ∷ q in
        ap (λ x. then_by (compare (op_number o) (op_number p)) (then_by (compare c e) x))
        (then-eq (compare (term_count t) (term_count u)) (word_order (sum_words β t r2) (sum_words β u q2)) (then_by (sum_order t u) (word_order r2 q2)) (λ h. sum-words-order t u r2 q2 (compare-eq (term_count t) (term_count u) h))
        ∙ sym (assoc (compare (term_count t) (term_count u)) (sum_order t u) (word_order r2 q2)))
        ∙ ap (λ x. then_by (compare (op_number o) (op_number p)) x) (sym (assoc (compare c e) (then_by (compare (term_count t) (term_count u)) (sum_order t u)) (word_order r2 q2)))
        ∙ sym (assoc (compare (op_number o) (op_number p)) (then_by (compare c e) (then_by (compare (term_count t) (term_count u)) (sum_order t u))) (word_order r2 q2))
        ∙ then-eq (atom_order a b) (word_order r2 q2) (word_order r q) (λ h. range-pass β a b (word_order r q) (order_same a b h))

    pub sum-words-order : (t u : Sum) (r q : List ℤ) → term_count t ≡ term_count u → word_order (sum_words β t r) (sum_words β u q) ≡ then_by (sum_order t u) (word_order r q)
    sum-words-order (Sum.const k) (Sum.const l) r q h = refl
    sum-words-order (Sum.const k) (Sum.term e b u) r q h = absurd (zero-suc (term_count u) h)
    sum-words-order (Sum.term c a t) (Sum.const l) r q h = absurd (zero-suc (term_count t) (sym h))
    sum-words-order (Sum.term c a t) (Sum.term e b u) r q h =
        atom-words-order a b (c ∷ sum_words β t r) (e ∷ sum_words β u q)
        ∙ ap (λ x. then_by (atom_order a b) (then_by (integer_order c e) x)) (sum-words-order t u r q (suc_inj (term_count t) (term_count u) h))
        ∙ ap (λ x. then_by (atom_order a b) x) (sym (assoc (integer_order c e) (sum_order t u) (word_order r q)))
        ∙ sym (assoc (atom_order a b) (then_by (integer_order c e) (sum_order t u)) (word_order r q))

  -- two atoms alone
  pub atoms-order : (a b : Atom) → word_order (atom_words β a []) (atom_words β b []) ≡ atom_order a b
  unfolding word_order
  atoms-order a b = atom-words-order a b [] [] ∙ then-end (atom_order a b)
