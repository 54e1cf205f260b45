-- Where folding passed no limit, the folded tree keeps the limits and folding it passes none. Assumes nothing.
use mathlib.Core.Path.{◌≡◌, refl, sym, ap, ◌∙◌, subst}
use mathlib.Core.Logic.{◌≢◌}
use mathlib.Core.Bool.{Bool, true, false, cond, ◌&&◌}
use mathlib.Core.List.{[], ◌∷◌, ◌++◌}
use Prim.Native.Nat.{ℕ, ◌+◌, ◌*◌, ◌^◌, ◌<◌}
use borrow.Author.Tests.{le-leb, lt-ltb}
use lib.IntN.{ℤ, pos}
use Rattle.radix.proofs.Tests.{and-true, and_left, and_right}
use Rattle.expression.specs.Expression.{Kind, Op, Expr, Range, span, eqℤ, add_range, mul_range, op_range, is_small, small_range, range_of, every_node, small_ranges}
use Rattle.expression.specs.Node.{max_divisor}
use Rattle.folding.specs.Sum.{Atom, Sum, atom_range, sum_size}
use Rattle.folding.specs.Fold.{stays, apply_rule, fuel_for, fold_sum, term_tree, constant_tree, atom_tree, sum_tree, join_terms}
use Rattle.folding.specs.Folded.{FoldedA, FoldedS}
use Rattle.folding.specs.Working.{small_from, small_sum, small_sums, sums_formed, tree_sums, small_working}
use Rattle.folding.specs.Map.{good_numbers, fold_tree}
use Rattle.folding.proofs.Numbers.{positive-numbers}
use Rattle.folding.proofs.Ending.{fold-folded}
use Rattle.folding.proofs.Again.{app, Bare, single, regroup, folded_back, term-end, const-end, bare-single, one-term, atom-again, sum-again}
use Rattle.folding.proofs.Atoms.{EveryS}
use Rattle.folding.proofs.TreeRange.{zero_range, add-zero-left, add-zero-right, mul-one, small-range-factor, term-tree-range, atom-tree-range, sum-tree-range}
use Rattle.folding.proofs.Judged.{small-both, small_one, tried, last_sums, Judged, JudgedA, JudgedS, judged-sum, fold-judged, fold_small}

module _ (β : Kind → ℕ → Range) where
  -- ---- the parts of the test of a sum

  abbrev term_range : ℤ → Atom → Range
  term_range c a = mul_range c (atom_range a β)

  record SmallTerm (r : Range) (c : ℤ) (a : Atom) (t : Sum) : Type 0 where
    factor : is_small c ≡ true
    term : small_range (term_range c a) ≡ true
    prefix : small_range (add_range r (term_range c a)) ≡ true
    rest : small_from β (add_range r (term_range c a)) t ≡ true

  small-term : (r : Range) (c : ℤ) (a : Atom) (t : Sum) → small_from β r (Sum.term c a t) ≡ true → SmallTerm r c a t
  unfolding small_from
  small-term r c a t h =
      let p = term_range c a in
      let q = add_range r p in
      let x = and_left (is_small c && small_range p && small_range q) (small_from β q t) h in
      let y = and_left (is_small c && small_range p) (small_range q) x in
      record {
        factor = and_left (is_small c) (small_range p) y;
        term = and_right (is_small c) (small_range p) y;
        prefix = and_right (is_small c && small_range p) (small_range q) x;
        rest = and_right (is_small c && small_range p && small_range q) (small_from β q t) h;
      }

  term-small : (r : Range) (c : ℤ) (a : Atom) (t : Sum) → SmallTerm r c a t → small_from β r (Sum.term c a t) ≡ true
  unfolding small_from
  term-small r c a t w = and-true (and-true (and-true w.factor w.term) w.prefix) w.rest

  zero-small : (r : Range) → small_range r ≡ true → small_from β r (Sum.const (pos 0)) ≡ true
  unfolding small_from
  zero-small r h = subst (λ q. small_range q ≡ true) (sym (add-zero-right r)) h

  -- the front terms of a sum that keeps the limits keep them
  front-small : (r : Range) (f : Sum) (c : ℤ) (a : Atom) (t : Sum) → small_from β r (app f (Sum.term c a t)) ≡ true → small_from β r (app f (single β c a)) ≡ true
  unfolding app single
  front-small r (Sum.const k) c a t h =
      let p = small-term r c a t h in
      term-small r c a (Sum.const (pos 0))
      (record { factor = p.factor; term = p.term; prefix = p.prefix; rest = zero-small (add_range r (term_range c a)) p.prefix })
  front-small r (Sum.term e b f) c a t h =
      let p = small-term r e b (app f (Sum.term c a t)) h in
      term-small r e b (app f (single β c a))
      (record { factor = p.factor; term = p.term; prefix = p.prefix; rest = front-small (add_range r (term_range e b)) f c a t p.rest })

  front-small-sum : (f : Sum) (c : ℤ) (a : Atom) (t : Sum) → small_sum β (app f (Sum.term c a t)) ≡ true → small_sum β (app f (single β c a)) ≡ true
  unfolding small_sum
  front-small-sum f c a t h = front-small zero_range f c a t h

  single-small : (c : ℤ) (a : Atom) → is_small c ≡ true → small_range (term_range c a) ≡ true → small_sum β (single β c a) ≡ true
  unfolding small_sum single
  single-small c a h k =
      let q = subst (λ x. small_range x ≡ true) (sym (add-zero-left (term_range c a))) k in
      term-small zero_range c a (Sum.const (pos 0)) (record { factor = h; term = k; prefix = q; rest = zero-small (add_range zero_range (term_range c a)) q })

  one-small : (a : Atom) → small_range (atom_range a β) ≡ true → small_sum β (single β (pos 1) a) ≡ true
  one-small a h = single-small (pos 1) a refl (subst (λ x. small_range x ≡ true) (sym (mul-one (atom_range a β))) h)

  const-small : (k : ℤ) → is_small k ≡ true → small_sum β (Sum.const k) ≡ true
  unfolding small_sum small_from
  const-small k h = and-true h (subst (λ q. small_range q ≡ true) (sym (add-zero-left (span k k))) (and-true h h))

  -- ---- a tree that is accepted: the range of every node, its numbers, and every sum formed while it is folded

  pub record Accepted (x : Expr) : Type 0 where
    pub ranges : small_ranges β x ≡ true
    pub numbers : good_numbers x ≡ true
    pub sums : small_sums β (tree_sums β x) ≡ true

  accept-var : (k : Kind) (n : ℕ) → small_range (atom_range (Atom.var k n) β) ≡ true → Accepted (Expr.var k n)
  unfolding small_ranges every_node range_of good_numbers tree_sums atom_range fold_sum single
  accept-var k n r = record { ranges = r; numbers = refl; sums = small_one β (fold_sum β (Expr.var k n)) (one-small (Atom.var k n) r) }

  accept-const : (k : ℤ) → is_small k ≡ true → Accepted (Expr.const k)
  unfolding small_ranges every_node range_of good_numbers tree_sums fold_sum
  accept-const k h = record { ranges = and-true h h; numbers = h; sums = small_one β (fold_sum β (Expr.const k)) (const-small k h) }

  accept-add : (x y : Expr) → Accepted x → Accepted y → small_range (add_range (range_of β x) (range_of β y)) ≡ true → small_sum β (fold_sum β (Expr.add x y)) ≡ true
      → Accepted (Expr.add x y)
  unfolding small_ranges every_node range_of good_numbers tree_sums
  accept-add x y v w r s =
      let sum = fold_sum β (Expr.add x y) in
      record {
        ranges = and-true (and-true v.ranges w.ranges) r;
        numbers = and-true (and-true v.numbers w.numbers) refl;
        sums = small-both β (tree_sums β x) (tree_sums β y ++ (sum ∷ [])) v.sums (small-both β (tree_sums β y) (sum ∷ []) w.sums (small_one β sum s));
      }

  accept-mul : (c : ℤ) (x : Expr) → is_small c ≡ true → Accepted x → small_range (mul_range c (range_of β x)) ≡ true → small_sum β (fold_sum β (Expr.mul c x)) ≡ true
      → Accepted (Expr.mul c x)
  unfolding small_ranges every_node range_of good_numbers tree_sums
  accept-mul c x h w r s =
      record {
        ranges = and-true w.ranges r;
        numbers = and-true w.numbers h;
        sums = small-both β (tree_sums β x) (fold_sum β (Expr.mul c x) ∷ []) w.sums (small_one β (fold_sum β (Expr.mul c x)) s);
      }

  -- a floordiv or mod at which no rule fits forms its sum, what is tried on it, and itself
  stuck-small : (o : Op) (t : Sum) (c : ℕ) → apply_rule β o t c ≡ stays o t c → Judged β o t c → small_range (atom_range (Atom.op o t c) β) ≡ true
      → small_sums β (sums_formed (fuel_for t c) β o t c) ≡ true
  unfolding sums_formed fuel_for small_sums stays Judged single
  stuck-small o t c e h r =
      and-true h.1
      (small-both β (tried β t c) _ h.2
      (subst (λ x. small_sums β (last_sums β fuel o x) ≡ true) (sym e)
      (small_one β (single β (pos 1) (Atom.op o t c)) (one-small (Atom.op o t c) r))))
    where
      fuel : ℕ
      fuel = sum_size t * (2 ^ 41 + 2) + (c + c + 1)

  accept-op : (o : Op) (t : Sum) (c : ℕ) → 0 < c → fold_sum β (sum_tree t) ≡ t → apply_rule β o t c ≡ stays o t c → Judged β o t c
      → small_range (atom_range (Atom.op o t c) β) ≡ true → Accepted (sum_tree t) → Accepted (Expr.op o (sum_tree t) c)
  unfolding small_ranges every_node range_of good_numbers tree_sums atom_range Judged
  accept-op o t c p q e h r w =
      let s = fold_sum β (sum_tree t) in
      record {
        ranges = and-true w.ranges (subst (λ x. small_range (op_range o x c) ≡ true) (sym (sum-tree-range β t)) r);
        numbers = and-true w.numbers (and-true (lt-ltb 0 c p) (le-leb c max_divisor h.0));
        sums =
            small-both β (tree_sums β (sum_tree t)) (sums_formed (fuel_for s c) β o s c) w.sums
            (subst (λ u. small_sums β (sums_formed (fuel_for u c) β o u c) ≡ true) (sym q) (stuck-small o t c e h r));
      }

  -- ---- the tree of a sum

  term-range-is : (c : ℤ) (a : Atom) → range_of β (term_tree c (atom_tree a)) ≡ term_range c a
  term-range-is c a = term-tree-range β c (atom_tree a) ∙ ap (λ r. mul_range c r) (atom-tree-range β a)

  accept-term : (c : ℤ) (a : Atom) → c ≢ pos 0 → FoldedA β a → is_small c ≡ true → small_range (term_range c a) ≡ true → Accepted (atom_tree a)
      → Accepted (term_tree c (atom_tree a))
  unfolding term_tree single
  accept-term c a n f h k w = go (eqℤ c (pos 1)) refl
    where
      go : (b : Bool) → eqℤ c (pos 1) ≡ b → Accepted (cond b (atom_tree a) (Expr.mul c (atom_tree a)))
      go true q = w
      go false q =
          let e : fold_sum β (Expr.mul c (atom_tree a)) ≡ single β c a =
          ap (λ b. fold_sum β (cond b (atom_tree a) (Expr.mul c (atom_tree a)))) (sym q) ∙ one-term β c a (atom_tree a) n (atom-again β a f) in
          accept-mul c (atom_tree a) h w (subst (λ r. small_range (mul_range c r) ≡ true) (sym (atom-tree-range β a)) k)
          (subst (λ u. small_sum β u ≡ true) (sym e) (single-small c a h k))

  accept-constant : (k : ℤ) (x : Expr) → Bare (fold_sum β x) → FoldedS β (app (fold_sum β x) (Sum.const k)) → small_from β (range_of β x) (Sum.const k) ≡ true
      → small_sum β (app (fold_sum β x) (Sum.const k)) ≡ true → Accepted x → Accepted (constant_tree k x)
  unfolding constant_tree range_of small_from
  accept-constant k x b p h s w = go (eqℤ k (pos 0)) refl
    where
      go : (y : Bool) → eqℤ k (pos 0) ≡ y → Accepted (cond y x (Expr.add x (Expr.const k)))
      go true q = w
      go false q =
          let r = small_range (add_range (range_of β x) (span k k)) in
          let e = ap (λ y. fold_sum β (cond y x (Expr.add x (Expr.const k)))) (sym q) ∙ const-end β k x b p in
          accept-add x (Expr.const k) w (accept-const k (and_left (is_small k) r h)) (and_right (is_small k) r h) (subst (λ u. small_sum β u ≡ true) (sym e) s)

  sum-from : (t : Sum) → small_sum β t ≡ true → small_from β zero_range t ≡ true
  unfolding small_sum
  sum-from t h = h

  const-number : (k : ℤ) → small_sum β (Sum.const k) ≡ true → is_small k ≡ true
  unfolding small_sum small_from
  const-number k h = and_left (is_small k) _ h

  add-from : (x y : Expr) (c : ℤ) (a : Atom) (t : Sum) → range_of β y ≡ term_range c a → small_from β (add_range (range_of β x) (term_range c a)) t ≡ true
      → small_from β (range_of β (Expr.add x y)) t ≡ true
  unfolding range_of
  add-from x y c a t q h = subst (λ r. small_from β (add_range (range_of β x) r) t ≡ true) (sym q) h

  mutual
    unfolding atom_tree FoldedS EveryS app single

    accept-atom : (a : Atom) → FoldedA β a → JudgedA β a → small_range (atom_range a β) ≡ true → Accepted (atom_tree a)
    accept-atom (Atom.var k n) f h r = accept-var k n r
    accept-atom (Atom.op o t c) f h r = accept-op o t c f.0 (sum-again β t f.1) f.2 h.0 r (accept-sum t f.1 h.1 (judged-sum β o t c h.0))

    accept-sum : (t : Sum) → FoldedS β t → JudgedS β t → small_sum β t ≡ true → Accepted (sum_tree t)
    accept-sum (Sum.const k) f h s = accept-const k (const-number k s)
    accept-sum (Sum.term c a t) f h s =
        let p = small-term zero_range c a t (sum-from (Sum.term c a t) s) in
        let e = one-term β c a (atom_tree a) f.0 (atom-again β a f.1) in
        accept-join t (term_tree c (atom_tree a))
        (subst (λ u. Bare u) (sym e) (bare-single β (Sum.const (pos 0)) c a))
        (subst (λ u. FoldedS β (app u t)) (sym e) f)
        h.1
        (subst (λ q. small_from β q t ≡ true) (add-zero-left (term_range c a) ∙ sym (term-range-is c a)) p.rest)
        (subst (λ u. small_sum β (app u t) ≡ true) (sym e) s)
        (accept-term c a f.0 f.1 p.factor p.term (accept-atom a f.1 h.0 (small-range-factor c (atom_range a β) f.0 p.term)))

    accept-join : (t : Sum) (x : Expr) → Bare (fold_sum β x) → FoldedS β (app (fold_sum β x) t) → JudgedS β t → small_from β (range_of β x) t ≡ true
        → small_sum β (app (fold_sum β x) t) ≡ true → Accepted x → Accepted (join_terms t x)
    accept-join (Sum.const k) x b f h r s w = accept-constant k x b f r s w
    accept-join (Sum.term c a t) x b f h r s w =
        let g = folded_back β (fold_sum β x) (Sum.term c a t) f in
        let p = small-term (range_of β x) c a t r in
        let y = term_tree c (atom_tree a) in
        let e = term-end β x y c a t b f (one-term β c a (atom_tree a) g.0 (atom-again β a g.1)) in
        let whole = sym (regroup β (fold_sum β x) c a t) in
        let v = accept-term c a g.0 g.1 p.factor p.term (accept-atom a g.1 h.0 (small-range-factor c (atom_range a β) g.0 p.term)) in
        accept-join t (Expr.add x y)
        (subst (λ u. Bare u) (sym e) (bare-single β (fold_sum β x) c a))
        (subst (λ u. FoldedS β (app u t)) (sym e) (subst (λ u. FoldedS β u) whole f))
        h.1
        (add-from x y c a t (term-range-is c a) p.rest)
        (subst (λ u. small_sum β (app u t) ≡ true) (sym e) (subst (λ u. small_sum β u ≡ true) whole s))
        (accept-add x y w v (subst (λ q. small_range (add_range (range_of β x) q) ≡ true) (sym (term-range-is c a)) p.prefix)
        (subst (λ u. small_sum β u ≡ true) (sym e) (front-small-sum (fold_sum β x) c a t s)))

  -- what an accepted fold gives is accepted
  accepted-fold : (e : Expr) → good_numbers e ≡ true → small_working β e ≡ true → Accepted (fold_tree β e)
  unfolding fold_tree
  accepted-fold e p h = accept-sum (fold_sum β e) (fold-folded β e (positive-numbers e p)) (fold-judged β e p h) (fold_small β e h)

  -- every node of the folded tree has its range within the limits
  pub fold-ranges : (e : Expr) → good_numbers e ≡ true → small_working β e ≡ true → small_ranges β (fold_tree β e) ≡ true
  fold-ranges e p h = (accepted-fold e p h).ranges

  -- its numbers are good
  pub fold-numbers : (e : Expr) → good_numbers e ≡ true → small_working β e ≡ true → good_numbers (fold_tree β e) ≡ true
  fold-numbers e p h = (accepted-fold e p h).numbers

  -- folding it again passes no limit
  pub fold-small-again : (e : Expr) → good_numbers e ≡ true → small_working β e ≡ true → small_working β (fold_tree β e) ≡ true
  unfolding small_working
  fold-small-again e p h = (accepted-fold e p h).sums
