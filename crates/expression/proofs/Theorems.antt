-- What the crate's definitions mean, one theorem under each sentence. Assumes nothing.
use mathlib.Core.Path.{◌≡◌}
use mathlib.Core.Bool.{Bool, true, ◌&&◌}
use mathlib.Core.List.{List}
use Prim.Native.Nat.{ℕ, ◌<◌, ◌≤◌}
use lib.IntN.{ℤ, nat_abs}
use borrow.Author.Tests.{leb-true}
use Rattle.integer.specs.Exact.{limit}
use Rattle.radix.proofs.Tests.{and_left, and_right}
use Rattle.expression.specs.Expression.{Kind, d, s, Expr, NodeOf, here, left, right, times, under, eval, Range, In, range_of, small_ranges, every_node, is_small}
use Rattle.expression.specs.Node.{nodes_at}
use Rattle.expression.specs.Decode.{tree, decode}
use Rattle.expression.proofs.Order.{Le-order, order-Le}
use Rattle.expression.proofs.Within.{LeIn, Proper, Inside, in-range, small_all, tree-ok}

-- the tree itself passes a test that holds at every node
every_here : (p : Expr → Bool) (e : Expr) → every_node p e ≡ true → p e ≡ true
unfolding every_node
every_here p (Expr.var k n) h = h
every_here p (Expr.const z) h = h
every_here p (Expr.add a b) h = and_right (every_node p a && every_node p b) _ h
every_here p (Expr.mul z a) h = and_right (every_node p a) _ h
every_here p (Expr.op o a c) h = and_right (every_node p a) _ h

-- A test that holds at every node holds at each.
pub every-node : (p : Expr → Bool) (x : Expr) {e : Expr} → NodeOf x e → every_node p e ≡ true → p x ≡ true
unfolding every_node
every-node p x here h = every_here p x h
every-node p x (left {a} {b} n) h = every-node p x n (and_left (every_node p a) (every_node p b) (and_left (every_node p a && every_node p b) _ h))
every-node p x (right {a} {b} n) h = every-node p x n (and_right (every_node p a) (every_node p b) (and_left (every_node p a && every_node p b) _ h))
every-node p x (times {z} {a} n) h = every-node p x n (and_left (every_node p a) _ h)
every-node p x (under {o} {a} {c} n) h = every-node p x n (and_left (every_node p a) _ h)

ok-node : (m r : ℕ) {x e : Expr} → NodeOf x e → Proper m r e → Proper m r x
unfolding Proper
ok-node m r here h = h
ok-node m r (left n) h = ok-node m r n h.0
ok-node m r (right n) h = ok-node m r n h.1
ok-node m r (times n) h = ok-node m r n h
ok-node m r (under n) h = ok-node m r n h.1

-- dims dimensions and ranges range variables have values that lie in their bounds
module _ (dims ranges : ℕ) (β : Kind → ℕ → Range) (ρ : Kind → ℕ → ℤ)
    (dims-in : (n : ℕ) → n < dims → In (ρ d n) (β d n))
    (ranges_in : (n : ℕ) → n < ranges → In (ρ s n) (β s n)) where
  le_in : {z : ℤ} {r : Range} → In z r → LeIn z r
  le_in h = record { low = order-Le h.low; high = order-Le h.high }

  inside : Inside dims ranges β ρ
  inside = record { dims = λ n h. le_in (dims-in n h); ranges = λ n h. le_in (ranges_in n h) }

  module _ (kinds : List ℕ) (values : List ℤ) (from count : ℕ) (e : Expr)
      (q : decode (nodes_at dims ranges kinds values from count) ≡ tree e) where
    -- At a point inside the bounds the value of every node of a tree that is read lies in its reckoned range.
    pub value-in-range : (x : Expr) → NodeOf x e → In (eval ρ x) (range_of β x)
    value-in-range x n =
        let h = in-range dims ranges β ρ inside x (ok-node dims ranges n (tree-ok dims ranges kinds values from count e q)) in
        record { low = Le-order h.low; high = Le-order h.high }

    -- Where every node's range lies within +-2^62, so does every node's value.
    pub value-within : small_ranges β e ≡ true → (x : Expr) → NodeOf x e → nat_abs (eval ρ x) ≤ limit
    value-within f x n =
        leb-true (nat_abs (eval ρ x)) limit
        (every-node (λ (y : Expr). is_small (eval ρ y)) x n
        (small_all dims ranges β ρ inside e (tree-ok dims ranges kinds values from count e q) f))
