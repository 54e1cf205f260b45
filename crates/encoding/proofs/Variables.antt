-- The place of a variable and the kind of a floordiv or mod, by their numbers in words. Assumes nothing.
use mathlib.Core.Path.{◌≡◌, refl, sym, ap, ◌∙◌}
use mathlib.Core.Bool.{Bool, cond}
use Prim.Native.Nat.{ℕ, ◌+◌, ◌<◌, ◌≤◌}
use native.Mathlib.Omega.{arith}
use borrow.Author.Tests.{lt-ltb, le-ltb}
use lib.IntN.{ℤ, pos}
use Rattle.expression.specs.Expression.{Kind, d, s, rt, Op, floordiv, modulo}
use Rattle.expression.specs.Node.{max_variables}
use Rattle.folding.specs.Sum.{kind_number, op_number}
use Rattle.encoding.specs.Postfix.{no_place, place_from, kind_of, value_of, variable_of, op_node}
use Rattle.encoding.specs.Written.{IsPlace, IsOp}

pub place_in : (start n : ℕ) → n < max_variables → place_from start n ≡ start + n
place_in start n h = ap (λ (b : Bool). cond b (start + n) no_place) (lt-ltb n max_variables h)

pub place_out : (start n : ℕ) → max_variables ≤ n → place_from start n ≡ no_place
place_out start n h = ap (λ (b : Bool). cond b (start + n) no_place) (le-ltb n max_variables h)

pub of-dim : (kind n : ℕ) (r : ℤ) → n < max_variables → kind ≡ 0 → r ≡ pos n → IsPlace kind n r
unfolding kind_number
of-dim kind n r h z e = record { is = go }
  where
    at0 : 0 + n ≡ n
    at0 = omega arith

    go : (k : Kind) → kind ≡ kind_number k → r ≡ value_of (variable_of k n)
    go d q = e ∙ ap pos (sym (place_in 0 n h ∙ at0))
    go s q = absurd (omega arith)
    go rt q = absurd (omega arith)

pub of_range : (kind n : ℕ) (r : ℤ) → n < max_variables → kind ≡ 1 → r ≡ pos (max_variables + n) → IsPlace kind n r
unfolding kind_number
of_range kind n r h z e = record { is = go }
  where
    go : (k : Kind) → kind ≡ kind_number k → r ≡ value_of (variable_of k n)
    go d q = absurd (omega arith)
    go s q = e ∙ ap pos (sym (place_in max_variables n h))
    go rt q = absurd (omega arith)

pub of-runtime : (kind n : ℕ) → (kind ≡ 0 → ⊥) → (kind ≡ 1 → ⊥) → IsPlace kind n (pos no_place)
unfolding kind_number
of-runtime kind n x y = record { is = go }
  where
    go : (k : Kind) → kind ≡ kind_number k → pos no_place ≡ value_of (variable_of k n)
    go d q = absurd (x q)
    go s q = absurd (y q)
    go rt q = refl

pub of_none : (kind n : ℕ) → max_variables ≤ n → IsPlace kind n (pos no_place)
of_none kind n h = record { is = go }
  where
    go : (k : Kind) → kind ≡ kind_number k → pos no_place ≡ value_of (variable_of k n)
    go d q = ap pos (sym (place_out 0 n h))
    go s q = ap pos (sym (place_out max_variables n h))
    go rt q = refl

pub of-floordiv : (op : ℕ) → op ≡ 3 → IsOp op 4
unfolding op_number
of-floordiv op e = record { is = go }
  where
    go : (o : Op) (c : ℕ) → op ≡ op_number o → 4 ≡ kind_of (op_node o c)
    go floordiv c q = refl
    go modulo c q = absurd (omega arith)

pub of-mod : (op : ℕ) → (op ≡ 3 → ⊥) → IsOp op 5
unfolding op_number
of-mod op e = record { is = go }
  where
    go : (o : Op) (c : ℕ) → op ≡ op_number o → 5 ≡ kind_of (op_node o c)
    go floordiv c q = absurd (e q)
    go modulo c q = refl
