-- Laws of the machine: its steps, its end, and the loop that walks the nodes of a record. Assumes nothing.
use mathlib.Core.Path.{◌≡◌, refl, sym, ap, ◌∙◌, subst}
use mathlib.Core.List.{List, [], ◌∷◌}
use Prim.Native.Nat.{ℕ, zero, suc, ◌+◌, ◌-◌, ◌<◌, ◌≤◌}
use native.Mathlib.Omega.{arith}
use lib.IntN.{ℤ, pos}
use lib.ListN.{length, get_or, drop}
use Rattle.expression.specs.declared.Node.{Node}
use Rattle.expression.specs.Node.{node_of, nodes_at}
use Rattle.expression.specs.Machine.{Out, broken, passed, stack, Alg, step, and_then, walk, Ready, NotBroken, Fed, Whole, first}

module _ {A : Type 0} where
  fed_by : (o : Out A) (f : List A → Out A) → Fed (and_then o f) → NotBroken o
  fed_by broken f w = w
  fed_by passed f w = tt
  fed_by (stack st) f w = tt

  pub fed-of : (g : Alg A) (n : Node) (ns : List Node) (st : List A) → Fed (walk g (n ∷ ns) st) → NotBroken (step g n st)
  unfolding walk
  fed-of g n ns st w = fed_by (step g n st) (λ (t : List A). walk g ns t) w

  ready_by : (o : Out A) (f : List A → Out A) → Whole (and_then o f) → Ready o
  ready_by broken f w = w
  ready_by passed f w = w
  ready_by (stack st) f w = tt

  -- a walk that ends with one tree makes each of its steps
  pub ready_of : (g : Alg A) (n : Node) (ns : List Node) (st : List A) → Whole (walk g (n ∷ ns) st) → Ready (step g n st)
  unfolding walk
  ready_of g n ns st w = ready_by (step g n st) (λ (t : List A). walk g ns t) w

  -- one step of a walk
  pub turn : (g : Alg A) (n : Node) (ns : List Node) (st t : List A) → stack t ≡ step g n st → walk g (n ∷ ns) st ≡ walk g ns t
  unfolding walk
  turn g n ns st t e = ap (λ (o : Out A). and_then o (λ (t : List A). walk g ns t)) (sym e)

  -- the end of a walk
  pub one_left : (l : List A) (t : ℕ) (d : A) → t ≤ length l → Whole (stack (drop t l)) → (t < length l) × (get_or l t d ≡ first d (stack (drop t l)))
  one_left [] zero d h w = absurd w
  one_left [] (suc t) d h w = absurd w
  one_left (x ∷ []) zero d h w = (omega arith, refl)
  one_left (x ∷ (y ∷ l)) zero d h w = absurd w
  one_left (x ∷ l) (suc t) d h w = let r = one_left l t d (omega arith) w in (omega arith, r.1)

  pub over : (g : Alg A) (n : Node) (ns : List Node) (st : List A) → passed ≡ step g n st → walk g (n ∷ ns) st ≡ passed
  unfolding walk
  over g n ns st e = ap (λ (o : Out A). and_then o (λ (t : List A). walk g ns t)) (sym e)

  fed-whole : (l : List A) → Fed (stack l) → Whole (stack l)
  fed-whole [] w = absurd w
  fed-whole (a ∷ []) w = tt
  fed-whole (a ∷ (b ∷ st)) w = absurd w

  pub fed-left : (l : List A) (t : ℕ) (d : A) → t ≤ length l → Fed (stack (drop t l)) → (t < length l) × (get_or l t d ≡ first d (stack (drop t l)))
  fed-left l t d h w = one_left l t d h (fed-whole (drop t l) w)

-- the nodes from place i on, up to place e
module _ (dims ranges : ℕ) (kinds : List ℕ) (values : List ℤ) (i e : ℕ) where
  pub nodes-next : i < e
      → nodes_at dims ranges kinds values i (e - i)
      ≡ node_of dims ranges (get_or kinds i 0) (get_or values i (pos 0)) ∷ nodes_at dims ranges kinds values (i + 1) (e - (i + 1))
  unfolding nodes_at
  nodes-next h = let q : e - i ≡ suc (e - (i + 1)) = omega arith in rw q

  pub nodes-end : e ≤ i → nodes_at dims ranges kinds values i (e - i) ≡ []
  unfolding nodes_at
  nodes-end h = let q : e - i ≡ 0 = omega arith in rw q

module _ {A : Type 0} (g : Alg A) (d r : ℕ) (ks : List ℕ) (vs : List ℤ) (i e : ℕ) (st : List A) (o : Out A) (inv : walk g (nodes_at d r ks vs i (e - i)) st ≡ o) where
  next : i < e → walk g (node_of d r (get_or ks i 0) (get_or vs i (pos 0)) ∷ nodes_at d r ks vs (i + 1) (e - (i + 1))) st ≡ o
  next h = ap (λ (l : List Node). walk g l st) (sym (nodes-next d r ks vs i e h)) ∙ inv

  -- the step at hand can be made
  pub loop-ready : i < e → Whole o → Ready (step g (node_of d r (get_or ks i 0) (get_or vs i (pos 0))) st)
  loop-ready h w = ready_of g _ (nodes_at d r ks vs (i + 1) (e - (i + 1))) st (subst Whole (sym (next h)) w)

  -- after it the invariant holds again
  pub loop-turn : i < e → (t : List A) → stack t ≡ step g (node_of d r (get_or ks i 0) (get_or vs i (pos 0))) st → walk g (nodes_at d r ks vs (i + 1) (e - (i + 1))) t ≡ o
  loop-turn h t q = sym (turn g _ (nodes_at d r ks vs (i + 1) (e - (i + 1))) st t q) ∙ next h

  -- at the end the stack is the outcome
  pub loop-last : e ≤ i → stack st ≡ o
  unfolding walk
  loop-last h = ap (λ (l : List Node). walk g l st) (sym (nodes-end d r ks vs i e h)) ∙ inv

  -- the same where a thing may be past the limit
  pub loop-fed : i < e → Fed o → NotBroken (step g (node_of d r (get_or ks i 0) (get_or vs i (pos 0))) st)
  loop-fed h w = fed-of g _ (nodes_at d r ks vs (i + 1) (e - (i + 1))) st (subst Fed (sym (next h)) w)

  pub loop-over : i < e → passed ≡ step g (node_of d r (get_or ks i 0) (get_or vs i (pos 0))) st → passed ≡ o
  loop-over h q = sym (over g _ (nodes_at d r ks vs (i + 1) (e - (i + 1))) st q) ∙ next h
