-- A machine that walks nodes in postfix order with a stack of any kind of thing. Assumes nothing.
use Rattle.std.specs.Prelude.{Bool, true, false, List, [], ◌∷◌}
use Rattle.expression.specs.declared.Node.{Node}
use Rattle.expression.specs.declared.Node.TheVariants as N
use Rattle.expression.specs.declared.Leaf.{Leaf}
use Rattle.expression.specs.declared.One.{One}

-- no tree; past the limit; the stack, top first
pub data Out (A : Type 0) : Type 0 where
  broken : Out A
  passed : Out A
  stack : List A → Out A

-- what the nodes mean, and what may stand on the stack
pub record Alg (A : Type 0) : Type 0 where
  pub leaf : Leaf → A
  pub one : One → A → A
  pub sum : A → A → A
  pub keep : A → Bool

module _ {A : Type 0} where
  abbrev pub push_if : Bool → A → List A → Out A
  push_if true a st = stack (a ∷ st)
  push_if false a st = passed

  abbrev pub push : Alg A → A → List A → Out A
  push g a st = push_if (g.keep a) a st

  -- a leaf is put on the stack; a node over one tree takes the top; a sum takes the second and the top
  abbrev pub step : Alg A → Node → List A → Out A
  step g (N.Leaf l) st = push g (g.leaf l) st
  step g (N.One o) [] = broken
  step g (N.One o) (a ∷ st) = push g (g.one o a) st
  step g N.Sum [] = broken
  step g N.Sum (b ∷ []) = broken
  step g N.Sum (b ∷ (a ∷ st)) = push g (g.sum a b) st
  step g N.Bad st = broken

  abbrev pub and_then : Out A → (List A → Out A) → Out A
  and_then broken f = broken
  and_then passed f = passed
  and_then (stack st) f = f st

  unfoldable pub walk : Alg A → List Node → List A → Out A
  walk g [] st = stack st
  walk g (n ∷ ns) st = and_then (step g n st) (λ (t : List A). walk g ns t)

  -- the stack is there
  abbrev pub Ready : Out A → Type 0
  Ready broken = ⊥
  Ready passed = ⊥
  Ready (stack st) = Unit {0}

  -- it is, or something passed the limit
  abbrev pub NotBroken : Out A → Type 0
  NotBroken broken = ⊥
  NotBroken passed = Unit {0}
  NotBroken (stack st) = Unit {0}

  -- one thing, or past the limit
  abbrev pub Fed : Out A → Type 0
  Fed broken = ⊥
  Fed passed = Unit {0}
  Fed (stack []) = ⊥
  Fed (stack (a ∷ [])) = Unit {0}
  Fed (stack (a ∷ (b ∷ st))) = ⊥

  -- one thing, and nothing else
  abbrev pub Whole : Out A → Type 0
  Whole broken = ⊥
  Whole passed = ⊥
  Whole (stack []) = ⊥
  Whole (stack (a ∷ [])) = Unit {0}
  Whole (stack (a ∷ (b ∷ st))) = ⊥

  -- what it is
  abbrev pub first : A → Out A → A
  first d broken = d
  first d passed = d
  first d (stack []) = d
  first d (stack (a ∷ [])) = a
  first d (stack (a ∷ (b ∷ st))) = d
