-- Nodes written into two lists of kinds and values from a place on, as far as there is room; the nodes of a folded sum. Assumes nothing.
use Rattle.std.specs.Prelude.{◌≡◌, Bool, true, false, cond, List, [], ◌∷◌, ◌++◌, map, ℕ, ◌+◌, ◌≤◌, min, ℤ, pos, length, drop, set}
use Rattle.std.proofs.lemmas.List.Edits.{sets}
use Rattle.expression.specs.Expression.{Kind, Op, Range, eqℤ}
use Rattle.expression.specs.Node.{max_nodes}
use Rattle.expression.specs.declared.Node.{Node}
use Rattle.expression.specs.declared.Node.TheVariants as N
use Rattle.expression.specs.declared.Leaf.TheVariants.{Constant}
use Rattle.expression.specs.declared.One.TheVariants.{Product}
use Rattle.folding.specs.Sum.{Atom, Sum, term_count, kind_number, op_number}
use Rattle.folding.specs.Fold.{atom_tree, sum_tree}
use Rattle.words.specs.Words.{atom_words, sum_words}
use Rattle.encoding.specs.Postfix.{variable_of, op_node, postfix, kind_of, value_of}

-- nodes are counted up to one past the most that a map has
abbrev pub counted : ℕ
counted = max_nodes + 1

-- ---- the nodes of a folded sum, which stands alone or is added to a tree that stands before it

abbrev pub factor_nodes : ℤ → List Node
factor_nodes c = cond (eqℤ c (pos 1)) [] (N.One (Product c) ∷ [])

abbrev pub join_nodes : Bool → List Node
join_nodes true = []
join_nodes false = N.Sum ∷ []

abbrev pub constant_nodes : Bool → ℤ → List Node
constant_nodes true k = N.Leaf (Constant k) ∷ []
constant_nodes false k = cond (eqℤ k (pos 0)) [] (N.Leaf (Constant k) ∷ N.Sum ∷ [])

-- the atom, the coefficient other than 1 as a product, and a sum for each term but the first
unfoldable pub sum_nodes : Bool → Sum → List Node
sum_nodes alone (Sum.const k) = constant_nodes alone k
sum_nodes alone (Sum.term c a t) = postfix (atom_tree a) ++ ((factor_nodes c ++ join_nodes alone) ++ sum_nodes false t)

-- ---- what is written

-- room for the nodes of a map at most, and a place of them or past them
pub record Room (ks : List ℕ) (vs : List ℤ) (at : ℕ) : Type 0 where
  pub kinds : length ks ≤ max_nodes
  pub values : length vs ≤ max_nodes
  pub most : at ≤ counted

-- one kind and one value
pub record Put (kind : ℕ) (value : ℤ) (ks ks' : List ℕ) (vs vs' : List ℤ) (at r : ℕ) : Type 0 where
  pub kinds : ks' ≡ set ks at kind
  pub values : vs' ≡ set vs at value
  pub nodes : r ≡ min (at + 1) counted

-- nodes one after another: what stands before them and past them is kept, and they are counted
pub record Written (ns : List Node) (ks ks' : List ℕ) (vs vs' : List ℤ) (at r : ℕ) : Type 0 where
  pub kinds : ks' ≡ sets ks at (map kind_of ns)
  pub values : vs' ≡ sets vs at (map value_of ns)
  pub nodes : r ≡ min (at + length ns) counted

-- the place of a variable, by the number of its kind
pub record IsPlace (kind n : ℕ) (r : ℤ) : Type 0 where
  pub is : (k : Kind) → kind ≡ kind_number k → r ≡ value_of (variable_of k n)

-- the kind of a floordiv or mod, by the number of its operation
pub record IsOp (op r : ℕ) : Type 0 where
  pub is : (o : Op) (c : ℕ) → op ≡ op_number o → r ≡ kind_of (op_node o c)

-- ---- what is written of words, from place p of w on

-- a place of the words, and room
pub record Ready (w : List ℤ) (p : ℕ) (ks : List ℕ) (vs : List ℤ) (at : ℕ) : Type 0 where
  pub here : p ≤ length w
  pub room : Room ks vs at

-- the lists stay as long as they are, whatever the words
pub record Kept (ks ks' : List ℕ) (vs vs' : List ℤ) (r : ℕ) : Type 0 where
  pub kinds : length ks' ≡ length ks
  pub values : length vs' ≡ length vs
  pub most : r ≤ counted

-- the nodes of the atom whose words stand there
pub record EmitsAtom (w : List ℤ) (p : ℕ) (ks ks' : List ℕ) (vs vs' : List ℤ) (at r : ℕ) : Type 0 where
  pub kept : Kept ks ks' vs vs' r
  pub is : (β : Kind → ℕ → Range) (a : Atom) (x : List ℤ) → drop p w ≡ atom_words β a x → Written (postfix (atom_tree a)) ks ks' vs vs' at r

-- the nodes of the sum whose n terms and constant stand there
pub record EmitsTerms (alone : Bool) (w : List ℤ) (p n : ℕ) (ks ks' : List ℕ) (vs vs' : List ℤ) (at r : ℕ) : Type 0 where
  pub kept : Kept ks ks' vs vs' r
  pub is : (β : Kind → ℕ → Range) (t : Sum) (x : List ℤ) → n ≡ term_count t → drop p w ≡ sum_words β t x → Written (sum_nodes alone t) ks ks' vs vs' at r

-- the nodes of its tree
pub record EmitsSum (w : List ℤ) (p n : ℕ) (ks ks' : List ℕ) (vs vs' : List ℤ) (at r : ℕ) : Type 0 where
  pub kept : Kept ks ks' vs vs' r
  pub is : (β : Kind → ℕ → Range) (t : Sum) (x : List ℤ) → n ≡ term_count t → drop p w ≡ sum_words β t x → Written (postfix (sum_tree t)) ks ks' vs vs' at r
