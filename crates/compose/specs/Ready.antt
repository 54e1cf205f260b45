-- What the parts of composing require and promise. Assumes nothing.
use Rattle.std.specs.Prelude.{◌≡◌, cond, List, [], ◌∷◌, ◌++◌, map, ℕ, ◌+◌, ◌-◌, ◌≤◌, min, ltb, ℤ, pos, length, Result}
use Rattle.refusal.specs.Judge.{rule, judge}
use Rattle.refusal.specs.declared.Refusal.{Refusal}
use Rattle.refusal.specs.declared.Refusal.TheVariants.{WorkingLimit}
use Rattle.expression.specs.Expression.{Expr, node_count}
use Rattle.expression.specs.Node.{max_variables, max_places, max_nodes, Sound}
use Rattle.expression.specs.declared.Node.{Node}
use Rattle.indexing.specs.Map.{max_constraints, good_ranges}
use Rattle.indexing.specs.Ready.{Formed}
use Rattle.indexing.specs.declared.IndexingMap.{IndexingMap}
use Rattle.folding.specs.Map.{Constraint}
use Rattle.encoding.specs.Written.{counted}
use Rattle.encoding.specs.Encode.{filled, nodes_of, record_of, Holds}
use Rattle.indexing.specs.Answers.{answered_map}
use Rattle.encoding.specs.Trees.{constraint_at}
use Rattle.compose.specs.ComposeMap.{inside_at, substituted, composed_results, composed_constraints, composed_trees, composed_lower, composed_upper, composed_map}
use Rattle.compose.specs.declared.Ends.{Ends}
use Rattle.compose.specs.declared.BuiltMap.{BuiltMap}

-- numbers 2, 6 and 7 do not apply to the maps given
pub record Composable (f g : IndexingMap) : Type 0 where
  pub before : Formed f
  pub after : Formed g
  pub fits : f.results ≡ g.dims

-- and the range variables of both are no more than a map has
pub record Joinable (f g : IndexingMap) : Type 0 where
  pub both : Composable f g
  pub few : f.ranges + g.ranges ≤ max_variables

-- how many constraints the composed map has, and constraint k
abbrev pub constraint_count : IndexingMap → IndexingMap → ℕ
constraint_count f g = f.constraints + (f.results + g.constraints)

abbrev pub constraint_of : IndexingMap → IndexingMap → ℕ → Constraint
constraint_of f g k =
    cond (ltb k f.constraints)
    (constraint_at f k)
    (cond (ltb (k - f.constraints) f.results)
    (inside_at f g (k - f.constraints))
    (substituted f (constraint_at g (k - f.constraints - f.results))))

-- a run of a map with so many variables that f's results are put into
pub record SpliceRun (f : IndexingMap) (dims ranges : ℕ) : Type 0 where
  pub formed : Formed f
  pub fits : f.results ≡ dims
  pub few : f.ranges + ranges ≤ max_variables

-- a node of it
pub record Spliced (f : IndexingMap) (ranges : ℕ) (node : Node) : Type 0 where
  pub formed : Formed f
  pub few : f.ranges + ranges ≤ max_variables
  pub sound : Sound f.results ranges node

-- the ends of constraint k
pub record EndsOf (c : Constraint) (r : Ends) : Type 0 where
  pub low : r.lower ≡ c.interval.lo
  pub high : r.upper ≡ c.interval.hi

-- ---- trees one after another, from a place past those of es: the numbers of their nodes and the nodes

pub record Gathers (es fs : List Expr) (size : ℕ) (counts ks : List ℕ) (vs : List ℤ) (at : ℕ) : Type 0 where
  pub holds : Holds (es ++ fs) ks vs at
  pub counted : length (nodes_of (es ++ fs)) ≤ max_nodes → counts ≡ filled size 0 (map node_count fs)

pub record GathersConstraints (f g : IndexingMap) (counts : List ℕ) (lower upper : List ℤ) (ks : List ℕ) (vs : List ℤ) (at : ℕ) : Type 0 where
  pub trees : Gathers (composed_results f g) (map (λ (c : Constraint). c.expr) (composed_constraints f g)) max_constraints counts ks vs at
  pub lows : lower ≡ filled max_constraints (pos 0) (map (λ (c : Constraint). c.interval.lo) (composed_constraints f g))
  pub highs : upper ≡ filled max_constraints (pos 0) (map (λ (c : Constraint). c.interval.hi) (composed_constraints f g))

-- ---- the bounds

-- two lists of ends by places, and so many range variables of the first
pub record EndsReady (fs gs : List ℤ) (first : ℕ) : Type 0 where
  pub long-first : length fs ≡ max_places
  pub long-others : length gs ≡ max_places
  pub few : first ≤ max_variables

-- ---- the composed map, where its nodes are not too many, and how many there are

pub record Builds (f g : IndexingMap) (r : BuiltMap) : Type 0 where
  pub nodes : r.nodes ≡ min (length (nodes_of (composed_trees f g))) counted
  pub built : length (nodes_of (composed_trees f g)) ≤ max_nodes → r.map ≡ composed_map f g

-- the record of the variables of both maps and of results and constraints that stand in arrays
abbrev pub joined_record : IndexingMap → IndexingMap → List ℕ → List ℕ → List ℤ → List ℤ → List ℕ → List ℤ → IndexingMap
joined_record f g counts nodes lower upper kinds values =
    record_of f.dims (f.ranges + g.ranges) (composed_lower f g) (composed_upper f g) g.results counts (constraint_count f g) nodes lower upper kinds values

-- the map, where 8 does not apply
abbrev pub ranges_judged : IndexingMap → IndexingMap → IndexingMap → Result IndexingMap Refusal
ranges_judged f g m =
    answered_map (judge (rule (good_ranges f) WorkingLimit ∷ rule (good_ranges g) WorkingLimit ∷ rule (good_ranges m) WorkingLimit ∷ [])) m
