-- A map made step by step, the coordinates over another shape. Assumes nothing.
use Rattle.std.specs.Prelude.{◌≡◌, Bool, cond, List, [], ◌∷◌, ℕ, ◌+◌, ◌*◌, ◌<◌, ◌≤◌, eqb, length}
use Rattle.radix.specs.Radix.{max_size, max_count, prod, Bounded}
use Rattle.expression.specs.Node.{max_variables, max_nodes}
use Rattle.indexing.specs.Map.{max_results}
use Rattle.map_builder.specs.declared.Draft.{Draft}
use Rattle.map_builder.specs.Draft.{push_floordiv, push_mod, push_linear, end_result}

-- one coordinate over the other shape: (linear floordiv the product after it) mod its size, with no mod for the first
abbrev pub add_digit : List ℕ → Bool → ℕ → ℕ → Draft → Draft
add_digit src first after n x =
    end_result (cond first (push_floordiv (push_linear src x) after) (push_mod (push_floordiv (push_linear src x) after) n))

unfoldable pub add_digits : List ℕ → ℕ → List ℕ → Draft → Draft
add_digits src k [] x = x
add_digits src k (n ∷ ns) x = add_digits src (k + 1) ns (add_digit src (eqb k 0) (prod ns) n x)

pub record DigitRoom (x : Draft) (src : List ℕ) (after n : ℕ) : Type 0 where
  pub nodes : x.at + (3 * max_variables + 2) ≤ max_nodes
  pub under : x.under ≤ x.at
  pub results : x.map.results < max_results
  pub few : length src ≤ max_variables
  pub sized : Bounded max_size src
  pub counted : prod src ≤ max_count
  pub after_small : after ≤ max_count
  pub size_small : n ≤ max_size

-- two shapes of one element count
pub record Reshapable (src dst : List ℕ) : Type 0 where
  pub few-src : length src ≤ max_variables
  pub few-dst : length dst ≤ max_results
  pub sized-src : Bounded max_size src
  pub sized-dst : Bounded max_size dst
  pub counted-src : prod src ≤ max_count
  pub counted-dst : prod dst ≤ max_count

pub record DigitsRoom (x : Draft) (src dst : List ℕ) : Type 0 where
  pub no-nodes : x.at ≡ 0
  pub no-under : x.under ≡ 0
  pub no-results : x.map.results ≡ 0
  pub shapes : Reshapable src dst
