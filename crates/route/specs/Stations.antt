-- Stations: their layouts, their rules, and what a list of them gives the planner. Assumes nothing.
use Rattle.std.specs.Prelude.{ℕ, zero, suc, ◌<◌, ◌≡◌, Bool, true, ◌&&◌, List, [], leb, ltb, length, get_or}
use Rattle.radix.specs.Radix.{max_count, every}
use Rattle.shape.specs.declared.Shape.{Shape}
use Rattle.layout.specs.Layout.{good_layout, padded_of}
use Rattle.layout.specs.declared.Layout.{Layout}
use Rattle.tree_plan.specs.Tree.{Tree}
use Rattle.route.specs.Same.{move_of}
use Rattle.route.specs.declared.Station.{Station}

-- the most layouts of a station
abbrev pub max_layouts : ℕ
max_layouts = 8

-- what a list gives past its end
abbrev pub blank_layout : Layout
blank_layout = record { rank = 0; minor_to_major = []; tiles = 0; tile_len = []; tile = [] }

unfoldable pub blank : Station
blank = record { parent = 0; count = 0; layouts = [] }

-- station i, and its layout at place a
abbrev pub station_at : List Station → ℕ → Station
station_at ys i = get_or ys i blank

abbrev pub layout_at : Station → ℕ → Layout
layout_at x a = get_or x.layouts a blank_layout

-- 1 to 8 layouts
abbrev pub good_count : Station → Bool
good_count x = leb 1 x.count && leb x.count max_layouts

-- each station but the first names an earlier station as its parent; the first has none, and what stands in its place
-- is not read
abbrev pub good_parent : ℕ → Station → Bool
good_parent zero x = true
good_parent (suc i) x = ltb x.parent (suc i)

-- every layout keeps its rule
abbrev pub good_layouts : ℕ → Station → Bool
good_layouts rank x = every (λ (a : ℕ). good_layout rank (layout_at x a)) x.count

-- every padded size is at most 2^40
abbrev pub good_sizes : Shape → Station → Bool
good_sizes s x = every (λ (a : ℕ). leb (padded_of s (layout_at x a)) max_count) x.count

-- the same for the first n stations
unfoldable pub counts_kept : List Station → ℕ → Bool
counts_kept ys n = every (λ (i : ℕ). good_count (station_at ys i)) n

unfoldable pub parents_kept : List Station → ℕ → Bool
parents_kept ys n = every (λ (i : ℕ). good_parent i (station_at ys i)) n

unfoldable pub layouts_kept : Shape → List Station → ℕ → Bool
layouts_kept s ys n = every (λ (i : ℕ). good_layouts s.rank (station_at ys i)) n

unfoldable pub sizes_kept : Shape → List Station → ℕ → Bool
sizes_kept s ys n = every (λ (i : ℕ). good_sizes s (station_at ys i)) n

-- a plan: one list place per station, from 0 and below that station's count of layouts
pub record IsPlan (ys : List Station) (number : ℕ) (p : List ℕ) : Type 0 where
  pub long : length p ≡ number
  pub below : (i : ℕ) → i < number → get_or p i 0 < (station_at ys i).count

-- the tree of the stations as the planner sees it: padded sizes, and where a station and its parent move
abbrev pub tree_of : Shape → List Station → ℕ → ℕ → Tree
tree_of s ys number cells =
    record {
      stations = number;
      parent = λ i. (station_at ys i).parent;
      count = λ i. (station_at ys i).count;
      size = λ i a. padded_of s (layout_at (station_at ys i) a);
      moved = λ i a b. move_of (layout_at (station_at ys (station_at ys i).parent) a) (layout_at (station_at ys i) b);
      cells = cells;
    }
