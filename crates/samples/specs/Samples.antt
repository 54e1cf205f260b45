-- The samples of documents 01 and 02 as one list: what is asked, and what the document says. Assumes nothing.
use Rattle.std.specs.Prelude.{List, [], ◌∷◌, ◌++◌, ℕ, ◌^◌, ℤ, pos, negsuc, length, replicate}
use Rattle.integer.specs.Floor.{floor_div, floor_mod}
use Rattle.refusal.specs.Number.{Answer, done, refusal}
use Rattle.refusal.specs.declared.Refusal.TheVariants.{ShapeLimits, Attribute, LayoutRule, RepeatedLayout, Outside, NoPlan}
use Rattle.shape.specs.Answers.{element_count}
use Rattle.shape.specs.declared.Shape.{Shape}
use Rattle.reciprocal.specs.Answers.{multiplier_entry}
use Rattle.layout.specs.Answers.{padded_size, point_offset, element_held}
use Rattle.layout.specs.declared.Layout.{Layout}
use Rattle.plan.specs.Answer.{spread}
use Rattle.route.specs.Route.{route_zeros, route_of}
use Rattle.route.specs.declared.Station.{Station}
use Rattle.indexing.specs.declared.IndexingMap.{IndexingMap}
use Rattle.operation_maps.specs.Operation.{Operation, output_to_input_answer, input_to_output_answer}
use Rattle.samples.specs.Maps.{join_map, slice_map, split_map}

-- an answer on paper, of numbers or of a map, or a whole number
pub data Value : Type 0 where
  answer : Answer ℕ → Value
  mapped : Answer IndexingMap → Value
  integer : ℤ → Value

-- what is asked, and what the document says
pub record Sample : Type 0 where
  pub asked : Value
  pub expected : Value

abbrev says : Answer ℕ → Answer ℕ → Sample
says a b = record { asked = answer a; expected = answer b }

abbrev hands_out : Answer IndexingMap → IndexingMap → Sample
hands_out a wanted = record { asked = mapped a; expected = mapped (done (wanted ∷ [])) }

abbrev comes-to : ℤ → ℤ → Sample
comes-to a b = record { asked = integer a; expected = integer b }

abbrev matrix : ℕ → ℕ → Shape
matrix a b = record { rank = 2; sizes = a ∷ b ∷ 0 ∷ 0 ∷ 0 ∷ 0 ∷ [] }

abbrev vector : ℕ → Shape
vector a = record { rank = 1; sizes = a ∷ 0 ∷ 0 ∷ 0 ∷ 0 ∷ 0 ∷ [] }

abbrev cube : ℕ → ℕ → ℕ → Shape
cube a b c = record { rank = 3; sizes = a ∷ b ∷ c ∷ 0 ∷ 0 ∷ 0 ∷ [] }

abbrev untiled : ℕ → ℕ → Layout
untiled a b = record { rank = 2; minor_to_major = a ∷ b ∷ 0 ∷ 0 ∷ 0 ∷ 0 ∷ []; tiles = 0; tile_len = replicate 3 0; tile = replicate 18 0 }

-- {1,0:T(a,b)}
abbrev tiled : ℕ → ℕ → Layout
tiled a b =
    record { rank = 2; minor_to_major = 1 ∷ 0 ∷ 0 ∷ 0 ∷ 0 ∷ 0 ∷ []; tiles = 1; tile_len = 2 ∷ 0 ∷ 0 ∷ []; tile = a ∷ b ∷ replicate 16 0 }

-- {1,0:T(2,4)(2,1)}
abbrev tiled-twice : Layout
tiled-twice =
    record {
      rank = 2;
      minor_to_major = 1 ∷ 0 ∷ 0 ∷ 0 ∷ 0 ∷ 0 ∷ [];
      tiles = 2;
      tile_len = 2 ∷ 2 ∷ 0 ∷ [];
      tile = 2 ∷ 4 ∷ 0 ∷ 0 ∷ 0 ∷ 0 ∷ 2 ∷ 1 ∷ replicate 10 0;
    }

abbrev station : ℕ → List Layout → Station
station parent ls = record { parent = parent; count = length ls; layouts = ls }

-- the stations in their order, with the cell limit 2^40
abbrev through : Shape → List Station → ℕ → Answer ℕ
through s ys moves = route_of s ys (length ys) (2 ^ 40) moves

-- the layouts of the routes: untiled, and one tile (8,128)
abbrev A : Layout
A = untiled 1 0

abbrev T : Layout
T = tiled 8 128

-- a plan's places, and its total
abbrev gives : List ℕ → ℕ → Answer ℕ
gives plan total = done (spread (length plan) plan ++ (total ∷ []))

abbrev at : ℕ → Answer ℕ
at n = done (n ∷ [])

unfoldable pub samples : List Sample
samples =
    -- F32[3,5]{1,0:T(2,2)}: (2,3) is at 17, padded size 24; (1,4) is at 10; offset 9 is padding; offset 24 is refused, 5
    says (point_offset (matrix 3 5) (tiled 2 2) (2 ∷ 3 ∷ [])) (at 17)
    ∷ says (padded_size (matrix 3 5) (tiled 2 2)) (at 24)
    ∷ says (point_offset (matrix 3 5) (tiled 2 2) (1 ∷ 4 ∷ [])) (at 10)
    ∷ says (element_held (matrix 3 5) (tiled 2 2) 9) (done (0 ∷ 0 ∷ []))
    ∷ says (element_held (matrix 3 5) (tiled 2 2) 24) (refusal (0 ∷ 0 ∷ []) Outside)
    -- [3,5]{0,1} untiled: (2,3) at 11
    ∷ says (point_offset (matrix 3 5) (untiled 0 1) (2 ∷ 3 ∷ [])) (at 11)
    -- [4,8] with (2,4)(2,1): (1,0) at 1, (0,1) at 2, (3,7) at 31
    ∷ says (point_offset (matrix 4 8) tiled-twice (1 ∷ 0 ∷ [])) (at 1)
    ∷ says (point_offset (matrix 4 8) tiled-twice (0 ∷ 1 ∷ [])) (at 2)
    ∷ says (point_offset (matrix 4 8) tiled-twice (3 ∷ 7 ∷ [])) (at 31)
    -- [32] to [4,8], output to input: (d0 * 8 + d1)
    ∷ hands_out (output_to_input_answer (Operation.reshape (vector 32) (matrix 4 8))) join_map
    -- slice [3:20:7] (and [5:10:1], [0:50:2] beside it), input to output: (d1 + 4) floordiv 7 - 1 with (d1 + 4) mod 7 in [0, 0]
    ∷ hands_out (input_to_output_answer (Operation.slice (cube 10 20 50) (5 ∷ 3 ∷ 0 ∷ []) (10 ∷ 20 ∷ 50 ∷ []) (1 ∷ 7 ∷ 2 ∷ []))) slice_map
    -- [4,8] to [2,4,4], output to input: (d0 * 2 + d1 floordiv 2, d2 + (d1 mod 2) * 4)
    ∷ hands_out (output_to_input_answer (Operation.reshape (matrix 4 8) (cube 2 4 4))) split_map
    -- [3,5] at stations [A,T], [T,A], [T]: K = 1 gives places 0,1,0, total 2,093 (Q-4); K = 0 gives 1,0,0, total 3,072
    ∷ says (through (matrix 3 5) (station 0 (A ∷ T ∷ []) ∷ station 0 (T ∷ A ∷ []) ∷ station 1 (T ∷ []) ∷ []) 1) (gives (0 ∷ 1 ∷ 0 ∷ []) 2093)
    ∷ says (through (matrix 3 5) (station 0 (A ∷ T ∷ []) ∷ station 0 (T ∷ A ∷ []) ∷ station 1 (T ∷ []) ∷ []) 0) (gives (1 ∷ 0 ∷ 0 ∷ []) 3072)
    -- stations [T], [A] with K = 0: 10; [4,4], one station [{1,0}, {0,1}]: place 0, total 16
    ∷ says (through (matrix 3 5) (station 0 (T ∷ []) ∷ station 0 (A ∷ []) ∷ []) 0) (refusal route_zeros NoPlan)
    ∷ says (through (matrix 4 4) (station 0 (untiled 1 0 ∷ untiled 0 1 ∷ []) ∷ []) 0) (gives (0 ∷ []) 16)
    -- the same layout twice (Q-9): stations [A], [A, {0,1}, A]: 3, station 1, places 0 and 2
    ∷ says (through (matrix 3 5) (station 0 (A ∷ []) ∷ station 0 (A ∷ untiled 0 1 ∷ A ∷ []) ∷ []) 1) (refusal route_zeros (RepeatedLayout 1 0 2))
    -- forked routes (Q-11): A with two children T, K = 2: total 4,141, as a chain 3,102; the fork with K = 1: 10
    ∷ says (through (matrix 3 5) (station 7 (A ∷ []) ∷ station 0 (T ∷ []) ∷ station 0 (T ∷ []) ∷ []) 2) (gives (0 ∷ 0 ∷ 0 ∷ []) 4141)
    ∷ says (through (matrix 3 5) (station 0 (A ∷ []) ∷ station 0 (T ∷ []) ∷ station 1 (T ∷ []) ∷ []) 2) (gives (0 ∷ 0 ∷ 0 ∷ []) 3102)
    ∷ says (through (matrix 3 5) (station 0 (A ∷ []) ∷ station 0 (T ∷ []) ∷ station 0 (T ∷ []) ∷ []) 1) (refusal route_zeros NoPlan)
    -- one branch may move and both save alike: the places decide in station order
    ∷ says
    (through (matrix 3 5)
    (station 0 (T ∷ [])
    ∷ station 0 (T ∷ [])
    ∷ station 0 (A ∷ T ∷ [])
    ∷ station 1 (A ∷ T ∷ [])
    ∷ station 2 (A ∷ T ∷ [])
    ∷ station 4 (A ∷ T ∷ [])
    ∷ station 3 (A ∷ T ∷ [])
    ∷ station 6 (A ∷ T ∷ [])
    ∷ [])
    1)
    (gives (0 ∷ 0 ∷ 0 ∷ 1 ∷ 0 ∷ 0 ∷ 1 ∷ 1 ∷ []) 6204)
    -- a parent that is not earlier: 2
    ∷ says (through (matrix 3 5) (station 0 (A ∷ []) ∷ station 1 (A ∷ []) ∷ []) 0) (refusal route_zeros Attribute)
    -- tile entry 1,024 passes, 1,025 is 3; size 2^20 passes; 0 and 2^20 + 1 are 1
    ∷ says (padded_size (matrix 3 5) (tiled 1024 1)) (at 5120)
    ∷ says (padded_size (matrix 3 5) (tiled 1025 1)) (refusal (0 ∷ []) LayoutRule)
    ∷ says (element_count (vector 1048576)) (at 1048576)
    ∷ says (element_count (vector 0)) (refusal (0 ∷ []) ShapeLimits)
    ∷ says (element_count (vector 1048577)) (refusal (0 ∷ []) ShapeLimits)
    -- -1 floordiv 7 is -1 and -1 mod 7 is 6
    ∷ comes-to (floor_div (negsuc 0) 7) (negsuc 0)
    ∷ comes-to (floor_mod (negsuc 0) 7) (pos 6)
    -- multipliers (Q-8): d = 1 is 17,179,869,185; 3 is 5,726,623,062; 128 is 134,217,729
    ∷ says (multiplier_entry 1) (at 17179869185)
    ∷ says (multiplier_entry 3) (at 5726623062)
    ∷ says (multiplier_entry 128) (at 134217729)
    ∷ []
